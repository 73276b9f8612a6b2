-- What the parents want is set, path by path.
use Rattle.std.proofs.Common.{ℕ, not, ◌&&◌, ◌+◌, ◌≡◌, ◌<◌, ◌≤◌, Bool, true, false, cond, ◌&&◌, ◌||◌, ◌⊎◌, inl, inr, List, [], ◌∷◌, ◌++◌, length, take, get_or, option_map, Option, Some, None, refl, sym, ap, ◌∙◌, subst, true≢false}
use Rattle.std.specs.Prelude.{is_some, slice_get}
use Rattle.std.specs.List.{list_any}
use Rattle.std.specs.Str.{bytes_eq}
use Rattle.std.proofs.lemmas.Bool.{cases_Bool, or_left, or_right}
use Rattle.std.proofs.lemmas.List.{take_all, take_more}
use Rattle.std.proofs.lemmas.List.Folds.{list_any-append}
use Rattle.std.proofs.lemmas.Option.{get_or_from_slice_get, slice_get-get_or, slice_get-map, slice_get_within}
use Rattle.std.specs.Map.{keys_of}
use Rattle.hg_base.proofs.Within.{equal_bytes, same_bytes}
use Rattle.hg_base.specs.Within.{is_above, is_within}
use Rattle.hg_entry.specs.Entry.{EntryData}
use Rattle.hg_manifest.specs.Rows.{Rows}
use Rattle.hg_nodes.specs.Clash.{is_tracked_entry}
use Rattle.hg_mixed.specs.Edits.{ArePlacedAsBefore, IsOfSameImage, Lends}
use Rattle.hg_nodes.specs.Edits.{IsSame, Marks, after_set}
use Rattle.hg_mixed.specs.Held.{Held, is_lent, source_at, table}
use Rattle.hg_ops.proofs.Added.{same_table}
use Rattle.hg_ops.proofs.Collecting.{or_cases}
use Rattle.hg_ops.specs.Parents.{entry_by, entry_of_parents, fallback_in, is_other_file, row_at}
use Rattle.hg_ops.specs.Setting.{AreSetting, ClearsSource, IsSettled, LosesSource, SetsOther, SetsTo, Settles, Wanted, is_among, is_among_first}

some_is : {X : Type 0} (o : Option X) (x : X) → o ≡ Some x → is_some o ≡ true
some_is o x h = ap is_some h

pub there : {X : Type 0} (path : List ℕ) (value other : X) → cond (bytes_eq path path) value other ≡ value
there path value other = subst (λ (b : Bool). cond b value other ≡ value) (sym (equal_bytes path)) refl

elsewhere : {X : Type 0} (path at : List ℕ) (value other : X) → bytes_eq path at ≡ false → cond (bytes_eq path at) value other ≡ other
elsewhere path at value other h = subst (λ (b : Bool). cond b value other ≡ other) (sym h) refl

pub lent_on : (lent above : Bool) → above ≡ false → (lent && not above) ≡ lent
lent_on true above h = ap not h
lent_on false above h = refl

pub lent_off : (lent above : Bool) → above ≡ true → (lent && not above) ≡ false
lent_off true above h = ap not h
lent_off false above h = refl

no_some : {X : Type 0} (x : X) → None ≡ Some x → ⊥
no_some x h = absurd (cc h)

-- the entry of these parts, where it says anything
abbrev by_parts : Bool → Bool → Bool → ℕ → Option EntryData
by_parts w a b n =
    cond (w || a || b) (Some (record { w = w; p1 = a; p2 = b; exec = false; link = false; size = None; stamp = None; modified = false; fallback = n })) None

-- another entry was set
pub other_set : (path : List ℕ) (entry : EntryData) (old new : Held) → ((table old).entries path ≡ Some entry → ⊥) → IsSame (table new) (after_set path entry (table old))
    → Marks (IsSame (table new) (table old)) old.changed new.changed → Lends path (IsSame (table new) (table old)) old new → ArePlacedAsBefore old new → SetsOther path entry old new
other_set path entry old new differs made marks lends places =
    let other : IsSame (table new) (table old) → ⊥ = λ same. differs (sym (same.entries path) ∙ made.entries path ∙ there path (Some entry) ((table old).entries path)) in
    record { differs = differs; made = made; changed = marks.marked other; lent = lends.ended other; places = places }

pub same_image : (a b c : Held) → IsOfSameImage a b → IsOfSameImage b c → IsOfSameImage a c
same_image a b c p q = record { docket = q.docket ∙ p.docket; bytes = q.bytes ∙ p.bytes }

pub unchanged_image : (a : Held) → IsOfSameImage a a
unchanged_image a = record { docket = refl; bytes = refl }

-- nothing is set yet
pub setting_first : (want : Wanted) (old : Held) → AreSetting want old old (λ at. false)
setting_first want old = record {
  p1 = refl;
  p2 = refl;
  hash = refl;
  entries = λ at. inl (refl, refl);
  sources = λ at. inl refl;
  settled = λ at h. absurd (true≢false (sym h));
  kept = λ at h. h;
  made = λ at h. inl h;
  marks = inl (same_table (table old), refl);
  lends = record {
    kept = λ dir as_is. refl;
    ended = λ dir at above other. absurd (other refl refl);
    texts = λ at. refl;
    source_kept = λ at none. refl;
    source_lost = λ at other. absurd (other refl);
  };
}

-- fewer paths are said to be done
pub setting_fewer : (want : Wanted) (old now : Held) (done fewer : List ℕ → Bool) → ((at : List ℕ) → fewer at ≡ true → done at ≡ true) → AreSetting want old now done
    → AreSetting want old now fewer
setting_fewer want old now done fewer goes are = record {
  p1 = are.p1;
  p2 = are.p2;
  hash = are.hash;
  entries = are.entries;
  sources = are.sources;
  settled = λ at h. are.settled at (goes at h);
  kept = are.kept;
  made = are.made;
  marks = are.marks;
  lends = are.lends;
}

module _ (want : Wanted) (old : Held) where
  abbrev Goal : List ℕ → Option EntryData
  Goal at = want at ((table old).entries at)

  -- a path's entry is set where another is wanted
  set_more : (path : List ℕ) (entry : EntryData) (now new : Held) (done : List ℕ → Bool) → AreSetting want old now done → Goal path ≡ Some entry → SetsOther path entry now new
      → AreSetting want old new done
  set_more path entry now new done are goal other = record {
    p1 = other.made.p1 ∙ are.p1;
    p2 = other.made.p2 ∙ are.p2;
    hash = other.made.hash ∙ are.hash;
    entries = λ at. elim (cases_Bool (bytes_eq path at)) [
      | inl here ↦
          let same : path ≡ at = same_bytes path at here in
          let is : (table new).entries at ≡ Goal at = subst (λ (p : List ℕ). (table new).entries p ≡ Goal p) same (now_entry ∙ sym goal) in
          inr (is, ap (λ (p : List ℕ). is_some (Goal p)) (sym same) ∙ some_is (Goal path) entry goal)
      | inr apart ↦ elim (are.entries at) [
        | inl left ↦ inl (entry_at at apart ∙ left.0, cache_at at apart ∙ left.1)
        | inr set ↦ inr (entry_at at apart ∙ set.0, set.1)
      ]
    ];
    sources = λ at. elim (are.sources at) [ inl left ↦ inl (other.made.sources at ∙ left) | inr none ↦ inr (other.made.sources at ∙ none.0, none.1) ];
    settled = λ at is some. let s = are.settled at is some in (
      elim (cases_Bool (bytes_eq path at)) [
        | inl here ↦ subst (λ (p : List ℕ). (table new).entries p ≡ Goal p) (same_bytes path at here) (now_entry ∙ sym goal)
        | inr apart ↦ entry_at at apart ∙ s.0
      ],
      other.made.sources at ∙ s.1,
    );
    kept = λ at is. other.made.nodes at ∙ or_left ((table now).nodes at) (is_within at path) (are.kept at is);
    made = λ at is. elim (or_cases ((table now).nodes at) (is_within at path) (sym (other.made.nodes at) ∙ is)) [
      | inl was ↦ elim (are.made at was) [
        | inl first ↦ inl first
        | inr more ↦ inr (more.0, entry_stays more.0 more.1, more.2)
      ]
      | inr within ↦ inr (path, some_is ((table new).entries path) entry now_entry, within)
    ];
    marks = inr (other.changed, λ as_is. touched (as_is path).0);
    lends = record {
      kept = λ dir as_is. elim (cases_Bool (is_above dir path)) [
        | inl above ↦ absurd (touched (as_is path above).0)
        | inr apart ↦ other.lent dir ∙ lent_on (is_lent now dir) (is_above dir path) apart ∙ are.lends.kept dir as_is
      ];
      ended = λ dir at above differs. elim (cases_Bool (bytes_eq path at)) [
        | inl here ↦ other.lent dir ∙ lent_off (is_lent now dir) (is_above dir path) (ap (is_above dir) (same_bytes path at here) ∙ above)
        | inr apart ↦
            other.lent dir
            ∙ ap (λ (b : Bool). b && not (is_above dir path)) (are.lends.ended dir at above (λ e f. differs (entry_at at apart ∙ e) (other.made.sources at ∙ f)))
      ];
      texts = λ at. other.places.texts at ∙ are.lends.texts at;
      source_kept = λ at none. other.places.sources at ∙ are.lends.source_kept at none;
      source_lost = λ at differs. other.places.sources at ∙ are.lends.source_lost at (λ e. differs (other.made.sources at ∙ e));
    };
  }
    where
      touched : Goal path ≡ (table old).entries path → ⊥
      touched as_is = elim (are.entries path) [
        | inl left ↦ other.differs (left.0 ∙ sym as_is ∙ goal)
        | inr set ↦ other.differs (set.0 ∙ goal)
      ]

      now_entry : (table new).entries path ≡ Some entry
      now_entry = other.made.entries path ∙ there path (Some entry) ((table now).entries path)

      entry_at : (at : List ℕ) → bytes_eq path at ≡ false → (table new).entries at ≡ (table now).entries at
      entry_at at apart = other.made.entries at ∙ elsewhere path at (Some entry) ((table now).entries at) apart

      cache_at : (at : List ℕ) → bytes_eq path at ≡ false → (table new).caches at ≡ (table now).caches at
      cache_at at apart = other.made.caches at ∙ elsewhere path at None ((table now).caches at) apart

      entry_stays : (at : List ℕ) → is_some ((table now).entries at) ≡ true → is_some ((table new).entries at) ≡ true
      entry_stays at is = elim (cases_Bool (bytes_eq path at)) [
        | inl here ↦ ap (λ (p : List ℕ). is_some ((table new).entries p)) (sym (same_bytes path at here)) ∙ some_is ((table new).entries path) entry now_entry
        | inr apart ↦ ap is_some (entry_at at apart) ∙ is
      ]

  -- a path that has the entry that is wanted loses its copy source
  lose_more : (path : List ℕ) (entry : EntryData) (now new : Held) (done : List ℕ → Bool) → AreSetting want old now done → Goal path ≡ Some entry
      → LosesSource path now new → AreSetting want old new done
  lose_more path entry now new done are goal loses = record {
    p1 = loses.made.p1 ∙ are.p1;
    p2 = loses.made.p2 ∙ are.p2;
    hash = loses.made.hash ∙ are.hash;
    entries = λ at. elim (are.entries at) [
      | inl left ↦ inl (loses.made.entries at ∙ left.0, loses.made.caches at ∙ left.1)
      | inr set ↦ inr (loses.made.entries at ∙ set.0, set.1)
    ];
    sources = λ at. elim (cases_Bool (bytes_eq path at)) [
      | inl here ↦
          let same : path ≡ at = same_bytes path at here in
          inr (ap (table new).sources (sym same) ∙ gone, ap (λ (p : List ℕ). is_some (Goal p)) (sym same) ∙ some_is (Goal path) entry goal)
      | inr apart ↦ elim (are.sources at) [ inl left ↦ inl (other_source at apart ∙ left) | inr none ↦ inr (other_source at apart ∙ none.0, none.1) ]
    ];
    settled = λ at is some. let s = are.settled at is some in (
      loses.made.entries at ∙ s.0,
      elim (cases_Bool (bytes_eq path at)) [
        | inl here ↦ ap (table new).sources (sym (same_bytes path at here)) ∙ gone
        | inr apart ↦ other_source at apart ∙ s.1
      ],
    );
    kept = λ at is. loses.made.nodes at ∙ are.kept at is;
    made = λ at is. elim (are.made at (sym (loses.made.nodes at) ∙ is)) [
      | inl first ↦ inl first
      | inr more ↦ inr (more.0, ap is_some (loses.made.entries more.0) ∙ more.1, more.2)
    ];
    marks = inr (loses.changed, λ as_is. touched (as_is path).1);
    lends = record {
      kept = λ dir as_is. elim (cases_Bool (is_above dir path)) [
        | inl above ↦ absurd (touched (as_is path above).1)
        | inr apart ↦ loses.lent dir ∙ lent_on (is_lent now dir) (is_above dir path) apart ∙ are.lends.kept dir as_is
      ];
      ended = λ dir at above differs. elim (cases_Bool (bytes_eq path at)) [
        | inl here ↦ loses.lent dir ∙ lent_off (is_lent now dir) (is_above dir path) (ap (is_above dir) (same_bytes path at here) ∙ above)
        | inr apart ↦
            loses.lent dir
            ∙ ap (λ (b : Bool). b && not (is_above dir path)) (are.lends.ended dir at above (λ e f. differs (loses.made.entries at ∙ e) (other_source at apart ∙ f)))
      ];
      texts = λ at. loses.texts at ∙ are.lends.texts at;
      source_kept = λ at none. loses.places at ∙ place_kept at none (cases_Bool (bytes_eq path at));
      source_lost = λ at differs. loses.places at ∙ place_lost at differs (cases_Bool (bytes_eq path at));
    };
  }
    where
      gone : (table new).sources path ≡ None
      gone = loses.made.sources path ∙ there path None ((table now).sources path)

      touched : (table old).sources path ≡ None → ⊥
      touched as_is = elim (are.sources path) [ inl left ↦ loses.differs (left ∙ as_is) | inr none ↦ loses.differs none.0 ]

      place_kept : (at : List ℕ) → (table old).sources at ≡ None → (bytes_eq path at ≡ true) ⊎ (bytes_eq path at ≡ false)
          → cond (bytes_eq path at) None (source_at now at) ≡ source_at old at
      place_kept at none (inl here) = absurd (touched (ap (table old).sources (same_bytes path at here) ∙ none))
      place_kept at none (inr apart) = elsewhere path at None (source_at now at) apart ∙ are.lends.source_kept at none

      place_lost : (at : List ℕ) → ((table new).sources at ≡ (table old).sources at → ⊥) → (bytes_eq path at ≡ true) ⊎ (bytes_eq path at ≡ false)
          → cond (bytes_eq path at) None (source_at now at) ≡ None
      place_lost at differs (inl here) = ap (λ (b : Bool). cond b None (source_at now at)) here
      place_lost at differs (inr apart) =
          elsewhere path at None (source_at now at) apart ∙ are.lends.source_lost at (λ e. differs (loses.made.sources at ∙ elsewhere path at None ((table now).sources at) apart ∙ e))

      other_source : (at : List ℕ) → bytes_eq path at ≡ false → (table new).sources at ≡ (table now).sources at
      other_source at apart = loses.made.sources at ∙ elsewhere path at None ((table now).sources at) apart

  -- one path more is done
  with_done : (path : List ℕ) (now : Held) (done : List ℕ → Bool) → IsSettled want (table old) (table now) path → AreSetting want old now done
      → AreSetting want old now (λ at. done at || bytes_eq at path)
  with_done path now done own are = record {
    p1 = are.p1;
    p2 = are.p2;
    hash = are.hash;
    entries = are.entries;
    sources = are.sources;
    settled = λ at is. elim (or_cases (done at) (bytes_eq at path) is) [
      | inl before ↦ are.settled at before
      | inr here ↦ subst (IsSettled want (table old) (table now)) (sym (same_bytes at path here)) own
    ];
    kept = are.kept;
    made = are.made;
    marks = are.marks;
    lends = are.lends;
  }

  both_set : (path : List ℕ) (entry : EntryData) (now mid new : Held) (done : List ℕ → Bool) → AreSetting want old now done → Goal path ≡ Some entry
      → SetsTo path entry now mid → ClearsSource path mid new → AreSetting want old new (λ at. done at || bytes_eq at path)
  both_set path entry now mid new done are goal sets clears =
      with_done path new done own last
    where
      first : AreSetting want old mid done
      first = elim sets [
        | inl still ↦ subst (λ (h : Held). AreSetting want old h done) (sym still.0) are
        | inr other ↦ set_more path entry now mid done are goal other
      ]

      has : (table mid).entries path ≡ Some entry
      has = elim sets [
        | inl still ↦ ap (λ (h : Held). (table h).entries path) still.0 ∙ still.1
        | inr other ↦ other.made.entries path ∙ there path (Some entry) ((table now).entries path)
      ]

      last : AreSetting want old new done
      last = elim clears [
        | inl still ↦ subst (λ (h : Held). AreSetting want old h done) (sym still.0) first
        | inr loses ↦ lose_more path entry mid new done first goal loses
      ]

      own : IsSettled want (table old) (table new) path
      own some = elim clears [
        | inl still ↦ (ap (λ (h : Held). (table h).entries path) still.0 ∙ has ∙ sym goal, ap (λ (h : Held). (table h).sources path) still.0 ∙ still.1)
        | inr loses ↦ (loses.made.entries path ∙ has ∙ sym goal, loses.made.sources path ∙ there path None ((table mid).sources path))
      ]

  none_wanted : (path : List ℕ) (now : Held) (done : List ℕ → Bool) → AreSetting want old now done → Goal path ≡ None → AreSetting want old now (λ at. done at || bytes_eq at path)
  none_wanted path now done are goal = with_done path now done (λ some. absurd (true≢false (sym some ∙ ap is_some goal))) are

  settle_by : (path : List ℕ) (wanted : Option EntryData) (now new : Held) (done : List ℕ → Bool) → AreSetting want old now done → Goal path ≡ wanted
      → Settles path wanted now new → AreSetting want old new (λ at. done at || bytes_eq at path)
  settle_by path None now new done are goal settles =
      subst (λ (h : Held). AreSetting want old h (λ at. done at || bytes_eq at path)) (sym settles) (none_wanted path now done are goal)
  settle_by path (Some entry) now new done are goal settles = both_set path entry now settles.0 new done are goal settles.1 settles.2

  -- what is wanted of a path that was set is what it has
  module _ (again : (at : List ℕ) (was : Option EntryData) → want at (want at was) ≡ want at was) where
    pub wanted_now : (path : List ℕ) (now : Held) (done : List ℕ → Bool) → AreSetting want old now done → want path ((table now).entries path) ≡ Goal path
    wanted_now path now done are = elim (are.entries path) [
      | inl left ↦ ap (want path) left.0
      | inr set ↦ ap (want path) set.0 ∙ again path ((table old).entries path)
    ]

    pub settle_more : (path : List ℕ) (now new : Held) (done : List ℕ → Bool) → AreSetting want old now done → Settles path (want path ((table now).entries path)) now new
        → AreSetting want old new (λ at. done at || bytes_eq at path)
    settle_more path now new done are settles =
        settle_by path (want path ((table now).entries path)) now new done are (sym (wanted_now path now done are)) settles

-- ---- several paths

-- what is read at a place below the end stands there
pub at_place : (paths : List (List ℕ)) (i end : ℕ) (read path : List ℕ) → i < end → end ≡ length paths → read ≡ get_or paths i read → path ≡ read → slice_get paths i ≡ Some path
at_place paths i end read path below is found same =
    slice_get-get_or paths i read (subst (λ (n : ℕ). i < n) is below) ∙ ap Some (sym found ∙ sym same)

pub key_at : {X : Type 0} (rows : List (List ℕ × X)) (i : ℕ) (path : List ℕ) (x : X) → slice_get rows i ≡ Some (path, x) → slice_get (keys_of rows) i ≡ Some path
key_at rows i path x is = slice_get-map (λ (row : List ℕ × _). row.0) rows i ∙ ap (option_map (λ (row : List ℕ × _). row.0)) is

pub end_is : (a b i : ℕ) → a ≤ i → a ≡ b → b ≤ i
end_is a b i upto same = subst (λ (n : ℕ). n ≤ i) same upto

-- one more of some paths is done
pub among_next : (paths : List (List ℕ)) (i : ℕ) (path at : List ℕ) → slice_get paths i ≡ Some path → is_among_first (i + 1) paths at ≡ true
    → (is_among_first i paths at ≡ true) ⊎ (bytes_eq at path ≡ true)
among_next paths i path at is among =
    let taken : take (i + 1) paths ≡ take i paths ++ path ∷ [] =
    take_more paths i path (slice_get_within paths i path is) ∙ ap (λ (p : List ℕ). take i paths ++ p ∷ []) (get_or_from_slice_get paths i path path is) in
    let both : (is_among_first i paths at || (bytes_eq at path || false)) ≡ true =
    sym (list_any-append (bytes_eq at) (take i paths) (path ∷ [])) ∙ sym (ap (list_any (bytes_eq at)) taken) ∙ among in
    elim (or_cases (is_among_first i paths at) (bytes_eq at path || false) both) [
      | inl before ↦ inl before
      | inr last ↦ inr (elim (or_cases (bytes_eq at path) false last) [ inl here ↦ here | inr never ↦ absurd (true≢false (sym never)) ])
    ]

pub settle_next : (want : Wanted) (old : Held) → ((at : List ℕ) (was : Option EntryData) → want at (want at was) ≡ want at was)
    → (paths : List (List ℕ)) (i : ℕ) (path : List ℕ) (now new : Held) (done : List ℕ → Bool) → slice_get paths i ≡ Some path
    → AreSetting want old now (λ at. done at || is_among_first i paths at) → Settles path (want path ((table now).entries path)) now new
    → AreSetting want old new (λ at. done at || is_among_first (i + 1) paths at)
settle_next want old again paths i path now new done is are settles =
    setting_fewer want old new (λ at. (done at || is_among_first i paths at) || bytes_eq at path) (λ at. done at || is_among_first (i + 1) paths at)
    (λ at h. elim (or_cases (done at) (is_among_first (i + 1) paths at) h) [
      | inl before ↦ or_left (done at || is_among_first i paths at) (bytes_eq at path) (or_left (done at) (is_among_first i paths at) before)
      | inr among ↦ elim (among_next paths i path at is among) [
        | inl before ↦ or_left (done at || is_among_first i paths at) (bytes_eq at path) (or_right (done at) (is_among_first i paths at) before)
        | inr here ↦ or_right (done at || is_among_first i paths at) (bytes_eq at path) here
      ]
    ])
    (settle_more want old again path now new (λ at. done at || is_among_first i paths at) are settles)

pub none_yet : (want : Wanted) (old now : Held) (paths : List (List ℕ)) (done : List ℕ → Bool) → AreSetting want old now done
    → AreSetting want old now (λ at. done at || is_among_first 0 paths at)
none_yet want old now paths done are = setting_fewer want old now done (λ at. done at || is_among_first 0 paths at)
    (λ at h. elim (or_cases (done at) (is_among_first 0 paths at) h) [ inl before ↦ before | inr none ↦ absurd (true≢false (sym none)) ]) are

pub all_among : (want : Wanted) (old now : Held) (paths : List (List ℕ)) (i : ℕ) (done : List ℕ → Bool) → length paths ≤ i
    → AreSetting want old now (λ at. done at || is_among_first i paths at) → AreSetting want old now (λ at. done at || is_among paths at)
all_among want old now paths i done end are = setting_fewer want old now (λ at. done at || is_among_first i paths at) (λ at. done at || is_among paths at)
    (λ at h. sym (ap (λ (l : List (List ℕ)). done at || list_any (bytes_eq at) l) (sym (take_all i paths end))) ∙ h) are

-- ---- what the parents want, they want again

again_by : (w a b : Bool) (n : ℕ) → entry_of_parents a b (by_parts w a b n) ≡ by_parts w a b n
again_by true a b n = refl
again_by false true b n = refl
again_by false false true n = refl
again_by false false false n = refl

pub wanted_again : (merged : Bool) (m1 m2 : Rows) (at : List ℕ) (was : Option EntryData) → entry_by merged m1 m2 at (entry_by merged m1 m2 at was) ≡ entry_by merged m1 m2 at was
wanted_again merged m1 m2 at was =
    again_by (is_tracked_entry was) (is_some (row_at m1 at)) (merged && is_other_file (row_at m1 at) (row_at m2 at)) (fallback_in was)
