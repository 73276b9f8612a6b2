-- Entries are dropped, one after the other, each with what goes with it.
use Rattle.std.proofs.Common.{ℕ, ◌+◌, ◌≡◌, ◌≤◌, Bool, true, false, not, cond, ◌&&◌, ◌||◌, ◌⊎◌, inl, inr, List, length, Option, Some, None, refl, sym, ap, ◌∙◌, subst, true≢false}
use Rattle.std.specs.Prelude.{is_some, slice_get}
use Rattle.std.specs.List.{list_any}
use Rattle.std.specs.Str.{bytes_eq}
use Rattle.std.proofs.lemmas.Bool.{cases_Bool, and_parts, and_from, both_ways, not-true, or_left, or_right}
use Rattle.std.proofs.lemmas.List.{take_all}
use Rattle.hg_base.proofs.Within.{equal_bytes, same_bytes, within_itself, within_trans}
use Rattle.hg_base.specs.Within.{is_above, is_within}
use Rattle.hg_entry.specs.Entry.{CacheData, EntryData}
use Rattle.hg_entry.specs.Table.{Table}
use Rattle.hg_nodes.specs.Drop.{IsPruned, after_clear}
use Rattle.hg_mixed.specs.Held.{Held, is_lent, source_at, table, text_at}
use Rattle.hg_ops.proofs.Collecting.{or_cases}
use Rattle.hg_ops.proofs.Setting.{among_next, lent_off, lent_on}
use Rattle.hg_ops.specs.Dropping.{AreDropping, Drops, DropsOne, GoesWith, LeadsTo}
use Rattle.hg_ops.specs.Setting.{Wanted, is_among, is_among_first}

-- ---- one set of what is lost, and one path more

either : (a b : Bool) → (a ≡ true) ⊎ (b ≡ true) → (a || b) ≡ true
either a b (inl h) = or_left a b h
either a b (inr h) = or_right a b h

module _ (want : Wanted) (old now new : Held) (done : List ℕ → Bool) (are : AreDropping want old now done) (path : List ℕ) (drops : DropsOne path now new) where
  abbrev base : Table
  base = table old

  abbrev more : List ℕ → Bool
  more at = are.lost at || bytes_eq path at

  abbrev p : IsPruned path (after_clear path (table now)) (table new)
  p = drops.pruned

  here : more path ≡ true
  here = or_right (are.lost path) (bytes_eq path path) (equal_bytes path)

  -- what is on the way to what was lost is on the way to more
  leads_more : (at : List ℕ) → LeadsTo are.lost at → LeadsTo more at
  leads_more at way = (way.0, or_left (are.lost way.0) (bytes_eq path way.0) way.1, way.2)

  leads_own : (at : List ℕ) → is_within at path ≡ true → LeadsTo more at
  leads_own at within = (path, here, within)

  -- on the way to more: to what was lost, or to the path
  leads_split : (at : List ℕ) → LeadsTo more at → LeadsTo are.lost at ⊎ (is_within at path ≡ true)
  leads_split at way = elim (or_cases (are.lost way.0) (bytes_eq path way.0) way.1) [
    | inl before ↦ inl (way.0, before, way.2)
    | inr own ↦ inr (ap (is_within at) (same_bytes path way.0 own) ∙ way.2)
  ]

  -- an entry that isn't among what is lost, nor the path's
  entry_left : (at : List ℕ) → more at ≡ false → (after_clear path (table now)).entries at ≡ base.entries at
  entry_left at off =
      ap (λ (b : Bool). cond b None ((table now).entries at)) (parts_false (are.lost at) (bytes_eq path at) off).1
      ∙ are.entries at
      ∙ ap (λ (b : Bool). cond b None (base.entries at)) (parts_false (are.lost at) (bytes_eq path at) off).0
    where
      parts_false : (a b : Bool) → (a || b) ≡ false → (a ≡ false) × (b ≡ false)
      parts_false true b h = absurd (true≢false h)
      parts_false false b h = (refl, h)

  -- no entry at what is lost
  entry_gone : (at : List ℕ) → more at ≡ true → (after_clear path (table now)).entries at ≡ None
  entry_gone at is = elim (cases_Bool (bytes_eq path at)) [
    | inl own ↦ ap (λ (b : Bool). cond b None ((table now).entries at)) own
    | inr apart ↦ elim (or_cases (are.lost at) (bytes_eq path at) is) [
      | inl lost ↦ ap (λ (b : Bool). cond b None ((table now).entries at)) apart ∙ are.entries at ∙ ap (λ (b : Bool). cond b None (base.entries at)) lost
      | inr own ↦ absurd (both_ways (bytes_eq path at) apart own)
    ]
  ]

  -- no entry is left: it is lost, or there was none
  none_split : (at : List ℕ) → (after_clear path (table now)).entries at ≡ None → (more at ≡ true) ⊎ (base.entries at ≡ None)
  none_split at none = elim (cases_Bool (more at)) [ inl lost ↦ inl lost | inr kept ↦ inr (sym (entry_left at kept) ∙ none) ]

  none_of : (at : List ℕ) → (more at ≡ true) ⊎ (base.entries at ≡ None) → (after_clear path (table now)).entries at ≡ None
  none_of at h = elim (cases_Bool (more at)) [
    | inl lost ↦ entry_gone at lost
    | inr kept ↦ elim h [ inl lost ↦ absurd (both_ways (more at) kept lost) | inr none ↦ entry_left at kept ∙ none ]
  ]

  before_more : (at : List ℕ) → (are.lost at ≡ true) ⊎ (base.entries at ≡ None) → (more at ≡ true) ⊎ (base.entries at ≡ None)
  before_more at (inl lost) = inl (or_left (are.lost at) (bytes_eq path at) lost)
  before_more at (inr none) = inr none

  -- what went before goes with more
  goes_before : (at : List ℕ) → GoesWith are.lost base at → GoesWith more base at
  goes_before at g = record {
    way = leads_more at g.way;
    alone = λ other within is. let a = g.alone other within is in (leads_more other a.0, before_more other a.1);
  }

  gone_now : (at : List ℕ) → p.gone at ≡ true → GoesWith more base at
  gone_now at is = let g = p.goes at is in record {
    way = leads_own at g.on_way;
    alone = λ other within node. elim (cases_Bool (are.gone other)) [
      | inl went ↦
          let w = are.goes other went in
          (leads_more other w.way, before_more other (w.alone other (within_itself other) node).1)
      | inr stays ↦
          let a = g.alone other within (are.nodes other ∙ and_from (base.nodes other) (not (are.gone other)) node (ap not stays)) in
          (leads_own other a.0, none_split other a.1)
    ];
  }

  -- what goes with more, and not with what was lost, goes now
  goes_lost : (at : List ℕ) → GoesWith more base at → (is_within at path ≡ true → ⊥) → GoesWith are.lost base at
  goes_lost at g apart = record {
    way = way_lost at g.way apart;
    alone = λ other within node.
        let a = g.alone other within node in
        let off : is_within other path ≡ true → ⊥ = λ h. apart (within_trans at other path within h) in (
          way_lost other a.0 off,
          elim a.1 [
            | inl lost ↦ elim (or_cases (are.lost other) (bytes_eq path other) lost) [
              | inl before ↦ inl before
              | inr own ↦ absurd (off (subst (λ (q : List ℕ). is_within q path ≡ true) (same_bytes path other own) (within_itself path)))
            ]
            | inr none ↦ inr none
          ],
        );
  }
    where
      way_lost : (x : List ℕ) → LeadsTo more x → (is_within x path ≡ true → ⊥) → LeadsTo are.lost x
      way_lost x way off = elim (leads_split x way) [ inl before ↦ before | inr own ↦ absurd (off own) ]

  all_gone : (at : List ℕ) → GoesWith more base at → (are.gone at || p.gone at) ≡ true
  all_gone at g = elim (cases_Bool (are.gone at)) [
    | inl went ↦ or_left (are.gone at) (p.gone at) went
    | inr stays ↦ or_right (are.gone at) (p.gone at) (p.all_go at (record { on_way = on_way stays; alone = alone stays }))
  ]
    where
      on_way : are.gone at ≡ false → is_within at path ≡ true
      on_way stays = elim (cases_Bool (is_within at path)) [
        | inl within ↦ within
        | inr apart ↦ absurd (both_ways (are.gone at) stays (are.all_go at (goes_lost at g (λ h. true≢false (sym h ∙ apart)))))
      ]

      alone : are.gone at ≡ false → (other : List ℕ) → is_within at other ≡ true → (table now).nodes other ≡ true
          → (is_within other path ≡ true) × ((after_clear path (table now)).entries other ≡ None)
      alone stays other within node =
          let parts = and_parts (base.nodes other) (not (are.gone other)) (sym (are.nodes other) ∙ node) in
          let a = g.alone other within parts.0 in
          let off : (is_within other path ≡ true → ⊥) → ⊥ = λ apart. both_ways (are.gone other) (not-true (are.gone other) parts.1) (are.all_go other (goes_lost other (record {
            way = a.0;
            alone = λ x inside is. g.alone x (within_trans at other x within inside) is;
          }) apart)) in
          (elim (cases_Bool (is_within other path)) [ inl h ↦ h | inr h ↦ absurd (off (λ is. true≢false (sym is ∙ h))) ], none_of other a.1)

  drop_more : (more_done : List ℕ → Bool) → want path (base.entries path) ≡ None → ((at : List ℕ) → more_done at ≡ true → (done at ≡ true) ⊎ (bytes_eq at path ≡ true))
      → AreDropping want old new more_done
  drop_more more_done none_wanted fewer = record {
    lost = more;
    unwanted = λ at is. elim (or_cases (are.lost at) (bytes_eq path at) is) [
      | inl before ↦ are.unwanted at before
      | inr own ↦ subst (λ (q : List ℕ). (is_some (base.entries q) ≡ true) × (want q (base.entries q) ≡ None)) (same_bytes path at own) (had, none_wanted)
    ];
    all_lost = λ at is some none. elim (fewer at is) [
      | inl before ↦ or_left (are.lost at) (bytes_eq path at) (are.all_lost at before some none)
      | inr own ↦ or_right (are.lost at) (bytes_eq path at) (ap (λ (q : List ℕ). bytes_eq q at) (sym (same_bytes at path own)) ∙ equal_bytes at)
    ];
    p1 = p.p1 ∙ are.p1;
    p2 = p.p2 ∙ are.p2;
    hash = p.hash ∙ are.hash;
    entries = λ at. p.entries at ∙ twice (are.lost at) (bytes_eq path at) ((table now).entries at) (base.entries at) (are.entries at);
    sources = λ at. p.sources at ∙ twice (are.lost at) (bytes_eq path at) ((table now).sources at) (base.sources at) (are.sources at);
    gone = λ at. are.gone at || p.gone at;
    stale = λ at. are.stale at || p.stale at;
    goes = λ at is. elim (or_cases (are.gone at) (p.gone at) is) [ inl went ↦ goes_before at (are.goes at went) | inr goes ↦ gone_now at goes ];
    all_go = all_gone;
    is_stale = λ dir is. elim (or_cases (are.stale dir) (p.stale dir) is) [
      | inl was ↦ let f = are.is_stale dir was in (f.0, or_left (are.gone f.0) (p.gone f.0) f.1, f.2)
      | inr is ↦ let f = p.is_stale dir is in (f.0, or_right (are.gone f.0) (p.gone f.0) f.1, f.2)
    ];
    all_stale = λ dir at is parent. elim (or_cases (are.gone at) (p.gone at) is) [
      | inl went ↦ or_left (are.stale dir) (p.stale dir) (are.all_stale dir at went parent)
      | inr goes ↦ or_right (are.stale dir) (p.stale dir) (p.all_stale dir at goes parent)
    ];
    nodes = λ at. p.nodes at ∙ ap (λ (b : Bool). b && not (p.gone at)) (are.nodes at) ∙ node_twice (base.nodes at) (are.gone at) (p.gone at);
    caches = λ at. p.caches at ∙ ap (cond (p.gone at || p.stale at) None) (are.caches at) ∙ cache_twice (are.gone at) (are.stale at) (p.gone at) (p.stale at) (base.caches at);
    marks = inr (drops.changed, (path, here));
    lends = record {
      kept = λ dir apart.
          drops.lent dir
          ∙ lent_on (is_lent now dir) (is_above dir path) (apart path here)
          ∙ are.lends.kept dir (λ at lost. apart at (or_left (are.lost at) (bytes_eq path at) lost));
      ended = λ dir at is above. elim (or_cases (are.lost at) (bytes_eq path at) is) [
        | inl before ↦ drops.lent dir ∙ ap (λ (b : Bool). b && not (is_above dir path)) (are.lends.ended dir at before above)
        | inr own ↦ drops.lent dir ∙ lent_off (is_lent now dir) (is_above dir path) (ap (is_above dir) (same_bytes path at own) ∙ above)
      ];
      over = λ dir off. drops.lent dir ∙ ap (λ (b : Bool). b && not (is_above dir path)) (are.lends.over dir off);
      texts = λ at node.
          drops.places.texts at
          ∙ ap (λ (b : Bool). cond b (text_at now at) None) node
          ∙ are.lends.texts at (and_parts ((table now).nodes at) (not (p.gone at)) (sym (p.nodes at) ∙ node)).0;
      texts_gone = λ at is. drops.places.texts at ∙ ap (λ (b : Bool). cond b (text_at now at) None) (p.nodes at ∙ no_node (are.gone at) (p.gone at) ((table now).nodes at) (base.nodes at) (are.nodes at) is);
      sources = λ at. drops.places.sources at ∙ twice (are.lost at) (bytes_eq path at) (source_at now at) (source_at old at) (are.lends.sources at);
    };
  }
    where
      no_node : (before now node first : Bool) → node ≡ (first && not before) → (before || now) ≡ true → (node && not now) ≡ false
      no_node true now node true is h = ap (λ (b : Bool). b && not now) is
      no_node true now node false is h = ap (λ (b : Bool). b && not now) is
      no_node false true true first is h = refl
      no_node false true false first is h = refl
      no_node false false node first is h = absurd (true≢false (sym h))

      had : is_some (base.entries path) ≡ true
      had = elim (cases_Bool (are.lost path)) [
        | inl lost ↦ (are.unwanted path lost).0
        | inr kept ↦ sym (ap is_some (are.entries path ∙ ap (λ (b : Bool). cond b None (base.entries path)) kept)) ∙ drops.some
      ]

      twice : {X : Type 0} (lost own : Bool) (was first : Option X) → was ≡ cond lost None first → cond own None was ≡ cond (lost || own) None first
      twice true true was first h = refl
      twice true false was first h = h
      twice false true was first h = refl
      twice false false was first h = h

      node_twice : (node before now : Bool) → ((node && not before) && not now) ≡ (node && not (before || now))
      node_twice true true now = refl
      node_twice true false now = refl
      node_twice false before now = refl

      cache_twice : (a b c d : Bool) (x : Option CacheData) → cond (c || d) None (cond (a || b) None x) ≡ cond ((a || c) || (b || d)) None x
      cache_twice true b true d x = refl
      cache_twice true b false true x = refl
      cache_twice true b false false x = refl
      cache_twice false true true d x = refl
      cache_twice false true false true x = refl
      cache_twice false true false false x = refl
      cache_twice false false true d x = refl
      cache_twice false false false true x = refl
      cache_twice false false false false x = refl

module _ (want : Wanted) (old now new : Held) (done more_done : List ℕ → Bool) (are : AreDropping want old now done) (path : List ℕ)
    (fewer : (at : List ℕ) → more_done at ≡ true → (done at ≡ true) ⊎ (bytes_eq at path ≡ true)) where
  abbrev base_entry : Option EntryData
  base_entry = (table old).entries path

  -- the entry of the path is still as it was, or lost
  still_there : ((table now).entries path ≡ base_entry) ⊎ (are.lost path ≡ true)
  still_there = elim (cases_Bool (are.lost path)) [
    | inl lost ↦ inr lost
    | inr kept ↦ inl (are.entries path ∙ ap (λ (b : Bool). cond b None base_entry) kept)
  ]

  none_some : None ≡ base_entry → is_some base_entry ≡ true → ⊥
  none_some none some = true≢false (sym some ∙ ap is_some (sym none))

  -- nothing was done at the path
  untouched : (((table now).entries path ≡ None) ⊎ (is_some (want path ((table now).entries path)) ≡ true)) → AreDropping want old now more_done
  untouched why = record {
    lost = are.lost;
    unwanted = are.unwanted;
    all_lost = λ at is some none. elim (fewer at is) [
      | inl before ↦ are.all_lost at before some none
      | inr own ↦
          let same : at ≡ path = same_bytes at path own in
          ap are.lost same ∙ own_lost (ap (λ (q : List ℕ). is_some ((table old).entries q)) (sym same) ∙ some) (ap (λ (q : List ℕ). want q ((table old).entries q)) (sym same) ∙ none)
    ];
    p1 = are.p1;
    p2 = are.p2;
    hash = are.hash;
    entries = are.entries;
    sources = are.sources;
    gone = are.gone;
    stale = are.stale;
    goes = are.goes;
    all_go = are.all_go;
    is_stale = are.is_stale;
    all_stale = are.all_stale;
    nodes = are.nodes;
    caches = are.caches;
    marks = are.marks;
    lends = are.lends;
  }
    where
      own_lost : is_some base_entry ≡ true → want path base_entry ≡ None → are.lost path ≡ true
      own_lost some none = elim still_there [
        | inr lost ↦ lost
        | inl there ↦ elim why [
          | inl gone ↦ absurd (none_some (sym gone ∙ there) some)
          | inr wanted ↦ absurd (true≢false (sym wanted ∙ ap (λ (e : Option EntryData). is_some (want path e)) there ∙ ap is_some none))
        ]
      ]

  pub drop_step : Drops path (want path ((table now).entries path)) now new → AreDropping want old new more_done
  drop_step (inl still) = subst (λ (h : Held). AreDropping want old h more_done) (sym still.0) (untouched still.1)
  drop_step (inr dropped) = drop_more want old now new done are path dropped.0 more_done unwanted fewer
    where
      unwanted : want path base_entry ≡ None
      unwanted = elim still_there [
        | inl there ↦ sym (ap (want path) there) ∙ dropped.1
        | inr lost ↦ (are.unwanted path lost).1
      ]

-- ---- several paths

pub drop_first : (want : Wanted) (old : Held) → AreDropping want old old (λ at. false)
drop_first want old = record {
  lost = λ at. false;
  unwanted = λ at h. absurd (true≢false (sym h));
  all_lost = λ at h some none. absurd (true≢false (sym h));
  p1 = refl;
  p2 = refl;
  hash = refl;
  entries = λ at. refl;
  sources = λ at. refl;
  gone = λ at. false;
  stale = λ at. false;
  goes = λ at h. absurd (true≢false (sym h));
  all_go = λ at g. absurd (true≢false (sym g.way.1));
  is_stale = λ dir h. absurd (true≢false (sym h));
  all_stale = λ dir at h parent. absurd (true≢false (sym h));
  nodes = λ at. all_stay ((table old).nodes at);
  caches = λ at. refl;
  marks = inl (λ at. refl, refl);
  lends = record {
    kept = λ dir apart. refl;
    ended = λ dir at h above. absurd (true≢false (sym h));
    over = λ dir h. h;
    texts = λ at node. refl;
    texts_gone = λ at h. absurd (true≢false (sym h));
    sources = λ at. refl;
  };
}
  where
    all_stay : (b : Bool) → b ≡ (b && not false)
    all_stay true = refl
    all_stay false = refl

pub drop_fewer : (want : Wanted) (old now : Held) (done fewer : List ℕ → Bool) → ((at : List ℕ) → fewer at ≡ true → done at ≡ true) → AreDropping want old now done
    → AreDropping want old now fewer
drop_fewer want old now done fewer goes are = record {
  lost = are.lost;
  unwanted = are.unwanted;
  all_lost = λ at is. are.all_lost at (goes at is);
  p1 = are.p1;
  p2 = are.p2;
  hash = are.hash;
  entries = are.entries;
  sources = are.sources;
  gone = are.gone;
  stale = are.stale;
  goes = are.goes;
  all_go = are.all_go;
  is_stale = are.is_stale;
  all_stale = are.all_stale;
  nodes = are.nodes;
  caches = are.caches;
  marks = are.marks;
  lends = are.lends;
}

pub drop_none : (want : Wanted) (old : Held) (paths : List (List ℕ)) → AreDropping want old old (is_among_first 0 paths)
drop_none want old paths = drop_fewer want old old (λ at. false) (is_among_first 0 paths) (λ at h. h) (drop_first want old)

pub drop_next : (want : Wanted) (old : Held) (paths : List (List ℕ)) (i : ℕ) (path : List ℕ) (now new : Held) → slice_get paths i ≡ Some path
    → AreDropping want old now (is_among_first i paths) → Drops path (want path ((table now).entries path)) now new → AreDropping want old new (is_among_first (i + 1) paths)
drop_next want old paths i path now new is are drops =
    drop_step want old now new (is_among_first i paths) (is_among_first (i + 1) paths) are path (λ at. among_next paths i path at is) drops

pub drop_all : (want : Wanted) (old now : Held) (paths : List (List ℕ)) (i : ℕ) → length paths ≤ i → AreDropping want old now (is_among_first i paths)
    → AreDropping want old now (is_among paths)
drop_all want old now paths i end are = drop_fewer want old now (is_among_first i paths) (is_among paths)
    (λ at h. sym (ap (list_any (bytes_eq at)) (sym (take_all i paths end))) ∙ h) are
