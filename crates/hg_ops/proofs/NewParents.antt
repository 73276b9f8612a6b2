-- The course of new parents as a whole.
use Rattle.std.proofs.Common.{ℕ, ◌≡◌, Bool, true, false, not, cond, ◌&&◌, ◌||◌, ◌⊎◌, inl, inr, List, [], ◌∷◌, Option, Some, None, refl, sym, ap, ◌∙◌, true≢false}
use Rattle.std.specs.Prelude.{is_some}
use Rattle.std.specs.Map.{keys_of, lookup}
use Rattle.std.specs.Str.{bytes_eq}
use Rattle.std.proofs.lemmas.Bool.{cases_Bool, and_parts, both_ways, false_from_ne_true, or_left, or_right}
use Rattle.hg_base.proofs.Within.{within_split, within_trans}
use Rattle.hg_base.specs.Within.{is_above, is_within}
use Rattle.hg_entry.specs.Entry.{CacheData, EntryData}
use Rattle.hg_entry.specs.Table.{Table}
use Rattle.hg_manifest.specs.Plain.{is_null}
use Rattle.hg_manifest.specs.Rows.{Rows}
use Rattle.hg_manifest.specs.declared.row.FileRow.{FileRow}
use Rattle.hg_nodes.specs.Clash.{is_tracked_entry}
use Rattle.hg_mixed.specs.Edits.{ArePlacedAsBefore}
use Rattle.hg_nodes.specs.Edits.{IsFormed, IsSame, Marks, after_ids}
use Rattle.hg_mixed.specs.Held.{Held, is_lent, source_at, table}
use Rattle.hg_ops.proofs.Setting.{wanted_again, wanted_now}
use Rattle.hg_ops.specs.Dropping.{AreDropping, LeadsTo}
use Rattle.hg_ops.specs.Parents.{HasParents, IsEmptied, LendsParents, LostWithin, PlacesParents, entry_by, is_other_file, row_at}
use Rattle.hg_ops.specs.Setting.{AreAll, AreSetting, IsWantedAsIs, Wanted, is_among}

-- ---- what is done

some_entry : (t : Option EntryData) → is_tracked_entry t ≡ true → is_some t ≡ true
some_entry None h = h
some_entry (Some entry) h = refl

among_by : {X : Type 0} (key : List ℕ) (x : X) (found : Option X) (among : Bool) (at : List ℕ) → (is_some found ≡ true → among ≡ true)
    → is_some (cond (bytes_eq at key) (Some x) found) ≡ true → (bytes_eq at key || among) ≡ true
among_by key x found among at later h = elim (cases_Bool (bytes_eq at key)) [
  | inl here ↦ or_left (bytes_eq at key) among here
  | inr apart ↦ or_right (bytes_eq at key) among (later (sym (ap (λ (b : Bool). is_some (cond b (Some x) found)) apart) ∙ h))
]

-- a row is among those that are gone through
row_among : {X : Type 0} (rows : List (List ℕ × X)) (at : List ℕ) → is_some (lookup (bytes_eq at) rows) ≡ true → is_among (keys_of rows) at ≡ true
row_among [] at h = h
row_among (row ∷ rows) at h = among_by row.0 row.1 (lookup (bytes_eq at) rows) (is_among (keys_of rows) at) at (row_among rows at) h

second_some : (first second : Option FileRow) → is_other_file first second ≡ true → is_some second ≡ true
second_some first None h = absurd (true≢false (sym h))
second_some first (Some row) h = refl

-- what is wanted of a path is of a tracked path, or of one that a manifest has
some_wanted : (w a b : Bool) (entry : EntryData) → is_some (cond (w || a || b) (Some entry) None) ≡ true → (w ≡ true) ⊎ ((a ≡ true) ⊎ (b ≡ true))
some_wanted true a b entry h = inl refl
some_wanted false true b entry h = inr (inl refl)
some_wanted false false true entry h = inr (inr refl)
some_wanted false false false entry h = absurd (true≢false (sym h))

module _ (merged : Bool) (m1 m2 : Rows) where
  abbrev Want : Wanted
  Want = entry_by merged m1 m2

  abbrev pub done_by : List (List ℕ) → List ℕ → Bool
  done_by paths at = ((false || is_among (keys_of m1) at) || is_among (keys_of m2) at) || is_among paths at

  module _ (old base mid : Held) (paths : List (List ℕ)) (all : AreAll (table old) paths) (formed : IsFormed (table old)) (formed_base : IsFormed (table base)) (sets : AreSetting Want old base (done_by paths))
      (drops : AreDropping Want base mid (is_among paths)) where
    abbrev Goal : List ℕ → Option EntryData
    Goal at = Want at ((table old).entries at)

    is_done : (at : List ℕ) → is_some (Goal at) ≡ true → done_by paths at ≡ true
    is_done at some = elim (some_wanted (is_tracked_entry ((table old).entries at)) (is_some (row_at m1 at)) (merged && is_other_file (row_at m1 at) (row_at m2 at)) _ some) [
      | inl w ↦ or_right ((false || is_among (keys_of m1) at) || is_among (keys_of m2) at) (is_among paths at) (all at (some_entry ((table old).entries at) w))
      | inr one ↦ or_left ((false || is_among (keys_of m1) at) || is_among (keys_of m2) at) (is_among paths at) (elim one [
        | inl a ↦ or_left (false || is_among (keys_of m1) at) (is_among (keys_of m2) at) (row_among m1 at a)
        | inr b ↦ or_right (false || is_among (keys_of m1) at) (is_among (keys_of m2) at) (row_among m2 at (second_some (row_at m1 at) (row_at m2 at) (and_parts merged (is_other_file (row_at m1 at) (row_at m2 at)) b).1))
      ])
    ]

    -- a path that stays
    stays_entry : (at : List ℕ) → is_some (Goal at) ≡ true → (table base).entries at ≡ Goal at
    stays_entry at some = (sets.settled at (is_done at some) some).0

    none_is : (o : Option EntryData) → is_some o ≡ false → o ≡ None
    none_is None h = refl
    none_is (Some e) h = absurd (true≢false h)

    -- a path that doesn't stay was left
    left_entry : (at : List ℕ) → Goal at ≡ None → (table base).entries at ≡ (table old).entries at
    left_entry at none = elim (sets.entries at) [ inl left ↦ left.0 | inr set ↦ absurd (true≢false (sym set.1 ∙ ap is_some none)) ]

    goal_of_lost : (at : List ℕ) → drops.lost at ≡ true → Goal at ≡ None
    goal_of_lost at lost = sym (wanted_now Want old (wanted_again merged m1 m2) at base (done_by paths) sets) ∙ (drops.unwanted at lost).1

    old_of_lost : (at : List ℕ) → drops.lost at ≡ true → is_some ((table old).entries at) ≡ true
    old_of_lost at lost = sym (ap is_some (left_entry at (goal_of_lost at lost))) ∙ (drops.unwanted at lost).0

    is_lost : (at : List ℕ) → is_some ((table old).entries at) ≡ true → Goal at ≡ None → drops.lost at ≡ true
    is_lost at some none =
        drops.all_lost at (all at some) (ap is_some (left_entry at none) ∙ some) (wanted_now Want old (wanted_again merged m1 m2) at base (done_by paths) sets ∙ none)

    kept_entry : (at : List ℕ) → drops.lost at ≡ false → (table mid).entries at ≡ (table base).entries at
    kept_entry at kept = drops.entries at ∙ ap (λ (b : Bool). cond b None ((table base).entries at)) kept

    lost_entry : (at : List ℕ) → drops.lost at ≡ true → (table mid).entries at ≡ None
    lost_entry at lost = drops.entries at ∙ ap (λ (b : Bool). cond b None ((table base).entries at)) lost

    -- the entries at the end
    entries : (at : List ℕ) → (table mid).entries at ≡ Goal at
    entries at = elim (cases_Bool (drops.lost at)) [
      | inl lost ↦ lost_entry at lost ∙ sym (goal_of_lost at lost)
      | inr kept ↦ elim (cases_Bool (is_some (Goal at))) [
        | inl some ↦ kept_entry at kept ∙ stays_entry at some
        | inr none ↦ elim (cases_Bool (is_some ((table old).entries at))) [
          | inl had ↦ absurd (both_ways (drops.lost at) kept (is_lost at had (none_is (Goal at) none)))
          | inr nothing ↦ kept_entry at kept ∙ left_entry at (none_is (Goal at) none) ∙ none_is ((table old).entries at) nothing ∙ sym (none_is (Goal at) none)
        ]
      ]
    ]

    lost_of : (at : List ℕ) → is_some ((table old).entries at) ≡ true → (table mid).entries at ≡ None → drops.lost at ≡ true
    lost_of at some none = is_lost at some (sym (entries at) ∙ none)

    way_there : (at : List ℕ) → LeadsTo drops.lost at → LostWithin (table old) (table mid) at
    way_there at way = (way.0, old_of_lost way.0 way.1, lost_entry way.0 way.1, way.2)

    way_back : (at : List ℕ) → LostWithin (table old) (table mid) at → LeadsTo drops.lost at
    way_back at lost = (lost.0, lost_of lost.0 lost.1 lost.2, lost.3)

    node_of : (t : Table) → IsFormed t → (at : List ℕ) → is_some (t.entries at) ≡ true → t.nodes at ≡ true
    node_of t formed at some = elim (cases_Bool (t.nodes at)) [ inl node ↦ node | inr none ↦ absurd (true≢false (sym some ∙ ap is_some (formed.entries at none))) ]

    rooted_within : (t : Table) → IsFormed t → (at path : List ℕ) → is_within at path ≡ true → t.nodes path ≡ true → t.nodes at ≡ true
    rooted_within t formed at path within node = elim (within_split at path within) [
      | inl same ↦ sym (ap t.nodes same) ∙ node
      | inr below ↦ formed.rooted at path below node
    ]

    goes : (at : List ℕ) → drops.gone at ≡ true → IsEmptied (table old) (table mid) at
    goes at is = let g = drops.goes at is in record {
      lost = way_there at g.way;
      alone = λ other within node. way_there other (g.alone other within (sets.kept other node)).0;
      empty = λ other within. elim (cases_Bool ((table base).nodes other)) [
        | inl node ↦ elim (g.alone other within node).1 [ inl lost ↦ lost_entry other lost | inr none ↦ gone_or other none ]
        | inr none ↦ gone_or other (formed_base.entries other none)
      ];
    }
      where
        gone_or : (other : List ℕ) → (table base).entries other ≡ None → (table mid).entries other ≡ None
        gone_or other none = elim (cases_Bool (drops.lost other)) [ inl lost ↦ lost_entry other lost | inr kept ↦ kept_entry other kept ∙ none ]

    all_go : (at : List ℕ) → IsEmptied (table old) (table mid) at → drops.gone at ≡ true
    all_go at e = drops.all_go at (record {
      way = way_back at e.lost;
      alone = λ other within node. (way_of other within node, none_or other within);
    })
      where
        none_or : (other : List ℕ) → is_within at other ≡ true → (drops.lost other ≡ true) ⊎ ((table base).entries other ≡ None)
        none_or other within = elim (cases_Bool (drops.lost other)) [ inl lost ↦ inl lost | inr kept ↦ inr (sym (kept_entry other kept) ∙ e.empty other within) ]

        way_of : (other : List ℕ) → is_within at other ≡ true → (table base).nodes other ≡ true → LeadsTo drops.lost other
        way_of other within node = elim (sets.made other node) [
          | inl first ↦ way_back other (e.alone other within first)
          | inr more ↦ elim (none_or more.0 (within_trans at other more.0 within more.2)) [
            | inl lost ↦ (more.0, lost, more.2)
            | inr none ↦ absurd (true≢false (sym more.1 ∙ ap is_some none))
          ]
        ]

    nodes_made : (at : List ℕ) → (table mid).nodes at ≡ true → ((table old).nodes at ≡ true) ⊎ ((path : List ℕ) × (is_some ((table mid).entries path) ≡ true) × (is_within at path ≡ true))
    nodes_made at is = elim (sets.made at (and_parts ((table base).nodes at) (not (drops.gone at)) (sym (drops.nodes at) ∙ is)).0) [
      | inl first ↦ inl first
      | inr more ↦ elim (cases_Bool (drops.lost more.0)) [
        | inl lost ↦ inl (rooted_within (table old) formed at more.0 more.2 (node_of (table old) formed more.0 (old_of_lost more.0 lost)))
        | inr kept ↦ inr (more.0, ap is_some (kept_entry more.0 kept) ∙ more.1, more.2)
      ]
    ]

    module _ (p1 p2 : List ℕ) (merges : merged ≡ not (is_null p2)) (new : Held) (made : IsSame (table new) (after_ids p1 p2 (table mid))) (formed_new : IsFormed (table new)) where
      none_cache : (t : Table) → IsFormed t → (at : List ℕ) → is_some (t.entries at) ≡ true → t.caches at ≡ None
      none_cache t formed at some = by_cache (t.caches at) refl
        where
          by_cache : (o : Option CacheData) → t.caches at ≡ o → t.caches at ≡ None
          by_cache None is = is
          by_cache (Some time) is = absurd (true≢false (sym some ∙ ap is_some (formed.caches at (ap is_some is)).1))

      cache_at : (at : List ℕ) → (table new).caches at ≡ cond (drops.gone at || drops.stale at || is_some ((table new).entries at)) None ((table old).caches at)
      cache_at at = elim (cases_Bool (is_some ((table new).entries at))) [
        | inl some ↦ none_cache (table new) formed_new at some ∙ sym (ends (drops.gone at) (drops.stale at) (is_some ((table new).entries at)) ((table old).caches at) some)
        | inr none ↦
            made.caches at ∙ drops.caches at
            ∙ ap (cond (drops.gone at || drops.stale at) None) (left_cache none)
            ∙ ap (λ (b : Bool). cond b None ((table old).caches at)) (sym (none_more (drops.gone at) (drops.stale at) (is_some ((table new).entries at)) none))
      ]
        where
          ends : (a b c : Bool) (x : Option CacheData) → c ≡ true → cond (a || b || c) None x ≡ None
          ends a b c x is = ap (λ (v : Bool). cond (a || b || v) None x) is ∙ by_both a b x
            where
              by_both : (a b : Bool) (x : Option CacheData) → cond (a || b || true) None x ≡ None
              by_both true b x = refl
              by_both false true x = refl
              by_both false false x = refl

          none_more : (a b c : Bool) → c ≡ false → (a || b || c) ≡ (a || b)
          none_more true b c is = refl
          none_more false true c is = refl
          none_more false false c is = is

          left_cache : is_some ((table new).entries at) ≡ false → (table base).caches at ≡ (table old).caches at
          left_cache none = elim (sets.entries at) [
            | inl left ↦ left.1
            | inr set ↦ absurd (true≢false (sym set.1 ∙ ap is_some (sym (entries at) ∙ sym (made.entries at)) ∙ none))
          ]

      moved_within : (at : List ℕ) → LostWithin (table old) (table mid) at → LostWithin (table old) (table new) at
      moved_within at l = (l.0, l.1, made.entries l.0 ∙ l.2, l.3)

      moved_back : (at : List ℕ) → LostWithin (table old) (table new) at → LostWithin (table old) (table mid) at
      moved_back at l = (l.0, l.1, sym (made.entries l.0) ∙ l.2, l.3)

      moved : (at : List ℕ) → IsEmptied (table old) (table mid) at → IsEmptied (table old) (table new) at
      moved at e = record {
        lost = moved_within at e.lost;
        alone = λ other within node. moved_within other (e.alone other within node);
        empty = λ other within. made.entries other ∙ e.empty other within;
      }

      back : (at : List ℕ) → IsEmptied (table old) (table new) at → IsEmptied (table old) (table mid) at
      back at e = record {
        lost = moved_back at e.lost;
        alone = λ other within node. moved_back other (e.alone other within node);
        empty = λ other within. sym (made.entries other) ∙ e.empty other within;
      }

      pub has_parents : HasParents p1 p2 m1 m2 (table old) (table new)
      has_parents = record {
        p1_is = made.p1;
        p2_is = made.p2;
        hash = made.hash ∙ drops.hash ∙ sets.hash;
        entries = λ at. made.entries at ∙ entries at ∙ ap (λ (b : Bool). entry_by b m1 m2 at ((table old).entries at)) merges;
        sources = λ at. elim (cases_Bool (is_some (Goal at))) [
          | inl some ↦ elim (cases_Bool (drops.lost at)) [
            | inl lost ↦ made.sources at ∙ drops.sources at ∙ ap (λ (b : Bool). cond b None ((table base).sources at)) lost
            | inr kept ↦
                made.sources at ∙ drops.sources at ∙ ap (λ (b : Bool). cond b None ((table base).sources at)) kept ∙ (sets.settled at (is_done at some) some).1
          ]
          | inr none ↦ formed_new.sources at (made.entries at ∙ entries at ∙ none_is (Goal at) none)
        ];
        gone = drops.gone;
        stale = drops.stale;
        goes = λ at is. moved at (goes at is);
        all_go = λ at e. all_go at (back at e);
        is_stale = drops.is_stale;
        all_stale = drops.all_stale;
        nodes_left = λ at is. made.nodes at ∙ drops.nodes at ∙ ap (λ (b : Bool). b && not (drops.gone at)) (sets.kept at is);
        nodes_made = λ at is. elim (nodes_made at (sym (made.nodes at) ∙ is)) [
          | inl first ↦ inl first
          | inr more ↦ inr (more.0, ap is_some (made.entries more.0) ∙ more.1, more.2)
        ];
        nodes_held = λ at path some within. rooted_within (table new) formed_new at path within (node_of (table new) formed_new path some);
        caches = cache_at;
      }

      -- ---- the mark

      no_gone : ((at : List ℕ) → drops.lost at ≡ false) → (at : List ℕ) → drops.gone at ≡ false
      no_gone none at = false_from_ne_true (drops.gone at) (λ is. let way = (drops.goes at is).way in both_ways (drops.lost way.0) (none way.0) way.1)

      no_stale : ((at : List ℕ) → drops.lost at ≡ false) → (dir : List ℕ) → drops.stale dir ≡ false
      no_stale none dir = false_from_ne_true (drops.stale dir) (λ is. let f = drops.is_stale dir is in both_ways (drops.gone f.0) (no_gone none f.0) f.1)

      mid_same : ((at : List ℕ) → drops.lost at ≡ false) → IsSame (table mid) (table base)
      mid_same none = record {
        p1 = drops.p1;
        p2 = drops.p2;
        hash = drops.hash;
        entries = λ at. kept_entry at (none at);
        sources = λ at. drops.sources at ∙ ap (λ (b : Bool). cond b None ((table base).sources at)) (none at);
        nodes = λ at. drops.nodes at ∙ ap (λ (b : Bool). (table base).nodes at && not b) (no_gone none at) ∙ and_true ((table base).nodes at);
        caches = λ at.
            drops.caches at
            ∙ ap (λ (b : Bool). cond (b || drops.stale at) None ((table base).caches at)) (no_gone none at)
            ∙ ap (λ (b : Bool). cond b None ((table base).caches at)) (no_stale none at);
      }
        where
          and_true : (b : Bool) → (b && true) ≡ b
          and_true true = refl
          and_true false = refl

      then_same : (a b c : Table) → IsSame a b → IsSame b c → IsSame a c
      then_same a b c p q = record {
        p1 = p.p1 ∙ q.p1;
        p2 = p.p2 ∙ q.p2;
        hash = p.hash ∙ q.hash;
        entries = λ at. p.entries at ∙ q.entries at;
        sources = λ at. p.sources at ∙ q.sources at;
        nodes = λ at. p.nodes at ∙ q.nodes at;
        caches = λ at. p.caches at ∙ q.caches at;
      }

      pub has_marks : Marks (IsSame (table new) (table mid)) mid.changed new.changed → Marks (IsSame (table new) (table old)) old.changed new.changed
      has_marks ids = record { kept = kept; marked = marked }
        where
          still_on : mid.changed ≡ true → new.changed ≡ true
          still_on on = elim (cases_Bool (new.changed)) [ inl is ↦ is | inr off ↦ ids.marked (λ same. both_ways new.changed off (ids.kept same ∙ on)) ]

          as_is : IsSame (table new) (table old) → IsWantedAsIs Want (table old)
          as_is same at = (sym (entries at) ∙ sym (made.entries at) ∙ same.entries at, sym (same.sources at) ∙ has_parents.sources at)

          kept : IsSame (table new) (table old) → new.changed ≡ old.changed
          kept same = elim sets.marks [
            | inr touched ↦ absurd (touched.1 (as_is same))
            | inl untouched ↦ elim drops.marks [
              | inr lost ↦ absurd (true≢false (sym (old_of_lost lost.1.0 lost.1.1) ∙ ap is_some (sym (as_is same lost.1.0).0 ∙ goal_of_lost lost.1.0 lost.1.1)))
              | inl none ↦ ids.kept (record {
                p1 = same.p1 ∙ sym (drops.p1 ∙ sets.p1);
                p2 = same.p2 ∙ sym (drops.p2 ∙ sets.p2);
                hash = made.hash;
                entries = made.entries;
                sources = made.sources;
                nodes = made.nodes;
                caches = made.caches;
              }) ∙ none.1 ∙ untouched.1
            ]
          ]

          marked : (IsSame (table new) (table old) → ⊥) → new.changed ≡ true
          marked other = elim drops.marks [
            | inr lost ↦ still_on lost.0
            | inl none ↦ elim sets.marks [
              | inr touched ↦ still_on (none.1 ∙ touched.0)
              | inl untouched ↦ ids.marked (λ same. other (then_same (table new) (table mid) (table old) same (then_same (table mid) (table base) (table old) (mid_same none.0) untouched.0)))
            ]
          ]

      -- ---- lists and texts

      pub has_lends : ((dir : Option (List ℕ)) → is_lent new dir ≡ is_lent mid dir) → LendsParents old new
      has_lends lent = record {
        kept = λ dir same.
            lent dir
            ∙ drops.lends.kept dir (λ at lost. false_from_ne_true (is_above dir at) (λ above. absurd (true≢false (sym (old_of_lost at lost) ∙ ap is_some (sym (same at above).0 ∙ made.entries at ∙ lost_entry at lost)))))
            ∙ sets.lends.kept dir (λ at above. (sym (entries at) ∙ sym (made.entries at) ∙ (same at above).0, sym (same at above).1 ∙ has_parents.sources at));
        ended = λ dir at above differs.
            lent dir
            ∙ elim (cases_Bool (drops.lost at)) [
              | inl lost ↦ drops.lends.ended dir at lost above
              | inr kept ↦ drops.lends.over dir (sets.lends.ended dir at above (λ e f. differs (made.entries at ∙ kept_entry at kept ∙ e) (made.sources at ∙ kept_source at kept ∙ f)))
            ];
      }
        where
          kept_source : (at : List ℕ) → drops.lost at ≡ false → (table mid).sources at ≡ (table base).sources at
          kept_source at kept = drops.sources at ∙ ap (λ (b : Bool). cond b None ((table base).sources at)) kept

      pub has_places : ArePlacedAsBefore mid new → PlacesParents old new
      unfolding has_parents
      has_places places = record {
        texts = λ at node. places.texts at ∙ drops.lends.texts at (sym (made.nodes at) ∙ node) ∙ sets.lends.texts at;
        texts_gone = λ at had none. places.texts at ∙ drops.lends.texts_gone at (went (drops.gone at) (sym (has_parents.nodes_left at had) ∙ none));
        sources = λ at none stays.
            places.sources at ∙ drops.lends.sources at
            ∙ ap (λ (b : Bool). cond b None (source_at base at)) (false_from_ne_true (drops.lost at) (λ lost. absurd (true≢false (sym (old_of_lost at lost) ∙ ap is_some (stays (made.entries at ∙ lost_entry at lost))))))
            ∙ sets.lends.source_kept at none;
        sources_lost = λ at had. places.sources at ∙ drops.lends.sources at ∙ elim (cases_Bool (drops.lost at)) [
          | inl lost ↦ ap (λ (b : Bool). cond b None (source_at base at)) lost
          | inr kept ↦
              ap (λ (b : Bool). cond b None (source_at base at)) kept
              ∙ sets.lends.source_lost at (λ e. had (sym e ∙ sym (drops.sources at ∙ ap (λ (b : Bool). cond b None ((table base).sources at)) kept) ∙ sym (made.sources at) ∙ has_parents.sources at))
        ];
        sources_gone = λ at some none.
            places.sources at ∙ drops.lends.sources at
            ∙ ap (λ (b : Bool). cond b None (source_at base at)) (lost_of at some (sym (made.entries at) ∙ none));
      }
        where
          went : (b : Bool) → not b ≡ false → b ≡ true
          went true h = refl
          went false h = absurd (true≢false h)
