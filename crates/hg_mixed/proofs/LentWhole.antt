-- What is lent is as the image has it, through what is taken and edited.
use Rattle.std.proofs.Common.{ℕ, ◌≡◌, Bool, true, false, cond, not, ◌&&◌, ◌||◌, inl, inr, List, [], ◌∷◌, Option, Some, None, refl, sym, ap, ◌∙◌, subst, true≢false}
use Rattle.std.specs.Prelude.{is_some}
use Rattle.std.specs.Option.{option_map}
use Rattle.std.specs.List.{list_any}
use Rattle.std.specs.Str.{bytes_eq}
use Rattle.std.proofs.lemmas.Bool.{and_from, and_parts, both_ways, cases_Bool, cond-false, cond-true, false_from_ne_true, not_from_false, or_left, or_right}
use Rattle.hg_base.specs.PathText.{is_below, is_path}
use Rattle.hg_base.specs.Within.{is_above, is_within}
use Rattle.hg_base.proofs.Below.{below_trans}
use Rattle.hg_base.proofs.Children.{below_parent}
use Rattle.hg_base.proofs.Within.{equal_bytes, same_bytes, within_below, within_itself, within_split, within_trans}
use Rattle.hg_docket.specs.Docket.{Contents}
use Rattle.hg_entry.specs.Entry.{CacheData, EntryData}
use Rattle.hg_image.specs.Reading.{row_at}
use Rattle.hg_image.specs.Reading as reading
use Rattle.hg_image.specs.Rows.{Row, rows_of}
use Rattle.hg_nodes.specs.Drop.{IsPruned, after_clear}
use Rattle.hg_mixed.specs.Edits.{AreLentAsBefore, Lends, LendsUncached}
use Rattle.hg_nodes.specs.Edits.{IsSame, after_cache, after_copy, after_no_caches, after_set}
use Rattle.hg_mixed.specs.Held.{Held, has_list, is_left_in, is_lent, is_lent_in, node_here, table}
use Rattle.hg_mixed.specs.Lent.{AreEnded, AreLentStill, as_dir, covers, lent_at, AreEndedOver}
use Rattle.hg_nodes.specs.Lists.{or_root}
use Rattle.hg_mixed.specs.Own.{Ends, InMemory, memory_table}
use Rattle.hg_nodes.specs.Memory.{AreCleared, IsSourceWritten}
use Rattle.hg_nodes.specs.Node.{AreSame, NodeData, entry_in, node_at, or_blank, planted, with_entry}
use Rattle.hg_mixed.specs.Opened.{node_of}
use Rattle.hg_mixed.specs.Parted.{AreWhole, IsMoved, whole}
use Rattle.hg_nodes.specs.Times.{time_at}
use Rattle.hg_nodes.proofs.Edited.{copy_was, update_other}
use Rattle.hg_mixed.proofs.Kept.{lent_ended, no_root, some_more}
use Rattle.hg_mixed.proofs.Lents.{covered_by}

-- ---- lists are taken

module _ (docket : Contents) (rows : List Row) (first left : List (List ℕ × List Row)) (was own : InMemory) (moved : IsMoved docket rows first was left own) where
  pub whole_moved : AreWhole docket rows first was → AreWhole docket rows left own
  whole_moved are dir lent =
      let had = are dir (sym (moved.lent dir) ∙ lent) in
      record {
        nodes = λ at above. moved.nodes at ∙ had.nodes at above;
        caches = λ at above. moved.same.caches at ∙ had.caches at above;
        lists = λ sub above has. moved.lent (Some sub) ∙ had.lists sub above has;
      }

-- ---- memory is edited

not_true : (b : Bool) → not b ≡ true → b ≡ false
not_true true h = absurd (true≢false (sym h))
not_true false h = refl

not_below : (at path : List ℕ) → is_within at path ≡ false → is_below at path ≡ false
not_below at path apart = false_from_ne_true (is_below at path) (λ below. both_ways (is_within at path) apart (within_below at path below))

not_same : (at path : List ℕ) → is_within at path ≡ false → bytes_eq path at ≡ false
not_same at path apart =
    false_from_ne_true (bytes_eq path at) (λ same. both_ways (is_within at path) apart (ap (is_within at) (same_bytes path at same) ∙ within_itself at))

above_way : (dir : Option (List ℕ)) (at path : List ℕ) → is_above dir at ≡ true → is_within at path ≡ true → is_above dir path ≡ true
above_way None at path above way = refl
above_way (Some d) at path above way = elim (within_split at path way) [
  | inl e ↦ ap (is_below d) e ∙ above
  | inr below ↦ below_trans d at path above below
]

-- beside the way to a path two memories have the same
abbrev pub AreBeside : List ℕ → InMemory → InMemory → Type 0
AreBeside path own new = (at : List ℕ) → is_within at path ≡ false → (node_at new.rows at ≡ node_at own.rows at) × (time_at new.times at ≡ time_at own.times at)

pub lent_still : (rows : List Row) (left : List (List ℕ × List Row)) (own new : InMemory) → AreLentStill own.kept new.kept → (dir : Option (List ℕ)) → is_lent_in rows left new.kept dir ≡ is_lent_in rows left own.kept dir
lent_still rows left own new still dir = ap (λ (o : Option (List Row)). has_list rows dir && (is_left_in left (or_root dir) || is_some o)) (still (or_root dir))

module _ (docket : Contents) (rows : List Row) (left : List (List ℕ × List Row)) (own new : InMemory) where
  node_step : (at : List ℕ) → node_at new.rows at ≡ node_at own.rows at → node_here rows left new.rows at ≡ node_here rows left own.rows at
  node_step at = ap (cond (covers left at) (option_map node_of (row_at rows at)))

  cache_step : (at : List ℕ) → time_at new.times at ≡ time_at own.times at → (whole docket rows left (memory_table new)).caches at ≡ (whole docket rows left (memory_table own)).caches at
  cache_step at = ap (cond (covers left at) ((reading.table_of docket rows).caches at))

  -- nothing differs
  pub whole_same : ((at : List ℕ) → node_at new.rows at ≡ node_at own.rows at) → ((at : List ℕ) → time_at new.times at ≡ time_at own.times at) → AreLentStill own.kept new.kept
      → AreWhole docket rows left own → AreWhole docket rows left new
  whole_same nodes times still are dir lent =
      let had = are dir (sym (lent_still rows left own new still dir) ∙ lent) in
      record {
        nodes = λ at above. node_step at (nodes at) ∙ had.nodes at above;
        caches = λ at above. cache_step at (times at) ∙ had.caches at above;
        lists = λ sub above has. lent_still rows left own new still (Some sub) ∙ had.lists sub above has;
      }

  -- something on the way to a path does, and no list above it is kept
  module _ (paths : (at : List ℕ) → is_some (row_at rows at) ≡ true → is_path at ≡ true) (path : List ℕ) (good : is_path path ≡ true) (free : covers left path ≡ false)
      (ended : AreEnded path own.kept new.kept) where
    pub whole_ended : AreBeside path own new → AreWhole docket rows left own → AreWhole docket rows left new
    whole_ended others are dir lent =
        let parts = and_parts (is_lent_in rows left own.kept dir) (not (is_above dir path)) (sym (lent_ended rows paths left own.kept new.kept path good free ended dir) ∙ lent) in
        let had = are dir parts.0 in
        let apart : (at : List ℕ) → is_above dir at ≡ true → is_within at path ≡ false =
        λ at above. false_from_ne_true (is_within at path) (λ way. both_ways (is_above dir path) (not_true (is_above dir path) parts.1) (above_way dir at path above way)) in
        record {
          nodes = λ at above. node_step at (others at (apart at above)).0 ∙ had.nodes at above;
          caches = λ at above. cache_step at (others at (apart at above)).1 ∙ had.caches at above;
          lists = λ sub above has.
              lent_ended rows paths left own.kept new.kept path good free ended (Some sub)
              ∙ and_from (is_lent_in rows left own.kept (Some sub)) (not (is_below sub path)) (had.lists sub above has)
              (not_from_false (is_below sub path) (not_below sub path (apart sub above)));
        }

-- ---- each edit

-- which lists are lent still after an edit at a path
pub record LendsIn (path : List ℕ) (same : Type 0) (rows : List Row) (first : List (List ℕ × List Row)) (was : InMemory) (left : List (List ℕ × List Row)) (new : InMemory) : Type 0 where
  pub kept : same → (dir : Option (List ℕ)) → is_lent_in rows left new.kept dir ≡ is_lent_in rows first was.kept dir
  pub ended : (same → ⊥) → (dir : Option (List ℕ)) → is_lent_in rows left new.kept dir ≡ (is_lent_in rows first was.kept dir && not (is_above dir path))

entry_same : (entry : EntryData) (o : Option NodeData) → Some entry ≡ entry_in o → Some (with_entry entry o) ≡ o
entry_same entry None h = absurd (cc h)
entry_same entry (Some node) h = ap (λ (e : Option EntryData). Some (record node { entry = e })) h

blank_same : (o : Option NodeData) → is_some o ≡ true → Some (or_blank o) ≡ o
blank_same None h = absurd (true≢false (sym h))
blank_same (Some node) h = refl

planted_same : (b c : Bool) (entry : EntryData) (first o n : Option NodeData) → (b ≡ true → first ≡ o) → n ≡ cond b (Some (with_entry entry first)) (cond c (Some (or_blank o)) o)
    → entry_in n ≡ entry_in o → is_some n ≡ is_some o → n ≡ o
planted_same true c entry first o n own is entries nodes =
    is ∙ ap (λ (f : Option NodeData). Some (with_entry entry f)) (own refl) ∙ entry_same entry o (sym (ap entry_in is) ∙ entries)
planted_same false true entry first o n own is entries nodes = is ∙ blank_same o (sym nodes ∙ ap is_some is)
planted_same false false entry first o n own is entries nodes = is

module _ (docket : Contents) (rows : List Row) (first left : List (List ℕ × List Row)) (was own new : InMemory) (moved : IsMoved docket rows first was left own) (are : AreWhole docket rows first was) where
  now_whole : AreWhole docket rows left own
  now_whole = whole_moved docket rows first left was own moved are

  pub kept_whole : AreSame own.rows new.rows → IsSame (memory_table new) (memory_table own) → AreLentStill own.kept new.kept → AreWhole docket rows left new
  kept_whole nodes same still = whole_same docket rows left own new nodes same.caches still now_whole

  module _ (path : List ℕ) (good : is_path path ≡ true) (free : covers left path ≡ false) where
    not_path : (at : List ℕ) → is_within at path ≡ false → bytes_eq path at ≡ false
    not_path at apart = not_same at path apart

    module _ (ends : Ends path (IsSame (memory_table new) (memory_table own)) own.kept new.kept) where
      by_ends : (IsSame (memory_table new) (memory_table own) → AreSame own.rows new.rows) → AreBeside path own new → AreWhole docket rows left new
      by_ends nodes others = elim ends [
        | inl same ↦ whole_same docket rows left own new (nodes same.0) same.0.caches same.1 now_whole
        | inr ended ↦ whole_ended docket rows left own new moved.parted.paths path good free ended.1 others now_whole
      ]

      pub set_whole : (entry : EntryData) → ((at : List ℕ) → node_at new.rows at ≡ planted path (with_entry entry (node_at own.rows path)) (node_at own.rows) at)
          → IsSame (memory_table new) (after_set path entry (memory_table own)) → AreWhole docket rows left new
      set_whole entry nodes table = by_ends
          (λ same at.
          planted_same (bytes_eq path at) (is_below at path) entry (node_at own.rows path) (node_at own.rows at) (node_at new.rows at) (λ h. ap (node_at own.rows) (same_bytes path at h)) (nodes at)
          (same.entries at) (same.nodes at))
          (λ at apart. (
            nodes at
                ∙ cond-false (bytes_eq path at) (Some (with_entry entry (node_at own.rows path))) (cond (is_below at path) (Some (or_blank (node_at own.rows at))) (node_at own.rows at)) (not_path at apart)
                ∙ cond-false (is_below at path) (Some (or_blank (node_at own.rows at))) (node_at own.rows at) (not_below at path apart),
            table.caches at ∙ update_other (time_at own.times) path None at (not_path at apart),
          ))

      pub copy_whole : (source : Option (List ℕ)) → IsSourceWritten path source own.rows new.rows → IsSame (memory_table new) (after_copy path source (memory_table own)) → AreWhole docket rows left new
      copy_whole source written table = by_ends
          (λ same at. elim written [
            | inl stays ↦ stays.1 at
            | inr put ↦ absurd (put.0 (copy_was path source (memory_table own) (memory_table new) table same))
          ])
          (λ at apart. (elim written [ inl stays ↦ stays.1 at | inr put ↦ put.1 at ∙ update_other (node_at own.rows) path _ at (not_path at apart) ], table.caches at))

      pub cache_whole : (time : Option CacheData) → AreSame own.rows new.rows → IsSame (memory_table new) (after_cache path time (memory_table own)) → AreWhole docket rows left new
      cache_whole time nodes table = by_ends (λ same. nodes) (λ at apart. (nodes at, table.caches at ∙ update_other (time_at own.times) path time at (not_path at apart)))

      -- which lists are lent still
      pub lends_in : (IsSame (memory_table new) (memory_table own) → IsSame (whole docket rows left (memory_table new)) (whole docket rows first (memory_table was)))
          → (IsSame (whole docket rows left (memory_table new)) (whole docket rows first (memory_table was)) → IsSame (memory_table new) (memory_table own))
          → LendsIn path (IsSame (whole docket rows left (memory_table new)) (whole docket rows first (memory_table was))) rows first was left new
      lends_in there back = record {
        kept = λ same dir. elim ends [
          | inl stays ↦ lent_still rows left own new stays.1 dir ∙ moved.lent dir
          | inr ended ↦ absurd (ended.0 (back same))
        ];
        ended = λ differs dir. elim ends [
          | inl stays ↦ absurd (differs (there stays.0))
          | inr ended ↦
              lent_ended rows moved.parted.paths left own.kept new.kept path good free ended.1 dir ∙ ap (λ (b : Bool). b && not (is_above dir path)) (moved.lent dir)
        ];
      }

    -- an entry that was dropped
    module _ (ended : AreEnded path own.kept new.kept) where
      pub drop_whole : AreCleared path own.rows new.rows → IsPruned path (after_clear path (memory_table own)) (memory_table new) → AreWhole docket rows left new
      drop_whole cleared p = whole_ended docket rows left own new moved.parted.paths path good free ended
          (λ at apart. (node_beside at apart (is_some (node_at new.rows at)) refl, p.caches at ∙ cond-false (p.gone at || p.stale at) None (time_at own.times at) (not_touched at apart))) now_whole
        where
          not_gone : (at : List ℕ) → is_within at path ≡ false → p.gone at ≡ false
          not_gone at apart = false_from_ne_true (p.gone at) (λ gone. both_ways (is_within at path) apart (p.goes at gone).on_way)

          not_stale : (at : List ℕ) → is_within at path ≡ false → p.stale at ≡ false
          not_stale at apart = false_from_ne_true (p.stale at) (λ stale.
              let kid = p.is_stale at stale in
              both_ways (is_within at path) apart (within_trans at kid.0 path (within_below at kid.0 (below_parent at kid.0 kid.2)) (p.goes kid.0 kid.1).on_way))

          not_touched : (at : List ℕ) → is_within at path ≡ false → (p.gone at || p.stale at) ≡ false
          not_touched at apart = ap (λ (b : Bool). b || p.stale at) (not_gone at apart) ∙ not_stale at apart

          and_not : (a b : Bool) → b ≡ false → (a && not b) ≡ a
          and_not true b h = ap not h
          and_not false b h = refl

          some_as : (at : List ℕ) → is_within at path ≡ false → is_some (node_at new.rows at) ≡ is_some (node_at own.rows at)
          some_as at apart = p.nodes at ∙ and_not (is_some (node_at own.rows at)) (p.gone at) (not_gone at apart)

          none_both : (a b : Option NodeData) → is_some a ≡ false → is_some b ≡ false → a ≡ b
          none_both None None p q = refl
          none_both (Some a) b p q = absurd (true≢false p)
          none_both None (Some b) p q = absurd (true≢false q)

          node_beside : (at : List ℕ) → is_within at path ≡ false → (some : Bool) → is_some (node_at new.rows at) ≡ some → node_at new.rows at ≡ node_at own.rows at
          node_beside at apart true is = cleared at is ∙ update_other (node_at own.rows) path _ at (not_path at apart)
          node_beside at apart false is = none_both (node_at new.rows at) (node_at own.rows at) is (sym (some_as at apart) ∙ is)

      pub lent_dropped : (dir : Option (List ℕ)) → is_lent_in rows left new.kept dir ≡ (is_lent_in rows first was.kept dir && not (is_above dir path))
      lent_dropped dir = lent_ended rows moved.parted.paths left own.kept new.kept path good free ended dir ∙ ap (λ (b : Bool). b && not (is_above dir path)) (moved.lent dir)

-- ---- all caches go

any_timed : (dir : Option (List ℕ)) (times : List (List ℕ × CacheData)) → list_any (λ t. is_above dir t.0) times ≡ true → (at : List ℕ) × (is_some (time_at times at) ≡ true) × (is_above dir at ≡ true)
any_timed dir [] h = absurd (true≢false (sym h))
any_timed dir (t ∷ times) h = elim (cases_Bool (is_above dir t.0)) [
  | inl here ↦ (t.0, ap is_some (cond-true (bytes_eq t.0 t.0) (Some t.1) (time_at times t.0) (equal_bytes t.0)), here)
  | inr other ↦
      let more = any_timed dir times (sym (ap (λ (b : Bool). b || list_any (λ t. is_above dir t.0) times) other) ∙ h) in
      (more.0, some_more (bytes_eq more.0 t.0) t.1 (time_at times more.0) more.1, more.2)
]

timed_any : (dir : Option (List ℕ)) (times : List (List ℕ × CacheData)) (at : List ℕ) → is_some (time_at times at) ≡ true → is_above dir at ≡ true → list_any (λ t. is_above dir t.0) times ≡ true
timed_any dir [] at some above = absurd (true≢false (sym some))
timed_any dir (t ∷ times) at some above = elim (cases_Bool (bytes_eq at t.0)) [
  | inl here ↦ or_left (is_above dir t.0) (list_any (λ t. is_above dir t.0) times) (ap (is_above dir) (sym (same_bytes at t.0 here)) ∙ above)
  | inr other ↦
      or_right (is_above dir t.0) (list_any (λ t. is_above dir t.0) times)
      (timed_any dir times at (sym (ap is_some (cond-false (bytes_eq at t.0) (Some t.1) (time_at times at) other)) ∙ some) above)
]

module _ (docket : Contents) (rows : List Row) (first left : List (List ℕ × List Row)) (was own new : InMemory) (moved : IsMoved docket rows first was left own)
    (none : (at : List ℕ) → covers left at ≡ false) (ended : AreEndedOver own.times own.kept new.kept) where
  -- a directory above no cached one keeps its list
  text_still : (dir : List ℕ) → ((at : List ℕ) → is_some (time_at own.times at) ≡ true → is_above (as_dir dir) at ≡ false) → lent_at new.kept dir ≡ lent_at own.kept dir
  text_still dir beside =
      ended dir
      ∙ cond-false (list_any (λ t. is_above (as_dir dir) t.0) own.times) None (lent_at own.kept dir)
      (false_from_ne_true (list_any (λ t. is_above (as_dir dir) t.0) own.times) (λ h.
      let found = any_timed (as_dir dir) own.times h in
      both_ways (is_above (as_dir dir) found.0) (beside found.0 found.1) found.2))

  of_text : (dir : Option (List ℕ)) → lent_at new.kept (or_root dir) ≡ lent_at own.kept (or_root dir) → is_lent_in rows left new.kept dir ≡ is_lent_in rows left own.kept dir
  of_text dir = ap (λ (o : Option (List Row)). has_list rows dir && (is_left_in left (or_root dir) || is_some o))

  own_still : (dir : Option (List ℕ)) → ((at : List ℕ) → is_some (time_at own.times at) ≡ true → is_above dir at ≡ false) → is_lent_in rows left new.kept dir ≡ is_lent_in rows left own.kept dir
  own_still None beside = of_text None (text_still [] beside)
  own_still (Some []) beside =
      ap (λ (b : Bool). b && (is_left_in left [] || is_some (lent_at new.kept []))) (no_root rows moved.parted.paths)
      ∙ sym (ap (λ (b : Bool). b && (is_left_in left [] || is_some (lent_at own.kept []))) (no_root rows moved.parted.paths))
  own_still (Some (b ∷ dir)) beside = of_text (Some (b ∷ dir)) (text_still (b ∷ dir) beside)

  above_text : (dir : Option (List ℕ)) (at : List ℕ) → is_above dir at ≡ true → is_above (as_dir (or_root dir)) at ≡ true
  above_text None at h = refl
  above_text (Some []) at h = refl
  above_text (Some (b ∷ dir)) at h = h

  left_none : (dir at : List ℕ) → is_above (as_dir dir) at ≡ true → is_left_in left dir ≡ false
  left_none dir at above =
      ap (λ (b : Bool). b || covers left dir) (false_from_ne_true (is_some (lent_at left dir)) (λ some. both_ways (covers left at) (none at) (covered_by left dir at some above))) ∙ none dir

  and_false : (b : Bool) → (b && false) ≡ false
  and_false true = refl
  and_false false = refl

  own_ended : (dir : Option (List ℕ)) (at : List ℕ) → is_some (time_at own.times at) ≡ true → is_above dir at ≡ true → is_lent_in rows left new.kept dir ≡ false
  own_ended dir at some above =
      let up = above_text dir at above in
      ap (λ (b : Bool). has_list rows dir && (b || is_some (lent_at new.kept (or_root dir)))) (left_none (or_root dir) at up)
      ∙ ap (λ (o : Option (List Row)). has_list rows dir && is_some o)
      (ended (or_root dir)
      ∙ cond-true (list_any (λ t. is_above (as_dir (or_root dir)) t.0) own.times) None (lent_at own.kept (or_root dir)) (timed_any (as_dir (or_root dir)) own.times at some up))
      ∙ and_false (has_list rows dir)

  -- no cached directory stands below one whose list is lent still
  beside_cached : (dir : Option (List ℕ)) → is_lent_in rows left new.kept dir ≡ true → (at : List ℕ) → is_some (time_at own.times at) ≡ true → is_above dir at ≡ false
  beside_cached dir lent at some = false_from_ne_true (is_above dir at) (λ above. true≢false (sym lent ∙ own_ended dir at some above))

  own_cache : (at : List ℕ) → (whole docket rows first (memory_table was)).caches at ≡ time_at own.times at
  own_cache at = sym (moved.same.caches at) ∙ cond-false (covers left at) ((reading.table_of docket rows).caches at) (time_at own.times at) (none at)

  none_is : {X : Type 0} (o : Option X) → (is_some o ≡ true → ⊥) → o ≡ None
  none_is None h = refl
  none_is (Some x) h = absurd (h refl)

  pub uncached_whole : AreSame own.rows new.rows → IsSame (memory_table new) (after_no_caches (memory_table own)) → AreWhole docket rows first was → AreWhole docket rows left new
  uncached_whole nodes table are dir lent =
      let beside = beside_cached dir lent in
      let had = whole_moved docket rows first left was own moved are dir (sym (own_still dir beside) ∙ lent) in
      record {
        nodes = λ at above. ap (cond (covers left at) (option_map node_of (row_at rows at))) (nodes at) ∙ had.nodes at above;
        caches = λ at above.
            ap (cond (covers left at) ((reading.table_of docket rows).caches at))
            (table.caches at ∙ sym (none_is (time_at own.times at) (λ some. both_ways (is_above dir at) (beside at some) above)))
            ∙ had.caches at above;
        lists = λ sub above has.
            own_still (Some sub) (λ at some. false_from_ne_true (is_below sub at) (λ below. both_ways (is_above dir at) (beside at some) (above_way dir sub at above (within_below sub at below))))
            ∙ had.lists sub above has;
      }

  pub lent_uncached : (dir : Option (List ℕ)) → ((at : List ℕ) → is_some ((whole docket rows first (memory_table was)).caches at) ≡ true → is_above dir at ≡ false)
      → is_lent_in rows left new.kept dir ≡ is_lent_in rows first was.kept dir
  lent_uncached dir beside = own_still dir (λ at some. beside at (ap is_some (own_cache at) ∙ some)) ∙ moved.lent dir

  pub ended_uncached : (dir : Option (List ℕ)) (at : List ℕ) → is_some ((whole docket rows first (memory_table was)).caches at) ≡ true → is_above dir at ≡ true → is_lent_in rows left new.kept dir ≡ false
  ended_uncached dir at some above = own_ended dir at (sym (ap is_some (own_cache at)) ∙ some) above

-- ---- of a table that is opened

abbrev pub held_of : Contents → List ℕ → List (List ℕ × List Row) → InMemory → Held
held_of docket bytes left own =
    record {
      docket = docket;
      bytes = bytes;
      p1 = own.p1;
      p2 = own.p2;
      hash = own.hash;
      changed = own.changed;
      rows = own.rows;
      times = own.times;
      left = left;
      kept = own.kept;
    }

module _ (docket : Contents) (bytes : List ℕ) (first left : List (List ℕ × List Row)) (was new : InMemory) (old : Held) (same : held_of docket bytes first was ≡ old) where
  pub lends_held : (path : List ℕ)
      → LendsIn path (IsSame (whole docket (rows_of docket bytes) left (memory_table new)) (whole docket (rows_of docket bytes) first (memory_table was))) (rows_of docket bytes) first was left new
      → Lends path (IsSame (table (held_of docket bytes left new)) (table old)) old (held_of docket bytes left new)
  lends_held path lends =
      subst (λ (h : Held). Lends path (IsSame (table (held_of docket bytes left new)) (table h)) h (held_of docket bytes left new)) same (record { kept = lends.kept; ended = lends.ended })

  pub lent_held : ((dir : Option (List ℕ)) → is_lent_in (rows_of docket bytes) left new.kept dir ≡ is_lent_in (rows_of docket bytes) first was.kept dir) → AreLentAsBefore old (held_of docket bytes left new)
  lent_held = subst (λ (h : Held). (dir : Option (List ℕ)) → is_lent (held_of docket bytes left new) dir ≡ is_lent h dir) same

  pub ended_held : (path : List ℕ)
      → ((dir : Option (List ℕ)) → is_lent_in (rows_of docket bytes) left new.kept dir ≡ (is_lent_in (rows_of docket bytes) first was.kept dir && not (is_above dir path)))
      → (dir : Option (List ℕ)) → is_lent (held_of docket bytes left new) dir ≡ (is_lent old dir && not (is_above dir path))
  ended_held path = subst (λ (h : Held). (dir : Option (List ℕ)) → is_lent (held_of docket bytes left new) dir ≡ (is_lent h dir && not (is_above dir path))) same

  pub uncached_held : ((dir : Option (List ℕ)) → ((at : List ℕ) → is_some ((whole docket (rows_of docket bytes) first (memory_table was)).caches at) ≡ true → is_above dir at ≡ false)
      → is_lent_in (rows_of docket bytes) left new.kept dir ≡ is_lent_in (rows_of docket bytes) first was.kept dir)
      → ((dir : Option (List ℕ)) (at : List ℕ) → is_some ((whole docket (rows_of docket bytes) first (memory_table was)).caches at) ≡ true → is_above dir at ≡ true → is_lent_in (rows_of docket bytes) left new.kept dir ≡ false)
      → LendsUncached old (held_of docket bytes left new)
  uncached_held kept ended = subst (λ (h : Held). LendsUncached h (held_of docket bytes left new)) same (record { kept = kept; ended = ended })
