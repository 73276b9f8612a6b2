-- What clashes in memory clashes in the table, where all that stands above a path or below it is in memory.
use Rattle.std.proofs.Common.{ℕ, ◌≡◌, Bool, true, false, not, ◌&&◌, ◌||◌, inl, inr, List, Option, Some, None, refl, sym, ap, ◌∙◌, subst, true≢false}
use Rattle.std.specs.Prelude.{is_some, Result, Ok, Err, IfOk, MatchBool}
use Rattle.std.proofs.lemmas.Bool.{cases_Bool, and_right, cond-true, both_ways, false_from_ne_true}
use Rattle.hg_base.specs.PathText.{is_below, joined, parent_of}
use Rattle.hg_base.proofs.Children.{below_through}
use Rattle.hg_base.proofs.Components.{parent_joined}
use Rattle.hg_base.proofs.Within.{within_below, within_itself}
use Rattle.hg_docket.specs.Docket.{Contents}
use Rattle.hg_entry.specs.Entry.{EntryData}
use Rattle.hg_entry.specs.Table.{Table}
use Rattle.hg_image.specs.Reading as reading
use Rattle.hg_image.specs.Rows.{Row}
use Rattle.hg_nodes.specs.Clash.{IsClash, IsLeast, Sets, clashes, is_tracked_entry}
use Rattle.hg_mixed.specs.Held.{Held, table}
use Rattle.hg_mixed.specs.Lent.{covers}
use Rattle.hg_nodes.specs.Lists.{has_rows_in, or_root}
use Rattle.hg_mixed.specs.Own.{InMemory, memory_table}
use Rattle.hg_nodes.specs.Node.{NodeData, entry_in, node_at}
use Rattle.hg_mixed.specs.Near.{IsNear}
use Rattle.hg_mixed.specs.Parted.{IsFree, IsMoved, IsParted, whole}
use Rattle.hg_nodes.specs.declared.fault.SetFault.{SetFault}
use Rattle.hg_nodes.specs.declared.fault.SetFault.TheVariants as a_fault
use Rattle.hg_mixed.proofs.Covered.{kid_free, way_free}
use Rattle.hg_mixed.proofs.Lifted.{own_entry, own_node}
use Rattle.hg_nodes.proofs.Listed.{rows_none}
use Rattle.hg_nodes.proofs.Searched.{least_same}

-- ---- two tables with the same entries near a path

match_on : (b c : Bool) (P Q R : Type 0) → b ≡ c → (P → Q) → MatchBool b P R → MatchBool c Q R
match_on true c P Q R same f m = subst (λ (x : Bool). MatchBool x Q R) same (f m)
match_on false c P Q R same f m = subst (λ (x : Bool). MatchBool x Q R) same m

tracked_step : (near : Bool) (a b : Option EntryData) → (near ≡ true → a ≡ b) → (is_tracked_entry b && near) ≡ (is_tracked_entry a && near)
tracked_step true a b same = ap (λ (o : Option EntryData). is_tracked_entry o && true) (sym (same refl))
tracked_step false a b same = and_right (is_tracked_entry b) false refl ∙ sym (and_right (is_tracked_entry a) false refl)

module _ (path : List ℕ) (a b : Table)
    (near : (other : List ℕ) → (is_below other path || is_below path other) ≡ true → a.entries other ≡ b.entries other) where
  least_on : (found : Option (List ℕ)) → IsLeast (clashes path a.entries) found → IsLeast (clashes path b.entries) found
  least_on found = least_same (clashes path a.entries) (clashes path b.entries) found
      (λ other. tracked_step (is_below other path || is_below path other) (a.entries other) (b.entries other) (near other))

module _ (path : List ℕ) (entry : EntryData) (a b : Table) (here : a.entries path ≡ b.entries path)
    (near : (other : List ℕ) → (is_below other path || is_below path other) ≡ true → a.entries other ≡ b.entries other) where
  clash_on : (found : Option (List ℕ)) → IsClash path entry a found → IsClash path entry b found
  clash_on found = match_on (entry.w && not (is_tracked_entry (a.entries path))) (entry.w && not (is_tracked_entry (b.entries path)))
      (IsLeast (clashes path a.entries) found) (IsLeast (clashes path b.entries) found) (found ≡ None)
      (ap (λ (o : Option EntryData). entry.w && not (is_tracked_entry o)) here)
      (least_on path a b near found)

  pub sets_on : (result : Result (Unit {0}) SetFault) → Sets path entry a result → Sets path entry b result
  sets_on (Ok done) = clash_on None
  sets_on (Err a_fault.OutOfMemory) = λ sets. tt
  sets_on (Err (a_fault.Clash other)) = clash_on (Some other)

-- ---- where a path has no children in memory, nothing stands below it

module _ (docket : Contents) (rows : List Row) (left : List (List ℕ × List Row)) (path : List ℕ) (free : IsFree left path) (own : InMemory) (parted : IsParted docket rows left (memory_table own))
    (no_kids : has_rows_in own.rows path ≡ false) where
  nothing_below : (at : List ℕ) → is_below path at ≡ true → (whole docket rows left (memory_table own)).nodes at ≡ false
  nothing_below at below = false_from_ne_true ((whole docket rows left (memory_table own)).nodes at) (λ is.
      let through = below_through path at below in
      let kid : List ℕ = joined (Some path) through.0 in
      let parent : parent_of kid ≡ Some path = parent_joined (Some path) through.0 through.1 in
      let there : (whole docket rows left (memory_table own)).nodes kid ≡ true = elim through.2 [
        | inl e ↦ ap (whole docket rows left (memory_table own)).nodes (sym e) ∙ is
        | inr more ↦ parted.formed.rooted kid at more is
      ] in
      let not_covered = kid_free left path free path kid (within_itself path) (parted.formed.paths kid there) parent in
      true≢false (sym there ∙ own_node docket rows left (memory_table own) kid not_covered ∙ ap is_some (rows_none own.rows path kid no_kids (ap or_root parent))))

  own_none : (at : List ℕ) → is_below path at ≡ true → (memory_table own).nodes at ≡ false
  own_none at below = false_from_ne_true ((memory_table own).nodes at) (λ is. elim (cases_Bool (covers left at)) [
    | inl c ↦ both_ways ((whole docket rows left (memory_table own)).nodes at) (nothing_below at below) (covered_node at c ∙ parted.known at is c)
    | inr not_covered ↦ both_ways ((whole docket rows left (memory_table own)).nodes at) (nothing_below at below) (own_node docket rows left (memory_table own) at not_covered ∙ is)
  ])
    where
      covered_node : (at : List ℕ) → covers left at ≡ true → (whole docket rows left (memory_table own)).nodes at ≡ is_some (reading.row_at rows at)
      covered_node at c = cond-true (covers left at) (is_some (reading.row_at rows at)) ((memory_table own).nodes at) c

  no_entry : (o : Option NodeData) → is_some o ≡ false → entry_in o ≡ None
  no_entry None h = refl
  no_entry (Some node) h = absurd (true≢false h)

  pub near_bare : IsNear docket rows left (memory_table own) path
  near_bare = record {
    free = free.above;
    near = λ other h. elim (cases_Bool (is_below other path)) [
      | inl up ↦ own_entry docket rows left (memory_table own) other (way_free left path free.above other (within_below other path up))
      | inr not_up ↦
          let below : is_below path other ≡ true = sym (ap (λ (b : Bool). b || is_below path other) not_up) ∙ h in
          parted.formed.entries other (nothing_below other below) ∙ sym (no_entry (node_at own.rows other) (own_none other below))
    ];
  }

-- where nothing is the image's, all is in memory
pub near_all : (docket : Contents) (rows : List Row) (left : List (List ℕ × List Row)) (own : InMemory) (path : List ℕ) → ((at : List ℕ) → covers left at ≡ false) → IsNear docket rows left (memory_table own) path
near_all docket rows left own path none = record { free = none path; near = λ other h. own_entry docket rows left (memory_table own) other (none other) }

-- ---- after lists were taken

module _ (old was : Held) (same : was ≡ old) (docket : Contents) (rows : List Row) (first left : List (List ℕ × List Row)) (before own : InMemory) (moved : IsMoved docket rows first before left own)
    (path : List ℕ) (near : IsNear docket rows left (memory_table own) path) (are : table was ≡ whole docket rows first (memory_table before)) where
  moved_entry : (at : List ℕ) → (memory_table own).entries at ≡ (whole docket rows left (memory_table own)).entries at → (memory_table own).entries at ≡ (table was).entries at
  moved_entry at here = here ∙ moved.same.entries at ∙ ap (λ (t : Table). t.entries at) (sym are)

  pub sets_whole : (entry : EntryData) (result : Result (Unit {0}) SetFault) → Sets path entry (memory_table own) result → Sets path entry (table old) result
  sets_whole entry result sets = subst (λ (h : Held). Sets path entry (table h) result) same
      (sets_on path entry (memory_table own) (table was)
      (moved_entry path (sym (own_entry docket rows left (memory_table own) path near.free)))
      (λ other h. moved_entry other (sym (near.near other h))) result sets)

  pub least_result : {E : Type 0} (result : Result (Option (List ℕ)) E) → IfOk result (IsLeast (clashes path (memory_table own).entries)) → IfOk result (IsLeast (clashes path (table old).entries))
  least_result (Ok found) least = subst (λ (h : Held). IsLeast (clashes path (table h).entries) found) same
      (least_on path (memory_table own) (table was) (λ other h. moved_entry other (sym (near.near other h))) found least)
  least_result (Err fault) least = tt
