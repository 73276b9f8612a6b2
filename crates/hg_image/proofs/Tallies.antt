-- A count of a list, node by node.
use Rattle.std.proofs.Common.{◌≡◌, ℕ, ◌+◌, ◌-◌, ◌*◌, ◌/◌, ◌<◌, ◌≤◌, Bool, true, false, not, ◌&&◌, cond, List, [], ◌∷◌, ◌++◌, length, Option, Some, None, ◌⊎◌, inl, inr, refl, sym, ap, ◌∙◌, subst, arith, eqb, leb, leb-true, leb-false, le-leb}
use Rattle.std.specs.Prelude.{count_by, is_some}
use Rattle.std.proofs.lemmas.Bool.{and_parts, and_from, and_right}
use Rattle.std.proofs.lemmas.Bool.Decides.{nat_tests}
use Rattle.std.proofs.lemmas.List.{length-append}
use Rattle.std.proofs.lemmas.List.Sums.{count_by-le-length}
use Rattle.hg_docket.specs.Docket.{Contents}
use Rattle.hg_image.specs.declared.counts.Tally.{Tally}
use Rattle.hg_entry.specs.Entry.{has_entry}
use Rattle.hg_entry.specs.Flags.{has, wdir_tracked}
use Rattle.hg_node.specs.declared.record.Rec.{Rec}
use Rattle.hg_image.specs.Node.{part_at, path_of, record_at}
use Rattle.hg_image.specs.Rows.{Row, row_of, nodes_rows, list_rows, AreParted}
use Rattle.hg_image.specs.Walk.{list_fault}
use Rattle.hg_image.specs.Counts.{is_entry, is_tracked, is_copy, are_counted, is_counted}
use Rattle.hg_image.specs.Tally.{IsFew, one_of, tally_of, plus, tally_within, with_node}
use Rattle.hg_image.proofs.Parted.{list_parted}
use Rattle.hg_image.proofs.RowsOf.{rows_end, rows_step, rows_whole}
use Rattle.hg_image.proofs.Counted.{agrees, count_append, count_cons, counted_parts}

-- rows of which there aren't too many, and each of which records its counts
pub record Within (most : ℕ) (rows : List Row) (sum : Tally) : Type 0 where
  pub room : length rows ≤ most
  pub counted : are_counted rows ≡ true
  pub same : sum ≡ tally_of rows

cond_some : (t : Bool) (a b : Tally) → cond t (Some a) None ≡ Some b → (t ≡ true) × (b ≡ a)
cond_some true a b h = (refl, cc)
cond_some false a b h = absurd (cc)

cond_none : (t : Bool) (a : Tally) → cond t (Some a) None ≡ None → t ≡ false
cond_none true a h = absurd (cc)
cond_none false a h = refl

pub within_some : (most : ℕ) (rows : List Row) (sum : Tally) → tally_within most rows ≡ Some sum → Within most rows sum
unfolding tally_within
within_some most rows sum h =
    let found = cond_some (leb (length rows) most && are_counted rows) (tally_of rows) sum h in
    let parts = and_parts (leb (length rows) most) (are_counted rows) found.0 in
    record { room = leb-true (length rows) most parts.0; counted = parts.1; same = found.1 }

pub within_from : (most : ℕ) (rows : List Row) (sum : Tally) → Within most rows sum → Some sum ≡ tally_within most rows
unfolding tally_within
within_from most rows sum w =
    sym (ap (λ (t : Bool). cond t (Some (tally_of rows)) None) (and_from (leb (length rows) most) (are_counted rows) (le-leb (length rows) most w.room) w.counted) ∙ ap Some (sym w.same))

-- too many rows, or one that doesn't record its counts
pub within_long : (most : ℕ) (rows : List Row) → most < length rows → None ≡ tally_within most rows
unfolding tally_within
within_long most rows long =
    let test : leb (length rows) most ≡ false = grind (arith, nat_tests, long) in
    sym (ap (λ (t : Bool). cond (t && are_counted rows) (Some (tally_of rows)) None) test)

pub within_wrong : (most : ℕ) (rows : List Row) → are_counted rows ≡ false → None ≡ tally_within most rows
unfolding tally_within
within_wrong most rows wrong = sym (ap (λ (t : Bool). cond t (Some (tally_of rows)) None) (and_right (leb (length rows) most) (are_counted rows) wrong))

pub within_none : (most : ℕ) (rows : List Row) → tally_within most rows ≡ None → (most < length rows) ⊎ (are_counted rows ≡ false)
unfolding tally_within
within_none most rows h = split (leb (length rows) most) (are_counted rows) refl refl (cond_none (leb (length rows) most && are_counted rows) (tally_of rows) h)
  where
    split : (a b : Bool) → leb (length rows) most ≡ a → are_counted rows ≡ b → (leb (length rows) most && are_counted rows) ≡ false → (most < length rows) ⊎ (are_counted rows ≡ false)
    split false b p q h = inl (leb-false (length rows) most p)
    split true false p q h = inr q
    split true true p q h = absurd (cc)

-- what was summed of some rows, where some are left
pub record Summed (whole rest : List Row) (sum : Tally) (most : ℕ) : Type 0 where
  pub counted : are_counted whole ≡ are_counted rest
  pub nodes : length whole ≡ sum.nodes + length rest
  pub entries : count_by is_entry whole ≡ sum.entries + count_by is_entry rest
  pub tracked : count_by is_tracked whole ≡ sum.tracked + count_by is_tracked rest
  pub copies : count_by is_copy whole ≡ sum.copies + count_by is_copy rest
  pub room : sum.nodes ≤ most
  pub few_entries : sum.entries ≤ sum.nodes
  pub few_tracked : sum.tracked ≤ sum.nodes
  pub few_copies : sum.copies ≤ sum.nodes

summed_none : (whole : List Row) (most : ℕ) → Summed whole whole (tally_of []) most
summed_none whole most = record {
  counted = refl;
  nodes = omega arith;
  entries = omega arith;
  tracked = omega arith;
  copies = omega arith;
  room = omega arith;
  few_entries = omega arith;
  few_tracked = omega arith;
  few_copies = omega arith;
}

count_three : (test : Row → Bool) (row : Row) (under rest : List Row) → count_by test (row ∷ (under ++ rest)) ≡ count_by test (row ∷ []) + count_by test under + count_by test rest
count_three test row under rest = omega (arith, count_cons test row (under ++ rest), count_cons test row [], count_append test under rest)

module _ (whole : List Row) (row : Row) (under rest : List Row) (sum : Tally) (most : ℕ) (far : Summed whole (row ∷ (under ++ rest)) sum most) (parts : AreParted row.path under rest) where
  all_nodes : length whole ≡ sum.nodes + 1 + length under + length rest
  all_nodes = omega (arith, far.nodes, length-append under rest)

  all_counted : are_counted whole ≡ (agrees row (count_by is_entry under) (count_by is_tracked under) && (are_counted under && are_counted rest))
  all_counted = far.counted ∙ counted_parts row under rest parts

  -- what is below the node has too many nodes, or doesn't record its counts
  summed_stops : None ≡ tally_within most under → None ≡ tally_within most whole
  summed_stops h =
      elim (within_none most under (sym h)) [
        | inl long ↦ within_long most whole (omega (arith, all_nodes, long))
        | inr wrong ↦
            within_wrong most whole (all_counted ∙ and_right (agrees row (count_by is_entry under) (count_by is_tracked under)) (are_counted under && are_counted rest)
            (ap (λ (t : Bool). t && are_counted rest) wrong))
      ]

  module _ (u : Tally) (within : Within most under u) where
    same_agrees : agrees row u.entries u.tracked ≡ agrees row (count_by is_entry under) (count_by is_tracked under)
    same_agrees = ap (λ (t : Tally). agrees row t.entries t.tracked) within.same

    -- the node doesn't record its counts
    summed_differs : agrees row u.entries u.tracked ≡ false → None ≡ tally_within most whole
    summed_differs wrong = within_wrong most whole (all_counted ∙ ap (λ (t : Bool). t && (are_counted under && are_counted rest)) (sym same_agrees ∙ wrong))

    -- there is no room for them
    summed_full : most < sum.nodes + 1 + u.nodes → None ≡ tally_within most whole
    summed_full full =
        let nodes : u.nodes ≡ length under = ap (λ (t : Tally). t.nodes) within.same in
        within_long most whole (omega (arith, all_nodes, nodes, full))

    -- it does, and there is
    summed_more : sum.nodes + 1 + u.nodes ≤ most → agrees row u.entries u.tracked ≡ true → Summed whole rest (plus sum (plus (tally_of (row ∷ [])) u)) most
    summed_more inside right =
        let nodes : u.nodes ≡ length under = ap (λ (t : Tally). t.nodes) within.same in
        let entries : u.entries ≡ count_by is_entry under = ap (λ (t : Tally). t.entries) within.same in
        let tracked : u.tracked ≡ count_by is_tracked under = ap (λ (t : Tally). t.tracked) within.same in
        let copies : u.copies ≡ count_by is_copy under = ap (λ (t : Tally). t.copies) within.same in
        record {
          counted = all_counted
              ∙ ap (λ (t : Bool). t && (are_counted under && are_counted rest)) (sym same_agrees ∙ right)
              ∙ ap (λ (t : Bool). t && are_counted rest) within.counted;
          nodes = omega (arith, all_nodes, nodes);
          entries = omega (arith, far.entries, count_three is_entry row under rest, entries);
          tracked = omega (arith, far.tracked, count_three is_tracked row under rest, tracked);
          copies = omega (arith, far.copies, count_three is_copy row under rest, copies);
          room = omega (arith, inside);
          few_entries = omega (arith, far.few_entries, count_by-le-length is_entry (row ∷ []), count_by-le-length is_entry under, entries, nodes);
          few_tracked = omega (arith, far.few_tracked, count_by-le-length is_tracked (row ∷ []), count_by-le-length is_tracked under, tracked, nodes);
          few_copies = omega (arith, far.few_copies, count_by-le-length is_copy (row ∷ []), count_by-le-length is_copy under, copies, nodes);
        }

-- nothing is left
summed_all : (whole rest : List Row) (sum : Tally) (most : ℕ) → Summed whole rest sum most → rest ≡ [] → Within most whole sum
summed_all whole rest sum most far none =
    let nothing : length rest ≡ 0 = ap length none in
    let entries : count_by is_entry rest ≡ 0 = ap (count_by is_entry) none in
    let tracked : count_by is_tracked rest ≡ 0 = ap (count_by is_tracked) none in
    let copies : count_by is_copy rest ≡ 0 = ap (count_by is_copy) none in
    let n : sum.nodes ≡ length whole = omega (arith, far.nodes, nothing) in
    let e : sum.entries ≡ count_by is_entry whole = omega (arith, far.entries, entries) in
    let t : sum.tracked ≡ count_by is_tracked whole = omega (arith, far.tracked, tracked) in
    let c : sum.copies ≡ count_by is_copy whole = omega (arith, far.copies, copies) in
    record { room = omega (arith, n, far.room); counted = far.counted ∙ ap are_counted none; same = λ i. record { nodes = n i; entries = e i; tracked = t i; copies = c i } }

-- an image of which no tally is found isn't counted; one of which it is found is counted where the docket agrees
pub counted_missing : (docket : Contents) (rows : List Row) → None ≡ tally_within (docket.used / 44) rows → false ≡ is_counted docket rows
counted_missing docket rows h =
    elim (within_none (docket.used / 44) rows (sym h)) [
      | inl long ↦
          let test : leb (44 * length rows) docket.used ≡ false = grind (arith, nat_tests, long) in
          sym (and_right (eqb docket.entries (count_by is_entry rows) && eqb docket.copies (count_by is_copy rows) && are_counted rows) (leb (44 * length rows) docket.used) test)
      | inr wrong ↦
          sym (ap (λ (t : Bool). t && leb (44 * length rows) docket.used)
          (and_right (eqb docket.entries (count_by is_entry rows) && eqb docket.copies (count_by is_copy rows)) (are_counted rows) wrong))
    ]

pub counted_found : (docket : Contents) (rows : List Row) (sum : Tally) → Some sum ≡ tally_within (docket.used / 44) rows → (eqb docket.entries sum.entries && eqb docket.copies sum.copies) ≡ is_counted docket rows
counted_found docket rows sum h =
    let w = within_some (docket.used / 44) rows sum (sym h) in
    let room : length rows ≤ docket.used / 44 = w.room in
    let test : leb (44 * length rows) docket.used ≡ true = le-leb (44 * length rows) docket.used (omega (arith, room)) in
    ap (λ (t : Tally). eqb docket.entries t.entries && eqb docket.copies t.copies) w.same
    ∙ sym (ap (λ (t : Bool). eqb docket.entries (count_by is_entry rows) && eqb docket.copies (count_by is_copy rows) && t && leb (44 * length rows) docket.used) w.counted
    ∙ ap (λ (t : Bool). eqb docket.entries (count_by is_entry rows) && eqb docket.copies (count_by is_copy rows) && true && t) test
    ∙ true_last (eqb docket.entries (count_by is_entry rows) && eqb docket.copies (count_by is_copy rows)))
  where
    true_last : (t : Bool) → (t && true && true) ≡ t
    true_last true = refl
    true_last false = refl

-- ---- a node more

-- one row alone
one_tally : (bytes : List ℕ) (rec : Rec) → tally_of (row_of bytes rec ∷ []) ≡ one_of rec
one_tally bytes rec =
    let row = row_of bytes rec in
    let copy : is_copy row ≡ (has_entry rec.flags && not (eqb rec.copy_start 0)) = some_if (has_entry rec.flags && not (eqb rec.copy_start 0)) (part_at bytes rec.copy_start rec.copy_len) in
    let entries : count_by is_entry (row ∷ []) ≡ cond (has_entry rec.flags) 1 0 = omega (arith, count_cons is_entry row []) in
    let tracked : count_by is_tracked (row ∷ []) ≡ cond (has rec.flags wdir_tracked) 1 0 = omega (arith, count_cons is_tracked row []) in
    let copies : count_by is_copy (row ∷ []) ≡ cond (has_entry rec.flags && not (eqb rec.copy_start 0)) 1 0 =
    omega (arith, count_cons is_copy row [], ap (λ (t : Bool). cond {A = ℕ} t 1 0) copy) in
    λ i. record { nodes = 1; entries = entries i; tracked = tracked i; copies = copies i }
  where
    some_if : (t : Bool) (text : List ℕ) → is_some (cond t (Some text) None) ≡ t
    some_if true text = refl
    some_if false text = refl

-- what was counted of some rows, where some are left: nothing where there are too many, or one doesn't record its counts
abbrev pub Tallied : ℕ → List Row → List Row → Option Tally → Type 0
Tallied most whole rest None = None ≡ tally_within most whole
Tallied most whole rest (Some sum) = Summed whole rest sum most

pub tallied_none : (most : ℕ) (whole rest : List Row) → whole ≡ rest → Tallied most whole rest (Some (tally_of []))
tallied_none most whole rest same = subst (λ (r : List Row). Summed whole r (tally_of []) most) same (summed_none whole most)

pub tallied_all : (most : ℕ) (whole rest : List Row) (sum : Option Tally) → Tallied most whole rest sum → rest ≡ [] → sum ≡ tally_within most whole
tallied_all most whole rest None far none = far
tallied_all most whole rest (Some sum) far none = within_from most whole sum (summed_all whole rest sum most far none)

pub tallied_more : (most : ℕ) (whole under rest : List Row) (bytes : List ℕ) (rec : Rec) (sum u : Option Tally) → Tallied most whole (row_of bytes rec ∷ (under ++ rest)) sum
    → AreParted (path_of bytes rec) under rest → u ≡ tally_within most under → Tallied most whole rest (with_node most sum rec u)
tallied_more most whole under rest bytes rec None u far parts is = far
tallied_more most whole under rest bytes rec (Some sum) None far parts is = summed_stops whole (row_of bytes rec) under rest sum most far parts is
tallied_more most whole under rest bytes rec (Some sum) (Some u) far parts is = split (eqb rec.entries_below u.entries && eqb rec.tracked_below u.tracked) (leb (sum.nodes + 1 + u.nodes) most) refl refl
  where
    within : Within most under u
    within = within_some most under u (sym is)

    split : (a b : Bool) → (eqb rec.entries_below u.entries && eqb rec.tracked_below u.tracked) ≡ a → leb (sum.nodes + 1 + u.nodes) most ≡ b
        → Tallied most whole rest (cond (a && b) (Some (plus sum (plus (one_of rec) u))) None)
    split false b p q = summed_differs whole (row_of bytes rec) under rest sum most far parts u within p
    split true false p q = summed_full whole (row_of bytes rec) under rest sum most far parts u within (leb-false (sum.nodes + 1 + u.nodes) most q)
    split true true p q =
        subst (λ (one : Tally). Summed whole rest (plus sum (plus one u)) most) (one_tally bytes rec)
        (summed_more whole (row_of bytes rec) under rest sum most far parts u within (leb-true (sum.nodes + 1 + u.nodes) most q) p)

pub no_rows : (most : ℕ) → Some (tally_of []) ≡ tally_within most []
no_rows most = within_from most [] (tally_of []) (record { room = omega arith; counted = refl; same = refl })

-- a tally is of at most so many rows
pub few_within : (most : ℕ) (rows : List Row) (sum : Option Tally) → sum ≡ tally_within most rows → IsFew most sum
few_within most rows None h = tt
few_within most rows (Some sum) h =
    let w = within_some most rows sum (sym h) in
    let nodes : sum.nodes ≡ length rows = ap (λ (t : Tally). t.nodes) w.same in
    let entries : sum.entries ≡ count_by is_entry rows = ap (λ (t : Tally). t.entries) w.same in
    let tracked : sum.tracked ≡ count_by is_tracked rows = ap (λ (t : Tally). t.tracked) w.same in
    let copies : sum.copies ≡ count_by is_copy rows = ap (λ (t : Tally). t.copies) w.same in (
      omega (arith, w.room, nodes),
      omega (arith, count_by-le-length is_entry rows, nodes, entries),
      omega (arith, count_by-le-length is_tracked rows, nodes, tracked),
      omega (arith, count_by-le-length is_copy rows, nodes, copies),
    )

pub few_more : (most : ℕ) (sum u : Option Tally) (rec : Rec) → IsFew most sum → IsFew most u → IsFew most (with_node most sum rec u)
few_more most None u rec a b = tt
few_more most (Some sum) None rec a b = tt
few_more most (Some sum) (Some u) rec a b = split (eqb rec.entries_below u.entries && eqb rec.tracked_below u.tracked) (leb (sum.nodes + 1 + u.nodes) most) refl
  where
    one_at_most : (t : Bool) → cond t 1 0 ≤ 1
    one_at_most true = omega arith
    one_at_most false = omega arith

    split : (x y : Bool) → leb (sum.nodes + 1 + u.nodes) most ≡ y → IsFew most (cond (x && y) (Some (plus sum (plus (one_of rec) u))) None)
    split false y q = tt
    split true false q = tt
    split true true q = (
      omega (arith, leb-true (sum.nodes + 1 + u.nodes) most q),
      omega (arith, one_at_most (has_entry rec.flags), a.1, b.1),
      omega (arith, one_at_most (has rec.flags wdir_tracked), a.2, b.2),
      omega (arith, one_at_most (has_entry rec.flags && not (eqb rec.copy_start 0)), a.3, b.3),
    )

-- ---- over the bytes of a list

module _ (depth : ℕ) (bytes : List ℕ) (dir : Option (List ℕ)) (start count : ℕ) where
  abbrev kids : ℕ → ℕ → List Row
  kids = list_rows (depth - 1) bytes

  -- no node was looked at, one more was, and all were
  pub list_starts : (most at n : ℕ) → at ≡ start → n ≡ count → list_fault depth bytes dir start count ≡ None
      → Tallied most (list_rows depth bytes start count) (nodes_rows (list_rows (depth - 1) bytes) bytes at n) (Some (tally_of []))
  list_starts most at n is all h = rw (is, all) (tallied_none most _ _ (rows_whole depth bytes dir start count h))

  pub list_counts : (most at next i n : ℕ) (rec : Rec) (sum u : Option Tally) → i < count → at ≡ start + 44 * i → next ≡ start + 44 * (i + 1) → n ≡ count - (i + 1) → rec ≡ record_at bytes at
      → list_fault depth bytes dir start count ≡ None
      → Tallied most (list_rows depth bytes start count) (nodes_rows (list_rows (depth - 1) bytes) bytes at (count - i)) sum
      → u ≡ tally_within most (list_rows (depth - 1) bytes rec.kids_start rec.kids_count)
      → Tallied most (list_rows depth bytes start count) (nodes_rows (list_rows (depth - 1) bytes) bytes next n) (with_node most sum rec u)
  list_counts most at next i n rec sum u inside here there less is h far under =
      let step : nodes_rows kids bytes at (count - i) ≡ row_of bytes rec ∷ (kids rec.kids_start rec.kids_count ++ nodes_rows kids bytes next n) =
      rows_step kids bytes at (count - i) (omega (arith, inside))
      ∙ ap (λ r. row_of bytes r ∷ (kids r.kids_start r.kids_count ++ nodes_rows kids bytes (at + 44) (count - i - 1))) (sym is)
      ∙ ap (λ m. row_of bytes rec ∷ (kids rec.kids_start rec.kids_count ++ nodes_rows kids bytes m (count - i - 1))) (omega (arith, here, there))
      ∙ ap (λ m. row_of bytes rec ∷ (kids rec.kids_start rec.kids_count ++ nodes_rows kids bytes next m)) (omega (arith, less)) in
      let parts : AreParted (path_of bytes rec) (kids rec.kids_start rec.kids_count) (nodes_rows kids bytes next n) =
      rw (is, here, there, less) (list_parted depth bytes dir start count i inside h) in
      tallied_more most (list_rows depth bytes start count) (kids rec.kids_start rec.kids_count) (nodes_rows kids bytes next n) bytes rec sum u
      (subst (λ (r : List Row). Tallied most (list_rows depth bytes start count) r sum) step far) parts under

  pub list_counted : (most at n : ℕ) (sum : Option Tally) → n ≡ 0 → Tallied most (list_rows depth bytes start count) (nodes_rows (list_rows (depth - 1) bytes) bytes at n) sum
      → sum ≡ tally_within most (list_rows depth bytes start count)
  list_counted most at n sum none far = tallied_all most _ _ sum far (rows_end kids bytes at n none)
