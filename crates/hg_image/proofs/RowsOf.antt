-- The rows of a list, node by node.
use Rattle.std.proofs.Common.{◌≡◌, ℕ, zero, suc, ◌+◌, ◌-◌, ◌<◌, List, [], ◌∷◌, ◌++◌, Option, Some, None, ◌⊎◌, inl, inr, false, eqb, refl, arith}
use Rattle.std.proofs.lemmas.Bool.{ne_eqb}
use Rattle.hg_image.specs.Node.{record_at}
use Rattle.hg_image.specs.Walk.{list_fault}
use Rattle.hg_image.specs.declared.fault.NodeFault.TheVariants as a_fault
use Rattle.hg_image.proofs.Sound.{past}
use Rattle.hg_image.specs.Rows.{Row, row_of, nodes_rows, list_rows}

-- behind the last node
pub rows_end : (kids : ℕ → ℕ → List Row) (bytes : List ℕ) (at n : ℕ) → n ≡ 0 → nodes_rows kids bytes at n ≡ []
unfolding nodes_rows
rows_end kids bytes at n e = rw e refl

-- one node, those below it, and the rest
pub rows_step : (kids : ℕ → ℕ → List Row) (bytes : List ℕ) (at n : ℕ) → 0 < n
    → nodes_rows kids bytes at n ≡ row_of bytes (record_at bytes at) ∷ (kids (record_at bytes at).kids_start (record_at bytes at).kids_count ++ nodes_rows kids bytes (at + 44) (n - 1))
unfolding nodes_rows
rows_step kids bytes at zero some = absurd (omega arith)
rows_step kids bytes at (suc n) some = let same : suc n - 1 ≡ n = omega arith in rw same refl

eq_or_some : (n : ℕ) → (n ≡ 0) ⊎ (0 < n)
eq_or_some zero = inl refl
eq_or_some (suc n) = inr (omega arith)

-- a list without fault has the rows of its nodes
pub rows_whole : (depth : ℕ) (bytes : List ℕ) (dir : Option (List ℕ)) (start count : ℕ) → list_fault depth bytes dir start count ≡ None
    → list_rows depth bytes start count ≡ nodes_rows (list_rows (depth - 1) bytes) bytes start count
unfolding list_rows list_fault nodes_rows
rows_whole zero bytes dir start count h =
    elim (eq_or_some count) [
      | inl e ↦ rw e refl
      | inr some ↦
          let test : eqb count 0 ≡ false = ne_eqb count 0 (λ e. omega arith) in
          let bad : Some (a_fault.List start count) ≡ None = past (eqb count 0) (Some (a_fault.List start count)) test h in
          absurd (cc)
    ]
rows_whole (suc depth) bytes dir start count h = let same : suc depth - 1 ≡ depth = omega arith in rw same refl

-- a list of no nodes has no rows
pub rows_none : (depth : ℕ) (bytes : List ℕ) (start count : ℕ) → count ≡ 0 → list_rows depth bytes start count ≡ []
unfolding list_rows
rows_none zero bytes start count e = refl
rows_none (suc depth) bytes start count e = rows_end (list_rows depth bytes) bytes start count e
