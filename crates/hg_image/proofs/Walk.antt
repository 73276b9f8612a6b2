-- The walk of a list, step by step.
use Rattle.std.proofs.Common.{◌≡◌, ℕ, zero, suc, ◌+◌, ◌-◌, ◌*◌, ◌<◌, ◌≤◌, true, false, List, length, Option, Some, None, refl, sym, ap, ◌∙◌, arith, eqb, ltb, lt-ltb}
use Rattle.std.proofs.lemmas.Bool.{ne_eqb}
use Rattle.std.proofs.lemmas.Bool.Decides.{nat_tests}
use Rattle.hg_image.specs.declared.fault.NodeFault.{NodeFault}
use Rattle.hg_image.specs.declared.fault.NodeFault.TheVariants as a_fault
use Rattle.hg_node.specs.declared.record.Rec.{Rec}
use Rattle.hg_image.specs.Node.{record_at, path_of, name_of, node_fault}
use Rattle.hg_image.specs.Walk.{nodes_fault, list_fault}

-- how the lists below a node are read
abbrev pub below : ℕ → List ℕ → List ℕ → ℕ → ℕ → Option NodeFault
below depth bytes = λ path. list_fault depth bytes (Some path)

-- a list of no nodes, one without a level left, one beyond the bytes, and one within them
pub list_empty : (depth : ℕ) (bytes : List ℕ) (dir : Option (List ℕ)) (start count : ℕ) → count ≡ 0 → list_fault depth bytes dir start count ≡ None
unfolding list_fault
list_empty zero bytes dir start count e = rw e refl
list_empty (suc depth) bytes dir start count e = rw e refl

pub list_deep : (depth : ℕ) (bytes : List ℕ) (dir : Option (List ℕ)) (start count : ℕ) → depth ≡ 0 → 0 < count → list_fault depth bytes dir start count ≡ Some (a_fault.List start count)
unfolding list_fault
list_deep depth bytes dir start count e some =
    let test : eqb count 0 ≡ false = ne_eqb count 0 (λ e. omega arith) in
    rw (e, test) refl

pub list_outside : (depth : ℕ) (bytes : List ℕ) (dir : Option (List ℕ)) (start count : ℕ) → 0 < count → length bytes < start + 44 * count → list_fault depth bytes dir start count ≡ Some (a_fault.List start count)
unfolding list_fault
list_outside zero bytes dir start count some out =
    let test : eqb count 0 ≡ false = ne_eqb count 0 (λ e. omega arith) in
    rw test refl
list_outside (suc depth) bytes dir start count some out =
    let test : eqb count 0 ≡ false = ne_eqb count 0 (λ e. omega arith) in
    let long : ltb (length bytes) (start + 44 * count) ≡ true = lt-ltb (length bytes) (start + 44 * count) out in
    simp (test, long)

pub list_inside : (depth : ℕ) (bytes : List ℕ) (dir : Option (List ℕ)) (start count : ℕ) → 0 < depth → 0 < count → start + 44 * count ≤ length bytes
    → list_fault depth bytes dir start count ≡ nodes_fault (below (depth - 1) bytes) bytes dir None start count
unfolding list_fault
list_inside zero bytes dir start count deep some in_bytes = absurd (omega arith)
list_inside (suc depth) bytes dir start count deep some in_bytes =
    let test : eqb count 0 ≡ false = ne_eqb count 0 (λ e. omega arith) in
    let short : ltb (length bytes) (start + 44 * count) ≡ false = grind (arith, nat_tests, in_bytes) in
    let same : suc depth - 1 ≡ depth = omega arith in
    rw same (simp (test, short))

-- no node is left; one that passes with all below it; one that doesn't; one below which something is wrong
pub nodes_end : (kids : List ℕ → ℕ → ℕ → Option NodeFault) (bytes : List ℕ) (dir before : Option (List ℕ)) (at n : ℕ) → n ≡ 0 → nodes_fault kids bytes dir before at n ≡ None
unfolding nodes_fault
nodes_end kids bytes dir before at n e = rw e refl

pub nodes_pass : (kids : List ℕ → ℕ → ℕ → Option NodeFault) (bytes : List ℕ) (dir before : Option (List ℕ)) (at n : ℕ) → 0 < n
    → node_fault bytes dir before (record_at bytes at) ≡ None → kids (path_of bytes (record_at bytes at)) (record_at bytes at).kids_start (record_at bytes at).kids_count ≡ None
    → nodes_fault kids bytes dir before at n ≡ nodes_fault kids bytes dir (Some (name_of bytes (record_at bytes at))) (at + 44) (n - 1)
unfolding nodes_fault
nodes_pass kids bytes dir before at zero some good good_below = absurd (omega arith)
nodes_pass kids bytes dir before at (suc n) some good good_below =
    let same : suc n - 1 ≡ n = omega arith in
    rw same (simp (good, good_below))

pub nodes_stop : (kids : List ℕ → ℕ → ℕ → Option NodeFault) (bytes : List ℕ) (dir before : Option (List ℕ)) (at n : ℕ) (fault : NodeFault) → 0 < n
    → node_fault bytes dir before (record_at bytes at) ≡ Some fault → nodes_fault kids bytes dir before at n ≡ Some fault
unfolding nodes_fault
nodes_stop kids bytes dir before at zero fault some bad = absurd (omega arith)
nodes_stop kids bytes dir before at (suc n) fault some bad = simp bad

pub nodes_stop_below : (kids : List ℕ → ℕ → ℕ → Option NodeFault) (bytes : List ℕ) (dir before : Option (List ℕ)) (at n : ℕ) (fault : NodeFault) → 0 < n
    → node_fault bytes dir before (record_at bytes at) ≡ None → kids (path_of bytes (record_at bytes at)) (record_at bytes at).kids_start (record_at bytes at).kids_count ≡ Some fault
    → nodes_fault kids bytes dir before at n ≡ Some fault
unfolding nodes_fault
nodes_stop_below kids bytes dir before at zero fault some good bad = absurd (omega arith)
nodes_stop_below kids bytes dir before at (suc n) fault some good bad = simp (good, bad)

-- what a walk of a list found up to one of its nodes
pub record SoFar (depth : ℕ) (bytes : List ℕ) (dir : Option (List ℕ)) (start count : ℕ) (before : Option (List ℕ)) (at n : ℕ) : Type 0 where
  pub deep : 0 < depth
  pub some : 0 < count
  pub room : start + 44 * count ≤ length bytes
  pub rest : nodes_fault (below (depth - 1) bytes) bytes dir None start count ≡ nodes_fault (below (depth - 1) bytes) bytes dir before at n

module _ (depth : ℕ) (bytes : List ℕ) (dir : Option (List ℕ)) (start count : ℕ) (before : Option (List ℕ)) (at n : ℕ) (far : SoFar depth bytes dir start count before at n) where
  whole : list_fault depth bytes dir start count ≡ nodes_fault (below (depth - 1) bytes) bytes dir before at n
  whole = list_inside depth bytes dir start count far.deep far.some far.room ∙ far.rest

  -- it ends there
  pub list_done : n ≡ 0 → None ≡ list_fault depth bytes dir start count
  list_done e = sym (whole ∙ nodes_end (below (depth - 1) bytes) bytes dir before at n e)

  -- the node has a fault
  pub list_stops : (rec : Rec) (fault : NodeFault) → 0 < n → rec ≡ record_at bytes at → Some fault ≡ node_fault bytes dir before rec → Some fault ≡ list_fault depth bytes dir start count
  list_stops rec fault some is bad =
      sym (whole ∙ nodes_stop (below (depth - 1) bytes) bytes dir before at n fault some (ap (node_fault bytes dir before) (sym is) ∙ sym bad))

  -- what is below it has one
  pub list_stops_below : (rec : Rec) (path : List ℕ) (fault : NodeFault) → 0 < n → rec ≡ record_at bytes at → None ≡ node_fault bytes dir before rec → path ≡ path_of bytes rec
      → Some fault ≡ list_fault (depth - 1) bytes (Some path) rec.kids_start rec.kids_count → Some fault ≡ list_fault depth bytes dir start count
  list_stops_below rec path fault some is good named bad =
      sym (whole ∙ nodes_stop_below (below (depth - 1) bytes) bytes dir before at n fault some (ap (node_fault bytes dir before) (sym is) ∙ sym good)
      (ap (λ r. list_fault (depth - 1) bytes (Some (path_of bytes r)) r.kids_start r.kids_count) (sym is) ∙ ap (λ (p : List ℕ). list_fault (depth - 1) bytes (Some p) rec.kids_start rec.kids_count) (sym named) ∙ sym bad))

  -- the node passes, and all that is below it
  pub list_goes_on : (rec : Rec) (path name : List ℕ) → 0 < n → rec ≡ record_at bytes at → None ≡ node_fault bytes dir before rec → path ≡ path_of bytes rec → name ≡ name_of bytes rec
      → None ≡ list_fault (depth - 1) bytes (Some path) rec.kids_start rec.kids_count
      → nodes_fault (below (depth - 1) bytes) bytes dir None start count ≡ nodes_fault (below (depth - 1) bytes) bytes dir (Some name) (at + 44) (n - 1)
  list_goes_on rec path name some is good named base fine =
      far.rest ∙ nodes_pass (below (depth - 1) bytes) bytes dir before at n some (ap (node_fault bytes dir before) (sym is) ∙ sym good)
      (ap (λ r. list_fault (depth - 1) bytes (Some (path_of bytes r)) r.kids_start r.kids_count) (sym is) ∙ ap (λ (p : List ℕ). list_fault (depth - 1) bytes (Some p) rec.kids_start rec.kids_count) (sym named) ∙ sym fine)
      ∙ ap (λ (m : List ℕ). nodes_fault (below (depth - 1) bytes) bytes dir (Some m) (at + 44) (n - 1)) (ap (name_of bytes) (sym is) ∙ sym base)
