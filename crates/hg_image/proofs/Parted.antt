-- A node of a list, what is below it, and what stands apart from both.
use Rattle.std.proofs.Common.{◌≡◌, ℕ, zero, suc, ◌+◌, ◌-◌, ◌*◌, ◌<◌, true, List, Option, Some, None, inl, inr, sym, ap, ◌∙◌, arith, nat_cmp}
use Rattle.std.specs.Ordering.{is_lt}
use Rattle.std.specs.Cmp.Lexicographic.{slice_cmp}
use Rattle.std.specs.List.{AllByRecursion}
use Rattle.std.proofs.lemmas.Bool.{false_from_ne_true}
use Rattle.hg_base.specs.PathText.{joined, is_below}
use Rattle.hg_base.proofs.Below.{below_trans}
use Rattle.hg_image.specs.declared.fault.NodeFault.{NodeFault}
use Rattle.hg_image.specs.Node.{record_at, path_of, name_of, node_fault}
use Rattle.hg_image.specs.Walk.{nodes_fault, list_fault}
use Rattle.hg_image.specs.Rows.{Row, nodes_rows, list_rows, AreApart, AreParted}
use Rattle.hg_image.proofs.Walk.{below}
use Rattle.hg_image.proofs.Sound.{node_sound, both_none, list_sound, before_at, nodes_from}
use Rattle.hg_image.proofs.Apart.{In, Later, Kids, one_name, not_after_itself, each_then, stands_at_name, under_name, nodes_later, kids_of, list_later}

-- what is below a path at a name is at that name too
in_below : (dir : Option (List ℕ)) (name a b : List ℕ) → In dir name a → is_below a b ≡ true → In dir name b
in_below dir name a b stands h = record {
  plain = stands.plain;
  place = elim stands.place [
    | inl e ↦ inr (ap (λ (p : List ℕ). is_below p b) (sym e) ∙ h)
    | inr under ↦ inr (below_trans (joined dir name) a b under h)
  ];
}

no_two_names : (dir : Option (List ℕ)) (m path : List ℕ) → In dir m path → Later dir (Some m) path → ⊥
no_two_names dir m path stands later =
    not_after_itself m (ap (λ (n : List ℕ). is_lt (slice_cmp nat_cmp m n)) (one_name dir m later.name path stands later.stands) ∙ later.after)

-- paths at different names stand apart
apart_at : (dir : Option (List ℕ)) (m a b : List ℕ) → In dir m a → Later dir (Some m) b → AreApart a b
apart_at dir m a b stands later = (
  false_from_ne_true (is_below a b) (λ t. no_two_names dir m b (in_below dir m a b stands t) later),
  false_from_ne_true (is_below b a) (λ t. no_two_names dir m a stands (record { name = later.name; after = later.after; stands = in_below dir later.name b a later.stands t })),
)

module _ (faults : List ℕ → ℕ → ℕ → Option NodeFault) (rows : ℕ → ℕ → List Row) (kids : Kids faults rows) (bytes : List ℕ) (dir : Option (List ℕ)) where
  -- the first of some nodes
  pub parted : (before : Option (List ℕ)) (at n : ℕ) → 0 < n → nodes_fault faults bytes dir before at n ≡ None
      → AreParted (path_of bytes (record_at bytes at)) (rows (record_at bytes at).kids_start (record_at bytes at).kids_count) (nodes_rows rows bytes (at + 44) (n - 1))
  unfolding nodes_fault
  parted before at zero some h = absurd (omega arith)
  parted before at (suc n) some h =
      let rec = record_at bytes at in
      let name = name_of bytes rec in
      let path = path_of bytes rec in
      let under = rows rec.kids_start rec.kids_count in
      let rest = nodes_rows rows bytes (at + 44) n in
      let same : suc n - 1 ≡ n = omega arith in
      let first = both_none (node_fault bytes dir before rec) _ h in
      let second = both_none (faults path rec.kids_start rec.kids_count) _ first.1 in
      let node = node_sound bytes dir before rec first.0 in
      let later = nodes_later faults rows kids bytes dir (Some name) (at + 44) n second.1 in
      let apart : (a : List ℕ) → In dir name a → AllByRecursion (λ other. AreApart a other.path) rest =
      λ a stands. each_then (λ r. Later dir (Some name) r.path) (λ other. AreApart a other.path) (λ r behind. apart_at dir name a r.path stands behind) rest later in
      rw same (record {
        below = kids path rec.kids_start rec.kids_count second.0;
        apart = apart path (stands_at_name bytes dir before rec node);
        crossed = each_then (λ r. In dir name r.path) (λ r. AllByRecursion (λ other. AreApart r.path other.path) rest) (λ r stands. apart r.path stands) under
            (under_name faults rows kids bytes dir before rec node second.0);
      })

-- a node of a list
pub list_parted : (depth : ℕ) (bytes : List ℕ) (dir : Option (List ℕ)) (start count i : ℕ) → i < count → list_fault depth bytes dir start count ≡ None
    → AreParted (path_of bytes (record_at bytes (start + 44 * i))) (list_rows (depth - 1) bytes (record_at bytes (start + 44 * i)).kids_start (record_at bytes (start + 44 * i)).kids_count)
    (nodes_rows (list_rows (depth - 1) bytes) bytes (start + 44 * (i + 1)) (count - (i + 1)))
list_parted depth bytes dir start count i inside h =
    let list = list_sound depth bytes dir start count (omega arith) h in
    let tail = nodes_from (below (depth - 1) bytes) bytes dir None start count i inside list.nodes in
    let found = parted (below (depth - 1) bytes) (list_rows (depth - 1) bytes) (kids_of (depth - 1) bytes (list_later (depth - 1) bytes)) bytes dir (before_at bytes None start i)
    (start + 44 * i) (count - i) (omega arith) tail in
    let next : start + 44 * i + 44 ≡ start + 44 * (i + 1) = omega arith in
    let less : count - i - 1 ≡ count - (i + 1) = omega arith in
    rw less at (rw next at found)
