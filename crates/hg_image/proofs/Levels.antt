-- A walk has as many levels as it needs: each list stands in a directory with one component more, of which a path has 2,048 at most.
use Rattle.std.proofs.Common.{◌≡◌, ℕ, zero, suc, ◌+◌, ◌-◌, ◌*◌, ◌<◌, ◌≤◌, false, cond, List, [], ◌∷◌, length, Option, Some, None, refl, sym, ap, ◌∙◌, arith, eqb, ltb}
use Rattle.std.proofs.lemmas.List.{length-append}
use Rattle.hg_base.specs.PathText.{components, has_slash, joined, base_of}
use Rattle.hg_base.proofs.Components.{components_name, components_more, joined_parent}
use Rattle.hg_base.proofs.Paths.{path_parts, path_base_plain}
use Rattle.hg_node.specs.declared.record.Rec.{Rec}
use Rattle.hg_image.specs.declared.fault.NodeFault.{NodeFault}
use Rattle.hg_image.specs.declared.fault.NodeFault.TheVariants as a_fault
use Rattle.hg_image.specs.Node.{record_at, path_of, name_of, first_of, node_fault}
use Rattle.hg_image.specs.Walk.{nodes_fault, list_fault, depth_of, levels}
use Rattle.hg_image.proofs.Walk.{below}
use Rattle.hg_image.proofs.Sound.{Sound, node_sound}

one_more : (dir : Option (List ℕ)) (name : List ℕ) → has_slash name ≡ false → length (components (joined dir name)) ≡ depth_of dir + 1
one_more None name plain = ap length (components_name name plain)
one_more (Some dir) name plain = ap length (components_more dir name plain) ∙ length-append (components dir) (name ∷ [])

-- a node that passes has one component more than its directory
node_more : (bytes : List ℕ) (dir before : Option (List ℕ)) (rec : Rec) → Sound bytes dir before rec → length (components (path_of bytes rec)) ≡ depth_of dir + 1
node_more bytes dir before rec node =
    let path = path_of bytes rec in
    let whole : path ≡ joined dir (base_of path) = sym (joined_parent path) ∙ ap (λ (d : Option (List ℕ)). joined d (base_of path)) node.parent in
    ap (λ (p : List ℕ). length (components p)) whole ∙ one_more dir (base_of path) (path_base_plain path node.path)

-- so the list below it may be as deep as its own had room for
pub level_below : (bytes : List ℕ) (dir before : Option (List ℕ)) (rec : Rec) (path : List ℕ) (depth : ℕ) → None ≡ node_fault bytes dir before rec → path ≡ path_of bytes rec → 0 < depth → depth_of dir + depth ≤ levels
    → length (components path) + (depth - 1) ≤ levels
level_below bytes dir before rec path depth good named deep room =
    let more : length (components path) ≡ depth_of dir + 1 = ap (λ (p : List ℕ). length (components p)) named ∙ node_more bytes dir before rec (node_sound bytes dir before rec (sym good)) in
    omega (arith, more, deep, room)

-- two readings of what is below nodes, which agree wherever a node passes
same_nodes : (one other : List ℕ → ℕ → ℕ → Option NodeFault) (bytes : List ℕ) (dir : Option (List ℕ))
    → ((before : Option (List ℕ)) (at : ℕ) → node_fault bytes dir before (record_at bytes at) ≡ None
    → one (path_of bytes (record_at bytes at)) (record_at bytes at).kids_start (record_at bytes at).kids_count
    ≡ other (path_of bytes (record_at bytes at)) (record_at bytes at).kids_start (record_at bytes at).kids_count)
    → (before : Option (List ℕ)) (at n : ℕ) → nodes_fault one bytes dir before at n ≡ nodes_fault other bytes dir before at n
unfolding nodes_fault
same_nodes one other bytes dir agree before at zero = refl
same_nodes one other bytes dir agree before at (suc n) =
    let rec = record_at bytes at in
    step (node_fault bytes dir before rec) (one (path_of bytes rec) rec.kids_start rec.kids_count) (other (path_of bytes rec) rec.kids_start rec.kids_count)
    (nodes_fault one bytes dir (Some (name_of bytes rec)) (at + 44) n) (nodes_fault other bytes dir (Some (name_of bytes rec)) (at + 44) n) (agree before at)
    (same_nodes one other bytes dir agree (Some (name_of bytes rec)) (at + 44) n)
  where
    step : (here a b c d : Option NodeFault) → (here ≡ None → a ≡ b) → c ≡ d → first_of here (first_of a c) ≡ first_of here (first_of b d)
    step (Some fault) a b c d same rest = refl
    step None a b c d same rest = ap (λ (o : Option NodeFault). first_of o c) (same refl) ∙ ap (first_of b) rest

deep_enough : (depth more : ℕ) (bytes : List ℕ) (dir : Option (List ℕ)) (start count : ℕ) → 2049 ≤ depth + depth_of dir → depth_of dir ≤ 2048
    → list_fault (depth + more) bytes dir start count ≡ list_fault depth bytes dir start count
unfolding list_fault
deep_enough zero more bytes dir start count enough shallow = absurd (omega arith)
deep_enough (suc depth) more bytes dir start count enough shallow =
    let next : suc depth + more ≡ suc (depth + more) = omega arith in
    let agree : (before : Option (List ℕ)) (at : ℕ) → node_fault bytes dir before (record_at bytes at) ≡ None
    → list_fault (depth + more) bytes (Some (path_of bytes (record_at bytes at))) (record_at bytes at).kids_start (record_at bytes at).kids_count
    ≡ list_fault depth bytes (Some (path_of bytes (record_at bytes at))) (record_at bytes at).kids_start (record_at bytes at).kids_count =
    λ before at none.
    let rec = record_at bytes at in
    let path = path_of bytes rec in
    let node = node_sound bytes dir before rec none in
    let parts : length (components path) ≡ depth_of dir + 1 = node_more bytes dir before rec node in
    let most : length (components path) ≤ 2048 = (path_parts path node.path).shallow in
    deep_enough depth more bytes (Some path) rec.kids_start rec.kids_count (omega (arith, parts, enough)) most in
    rw next
    (ap (λ (o : Option NodeFault). cond (eqb count 0) None (cond (ltb (length bytes) (start + 44 * count)) (Some (a_fault.List start count)) o))
    (same_nodes (below (depth + more) bytes) (below depth bytes) bytes dir agree None start count))

pub levels_enough : (more : ℕ) (bytes : List ℕ) (start count : ℕ) → list_fault (levels + more) bytes None start count ≡ list_fault levels bytes None start count
unfolding levels
levels_enough more bytes start count = deep_enough 2049 more bytes None start count (omega arith) (omega arith)
