-- Facts of rows and of nodes in lists without fault.
use Rattle.std.proofs.Common.{◌≡◌, ℕ, zero, suc, false, ◌+◌, ◌-◌, List, [], ◌∷◌, ◌++◌, length, Option, Some, None, refl, sym, ap, ◌∙◌, arith}
use Rattle.std.specs.List.{AllByRecursion}
use Rattle.std.proofs.lemmas.List.{length-append}
use Rattle.hg_base.specs.PathText.{base_of, components, has_slash, joined}
use Rattle.hg_base.proofs.Components.{components_more, components_name, joined_parent}
use Rattle.hg_base.proofs.Paths.{path_base_plain}
use Rattle.hg_node.specs.declared.record.Rec.{Rec}
use Rattle.hg_image.specs.Node.{path_of}
use Rattle.hg_image.specs.Rows.{Row}
use Rattle.hg_image.specs.Walk.{depth_of, list_fault, nodes_fault}
use Rattle.hg_append.specs.declared.kept.Kept.{Kept}
use Rattle.hg_append.specs.Keeps.{bytes_unless, size_unless}
use Rattle.hg_image.proofs.Apart.{each_then}
use Rattle.hg_image.proofs.Sound.{Sound, list_sound}
use Rattle.hg_image.proofs.Walk.{below, nodes_end}

pub each_append : (P : Row → Type 0) (a b : List Row) → AllByRecursion P a → AllByRecursion P b → AllByRecursion P (a ++ b)
each_append P [] b p q = q
each_append P (r ∷ a) b p q = (p.0, each_append P a b p.1 q)

-- the nodes of a list without fault have none
pub list_nodes : (depth : ℕ) (bytes : List ℕ) (dir : Option (List ℕ)) (start count : ℕ) → list_fault (suc depth) bytes dir start count ≡ None → nodes_fault (below depth bytes) bytes dir None start count ≡ None
list_nodes depth bytes dir start zero h = nodes_end (below depth bytes) bytes dir None start 0 refl
list_nodes depth bytes dir start (suc n) h =
    let same : suc depth - 1 ≡ depth = omega arith in
    rw same at (list_sound (suc depth) bytes dir start (suc n) (omega arith) h).nodes

pub each_both : (P Q : Row → Type 0) (rows : List Row) → AllByRecursion P rows → AllByRecursion Q rows → AllByRecursion (λ r. P r × Q r) rows
each_both P Q [] p q = tt
each_both P Q (r ∷ rows) p q = ((p.0, q.0), each_both P Q rows p.1 q.1)

-- what holds of each pair, seen from the other side
pub each_flip : (R : Row → Row → Type 0) (rows others : List Row) → AllByRecursion (λ r. AllByRecursion (λ o. R r o) others) rows → AllByRecursion (λ o. AllByRecursion (λ r. R r o) rows) others
each_flip R [] others h = none others
  where
    none : (os : List Row) → AllByRecursion (λ o. AllByRecursion (λ r. R r o) []) os
    none [] = tt
    none (o ∷ os) = (tt, none os)
each_flip R (r ∷ rows) others h =
    each_then (λ o. R r o × AllByRecursion (λ s. R s o) rows) (λ o. AllByRecursion (λ s. R s o) (r ∷ rows)) (λ o both. (both.0, both.1)) others
    (each_both (λ o. R r o) (λ o. AllByRecursion (λ s. R s o) rows) others h.0 (each_flip R rows others h.1))

one_more : (dir : Option (List ℕ)) (name : List ℕ) → has_slash name ≡ false → length (components (joined dir name)) ≡ depth_of dir + 1
one_more None name plain = ap length (components_name name plain)
one_more (Some dir) name plain = ap length (components_more dir name plain) ∙ length-append (components dir) (name ∷ [])

-- a node that passes has one component more than its directory
pub node_more : (bytes : List ℕ) (dir before : Option (List ℕ)) (rec : Rec) → Sound bytes dir before rec → length (components (path_of bytes rec)) ≡ depth_of dir + 1
node_more bytes dir before rec node =
    let path = path_of bytes rec in
    let whole : path ≡ joined dir (base_of path) = sym (joined_parent path) ∙ ap (λ (d : Option (List ℕ)). joined d (base_of path)) node.parent in
    ap (λ (p : List ℕ). length (components p)) whole ∙ one_more dir (base_of path) (path_base_plain path node.path)

-- the bytes of a list that may be kept
pub unless_length : (list : Option Kept) (bytes : List ℕ) (n : ℕ) → length bytes ≡ n → length (bytes_unless list bytes) ≡ size_unless list n
unless_length None bytes n same = same
unless_length (Some list) bytes n same = refl
