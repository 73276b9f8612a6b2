-- A list of nodes with one more behind.
use Rattle.std.proofs.Common.{◌≡◌, ℕ, ◌+◌, cond, List, [], ◌∷◌, ◌++◌, length, refl, sym, ap, ◌∙◌, arith, append_assoc, append-nil}
use Rattle.std.specs.List.{AllByRecursion}
use Rattle.hg_node.specs.Node.{bytes_of}
use Rattle.hg_nodes.specs.Children.{ChildData}
use Rattle.hg_mixed.specs.Held.{Held}
use Rattle.hg_append.specs.Keeps.{Keeps, keeps_nothing}
use Rattle.hg_append.specs.Tree.{AreBelowIn, AreKids, Counting, Tree, Nothing, Node, heads, kept_of, number_in}
use Rattle.hg_append.specs.Layout.{behind_in, front_in, front_size_in, path_put, rec_in, records_in, source_put, under_bytes, under_number, under_size}
use Rattle.hg_append.specs.Put.{AreSound, AreSoundIn, IsWritable, nodes_in, nodes_unless}

abbrev pub snoc : Tree → ChildData → Tree → Tree
snoc Nothing child below = Node child below Nothing
snoc (Node first under behind) child below = Node first under (snoc behind child below)

pub heads_snoc : (tree : Tree) (child : ChildData) (below : Tree) → heads (snoc tree child below) ≡ heads tree ++ child ∷ []
heads_snoc Nothing child below = refl
heads_snoc (Node first under behind) child below = ap (λ (l : List ChildData). first ∷ l) (heads_snoc behind child below)

pub below_snoc : (held : Held) (keeps : Keeps) (tree : Tree) (child : ChildData) (below : Tree) → AreBelowIn held keeps tree → AreKids held (kept_of keeps child) child.path (heads below) → AreBelowIn held keeps below
    → AreBelowIn held keeps (snoc tree child below)
below_snoc held keeps Nothing child below all children under = (children, (under, tt))
below_snoc held keeps (Node first other behind) child below all children under = (all.0, (all.1.0, below_snoc held keeps behind child below all.1.1 children under))

all_both : (xs ys : List ChildData) → AllByRecursion IsWritable xs → AllByRecursion IsWritable ys → AllByRecursion IsWritable (xs ++ ys)
all_both [] ys first later = later
all_both (x ∷ xs) ys first later = (first.0, all_both xs ys first.1 later)

all_left : (xs ys : List ChildData) → AllByRecursion IsWritable (xs ++ ys) → AllByRecursion IsWritable xs
all_left [] ys all = tt
all_left (x ∷ xs) ys all = (all.0, all_left xs ys all.1)

all_right : (xs ys : List ChildData) → AllByRecursion IsWritable (xs ++ ys) → AllByRecursion IsWritable ys
all_right [] ys all = all
all_right (x ∷ xs) ys all = all_right xs ys all.1

-- what is sound of a node, of what is below it and of what is behind it
pub sound_under : (keeps : Keeps) (child : ChildData) (below behind : Tree) → AreSoundIn keeps (Node child below behind) → AllByRecursion IsWritable (nodes_unless (kept_of keeps child) (nodes_in keeps below))
sound_under keeps child below behind all = all_left (nodes_unless (kept_of keeps child) (nodes_in keeps below)) (nodes_in keeps behind) all.1

pub sound_behind_in : (keeps : Keeps) (child : ChildData) (below behind : Tree) → AreSoundIn keeps (Node child below behind) → AreSoundIn keeps behind
sound_behind_in keeps child below behind all = all_right (nodes_unless (kept_of keeps child) (nodes_in keeps below)) (nodes_in keeps behind) all.1

pub sound_below : (child : ChildData) (below behind : Tree) → AreSound (Node child below behind) → AreSound below
sound_below child below behind all = sound_under keeps_nothing child below behind all

pub sound_behind : (child : ChildData) (below behind : Tree) → AreSound (Node child below behind) → AreSound behind
sound_behind child below behind all = sound_behind_in keeps_nothing child below behind all

pub sound_snoc : (keeps : Keeps) (tree : Tree) (child : ChildData) (below : Tree) → AreSoundIn keeps tree → IsWritable child → AllByRecursion IsWritable (nodes_unless (kept_of keeps child) (nodes_in keeps below)) → AreSoundIn keeps (snoc tree child below)
sound_snoc keeps Nothing child below all one under = (one, all_both (nodes_unless (kept_of keeps child) (nodes_in keeps below)) [] under tt)
sound_snoc keeps (Node first other behind) child below all one under = (
  all.0,
  all_both (nodes_unless (kept_of keeps first) (nodes_in keeps other)) (nodes_in keeps (snoc behind child below)) (sound_under keeps first other behind all)
      (sound_snoc keeps behind child below (sound_behind_in keeps first other behind all) one under),
)

pub count_snoc : (keeps : Keeps) (counting : Counting) (tree : Tree) (child : ChildData) (below : Tree)
    → number_in keeps counting (snoc tree child below) ≡ number_in keeps counting tree + under_number keeps counting child below + cond (counting.test child) 1 0
count_snoc keeps counting Nothing child below = omega arith
count_snoc keeps counting (Node first other behind) child below =
    let more : number_in keeps counting (snoc behind child below) ≡ number_in keeps counting behind + under_number keeps counting child below + cond (counting.test child) 1 0 = count_snoc keeps counting behind child below in
    omega (arith, more)

pub size_snoc : (keeps : Keeps) (tree : Tree) (child : ChildData) (below : Tree)
    → front_size_in keeps (snoc tree child below) ≡ front_size_in keeps tree + under_size keeps child below + length (path_put keeps child) + length (source_put keeps child)
size_snoc keeps Nothing child below = omega arith
size_snoc keeps (Node first other behind) child below =
    let more : front_size_in keeps (snoc behind child below) ≡ front_size_in keeps behind + under_size keeps child below + length (path_put keeps child) + length (source_put keeps child) = size_snoc keeps behind child below in
    omega (arith, more)

pub records_snoc : (keeps : Keeps) (at : ℕ) (tree : Tree) (child : ChildData) (below : Tree)
    → records_in keeps at (snoc tree child below) ≡ records_in keeps at tree ++ bytes_of (rec_in keeps (at + front_size_in keeps tree) child below)
records_snoc keeps at Nothing child below = let same : at + 0 ≡ at = omega arith in rw same refl
records_snoc keeps at (Node first other behind) child below =
    let next = behind_in keeps at first other in
    let same : next + front_size_in keeps behind ≡ at + front_size_in keeps (Node first other behind) = omega arith in
    let more : records_in keeps next (snoc behind child below) ≡ records_in keeps next behind ++ bytes_of (rec_in keeps (next + front_size_in keeps behind) child below) = records_snoc keeps next behind child below in
    ap (λ (l : List ℕ). bytes_of (rec_in keeps at first other) ++ l) (more ∙ ap (λ (n : ℕ). records_in keeps next behind ++ bytes_of (rec_in keeps n child below)) same)

pub front_snoc : (keeps : Keeps) (at : ℕ) (tree : Tree) (child : ChildData) (below : Tree)
    → front_in keeps at (snoc tree child below)
    ≡ front_in keeps at tree ++ (under_bytes keeps (at + front_size_in keeps tree) child below ++ (path_put keeps child ++ source_put keeps child))
front_snoc keeps at Nothing child below =
    let same : at + 0 ≡ at = omega arith in
    append-nil (under_bytes keeps at child below ++ path_put keeps child ++ source_put keeps child)
    ∙ append_assoc (under_bytes keeps at child below) (path_put keeps child) (source_put keeps child)
    ∙ ap (λ (n : ℕ). under_bytes keeps n child below ++ (path_put keeps child ++ source_put keeps child)) (sym same)
front_snoc keeps at (Node first other behind) child below =
    let next = behind_in keeps at first other in
    let place = at + front_size_in keeps (Node first other behind) in
    let same : next + front_size_in keeps behind ≡ place = omega arith in
    let last : List ℕ = path_put keeps child ++ source_put keeps child in
    let head : List ℕ = under_bytes keeps at first other ++ path_put keeps first ++ source_put keeps first in
    let more : front_in keeps next (snoc behind child below) ≡ front_in keeps next behind ++ (under_bytes keeps place child below ++ last) =
    front_snoc keeps next behind child below ∙ ap (λ (n : ℕ). front_in keeps next behind ++ (under_bytes keeps n child below ++ last)) same in
    ap (λ (l : List ℕ). head ++ l) more
    ∙ sym (append_assoc head (front_in keeps next behind) (under_bytes keeps place child below ++ last))
