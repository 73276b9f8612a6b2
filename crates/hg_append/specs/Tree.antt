-- The nodes of a table as a tree.
use Rattle.std.specs.Prelude.{ℕ, ◌≡◌, ◌+◌, Bool, if◌then◌else◌, List, [], ◌∷◌, ◌++◌, Option, Some, None, is_some}
use Rattle.hg_mixed.specs.Children.{AreChildren}
use Rattle.hg_nodes.specs.Children.{ChildData}
use Rattle.hg_nodes.specs.Clash.{is_tracked_entry}
use Rattle.hg_mixed.specs.Held.{Held}
use Rattle.hg_append.specs.declared.kept.Kept.{Kept}
use Rattle.hg_append.specs.Keeps.{Keeps, keeps_nothing, number_unless, only_if}

-- a list of nodes: nothing, or the first node, the list of its children, and the list of the nodes behind it
pub data Tree : Type 0 where
  Nothing : Tree
  Node : ChildData → Tree → Tree → Tree

-- the nodes of the list
abbrev pub heads : Tree → List ChildData
heads Nothing = []
heads (Node child below behind) = child ∷ heads behind

-- the nodes of the list and all below them, in the order of a walk
abbrev pub nodes : Tree → List ChildData
nodes Nothing = []
nodes (Node child below behind) = child ∷ (nodes below ++ nodes behind)

-- the list of a node's children, where it has any and their list is kept
abbrev pub kept_of : Keeps → ChildData → Option Kept
kept_of keeps child = only_if child.has_kids (keeps.list child.path)

-- the children of a node, none where their list is kept
abbrev pub AreKids : Held → Option Kept → List ℕ → List ChildData → Type 0
AreKids held None path kids = AreChildren held (Some path) kids
AreKids held (Some list) path kids = kids ≡ []

-- below each node stand its children; what is kept isn't part of the tree
abbrev pub AreBelowIn : Held → Keeps → Tree → Type 0
AreBelowIn held keeps Nothing = Unit {0}
AreBelowIn held keeps (Node child below behind) = AreKids held (kept_of keeps child) child.path (heads below) × (AreBelowIn held keeps below × AreBelowIn held keeps behind)

-- the tree of all that stands in a directory, none for the root, and below it, up to the lists that are kept
pub record IsTreeIn (held : Held) (keeps : Keeps) (dir : Option (List ℕ)) (tree : Tree) : Type 0 where
  pub children : AreChildren held dir (heads tree)
  pub below : AreBelowIn held keeps tree

-- the same where nothing is kept
abbrev pub AreBelow : Held → Tree → Type 0
AreBelow held tree = AreBelowIn held keeps_nothing tree

abbrev pub IsTreeOf : Held → Option (List ℕ) → Tree → Type 0
IsTreeOf held dir tree = IsTreeIn held keeps_nothing dir tree

-- what is counted: a test of nodes, and how many pass it in and below a list that is kept
pub record Counting : Type 0 where
  pub test : ChildData → Bool
  pub below : Kept → ℕ

-- the nodes with an entry, those that are tracked, and those with a copy source (lists that are kept don't tell how many have one)
abbrev pub has_entry : Counting
has_entry = record { test = λ child. is_some child.entry; below = λ list. list.entries }

abbrev pub is_tracked : Counting
is_tracked = record { test = λ child. is_tracked_entry child.entry; below = λ list. list.tracked }

abbrev pub has_source : Counting
has_source = record { test = λ child. is_some child.source; below = λ list. 0 }

-- how many nodes are counted, with those of lists that are kept
abbrev pub number_in : Keeps → Counting → Tree → ℕ
number_in keeps counting Nothing = 0
number_in keeps counting (Node child below behind) =
    (if counting.test child then 1 else 0) + number_unless (kept_of keeps child) counting.below (number_in keeps counting below) + number_in keeps counting behind

-- the same where nothing is kept
abbrev pub count_in : Counting → Tree → ℕ
count_in counting tree = number_in keeps_nothing counting tree
