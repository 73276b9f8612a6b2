-- The nodes of a table, each at its path.
use Rattle.std.specs.Prelude.{ℕ, ◌≡◌, true, if◌then◌else◌, List, Option, Some, None, is_some, MatchOption}
use Rattle.std.specs.Option.{option_and_then}
use Rattle.hg_base.specs.PathText.{is_below, is_path, parent_of}
use Rattle.std.specs.Map.{lookup, update}
use Rattle.std.specs.Str.{bytes_eq}
use Rattle.hg_entry.specs.Entry.{EntryData}

-- what a node records: its entry, the copy source of that, and where the texts of its path and of its source lie in the image, if they are lent
pub record NodeData : Type 0 where
  pub entry : Option EntryData
  pub source : Option (List ℕ)
  pub text_at : Option ℕ
  pub source_at : Option ℕ

-- the node at a path, where one stands there
abbrev pub node_at : List (List ℕ × NodeData) → List ℕ → Option NodeData
node_at rows at = lookup (bytes_eq at) rows

-- one path has another node, or none, and all others have what they had
abbrev pub IsPut : List ℕ → Option NodeData → List (List ℕ × NodeData) → List (List ℕ × NodeData) → Type 0
IsPut path node old new = (at : List ℕ) → node_at new at ≡ update bytes_eq (node_at old) path node at

-- all paths have what they had
abbrev pub AreSame : List (List ℕ × NodeData) → List (List ℕ × NodeData) → Type 0
AreSame old new = (at : List ℕ) → node_at new at ≡ node_at old at

abbrev pub entry_in : Option NodeData → Option EntryData
entry_in node = option_and_then (λ n. n.entry) node

abbrev pub source_in : Option NodeData → Option (List ℕ)
source_in node = option_and_then (λ n. n.source) node

abbrev pub text_in : Option NodeData → Option ℕ
text_in node = option_and_then (λ n. n.text_at) node

abbrev pub source_text_in : Option NodeData → Option ℕ
source_text_in node = option_and_then (λ n. n.source_at) node

-- a node without entry, of which no text is lent
abbrev pub blank : NodeData
blank = record { entry = None; source = None; text_at = None; source_at = None }

-- a node that has lost its entry, with its copy source
abbrev pub cleared : Option NodeData → NodeData
cleared node = record { entry = None; source = None; text_at = text_in node; source_at = None }

-- a node with another copy source, of which the text isn't lent
abbrev pub with_source : Option (List ℕ) → Option NodeData → NodeData
with_source source node = record { entry = entry_in node; source = source; text_at = text_in node; source_at = None }

abbrev pub or_blank : Option NodeData → NodeData
or_blank None = blank
or_blank (Some node) = node

-- what stands at a path once a node is put there, and nodes at those directories above where there was none
abbrev pub planted : List ℕ → NodeData → (List ℕ → Option NodeData) → List ℕ → Option NodeData
planted path node nodes at =
    if bytes_eq path at then Some node else (if is_below at path then Some (or_blank (nodes at)) else nodes at)

-- above each directory above a path at which a node stands, nodes stand
abbrev pub AreRootedAbove : List ℕ → (List ℕ → Option NodeData) → Type 0
AreRootedAbove path nodes =
    (dir at : List ℕ) → is_below at path ≡ true → is_below dir at ≡ true → is_some (nodes at) ≡ true → is_some (nodes dir) ≡ true

-- the directory of a path, where nothing stands there; where it is none, nodes stand at all directories above
abbrev pub IsMissing : List ℕ → (List ℕ → Option NodeData) → Option (List ℕ) → Type 0
IsMissing path nodes missing =
    MatchOption missing ((at : List ℕ) → is_below at path ≡ true → is_some (nodes at) ≡ true)
    (λ dir. (parent_of path ≡ Some dir) × (nodes dir ≡ None))

-- each node is at a path, and nodes stand at the directories above it
pub record AreRooted (nodes : List ℕ → Option NodeData) : Type 0 where
  pub paths : (at : List ℕ) → is_some (nodes at) ≡ true → is_path at ≡ true
  pub rooted : (dir at : List ℕ) → is_below dir at ≡ true → is_some (nodes at) ≡ true → is_some (nodes dir) ≡ true

-- a node with an entry, and with the copy source that was there
abbrev pub with_entry : EntryData → Option NodeData → NodeData
with_entry entry node = record { entry = Some entry; source = source_in node; text_at = text_in node; source_at = source_text_in node }

-- a node stands at a directory, where it isn't the root
abbrev pub IsThere : List (List ℕ × NodeData) → Option (List ℕ) → Type 0
IsThere rows dir = (d : List ℕ) → dir ≡ Some d → is_some (node_at rows d) ≡ true
