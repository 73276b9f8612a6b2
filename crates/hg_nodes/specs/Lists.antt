-- The nodes as lists, one for each directory that has any.
use Rattle.std.specs.Prelude.{ℕ, ◌≡◌, Bool, List, [], ◌∷◌, ◌++◌, map, Option, Some, None, String}
use Rattle.std.specs.Option.{option_map, option_and_then}
use Rattle.std.specs.List.{AllByRecursion, list_any}
use Rattle.std.specs.List.Sorted.{IsStrictlySortedBy}
use Rattle.std.specs.Map.{keys_of, update}
use Rattle.std.specs.Str.{bytes_eq}
use Rattle.std.specs.BTreeMap.{BTreeMap, get_by_text}
use Rattle.std.specs.String.{string_bytes, string_cmp}
use Rattle.hg_base.specs.PathText.{parent_of}
use Rattle.hg_entry.specs.Entry.{view}
use Rattle.hg_nodes.specs.Node.{NodeData}
use Rattle.hg_nodes.specs.declared.node.Node.{Node}

abbrev pub data_of : Node → NodeData
data_of node = record {
  entry = option_map view node.entry;
  source = option_map (λ s. s.value.path) node.source;
  text_at = node.text_at;
  source_at = option_and_then (λ s. s.value.at) node.source;
}

-- a directory as a text, where nothing is the root
abbrev pub or_root : Option (List ℕ) → List ℕ
or_root None = []
or_root (Some dir) = dir

-- the text of the directory in which a path stands
abbrev pub dir_text : List ℕ → List ℕ
dir_text path = or_root (parent_of path)

-- a row stands right in a directory
abbrev pub has_rows_in : List (List ℕ × NodeData) → List ℕ → Bool
has_rows_in rows dir = list_any (λ row. bytes_eq (dir_text row.0) dir) rows

module _ {Y : Type 0} where
  -- the node at a path, in the list of its directory
  abbrev pub look : BTreeMap (String Y) (BTreeMap (String Y) Node) → List ℕ → Option Node
  look lists at = option_and_then (λ list. get_by_text list at) (get_by_text lists (dir_text at))

  -- each node as a row
  abbrev pub rows_in : List (String Y × Node) → List (List ℕ × NodeData)
  rows_in nodes = map (λ e. (string_bytes e.0, data_of e.1)) nodes

  abbrev pub rows_of : List (String Y × BTreeMap (String Y) Node) → List (List ℕ × NodeData)
  rows_of [] = []
  rows_of (list ∷ lists) = rows_in list.1.entries ++ rows_of lists

  -- paths that stand in a directory
  abbrev pub IsListOf : List ℕ → List (String Y) → Type 0
  IsListOf dir paths = AllByRecursion (λ path. dir_text (string_bytes path) ≡ dir) paths

  -- there is one list for each directory
  pub record AreListed (lists : List (String Y × BTreeMap (String Y) Node)) : Type 0 where
    pub ordered : IsStrictlySortedBy string_cmp (keys_of lists)
    pub placed : AllByRecursion (λ list. IsListOf (string_bytes list.0) (keys_of list.1.entries)) lists

  -- one path of a list has another node, or none, and all others have what they had
  pub record IsChanged (path : List ℕ) (node : Option Node) (old new : BTreeMap (String Y) Node) : Type 0 where
    pub found : (at : List ℕ) → get_by_text new at ≡ update bytes_eq (get_by_text old) path node at
    pub placed : (dir : List ℕ) → dir_text path ≡ dir → IsListOf dir (keys_of old.entries) → IsListOf dir (keys_of new.entries)

  -- the same of all lists
  pub record AreChanged (path : List ℕ) (node : Option Node) (old new : BTreeMap (String Y) (BTreeMap (String Y) Node)) : Type 0 where
    pub found : (at : List ℕ) → look new at ≡ update bytes_eq (look old) path node at
    pub listed : AreListed new.entries

  -- all paths have what they had
  pub record AreKept (old new : BTreeMap (String Y) (BTreeMap (String Y) Node)) : Type 0 where
    pub found : (at : List ℕ) → look new at ≡ look old at
    pub listed : AreListed new.entries

-- the rows of a list, where there is one
abbrev pub rows_left : {Y : Type 0} → Option (List (String Y × Node)) → List (List ℕ × NodeData)
rows_left None = []
rows_left (Some nodes) = rows_in nodes
