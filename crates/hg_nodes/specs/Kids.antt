-- The nodes that stand right in a directory, one after the other.
use Rattle.std.specs.Prelude.{ℕ, ◌≡◌, if◌then◌else◌, ◌⊎◌, Bool, true, false, List, [], ◌∷◌, Option, Some, None, is_some}
use Rattle.std.specs.List.{AllByRecursion, list_any}
use Rattle.std.specs.List.Sorted.{IsStrictlySortedBy}
use Rattle.std.specs.Map.{keys_of}
use Rattle.std.specs.Ordering.{is_gt, is_lt, nat_cmp}
use Rattle.std.specs.Cmp.Lexicographic.{slice_cmp}
use Rattle.std.specs.Str.{bytes_eq}
use Rattle.hg_base.specs.PathText.{is_below, is_path, parent_of}
use Rattle.hg_nodes.specs.Node.{NodeData, entry_in, node_at}
use Rattle.hg_nodes.specs.Lists.{dir_text, has_rows_in}

-- some rows are all that stand in a directory, ascending by path
pub record AreKids (rows : List (List ℕ × NodeData)) (dir : List ℕ) (kids : List (List ℕ × NodeData)) : Type 0 where
  pub sorted : IsStrictlySortedBy (slice_cmp nat_cmp) (keys_of kids)
  pub each : AllByRecursion (λ kid. (dir_text kid.0 ≡ dir) × (node_at rows kid.0 ≡ Some kid.1)) kids
  pub all : (at : List ℕ) → dir_text at ≡ dir → is_some (node_at rows at) ≡ true → list_any (λ kid. bytes_eq at kid.0) kids ≡ true

-- the first of what is left is taken, or nothing is left
abbrev pub Takes : {X : Type 0} → List X → List X → Option X → Type 0
Takes old new None = (old ≡ []) × (new ≡ [])
Takes old new (Some x) = old ≡ x ∷ new

-- a path stands before the first directory that has nodes, where there is one
abbrev pub is_before : Option (List ℕ) → List ℕ → Bool
is_before None path = true
is_before (Some next) path = is_lt (slice_cmp nat_cmp path next)

-- a directory isn't greater than the next one, where there is one
abbrev pub IsFrom : List ℕ → Option (List ℕ) → Type 0
IsFrom dir None = Unit {0}
IsFrom dir (Some next) = is_gt (slice_cmp nat_cmp dir next) ≡ false

-- what a search among the directories finds: whether a node stands right in one, and the first from it on in which one may stand
pub record Seeks (rows : List (List ℕ × NodeData)) (dir : List ℕ) (has : Bool) (next : Option (List ℕ)) : Type 0 where
  pub here : has ≡ has_rows_in rows dir
  pub from : IsFrom dir next
  pub quiet : (at : List ℕ) → is_lt (slice_cmp nat_cmp dir at) ≡ true → is_before next at ≡ true → has_rows_in rows at ≡ false

-- the next directory, none where it stands behind all that stands beside a path
abbrev pub below_dir : Option (List ℕ) → Option (List ℕ) → Option (List ℕ)
below_dir None next = next
below_dir (Some dir) None = None
below_dir (Some dir) (Some next) = if is_below dir next then Some next else None

abbrev pub beside : List ℕ → Option (List ℕ) → Option (List ℕ)
beside path next = below_dir (parent_of path) next

-- nodes with an entry have no children
abbrev pub AreChildless : List (List ℕ × NodeData) → Type 0
AreChildless rows = (at : List ℕ) → is_path at ≡ true → is_some (entry_in (node_at rows at)) ≡ true → has_rows_in rows at ≡ false

-- where the mark isn't set, they have none
abbrev pub IsMarked : Bool → List (List ℕ × NodeData) → Type 0
IsMarked stacked rows = stacked ≡ false → AreChildless rows

-- the directory of a path has an entry
abbrev pub has_entry_in : List (List ℕ × NodeData) → Option (List ℕ) → Bool
has_entry_in rows None = false
has_entry_in rows (Some dir) = is_some (entry_in (node_at rows dir))

abbrev pub is_below_entry : List (List ℕ × NodeData) → List ℕ → Bool
is_below_entry rows path = has_entry_in rows (parent_of path)

-- what is left of the nodes of one directory ascends, and those before the next directory that has nodes have none
pub record AreLeftBefore (rows : List (List ℕ × NodeData)) (next : Option (List ℕ)) (kids : List (List ℕ × NodeData)) : Type 0 where
  pub dir : List ℕ
  pub placed : AllByRecursion (λ kid. (dir_text kid.0 ≡ dir) × (node_at rows kid.0 ≡ Some kid.1)) kids
  pub sorted : IsStrictlySortedBy (slice_cmp nat_cmp) (keys_of kids)
  pub quiet : AllByRecursion (λ kid. is_before next kid.0 ≡ true → has_rows_in rows kid.0 ≡ false) kids

-- beside a path, behind it, but before the next directory, stands no directory that has nodes
abbrev pub IsQuiet : List (List ℕ × NodeData) → List ℕ → Option (List ℕ) → Type 0
IsQuiet rows path next = (at : List ℕ) → dir_text at ≡ dir_text path → is_lt (slice_cmp nat_cmp path at) ≡ true → is_before next at ≡ true → has_rows_in rows at ≡ false

-- a look for a directory's nodes, where those before the next that is known have none
pub record LooksOn (rows : List (List ℕ × NodeData)) (known : Option (List ℕ)) (dir : List ℕ) (has : Bool) (next : Option (List ℕ)) : Type 0 where
  pub here : (is_before known dir ≡ true → has_rows_in rows dir ≡ false) → has ≡ has_rows_in rows dir
  pub on : (next ≡ known) ⊎ IsQuiet rows dir next
