-- The paths of a working copy, as Mercurial names them: components joined by `/`, relative to the root.
use Rattle.std.specs.Prelude.{ℕ, if◌then◌else◌, Bool, true, false, not, ◌&&◌, ◌||◌, List, [], ◌∷◌, ◌++◌, length, Option, Some, None, codes, ◌==◌, nat_le}
use Rattle.std.specs.Str.{bytes_eq}
use Rattle.std.specs.List.{slice_split, list_any, list_all}

-- the pieces between the slashes of a text
abbrev pub components : List ℕ → List (List ℕ)
components text = slice_split (λ b. b == 47) text

-- a NUL stands in the text
abbrev pub has_nul : List ℕ → Bool
has_nul text = list_any (λ b. b == 0) text

-- a slash stands in the text
abbrev pub has_slash : List ℕ → Bool
has_slash text = list_any (λ b. b == 47) text

-- what may stand between two slashes: a text that isn't empty, `.` or `..`, without NUL and without a slash
abbrev pub is_component : List ℕ → Bool
is_component name = not (length name == 0 || bytes_eq name (codes ".") || bytes_eq name (codes "..") || has_nul name || has_slash name)

-- the first component is `.hg`, where Mercurial keeps its own files
abbrev pub is_reserved : List (List ℕ) → Bool
is_reserved [] = false
is_reserved (first ∷ rest) = bytes_eq first (codes ".hg")

-- a path: its components are components, the first isn't `.hg`, and it is within the limits of length and depth
abbrev pub is_path : List ℕ → Bool
is_path text =
    nat_le (length text) 65535 && list_all is_component (components text) && not (is_reserved (components text)) && nat_le (length (components text)) 2048

-- a name in a directory, where no directory is the root
abbrev pub joined : Option (List ℕ) → List ℕ → List ℕ
joined None name = name
joined (Some dir) name = dir ++ 47 ∷ name

-- the last of some pieces
abbrev pub last_piece : List (List ℕ) → List ℕ
last_piece [] = []
last_piece (part ∷ []) = part
last_piece (part ∷ next ∷ parts) = last_piece (next ∷ parts)

-- a piece before the text of those behind it, where there are any
abbrev pub before_rest : List ℕ → Option (List ℕ) → List ℕ
before_rest part None = part
before_rest part (Some rest) = part ++ 47 ∷ rest

-- pieces joined by slashes, where no piece is nothing
abbrev pub joined_pieces : List (List ℕ) → Option (List ℕ)
joined_pieces [] = None
joined_pieces (part ∷ parts) = Some (before_rest part (joined_pieces parts))

-- all pieces but the last
abbrev pub all_but_last : List (List ℕ) → List (List ℕ)
all_but_last [] = []
all_but_last (part ∷ []) = []
all_but_last (part ∷ next ∷ parts) = part ∷ all_but_last (next ∷ parts)

-- the name of a path in its directory
abbrev pub base_of : List ℕ → List ℕ
base_of text = last_piece (components text)

-- the directory of a path, none for the root
abbrev pub parent_of : List ℕ → Option (List ℕ)
parent_of text = joined_pieces (all_but_last (components text))

-- two directories are one, where no directory is the root
abbrev pub is_same_dir : Option (List ℕ) → Option (List ℕ) → Bool
is_same_dir None None = true
is_same_dir None (Some other) = false
is_same_dir (Some dir) None = false
is_same_dir (Some dir) (Some other) = bytes_eq dir other

-- a path stands below a directory: it begins with the directory and a slash
abbrev pub is_below : List ℕ → List ℕ → Bool
is_below [] [] = false
is_below [] (b ∷ path) = b == 47
is_below (a ∷ dir) [] = false
is_below (a ∷ dir) (b ∷ path) = a == b && is_below dir path

-- the name of a path in the directory, where it stands right in it
abbrev pub child_of : Option (List ℕ) → List ℕ → Option (List ℕ)
child_of dir path = if is_same_dir dir (parent_of path) then Some (base_of path) else None
