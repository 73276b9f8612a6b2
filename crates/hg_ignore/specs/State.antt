-- The ignore state of a working copy: which texts are read, which paths they ignore, and their hash. It is a list of files with their
-- texts, as it will be once a text can name another; there is one at most.
use Rattle.std.specs.Prelude.{ℕ, ◌≡◌, ◌≤◌, ◌⊎◌, false, IsTrue, List, [], ◌∷◌, ◌++◌, Option, Some, None, codes, chars, if◌then◌else◌}
use Rattle.hg_base.specs.Within.{is_within}
use Rattle.sha1.specs.Sha1.{sha1}
use Rattle.hg_glob.specs.Part.{glob_of}
use Rattle.hg_glob.specs.Line.{Stands}
use Rattle.hg_tree.specs.Moment.{Moment, is_file, bytes_at}
use Rattle.hg_tree.specs.History.{History}
use Rattle.hg_ignore.specs.Line.{Item, glob, regexp, unknown, included, lines_of}
use Rattle.hg_ignore.specs.Regexp.{finds}

-- a file that was read, and its text
pub record Piece : Type 0 where
  pub path : List ℕ
  pub text : List ℕ

-- the file that is read
abbrev pub ignore_file : List ℕ
ignore_file = codes ".hgignore"

-- the state of that file's text, where it is there
abbrev pub state_of : Option (List ℕ) → List Piece
state_of None = []
state_of (Some text) = record { path = ignore_file; text = text } ∷ []

-- what the lines of all texts say
abbrev pub items_of : List Piece → List Item
items_of [] = []
items_of (piece ∷ more) = lines_of piece.text ++ items_of more

-- a line matches a path: directories may stand in front of what a glob matches, unless it holds from the root alone; a regexp is
-- found anywhere in the path
abbrev pub LineMatches : Item → List ℕ → Type 0
LineMatches (glob n rooted text) path = Stands false rooted (glob_of (chars text)) (chars path)
LineMatches (regexp n text) path = IsTrue (finds text path)
LineMatches (unknown n name) path = ⊥
LineMatches (included n) path = ⊥

-- some line matches the path
abbrev pub SomeMatches : List Item → List ℕ → Type 0
SomeMatches [] path = ⊥
SomeMatches (item ∷ items) path = LineMatches item path ⊎ SomeMatches items path

-- a line of the state matches the path itself
abbrev pub Matches : List Piece → List ℕ → Type 0
Matches state path = SomeMatches (items_of state) path

-- a path is ignored where a line matches it or a directory above it
abbrev pub Ignored : List Piece → List ℕ → Type 0
Ignored state path = (at : List ℕ) × IsTrue (is_within at path) × Matches state at

-- a file's part of the hash: its path, a space, the SHA-1 of its text, a line feed
abbrev pub hash_lines : List Piece → List ℕ
hash_lines [] = []
hash_lines (piece ∷ more) = (piece.path ++ 32 ∷ sha1 piece.text ++ 10 ∷ []) ++ hash_lines more

-- the hash that a docket keeps of the ignore state
abbrev pub Hash : List Piece → List ℕ
Hash state = sha1 (hash_lines state)

-- the state at a moment: the text of the file, where it is a file
abbrev pub Ignore : Moment → List Piece
Ignore moment = if is_file (moment.things ignore_file) then state_of (bytes_at moment ignore_file) else []

-- the files that are read at a moment
abbrev pub IgnoreFiles : Moment → List (List ℕ)
IgnoreFiles moment = if is_file (moment.things ignore_file) then ignore_file ∷ [] else []

-- the states that a history can give: none, and what a read of the file gives at some moment
abbrev pub Texts : History → List Piece → Type 0
Texts h state = (state ≡ []) ⊎ ((k : ℕ) × (k ≤ h.last) × (state ≡ state_of (bytes_at (h.at k) ignore_file)))
