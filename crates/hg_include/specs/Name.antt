-- Which file a line names, and of which paths that file then speaks.
use Rattle.std.specs.Prelude.{ℕ, if◌then◌else◌, Bool, ◌&&◌, List, Option, Some, None}
use Rattle.std.specs.Str.{bytes_eq}
use Rattle.std.specs.List.{list_any}
use Rattle.hg_base.specs.PathText.{is_path, is_same_dir, joined, parent_of}
use Rattle.hg_include.specs.declared.piece.Piece.{Piece}
use Rattle.hg_include.specs.declared.name.Target.{Target}

-- an `include:` names a file by its path from the root, and the base stays that of the file in which the line stands
abbrev pub included : Option (List ℕ) → List ℕ → Option Target
included base name = if is_path name then Some (record { file = name; base = base }) else None

-- a file that speaks of the paths below its own directory alone; at the root that is each path
abbrev pub based : List ℕ → Target
based file = record { file = file; base = parent_of file }

-- a `subinclude:` names a file by its path from the directory of the file in which the line stands
abbrev pub subincluded : List ℕ → List ℕ → Option Target
subincluded file name = if is_path name && is_path (joined (parent_of file) name) then Some (based (joined (parent_of file) name)) else None

-- a piece is of that file, with that base
abbrev pub is_of : Target → Piece → Bool
is_of target piece = bytes_eq piece.file target.file && is_same_dir piece.base target.base

-- the file was read with that base
abbrev pub was_read : Target → List Piece → Bool
was_read target pieces = list_any (is_of target) pieces
