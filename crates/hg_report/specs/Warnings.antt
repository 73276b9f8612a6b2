-- The lines of what a reader of the ignore patterns is warned of.
use Rattle.std.specs.Prelude.{ℕ, List, [], ◌∷◌, ◌++◌, codes}
use Rattle.std.specs.Fmt.{decimal}
use Rattle.std.specs.List.{flat_map}
use Rattle.hg_ignore.specs.declared.warnings.Warning.{Warning}

-- what a warning says
abbrev pub warning_words : ℕ → List ℕ → List ℕ
warning_words line name = codes ".hgignore line " ++ (decimal line ++ (codes ": unknown syntax " ++ name))

-- its line
abbrev pub warning_line : Warning → List ℕ
warning_line warning = warning_words warning.line warning.name ++ 10 ∷ []

-- the lines of all warnings
abbrev pub warnings_text : List Warning → List ℕ
warnings_text warnings = flat_map warning_line warnings
