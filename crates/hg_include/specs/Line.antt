-- What the lines of an ignore text say of other files and of syntaxes that aren't known; lines are counted from 1, and texts are bytes.
use Rattle.std.specs.Prelude.{ℕ, ◌+◌, List, [], ◌∷◌, ◌++◌, Option, Some, None}
use Rattle.hg_syntax.specs.Syntax.{form_of, syntax_named}
use Rattle.hg_syntax.specs.Text.{cut_at, pieces, text_of, trimmed}
use Rattle.hg_syntax.specs.declared.syntax.Syntax.{Syntax}
use Rattle.hg_syntax.specs.declared.syntax.Form.{Form}
use Rattle.hg_syntax.specs.declared.syntax.Form.TheVariants as a_form
use Rattle.hg_include.specs.declared.line.Says.{Says}
use Rattle.hg_include.specs.declared.line.Says.TheVariants as says
use Rattle.hg_include.specs.declared.line.Line.{Line}

-- a line that names a syntax says nothing here where that is known
abbrev pub syntax_says : List ℕ → Option Syntax → Option Says
syntax_says name None = Some (says.Unknown name)
syntax_says name (Some syntax) = None

-- a line with a colon, by what the word before it makes of the line; the name of a file is all that stands behind the colon
abbrev pub form_says : List ℕ → Form → Option Says
form_says rest a_form.Naming = syntax_says (trimmed rest) (syntax_named (trimmed rest))
form_says rest a_form.Include = Some (says.Include rest)
form_says rest a_form.SubInclude = Some (says.SubInclude rest)
form_says rest (a_form.Own syntax) = None
form_says rest a_form.Plain = None

abbrev pub cut_says : Option (List ℕ × List ℕ) → Option Says
cut_says None = None
cut_says (Some (word, rest)) = form_says rest (form_of word)

-- what a line says, its comment and the white space at its end taken off
abbrev pub line_says : List ℕ → Option Says
line_says line = cut_says (cut_at 58 (text_of line))

-- a line that says something, with its number
abbrev pub numbered : ℕ → Option Says → List Line
numbered n None = []
numbered n (Some what) = record { number = n; says = what } ∷ []

-- what lines say from that number on
abbrev pub lines_from : ℕ → List (List ℕ) → List Line
lines_from n [] = []
lines_from n (line ∷ lines) = numbered n (line_says line) ++ lines_from (n + 1) lines

-- what the lines of a text say
abbrev pub lines_of : List ℕ → List Line
lines_of text = lines_from 1 (pieces 10 text)
