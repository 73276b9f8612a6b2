-- What the lines of an ignore text say (Mercurial's `hg help hgignore`); lines are counted from 1 and have their text as bytes.
use Rattle.std.specs.Prelude.{ℕ, ◌+◌, if◌then◌else◌, Bool, true, false, not, ◌||◌, ◌==◌, List, [], ◌∷◌, ◌++◌, length, drop, Option, Some, None, codes}
use Rattle.std.specs.Str.{bytes_eq}
use Rattle.std.specs.List.{flat_map, filter}
use Rattle.hg_syntax.specs.Syntax.{form_of, syntax_named}
use Rattle.hg_syntax.specs.Text.{pieces, cut_at, trimmed, text_of}
use Rattle.hg_syntax.specs.declared.syntax.Syntax.{Syntax}
use Rattle.hg_syntax.specs.declared.syntax.Syntax.TheVariants as a_syntax
use Rattle.hg_syntax.specs.declared.syntax.Form.{Form}
use Rattle.hg_syntax.specs.declared.syntax.Form.TheVariants as a_form

-- what a line says, with its number: a glob, which holds from the root alone or in each directory; a regexp; a syntax of a name that
-- isn't known; another file to be read
pub data Item : Type 0 where
  glob : ℕ → Bool → List ℕ → Item
  regexp : ℕ → List ℕ → Item
  unknown : ℕ → List ℕ → Item
  included : ℕ → Item

-- a component of a glob that says where to look: not empty, and not `.`
abbrev pub is_step : List ℕ → Bool
is_step piece = not (length piece == 0 || bytes_eq piece (codes "."))

-- components with a slash before each
abbrev pub slashed : List (List ℕ) → List ℕ
slashed pieces = flat_map (λ piece. 47 ∷ piece) pieces

-- a text begins with a slash
abbrev pub is_absolute : List ℕ → Bool
is_absolute [] = false
is_absolute (b ∷ text) = b == 47

-- a glob normalized as a path: without empty components and `.`, and without a slash at its end; a slash at its beginning stays
abbrev pub normalized : List ℕ → List ℕ
normalized text = if is_absolute text then slashed (filter is_step (pieces 47 text)) else drop 1 (slashed (filter is_step (pieces 47 text)))

-- a glob's line; an empty glob matches nothing, and its line is skipped
abbrev pub glob_line : ℕ → Bool → List ℕ → List Item
glob_line n rooted [] = []
glob_line n rooted (b ∷ text) = glob n rooted (b ∷ text) ∷ []

-- the line of a pattern
abbrev pub pattern_line : ℕ → Syntax → List ℕ → List Item
pattern_line n a_syntax.Regexp text = regexp n text ∷ []
pattern_line n a_syntax.Glob text = glob_line n false (normalized text)
pattern_line n a_syntax.RootGlob text = glob_line n true (normalized text)

-- what a line says, and the syntax of the lines that follow
pub record Said : Type 0 where
  pub items : List Item
  pub syntax : Syntax

abbrev pub pattern_said : ℕ → Syntax → Syntax → List ℕ → Said
pattern_said n next own text = record { items = pattern_line n own text; syntax = next }

-- a line that names a syntax; one that isn't known leaves the syntax
abbrev pub syntax_said : ℕ → Syntax → List ℕ → Option Syntax → Said
syntax_said n syntax name None = record { items = unknown n name ∷ []; syntax = syntax }
syntax_said n syntax name (Some named) = record { items = []; syntax = named }

-- a line with a colon, by what stands before it and behind it
abbrev pub form_said : ℕ → Syntax → List ℕ → List ℕ → Form → Said
form_said n syntax text rest a_form.Naming = syntax_said n syntax (trimmed rest) (syntax_named (trimmed rest))
form_said n syntax text rest a_form.Include = record { items = included n ∷ []; syntax = syntax }
form_said n syntax text rest a_form.SubInclude = record { items = included n ∷ []; syntax = syntax }
form_said n syntax text rest (a_form.Own own) = pattern_said n syntax own rest
form_said n syntax text rest a_form.Plain = pattern_said n syntax syntax text

abbrev pub cut_said : ℕ → Syntax → List ℕ → Option (List ℕ × List ℕ) → Said
cut_said n syntax text None = pattern_said n syntax syntax text
cut_said n syntax text (Some (word, rest)) = form_said n syntax text rest (form_of word)

-- the text of a line, its comment and white space taken off; an empty one says nothing
abbrev pub said : ℕ → Syntax → List ℕ → Said
said n syntax [] = record { items = []; syntax = syntax }
said n syntax (b ∷ text) = cut_said n syntax (b ∷ text) (cut_at 58 (b ∷ text))

-- what lines say from that number on
abbrev pub lines_from : ℕ → Syntax → List (List ℕ) → List Item
lines_from n syntax [] = []
lines_from n syntax (line ∷ lines) = (said n syntax (text_of line)).items ++ lines_from (n + 1) (said n syntax (text_of line)).syntax lines

-- what the lines of a text say; the first syntax is that of regexps
abbrev pub lines_of : List ℕ → List Item
lines_of text = lines_from 1 a_syntax.Regexp (pieces 10 text)
