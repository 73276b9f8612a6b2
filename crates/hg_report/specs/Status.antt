-- The text of a status (help topic `status`): a line for each row.
use Rattle.std.specs.Prelude.{ℕ, Bool, true, false, not, ◌&&◌, if◌then◌else◌, List, [], ◌∷◌, ◌++◌, Option, Some, None}
use Rattle.std.specs.List.{flat_map}
use Rattle.hg_compare.specs.declared.letter.Letter.{Letter}
use Rattle.hg_compare.specs.declared.letter.Letter.TheVariants as a_letter
use Rattle.hg_listing.specs.declared.row.Row.{Row}
use Rattle.hg_report.specs.declared.status.Style.{Style}

-- the sign of a letter: M A R ! ? I C
abbrev pub sign_of : Letter → ℕ
sign_of a_letter.M = 77
sign_of a_letter.A = 65
sign_of a_letter.R = 82
sign_of a_letter.Gone = 33
sign_of a_letter.Unknown = 63
sign_of a_letter.I = 73
sign_of a_letter.C = 67

-- what ends a line: NUL with `-0`, else LF
abbrev pub end_of : Style → ℕ
end_of style = if style.nul then 0 else 10

-- letter and space, which `-n` leaves out
abbrev pub lead_of : Style → Letter → List ℕ
lead_of style letter = if style.plain then [] else sign_of letter ∷ 32 ∷ []

-- the line of a name
abbrev pub name_line : Style → Row → List ℕ
name_line style row = lead_of style row.letter ++ row.path ++ end_of style ∷ []

abbrev pub is_changed : Letter → Bool
is_changed a_letter.M = true
is_changed a_letter.A = true
is_changed a_letter.R = false
is_changed a_letter.Gone = false
is_changed a_letter.Unknown = false
is_changed a_letter.I = false
is_changed a_letter.C = false

-- a copy source is shown with `-C` and without `-n`, of an added or modified file
abbrev pub shows_source : Style → Letter → Bool
shows_source style letter = style.copies && not style.plain && is_changed letter

-- the line of a copy source, where there is one: two spaces before it
abbrev pub source_line : Style → Option (List ℕ) → List ℕ
source_line style None = []
source_line style (Some source) = 32 ∷ 32 ∷ source ++ end_of style ∷ []

-- the lines of a row
abbrev pub row_text : Style → Row → List ℕ
row_text style row = name_line style row ++ (if shows_source style row.letter then source_line style row.source else [])

-- the lines of all rows
abbrev pub text_of : Style → List Row → List ℕ
text_of style rows = flat_map (row_text style) rows
