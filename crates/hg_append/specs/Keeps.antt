-- What is kept of the data file that a table was opened from: an append keeps lists and texts where they lie, a rewrite nothing.
use Rattle.std.specs.Prelude.{ℕ, Bool, if◌then◌else◌, List, [], Option, Some, None, option_map}
use Rattle.hg_image.specs.Reading.{row_at}
use Rattle.hg_image.specs.Rows.{Row, rows_of}
use Rattle.hg_mixed.specs.Held.{Held, is_lent}
use Rattle.hg_append.specs.declared.kept.Kept.{Kept}
use Rattle.hg_append.specs.declared.way.Way.{Way}
use Rattle.hg_append.specs.declared.way.Way.TheVariants as a_way

-- the list of a directory, where it is kept, and the place of a lent text, where it is used again
pub record Keeps : Type 0 where
  pub list : List ℕ → Option Kept
  pub text : Option ℕ → Option ℕ

-- nothing is kept
abbrev pub keeps_nothing : Keeps
keeps_nothing = record { list = λ dir. None; text = λ place. None }

-- the list of children that a row of an image names
abbrev pub kept_list : Row → Kept
kept_list row = record { start = row.rec.kids_start; count = row.rec.kids_count; entries = row.rec.entries_below; tracked = row.rec.tracked_below }

-- the list of a directory, where it is lent
abbrev pub list_lent : Held → List ℕ → Option Kept
list_lent held dir = if is_lent held (Some dir) then option_map kept_list (row_at (rows_of held.docket held.bytes) dir) else None

-- each list that is lent is kept, and each text
abbrev pub keeps_lent : Held → Keeps
keeps_lent held = record { list = list_lent held; text = λ place. place }

abbrev pub keeps_by : Held → Way → Keeps
keeps_by held a_way.Rewrite = keeps_nothing
keeps_by held a_way.Append = keeps_lent held

-- a list that isn't empty
abbrev pub only_if : Bool → Option Kept → Option Kept
only_if some None = None
only_if some (Some list) = if some then Some list else None

-- a number of a list that is kept, and else another
abbrev pub number_unless : Option Kept → (Kept → ℕ) → ℕ → ℕ
number_unless None of n = n
number_unless (Some list) of n = of list

-- a list that is kept takes no bytes
abbrev pub size_unless : Option Kept → ℕ → ℕ
size_unless list n = number_unless list (λ l. 0) n

abbrev pub bytes_unless : Option Kept → List ℕ → List ℕ
bytes_unless None bytes = bytes
bytes_unless (Some list) bytes = []

-- what is put of a text that may be at a place already
abbrev pub new_text : Option ℕ → List ℕ → List ℕ
new_text None text = text
new_text (Some place) text = []

-- where it begins
abbrev pub text_start : Option ℕ → ℕ → ℕ
text_start None at = at
text_start (Some place) at = place
