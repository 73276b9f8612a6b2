-- What a reading of lines keeps of them, and why it stops.
use Rattle.std.specs.Prelude.{ℕ, ◌≡◌, ◌≤◌, Bool, true, false, not, ◌&&◌, ◌||◌, ◌==◌, IsTrue, if◌then◌else◌, List, [], ◌∷◌, ◌++◌, map, Option, Some, None, is_some, Result, Ok, Err}
use Rattle.hg_base.specs.Fault.{Rose}
use Rattle.hg_glob.specs.Refusal.{refusal}
use Rattle.hg_glob.specs.declared.globs.GlobLine.{GlobLine}
use Rattle.hg_ignore.specs.Line.{Item, glob, regexp, unknown, included, Said}
use Rattle.hg_ignore.specs.Regexp.{AreBytes, finds, found_by, is_regexp}
use Rattle.hg_ignore.specs.declared.warnings.Warning.{Warning}
use Rattle.hg_ignore.specs.declared.reading.Reading.{Reading}
use Rattle.hg_ignore.specs.declared.fault.IgnoreFault.{IgnoreFault}
use Rattle.hg_ignore.specs.declared.fault.IgnoreFault.TheVariants as a_fault

-- the globs among what lines say
abbrev pub globs_of : List Item → List GlobLine
globs_of [] = []
globs_of (glob n rooted text ∷ items) = record { rooted = rooted; glob = text } ∷ globs_of items
globs_of (regexp n text ∷ items) = globs_of items
globs_of (unknown n name ∷ items) = globs_of items
globs_of (included n ∷ items) = globs_of items

-- the texts of the regexps
abbrev pub regexps_of : List Item → List (List ℕ)
regexps_of [] = []
regexps_of (glob n rooted text ∷ items) = regexps_of items
regexps_of (regexp n text ∷ items) = text ∷ regexps_of items
regexps_of (unknown n name ∷ items) = regexps_of items
regexps_of (included n ∷ items) = regexps_of items

-- a warning for each syntax that isn't known
abbrev pub warnings_of : List Item → List Warning
warnings_of [] = []
warnings_of (glob n rooted text ∷ items) = warnings_of items
warnings_of (regexp n text ∷ items) = warnings_of items
warnings_of (unknown n name ∷ items) = record { line = n; name = name } ∷ warnings_of items
warnings_of (included n ∷ items) = warnings_of items

-- what is wrong with a line: a glob that is none, a regexp that is none, and another file, which isn't read yet
abbrev pub fault_at : Item → Option IgnoreFault
fault_at (glob n rooted text) = if is_some (refusal text) then Some (a_fault.BadGlob n) else None
fault_at (regexp n text) = if is_regexp text then None else Some (a_fault.BadRegexp n)
fault_at (unknown n name) = None
fault_at (included n) = Some (a_fault.BadInclude n)

abbrev pub or_else : Option IgnoreFault → Option IgnoreFault → Option IgnoreFault
or_else None later = later
or_else (Some fault) later = Some fault

-- the fault of the first line that has one
abbrev pub first_fault : List Item → Option IgnoreFault
first_fault [] = None
first_fault (item ∷ items) = or_else (fault_at item) (first_fault items)

-- the item is a regexp of that line
abbrev pub is_regexp_at : ℕ → Item → Bool
is_regexp_at line (glob n rooted text) = false
is_regexp_at line (regexp n text) = n == line
is_regexp_at line (unknown n name) = false
is_regexp_at line (included n) = false

-- a regexp of that line stands there, and no line before it has a fault
abbrev pub comes_to : ℕ → List Item → Bool
comes_to line [] = false
comes_to line (item ∷ items) = is_regexp_at line item || (not (is_some (fault_at item)) && comes_to line items)

-- why lines are refused: with the first fault; a regexp that is too big, where the reading comes to it; or for want of memory
abbrev pub HasLineCause : List Item → IgnoreFault → Type 0
HasLineCause items a_fault.OutOfMemory = Unit {0}
HasLineCause items a_fault.Failed = ⊥
HasLineCause items (a_fault.IgnoreTooLarge size) = ⊥
HasLineCause items (a_fault.IgnoreText at) = ⊥
HasLineCause items (a_fault.BadGlob line) = first_fault items ≡ Some (a_fault.BadGlob line)
HasLineCause items (a_fault.BadRegexp line) = first_fault items ≡ Some (a_fault.BadRegexp line)
HasLineCause items (a_fault.RegexpTooBig line) = IsTrue (comes_to line items)
HasLineCause items (a_fault.BadInclude line) = first_fault items ≡ Some (a_fault.BadInclude line)

-- the count of regexps that were too big rose exactly where one is named as that
abbrev pub Counted : {T : Type 0} → ℕ → ℕ → Result T IgnoreFault → Type 0
Counted before now (Ok x) = now ≡ before
Counted before now (Err (a_fault.RegexpTooBig line)) = (before ≤ now) × Rose before now
Counted before now (Err fault) = now ≡ before

-- a reading took in what a line says
pub record Taken (said : Said) (old new : Reading) : Type 0 where
  pub syntax : new.syntax ≡ said.syntax
  pub globs : new.globs.items ≡ old.globs.items ++ globs_of said.items
  pub found : (path : List ℕ) → AreBytes path → map (found_by path) new.regexes.items ≡ map (found_by path) old.regexes.items ++ map (λ text. finds text path) (regexps_of said.items)
  pub warnings : new.warnings ≡ old.warnings ++ warnings_of said.items
  pub faultless : first_fault said.items ≡ None

-- what a reading has and what is left of the lines make all lines
pub record Reaches (all left : List Item) (reading : Reading) : Type 0 where
  pub globs : reading.globs.items ++ globs_of left ≡ globs_of all
  pub found : (path : List ℕ) → AreBytes path → map (found_by path) reading.regexes.items ++ map (λ text. finds text path) (regexps_of left) ≡ map (λ text. finds text path) (regexps_of all)
  pub warnings : reading.warnings ++ warnings_of left ≡ warnings_of all
  pub fault : first_fault left ≡ first_fault all
  pub comes : (line : ℕ) → comes_to line left ≡ true → comes_to line all ≡ true
