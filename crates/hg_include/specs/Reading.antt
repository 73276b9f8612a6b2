-- Reading a file of ignore patterns and those that its lines name: each in the place of the line that names it, before the lines that follow.
use Rattle.std.specs.Prelude.{ℕ, zero, suc, ◌-◌, if◌then◌else◌, Bool, true, false, List, [], ◌∷◌, ◌++◌, length, map, Option, Some, None}
use Rattle.hg_include.specs.declared.fault.Bad.{Bad}
use Rattle.hg_include.specs.declared.fault.Bad.TheVariants as a_bad
use Rattle.hg_include.specs.declared.line.Says.{Says}
use Rattle.hg_include.specs.declared.line.Says.TheVariants as says
use Rattle.hg_include.specs.declared.line.Line.{Line}
use Rattle.hg_include.specs.declared.look.Given.{Given}
use Rattle.hg_include.specs.declared.look.Given.TheVariants as given
use Rattle.hg_include.specs.declared.name.Target.{Target}
use Rattle.hg_include.specs.declared.piece.Piece.{Piece}
use Rattle.hg_include.specs.declared.warnings.Warning.{Warning}
use Rattle.hg_include.specs.Line.{lines_of}
use Rattle.hg_include.specs.Look.{Look, given_by, ignore_file}
use Rattle.hg_include.specs.Name.{included, subincluded, was_read}

-- a way to know files: what the look of that number, counted from 0, gives at a path
abbrev pub Know : Type 0
Know = ℕ → List ℕ → Look

-- a file that was looked at
pub record Ask : Type 0 where
  pub path : List ℕ
  pub look : Look

-- a line that is left, with the file in which it stands and that file's base
pub record Task : Type 0 where
  pub file : List ℕ
  pub base : Option (List ℕ)
  pub line : Line

-- what was read so far, of what is to be warned, and which files were looked at
pub record SoFar : Type 0 where
  pub pieces : List Piece
  pub warnings : List Warning
  pub asks : List Ask

-- why a file is refused
pub record Refusal : Type 0 where
  pub file : List ℕ
  pub what : Bad

-- how a reading ended: with all lines read, or at the first refusal
pub record Ended : Type 0 where
  pub so : SoFar
  pub fault : Option Refusal

abbrev pub done : SoFar → Ended
done so = record { so = so; fault = None }

abbrev pub refused : List ℕ → Bad → SoFar → Ended
refused file what so = record { so = so; fault = Some (record { file = file; what = what }) }

-- the lines of a file, as they are left when it was opened
abbrev pub tasks_of : Target → List Line → List Task
tasks_of target lines = map (λ line. record { file = target.file; base = target.base; line = line }) lines

-- one is warned of a line
abbrev pub warned : Task → Bool → List ℕ → SoFar → SoFar
warned task missing name so = record so { warnings = so.warnings ++ record { file = task.file; line = task.line.number; missing = missing; name = name } ∷ [] }

-- a file was looked at
abbrev pub looked : Know → List ℕ → SoFar → SoFar
looked know path so = record so { asks = so.asks ++ record { path = path; look = know (length so.asks) path } ∷ [] }

-- a file was read
abbrev pub opened : Target → List ℕ → SoFar → SoFar
opened target text so = record so { pieces = so.pieces ++ record { file = target.file; base = target.base; text = text } ∷ [] }

-- what a line comes to: of a name one is warned; a name is refused; a file was read before; or a file is to be read, by that name
pub data Step : Type 0 where
  warns : List ℕ → Step
  refuses : Step
  skips : Step
  opens : Target → List ℕ → Step

abbrev pub named : List Piece → List ℕ → Option Target → Step
named pieces name None = refuses
named pieces name (Some target) = if was_read target pieces then skips else opens target name

abbrev pub step_of : List Piece → List ℕ → Option (List ℕ) → Says → Step
step_of pieces file base (says.Unknown name) = warns name
step_of pieces file base (says.Include name) = named pieces name (included base name)
step_of pieces file base (says.SubInclude name) = named pieces name (subincluded file name)

abbrev pub step : List Piece → Task → Step
step pieces task = step_of pieces task.file task.base task.line.says

-- a file was looked at: a missing one is warned of and the lines behind are read, the lines of one that is there are read before those
abbrev pub on_given : (List Task → SoFar → Ended) → (SoFar → Ended) → List Task → Task → Target → List ℕ → SoFar → Given → Ended
on_given reads rest tasks task target name so given.Missing = rest (warned task true name so)
on_given reads rest tasks task target name so (given.Refused what) = refused target.file what so
on_given reads rest tasks task target name so (given.There text) = reads (tasks_of target (lines_of text) ++ tasks) (opened target text so)

-- a file is to be read: where no more may be, the line is refused, and nothing is looked at
abbrev pub on_open : ℕ → Know → Option (List Task → SoFar → Ended) → (SoFar → Ended) → List Task → Task → SoFar → Target → List ℕ → Ended
on_open most know None rest tasks task so target name = refused task.file (a_bad.Include task.line.number) so
on_open most know (Some reads) rest tasks task so target name =
    on_given reads rest tasks task target name (looked know target.file so) (given_by most (know (length so.asks) target.file))

-- a line is read: `rest` reads the lines behind it, `deeper` a file more and then those
abbrev pub on_step : ℕ → Know → Option (List Task → SoFar → Ended) → (SoFar → Ended) → List Task → Task → SoFar → Step → Ended
on_step most know deeper rest tasks task so (warns name) = rest (warned task false name so)
on_step most know deeper rest tasks task so refuses = refused task.file (a_bad.Include task.line.number) so
on_step most know deeper rest tasks task so skips = rest so
on_step most know deeper rest tasks task so (opens target name) = on_open most know deeper rest tasks task so target name

-- the lines that are left are read in order
abbrev pub in_order : ℕ → Know → Option (List Task → SoFar → Ended) → List Task → SoFar → Ended
in_order most know deeper [] so = done so
in_order most know deeper (task ∷ tasks) so = on_step most know deeper (λ so. in_order most know deeper tasks so) tasks task so (step so.pieces task)

-- so many more pairs of a file and a base may be read
abbrev pub reads : ℕ → ℕ → Know → List Task → SoFar → Ended
reads most zero know = in_order most know None
reads most (suc left) know = in_order most know (Some (reads most left know))

-- the lines that are left, where at most `limit` pairs are read in all
unfoldable pub reads_on : ℕ → ℕ → Know → List Task → SoFar → Ended
reads_on most limit know tasks so = reads most (limit - length so.pieces) know tasks so

-- nothing was read
abbrev pub nothing : SoFar
nothing = record { pieces = []; warnings = []; asks = [] }

-- the first pair: the file `.hgignore` at the root, without a base
abbrev pub start : Target
start = record { file = ignore_file; base = None }

-- where the first file is missing there is nothing to read
abbrev pub begun : ℕ → ℕ → Know → SoFar → Given → Ended
begun most limit know so given.Missing = done so
begun most limit know so (given.Refused what) = refused ignore_file what so
begun most limit know so (given.There text) = reads_on most limit know (tasks_of start (lines_of text)) (opened start text so)

-- the reading of `.hgignore`, by what looks at files give: at most so many bytes of each file, and so many pairs of a file and a base
unfoldable pub reading : ℕ → ℕ → Know → Ended
reading most limit know = begun most limit know (looked know ignore_file nothing) (given_by most (know 0 ignore_file))
