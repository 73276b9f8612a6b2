-- What a part of a reading comes to: it leads on from what was read so far and the lines that are left, or it stops there.
use Rattle.std.specs.Prelude.{ℕ, ◌≡◌, ◌+◌, ◌<◌, List, [], ◌++◌, length, Option, Some, None}
use Rattle.hg_tree.specs.History.{History, Passes}
use Rattle.hg_include.specs.declared.fault.Bad.TheVariants as a_bad
use Rattle.hg_include.specs.declared.fault.IncludeFault.{IncludeFault}
use Rattle.hg_include.specs.declared.fault.IncludeFault.TheVariants as a_fault
use Rattle.hg_include.specs.declared.line.Line.{Line}
use Rattle.hg_include.specs.declared.line.Says.{Says}
use Rattle.hg_include.specs.declared.name.Target.{Target}
use Rattle.hg_include.specs.declared.opening.Opened.{Opened}
use Rattle.hg_include.specs.Answer.{Read}
use Rattle.hg_include.specs.Asking.{Stands, Stops}
use Rattle.hg_include.specs.Reading.{Task, tasks_of}

-- the line of a file is no name that may be read
abbrev pub IsRefused : List ℕ → ℕ → IncludeFault → Type 0
IsRefused file line a_fault.OutOfMemory = Unit {0}
IsRefused file line a_fault.Failed = ⊥
IsRefused file line (a_fault.Bad at what) = (at ≡ file) × (what ≡ a_bad.Include line)

-- a line of an opened file
abbrev pub task_of : Target → ℕ → Says → Task
task_of target number what = record { file = target.file; base = target.base; line = record { number = number; says = what } }

abbrev pub line_task : Target → Line → Task
line_task target line = record { file = target.file; base = target.base; line = line }

-- the lines of a file that was opened, where one was
abbrev pub tasks_in : Option Opened → List Task
tasks_in None = []
tasks_in (Some opened) = tasks_of opened.target opened.lines.items

-- these lines were read, and those come in their place
abbrev pub LeadsOn : ℕ → ℕ → History → History → Read → Read → List Task → List Task → Type 0
LeadsOn most limit old new before after these those =
    (start : History) (rest : List Task) → Passes start old → Stands most limit start old before (these ++ rest) → Stands most limit start new after (those ++ rest)

-- the reading stops at these lines
abbrev pub StopsAt : ℕ → ℕ → History → History → Read → List Task → IncludeFault → Type 0
StopsAt most limit old new before these fault =
    (start : History) (rest : List Task) → Passes start old → Stands most limit start old before (these ++ rest) → Stops most limit start new fault

-- a file more was read where one was opened
abbrev pub Grows : ℕ → Read → Read → Option Opened → Type 0
Grows limit before after None = length after.pieces ≡ length before.pieces
Grows limit before after (Some opened) = (length before.pieces < limit) × (length after.pieces ≡ length before.pieces + 1)
