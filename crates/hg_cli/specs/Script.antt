-- What a script does: the command of each line, one after another.
use Rattle.std.specs.Prelude.{ℕ, List, [], ◌∷◌, codes, Option, MatchBool}
use Rattle.std.specs.Str.{bytes_eq}
use Rattle.hg_cli.specs.Said.{Said}
use Rattle.hg_lines.specs.Script.{words_of}
use Rattle.hg_lines.specs.Turns.{Turn, Line, Refused}
use Rattle.hg_lines.specs.declared.fault.LineFault.{LineFault}
use Rattle.hg_lines.specs.declared.fault.LineFault.TheVariants as a_line
use Rattle.hg_report.specs.declared.fault.Fault.{Fault}
use Rattle.hg_report.specs.declared.fault.Fault.TheVariants as a_fault

-- the name of the command that runs a script
abbrev pub script_name : List ℕ
script_name = codes "debugscript"

-- the fault of a command for one of reading lines
abbrev pub of_line : LineFault → Fault
of_line a_line.OutOfMemory = a_fault.OutOfMemory
of_line a_line.Failed = a_fault.InFailed
of_line (a_line.Line n) = a_fault.ScriptLine n
of_line (a_line.Text n) = a_fault.ScriptText n
of_line (a_line.TooLarge size) = a_fault.ScriptTooLarge size

-- what the words of a line do: none do nothing; those of a script are refused; others are run as a command's words are
abbrev pub ServesLine : {D : Type 0} → Said D → ℕ → List (List ℕ) → D → D → ℕ → Option Fault → Type 0
ServesLine said number [] old new code fault = said.Rests old new code fault
ServesLine said number (name ∷ words) old new code fault =
    MatchBool (bytes_eq name script_name) (said.Stops (a_fault.ScriptNested number) old new code fault) (said.Runs (name ∷ words) old new code fault)

-- what a turn of a script does
abbrev pub ServesTurn : {D : Type 0} → Said D → Turn → D → D → ℕ → Option Fault → Type 0
ServesTurn said (Line number line) old new code fault = ServesLine said number (words_of line) old new code fault
ServesTurn said (Refused met) old new code fault = said.Stops (of_line met) old new code fault
