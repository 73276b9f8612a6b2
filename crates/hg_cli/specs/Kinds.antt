-- The kinds of calls, and which commands are run in a call of each.
use Rattle.std.specs.Prelude.{ℕ, List, Option, Result, Ok}
use Rattle.hg_cli.specs.Said.{Said}
use Rattle.hg_cli.specs.Script.{ServesTurn}
use Rattle.hg_lines.specs.Turns.{RunsScript}
use Rattle.hg_report.specs.declared.fault.Fault.{Fault}
use Rattle.hg_words.specs.Command.{command_of}
use Rattle.hg_words.specs.declared.fault.WordsFault.{WordsFault}
use Rattle.hg_words.specs.declared.given.Command.{Command}
use Rattle.hg_words.specs.declared.given.Command.TheVariants as a_command

-- a command by itself, or a script, which is a command a line
pub data Kind : Type 0 where
  one_command : Kind
  a_script : Kind

-- the kind of the words that were parsed so; words that are no command are told as such by themselves
abbrev pub kind_in : Result Command WordsFault → Kind
kind_in (Ok a_command.DebugScript) = a_script
kind_in parsed = one_command

abbrev pub kind_of : List (List ℕ) → Kind
kind_of words = kind_in (command_of words)

-- what a call of a kind does, by its words and by what the input has left before and behind it: it runs the one command that the words are, or a script from the
-- input
abbrev pub Serves : {D : Type 0} → Said D → Kind → List (List ℕ) → Option (List ℕ) → Option (List ℕ) → D → D → ℕ → Option Fault → Type 0
Serves said one_command words from to old new code fault = said.Runs words old new code fault
Serves said a_script words from to old new code fault = RunsScript (ServesTurn said) from to old new code fault

-- what a call over words does
abbrev pub ServesWords : {D : Type 0} → Said D → List (List ℕ) → Option (List ℕ) → Option (List ℕ) → D → D → ℕ → Option Fault → Type 0
ServesWords said words from to old new code fault = Serves said (kind_of words) words from to old new code fault
