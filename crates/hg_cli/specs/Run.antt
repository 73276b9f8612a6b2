-- What a run of one command answers by its words, and what it made of the record.
use Rattle.std.proofs.Common.{inl, inr}
use Rattle.std.specs.Prelude.{ℕ, ◌≡◌, ◌⊎◌, List, Option, Ok, Err}
use Rattle.hg_cli.specs.Load.{IsLoaded}
use Rattle.hg_cli.specs.Seen.{Seen}
use Rattle.hg_report.specs.Cause.{of_words}
use Rattle.hg_report.specs.declared.fault.Fault.{Fault}
use Rattle.hg_session.specs.Acts.{Makes, makes_nothing}
use Rattle.hg_session.specs.Answered.{IsAnswered, IsUndone, made_by}
use Rattle.hg_session.specs.Call.{Call}
use Rattle.hg_words.specs.Command.{command_of}
use Rattle.hg_words.specs.declared.fault.WordsFault.{WordsFault}
use Rattle.hg_words.specs.declared.fault.WordsFault.TheVariants as a_words
use Rattle.hg_words.specs.declared.given.Command.{Command}
use Rattle.hg_words.specs.declared.given.Command.TheVariants as a_command

-- a fault was met before anything was done
abbrev pub IsStopped : Fault → Seen → ℕ → Option Fault → Type 0
IsStopped met part code fault = IsUndone met part.looked part.saved part.locks part.out part.err code fault

-- the words weren't read as a command, for this fault: they are none, or there was no memory. Its line is told, and nothing else is done
pub record IsUnread (words : List (List ℕ)) (part : Seen) (code : ℕ) (fault : Option Fault) : Type 0 where
  pub met : WordsFault
  pub why : (met ≡ a_words.OutOfMemory) ⊎ (command_of words ≡ Err met)
  pub undone : IsStopped (of_words met) part code fault

-- the call of a command in which this is seen
abbrev pub call_of : Command → Seen → Call
call_of command part = record { command = command; looked = part.looked; saved = part.saved; locks = part.locks; out = part.out; err = part.err }

-- what a command did: a load is two statuses over a working copy in memory, and each other is answered by itself
abbrev pub Carries : Command → Seen → ℕ → Option Fault → Type 0
Carries (a_command.DebugLoad n) part code fault = IsLoaded n part.looked part.saved part.locks part.out part.err code fault
Carries command part code fault = IsAnswered (call_of command part) code fault

-- the words are a command, which was carried out so, or they weren't read as one
abbrev pub IsRun : List (List ℕ) → Seen → ℕ → Option Fault → Type 0
IsRun words part code fault =
    ((command : Command) × (command_of words ≡ Ok command) × Carries command part code fault)
    ⊎ IsUnread words part code fault

-- what a command made of the record
abbrev pub made_carried : (command : Command) (part : Seen) (code : ℕ) (fault : Option Fault) → Carries command part code fault → Makes
made_carried (a_command.Status flags) part code fault is = made_by (a_command.Status flags) (call_of (a_command.Status flags) part) code fault is.ran
made_carried (a_command.Add files) part code fault is = made_by (a_command.Add files) (call_of (a_command.Add files) part) code fault is.ran
made_carried (a_command.Forget files) part code fault is = made_by (a_command.Forget files) (call_of (a_command.Forget files) part) code fault is.ran
made_carried (a_command.Remove after files) part code fault is = made_by (a_command.Remove after files) (call_of (a_command.Remove after files) part) code fault is.ran
made_carried (a_command.Copy source target) part code fault is = made_by (a_command.Copy source target) (call_of (a_command.Copy source target) part) code fault is.ran
made_carried (a_command.SetParents p1 p2) part code fault is = made_by (a_command.SetParents p1 p2) (call_of (a_command.SetParents p1 p2) part) code fault is.ran
made_carried a_command.DebugDirstate part code fault is = makes_nothing
made_carried a_command.DebugScript part code fault is = makes_nothing
made_carried (a_command.DebugLoad n) part code fault is = makes_nothing

-- what a run made of it
abbrev pub made_run : (words : List (List ℕ)) (part : Seen) (code : ℕ) (fault : Option Fault) → IsRun words part code fault → Makes
made_run words part code fault (inl (command, is, carried)) = made_carried command part code fault carried
made_run words part code fault (inr unread) = makes_nothing
