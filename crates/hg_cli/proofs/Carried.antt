-- What was carried out, by the command.
use Rattle.std.proofs.Common.{ℕ, ◌≡◌, List, Option, Ok, refl}
use Rattle.hg_cli.specs.Carrying.{IsLoadable}
use Rattle.hg_cli.specs.Run.{Carries, call_of}
use Rattle.hg_cli.specs.Seen.{Seen}
use Rattle.hg_report.specs.declared.fault.Fault.{Fault}
use Rattle.hg_session.specs.Answered.{IsAnswered}
use Rattle.hg_words.proofs.Ranged.{load_range}
use Rattle.hg_words.specs.Command.{command_of}
use Rattle.hg_words.specs.declared.given.Command.{Command}
use Rattle.hg_words.specs.declared.given.Command.TheVariants as a_command

-- what words tell can be carried out
pub loadable : (words : List (List ℕ)) (command : Command) → command_of words ≡ Ok command → IsLoadable command
loadable words (a_command.Status flags) is = tt
loadable words (a_command.Add files) is = tt
loadable words (a_command.Forget files) is = tt
loadable words (a_command.Remove after files) is = tt
loadable words (a_command.Copy source target) is = tt
loadable words (a_command.SetParents p1 p2) is = tt
loadable words a_command.DebugDirstate is = tt
loadable words a_command.DebugScript is = tt
loadable words (a_command.DebugLoad n) is = load_range words n is

module _ (part : Seen) (code : ℕ) (fault : Option Fault) where
  -- a command that is no load is carried out by itself
  pub by_itself : (command : Command) → ((n : ℕ) → command ≡ a_command.DebugLoad n → ⊥) → IsAnswered (call_of command part) code fault → Carries command part code fault
  by_itself (a_command.Status flags) other answered = answered
  by_itself (a_command.Add files) other answered = answered
  by_itself (a_command.Forget files) other answered = answered
  by_itself (a_command.Remove after files) other answered = answered
  by_itself (a_command.Copy source target) other answered = answered
  by_itself (a_command.SetParents p1 p2) other answered = answered
  by_itself a_command.DebugDirstate other answered = answered
  by_itself a_command.DebugScript other answered = answered
  by_itself (a_command.DebugLoad n) other answered = absurd (other n refl)
