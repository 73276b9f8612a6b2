-- What is asked of a command that is carried out.
use Rattle.std.specs.Prelude.{◌≤◌}
use Rattle.hg_words.specs.declared.given.Command.{Command}
use Rattle.hg_words.specs.declared.given.Command.TheVariants as a_command

-- a command is none that loads, or its number is from 1 to 2,000
abbrev pub IsLoadable : Command → Type 0
IsLoadable (a_command.DebugLoad n) = (1 ≤ n) × (n ≤ 2000)
IsLoadable command = Unit {0}
