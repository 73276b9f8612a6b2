-- Which commands are carried out, and which of them change the record.
use Rattle.std.specs.Prelude.{Bool, false, ◌&&◌}
use Rattle.hg_words.specs.Given.{changes, is_built}
use Rattle.hg_words.specs.declared.given.Command.{Command}
use Rattle.hg_words.specs.declared.given.Command.TheVariants as a_command

-- it is built and one command by itself: a script is a list of them, each of which is carried out as such, and a load runs two over what it makes
abbrev pub is_done : Command → Bool
is_done a_command.DebugScript = false
is_done (a_command.DebugLoad n) = false
is_done command = is_built command

-- it changes the record
abbrev pub is_change : Command → Bool
is_change command = is_done command && changes command
