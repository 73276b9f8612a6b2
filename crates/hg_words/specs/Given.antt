-- What is said of a command that was read: its file words, what it does to the record, and how it is spelled.
use Rattle.std.specs.Prelude.{ℕ, Bool, true, false, if◌then◌else◌, List, [], ◌∷◌, ◌++◌, codes, map}
use Rattle.hg_words.specs.Told.{from_folder}
use Rattle.hg_words.specs.declared.given.Command.{Command}
use Rattle.hg_words.specs.declared.given.Command.TheVariants as a_command

-- the words that are files, in their order
abbrev pub files_of : Command → List (List ℕ)
files_of (a_command.Add files) = files
files_of (a_command.Forget files) = files
files_of (a_command.Remove after files) = files
files_of (a_command.Copy source target) = source ∷ target ∷ []
files_of command = []

-- it changes the record, or runs commands that may
abbrev pub changes : Command → Bool
changes (a_command.Status flags) = false
changes (a_command.Add files) = true
changes (a_command.Forget files) = true
changes (a_command.Remove after files) = true
changes (a_command.Copy source target) = true
changes (a_command.SetParents p1 p2) = true
changes a_command.DebugDirstate = false
changes a_command.DebugScript = true
changes (a_command.DebugLoad n) = false

abbrev pub is_built : Command → Bool
is_built (a_command.Status flags) = true
is_built (a_command.Add files) = true
is_built (a_command.Forget files) = true
is_built (a_command.Remove after files) = true
is_built (a_command.Copy source target) = true
is_built (a_command.SetParents p1 p2) = true
is_built a_command.DebugDirstate = true
is_built a_command.DebugScript = true
is_built (a_command.DebugLoad n) = true

abbrev pub name_of : Command → List ℕ
name_of (a_command.Status flags) = codes "status"
name_of (a_command.Add files) = codes "add"
name_of (a_command.Forget files) = codes "forget"
name_of (a_command.Remove after files) = codes "remove"
name_of (a_command.Copy source target) = codes "copy"
name_of (a_command.SetParents p1 p2) = codes "debugsetparents"
name_of a_command.DebugDirstate = codes "debugdirstate"
name_of a_command.DebugScript = codes "debugscript"
name_of (a_command.DebugLoad n) = codes "debugload"

abbrev pub is_after : Command → Bool
is_after (a_command.Remove after files) = after
is_after command = false

-- the words of a command that has file words: its name, its flag, and behind `--` the files
abbrev pub spelled : Command → List (List ℕ)
spelled command = name_of command ∷ (if is_after command then codes "--after" ∷ [] else []) ++ codes "--" ∷ files_of command

-- each file word as the path that it tells in a folder
abbrev pub located : List ℕ → Command → Command
located folder (a_command.Add files) = a_command.Add (map (from_folder folder) files)
located folder (a_command.Forget files) = a_command.Forget (map (from_folder folder) files)
located folder (a_command.Remove after files) = a_command.Remove after (map (from_folder folder) files)
located folder (a_command.Copy source target) = a_command.Copy (from_folder folder source) (from_folder folder target)
located folder command = command
