-- What the words of a command are in the folder where it is started.
use Rattle.std.specs.Prelude.{ℕ, ◌≡◌, ◌<◌, Bool, false, if◌then◌else◌, List, [], ◌∷◌, Option, Some, None, Result, Ok, Err, is_some, length}
use Rattle.std.specs.Option.{option_map_or, unwrap_or}
use Rattle.hg_base.specs.PathText.{is_path}
use Rattle.hg_words.specs.Command.{command_of}
use Rattle.hg_words.specs.Given as given
use Rattle.hg_words.specs.declared.fault.WordsFault.{WordsFault}
use Rattle.hg_words.specs.declared.given.Command.{Command}
use Rattle.hg_words.specs.declared.given.Command.TheVariants as a_command
use Rattle.hg_front.specs.declared.placing.Placed.{Placed}

-- a command in a folder has its file words as the paths that they tell there; words that are none stay it
abbrev pub reached : List ℕ → Result Command WordsFault → Result Command WordsFault
reached folder (Ok command) = Ok (given.located folder command)
reached folder (Err fault) = Err fault

-- the command that was read, where one was
abbrev pub read_as : Result Command WordsFault → Option Command
read_as (Ok command) = Some command
read_as (Err fault) = None

-- the words are a command that has file words
pub record HasFiles (words : List (List ℕ)) : Type 0 where
  pub command : Command
  pub is : command_of words ≡ Ok command
  pub some : 0 < length (given.files_of command)

-- the file words of what was placed, and whether it changes the record
abbrev pub files : Placed → List (List ℕ)
files placed = option_map_or given.files_of placed.command []

-- the file words that a command refuses where they are no paths: of a copy the source alone where that is none, else the target alone
abbrev pub refusable_of : Command → List (List ℕ)
refusable_of (a_command.Copy source target) = (if is_path source then target else source) ∷ []
refusable_of command = given.files_of command

abbrev pub refusable : Placed → List (List ℕ)
refusable placed = option_map_or refusable_of placed.command []

abbrev pub changes : Placed → Bool
changes placed = option_map_or given.changes placed.command false

-- the words that are run are the given ones in the folder: they tell the given command with each file word as a path from the root; without file words
-- they are the given ones. The root is the empty text; where the folder can't be told there are none
pub record IsPlaced (folder : Option (List ℕ)) (words : List (List ℕ)) (placed : Placed) : Type 0 where
  pub told : command_of placed.words ≡ reached (unwrap_or folder []) (command_of words)
  pub untold : is_some folder ≡ false → length (files placed) ≡ 0
  pub same : length (files placed) ≡ 0 → placed.words ≡ words
  pub command : placed.command ≡ read_as (command_of placed.words)
