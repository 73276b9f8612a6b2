-- The words of a command line, as a command.
use Rattle.std.specs.Prelude.{ℕ, Bool, if◌then◌else◌, true, false, ◌&&◌, List, [], ◌∷◌, codes, drop, length, replicate, Option, Some, None, Result, Ok, Err, ◌==◌, ◌++◌, nat_le, nat_lt}
use Rattle.std.specs.Char.{digit_value}
use Rattle.std.specs.List.{find, list_all, list_any}
use Rattle.std.specs.Option.{option_and_then, option_map, option_map_or}
use Rattle.std.specs.Str.{bytes_eq}
use Rattle.std.specs.Str.Parse.{digits_value, without_leading_plus}
use Rattle.hex.specs.Hex.{decode_sized}
use Rattle.hex.specs.declared.error.FromHexError.{FromHexError}
use Rattle.hg_base.specs.declared.id.Id20.{Id20}
use Rattle.hg_words.specs.declared.fault.WordsFault.{WordsFault}
use Rattle.hg_words.specs.declared.fault.WordsFault.TheVariants as a_fault
use Rattle.hg_words.specs.declared.given.Command.{Command}
use Rattle.hg_words.specs.declared.given.Command.TheVariants as a_command

-- a flag, by its letter and its name
pub record Flag : Type 0 where
  pub letter : ℕ
  pub name : List ℕ

-- the words behind a command: the names of the flags among them, and the others, each in their order
pub record Parted : Type 0 where
  pub flags : List (List ℕ)
  pub words : List (List ℕ)

-- ---- flags

-- a word that begins with a dash and isn't one alone
abbrev pub is_dashed : List ℕ → Bool
is_dashed [] = false
is_dashed (b ∷ []) = false
is_dashed (b ∷ next ∷ rest) = b == 45

-- the flag of a letter, and that of a word `--NAME`
abbrev pub by_letter : List Flag → ℕ → Option Flag
by_letter flags letter = find (λ f. f.letter == letter) flags

abbrev pub by_name : List Flag → List ℕ → Option Flag
by_name flags name = find (λ f. bytes_eq f.name name) flags

-- the names of the flags that some letters are, none where one is no flag
abbrev pub named_by_letters : List Flag → List ℕ → Option (List (List ℕ))
named_by_letters flags [] = Some []
named_by_letters flags (letter ∷ letters) =
    option_and_then (λ f. option_map (λ names. f.name ∷ names) (named_by_letters flags letters)) (by_letter flags letter)

-- the names of the flags that a word is behind its first dash: a further dash and a name, or a letter for each; none where it isn't made of flags
abbrev pub named_behind : List Flag → List ℕ → Option (List (List ℕ))
named_behind flags [] = Some []
named_behind flags (b ∷ rest) = if b == 45 then option_map (λ f. f.name ∷ []) (by_name flags rest) else named_by_letters flags (b ∷ rest)

-- ---- the words behind a command

abbrev pub with_flags : List (List ℕ) → Parted → Parted
with_flags names parted = record parted { flags = names ++ parted.flags }

abbrev pub with_word : List ℕ → Parted → Parted
with_word word parted = record parted { words = word ∷ parted.words }

-- the words parted, where a word `--` ends the flags; none where a word before it begins with a dash, isn't one alone and isn't made of flags
abbrev pub parted_of : List Flag → List (List ℕ) → Option Parted
parted_of flags [] = Some (record { flags = []; words = [] })
parted_of flags (word ∷ words) =
    if bytes_eq word (codes "--")
    then Some (record { flags = []; words = words })
    else (
    if is_dashed word
    then option_and_then (λ names. option_map (with_flags names) (parted_of flags words)) (named_behind flags (drop 1 word))
    else option_map (with_word word) (parted_of flags words)
    )

-- ---- numbers and nodes

abbrev pub some_node : Result (List ℕ) FromHexError → Option Id20
some_node (Ok bytes) = Some (record { 0 = bytes })
some_node (Err fault) = None

-- the node that forty hexadecimal digits spell, in either case
abbrev pub node_of : List ℕ → Option Id20
node_of word = some_node (decode_sized word 20)

abbrev pub null_node : Id20
null_node = record { 0 = replicate 20 0 }

-- decimal digits, one at least, that may stand behind a plus
abbrev pub is_number : List ℕ → Bool
is_number word = nat_lt 0 (length (without_leading_plus word)) && list_all (λ d. nat_lt (digit_value d) 10) (without_leading_plus word)

abbrev pub number_of : List ℕ → ℕ
number_of word = digits_value 10 (without_leading_plus word)

-- ---- the commands

-- a name among those of the flags that were given
abbrev pub is_given : List ℕ → Parted → Bool
is_given name parted = list_any (λ given. bytes_eq given name) parted.flags

abbrev pub status : Parted → Result Command WordsFault
status parted = Ok (a_command.Status (record {
  modified = is_given (codes "modified") parted;
  added = is_given (codes "added") parted;
  removed = is_given (codes "removed") parted;
  deleted = is_given (codes "deleted") parted;
  clean = is_given (codes "clean") parted;
  unknown = is_given (codes "unknown") parted;
  ignored = is_given (codes "ignored") parted;
  all = is_given (codes "all") parted;
  no_status = is_given (codes "no-status") parted;
  print0 = is_given (codes "print0") parted;
  copies = is_given (codes "copies") parted;
}))

abbrev pub copy : List (List ℕ) → Result Command WordsFault
copy (source ∷ target ∷ []) = Ok (a_command.Copy source target)
copy words = Err a_fault.Usage

-- the parents that two words spell; the first that is no node is told by its place
abbrev pub parents : Option Id20 → Option Id20 → Result Command WordsFault
parents None second = Err (a_fault.BadNode 1)
parents (Some first) None = Err (a_fault.BadNode 2)
parents (Some first) (Some second) = Ok (a_command.SetParents first second)

abbrev pub set_parents : List (List ℕ) → Result Command WordsFault
set_parents (first ∷ []) = parents (node_of first) (Some null_node)
set_parents (first ∷ second ∷ []) = parents (node_of first) (node_of second)
set_parents words = Err a_fault.Usage

-- a number from 1 to 2,000
abbrev pub load_of : List ℕ → Result Command WordsFault
load_of word =
    if is_number word && (nat_le 1 (number_of word) && nat_le (number_of word) 2000) then Ok (a_command.DebugLoad (number_of word)) else Err a_fault.Usage

abbrev pub load : List (List ℕ) → Result Command WordsFault
load (word ∷ []) = load_of word
load words = Err a_fault.Usage

-- what may stand behind the name of a command, and what it then tells; where no most is told, any number of words may stand there
pub record Form : Type 0 where
  pub name : List ℕ
  pub flags : List Flag
  pub least : ℕ
  pub most : Option ℕ
  pub told : Parted → Result Command WordsFault

-- the table of the commands
abbrev pub status_flags : List Flag
status_flags =
    record { letter = 109; name = codes "modified" }
    ∷ record { letter = 97; name = codes "added" }
    ∷ record { letter = 114; name = codes "removed" }
    ∷ record { letter = 100; name = codes "deleted" }
    ∷ record { letter = 99; name = codes "clean" }
    ∷ record { letter = 117; name = codes "unknown" }
    ∷ record { letter = 105; name = codes "ignored" }
    ∷ record { letter = 65; name = codes "all" }
    ∷ record { letter = 110; name = codes "no-status" }
    ∷ record { letter = 48; name = codes "print0" }
    ∷ record { letter = 67; name = codes "copies" }
    ∷ []

abbrev pub remove_flags : List Flag
remove_flags = record { letter = 65; name = codes "after" } ∷ []

abbrev pub status_form : Form
status_form = record { name = codes "status"; flags = status_flags; least = 0; most = Some 0; told = status }

abbrev pub add_form : Form
add_form = record { name = codes "add"; flags = []; least = 1; most = None; told = λ p. Ok (a_command.Add p.words) }

abbrev pub forget_form : Form
forget_form = record { name = codes "forget"; flags = []; least = 1; most = None; told = λ p. Ok (a_command.Forget p.words) }

abbrev pub remove_form : Form
remove_form = record {
  name = codes "remove";
  flags = remove_flags;
  least = 1;
  most = None;
  told = λ p. Ok (a_command.Remove (is_given (codes "after") p) p.words);
}

abbrev pub copy_form : Form
copy_form = record { name = codes "copy"; flags = []; least = 2; most = Some 2; told = λ p. copy p.words }

abbrev pub parents_form : Form
parents_form = record { name = codes "debugsetparents"; flags = []; least = 1; most = Some 2; told = λ p. set_parents p.words }

abbrev pub dirstate_form : Form
dirstate_form = record { name = codes "debugdirstate"; flags = []; least = 0; most = Some 0; told = λ p. Ok a_command.DebugDirstate }

abbrev pub script_form : Form
script_form = record { name = codes "debugscript"; flags = []; least = 0; most = Some 0; told = λ p. Ok a_command.DebugScript }

abbrev pub load_form : Form
load_form = record { name = codes "debugload"; flags = []; least = 1; most = Some 1; told = λ p. load p.words }

abbrev pub forms : List Form
forms =
    status_form
    ∷ add_form
    ∷ forget_form
    ∷ remove_form
    ∷ copy_form
    ∷ parents_form
    ∷ dirstate_form
    ∷ script_form
    ∷ load_form
    ∷ []

abbrev pub form_of : List ℕ → Option Form
form_of name = find (λ form. bytes_eq form.name name) forms

-- a number of words behind a command is neither too few nor too many
abbrev pub is_between : ℕ → Option ℕ → ℕ → Bool
is_between least most n = nat_le least n && option_map_or (nat_le n) most true

abbrev pub is_enough : Form → ℕ → Bool
is_enough form n = is_between form.least form.most n

-- the command, where the words are parted
abbrev pub told_by : Form → Option Parted → Result Command WordsFault
told_by form None = Err a_fault.Usage
told_by form (Some parted) = if is_enough form (length parted.words) then form.told parted else Err a_fault.Usage

abbrev pub by_form : Option Form → List (List ℕ) → Result Command WordsFault
by_form None words = Err a_fault.UnknownCommand
by_form (Some form) words = told_by form (parted_of form.flags words)

-- the command that the table gives to the words, or why it gives none
abbrev pub command_of : List (List ℕ) → Result Command WordsFault
command_of [] = Err a_fault.NoCommand
command_of (name ∷ words) = by_form (form_of name) words
