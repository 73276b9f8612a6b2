-- The commands as `clap` is told of them, and what its answer says.
use Rattle.std.specs.Prelude.{ℕ, ◌≡◌, ◌⊎◌, ⊤, IfErr, IfOk, IsUtf8, Bool, true, false, not, ◌&&◌, List, [], ◌∷◌, ◌++◌, codes, length, map, Option, Some, None, Result, Ok, Err, ◌==◌, nat_lt}
use Rattle.std.specs.Borrow.{Bor}
use Rattle.std.specs.List.{find, list_any}
use Rattle.std.specs.Option.{option_map_or}
use Rattle.std.specs.Str.{bytes_eq}
use Rattle.clap.specs.Simple.{App, new_rule, new_shape}
use Rattle.clap.specs.Walk.{Row, Rule, Text, first_of}
use Rattle.clap.specs.declared.builder.action.ArgAction.TheVariants.{Append, SetTrue}
use Rattle.clap.specs.declared.error.kind.ErrorKind.{ErrorKind}
use Rattle.clap.specs.declared.error.kind.ErrorKind.TheVariants as a_kind
use Rattle.hg_words.specs.Command.{Flag, Parted, is_between, is_given, parted_of}
use Rattle.hg_words.specs.declared.fault.WordsFault.{WordsFault}
use Rattle.hg_words.specs.declared.fault.WordsFault.TheVariants as a_fault
use Rattle.hg_words.specs.declared.flags.StatusFlags.{StatusFlags}
use Rattle.hg_words.specs.declared.given.Command.{Command}

-- ---- what it is told

-- what the words that are no flags are known by
abbrev pub word_id : Text
word_id = codes "WORD"

abbrev pub flag_arg : Flag → Rule
flag_arg f = record (new_rule f.name) { short = Some f.letter; long = Some f.name; action = Some SetTrue }

abbrev pub word_arg : Rule
word_arg = record (new_rule word_id) { action = Some Append }

-- a command with some flags, which may repeat, and any number of words; without help flags
abbrev pub with_args : Text → List Rule → App
with_args name args = record {
  top = record (new_shape name) { rules = args; disable_help_flag = true; args_override_self = true };
  subs = [];
}

abbrev pub app : Text → List Flag → App
app name flags = with_args name (map flag_arg flags ++ word_arg ∷ [])

-- the flags of a table of letters and names
abbrev pub flag_in : ℕ × Bor Text → Flag
flag_in row = record { letter = row.0; name = row.1.now }

abbrev pub flags_in : List (ℕ × Bor Text) → List Flag
flags_in table = map flag_in table

abbrev pub arg_in : ℕ × Bor Text → Rule
arg_in row = flag_arg (flag_in row)

-- a letter in ASCII, and a name that isn't that of the words and has no `=`
abbrev pub is_good : Flag → Bool
is_good f = nat_lt f.letter 128 && (not (bytes_eq f.name word_id) && not (list_any (λ b. b == 61) f.name))

-- each word is a text
abbrev pub AreTexts : List Text → Type 0
AreTexts [] = ⊤
AreTexts (word ∷ words) = IsUtf8 word × AreTexts words

-- ---- what it answers

abbrev pub is_true : Option Text → Bool
is_true text = option_map_or (λ t. bytes_eq t (codes "true")) text false

-- a flag is set
abbrev pub is_set : Text → List Row → Bool
is_set name rows = is_true (first_of name rows)

abbrev pub values_of_row : Option Row → List Text
values_of_row None = []
values_of_row (Some r) = r.values

-- the words that are no flags
abbrev pub given : List Row → List Text
given rows = values_of_row (find (λ r. bytes_eq r.id word_id) rows)

abbrev pub status_flags_of : List Row → StatusFlags
status_flags_of rows = record {
  modified = is_set (codes "modified") rows;
  added = is_set (codes "added") rows;
  removed = is_set (codes "removed") rows;
  deleted = is_set (codes "deleted") rows;
  clean = is_set (codes "clean") rows;
  unknown = is_set (codes "unknown") rows;
  ignored = is_set (codes "ignored") rows;
  all = is_set (codes "all") rows;
  no_status = is_set (codes "no-status") rows;
  print0 = is_set (codes "print0") rows;
  copies = is_set (codes "copies") rows;
}

-- the words behind a command are parted as its rows say
pub record Parts (flags : List Flag) (words : List Text) (rows : List Row) : Type 0 where
  pub parted : Parted
  pub is : parted_of flags words ≡ Some parted
  pub others : given rows ≡ parted.words
  pub set : (flag : Text) → bytes_eq flag word_id ≡ false → bytes_eq word_id flag ≡ false → is_set flag rows ≡ is_given flag parted

-- why it refused words
abbrev pub fault_of_kind : ErrorKind → WordsFault
fault_of_kind a_kind.OutOfMemory = a_fault.OutOfMemory
fault_of_kind kind = a_fault.Usage

-- ---- what is answered of it

-- a command or a fault is what is told, but for want of memory
pub record Gives (told : Result Command WordsFault) (answer : Result Command WordsFault) : Type 0 where
  pub ok : IfOk answer (λ c. told ≡ Ok c)
  pub err : IfErr answer (λ fault. (fault ≡ a_fault.OutOfMemory) ⊎ (told ≡ Err fault))

-- the words behind a command without flags, where they are as many as it takes
pub record Plain (words : List Text) (least : ℕ) (most : Option ℕ) (answer : Result (List Text) WordsFault) : Type 0 where
  pub ok : IfOk answer (λ all. (p : Parted) × (parted_of [] words ≡ Some p) × (p.words ≡ all) × (is_between least most (length all) ≡ true))
  pub err : IfErr answer (λ fault. (fault ≡ a_fault.OutOfMemory)
      ⊎ ((fault ≡ a_fault.Usage) × ((parted_of [] words ≡ None) ⊎ ((p : Parted) × (parted_of [] words ≡ Some p) × (is_between least most (length p.words) ≡ false)))))
