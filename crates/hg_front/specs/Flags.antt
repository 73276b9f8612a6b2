-- Words with a dash in front that are no flags of their command.
use Rattle.std.specs.Prelude.{ℕ, Bool, if◌then◌else◌, not, ◌&&◌, List, [], ◌∷◌, ◌++◌, Option, Some, None, codes, drop, ◌==◌, is_some, nat_eq, nat_le}
use Rattle.std.specs.List.{find, list_any, starts_with}
use Rattle.std.specs.Option.{option_and_then, option_map_or}
use Rattle.std.specs.Str.{bytes_eq}
use Rattle.hg_words.specs.Command.{Flag, remove_flags, status_flags}
use Rattle.hg_front.specs.Shown.{shown, shown_byte}

-- the flags of a command: those that the table of the commands gives it
abbrev pub flags_of : List ℕ → List Flag
flags_of command = if bytes_eq command (codes "status") then status_flags else (if bytes_eq command (codes "remove") then remove_flags else [])

-- a letter is one of some flags
abbrev pub is_letter : List Flag → ℕ → Bool
is_letter flags letter = list_any (λ f. f.letter == letter) flags

-- a word of two dashes and a name is one
abbrev pub is_name : List Flag → List ℕ → Bool
is_name flags word = list_any (λ f. bytes_eq (codes "--" ++ f.name) word) flags

abbrev pub is_no_letter : List Flag → ℕ → Bool
is_no_letter flags letter = not (is_letter flags letter)

-- the first letter of a word, behind its dash, that is no flag
abbrev pub stray_letter : List Flag → List ℕ → Option ℕ
stray_letter flags word = find (is_no_letter flags) (drop 1 word)

-- a word begins with a dash and isn't made of flags; `--` is such a word too
abbrev pub is_stray : List Flag → List ℕ → Bool
is_stray flags word =
    starts_with nat_eq word (codes "-")
    && (if starts_with nat_eq word (codes "--") then not (is_name flags word) else is_some (stray_letter flags word))

abbrev pub unless_end : List ℕ → Option (List ℕ)
unless_end word = if bytes_eq word (codes "--") then None else Some word

-- the first of such words, before one `--`, behind which there are no flags
abbrev pub stray : List Flag → List (List ℕ) → Option (List ℕ)
stray flags words = option_and_then unless_end (find (is_stray flags) words)

-- a word whose first such letter is this one is told by that, or by the whole word where it isn't in ASCII
abbrev pub shown_letter : List ℕ → ℕ → List ℕ
shown_letter word letter = if nat_le 128 letter then shown word else codes "-" ++ shown_byte letter

-- how a word that isn't made of flags is told: as it stands where two dashes stand in front, else by its letter
abbrev pub shown_flag : List Flag → List ℕ → List ℕ
shown_flag flags word = if starts_with nat_eq word (codes "--") then shown word else option_map_or (shown_letter word) (stray_letter flags word) (shown word)

-- what is said of such a word
abbrev pub no_flag_text : List ℕ → List ℕ → List ℕ
no_flag_text command word = command ++ codes " has no flag " ++ shown_flag (flags_of command) word ++ codes ": see hgtrack " ++ command ++ codes " --help"

-- of `--help`, which is asked by itself
abbrev pub alone_text : List ℕ → List ℕ
alone_text command = command ++ codes " --help takes no other word"

-- of either
abbrev pub flag_text : List ℕ → List ℕ → List ℕ
flag_text command word = if bytes_eq word (codes "--help") then alone_text command else no_flag_text command word

-- where the commands are told
abbrev pub listed : List ℕ
listed = codes "hgtrack --help lists the commands"

-- what is said of words that are wrong behind the name of a command
abbrev pub usage_advice : List (List ℕ) → List ℕ
usage_advice [] = listed
usage_advice (command ∷ words) = option_map_or (flag_text command) (stray (flags_of command) words) listed
