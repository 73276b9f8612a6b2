-- What is said of words behind the name of a command.
use Rattle.std.proofs.Common.{ℕ, ◌≡◌, List, [], ◌∷◌, ◌++◌, append_assoc, drop, rules, Option, Some, None, arith, length, refl, ap, sym, ◌∙◌}
use Rattle.std.specs.Prelude.{codes}
use Rattle.std.specs.List.{slice_get}
use Rattle.std.specs.Option.{option_map_or}
use Rattle.hg_front.specs.Further.{further_line}
use Rattle.hg_front.specs.Flags.{flag_text, flags_of, listed, no_flag_text, shown_flag, stray, usage_advice}

-- of the first that is no flag, where there is one
pub usage_of_stray : (words : List (List ℕ)) (command word : List ℕ) → slice_get words 0 ≡ Some command → stray (flags_of command) (drop 1 words) ≡ Some word → flag_text command word ≡ usage_advice words
usage_of_stray [] command word first found = absurd (cc first)
usage_of_stray (name ∷ words) command word first found =
    let same : name ≡ command = cc first in
    sym (ap (λ (c : List ℕ). option_map_or (flag_text c) (stray (flags_of c) words) listed) same ∙ ap (λ (s : Option (List ℕ)). option_map_or (flag_text command) s listed) found)

-- where none is, the commands are told, and so where there are no words
pub usage_of_flags : (words : List (List ℕ)) (command : List ℕ) → slice_get words 0 ≡ Some command → stray (flags_of command) (drop 1 words) ≡ None → listed ≡ usage_advice words
usage_of_flags [] command first none = absurd (cc first)
usage_of_flags (name ∷ words) command first none =
    let same : name ≡ command = cc first in
    sym (ap (λ (c : List ℕ). option_map_or (flag_text c) (stray (flags_of c) words) listed) same ∙ ap (λ (s : Option (List ℕ)). option_map_or (flag_text command) s listed) none)

pub usage_of_nothing : (words : List (List ℕ)) → length words ≡ 0 → listed ≡ usage_advice words
usage_of_nothing [] none = refl
usage_of_nothing (name ∷ words) none = absurd (omega (arith, none))

-- the parts of the line of a word that isn't made of flags
pub no_flag_parts : (command word : List ℕ) → (codes "hgtrack: " ++ (command ++ codes " has no flag ")) ++ shown_flag (flags_of command) word ++ (codes ": see hgtrack " ++ (command ++ codes " --help\n")) ≡ further_line (no_flag_text command word)
no_flag_parts command word = search (rules, append_assoc)
