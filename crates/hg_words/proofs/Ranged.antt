-- The number of a command that loads is within its range.
use Rattle.std.proofs.Common.{ℕ, ◌≡◌, ◌≤◌, Bool, true, false, cond, ◌&&◌, List, [], ◌∷◌, length, Option, Some, None, Result, Ok, Err, subst, refl}
use Rattle.std.specs.Prelude.{nat_le, find}
use Rattle.std.specs.Str.{bytes_eq}
use Rattle.std.proofs.lemmas.Bool.{and_parts, leb-true}
use Rattle.hg_base.specs.declared.id.Id20.{Id20}
use Rattle.hg_words.specs.Command.{Form, Parted, by_form, command_of, copy, forms, is_enough, is_number, load, node_of, null_node, number_of, parents, parted_of, set_parents, told_by}
use Rattle.hg_words.specs.declared.fault.WordsFault.{WordsFault}
use Rattle.hg_words.specs.declared.fault.WordsFault.TheVariants as a_fault
use Rattle.hg_words.specs.declared.given.Command.{Command}
use Rattle.hg_words.specs.declared.given.Command.TheVariants as a_command

-- a command is none that loads, or its number is from 1 to 2,000
abbrev pub IsRanged : Result Command WordsFault → Type 0
IsRanged (Ok (a_command.DebugLoad n)) = (1 ≤ n) × (n ≤ 2000)
IsRanged read = Unit {0}

either : (b : Bool) (x y : Result Command WordsFault) → IsRanged x → IsRanged y → IsRanged (cond b x y)
either true x y is other = is
either false x y is other = other

load_ranged : (words : List (List ℕ)) → IsRanged (load words)
load_ranged [] = tt
load_ranged (word ∷ next ∷ words) = tt
load_ranged (word ∷ []) = by (is_number word && (nat_le 1 (number_of word) && nat_le (number_of word) 2000)) refl
  where
    by : (b : Bool) → (is_number word && (nat_le 1 (number_of word) && nat_le (number_of word) 2000)) ≡ b
        → IsRanged (cond b (Ok (a_command.DebugLoad (number_of word))) (Err a_fault.Usage))
    by false is = tt
    by true is =
        let both = and_parts (is_number word) (nat_le 1 (number_of word) && nat_le (number_of word) 2000) is in
        let range = and_parts (nat_le 1 (number_of word)) (nat_le (number_of word) 2000) both.1 in
        (leb-true 1 (number_of word) range.0, leb-true (number_of word) 2000 range.1)

parents_ranged : (first second : Option Id20) → IsRanged (parents first second)
parents_ranged None second = tt
parents_ranged (Some first) None = tt
parents_ranged (Some first) (Some second) = tt

set_parents_ranged : (words : List (List ℕ)) → IsRanged (set_parents words)
set_parents_ranged [] = tt
set_parents_ranged (first ∷ []) = parents_ranged (node_of first) (Some null_node)
set_parents_ranged (first ∷ second ∷ []) = parents_ranged (node_of first) (node_of second)
set_parents_ranged (first ∷ second ∷ third ∷ words) = tt

copy_ranged : (words : List (List ℕ)) → IsRanged (copy words)
copy_ranged [] = tt
copy_ranged (source ∷ []) = tt
copy_ranged (source ∷ target ∷ []) = tt
copy_ranged (source ∷ target ∷ third ∷ words) = tt

-- so is what each form of some tells
abbrev AreRanged : List Form → Type 0
AreRanged [] = Unit {0}
AreRanged (form ∷ more) = ((parted : Parted) → IsRanged (form.told parted)) × AreRanged more

told_ranged : (form : Form) → ((parted : Parted) → IsRanged (form.told parted)) → (parted : Option Parted) → IsRanged (told_by form parted)
told_ranged form told None = tt
told_ranged form told (Some parted) = either (is_enough form (length parted.words)) (form.told parted) (Err a_fault.Usage) (told parted) tt

found_ranged : (some : List Form) → AreRanged some → (name : List ℕ) (words : List (List ℕ)) → IsRanged (by_form (find (λ form. bytes_eq form.name name) some) words)
found_ranged [] are name words = tt
found_ranged (form ∷ more) are name words = by (bytes_eq form.name name) (found_ranged more are.1 name words)
  where
    by : (b : Bool) → IsRanged (by_form (find (λ form. bytes_eq form.name name) more) words)
        → IsRanged (by_form (cond b (Some form) (find (λ form. bytes_eq form.name name) more)) words)
    by true rest = told_ranged form are.0 (parted_of form.flags words)
    by false rest = rest

command_ranged : (words : List (List ℕ)) → IsRanged (command_of words)
command_ranged [] = tt
command_ranged (name ∷ words) =
    found_ranged forms
    (λ p. tt, (λ p. tt, (λ p. tt, (λ p. tt, (λ p. copy_ranged p.words, (λ p. set_parents_ranged p.words, (λ p. tt, (λ p. tt, (λ p. load_ranged p.words, tt)))))))))
    name words

-- the number of a load that words tell
pub load_range : (words : List (List ℕ)) (n : ℕ) → command_of words ≡ Ok (a_command.DebugLoad n) → (1 ≤ n) × (n ≤ 2000)
load_range words n is = subst IsRanged is (command_ranged words)
