-- What is told where the words are parted.
use Rattle.std.proofs.Common.{◌≡◌, inl, inr, ◌<◌, Bool, true, false, cond, List, [], ◌∷◌, length, Some, None, Result, Ok, Err, refl, sym, ap, ◌∙◌, arith}
use Rattle.std.specs.Prelude.{codes, nat_le, slice_get}
use Rattle.std.specs.Str.{bytes_eq}
use Rattle.std.proofs.lemmas.Bool.{and_parts, false_from_ne_true, leb-true}
use Rattle.hg_base.proofs.Within.{same_bytes}
use Rattle.hg_words.specs.Clapped.{Gives, Parts, given, status_flags_of}
use Rattle.hg_words.specs.Command.{Form, Parted, by_form, is_between, is_enough, load, load_form, load_of, node_of, null_node, parents, parents_form, parted_of, set_parents, status_flags, status_form, told_by}
use Rattle.hg_words.specs.declared.fault.WordsFault.{WordsFault}
use Rattle.hg_words.specs.declared.fault.WordsFault.TheVariants as a_fault
use Rattle.hg_words.specs.declared.given.Command.{Command}
use Rattle.hg_words.specs.declared.given.Command.TheVariants as a_command
use Rattle.clap.specs.Walk.{Row, Text}

-- what is told is what is answered
pub gives_same : (told answer : Result Command WordsFault) → told ≡ answer → Gives told answer
gives_same told (Ok c) e = record { ok = e; err = tt }
gives_same told (Err fault) e = record { ok = tt; err = inr e }

pub gives_memory : (told : Result Command WordsFault) (fault : WordsFault) → fault ≡ a_fault.OutOfMemory → Gives told (Err fault)
gives_memory told fault e = record { ok = tt; err = inl e }

-- words that are no flags, as many as the command takes, or not
pub told_enough : (form : Form) (words : List Text) (p : Parted) → parted_of form.flags words ≡ Some p → is_enough form (length p.words) ≡ true → by_form (Some form) words ≡ form.told p
told_enough form words p is enough =
    ap (told_by form) is ∙ ap (λ (t : Bool). cond t (form.told p) (Err a_fault.Usage)) enough

pub told_few : (form : Form) (words : List Text) (p : Parted) → parted_of form.flags words ≡ Some p → is_enough form (length p.words) ≡ false → by_form (Some form) words ≡ Err a_fault.Usage
told_few form words p is few = ap (told_by form) is ∙ ap (λ (t : Bool). cond t (form.told p) (Err a_fault.Usage)) few

pub told_none : (form : Form) (words : List Text) → parted_of form.flags words ≡ None → by_form (Some form) words ≡ Err a_fault.Usage
told_none form words is = ap (told_by form) is

-- ---- a status

pub status_told : (words : List Text) (rows : List Row) (parts : Parts status_flags words rows) → is_enough status_form (length (given rows)) ≡ true
    → by_form (Some status_form) words ≡ Ok (a_command.Status (status_flags_of rows))
status_told words rows parts enough =
    told_enough status_form words parts.parted parts.is (ap (λ (l : List Text). is_enough status_form (length l)) (sym parts.others) ∙ enough)
    ∙ (λ i. Ok (a_command.Status (record {
      modified = sym (parts.set (codes "modified") refl refl) i;
      added = sym (parts.set (codes "added") refl refl) i;
      removed = sym (parts.set (codes "removed") refl refl) i;
      deleted = sym (parts.set (codes "deleted") refl refl) i;
      clean = sym (parts.set (codes "clean") refl refl) i;
      unknown = sym (parts.set (codes "unknown") refl refl) i;
      ignored = sym (parts.set (codes "ignored") refl refl) i;
      all = sym (parts.set (codes "all") refl refl) i;
      no_status = sym (parts.set (codes "no-status") refl refl) i;
      print0 = sym (parts.set (codes "print0") refl refl) i;
      copies = sym (parts.set (codes "copies") refl refl) i;
    })))

-- ---- words as many as they are

one_word : {X : Type 0} (f : List Text → X) (words : List Text) (word : Text) → is_between 1 (Some 1) (length words) ≡ true → slice_get words 0 ≡ Some word → f words ≡ f (word ∷ [])
one_word f [] word enough is = absurd (cc)
one_word f (first ∷ []) word enough is = ap (λ (w : Text). f (w ∷ [])) (some_same first word is)
  where
    some_same : (a b : Text) → Some a ≡ Some b → a ≡ b
    some_same a b e = cc
one_word f (first ∷ second ∷ words) word enough is =
    let parts = and_parts (nat_le 1 (length (first ∷ second ∷ words))) (nat_le (length (first ∷ second ∷ words)) 1) enough in
    absurd (omega (arith, leb-true (length (first ∷ second ∷ words)) 1 parts.1))

pub load_told : (words all : List Text) (p : Parted) (word : Text) → parted_of [] words ≡ Some p → p.words ≡ all → is_between 1 (Some 1) (length all) ≡ true → slice_get all 0 ≡ Some word
    → by_form (Some load_form) words ≡ load_of word
load_told words all p word is others enough first =
    told_enough load_form words p is (ap (λ (l : List Text). is_between 1 (Some 1) (length l)) others ∙ enough)
    ∙ ap load others ∙ one_word load all word enough first

two_parents : (all : List Text) (first : Text) → is_between 1 (Some 2) (length all) ≡ true → slice_get all 0 ≡ Some first → length all < 2
    → set_parents all ≡ parents (node_of first) (Some null_node)
two_parents [] first enough is few = absurd (cc)
two_parents (word ∷ []) first enough is few = ap (λ (w : Text). parents (node_of w) (Some null_node)) (some_same word first is)
  where
    some_same : (a b : Text) → Some a ≡ Some b → a ≡ b
    some_same a b e = cc
two_parents (word ∷ next ∷ all) first enough is few = absurd (omega (arith, few))

both_parents : (all : List Text) (first second : Text) → is_between 1 (Some 2) (length all) ≡ true → slice_get all 0 ≡ Some first → slice_get all 1 ≡ Some second
    → set_parents all ≡ parents (node_of first) (node_of second)
both_parents [] first second enough is next_is = absurd (cc)
both_parents (word ∷ []) first second enough is next_is = absurd (cc)
both_parents (word ∷ next ∷ []) first second enough is next_is =
    ap (λ (w : Text). parents (node_of w) (node_of next)) (some_same word first is) ∙ ap (λ (w : Text). parents (node_of first) (node_of w)) (some_same next second next_is)
  where
    some_same : (a b : Text) → Some a ≡ Some b → a ≡ b
    some_same a b e = cc
both_parents (word ∷ next ∷ more ∷ all) first second enough is next_is =
    let parts = and_parts (nat_le 1 (length (word ∷ next ∷ more ∷ all))) (nat_le (length (word ∷ next ∷ more ∷ all)) 2) enough in
    absurd (omega (arith, leb-true (length (word ∷ next ∷ more ∷ all)) 2 parts.1))

pub parent_told : (words all : List Text) (p : Parted) (first : Text) → parted_of [] words ≡ Some p → p.words ≡ all → is_between 1 (Some 2) (length all) ≡ true
    → slice_get all 0 ≡ Some first → length all < 2 → by_form (Some parents_form) words ≡ parents (node_of first) (Some null_node)
parent_told words all p first is others enough first_is few =
    told_enough parents_form words p is (ap (λ (l : List Text). is_between 1 (Some 2) (length l)) others ∙ enough)
    ∙ ap set_parents others ∙ two_parents all first enough first_is few

pub parents_told : (words all : List Text) (p : Parted) (first second : Text) → parted_of [] words ≡ Some p → p.words ≡ all → is_between 1 (Some 2) (length all) ≡ true
    → slice_get all 0 ≡ Some first → slice_get all 1 ≡ Some second → by_form (Some parents_form) words ≡ parents (node_of first) (node_of second)
parents_told words all p first second is others enough first_is second_is =
    told_enough parents_form words p is (ap (λ (l : List Text). is_between 1 (Some 2) (length l)) others ∙ enough)
    ∙ ap set_parents others ∙ both_parents all first second enough first_is second_is

-- a name that is none of the table
pub other_name : (a b : Text) → ¬ (b ≡ a) → bytes_eq a b ≡ false
other_name a b other = false_from_ne_true (bytes_eq a b) (λ e. other (sym (same_bytes a b e)))
