-- What a command is refused for before it begins, by the requirements of the repository.
use Rattle.std.specs.Prelude.{ℕ, Bool, if◌then◌else◌, List, Option, Some, None, codes, option_map}
use Rattle.std.specs.List.{find}
use Rattle.std.specs.Option.{option_and_then, option_or}
use Rattle.hg_front.specs.Marks.{has}
use Rattle.hg_front.specs.declared.marks.Mark.TheVariants as a_mark
use Rattle.hg_front.specs.Requirement.{class_of, names, refused_in}
use Rattle.hg_front.specs.declared.requirement.Class.{Class}
use Rattle.hg_front.specs.declared.requirement.Class.TheVariants as a_class
use Rattle.hg_front.specs.declared.guarding.Why.{Why}
use Rattle.hg_front.specs.declared.guarding.Why.TheVariants as why

-- why a command is refused for a requirement of that class
abbrev pub why_of : Class → Why
why_of a_class.Harmless = why.Unknown
why_of a_class.Writers = why.Writers
why_of a_class.Unsupported = why.Unsupported
why_of a_class.Unknown = why.Unknown

-- why, and what for: a requirement, or a file word
abbrev pub Reason : Type 0
Reason = Why × List ℕ

abbrev pub of_requirement : List ℕ → Reason
of_requirement name = (why_of (class_of name), name)

-- the first requirement that is refused: of the repository's own, and then of its store's, which count where its own say that they stand apart
abbrev pub first_refused : Bool → List ℕ → Option (List ℕ) → Option (List ℕ)
first_refused changes own store =
    option_or (refused_in changes own) (if names own (codes "share-safe") then option_and_then (refused_in changes) store else None)

-- the first file word with a line feed or a carriage return, of a command that changes the dirstate
abbrev pub broken_word : Bool → List (List ℕ) → Option (List ℕ)
broken_word changes files = if changes then find (has a_mark.LineBreak) files else None

-- where no requirement is refused: the dirstate has to be kept as dirstate-v2, and words have to be names that a manifest can hold
abbrev pub otherwise_refused : Bool → List (List ℕ) → List ℕ → Option Reason
otherwise_refused changes files own =
    if names own (codes "dirstate-v2")
    then option_map (λ word. (why.LineBreak, word)) (broken_word changes files)
    else Some (why.OldDirstate, codes "dirstate-v2")

-- why a command is refused; where the repository says nothing of what it requires it isn't
abbrev pub refusal : Option (List ℕ) → Option (List ℕ) → Bool → List (List ℕ) → Option Reason
refusal None store changes files = None
refusal (Some own) store changes files =
    option_or (option_map of_requirement (first_refused changes own store)) (otherwise_refused changes files own)
