-- Further lines on the error stream, beside those of a command.
use Rattle.std.specs.Prelude.{ℕ, ◌≡◌, ◌≤◌, ◌⊎◌, List, [], ◌∷◌, ◌++◌, MatchOption, Option, codes}
use Rattle.hg_report.specs.Fault.{line_of}
use Rattle.hg_report.specs.declared.fault.Fault.{Fault}
use Rattle.hg_report.specs.declared.fault.Fault.TheVariants as a_fault
use Rattle.hg_session.specs.Put.{IsTold}

-- lines were put whole or, where the stream's count of failures rose in the call, a front of them; the count never falls
pub record ArePut (old new : Option (List ℕ)) (before after : ℕ) (lines : List ℕ) : Type 0 where
  pub told : IsTold old new before after lines
  pub later : before ≤ after

-- nothing was put, and nothing failed
pub record IsQuiet (old new : Option (List ℕ)) (before after : ℕ) : Type 0 where
  pub bytes : new ≡ old
  pub count : after ≡ before

-- a further line, which says why, or what to do
abbrev pub further_line : List ℕ → List ℕ
further_line text = codes "hgtrack: " ++ text ++ 10 ∷ []

-- it was put
abbrev pub Says : Option (List ℕ) → Option (List ℕ) → ℕ → ℕ → List ℕ → Type 0
Says old new before after text = ArePut old new before after (further_line text)

-- that, where there is a text, and else nothing
abbrev pub SaysAny : Option (List ℕ) → Option (List ℕ) → ℕ → ℕ → Option (List ℕ) → Type 0
SaysAny old new before after text = MatchOption text (IsQuiet old new before after) (Says old new before after)

-- the line of a fault was put, or that there is no memory for it
abbrev pub TellsMet : Option (List ℕ) → Option (List ℕ) → ℕ → ℕ → Fault → Type 0
TellsMet old new before after fault = ArePut old new before after (line_of fault) ⊎ ArePut old new before after (line_of a_fault.OutOfMemory)

-- that was told, and behind it a further line was put
pub record TellsFault (old new : Option (List ℕ)) (before after : ℕ) (fault : Fault) (text : List ℕ) : Type 0 where
  pub middle : Option (List ℕ)
  pub count : ℕ
  pub line : TellsMet old middle before count fault
  pub further : Says middle new count after text

-- texts were said one behind another, each where it is there, and nothing else
abbrev pub SaysEach : List (Option (List ℕ)) → Option (List ℕ) → Option (List ℕ) → ℕ → ℕ → Type 0
SaysEach [] old new before after = IsQuiet old new before after
SaysEach (text ∷ texts) old new before after = (middle : Option (List ℕ)) × (count : ℕ) × SaysAny old middle before count text × SaysEach texts middle new count after
