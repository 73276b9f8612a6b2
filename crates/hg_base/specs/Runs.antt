-- Lists of calls, one after another. D is what a call works on: one device, or several together.
use Rattle.std.specs.Prelude.{ℕ, ◌≡◌, max, List, [], ◌∷◌, ◌++◌, Option, Some, None}

-- these calls were made one after another, each on what the one before it left, and none met a fault; the status is the greatest of theirs and of the one before
abbrev pub RunsAll : {C D F : Type 0} → (C → D → D → ℕ → Option F → Type 0) → List C → D → D → ℕ → ℕ → Type 0
RunsAll {D = D} Does [] old new was code = (new ≡ old) × (code ≡ was)
RunsAll {D = D} Does (call ∷ calls) old new was code = (mid : D) × (status : ℕ) × Does call old mid status None × RunsAll Does calls mid new (max was status) code

-- the calls before one were made without a fault, that one met this fault, and none behind it was made
pub record RunsTo {C D F : Type 0} (Does : C → D → D → ℕ → Option F → Type 0) (all : List C) (old new : D) (code : ℕ) (fault : F) : Type 0 where
  pub earlier : List C
  pub one : C
  pub later : List C
  pub whole : all ≡ earlier ++ one ∷ later
  pub mid : D
  pub status : ℕ
  pub before : RunsAll Does earlier old mid 0 status
  pub met : Does one mid new code (Some fault)

-- a list of calls that ends at its first fault: all were made without one, or those up to the one that met it
abbrev pub Runs : {C D F : Type 0} → (C → D → D → ℕ → Option F → Type 0) → List C → D → D → ℕ → Option F → Type 0
Runs Does all old new code None = RunsAll Does all old new 0 code
Runs Does all old new code (Some fault) = RunsTo Does all old new code fault

-- these calls were made one after another, whatever each answered
abbrev pub RunsEach : {C D : Type 0} → (C → D → D → Type 0) → List C → D → D → Type 0
RunsEach {D = D} Does [] old new = new ≡ old
RunsEach {D = D} Does (call ∷ calls) old new = (mid : D) × Does call old mid × RunsEach Does calls mid new
