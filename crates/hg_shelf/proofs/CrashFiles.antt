-- The map of files after a write, said of the step.
use Rattle.std.proofs.Common.{ℕ, ◌≡◌, ap, sym, ◌∙◌, List}
use Rattle.hg_shelf.specs.History.{Files}
use Rattle.hg_shelf.specs.declared.outside.Step.{Step}
use Rattle.hg_shelf.specs.declared.outside.Step.TheVariants as a_step

pub wrote_by : (rule : Step → Files → Files) (step : Step) (name : List ℕ) (place : ℕ) (bytes : List ℕ) (called given : List ℕ) (old new : Files)
    → step ≡ a_step.Wrote name place bytes → called ≡ name → given ≡ bytes → ((at : List ℕ) → new at ≡ rule (a_step.Wrote called place given) old at)
    → (at : List ℕ) → new at ≡ rule step old at
wrote_by rule step name place bytes called given old new is same_name same_bytes wrote at =
    wrote at
    ∙ ap (λ (n : List ℕ). rule (a_step.Wrote n place given) old at) same_name
    ∙ ap (λ (b : List ℕ). rule (a_step.Wrote name place b) old at) same_bytes
    ∙ sym (ap (λ (s : Step). rule s old at) is)
