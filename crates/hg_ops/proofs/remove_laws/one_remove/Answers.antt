use Rattle.std.proofs.Common.{◌≡◌, Option, sym, ◌∙◌, subst}
use Rattle.hg_ops.specs.Step.{IsForgotten}
use Rattle.hg_ops.specs.declared.refusal.Refusal.{Refusal}
use Rattle.hg_ops.proofs.ExactlyRefused.{exactly}
use Rattle.hg_ops.proofs.OneStep.{forgotten_one}
use Rattle.hg_ops.proofs.remove_laws.one_remove.Goals as goal

pub returns : goal.returns
returns c = λ store after word old new s was a b q r first second leave keeps.
    let same : q ≡ r = exactly store after word old new s was q a first leave keeps ∙ sym (exactly store after word old new s was r b second leave keeps) in
    (same, forgotten_one word r was a b (subst (λ (o : Option Refusal). IsForgotten word o was a) same first.table) second.table)
