use Rattle.std.proofs.Common.{◌≡◌, ◌∙◌, sym, Bool, true, subst}
use Rattle.std.specs.Bool.{MatchBool}
use Rattle.hg_nodes.proofs.clash.clash.Goals as goal

-- where the test holds
chosen : (b : Bool) (P Q : Type 0) → true ≡ b → P → MatchBool b P Q
chosen b P Q is p = subst (λ (t : Bool). MatchBool t P Q) is p

pub returns : goal.returns
returns c = chosen _ _ _ (sym c.if-not-makes_tracked.false ∙ c.makes_tracked.ensures) c.near_clash.ensures
