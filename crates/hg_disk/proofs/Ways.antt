-- A way down as a stack of steps.
use Rattle.std.proofs.Common.{ℕ, ◌≡◌, ◌-◌, ◌<◌, List, [], ◌∷◌, ◌++◌, length, Some, refl, sym, ap, ◌∙◌, arith, true, inl, inr}
use Rattle.std.specs.Prelude.{slice_get, ◌==◌}
use Rattle.std.proofs.lemmas.List.{append-nil}
use Rattle.hg_disk.specs.declared.spot.Spot.{Spot}
use Rattle.hg_disk.specs.declared.spot.Step.{Step}
use Rattle.hg_disk.specs.Way.{below, last_spot, IsLeft}

-- the folder that the last step leads to
pub last_spot_of : (root : Spot) (steps : List Step) (step : Step) → slice_get steps (length steps - 1) ≡ Some step → step.spot ≡ last_spot root steps
last_spot_of root [] step e = grind (arith, e)
last_spot_of root (one ∷ []) step e = grind (arith, e)
last_spot_of root (one ∷ next ∷ steps) step e = last_spot_of one.spot (next ∷ steps) step (grind (arith, e))

below_long : (text name : List ℕ) → 0 < length text → below text name ≡ text ++ 47 ∷ name
below_long [] name h = absurd (omega (arith, h))
below_long (b ∷ text) name h = refl

pub left_here : (text dir front rest : List ℕ) → dir ≡ front ++ rest → front ≡ text → (length rest == 0) ≡ true → IsLeft text dir rest
left_here text dir front [] cut same none = inl (refl, cut ∙ append-nil front ∙ same)
left_here text dir front (b ∷ rest) cut same none = grind (arith, none)

pub left_below : (text dir front rest behind : List ℕ) → dir ≡ front ++ rest → front ≡ text → 0 < length text → rest ≡ 47 ∷ behind → IsLeft text dir behind
left_below text dir front rest behind cut same long slash = inr (cut ∙ ap (λ (l : List ℕ). l ++ rest) same ∙ ap (λ (l : List ℕ). text ++ l) slash ∙ sym (below_long text behind long))
