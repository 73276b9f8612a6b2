-- Tests, and the branch that a test takes.
use Rattle.std.proofs.Common.{◌≡◌, ℕ, ◌<◌, ◌≤◌, Bool, true, false, ◌&&◌, ◌==◌, nat_lt, cond, refl, arith}
use Rattle.std.proofs.lemmas.Bool.Decides.{nat_tests}

pub not_zero : (n : ℕ) → 0 < n → (n == 0) ≡ false
not_zero n h = grind (arith, nat_tests)

pub chosen : {A : Type 0} (t : Bool) (x y z : A) → t ≡ false → y ≡ z → cond t x y ≡ z
chosen true x y z e same = absurd cc
chosen false x y z e same = same

pub both_hold : (a b : Bool) → (a && b) ≡ true → (a ≡ true) × (b ≡ true)
both_hold true b h = (refl, h)
both_hold false b h = absurd cc

pub not_less : (n m : ℕ) → m ≤ n → nat_lt n m ≡ false
not_less n m h = grind (arith, nat_tests)
