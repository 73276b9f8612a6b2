use Rattle.std.proofs.Common.{ℕ, refl, arith, subst}
use Rattle.hg_manifest.proofs.Forty.{Looked, all_looked, one_more}
use Rattle.hg_manifest.proofs.line.all_digits.Goals as goal

pub loop-i-preserved : goal.loop-i-preserved
loop-i-preserved c =
    one_more c.args.bytes.now c.loop-i.i c.loop-i.all _ c.requires c.loop-i-test.true c.loop-i.invariant
    (rw (c.is_digit.ensures, c.is_digit-in-loop-i.ensures, c.is_digit-in-loop-i-2.ensures) refl)

pub returns : goal.returns
returns c = all_looked c.args.bytes.now c.loop-i.all c.requires (subst (λ (n : ℕ). Looked c.args.bytes.now n c.loop-i.all) (omega (arith, c.loop-i-test.false, c.loop-i.auto.i-end)) c.loop-i.invariant)
