use Rattle.std.proofs.Common.{subst, sym}
use Rattle.std.specs.Int.Bits.{bit_or}
use Rattle.hg_glob.specs.Column.{IsEnd}
use Rattle.hg_glob.proofs.Masks.{end_inside, end_alone}
use Rattle.hg_glob.proofs.sweep.end.Goals as goal

pub returns-then-inner : goal.returns-then-inner
returns-then-inner c = subst (λ inner. IsEnd inner c.args.short.now (bit_or c.slash.result 1)) (sym c.if-inner.true) (end_inside c.args.short.now c.slash.result c.slash.ensures)

pub returns-else-inner : goal.returns-else-inner
returns-else-inner c = subst (λ inner. IsEnd inner c.args.short.now 1) (sym c.if-inner.false) (end_alone c.args.short.now)
