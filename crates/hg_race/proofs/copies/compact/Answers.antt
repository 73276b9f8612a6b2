use Rattle.hg_race.proofs.Copying.{holds_made}
use Rattle.hg_race.proofs.copies.compact.Goals as goal

pub returns : goal.returns
returns c = holds_made c.loop-row.made c.args.rows.now c.loop-row.left.now c.in_default.ensures.cases c.loop-row.invariant
