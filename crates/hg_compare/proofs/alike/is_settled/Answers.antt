use Rattle.std.proofs.Common.{rules, refl}
use Rattle.hg_compare.proofs.Settled.{settles}
use Rattle.hg_compare.proofs.alike.is_settled.Goals as goal

pub returns : goal.returns
returns c = settles c.args.before.now c.args.after.now _ (search rules) (search rules) (search rules) (search rules) refl
