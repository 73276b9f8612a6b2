use Rattle.hg_glob.proofs.Columns.{slashes_steps}
use Rattle.hg_glob.proofs.column.slashes.Goals as goal

pub returns : goal.returns
returns c = slashes_steps c.args.short.now c.args.now c.slash.result c.up.result c.longer.result c.smear-past.result c.requires c.slash.ensures c.up.ensures (record { front = c.longer.ensures.front; more = c.longer.ensures.more }) c.smear-past.ensures
