use Rattle.hg_glob.proofs.Trails.{trail_first}
use Rattle.hg_glob.proofs.trail.begin.Goals as goal

pub returns : goal.returns
returns c = trail_first c.args.short.now c.args.columns.now c.requires
