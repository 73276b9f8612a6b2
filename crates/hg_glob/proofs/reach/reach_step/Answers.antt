use Rattle.hg_glob.proofs.Far.{reach_stepped}
use Rattle.hg_glob.proofs.reach.reach_step.Goals as goal

pub returns : goal.returns
returns c = λ path r. reach_stepped path c.args.short.now c.args.part r c.args.was c.column_step-on.result.now c.column_step-on.result.hit c.args.whole _ c.has-behind.result c.has-here.result c.requires.free c.requires.whole c.has-behind.ensures c.has-here.ensures c.column_step-on.ensures.step
