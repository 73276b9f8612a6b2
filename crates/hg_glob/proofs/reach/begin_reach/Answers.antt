use Rattle.hg_glob.proofs.Far.{reaches_first}
use Rattle.hg_glob.proofs.reach.begin_reach.Goals as goal

pub returns : goal.returns
returns c = λ path. reaches_first path c.args.short.now c.args.reaches.now c.requires
