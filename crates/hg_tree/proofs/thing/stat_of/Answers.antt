-- An `Other` shows the time 0.0, whatever its own.
use Rattle.hg_tree.proofs.Times.{stat_other}
use Rattle.hg_tree.proofs.thing.stat_of.Goals as goal

pub returns-in-Other-clause-shown : goal.returns-in-Other-clause-shown
returns-in-Other-clause-shown c = stat_other _ c.args.placed.now.mtime _ c.in-Other.is
