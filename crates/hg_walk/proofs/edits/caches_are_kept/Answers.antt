use Rattle.hg_walk.proofs.Keeps.{forget_keeps_times, uncached_keeps_times}
use Rattle.hg_walk.proofs.edits.caches_are_kept.Goals as goal

pub returns-clause-one : goal.returns-clause-one
returns-clause-one c = forget_keeps_times

pub returns-clause-all : goal.returns-clause-all
returns-clause-all c = uncached_keeps_times
