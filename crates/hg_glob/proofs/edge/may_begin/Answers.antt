use Rattle.std.proofs.Common.{subst}
use Rattle.hg_glob.specs.Line.{IsFront}
use Rattle.hg_glob.proofs.Edges.{begins_rooted}
use Rattle.hg_glob.proofs.edge.may_begin.Goals as goal

pub returns-then-rooted : goal.returns-then-rooted
returns-then-rooted c = λ a rest e in_front. begins_rooted c.args.path.now c.args.head.now a rest c.begins.result c.begins.ensures e (subst (λ r. IsFront r a) c.if-rooted.true in_front)
