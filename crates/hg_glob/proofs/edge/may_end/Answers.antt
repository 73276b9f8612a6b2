use Rattle.std.proofs.Common.{subst}
use Rattle.hg_glob.specs.Line.{IsBack}
use Rattle.hg_glob.proofs.Edges.{ends_whole}
use Rattle.hg_glob.proofs.edge.may_end.Goals as goal

pub returns : goal.returns
returns c = λ front d e back. ends_whole c.args.path.now c.args.tail.now front d c.ends.result c.ends.ensures e (subst (λ i. IsBack i d) c.if-inner.false back)
