use Rattle.std.proofs.Common.{ap, subst}
use Rattle.std.specs.Prelude.{OnErr}
use Rattle.hg_mixed.specs.Lent.{AreLentStill}
use Rattle.hg_mixed.specs.Own.{InMemory}
use Rattle.hg_mixed.proofs.own.Own.keep.Goals as goal

pub returns-clause-err : goal.returns-clause-err
returns-clause-err c = subst (λ (m : InMemory). OnErr c.put.result (AreLentStill m.kept c.put.new.self)) c.self.view_is c.put.ensures.err

pub returns-clause-rest : goal.returns-clause-rest
returns-clause-rest c = ap (λ (m : InMemory). record m { kept = c.put.new.self }) c.self.view_is
