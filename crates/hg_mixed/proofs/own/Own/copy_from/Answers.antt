use Rattle.hg_mixed.proofs.Ended.{ends_of}
use Rattle.hg_mixed.proofs.own.Own.copy_from.Goals as goal

pub returns-in-Ok-clause-kept : goal.returns-in-Ok-clause-kept
returns-in-Ok-clause-kept c = ends_of c.self.inside.memory c.self.inside.kept _ c.self.view_is c.args.path.text.now c.copy_from.new.self c.end_where.new.self c.in-Ok.differs c.in-Ok.ensures.differs c.end_where.ensures
