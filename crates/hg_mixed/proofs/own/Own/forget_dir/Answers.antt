use Rattle.hg_mixed.proofs.Ended.{ends_of}
use Rattle.hg_mixed.proofs.own.Own.forget_dir.Goals as goal

pub returns-clause-kept : goal.returns-clause-kept
returns-clause-kept c = ends_of c.self.inside.memory c.self.inside.kept _ c.self.view_is c.args.dir.text.now c.forget_dir-differs.new.self c.end_where.new.self c.forget_dir-differs.result c.forget_dir-differs.ensures.differs c.end_where.ensures
