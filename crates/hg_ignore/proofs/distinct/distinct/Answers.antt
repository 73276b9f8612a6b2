use Rattle.hg_ignore.proofs.Globs.{kept_more, kept_still, was_seen}
use Rattle.hg_ignore.proofs.distinct.distinct.Goals as goal

pub loop-line-preserved-in-Continue-branch-2 : goal.loop-line-preserved-in-Continue-branch-2
loop-line-preserved-in-Continue-branch-2 c =
    kept_more c.loop-line.kept.items c.push.new.self.items c.loop-line.yielded c.in-Some.line c.loop-line.seen c.put.new.self c.in_ok-push.ensures.items c.in_ok-put.ensures.more c.loop-line.invariant

pub loop-line-preserved : goal.loop-line-preserved
loop-line-preserved c =
    kept_still c.loop-line.kept.items c.loop-line.yielded c.in-Some.line c.loop-line.seen c.put.new.self (was_seen c.in_ok-put.field-0 _ c.in_ok-put.ensures.new c.if-branch.false) c.in_ok-put.ensures.more c.loop-line.invariant
