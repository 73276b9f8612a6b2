use Rattle.std.proofs.Common.{sym, ◌∙◌}
use Rattle.hg_shelf.proofs.CrashSteps.{followed}
use Rattle.hg_shelf.proofs.crash.effective.Goals as goal

pub loop-change-preserved : goal.loop-change-preserved
loop-change-preserved c =
    followed c.args.call c.args.changes.now c.loop-change.change-index c.change-item.result c.loop-change.steps.items _ _ _ _ c.loop-change-test.true c.change-item.is
    (sym c.is_before.ensures ∙ c.if-not-is_before.false) c.in_ok-follow.ensures.noted c.in_ok-follow.ensures.files c.loop-change.invariant
