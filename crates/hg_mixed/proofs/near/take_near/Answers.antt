use Rattle.std.proofs.Common.{sym}
use Rattle.std.proofs.lemmas.Result.{on_ok_weaker}
use Rattle.hg_mixed.proofs.ClashWhole.{near_all, near_bare}
use Rattle.hg_mixed.proofs.Lifted.{moved_on}
use Rattle.hg_mixed.proofs.near.take_near.Goals as goal

pub returns-then-not-has_kids-clause-near : goal.returns-then-not-has_kids-clause-near
returns-then-not-has_kids-clause-near c =
    near_bare _ _ c.take_for.new.left c.args.path.text.now c.in_ok-take_for.ensures.free c.take_for.new.memory c.take_for.ensures.moved.parted (sym c.if-not-has_kids.ensures)

pub returns-clause-moved : goal.returns-clause-moved
returns-clause-moved c = moved_on _ _ _ _ _ _ _ _ c.take_for.ensures.moved c.take_all.ensures.moved

pub returns-clause-near : goal.returns-clause-near
returns-clause-near c = on_ok_weaker c.take_all.result (λ none. near_all _ _ c.take_all.new.left c.take_all.new.memory c.args.path.text.now none) c.take_all.ensures.all
