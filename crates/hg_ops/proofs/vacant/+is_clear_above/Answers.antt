use Rattle.std.proofs.Common.{sym, ◌∙◌, subst, Bool}
use Rattle.hg_ops.specs.Putting.{SeesAbove}
use Rattle.hg_ops.proofs.Moments.{above_root, sees_barred, sees_none, sees_some}
use Rattle.hg_ops.proofs.vacant.+is_clear_above.Goals as goal

pub returns-in_default-clause-found : goal.returns-in_default-clause-found
returns-in_default-clause-found g t c = above_root c.args.path.text.now (g.T.Tree.history c.args.tree.now) c.args.path.is_path (sym c.in_default.ensures.parent)

pub returns-in-Ok-None-clause-found : goal.returns-in-Ok-None-clause-found
returns-in-Ok-None-clause-found g t c =
    sees_none c.args.path.text.now c.in-Some.dir.text.now c.args.path.is_path (sym c.in-Some.ensures.parent) _ _ _ c.is_clear_above.ensures.passes c.stat.ensures.passes
    (λ told. sym c.in-Ok-None.field-0-is ∙ c.in-Ok-None.ensures.found told) (rw c.in-Ok-true.field-0-test at c.in-Ok-true.ensures.found)

pub returns-in-Ok-Some-clause-found : goal.returns-in-Ok-Some-clause-found
returns-in-Ok-Some-clause-found g t c =
    subst (λ (b : Bool). SeesAbove c.args.path.text.now (g.T.Tree.history c.args.tree.now) (g.T.Tree.history c.stat.new.self) b) (sym c.is_dir.ensures)
    (sees_some c.args.path.text.now c.in-Some.dir.text.now c.args.path.is_path (sym c.in-Some.ensures.parent) _ _ _ c.is_clear_above.ensures.passes c.stat.ensures.passes c.in-Ok-Some.stat
    (λ told. sym c.in-Ok-Some.field-0-is ∙ c.in-Ok-Some.ensures.found told) (rw c.in-Ok-true.field-0-test at c.in-Ok-true.ensures.found))

pub returns-in-Ok-false-clause-found : goal.returns-in-Ok-false-clause-found
returns-in-Ok-false-clause-found g t c =
    sees_barred c.args.path.text.now c.in-Some.dir.text.now (sym c.in-Some.ensures.parent) _ _ (rw c.in-Ok-false.field-0-test at c.in-Ok-false.ensures.found)
