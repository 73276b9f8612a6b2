use Rattle.std.proofs.Common.{Bool, cond, Option, None, Some, refl, sym, ap, ◌∙◌}
use Rattle.hg_mixed.specs.Held.{table}
use Rattle.hg_ops.specs.declared.refusal.Refusal.{Refusal}
use Rattle.hg_ops.specs.declared.refusal.Refusal.TheVariants as a_refusal
use Rattle.hg_ops.proofs.Course.{free_target, refused_source, refused_target, shown_was}
use Rattle.hg_ops.proofs.copying.look_at_both.Goals as goal

abbrev none : Option Refusal
none = None

pub returns-then-not-is_file-clause-found : goal.returns-then-not-is_file-clause-found
returns-then-not-is_file-clause-found g c =
    refused_source c.args.from.text.now c.args.to.text.now (table c.args.mixed.now) c.args.from.is_path c.args.to.is_path (sym c.is_tracked.ensures ∙ c.if-not-is_tracked.false) (g.T.Tree.history c.args.tree.now) (g.T.Tree.history c.stat.new.self) c.stat.ensures.passes (Some c.in-Ok-Some.stat)
    (λ told. sym c.in-Ok-Some.field-0-is ∙ c.in-Ok-Some.ensures.found told) a_refusal.Special
    (ap (λ (b : Bool). cond b none (Some a_refusal.Special)) (sym c.is_file.ensures ∙ c.if-not-is_file.true))

pub returns-in-Ok-None-clause-found : goal.returns-in-Ok-None-clause-found
returns-in-Ok-None-clause-found g c =
    refused_source c.args.from.text.now c.args.to.text.now (table c.args.mixed.now) c.args.from.is_path c.args.to.is_path (sym c.is_tracked.ensures ∙ c.if-not-is_tracked.false) (g.T.Tree.history c.args.tree.now) (g.T.Tree.history c.stat.new.self) c.stat.ensures.passes None
    (λ told. sym c.in-Ok-None.field-0-is ∙ c.in-Ok-None.ensures.found told) a_refusal.NotThere refl

pub returns-in-Ok-Some-target_refused-clause-found : goal.returns-in-Ok-Some-target_refused-clause-found
returns-in-Ok-Some-target_refused-clause-found g c =
    refused_target c.args.from.text.now c.args.to.text.now (table c.args.mixed.now) c.args.from.is_path c.args.to.is_path (sym c.is_tracked.ensures ∙ c.if-not-is_tracked.false) (g.T.Tree.history c.args.tree.now) (g.T.Tree.history c.stat.new.self) c.stat.ensures.passes (Some c.in-Ok-Some.stat)
    (λ told. sym c.in-Ok-Some.field-0-is ∙ c.in-Ok-Some.ensures.found told) (g.T.Tree.history c.target_refused.new.tree) c.target_refused.ensures.passes
    (ap (λ (b : Bool). cond b none (Some a_refusal.Special)) (sym c.is_file.ensures ∙ c.if-not-is_file.false))
    c.in-Ok-Some-target_refused.refusal (rw c.in-Ok-Some-target_refused.field-0-is at c.in-Ok-Some-target_refused.ensures.found)

pub returns-in-Ok-None-target_refused-clause-found : goal.returns-in-Ok-None-target_refused-clause-found
returns-in-Ok-None-target_refused-clause-found g c = (
  free_target c.args.from.text.now c.args.to.text.now (table c.args.mixed.now) c.args.from.is_path c.args.to.is_path (sym c.is_tracked.ensures ∙ c.if-not-is_tracked.false) (g.T.Tree.history c.args.tree.now) (g.T.Tree.history c.stat.new.self) c.stat.ensures.passes (Some c.in-Ok-Some.stat)
      (λ told. sym c.in-Ok-Some.field-0-is ∙ c.in-Ok-Some.ensures.found told) (g.T.Tree.history c.target_refused.new.tree) c.target_refused.ensures.passes
      (ap (λ (b : Bool). cond b none (Some a_refusal.Special)) (sym c.is_file.ensures ∙ c.if-not-is_file.false))
      (rw c.in-Ok-None-target_refused.field-0-is at c.in-Ok-None-target_refused.ensures.found),
  sym c.is_file.ensures ∙ c.if-not-is_file.false,
  λ told. (
    shown_was c.args.from.text.now c.args.to.text.now (table c.args.mixed.now) (g.T.Tree.history c.args.tree.now) (g.T.Tree.history c.stat.new.self) (g.T.Tree.history c.target_refused.new.tree) c.stat.ensures.passes c.target_refused.ensures.passes c.in-Ok-Some.stat
        (λ t. sym c.in-Ok-Some.field-0-is ∙ c.in-Ok-Some.ensures.found t) told,
    c.in-Ok-None-target_refused.ensures.formed c.in-Ok-None-target_refused.field-0-is (c.stat.ensures.passes.past.told ∙ told),
  ),
)
