use Rattle.std.proofs.Common.{ℕ, List, Ok, refl, sym, ap, subst}
use Rattle.std.specs.Prelude.{IfErr, IfOk}
use Rattle.hg_image.proofs.Texts.{path_false}
use Rattle.hg_mixed.specs.Held.{table}
use Rattle.hg_ops.specs.Parent.{KeepsParent, Span, upto}
use Rattle.hg_ops.specs.Remove.{Removes, StopsRemoving, Takes, may_take}
use Rattle.hg_ops.specs.declared.refusal.Refusal.TheVariants as a_refusal
use Rattle.hg_ops.proofs.FoundSpans.{reads_none}
use Rattle.hg_ops.proofs.Taken.{early_no_path, removes_early, takes_passes, touches_none}
use Rattle.hg_tree.proofs.Spans.{passes_same}
use Rattle.hg_ops.proofs.removing.remove.Goals as goal

pub returns-in-Err-clause-stepped : goal.returns-in-Err-clause-stepped
returns-in-Err-clause-stepped g c = λ s keeps.
    removes_early c.args.after c.args.word.now (g.T.Tree.history c.args.tree.now) (upto s (g.S.Shelf.history c.args.shelf.now)) (table c.args.mixed.now) a_refusal.BadPath
    (early_no_path c.args.after c.args.word.now (table c.args.mixed.now) (path_false c.args.word.now c.in-Err.field-0 (sym c.in-Err.ensures.refused))) keeps.passes

pub returns-in-Err-clause-idle : goal.returns-in-Err-clause-idle
returns-in-Err-clause-idle g c = λ early. (
  ap Ok (sym (early_no_path c.args.after c.args.word.now (table c.args.mixed.now) (path_false c.args.word.now c.in-Err.field-0 (sym c.in-Err.ensures.refused)))),
  refl,
  refl,
)

pub returns-in-Err-clause-takes : goal.returns-in-Err-clause-takes
returns-in-Err-clause-takes g c = takes_passes _ c.args.word.now (g.T.Tree.history c.args.tree.now) (g.T.Tree.history c.args.tree.now) (passes_same (g.T.Tree.history c.args.tree.now))

pub returns-in-Err-clause-touches : goal.returns-in-Err-clause-touches
returns-in-Err-clause-touches g c = λ told. touches_none c.args.word.now (g.T.Tree.history c.args.tree.now) (g.T.Tree.history c.args.tree.now) (passes_same (g.T.Tree.history c.args.tree.now))

pub returns-in-Err-clause-asked : goal.returns-in-Err-clause-asked
returns-in-Err-clause-asked g c = reads_none _ c.args.word.now (g.T.Tree.history c.args.tree.now) (g.T.Tree.history c.args.tree.now) (λ told. refl)

pub returns-in-Ok-clause-stepped : goal.returns-in-Ok-clause-stepped
returns-in-Ok-clause-stepped g c =
    subst
    (λ (w : List ℕ). IfOk c.remove_path.result (λ refused. (s : Span) → KeepsParent (upto s (g.S.Shelf.history c.args.shelf.now)) c.args.parent.now
    → Removes c.args.after w (g.T.Tree.history c.args.tree.now) (g.T.Tree.history c.remove_path.new.tree) (upto s (g.S.Shelf.history c.remove_path.new.shelf)) (table c.args.mixed.now) refused (table c.remove_path.new.mixed)))
    c.in-Ok.ensures.path c.remove_path.ensures.stepped

pub returns-in-Ok-clause-stopped : goal.returns-in-Ok-clause-stopped
returns-in-Ok-clause-stopped g c =
    subst
    (λ (w : List ℕ). IfErr c.remove_path.result (λ fault. (s : Span) → KeepsParent (upto s (g.S.Shelf.history c.args.shelf.now)) c.args.parent.now
    → StopsRemoving c.args.after w (table c.args.mixed.now) (g.T.Tree.history c.args.tree.now) (g.T.Tree.history c.remove_path.new.tree) (upto s (g.S.Shelf.history c.remove_path.new.shelf))))
    c.in-Ok.ensures.path c.remove_path.ensures.stopped

pub returns-in-Ok-clause-takes : goal.returns-in-Ok-clause-takes
returns-in-Ok-clause-takes g c =
    subst (λ (w : List ℕ). Takes (may_take c.args.after c.remove_path.result) w (g.T.Tree.history c.args.tree.now) (g.T.Tree.history c.remove_path.new.tree)) c.in-Ok.ensures.path c.remove_path.ensures.takes
