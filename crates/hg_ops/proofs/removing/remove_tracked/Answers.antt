use Rattle.std.proofs.Common.{◌∙◌, inl, inr, subst, Bool}
use Rattle.hg_mixed.specs.Held.{table}
use Rattle.hg_ops.specs.Parent.{KeepsParent, upto}
use Rattle.hg_ops.specs.Remove.{MetRemoving, NeedsRow, ReadsWord}
use Rattle.hg_ops.proofs.AskingStore.{keeps_store}
use Rattle.hg_ops.proofs.FoundSpans.{need_longer, reads_longer}
use Rattle.hg_ops.proofs.ReadParent.{always_failed}
use Rattle.hg_ops.proofs.Taken.{found_past, met_finish, removes_ok, stops, takes_any, takes_passes, touches_behind, touches_none}
use Rattle.hg_shelf.proofs.Histories as shelves
use Rattle.hg_ops.proofs.removing.remove_tracked.Goals as goal

pub returns-in-Ok-clause-stepped : goal.returns-in-Ok-clause-stepped
returns-in-Ok-clause-stepped g c =
    removes_ok c.args.after c.needs_row-needs.result c.args.path.text.now (g.T.Tree.history c.args.tree.now) (g.T.Tree.history c.find.new.tree) (g.T.Tree.history c.finish.new.tree)
    (table c.args.mixed.now) (table c.finish.new.mixed) (g.S.Shelf.history c.find.new.shelf) c.in-Ok.found c.finish.result
    (λ s. KeepsParent (upto s (g.S.Shelf.history c.args.shelf.now)) c.args.parent.now) c.needs_row-needs.ensures c.requires.early c.find.ensures.tree_passes
    (λ s keeps. shelves.passes_trans s.old (g.S.Shelf.history c.args.shelf.now) (g.S.Shelf.history c.find.new.shelf) keeps.passes c.find.ensures.shelf_passes)
    c.in-Ok.ensures.found c.finish.ensures.takes c.in-Ok.ensures.never c.finish.ensures.refused c.finish.ensures.gone c.finish.ensures.forgotten

pub returns-in-Ok-clause-stopped : goal.returns-in-Ok-clause-stopped
returns-in-Ok-clause-stopped g c =
    stops c.args.after c.needs_row-needs.result c.args.path.text.now (g.T.Tree.history c.args.tree.now) (g.T.Tree.history c.find.new.tree) (g.T.Tree.history c.finish.new.tree)
    (table c.args.mixed.now) (table c.finish.new.mixed) (g.S.Shelf.history c.find.new.shelf) c.in-Ok.found c.finish.result
    (λ s. KeepsParent (upto s (g.S.Shelf.history c.args.shelf.now)) c.args.parent.now) c.needs_row-needs.ensures c.requires.early c.find.ensures.tree_passes
    (λ s keeps. shelves.passes_trans s.old (g.S.Shelf.history c.args.shelf.now) (g.S.Shelf.history c.find.new.shelf) keeps.passes c.find.ensures.shelf_passes)
    c.in-Ok.ensures.found c.finish.ensures.takes

pub returns-in-Err-clause-stopped : goal.returns-in-Err-clause-stopped
returns-in-Err-clause-stopped g c = λ s keeps. inl c.find.ensures.tree_passes

pub returns-in-Err-clause-met : goal.returns-in-Err-clause-met
returns-in-Err-clause-met g c = λ s keeps.
    subst
    (λ (b : Bool). MetRemoving b c.args.path.text.now (g.T.Tree.history c.args.tree.now) (g.T.Tree.history c.find.new.tree) (upto s (g.S.Shelf.history c.find.new.shelf)) c.in-Err.fault)
    c.needs_row-needs.ensures (c.in-Err.ensures.met s keeps)

pub returns-in-Ok-clause-met : goal.returns-in-Ok-clause-met
returns-in-Ok-clause-met g c =
    met_finish _ c.args.path.text.now (g.T.Tree.history c.args.tree.now) (g.T.Tree.history c.finish.new.tree)
    (λ s. KeepsParent (upto s (g.S.Shelf.history c.args.shelf.now)) c.args.parent.now) (g.S.Shelf.history c.find.new.shelf) c.finish.result c.finish.ensures.kind

pub returns-in-Err-clause-takes : goal.returns-in-Err-clause-takes
returns-in-Err-clause-takes g c = takes_passes _ c.args.path.text.now (g.T.Tree.history c.args.tree.now) (g.T.Tree.history c.find.new.tree) c.find.ensures.tree_passes

pub returns-in-Ok-clause-takes : goal.returns-in-Ok-clause-takes
returns-in-Ok-clause-takes g c =
    takes_any c.args.after c.finish.result c.in-Ok.found c.args.path.text.now (g.T.Tree.history c.args.tree.now) (g.T.Tree.history c.find.new.tree) (g.T.Tree.history c.finish.new.tree)
    c.find.ensures.tree_passes c.in-Ok.ensures.never c.finish.ensures.refused c.finish.ensures.kind c.finish.ensures.takes

pub returns-in-Err-clause-touches : goal.returns-in-Err-clause-touches
returns-in-Err-clause-touches g c = λ told. touches_none c.args.path.text.now (g.T.Tree.history c.args.tree.now) (g.T.Tree.history c.find.new.tree) c.find.ensures.tree_passes

pub returns-in-Ok-clause-touches : goal.returns-in-Ok-clause-touches
returns-in-Ok-clause-touches g c = λ told.
    touches_behind c.args.path.text.now (g.T.Tree.history c.args.tree.now) (g.T.Tree.history c.find.new.tree) (g.T.Tree.history c.finish.new.tree) c.find.ensures.tree_passes
    (found_past c.in-Ok.found c.args.path.text.now (g.T.Tree.history c.find.new.tree) (g.T.Tree.history c.finish.new.tree) c.finish.ensures.takes)
    (c.finish.ensures.touches (c.find.ensures.tree_passes.past.told ∙ told))

pub returns-in-Err-clause-asked : goal.returns-in-Err-clause-asked
returns-in-Err-clause-asked g c =
    subst (λ (b : Bool). ReadsWord b c.args.path.text.now (g.T.Tree.history c.args.tree.now) (g.T.Tree.history c.find.new.tree)) c.needs_row-needs.ensures c.find.ensures.asked

pub returns-in-Ok-clause-asked : goal.returns-in-Ok-clause-asked
returns-in-Ok-clause-asked g c =
    subst (λ (b : Bool). ReadsWord b c.args.path.text.now (g.T.Tree.history c.args.tree.now) (g.T.Tree.history c.finish.new.tree)) c.needs_row-needs.ensures
    (reads_longer c.needs_row-needs.result c.args.path.text.now (g.T.Tree.history c.args.tree.now) (g.T.Tree.history c.find.new.tree) (g.T.Tree.history c.finish.new.tree) c.find.ensures.tree_passes.past
    (found_past c.in-Ok.found c.args.path.text.now (g.T.Tree.history c.find.new.tree) (g.T.Tree.history c.finish.new.tree) c.finish.ensures.takes)
    c.finish.ensures.asked c.find.ensures.asked)

pub returns-in-Err-clause-needed : goal.returns-in-Err-clause-needed
returns-in-Err-clause-needed g c = elim c.find.ensures.needed [
  | inl same ↦ inl same
  | inr need ↦ inr (subst (λ (b : Bool). NeedsRow b c.args.path.text.now (g.T.Tree.history c.args.tree.now) (g.T.Tree.history c.find.new.tree)) c.needs_row-needs.ensures need)
]

pub returns-in-Ok-clause-needed : goal.returns-in-Ok-clause-needed
returns-in-Ok-clause-needed g c = elim c.find.ensures.needed [
  | inl same ↦ inl same
  | inr need ↦
      inr
      (subst (λ (b : Bool). NeedsRow b c.args.path.text.now (g.T.Tree.history c.args.tree.now) (g.T.Tree.history c.finish.new.tree)) c.needs_row-needs.ensures
      (need_longer c.needs_row-needs.result c.args.path.text.now (g.T.Tree.history c.args.tree.now) (g.T.Tree.history c.find.new.tree) (g.T.Tree.history c.finish.new.tree)
      (found_past c.in-Ok.found c.args.path.text.now (g.T.Tree.history c.find.new.tree) (g.T.Tree.history c.finish.new.tree) c.finish.ensures.takes) need))
]

pub returns-in-Ok-clause-store : goal.returns-in-Ok-clause-store
returns-in-Ok-clause-store g c =
    always_failed c.finish.result _ (λ s keeps told. keeps_store (upto s (g.S.Shelf.history c.find.new.shelf)) c.find.new.parent (c.in-Ok.ensures.goes s keeps) told)
