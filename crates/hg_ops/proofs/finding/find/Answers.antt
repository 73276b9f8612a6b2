use Rattle.std.proofs.Common.{ap, inl, inr, ◌∙◌}
use Rattle.hg_ops.specs.Parent.{KeepsParent, upto}
use Rattle.hg_ops.proofs.AskingStore.{keeps_store}
use Rattle.hg_ops.proofs.FoundSpans.{asked_nothing, find_found, find_met, find_need, find_nothing, find_reads, reads_none}
use Rattle.hg_shelf.proofs.Histories as shelves
use Rattle.hg_tree.specs.History.{History}
use Rattle.hg_ops.proofs.finding.find.Goals as goal

pub returns-in-Err-clause-store : goal.returns-in-Err-clause-store
returns-in-Err-clause-store g c = λ s keeps told. keeps_store (upto s (g.S.Shelf.history c.args.shelf.now)) c.args.parent.now keeps told

pub returns-in-Ok-None-clause-found : goal.returns-in-Ok-None-clause-found
returns-in-Ok-None-clause-found g c = λ s keeps.
    find_nothing c.args.after c.args.needs c.args.path.text.now (g.T.Tree.history c.args.tree.now) (g.T.Tree.history c.stat.new.self) (upto s (g.S.Shelf.history c.args.shelf.now)) c.stat.ensures.passes
    (λ told. cc (c.in-Ok-None.field-0-is, c.in-Ok-None.ensures.found told))

pub returns-in-Ok-Some-clause-found : goal.returns-in-Ok-Some-clause-found
returns-in-Ok-Some-clause-found g c =
    find_found c.args.after c.args.needs c.args.path.text.now (g.T.Tree.history c.args.tree.now) (g.T.Tree.history c.stat.new.self) (g.T.Tree.history c.find_there.new.tree)
    (g.S.Shelf.history c.find_there.new.shelf) c.in-Ok-Some.before (λ s. KeepsParent (upto s (g.S.Shelf.history c.args.shelf.now)) c.args.parent.now) c.stat.ensures.passes c.find_there.ensures.tree_passes
    (λ told. cc (c.in-Ok-Some.field-0-is, c.in-Ok-Some.ensures.found told))
    c.find_there.result
    (λ s keeps. shelves.passes_trans s.old (g.S.Shelf.history c.args.shelf.now) (g.S.Shelf.history c.find_there.new.shelf) keeps.passes c.find_there.ensures.shelf_passes)
    c.find_there.ensures.found

pub returns-in-Ok-Some-clause-met : goal.returns-in-Ok-Some-clause-met
returns-in-Ok-Some-clause-met g c =
    find_met c.args.after c.args.needs c.args.path.text.now (g.T.Tree.history c.args.tree.now) (g.T.Tree.history c.stat.new.self) (g.T.Tree.history c.find_there.new.tree)
    (g.S.Shelf.history c.find_there.new.shelf) c.in-Ok-Some.before (λ s. KeepsParent (upto s (g.S.Shelf.history c.args.shelf.now)) c.args.parent.now) c.stat.ensures.passes c.find_there.ensures.tree_passes
    (λ told. cc (c.in-Ok-Some.field-0-is, c.in-Ok-Some.ensures.found told))
    c.find_there.result c.find_there.ensures.met c.find_there.ensures.compared

pub returns-in-Ok-Some-clause-asked : goal.returns-in-Ok-Some-clause-asked
returns-in-Ok-Some-clause-asked g c = elim c.find_there.ensures.needed [
  | inl same ↦
      reads_none c.args.needs c.args.path.text.now (g.T.Tree.history c.args.tree.now) (g.T.Tree.history c.find_there.new.tree)
      (λ told.
      ap (λ (h : History). h.asked) (ap g.T.Tree.history same.0)
      ∙ asked_nothing _ (g.T.Tree.history c.args.tree.now) (g.T.Tree.history c.stat.new.self) (c.stat.ensures.asked told))
  | inr need ↦
      find_reads c.args.after c.args.needs c.args.path.text.now (g.T.Tree.history c.args.tree.now) (g.T.Tree.history c.stat.new.self) (g.T.Tree.history c.find_there.new.tree)
      (g.S.Shelf.history c.find_there.new.shelf) c.in-Ok-Some.before (λ s. KeepsParent (upto s (g.S.Shelf.history c.args.shelf.now)) c.args.parent.now) c.stat.ensures.passes c.find_there.ensures.tree_passes
      (λ told. cc (c.in-Ok-Some.field-0-is, c.in-Ok-Some.ensures.found told))
      need.0 need.1
      (λ told. asked_nothing _ (g.T.Tree.history c.args.tree.now) (g.T.Tree.history c.stat.new.self) (c.stat.ensures.asked told))
      c.find_there.ensures.asked
]

pub returns-in-Ok-Some-clause-needed : goal.returns-in-Ok-Some-clause-needed
returns-in-Ok-Some-clause-needed g c = elim c.find_there.ensures.needed [
  | inl same ↦ inl same.1
  | inr need ↦
      inr
      (find_need c.args.after c.args.needs c.args.path.text.now (g.T.Tree.history c.args.tree.now) (g.T.Tree.history c.stat.new.self) (g.T.Tree.history c.find_there.new.tree)
      (g.S.Shelf.history c.find_there.new.shelf) c.in-Ok-Some.before (λ s. KeepsParent (upto s (g.S.Shelf.history c.args.shelf.now)) c.args.parent.now) c.stat.ensures.passes c.find_there.ensures.tree_passes
      (λ told. cc (c.in-Ok-Some.field-0-is, c.in-Ok-Some.ensures.found told))
      need.0 need.1)
]
