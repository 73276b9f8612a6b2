use Rattle.std.proofs.Common.{◌∙◌, sym, subst}
use Rattle.std.proofs.lemmas.Result.{err_from_is_err_and}
use Rattle.hg_ops.specs.Parent.{HasAsked, IsManifest, upto}
use Rattle.hg_ops.specs.Parents.{row_at}
use Rattle.hg_ops.proofs.AskingStore.{keeps_loaded, store_failed, store_whole, whole_first}
use Rattle.hg_ops.proofs.FoundSpans.{in_second}
use Rattle.hg_ops.proofs.ReadParent.{manifest_later, met_in, met_load}
use Rattle.hg_shelf.proofs.Histories as shelves
use Rattle.hg_shelf.proofs.Scenes.{goes_trans}
use Rattle.hg_tree.proofs.Spans as trees
use Rattle.hg_ops.proofs.finding.find_first.Goals as goal

pub returns-in_err-loaded-clause-met : goal.returns-in_err-loaded-clause-met
returns-in_err-loaded-clause-met g c =
    let p = err_from_is_err_and c.from_residual.result c.from_residual.ensures.1 in
    rw (p.1, p.2)
    (λ s keeps.
    met_load (upto s (g.S.Shelf.history c.load.new.shelf)) c.args.path.text.now c.args.before.now c.in_err-loaded.field-0.0
    (c.in_err-loaded.ensures.found s keeps.passes keeps.same))

pub returns-in_err-found-clause-met : goal.returns-in_err-found-clause-met
returns-in_err-found-clause-met g c =
    let p = err_from_is_err_and c.from_residual-in_err-found.result c.from_residual-in_err-found.ensures.1 in
    rw (p.1, p.2)
    (λ s keeps.
    let first = shelves.passes_trans s.old (g.S.Shelf.history c.args.shelf.now) (g.S.Shelf.history c.load.new.shelf) keeps.passes c.load.ensures.passes in
    met_in s (g.S.Shelf.history c.load.new.shelf) (g.S.Shelf.history c.find_in.new.shelf) c.in_ok-loaded.loaded.manifest c.args.path.text.now c.args.before.now c.in_err-found.field-0.0 first
    (manifest_later s (g.S.Shelf.history c.load.new.shelf) (g.S.Shelf.history c.find_in.new.shelf) c.in_ok-loaded.loaded.manifest first c.find_in.ensures.shelf_passes
    (c.in_ok-loaded.ensures.found s keeps.passes keeps.same))
    c.in_err-found.ensures.lacks)

pub returns-clause-goes : goal.returns-clause-goes
returns-clause-goes g c = λ s keeps.
    let old = g.S.Shelf.history c.args.shelf.now in
    let mid = g.S.Shelf.history c.load.new.shelf in
    let new = g.S.Shelf.history c.find_in.new.shelf in
    let first = shelves.passes_trans s.old old mid keeps.passes c.load.ensures.passes in
    let read = manifest_later s mid new c.in_ok-loaded.loaded.manifest first c.find_in.ensures.shelf_passes (c.in_ok-loaded.ensures.found s keeps.passes keeps.same) in
    keeps_loaded s old new c.args.parent.now c.find_in.new.loaded (shelves.passes_trans old mid new c.load.ensures.passes c.find_in.ensures.shelf_passes) keeps
    (subst (IsManifest (upto s new)) (sym c.find_in.ensures.manifest) read)
    (λ told.
    whole_first s old mid new c.in_ok-loaded.loaded.manifest c.args.path.text.now c.args.parent.now.id c.in_ok-loaded.loaded keeps.passes c.load.ensures.passes c.find_in.ensures.shelf_passes
    (subst (HasAsked (upto s old)) c.requires (keeps.asked told)) keeps.same (c.in_ok-loaded.ensures.asked (keeps.passes.past.told ∙ told))
    read
    (c.find_in.ensures.contents (c.load.ensures.passes.past.told ∙ keeps.passes.past.told ∙ told)))

pub returns-clause-found : goal.returns-clause-found
returns-clause-found g c = λ s keeps.
    let old = g.S.Shelf.history c.args.shelf.now in
    let mid = g.S.Shelf.history c.load.new.shelf in
    let new = g.S.Shelf.history c.find_in.new.shelf in
    let first = shelves.passes_trans s.old old mid keeps.passes c.load.ensures.passes in
    record {
      rows = c.in_ok-loaded.loaded.manifest;
      read = manifest_later s mid new c.in_ok-loaded.loaded.manifest first c.find_in.ensures.shelf_passes (c.in_ok-loaded.ensures.found s keeps.passes keeps.same);
      seen =
          in_second c.args.path.text.now (g.T.Tree.history c.args.tree.now) (g.T.Tree.history c.args.tree.now) (g.T.Tree.history c.find_in.new.tree) s.old mid new c.args.before.now
          (row_at c.in_ok-loaded.loaded.manifest c.args.path.text.now) c.in_ok-found.found (trees.passes_same (g.T.Tree.history c.args.tree.now)) c.find_in.ensures.tree_passes first c.find_in.ensures.shelf_passes
          c.in_ok-found.ensures.found;
    }

pub returns-in_err-found-clause-kept : goal.returns-in_err-found-clause-kept
returns-in_err-found-clause-kept g c = goes_trans _ _ _ c.load.ensures.kept c.find_in.ensures.kept

pub returns-clause-kept : goal.returns-clause-kept
returns-clause-kept g c = goes_trans _ _ _ c.load.ensures.kept c.find_in.ensures.kept

pub returns-in_err-loaded-clause-store : goal.returns-in_err-loaded-clause-store
returns-in_err-loaded-clause-store g c =
    let p = err_from_is_err_and c.from_residual.result c.from_residual.ensures.1 in
    let old = g.S.Shelf.history c.args.shelf.now in
    let new = g.S.Shelf.history c.load.new.shelf in
    rw p.1
    (λ s keeps told.
    store_failed (upto s new) old c.args.parent.now.id c.in_err-loaded.field-0.0 keeps.passes (subst (HasAsked (upto s old)) c.requires (keeps.asked told)) keeps.same
    (c.in_err-loaded.ensures.asked (keeps.passes.past.told ∙ told)))

pub returns-in_err-found-clause-store : goal.returns-in_err-found-clause-store
returns-in_err-found-clause-store g c =
    let p = err_from_is_err_and c.from_residual-in_err-found.result c.from_residual-in_err-found.ensures.1 in
    let old = g.S.Shelf.history c.args.shelf.now in
    let mid = g.S.Shelf.history c.load.new.shelf in
    let new = g.S.Shelf.history c.find_in.new.shelf in
    rw p.1
    (λ s keeps told.
    let first = shelves.passes_trans s.old old mid keeps.passes c.load.ensures.passes in
    store_whole (upto s new)
    (whole_first s old mid new c.in_ok-loaded.loaded.manifest c.args.path.text.now c.args.parent.now.id c.in_ok-loaded.loaded keeps.passes c.load.ensures.passes c.find_in.ensures.shelf_passes
    (subst (HasAsked (upto s old)) c.requires (keeps.asked told)) keeps.same (c.in_ok-loaded.ensures.asked (keeps.passes.past.told ∙ told))
    (manifest_later s mid new c.in_ok-loaded.loaded.manifest first c.find_in.ensures.shelf_passes (c.in_ok-loaded.ensures.found s keeps.passes keeps.same))
    (c.find_in.ensures.contents (c.load.ensures.passes.past.told ∙ keeps.passes.past.told ∙ told))))
