use Rattle.std.proofs.Common.{Ok, ◌∙◌, sym, subst, inl, refl}
use Rattle.std.proofs.lemmas.Result.{err_from_is_err_and}
use Rattle.hg_shelf.proofs.Histories as shelves
use Rattle.hg_shelf.proofs.Scenes.{goes_trans}
use Rattle.hg_flat.specs.Course.{HasAsked, IsManifest, upto}
use Rattle.hg_flat.proofs.Going.{goes_loaded}
use Rattle.hg_flat.proofs.Manifests.{found_compared, found_letter, manifest_later, met_in, met_load}
use Rattle.hg_flat.proofs.Needing.{needs_found}
use Rattle.hg_flat.proofs.Storing.{store_failed, store_whole, whole_first}
use Rattle.hg_flat.proofs.comparing.first_letter.Goals as goal

pub returns-in_err-loaded-clause-met : goal.returns-in_err-loaded-clause-met
returns-in_err-loaded-clause-met g c =
    let p = err_from_is_err_and c.from_residual.result c.from_residual.ensures.1 in
    rw (p.1, p.2)
    (λ s goes.
    met_load (upto s (g.T.Tree.history c.args.tree.now) (g.S.Shelf.history c.load.new.shelf)) c.args.path.text.now c.args.before.now c.in_err-loaded.field-0.0
    (c.in_err-loaded.ensures.found (upto s (g.T.Tree.history c.args.tree.now) (g.S.Shelf.history c.args.shelf.now)) goes.shelf goes.same))

pub returns-in_err-looked-clause-met : goal.returns-in_err-looked-clause-met
returns-in_err-looked-clause-met g c =
    let p = err_from_is_err_and c.from_residual-in_err-looked.result c.from_residual-in_err-looked.ensures.1 in
    rw (p.1, p.2)
    (λ s goes.
    let first = shelves.passes_trans s.shelf_old (g.S.Shelf.history c.args.shelf.now) (g.S.Shelf.history c.load.new.shelf) goes.shelf c.load.ensures.passes in
    met_in s (g.T.Tree.history c.letter_in.new.tree) (g.S.Shelf.history c.load.new.shelf) (g.S.Shelf.history c.letter_in.new.shelf) c.in_ok-loaded.loaded.manifest c.args.path.text.now c.args.before.now
    c.in_err-looked.field-0.0 first
    (manifest_later s (g.T.Tree.history c.args.tree.now) (g.T.Tree.history c.letter_in.new.tree) (g.S.Shelf.history c.load.new.shelf) (g.S.Shelf.history c.letter_in.new.shelf) c.in_ok-loaded.loaded.manifest first
    c.letter_in.ensures.shelf_passes
    (c.in_ok-loaded.ensures.found (upto s (g.T.Tree.history c.args.tree.now) (g.S.Shelf.history c.args.shelf.now)) goes.shelf goes.same))
    c.in_err-looked.ensures.lacks)

pub returns-clause-goes : goal.returns-clause-goes
returns-clause-goes g c = λ s goes asked.
    let copy = g.T.Tree.history c.args.tree.now in
    let later = g.T.Tree.history c.letter_in.new.tree in
    let old = g.S.Shelf.history c.args.shelf.now in
    let mid = g.S.Shelf.history c.load.new.shelf in
    let new = g.S.Shelf.history c.letter_in.new.shelf in
    let first = shelves.passes_trans s.shelf_old old mid goes.shelf c.load.ensures.passes in
    goes_loaded s copy later old new c.args.parent.now c.letter_in.new.loaded c.letter_in.ensures.tree_passes
    (shelves.passes_trans old mid new c.load.ensures.passes c.letter_in.ensures.shelf_passes)
    goes
    (subst (IsManifest (upto s later new)) (sym c.letter_in.ensures.manifest)
    (manifest_later s copy later mid new c.in_ok-loaded.loaded.manifest first c.letter_in.ensures.shelf_passes
    (c.in_ok-loaded.ensures.found (upto s copy old) goes.shelf goes.same)))
    (λ told.
    whole_first s later old mid new c.in_ok-loaded.loaded.manifest c.args.path.text.now c.args.parent.now.id c.in_ok-loaded.loaded goes.shelf c.load.ensures.passes c.letter_in.ensures.shelf_passes
    (subst (HasAsked (upto s copy old)) c.requires (goes.asked told)) goes.same (c.in_ok-loaded.ensures.asked (goes.shelf.past.told ∙ told)) asked
    (manifest_later s copy later mid new c.in_ok-loaded.loaded.manifest first c.letter_in.ensures.shelf_passes
    (c.in_ok-loaded.ensures.found (upto s copy old) goes.shelf goes.same))
    (c.letter_in.ensures.contents (c.load.ensures.passes.past.told ∙ goes.shelf.past.told ∙ told)))

pub returns-clause-found : goal.returns-clause-found
returns-clause-found g c = λ s store goes told stays keeps shown.
    let first = shelves.passes_trans s.shelf_old (g.S.Shelf.history c.args.shelf.now) (g.S.Shelf.history c.load.new.shelf) goes.shelf c.load.ensures.passes in
    found_letter store s (g.T.Tree.history c.args.tree.now) (g.T.Tree.history c.letter_in.new.tree) (g.S.Shelf.history c.load.new.shelf) (g.S.Shelf.history c.letter_in.new.shelf) c.in_ok-loaded.loaded.manifest c.args.path.text.now
    c.args.before.now (Ok c.in_ok-looked.looked) first c.letter_in.ensures.shelf_passes
    (manifest_later s (g.T.Tree.history c.args.tree.now) (g.T.Tree.history c.letter_in.new.tree) (g.S.Shelf.history c.load.new.shelf) (g.S.Shelf.history c.letter_in.new.shelf) c.in_ok-loaded.loaded.manifest first
    c.letter_in.ensures.shelf_passes
    (c.in_ok-loaded.ensures.found (upto s (g.T.Tree.history c.args.tree.now) (g.S.Shelf.history c.args.shelf.now)) goes.shelf goes.same))
    keeps (λ files held kept. c.in_ok-looked.ensures.judged files told held stays kept shown)

pub returns-clause-same : goal.returns-clause-same
returns-clause-same g c = λ s store goes keeps.
    let copy = g.T.Tree.history c.args.tree.now in
    let later = g.T.Tree.history c.letter_in.new.tree in
    let old = g.S.Shelf.history c.args.shelf.now in
    let mid = g.S.Shelf.history c.load.new.shelf in
    let new = g.S.Shelf.history c.letter_in.new.shelf in
    let first = shelves.passes_trans s.shelf_old old mid goes.shelf c.load.ensures.passes in
    found_compared store s copy later mid new c.in_ok-loaded.loaded.manifest c.args.path.text.now c.args.before.now c.in_ok-looked.looked first c.letter_in.ensures.shelf_passes
    (manifest_later s copy later mid new c.in_ok-loaded.loaded.manifest first c.letter_in.ensures.shelf_passes
    (c.in_ok-loaded.ensures.found (upto s copy old) goes.shelf goes.same))
    keeps c.in_ok-looked.ensures.compared

pub returns-in_err-looked-clause-kept : goal.returns-in_err-looked-clause-kept
returns-in_err-looked-clause-kept g c = goes_trans _ _ _ c.load.ensures.kept c.letter_in.ensures.kept

pub returns-clause-kept : goal.returns-clause-kept
returns-clause-kept g c = goes_trans _ _ _ c.load.ensures.kept c.letter_in.ensures.kept

pub returns-in_err-loaded-clause-store : goal.returns-in_err-loaded-clause-store
returns-in_err-loaded-clause-store g c =
    let p = err_from_is_err_and c.from_residual.result c.from_residual.ensures.1 in
    let copy = g.T.Tree.history c.args.tree.now in
    let old = g.S.Shelf.history c.args.shelf.now in
    let new = g.S.Shelf.history c.load.new.shelf in
    rw p.1
    (λ s goes asked told.
    store_failed (upto s copy new) old c.args.path.text.now c.args.parent.now.id c.in_err-loaded.field-0.0 goes.shelf (subst (HasAsked (upto s copy old)) c.requires (goes.asked told)) goes.same
    (c.in_err-loaded.ensures.asked (goes.shelf.past.told ∙ told)) asked)

pub returns-in_err-looked-clause-store : goal.returns-in_err-looked-clause-store
returns-in_err-looked-clause-store g c =
    let p = err_from_is_err_and c.from_residual-in_err-looked.result c.from_residual-in_err-looked.ensures.1 in
    let copy = g.T.Tree.history c.args.tree.now in
    let later = g.T.Tree.history c.letter_in.new.tree in
    let old = g.S.Shelf.history c.args.shelf.now in
    let mid = g.S.Shelf.history c.load.new.shelf in
    let new = g.S.Shelf.history c.letter_in.new.shelf in
    rw p.1
    (λ s goes asked told.
    let first = shelves.passes_trans s.shelf_old old mid goes.shelf c.load.ensures.passes in
    store_whole (upto s later new)
    (whole_first s later old mid new c.in_ok-loaded.loaded.manifest c.args.path.text.now c.args.parent.now.id c.in_ok-loaded.loaded goes.shelf c.load.ensures.passes c.letter_in.ensures.shelf_passes
    (subst (HasAsked (upto s copy old)) c.requires (goes.asked told)) goes.same (c.in_ok-loaded.ensures.asked (goes.shelf.past.told ∙ told)) asked
    (manifest_later s copy later mid new c.in_ok-loaded.loaded.manifest first c.letter_in.ensures.shelf_passes
    (c.in_ok-loaded.ensures.found (upto s copy old) goes.shelf goes.same))
    (c.letter_in.ensures.contents (c.load.ensures.passes.past.told ∙ goes.shelf.past.told ∙ told))))

pub returns-in_err-looked-clause-needed : goal.returns-in_err-looked-clause-needed
returns-in_err-looked-clause-needed g c = λ s goes.
    let copy = g.T.Tree.history c.args.tree.now in
    let later = g.T.Tree.history c.letter_in.new.tree in
    let old = g.S.Shelf.history c.args.shelf.now in
    let mid = g.S.Shelf.history c.load.new.shelf in
    let new = g.S.Shelf.history c.letter_in.new.shelf in
    let first = shelves.passes_trans s.shelf_old old mid goes.shelf c.load.ensures.passes in
    needs_found c.letter_in.new.tree c.args.tree.now s later mid new c.in_ok-loaded.loaded.manifest c.args.path.text.now c.args.before.now first
    (manifest_later s copy later mid new c.in_ok-loaded.loaded.manifest first c.letter_in.ensures.shelf_passes
    (c.in_ok-loaded.ensures.found (upto s copy old) goes.shelf goes.same))
    c.letter_in.ensures.needed

pub returns-clause-needed : goal.returns-clause-needed
returns-clause-needed g c = λ s goes.
    let copy = g.T.Tree.history c.args.tree.now in
    let later = g.T.Tree.history c.letter_in.new.tree in
    let old = g.S.Shelf.history c.args.shelf.now in
    let mid = g.S.Shelf.history c.load.new.shelf in
    let new = g.S.Shelf.history c.letter_in.new.shelf in
    let first = shelves.passes_trans s.shelf_old old mid goes.shelf c.load.ensures.passes in
    needs_found c.letter_in.new.tree c.args.tree.now s later mid new c.in_ok-loaded.loaded.manifest c.args.path.text.now c.args.before.now first
    (manifest_later s copy later mid new c.in_ok-loaded.loaded.manifest first c.letter_in.ensures.shelf_passes
    (c.in_ok-loaded.ensures.found (upto s copy old) goes.shelf goes.same))
    c.letter_in.ensures.needed

pub returns-in_err-loaded-clause-needed : goal.returns-in_err-loaded-clause-needed
returns-in_err-loaded-clause-needed g c = λ s goes. inl refl
