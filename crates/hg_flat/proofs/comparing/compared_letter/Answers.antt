use Rattle.std.proofs.Common.{Some, sym, subst, ◌≡◌, ◌∙◌}
use Rattle.std.specs.Prelude.{IsTrue}
use Rattle.std.proofs.lemmas.Result.{IfErr-weaker, IfOk-weaker}
use Rattle.hg_compare.specs.Same.{StaysShown}
use Rattle.hg_shelf.specs.History as shelf
use Rattle.hg_tree.specs.History as tree
use Rattle.hg_tree.specs.Moment.{stat_at}
use Rattle.hg_flat.specs.Course.{Proceeds, ComparesFound, HasAsked, IsComparedBy, IsFound, IsKeptManifest, IsManifest, LacksIn, MetBy, letter_of, upto}
use Rattle.hg_flat.specs.Met.{Status}
use Rattle.hg_flat.specs.Parent.{KeepsRow, row_of}
use Rattle.hg_flat.proofs.Manifests.{always, always_failed, found_compared, found_letter, manifest_later, met_in, ok_each}
use Rattle.hg_flat.proofs.Going.{goes_loaded}
use Rattle.hg_flat.proofs.Needing.{needs_found}
use Rattle.hg_flat.proofs.Storing.{store_whole, whole_more}
use Rattle.hg_flat.proofs.comparing.compared_letter.Goals as goal

pub returns-in-Some-clause-goes : goal.returns-in-Some-clause-goes
returns-in-Some-clause-goes g c =
    let copy = g.T.Tree.history c.args.tree.now in
    let later = g.T.Tree.history c.letter_in.new.tree in
    let old = g.S.Shelf.history c.args.shelf.now in
    let new = g.S.Shelf.history c.letter_in.new.shelf in
    always c.letter_in.result _
    (λ s goes asked.
    goes_loaded s copy later old new c.args.parent.now c.letter_in.new.loaded c.letter_in.ensures.tree_passes c.letter_in.ensures.shelf_passes goes
    (subst (IsManifest (upto s later new)) (sym c.letter_in.ensures.manifest)
    (manifest_later s copy later old new c.in-Some.loaded.manifest goes.shelf c.letter_in.ensures.shelf_passes
    (subst (IsKeptManifest (upto s copy old)) c.in-Some.is goes.read)))
    (λ told.
    whole_more s copy later old new goes.tree.past c.letter_in.ensures.tree_passes.past goes.shelf c.letter_in.ensures.shelf_passes c.in-Some.loaded.manifest c.args.path.text.now asked
    (manifest_later s copy later old new c.in-Some.loaded.manifest goes.shelf c.letter_in.ensures.shelf_passes
    (subst (IsKeptManifest (upto s copy old)) c.in-Some.is goes.read))
    (subst (HasAsked (upto s copy old)) c.in-Some.is (goes.asked told)) (c.letter_in.ensures.contents (goes.shelf.past.told ∙ told))))

pub returns-in-Some-clause-found : goal.returns-in-Some-clause-found
returns-in-Some-clause-found g c =
    ok_each c.letter_in.result (λ s store. Proceeds (upto s (g.T.Tree.history c.args.tree.now) (g.S.Shelf.history c.args.shelf.now)) c.args.parent.now)
    (λ s store. IsTrue (g.T.Tree.history c.args.tree.now).told)
    (λ s store. StaysShown (g.T.Tree.history c.args.tree.now) (g.T.Tree.history c.letter_in.new.tree) c.args.path.text.now)
    (λ s store. KeepsRow store (g.S.Shelf.history c.letter_in.new.shelf) s.shelf_old.last s.id c.args.path.text.now)
    (λ s store. stat_at (tree.now (g.T.Tree.history c.args.tree.now)) c.args.path.text.now ≡ Some c.args.before.now)
    (λ s store looked. IsFound store s.id (tree.now (g.T.Tree.history c.args.tree.now)) c.args.path.text.now (letter_of looked))
    (λ s store goes told stays keeps shown.
    found_letter store s (g.T.Tree.history c.args.tree.now) (g.T.Tree.history c.letter_in.new.tree) (g.S.Shelf.history c.args.shelf.now) (g.S.Shelf.history c.letter_in.new.shelf) c.in-Some.loaded.manifest c.args.path.text.now
    c.args.before.now c.letter_in.result goes.shelf c.letter_in.ensures.shelf_passes
    (manifest_later s (g.T.Tree.history c.args.tree.now) (g.T.Tree.history c.letter_in.new.tree) (g.S.Shelf.history c.args.shelf.now) (g.S.Shelf.history c.letter_in.new.shelf) c.in-Some.loaded.manifest goes.shelf
    c.letter_in.ensures.shelf_passes
    (subst (IsKeptManifest (upto s (g.T.Tree.history c.args.tree.now) (g.S.Shelf.history c.args.shelf.now))) c.in-Some.is goes.read))
    keeps (λ files held kept. c.letter_in.ensures.judged files told held stays kept shown))

pub returns-in-Some-clause-same : goal.returns-in-Some-clause-same
returns-in-Some-clause-same g c =
    let copy = g.T.Tree.history c.args.tree.now in
    let later = g.T.Tree.history c.letter_in.new.tree in
    let old = g.S.Shelf.history c.args.shelf.now in
    let new = g.S.Shelf.history c.letter_in.new.shelf in
    IfOk-weaker c.letter_in.result (ComparesFound c.args.path.text.now copy later old new (row_of c.in-Some.loaded.manifest c.args.path.text.now) c.args.before.now)
    (λ looked. (s : Status) (store : shelf.Files) → Proceeds (upto s copy old) c.args.parent.now → KeepsRow store new s.shelf_old.last s.id c.args.path.text.now
    → IsComparedBy store (upto s later new) copy c.args.path.text.now c.args.before.now looked)
    (λ looked compared s store goes keeps.
    found_compared store s copy later old new c.in-Some.loaded.manifest c.args.path.text.now c.args.before.now looked goes.shelf c.letter_in.ensures.shelf_passes
    (manifest_later s copy later old new c.in-Some.loaded.manifest goes.shelf c.letter_in.ensures.shelf_passes
    (subst (IsKeptManifest (upto s copy old)) c.in-Some.is goes.read))
    keeps compared)
    c.letter_in.ensures.compared

pub returns-in-Some-clause-met : goal.returns-in-Some-clause-met
returns-in-Some-clause-met g c =
    IfErr-weaker c.letter_in.result (LacksIn (g.S.Shelf.history c.args.shelf.now) (g.S.Shelf.history c.letter_in.new.shelf) (row_of c.in-Some.loaded.manifest c.args.path.text.now) c.args.before.now)
    (λ fault. (s : Status) → Proceeds (upto s (g.T.Tree.history c.args.tree.now) (g.S.Shelf.history c.args.shelf.now)) c.args.parent.now
    → MetBy (upto s (g.T.Tree.history c.letter_in.new.tree) (g.S.Shelf.history c.letter_in.new.shelf)) c.args.path.text.now c.args.before.now fault)
    (λ fault lacks s goes.
    met_in s (g.T.Tree.history c.letter_in.new.tree) (g.S.Shelf.history c.args.shelf.now) (g.S.Shelf.history c.letter_in.new.shelf) c.in-Some.loaded.manifest c.args.path.text.now c.args.before.now fault goes.shelf
    (manifest_later s (g.T.Tree.history c.args.tree.now) (g.T.Tree.history c.letter_in.new.tree) (g.S.Shelf.history c.args.shelf.now) (g.S.Shelf.history c.letter_in.new.shelf) c.in-Some.loaded.manifest goes.shelf
    c.letter_in.ensures.shelf_passes
    (subst (IsKeptManifest (upto s (g.T.Tree.history c.args.tree.now) (g.S.Shelf.history c.args.shelf.now))) c.in-Some.is goes.read))
    lacks)
    c.letter_in.ensures.lacks

pub returns-in-Some-clause-store : goal.returns-in-Some-clause-store
returns-in-Some-clause-store g c =
    let copy = g.T.Tree.history c.args.tree.now in
    let later = g.T.Tree.history c.letter_in.new.tree in
    let old = g.S.Shelf.history c.args.shelf.now in
    let new = g.S.Shelf.history c.letter_in.new.shelf in
    always_failed c.letter_in.result _
    (λ s goes asked told.
    store_whole (upto s later new)
    (whole_more s copy later old new goes.tree.past c.letter_in.ensures.tree_passes.past goes.shelf c.letter_in.ensures.shelf_passes c.in-Some.loaded.manifest c.args.path.text.now asked
    (manifest_later s copy later old new c.in-Some.loaded.manifest goes.shelf c.letter_in.ensures.shelf_passes
    (subst (IsKeptManifest (upto s copy old)) c.in-Some.is goes.read))
    (subst (HasAsked (upto s copy old)) c.in-Some.is (goes.asked told)) (c.letter_in.ensures.contents (goes.shelf.past.told ∙ told))))

pub returns-in-Some-clause-needed : goal.returns-in-Some-clause-needed
returns-in-Some-clause-needed g c = λ s goes.
    let copy = g.T.Tree.history c.args.tree.now in
    let later = g.T.Tree.history c.letter_in.new.tree in
    let old = g.S.Shelf.history c.args.shelf.now in
    let new = g.S.Shelf.history c.letter_in.new.shelf in
    needs_found c.letter_in.new.tree c.args.tree.now s later old new c.in-Some.loaded.manifest c.args.path.text.now c.args.before.now goes.shelf
    (manifest_later s copy later old new c.in-Some.loaded.manifest goes.shelf c.letter_in.ensures.shelf_passes
    (subst (IsKeptManifest (upto s copy old)) c.in-Some.is goes.read))
    c.letter_in.ensures.needed
