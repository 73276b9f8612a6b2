use Rattle.std.proofs.Common.{sym, subst, ◌∙◌}
use Rattle.std.proofs.lemmas.Result.{IfErr-weaker, IfOk-weaker}
use Rattle.hg_ops.specs.Finding.{FindsByRow, FindsIn, LacksIn, MetBy}
use Rattle.hg_ops.specs.Parent.{HasAsked, IsKeptManifest, IsManifest, KeepsParent, Span, upto}
use Rattle.hg_ops.specs.Parents.{row_at}
use Rattle.hg_ops.proofs.AskingStore.{keeps_loaded, store_whole, whole_more}
use Rattle.hg_ops.proofs.FoundSpans.{in_second}
use Rattle.hg_ops.proofs.ReadParent.{always, always_failed, manifest_later, met_in}
use Rattle.hg_tree.proofs.Spans as trees
use Rattle.hg_ops.proofs.finding.find_compared.Goals as goal

pub returns-in-Some-clause-goes : goal.returns-in-Some-clause-goes
returns-in-Some-clause-goes g c =
    let old = g.S.Shelf.history c.args.shelf.now in
    let new = g.S.Shelf.history c.find_in.new.shelf in
    always c.find_in.result _
    (λ s keeps.
    let read = manifest_later s old new c.in-Some.loaded.manifest keeps.passes c.find_in.ensures.shelf_passes (subst (IsKeptManifest (upto s old)) c.in-Some.is keeps.read) in
    keeps_loaded s old new c.args.parent.now c.find_in.new.loaded c.find_in.ensures.shelf_passes keeps
    (subst (IsManifest (upto s new)) (sym c.find_in.ensures.manifest) read)
    (λ told.
    whole_more s old new keeps.passes c.find_in.ensures.shelf_passes c.in-Some.loaded.manifest c.args.path.text.now read
    (subst (HasAsked (upto s old)) c.in-Some.is (keeps.asked told)) (c.find_in.ensures.contents (keeps.passes.past.told ∙ told))))

pub returns-in-Some-clause-found : goal.returns-in-Some-clause-found
returns-in-Some-clause-found g c =
    let copy = g.T.Tree.history c.args.tree.now in
    let later = g.T.Tree.history c.find_in.new.tree in
    let old = g.S.Shelf.history c.args.shelf.now in
    let new = g.S.Shelf.history c.find_in.new.shelf in
    IfOk-weaker c.find_in.result (FindsIn c.args.path.text.now copy later old new c.args.before.now (row_at c.in-Some.loaded.manifest c.args.path.text.now))
    (λ found. (s : Span) → KeepsParent (upto s old) c.args.parent.now → FindsByRow c.args.path.text.now copy later (upto s new) c.args.before.now found)
    (λ found seen s keeps. record {
      rows = c.in-Some.loaded.manifest;
      read = manifest_later s old new c.in-Some.loaded.manifest keeps.passes c.find_in.ensures.shelf_passes (subst (IsKeptManifest (upto s old)) c.in-Some.is keeps.read);
      seen =
          in_second c.args.path.text.now copy copy later s.old old new c.args.before.now (row_at c.in-Some.loaded.manifest c.args.path.text.now) found (trees.passes_same copy) c.find_in.ensures.tree_passes
          keeps.passes c.find_in.ensures.shelf_passes seen;
    })
    c.find_in.ensures.found

pub returns-in-Some-clause-met : goal.returns-in-Some-clause-met
returns-in-Some-clause-met g c =
    let old = g.S.Shelf.history c.args.shelf.now in
    let new = g.S.Shelf.history c.find_in.new.shelf in
    IfErr-weaker c.find_in.result (LacksIn old new (row_at c.in-Some.loaded.manifest c.args.path.text.now) c.args.before.now)
    (λ fault. (s : Span) → KeepsParent (upto s old) c.args.parent.now → MetBy (upto s new) c.args.path.text.now c.args.before.now fault)
    (λ fault lacks s keeps.
    met_in s old new c.in-Some.loaded.manifest c.args.path.text.now c.args.before.now fault keeps.passes
    (manifest_later s old new c.in-Some.loaded.manifest keeps.passes c.find_in.ensures.shelf_passes (subst (IsKeptManifest (upto s old)) c.in-Some.is keeps.read))
    lacks)
    c.find_in.ensures.lacks

pub returns-in-Some-clause-store : goal.returns-in-Some-clause-store
returns-in-Some-clause-store g c =
    let old = g.S.Shelf.history c.args.shelf.now in
    let new = g.S.Shelf.history c.find_in.new.shelf in
    always_failed c.find_in.result _
    (λ s keeps told.
    store_whole (upto s new)
    (whole_more s old new keeps.passes c.find_in.ensures.shelf_passes c.in-Some.loaded.manifest c.args.path.text.now
    (manifest_later s old new c.in-Some.loaded.manifest keeps.passes c.find_in.ensures.shelf_passes (subst (IsKeptManifest (upto s old)) c.in-Some.is keeps.read))
    (subst (HasAsked (upto s old)) c.in-Some.is (keeps.asked told)) (c.find_in.ensures.contents (keeps.passes.past.told ∙ told))))
