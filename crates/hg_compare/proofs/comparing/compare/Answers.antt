use Rattle.std.proofs.Common.{◌≡◌, ℕ, List, Option, Some, inr, ◌∙◌}
use Rattle.hg_shelf.proofs.Histories as shelves
use Rattle.hg_shelf.proofs.Scenes.{goes_trans}
use Rattle.hg_shelf.specs.Reads.{size_of}
use Rattle.hg_tree.proofs.Spans as trees
use Rattle.hg_compare.proofs.Asking.{asks_bytes, asks_failing, asks_size}
use Rattle.hg_compare.proofs.Answering.{compares_end, compares_last, compares_met, compares_size}
use Rattle.hg_compare.proofs.Spans.{bytes_first, bytes_second, ends_second, held_first, parts_of}
use Rattle.hg_compare.proofs.comparing.compare.Goals as goal

pub returns-in-Err-clause-compared : goal.returns-in-Err-clause-compared
returns-in-Err-clause-compared g c = compares_met (record { path = c.args.path.text.now; name = c.args.name.now; tree_old = g.T.Tree.history c.args.tree.now; tree_new = g.T.Tree.history c.args.tree.now; shelf_old = g.S.Shelf.history c.args.shelf.now; shelf_new = g.S.Shelf.history c.has_size.new.shelf }) c.args.row.now c.args.before.now c.in-Err.fault c.requires.alike (c.in-Err.ensures.found c.args.path.text.now (g.T.Tree.history c.args.tree.now))

pub returns-in-Ok-false-clause-compared : goal.returns-in-Ok-false-clause-compared
returns-in-Ok-false-clause-compared g c = compares_size (record { path = c.args.path.text.now; name = c.args.name.now; tree_old = g.T.Tree.history c.args.tree.now; tree_new = g.T.Tree.history c.args.tree.now; shelf_old = g.S.Shelf.history c.args.shelf.now; shelf_new = g.S.Shelf.history c.has_size.new.shelf }) c.args.row.now c.args.before.now c.requires.alike (rw c.in-Ok-false.field-0-test at (c.in-Ok-false.ensures.found c.args.path.text.now (g.T.Tree.history c.args.tree.now)))

pub returns-in-Ok-Some-clause-compared : goal.returns-in-Ok-Some-clause-compared
returns-in-Ok-Some-clause-compared g c =
    compares_end _ c.args.row.now c.args.before.now c.in-Ok-Some.looked c.requires.alike (ends_second (parts_of c.args.path.text.now c.args.name.now _ _ _ _ _ _ (trees.passes_same (g.T.Tree.history c.args.tree.now)) c.same_bytes.ensures.tree_passes c.has_size.ensures.passes c.same_bytes.ensures.shelf_passes) c.in-Ok-Some.looked (rw c.in-Ok-Some.field-0-is at c.in-Ok-Some.ensures.found))

pub returns-in-Ok-None-clause-compared : goal.returns-in-Ok-None-clause-compared
returns-in-Ok-None-clause-compared g c =
    compares_last _ c.args.row.now c.args.before.now c.look_again.result (trees.passes_trans _ _ _ c.same_bytes.ensures.tree_passes c.look_again.ensures.passes) c.requires.alike
    (record {
      size =
          held_first (parts_of c.args.path.text.now c.args.name.now _ _ _ _ _ _ c.same_bytes.ensures.tree_passes c.look_again.ensures.passes (shelves.passes_trans _ _ _ c.has_size.ensures.passes c.same_bytes.ensures.shelf_passes) (shelves.passes_same (g.S.Shelf.history c.same_bytes.new.shelf))) (λ (file : Option (List ℕ)). size_of file ≡ Some c.args.before.now.size)
          (held_first (parts_of c.args.path.text.now c.args.name.now _ _ _ _ _ _ (trees.passes_same (g.T.Tree.history c.args.tree.now)) c.same_bytes.ensures.tree_passes c.has_size.ensures.passes c.same_bytes.ensures.shelf_passes) (λ (file : Option (List ℕ)). size_of file ≡ Some c.args.before.now.size) (rw c.in-Ok-true.field-0-test at (c.in-Ok-true.ensures.found c.args.path.text.now (g.T.Tree.history c.args.tree.now))));
      bytes = bytes_first (parts_of c.args.path.text.now c.args.name.now _ _ _ _ _ _ c.same_bytes.ensures.tree_passes c.look_again.ensures.passes (shelves.passes_trans _ _ _ c.has_size.ensures.passes c.same_bytes.ensures.shelf_passes) (shelves.passes_same (g.S.Shelf.history c.same_bytes.new.shelf))) c.args.before.now.size (bytes_second (parts_of c.args.path.text.now c.args.name.now _ _ _ _ _ _ (trees.passes_same (g.T.Tree.history c.args.tree.now)) c.same_bytes.ensures.tree_passes c.has_size.ensures.passes c.same_bytes.ensures.shelf_passes) c.args.before.now.size (rw c.in-Ok-None.field-0-is at c.in-Ok-None.ensures.found));
    })
    c.look_again.ensures.found

pub returns-in-Err-same_bytes-clause-kept : goal.returns-in-Err-same_bytes-clause-kept
returns-in-Err-same_bytes-clause-kept g c = goes_trans _ _ _ c.has_size.ensures.kept c.same_bytes.ensures.kept

pub returns-in-Err-same_bytes-clause-needed : goal.returns-in-Err-same_bytes-clause-needed
returns-in-Err-same_bytes-clause-needed g c = inr (held_first (parts_of c.args.path.text.now c.args.name.now _ _ _ _ _ _ (trees.passes_same (g.T.Tree.history c.args.tree.now)) c.same_bytes.ensures.tree_passes c.has_size.ensures.passes c.same_bytes.ensures.shelf_passes) (λ (file : Option (List ℕ)). size_of file ≡ Some c.args.before.now.size) (rw c.in-Ok-true.field-0-test at (c.in-Ok-true.ensures.found c.args.path.text.now (g.T.Tree.history c.args.tree.now))))

pub returns-in-Ok-Some-clause-kept : goal.returns-in-Ok-Some-clause-kept
returns-in-Ok-Some-clause-kept g c = goes_trans _ _ _ c.has_size.ensures.kept c.same_bytes.ensures.kept

pub returns-in-Ok-Some-clause-needed : goal.returns-in-Ok-Some-clause-needed
returns-in-Ok-Some-clause-needed g c = inr (held_first (parts_of c.args.path.text.now c.args.name.now _ _ _ _ _ _ (trees.passes_same (g.T.Tree.history c.args.tree.now)) c.same_bytes.ensures.tree_passes c.has_size.ensures.passes c.same_bytes.ensures.shelf_passes) (λ (file : Option (List ℕ)). size_of file ≡ Some c.args.before.now.size) (rw c.in-Ok-true.field-0-test at (c.in-Ok-true.ensures.found c.args.path.text.now (g.T.Tree.history c.args.tree.now))))

pub returns-in-Ok-None-clause-kept : goal.returns-in-Ok-None-clause-kept
returns-in-Ok-None-clause-kept g c = goes_trans _ _ _ c.has_size.ensures.kept c.same_bytes.ensures.kept

pub returns-in-Ok-None-clause-needed : goal.returns-in-Ok-None-clause-needed
returns-in-Ok-None-clause-needed g c = inr (held_first (parts_of c.args.path.text.now c.args.name.now _ _ _ _ _ _ (trees.passes_same (g.T.Tree.history c.args.tree.now)) c.same_bytes.ensures.tree_passes c.has_size.ensures.passes c.same_bytes.ensures.shelf_passes) (λ (file : Option (List ℕ)). size_of file ≡ Some c.args.before.now.size) (rw c.in-Ok-true.field-0-test at (c.in-Ok-true.ensures.found c.args.path.text.now (g.T.Tree.history c.args.tree.now))))

pub returns-in-Err-clause-shelf_asked : goal.returns-in-Err-clause-shelf_asked
returns-in-Err-clause-shelf_asked g c = λ told. asks_failing (record { path = c.args.path.text.now; name = c.args.name.now; tree_old = g.T.Tree.history c.args.tree.now; tree_new = g.T.Tree.history c.args.tree.now; shelf_old = g.S.Shelf.history c.args.shelf.now; shelf_new = g.S.Shelf.history c.has_size.new.shelf }) c.args.before.now.size c.has_size.result c.in-Err.fault c.in-Err.is (c.has_size.ensures.asked told)

pub returns-in-Ok-false-clause-shelf_asked : goal.returns-in-Ok-false-clause-shelf_asked
returns-in-Ok-false-clause-shelf_asked g c = λ told. asks_size (record { path = c.args.path.text.now; name = c.args.name.now; tree_old = g.T.Tree.history c.args.tree.now; tree_new = g.T.Tree.history c.args.tree.now; shelf_old = g.S.Shelf.history c.args.shelf.now; shelf_new = g.S.Shelf.history c.has_size.new.shelf }) c.args.before.now.size c.has_size.result _ _ c.in-Ok-false.is (c.has_size.ensures.asked told)

pub returns-in-Err-same_bytes-clause-shelf_asked : goal.returns-in-Err-same_bytes-clause-shelf_asked
returns-in-Err-same_bytes-clause-shelf_asked g c = λ told.
    asks_bytes (record { path = c.args.path.text.now; name = c.args.name.now; tree_old = g.T.Tree.history c.args.tree.now; tree_new = g.T.Tree.history c.same_bytes.new.tree; shelf_old = g.S.Shelf.history c.args.shelf.now; shelf_new = g.S.Shelf.history c.same_bytes.new.shelf }) (g.S.Shelf.history c.has_size.new.shelf) c.args.before.now.size c.has_size.result _ _ c.in-Ok-true.is (c.has_size.ensures.asked told)
    (held_first (parts_of c.args.path.text.now c.args.name.now _ _ _ _ _ _ (trees.passes_same (g.T.Tree.history c.args.tree.now)) c.same_bytes.ensures.tree_passes c.has_size.ensures.passes c.same_bytes.ensures.shelf_passes) (λ (file : Option (List ℕ)). size_of file ≡ Some c.args.before.now.size) (rw c.in-Ok-true.field-0-test at (c.in-Ok-true.ensures.found c.args.path.text.now (g.T.Tree.history c.args.tree.now))))
    (c.same_bytes.ensures.shelf_asked (c.has_size.ensures.passes.past.told ∙ told))

pub returns-in-Ok-Some-clause-shelf_asked : goal.returns-in-Ok-Some-clause-shelf_asked
returns-in-Ok-Some-clause-shelf_asked g c = λ told.
    asks_bytes (record { path = c.args.path.text.now; name = c.args.name.now; tree_old = g.T.Tree.history c.args.tree.now; tree_new = g.T.Tree.history c.same_bytes.new.tree; shelf_old = g.S.Shelf.history c.args.shelf.now; shelf_new = g.S.Shelf.history c.same_bytes.new.shelf }) (g.S.Shelf.history c.has_size.new.shelf) c.args.before.now.size c.has_size.result _ _ c.in-Ok-true.is (c.has_size.ensures.asked told)
    (held_first (parts_of c.args.path.text.now c.args.name.now _ _ _ _ _ _ (trees.passes_same (g.T.Tree.history c.args.tree.now)) c.same_bytes.ensures.tree_passes c.has_size.ensures.passes c.same_bytes.ensures.shelf_passes) (λ (file : Option (List ℕ)). size_of file ≡ Some c.args.before.now.size) (rw c.in-Ok-true.field-0-test at (c.in-Ok-true.ensures.found c.args.path.text.now (g.T.Tree.history c.args.tree.now))))
    (c.same_bytes.ensures.shelf_asked (c.has_size.ensures.passes.past.told ∙ told))

pub returns-in-Ok-None-clause-shelf_asked : goal.returns-in-Ok-None-clause-shelf_asked
returns-in-Ok-None-clause-shelf_asked g c = λ told.
    asks_bytes (record { path = c.args.path.text.now; name = c.args.name.now; tree_old = g.T.Tree.history c.args.tree.now; tree_new = g.T.Tree.history c.look_again.new.tree; shelf_old = g.S.Shelf.history c.args.shelf.now; shelf_new = g.S.Shelf.history c.same_bytes.new.shelf }) (g.S.Shelf.history c.has_size.new.shelf) c.args.before.now.size c.has_size.result _ _ c.in-Ok-true.is (c.has_size.ensures.asked told)
    (held_first (parts_of c.args.path.text.now c.args.name.now _ _ _ _ _ _ (trees.passes_same (g.T.Tree.history c.args.tree.now)) c.same_bytes.ensures.tree_passes c.has_size.ensures.passes c.same_bytes.ensures.shelf_passes) (λ (file : Option (List ℕ)). size_of file ≡ Some c.args.before.now.size) (rw c.in-Ok-true.field-0-test at (c.in-Ok-true.ensures.found c.args.path.text.now (g.T.Tree.history c.args.tree.now))))
    (c.same_bytes.ensures.shelf_asked (c.has_size.ensures.passes.past.told ∙ told))
