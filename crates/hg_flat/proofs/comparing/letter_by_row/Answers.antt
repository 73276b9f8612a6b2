use Rattle.hg_compare.specs.Alike.{contents_name}
use Rattle.std.proofs.Common.{refl, Some}
use Rattle.hg_flat.proofs.Deciding.{judged_in}
use Rattle.hg_flat.proofs.Needing.{needs_row}
use Rattle.hg_flat.proofs.Storing.{contents_same}
use Rattle.hg_flat.proofs.comparing.letter_by_row.Goals as goal

pub returns-in-Err-clause-contents : goal.returns-in-Err-clause-contents
returns-in-Err-clause-contents g c = λ told.
    contents_same
    (record {
      path = c.args.path.text.now;
      name = contents_name c.args.row.now.id.0;
      tree_old = g.T.Tree.history c.args.tree.now;
      tree_new = g.T.Tree.history c.same.new.tree;
      shelf_old = g.S.Shelf.history c.args.shelf.now;
      shelf_new = g.S.Shelf.history c.same.new.shelf;
    })
    c.args.row.now c.args.before.now c.same.result refl (c.same.ensures.shelf_asked told)

pub returns-in-Ok-clause-contents : goal.returns-in-Ok-clause-contents
returns-in-Ok-clause-contents g c = λ told.
    contents_same
    (record {
      path = c.args.path.text.now;
      name = contents_name c.args.row.now.id.0;
      tree_old = g.T.Tree.history c.args.tree.now;
      tree_new = g.T.Tree.history c.same.new.tree;
      shelf_old = g.S.Shelf.history c.args.shelf.now;
      shelf_new = g.S.Shelf.history c.same.new.shelf;
    })
    c.args.row.now c.args.before.now c.same.result refl (c.same.ensures.shelf_asked told)

pub returns-in-Ok-clause-judged : goal.returns-in-Ok-clause-judged
returns-in-Ok-clause-judged g c = λ files told held shown stays stat.
    judged_in files c.args.path.text.now (g.T.Tree.history c.args.tree.now) (g.T.Tree.history c.same.new.tree) (g.S.Shelf.history c.args.shelf.now) (g.S.Shelf.history c.same.new.shelf) c.args.row.now c.args.before.now
    c.in-Ok.looked c.same.ensures.tree_passes c.in-Ok.ensures.compared told held shown stays stat

pub returns-in-Err-clause-needed : goal.returns-in-Err-clause-needed
returns-in-Err-clause-needed g c =
    needs_row c.same.new.tree c.args.tree.now
    (record {
      path = c.args.path.text.now;
      name = contents_name c.args.row.now.id.0;
      tree_old = g.T.Tree.history c.args.tree.now;
      tree_new = g.T.Tree.history c.same.new.tree;
      shelf_old = g.S.Shelf.history c.args.shelf.now;
      shelf_new = g.S.Shelf.history c.same.new.shelf;
    })
    (Some c.args.row.now) c.args.row.now c.args.before.now refl refl c.same.ensures.needed

pub returns-in-Ok-clause-needed : goal.returns-in-Ok-clause-needed
returns-in-Ok-clause-needed g c =
    needs_row c.same.new.tree c.args.tree.now
    (record {
      path = c.args.path.text.now;
      name = contents_name c.args.row.now.id.0;
      tree_old = g.T.Tree.history c.args.tree.now;
      tree_new = g.T.Tree.history c.same.new.tree;
      shelf_old = g.S.Shelf.history c.args.shelf.now;
      shelf_new = g.S.Shelf.history c.same.new.shelf;
    })
    (Some c.args.row.now) c.args.row.now c.args.before.now refl refl c.same.ensures.needed
