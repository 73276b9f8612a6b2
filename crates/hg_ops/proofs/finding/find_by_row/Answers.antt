use Rattle.std.proofs.Common.{refl}
use Rattle.hg_compare.specs.Alike.{contents_name}
use Rattle.hg_ops.proofs.AskingStore.{contents_same}
use Rattle.hg_ops.proofs.finding.find_by_row.Goals as goal

pub returns-in-Err-clause-contents : goal.returns-in-Err-clause-contents
returns-in-Err-clause-contents g c = λ told.
    contents_same
    (record {
      path = c.args.path.text.now;
      name = contents_name c.args.row.now.id.0;
      tree_old = g.T.Tree.history c.args.tree.now;
      tree_new = g.T.Tree.history c.same.new.tree;
      shelf_old = g.S.Shelf.history c.args.shelf.now;
      shelf_new = g.S.Shelf.history c.same.new.shelf;
    })
    c.args.row.now c.args.before.now c.same.result refl (c.same.ensures.shelf_asked told)

pub returns-in-Ok-clause-contents : goal.returns-in-Ok-clause-contents
returns-in-Ok-clause-contents g c = λ told.
    contents_same
    (record {
      path = c.args.path.text.now;
      name = contents_name c.args.row.now.id.0;
      tree_old = g.T.Tree.history c.args.tree.now;
      tree_new = g.T.Tree.history c.same.new.tree;
      shelf_old = g.S.Shelf.history c.args.shelf.now;
      shelf_new = g.S.Shelf.history c.same.new.shelf;
    })
    c.args.row.now c.args.before.now c.same.result refl (c.same.ensures.shelf_asked told)
