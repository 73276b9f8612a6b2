use Rattle.std.proofs.Common.{List, ℕ, ◌∙◌, subst}
use Rattle.hg_compare.specs.Alike.{contents_name}
use Rattle.hg_compare.specs.Same.{Compares}
use Rattle.hg_compare.proofs.Deciding.{decides}
use Rattle.hg_compare.proofs.Spans.{call_of}
use Rattle.hg_compare.proofs.comparing.same.Goals as goal

pub returns-clause-decided : goal.returns-clause-decided
returns-clause-decided g c = λ file told held stays file_stays stat.
    decides (call_of c.args.path.text.now (contents_name c.args.row.now.id.0) (g.T.Tree.history c.args.tree.now) (g.T.Tree.history c.compare.new.tree) (g.S.Shelf.history c.args.shelf.now) (g.S.Shelf.history c.compare.new.shelf)) c.args.row.now c.args.before.now file c.compare.result c.compare.ensures.tree_passes
    (subst (λ (name : List ℕ). Compares (call_of c.args.path.text.now name (g.T.Tree.history c.args.tree.now) (g.T.Tree.history c.compare.new.tree) (g.S.Shelf.history c.args.shelf.now) (g.S.Shelf.history c.compare.new.shelf)) c.args.row.now c.args.before.now c.compare.result) (c.as_str.ensures ∙ c.of-name.ensures) c.compare.ensures.compared) told held stays file_stays stat
