use Rattle.std.proofs.Common.{rules, sym, ◌∙◌}
use Rattle.hg_ops.proofs.Pieces.{file_kind, link_kind, putting_end, putting_failed, putting_link, putting_over, putting_rest}
use Rattle.hg_ops.proofs.putting.put_bytes.Goals as goal

pub returns-in-Err-clause-put : goal.returns-in-Err-clause-put
returns-in-Err-clause-put g c =
    putting_failed c.args.from.text.now c.args.to.text.now c.args.stat.now (g.T.Tree.history c.args.tree.now) (g.T.Tree.history c.put_piece.new.tree) _ (search rules) c.put_piece.ensures.past c.put_piece.ensures.asked c.put_piece.ensures.only c.in-Err.fault c.in-Err.ensures.kind c.in-Err.ensures.failed

pub returns-in-Ok-Over-clause-put : goal.returns-in-Ok-Over-clause-put
returns-in-Ok-Over-clause-put g c =
    putting_over c.args.from.text.now c.args.to.text.now c.args.stat.now (g.T.Tree.history c.args.tree.now) (g.T.Tree.history c.put_piece.new.tree) _ (search rules) c.put_piece.ensures.past c.put_piece.ensures.asked c.put_piece.ensures.only c.in-Ok-Over.field-0 c.in-Ok-Over.ensures.found
    (λ ours bytes read fits can. c.in-Ok-Over.ensures.whole ours bytes read fits can) c.in-Ok-Over.refusal c.in-Ok-Over.field-0-is

pub returns-in-Ok-End-clause-put : goal.returns-in-Ok-End-clause-put
returns-in-Ok-End-clause-put g c =
    putting_end c.args.from.text.now c.args.to.text.now c.args.stat.now (g.T.Tree.history c.args.tree.now) (g.T.Tree.history c.put_piece.new.tree) _ (search rules) c.put_piece.ensures.past c.put_piece.ensures.asked c.put_piece.ensures.only c.in-Ok-End.field-0 c.in-Ok-End.ensures.found
    (λ ours bytes read fits can. c.in-Ok-End.ensures.whole ours bytes read fits can) c.in-Ok-End.field-0-is

pub returns-then-is_link-clause-put : goal.returns-then-is_link-clause-put
returns-then-is_link-clause-put g c =
    putting_link c.args.from.text.now c.args.to.text.now c.args.stat.now (g.T.Tree.history c.args.tree.now) (g.T.Tree.history c.put_piece.new.tree) _ (search rules) c.put_piece.ensures.past c.put_piece.ensures.asked c.put_piece.ensures.only c.in-Ok-More.field-0 c.in-Ok-More.ensures.found
    (λ ours bytes read fits can. c.in-Ok-More.ensures.whole ours bytes read fits can) c.in-Ok-More.field-0-is (link_kind c.args.stat.now.kind (sym c.is_link.ensures ∙ c.if-is_link.true))

pub returns-else-is_link-clause-put : goal.returns-else-is_link-clause-put
returns-else-is_link-clause-put g c =
    putting_rest c.args.from.text.now c.args.to.text.now c.args.stat.now (g.T.Tree.history c.args.tree.now) (g.T.Tree.history c.put_piece.new.tree) _ (search rules) c.put_piece.ensures.past c.put_piece.ensures.asked c.put_piece.ensures.only c.in-Ok-More.field-0 c.in-Ok-More.ensures.found
    (λ ours bytes read fits can. c.in-Ok-More.ensures.whole ours bytes read fits can) c.in-Ok-More.field-0-is (g.T.Tree.history c.put_rest.new.tree) c.put_rest.ensures.past c.min-width.result (search rules)
    c.put_rest.ensures.asked c.put_rest.ensures.only (file_kind c.args.stat.now.kind c.requires.puttable (sym c.is_link.ensures ∙ c.if-is_link.false)) c.put_rest.result c.put_rest.ensures.puts
    c.put_rest.ensures.whole
