use Rattle.std.proofs.Common.{ℕ, List, ◌++◌, ap, sym, ◌∙◌}
use Rattle.hg_store.specs.Rows.{line_of, text_of}
use Rattle.hg_store.proofs.Lines.{text_more}
use Rattle.hg_store.proofs.manifest.text_of.Goals as goal

pub loop-i-init : goal.loop-i-init
unfolding text_of
loop-i-init c = c.new-text.ensures.items

pub loop-i-preserved : goal.loop-i-preserved
loop-i-preserved c = c.in_ok-put_line.ensures ∙ ap (λ (xs : List ℕ). xs ++ line_of c.at.result.now) c.loop-i.invariant ∙ sym (text_more c.args.rows.now c.loop-i.i c.at.result.now c.at.ensures)
