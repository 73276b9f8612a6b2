use Rattle.std.proofs.Common.{refl, arith}
use Rattle.hg_store.specs.Rows.{text_of}
use Rattle.hg_store.proofs.Lines.{text_length}
use Rattle.hg_store.proofs.manifest.text_len.Goals as goal

pub loop-i-init : goal.loop-i-init
unfolding text_of
loop-i-init c = refl

pub loop-i-preserved : goal.loop-i-preserved
loop-i-preserved c =
    let more = text_length c.args.rows.now c.loop-i.i c.at.result.now c.at.ensures in
    let line = c.line_len.ensures in
    let sum = c.saturating_add-len.ensures in
    let so_far = c.loop-i.invariant in
    grind (arith, more, line, sum, so_far)
