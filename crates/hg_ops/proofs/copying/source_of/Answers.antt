use Rattle.std.proofs.Common.{Some, ap, ◌∙◌, sym}
use Rattle.hg_mixed.specs.Held.{table}
use Rattle.hg_ops.proofs.Tracked.{source_copied}
use Rattle.hg_ops.proofs.copying.source_of.Goals as goal

pub returns-in_ok-source-in-Some : goal.returns-in_ok-source-in-Some
returns-in_ok-source-in-Some c =
    ap Some c.in_ok-source-in-Some.ensures
    ∙ source_copied c.args.from.text.now c.args.to.text.now (table c.args.mixed.now) c.in-Some.source.text.now _ c.in-Some.ensures c.get.ensures.item c.get.ensures.formed (sym c.eq.ensures ∙ c.if-eq.false)
