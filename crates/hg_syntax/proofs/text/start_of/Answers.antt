use Rattle.std.proofs.Common.{arith, rules}
use Rattle.std.proofs.lemmas.Str.{IsCharBoundary-start}
use Rattle.hg_syntax.proofs.Texts.{start_more}
use Rattle.hg_syntax.proofs.text.start_of.Goals as goal

pub loop-start-init : goal.loop-start-init
loop-start-init c = record { within = omega arith; rest = omega arith; cut = IsCharBoundary-start c.args.text.now c.utf8.text }

pub loop-start-preserved : goal.loop-start-preserved
loop-start-preserved c =
    let more = start_more c.args.text.now c.loop-start.start c.utf8.text (search rules) c.loop-start.invariant.rest (search rules) in
    record { within = more.within; rest = more.rest; cut = more.cut }
