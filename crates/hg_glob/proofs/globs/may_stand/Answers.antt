use Rattle.std.proofs.lemmas.Bool.{both_ways}
use Rattle.hg_glob.proofs.Together.{line_past, line_none}
use Rattle.hg_glob.proofs.globs.may_stand.Goals as goal

pub loop-line-preserved : goal.loop-line-preserved
loop-line-preserved c =
    line_past c.args.lines.now c.args.path.now c.loop-line.line-index c.line-item.result c.loop-line-test.true c.line-item.is (λ s. both_ways c.may_match_end.result c.if-may_match_end.false (c.may_match_end.ensures c.line-item.result.rooted s)) c.loop-line.invariant

pub returns : goal.returns
returns c = λ s. absurd (line_none c.args.lines.now c.args.path.now c.loop-line.line-index c.loop-line-test.false c.loop-line.invariant s)
