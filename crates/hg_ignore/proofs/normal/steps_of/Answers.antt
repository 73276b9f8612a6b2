use Rattle.std.proofs.Common.{rules, IsUtf8, string_bytes}
use Rattle.hg_ignore.specs.Normal.{steps_of}
use Rattle.hg_ignore.proofs.Steps.{steps_more, steps_last}
use Rattle.hg_ignore.proofs.normal.steps_of.Goals as goal

pub loop-piece-preserved : goal.loop-piece-preserved
loop-piece-preserved c =
    let text : IsUtf8 c.in-Some.behind.now = search rules in
    (text, steps_more (string_bytes c.loop-piece.steps) _ c.loop-piece.left.now c.in-Some.piece.now c.in-Some.behind.now (steps_of c.args.text.now) c.in-Some.ensures.0 c.in-Some.ensures.1 c.in_ok-put_step.ensures c.loop-piece.invariant.1)

pub returns : goal.returns
returns c = steps_last (string_bytes c.loop-piece.steps) _ c.loop-piece.left.now (steps_of c.args.text.now) (search rules) c.in_ok-put_step-2.ensures c.loop-piece.invariant.1
