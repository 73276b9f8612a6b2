use Rattle.std.proofs.Common.{arith, rules, IsUtf8}
use Rattle.hg_syntax.proofs.Texts.{cut_length}
use Rattle.hg_include.specs.Line.{lines_of}
use Rattle.hg_include.proofs.Taken.{taken_last, taken_more}
use Rattle.hg_include.proofs.line.lines_of.Goals as goal

pub loop-line-preserved : goal.loop-line-preserved
loop-line-preserved c =
    let text : IsUtf8 c.in-Some.behind.now = search rules in
    let kept = c.loop-line.invariant in
    let shorter = cut_length 10 c.loop-line.left.now c.in-Some.line.now c.in-Some.behind.now c.in-Some.ensures.0 in
    record {
      text = text;
      all = taken_more (lines_of c.args.text.now) c.loop-line.taken.items c.take_line.new.taken.items c.loop-line.n c.loop-line.left.now c.in-Some.line.now c.in-Some.behind.now c.in-Some.ensures.0 c.in-Some.ensures.1 kept.all c.in_ok-take_line.ensures;
      far = omega (arith, shorter, kept.far);
    }

pub returns : goal.returns
returns c =
    taken_last (lines_of c.args.text.now) c.loop-line.taken.items c.take_line-2.new.taken.items c.loop-line.n c.loop-line.left.now (search rules) c.loop-line.invariant.all c.in_ok-take_line-2.ensures
