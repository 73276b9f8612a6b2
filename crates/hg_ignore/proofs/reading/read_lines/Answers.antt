use Rattle.std.proofs.Common.{◌∙◌, arith, refl, rules, IsUtf8}
use Rattle.std.proofs.lemmas.Result.{err_from_is_err_and}
use Rattle.hg_ignore.specs.Line.{lines_of}
use Rattle.hg_syntax.proofs.Texts.{cut_length}
use Rattle.hg_ignore.proofs.Lines.{read_first, taken_more, caused_more, taken_last, caused_last}
use Rattle.hg_ignore.proofs.reading.read_lines.Goals as goal

pub returns-in_err-take-clause-cause : goal.returns-in_err-take-clause-cause
returns-in_err-take-clause-cause g c =
    let p = err_from_is_err_and c.from_residual.result c.from_residual.ensures.1 in
    rw (p.1, p.2) (caused_more (lines_of c.args.text.now) c.loop-line.n c.loop-line.left.now c.in-Some.line.now c.in-Some.behind.now c.loop-line.reading _ c.in-Some.ensures.0 c.in-Some.ensures.1 c.loop-line.invariant.reaches c.in_err-take.ensures.cause)

pub loop-line-preserved : goal.loop-line-preserved
loop-line-preserved g c =
    let text : IsUtf8 c.in-Some.behind.now = search rules in
    let kept = c.loop-line.invariant in
    let shorter = cut_length 10 c.loop-line.left.now c.in-Some.line.now c.in-Some.behind.now c.in-Some.ensures.0 in
    record {
      text = text;
      reaches = taken_more (lines_of c.args.text.now) c.loop-line.n c.loop-line.left.now c.in-Some.line.now c.in-Some.behind.now c.loop-line.reading c.take.new.self c.in-Some.ensures.0 c.in-Some.ensures.1 kept.reaches c.in_ok-take.ensures.taken;
      far = omega (arith, shorter, kept.far);
      quiet = c.in_ok-take.ensures.counted ∙ kept.quiet;
    }

pub returns-in_err-take-2-clause-cause : goal.returns-in_err-take-2-clause-cause
returns-in_err-take-2-clause-cause g c =
    let p = err_from_is_err_and c.from_residual-in_err-take-2.result c.from_residual-in_err-take-2.ensures.1 in
    rw (p.1, p.2) (caused_last (lines_of c.args.text.now) c.loop-line.n c.loop-line.left.now c.loop-line.reading _ (search rules) c.loop-line.invariant.reaches c.in_err-take-2.ensures.cause)

pub returns-clause-read : goal.returns-clause-read
returns-clause-read g c = taken_last (lines_of c.args.text.now) c.loop-line.n c.loop-line.left.now c.loop-line.reading c.take-2.new.self (search rules) c.loop-line.invariant.reaches c.in_ok-take-2.ensures.taken

pub loop-line-init : goal.loop-line-init
loop-line-init g c = record {
  text = c.utf8.text;
  reaches = read_first c.args.text.now 1 c.new-reading.result refl c.new-reading.ensures.syntax c.new-reading.ensures.globs c.new-reading.ensures.regexes c.new-reading.ensures.warnings;
  far = omega arith;
  quiet = refl;
}
