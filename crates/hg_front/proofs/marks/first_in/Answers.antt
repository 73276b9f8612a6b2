use Rattle.std.proofs.Common.{Some, sym, ap, ◌∙◌}
use Rattle.hg_words.specs.Given.{files_of}
use Rattle.hg_front.specs.Marks as marks
use Rattle.hg_front.proofs.Found.{first_found, first_on}
use Rattle.hg_front.proofs.marks.first_in.Goals as goal

pub returns-then-has : goal.returns-then-has
returns-then-has c =
    ap Some c.as_str-word.ensures
    ∙ first_found (marks.has c.args.mark) (files_of c.args.command.now) c.loop-i.i c.file.result.now (rw c.files-i-end.ensures at c.loop-i-test.true) c.file.ensures _ c.loop-i.invariant
    (ap (marks.has c.args.mark) (sym c.as_str-word.ensures) ∙ sym c.has.ensures ∙ c.if-has.true)

pub loop-i-preserved : goal.loop-i-preserved
loop-i-preserved c =
    first_on (marks.has c.args.mark) (files_of c.args.command.now) c.loop-i.i c.file.result.now (rw c.files-i-end.ensures at c.loop-i-test.true) c.file.ensures _ c.loop-i.invariant
    (ap (marks.has c.args.mark) (sym c.as_str-word.ensures) ∙ sym c.has.ensures ∙ c.if-has.false)
