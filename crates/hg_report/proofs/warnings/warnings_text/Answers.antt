use Rattle.std.proofs.Common.{[]}
use Rattle.hg_report.specs.Warnings.{warning_line}
use Rattle.hg_report.proofs.Lines.{more}
use Rattle.hg_report.proofs.warnings.warnings_text.Goals as goal

pub loop-i-preserved : goal.loop-i-preserved
loop-i-preserved c =
    more warning_line c.args.warnings.now c.loop-i.i c.at.result.now [] c.loop-i.text.items c.put_warning.new.text.items
    (rw c.len-i-end.ensures at c.loop-i-test.true) c.at.ensures c.loop-i.invariant c.in_ok-put_warning.ensures
