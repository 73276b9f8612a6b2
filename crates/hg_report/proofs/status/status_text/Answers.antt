use Rattle.std.proofs.Common.{[]}
use Rattle.hg_report.specs.Status.{row_text}
use Rattle.hg_report.proofs.Lines.{more}
use Rattle.hg_report.proofs.status.status_text.Goals as goal

pub loop-i-preserved : goal.loop-i-preserved
loop-i-preserved c =
    more (row_text c.args.style) c.args.rows.now c.loop-i.i c.at.result.now [] c.loop-i.text.items c.put_row.new.text.items
    (rw c.len-i-end.ensures at c.loop-i-test.true) c.at.ensures c.loop-i.invariant c.in_ok-put_row.ensures
