use Rattle.hg_report.proofs.Recorded.{one_text}
use Rattle.hg_report.proofs.debug.one_debug_text.Goals as goal

pub returns : goal.returns
returns c = one_text
