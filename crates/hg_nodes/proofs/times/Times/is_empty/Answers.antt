use Rattle.std.proofs.Common.{◌∙◌, ap, sym}
use Rattle.hg_nodes.specs.Times.{times_of}
use Rattle.hg_nodes.proofs.Made.{some_entries}
use Rattle.hg_nodes.proofs.Timed.{none_in}
use Rattle.hg_nodes.proofs.times.Times.is_empty.Goals as goal

pub returns-in-Some : goal.returns-in-Some
returns-in-Some c = none_in c.in-Some.times.entries c.len.result c.args.self.now (ap times_of (sym (some_entries _ c.in-Some.times c.in-Some.is)) ∙ c.self.view_is) c.len.ensures.len
