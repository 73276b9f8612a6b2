use Rattle.std.proofs.Common.{◌∙◌, ap, sym}
use Rattle.std.specs.Option.{option_map}
use Rattle.hg_entry.specs.Entry.{cache_view}
use Rattle.hg_nodes.specs.Times.{times_of}
use Rattle.hg_nodes.proofs.Made.{some_entries}
use Rattle.hg_nodes.proofs.Timed.{time_of}
use Rattle.hg_nodes.proofs.times.Times.get.Goals as goal

pub returns-in-Some : goal.returns-in-Some
returns-in-Some c =
    ap (option_map cache_view) (c.copied.ensures ∙ c.get.ensures.value)
    ∙ time_of c.in-Some.times c.args.self.now (ap times_of (sym (some_entries _ c.in-Some.times c.in-Some.is)) ∙ c.self.view_is) c.args.dir.now
