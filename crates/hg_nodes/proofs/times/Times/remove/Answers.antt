use Rattle.std.proofs.Common.{None, ◌∙◌, ap, sym}
use Rattle.std.proofs.lemmas.Map.Text.{btree_map_updates_text}
use Rattle.hg_nodes.specs.Times.{times_of}
use Rattle.hg_nodes.proofs.Made.{some_entries}
use Rattle.hg_nodes.proofs.Timed.{times_changed}
use Rattle.hg_nodes.proofs.times.Times.remove.Goals as goal

pub returns : goal.returns
returns c =
    times_changed c.args.dir.now None c.in-Some.times c.remove.new.self c.args.self.now (ap times_of (sym (some_entries _ c.in-Some.times c.in-Some.is)) ∙ c.self.view_is)
    (λ at. btree_map_updates_text c.args.dir.now c.in-Some.times c.remove.new.self _ c.remove.ensures.updates at)
