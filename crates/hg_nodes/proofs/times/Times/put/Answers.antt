use Rattle.std.proofs.Common.{Some, ◌∙◌, ap, sym, List, ℕ}
use Rattle.std.specs.BTreeMap.{get_by_text}
use Rattle.std.specs.Map.{update}
use Rattle.std.specs.Str.{bytes_eq}
use Rattle.std.specs.String.{string_bytes}
use Rattle.std.proofs.lemmas.Map.Text.{btree_map_updates_text}
use Rattle.hg_nodes.specs.Times.{times_of}
use Rattle.hg_nodes.proofs.Made.{made_entries}
use Rattle.hg_nodes.proofs.Timed.{times_changed}
use Rattle.hg_nodes.proofs.times.Times.put.Goals as goal

pub returns-clause-ok : goal.returns-clause-ok
returns-clause-ok c =
    let are = made_entries c.self.inside.times c.new.result c.get_or_insert-times.result.now c.new.ensures.empty c.get_or_insert-times.ensures.value in
    times_changed c.args.dir.now (Some c.args.time) c.get_or_insert-times.result.now c.insert.new.self c.args.self.now (ap times_of (sym are) ∙ c.self.view_is)
    (λ at.
    btree_map_updates_text (string_bytes c.in_ok-dir.dir) c.get_or_insert-times.result.now c.insert.new.self _ c.in_ok-insert.ensures.updates at
    ∙ ap (λ (d : List ℕ). update bytes_eq (get_by_text c.get_or_insert-times.result.now) d (Some c.args.time) at) c.in_ok-dir.ensures.ok)
