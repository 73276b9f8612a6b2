-- A map with another value at one key, or without it.
use Rattle.std.proofs.Common.{rules, sym, ap, ◌∙◌, Option}
use Rattle.std.specs.BTreeMap.{get_by_text}
use Rattle.std.specs.Map.{update}
use Rattle.std.specs.Str.{bytes_eq}
use Rattle.std.proofs.lemmas.Map.Text.{btree_map_updates_text}
use Rattle.hg_tree.specs.declared.thing.Placed.{Placed}
use Rattle.hg_tree.proofs.things.restore.Goals as goal

pub returns-in-Some-get_mut : goal.returns-in-Some-get_mut
returns-in-Some-get_mut c = λ at.
    btree_map_updates_text c.args.path.now c.args.things.now (c.get_mut.follows.lender c.in-Some.placed) _ ((c.get_mut.follows.holds c.in-Some.placed).3 (search rules)) at
    ∙ ap (λ (w : Option Placed). update bytes_eq (get_by_text c.args.things.now) c.args.path.now w at) (sym c.in-Some.is)

pub returns-in-None : goal.returns-in-None
returns-in-None c = λ at.
    btree_map_updates_text c.args.path.now c.args.things.now c.remove.new.self _ c.remove.ensures.updates at
    ∙ ap (λ (w : Option Placed). update bytes_eq (get_by_text c.args.things.now) c.args.path.now w at) (sym c.in-None.is)
