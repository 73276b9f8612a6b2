use Rattle.std.specs.Option.{option_map}
use Rattle.hg_nodes.proofs.Searched.{clash_above, clash_below}
use Rattle.hg_nodes.proofs.clash.near_clash.Goals as goal

pub returns-in-Some : goal.returns-in-Some
returns-in-Some c = clash_above c.args.nodes.now c.args.path.text.now c.in-Some.found.text.now c.in-Some.ensures

pub returns-in-None : goal.returns-in-None
returns-in-None c =
    clash_below c.args.nodes.now c.args.path.text.now (option_map (λ p. p.text.now) c.tracked_below.result) c.in-None.ensures c.tracked_below.ensures
