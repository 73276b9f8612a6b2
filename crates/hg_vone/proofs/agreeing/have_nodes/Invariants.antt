use Rattle.std.proofs.Common.{map, drop}
use Rattle.std.specs.List.{AllByRecursion}
use Rattle.hg_image.specs.View.{rows_in}
use Rattle.hg_vone.specs.Agreeing.{HasNode}
use Rattle.hg_vone.specs.View.{item}
use Rattle.hg_vone.proofs.agreeing.have_nodes.Given as goal

-- where those that are left have nodes, all have
abbrev pub invariant-loop-one : goal.invariant-loop-one
invariant-loop-one l = AllByRecursion (HasNode (rows_in l.root)) (map item (drop l.one-index l.items)) → AllByRecursion (HasNode (rows_in l.root)) (map item l.items)
