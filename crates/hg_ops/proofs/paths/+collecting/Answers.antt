use Rattle.std.proofs.Common.{◌<◌, ◌≤◌, length, arith}
use Rattle.std.specs.Option.{option_map}
use Rattle.hg_base.specs.declared.path.PathRef.{PathRef}
use Rattle.hg_nodes.specs.Lists.{or_root}
use Rattle.hg_ops.specs.Collected.{path_of}
use Rattle.hg_ops.proofs.Collecting.{below_none, child_is, child_longer, child_short, left_done, left_first, left_more}
use Rattle.hg_ops.proofs.paths.+collecting.Goals as goal

pub add_below-returns-then-not-child : goal.add_below-returns-then-not-child
add_below-returns-then-not-child t c = below_none c.args.mixed.now c.requires.formed c.args.child.now c.args.paths.now.items c.requires.child c.if-not-child.true

pub add_below-add_children-requires : goal.add_below-add_children-requires
add_below-add_children-requires t c = (omega (arith, c.decreases), c.requires.formed)

pub add_children-loop-child-init : goal.add_children-loop-child-init
add_children-loop-child-init t c =
    left_first c.args.mixed.now c.requires (option_map (λ d. d.text.now) c.args.dir) c.children-children.result c.args.paths.now.items c.children-children.ensures

pub add_children-add_below-requires : goal.add_children-add_below-requires
add_children-add_below-requires t c =
    let dir = option_map (λ (d : PathRef). d.text.now) c.args.dir in
    let longer : length (or_root dir) < length (path_of c.in-Some.child) =
    child_longer c.args.mixed.now c.requires dir c.in-Some.child c.loop-child.children c.next.new.self c.in-Some.ensures c.args.paths.now.items c.loop-child.paths.items c.loop-child.invariant in
    let short : length (path_of c.in-Some.child) ≤ 65535 =
    child_short c.args.mixed.now c.requires dir c.in-Some.child c.loop-child.children c.next.new.self c.in-Some.ensures c.args.paths.now.items c.loop-child.paths.items c.loop-child.invariant in (
      omega (arith, c.decreases, longer, short),
      (
        c.requires,
        child_is c.args.mixed.now c.requires dir c.in-Some.child c.loop-child.children c.next.new.self c.in-Some.ensures c.args.paths.now.items c.loop-child.paths.items c.loop-child.invariant,
      ),
    )

pub add_children-loop-child-preserved : goal.add_children-loop-child-preserved
add_children-loop-child-preserved t c =
    left_more c.args.mixed.now c.requires (option_map (λ d. d.text.now) c.args.dir) c.in-Some.child c.loop-child.children c.next.new.self c.in-Some.ensures c.args.paths.now.items c.loop-child.paths.items c.loop-child.invariant
    c.add_own.new.paths.items c.add_below.new.paths.items c.in_ok-add_own.ensures c.in_ok-add_below.ensures

pub add_children-returns : goal.add_children-returns
add_children-returns t c =
    left_done c.args.mixed.now c.requires (option_map (λ d. d.text.now) c.args.dir) c.loop-child.children c.args.paths.now.items c.loop-child.paths.items c.in_default.ensures.0 c.loop-child.invariant
