use Rattle.std.proofs.Common.{[], ◌≡◌, ap, sym, ◌<◌, ◌≤◌, length, arith}
use Rattle.std.specs.Option.{option_map}
use Rattle.std.proofs.lemmas.List.{append-nil}
use Rattle.hg_base.specs.declared.path.PathRef.{PathRef}
use Rattle.hg_nodes.specs.Lists.{or_root}
use Rattle.hg_mixed.specs.Walk.{walked}
use Rattle.hg_mixed.proofs.Gathering.{below_none, child_is, child_longer, child_short, left_done, left_first, left_more}
use Rattle.hg_mixed.proofs.gathered.+gathering.Goals as goal

pub add_below-returns-then-not-child : goal.add_below-returns-then-not-child
add_below-returns-then-not-child t c = ([], sym (append-nil c.args.rows.now.items), below_none c.args.mixed.now c.requires.formed c.args.child.now c.requires.child c.if-not-child.true)

pub add_below-add_in-requires : goal.add_below-add_in-requires
add_below-add_in-requires t c =
    let path : c.below.result.path.text.now ≡ c.args.child.now.path.text.now = c.below.ensures.path in (omega (arith, c.decreases, ap (length {_}) path), (c.requires.formed, c.below.ensures.list c.args.mixed.now c.requires.list))

pub add_in-add_children-requires : goal.add_in-add_children-requires
add_in-add_children-requires t c = (omega (arith, c.decreases), (c.requires.formed, (c.walk_in-children.ensures.children, c.walk_in-children.ensures.lists)))

pub add_children-loop-child-init : goal.add_children-loop-child-init
add_children-loop-child-init t c =
    record {
      left = left_first c.args.mixed.now c.requires.formed (option_map (λ d. d.text.now) c.args.dir) (walked c.args.children) c.args.rows.now.items c.requires.children;
      lists = c.requires.lists;
    }

pub add_children-add_below-requires : goal.add_children-add_below-requires
add_children-add_below-requires t c =
    let dir = option_map (λ (d : PathRef). d.text.now) c.args.dir in
    let longer : length (or_root dir) < length c.in-Some.child.path.text.now =
    child_longer c.args.mixed.now c.requires.formed dir c.in-Some.child (walked c.loop-child.children) (walked c.next.new.self) c.in-Some.ensures.takes c.args.rows.now.items c.loop-child.rows.items c.loop-child.invariant.left in
    let short : length c.in-Some.child.path.text.now ≤ 65535 =
    child_short c.args.mixed.now c.requires.formed dir c.in-Some.child (walked c.loop-child.children) (walked c.next.new.self) c.in-Some.ensures.takes c.args.rows.now.items c.loop-child.rows.items c.loop-child.invariant.left in (
      omega (arith, c.decreases, longer, short),
      (
        c.requires.formed,
        (
          child_is c.args.mixed.now c.requires.formed dir c.in-Some.child (walked c.loop-child.children) (walked c.next.new.self) c.in-Some.ensures.takes c.args.rows.now.items c.loop-child.rows.items c.loop-child.invariant.left,
          (c.in-Some.ensures.lists c.args.mixed.now c.loop-child.invariant.lists).1,
        ),
      ),
    )

pub add_children-loop-child-preserved : goal.add_children-loop-child-preserved
add_children-loop-child-preserved t c =
    record {
      left = left_more c.args.mixed.now c.requires.formed (option_map (λ d. d.text.now) c.args.dir) c.in-Some.child (walked c.loop-child.children) (walked c.next.new.self) c.in-Some.ensures.takes c.args.rows.now.items c.loop-child.rows.items c.loop-child.invariant.left
          c.add_own.new.rows.items c.add_below.new.rows.items c.in_ok-add_own.ensures c.in_ok-add_below.ensures;
      lists = (c.in-Some.ensures.lists c.args.mixed.now c.loop-child.invariant.lists).0;
    }

pub add_children-returns : goal.add_children-returns
add_children-returns t c =
    left_done c.args.mixed.now c.requires.formed (option_map (λ d. d.text.now) c.args.dir) (walked c.loop-child.children) c.args.rows.now.items c.loop-child.rows.items c.in_default.ensures.takes.0 c.loop-child.invariant.left
