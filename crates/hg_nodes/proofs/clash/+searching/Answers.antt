use Rattle.std.proofs.Common.{sym, ◌∙◌, ◌<◌, ◌≤◌, length, arith}
use Rattle.std.specs.Option.{option_map}
use Rattle.hg_nodes.specs.Lists.{data_of}
use Rattle.hg_nodes.proofs.Searched.{kid_longer, kid_short, kid_there, left_first, left_goes, left_stops, within_here}
use Rattle.hg_nodes.proofs.clash.+searching.Goals as goal

pub tracked_below-loop-text-init : goal.tracked_below-loop-text-init
tracked_below-loop-text-init t c = left_first c.args.nodes.now c.args.path.text.now c.args.path.is_path c.kids-kids.result c.requires c.kids-kids.ensures

pub tracked_below-returns-then-is_past : goal.tracked_below-returns-then-is_past
tracked_below-returns-then-is_past t c =
    left_stops c.args.nodes.now c.args.path.text.now c.args.path.is_path (c.in-Some.text.now, data_of c.in-Some.node.now) c.loop-text.kids c.next.new.self c.in-Some.ensures
    (option_map (λ p. p.text.now) c.loop-text.least) c.loop-text.invariant (sym c.is_past.ensures ∙ c.if-is_past.true)

pub tracked_below-tracked_within-requires : goal.tracked_below-tracked_within-requires
tracked_below-tracked_within-requires t c =
    let longer : length c.args.path.text.now < length c.in-Some.text.now = kid_longer c.args.nodes.now c.args.path.text.now c.args.path.is_path (c.in-Some.text.now, data_of c.in-Some.node.now) c.loop-text.kids c.next.new.self c.in-Some.ensures
    (option_map (λ p. p.text.now) c.loop-text.least) c.loop-text.invariant in
    let short : length c.in-Some.text.now ≤ 65535 = kid_short c.args.nodes.now c.args.path.text.now c.args.path.is_path (c.in-Some.text.now, data_of c.in-Some.node.now) c.loop-text.kids c.next.new.self c.in-Some.ensures
    (option_map (λ p. p.text.now) c.loop-text.least) c.loop-text.invariant c.requires in (
      omega (arith, c.decreases, longer, short),
      (
        c.requires,
        kid_there c.args.nodes.now c.args.path.text.now c.args.path.is_path (c.in-Some.text.now, data_of c.in-Some.node.now) c.loop-text.kids c.next.new.self c.in-Some.ensures
            (option_map (λ p. p.text.now) c.loop-text.least) c.loop-text.invariant,
      ),
    )

pub tracked_below-loop-text-preserved : goal.tracked_below-loop-text-preserved
tracked_below-loop-text-preserved t c =
    left_goes c.args.nodes.now c.args.path.text.now c.args.path.is_path (c.in-Some.text.now, data_of c.in-Some.node.now) c.loop-text.kids c.next.new.self c.in-Some.ensures
    (option_map (λ p. p.text.now) c.loop-text.least) (option_map (λ p. p.text.now) c.tracked_within.result) (option_map (λ p. p.text.now) c.lesser-least.result)
    c.loop-text.invariant c.tracked_within.ensures c.lesser-least.ensures

pub tracked_within-returns-then-is_tracked_entry : goal.tracked_within-returns-then-is_tracked_entry
tracked_within-returns-then-is_tracked_entry t c =
    within_here c.args.nodes.now c.args.path.text.now (data_of c.args.node.now) c.requires.there (sym c.is_tracked_entry.ensures ∙ c.if-is_tracked_entry.true)
