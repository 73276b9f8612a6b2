use Rattle.std.proofs.Common.{◌≡◌, ap, false, sym, subst, ◌∙◌, ◌<◌, ◌≤◌, length, arith}
use Rattle.std.specs.Option.{option_map}
use Rattle.hg_base.specs.PathText.{is_below, parent_of}
use Rattle.hg_base.specs.Within.{is_within}
use Rattle.hg_base.specs.declared.path.PathRef.{PathRef}
use Rattle.hg_nodes.specs.Lists.{or_root}
use Rattle.hg_mixed.specs.Cached.{FindsCache}
use Rattle.hg_mixed.specs.Walk.{walked}
use Rattle.hg_mixed.proofs.Bare.{bare_child, bare_done, bare_first, bare_found, bare_longer, bare_more, bare_short, below_bare, own_bare, own_cached}
use Rattle.hg_mixed.proofs.cached.+looking.Goals as goal

pub has_within-returns-then-is_some : goal.has_within-returns-then-is_some
has_within-returns-then-is_some t c = own_cached c.args.mixed.now c.args.child.now (parent_of c.args.child.now.path.text.now) c.requires.child (sym c.is_some.ensures ∙ c.if-is_some.true)

pub has_within-returns-then-not-child : goal.has_within-returns-then-not-child
has_within-returns-then-not-child t c =
    own_bare c.args.mixed.now c.args.child.now (parent_of c.args.child.now.path.text.now) c.requires.child (sym c.is_some.ensures ∙ c.if-is_some.false) false
    (below_bare c.args.mixed.now c.args.child.now (parent_of c.args.child.now.path.text.now) c.requires.child c.requires.formed c.if-not-child.true)

pub has_within-has_below-requires : goal.has_within-has_below-requires
has_within-has_below-requires t c =
    let path : c.below.result.path.text.now ≡ c.args.child.now.path.text.now = c.below.ensures.path in (omega (arith, c.decreases, ap (length {_}) path), (c.requires.formed, c.below.ensures.list c.args.mixed.now c.requires.list))

pub has_within-returns : goal.has_within-returns
has_within-returns t c =
    own_bare c.args.mixed.now c.args.child.now (parent_of c.args.child.now.path.text.now) c.requires.child (sym c.is_some.ensures ∙ c.if-is_some.false) c.has_below.result
    (subst (λ p. FindsCache c.args.mixed.now (is_below p) c.has_below.result) c.below.ensures.path c.has_below.ensures)

pub has_below-has_in-requires : goal.has_below-has_in-requires
has_below-has_in-requires t c = (omega (arith, c.decreases), (c.requires.formed, (c.walk_in-children.ensures.children, c.walk_in-children.ensures.lists)))

pub has_in-loop-child-init : goal.has_in-loop-child-init
has_in-loop-child-init t c =
    record {
      bare = bare_first c.args.mixed.now c.requires.formed (option_map (λ d. d.text.now) c.args.dir) (walked c.args.children) c.requires.children;
      lists = c.requires.lists;
    }

pub has_in-has_within-requires : goal.has_in-has_within-requires
has_in-has_within-requires t c =
    let dir = option_map (λ (d : PathRef). d.text.now) c.args.dir in
    let longer : length (or_root dir) < length c.in-Some.child.path.text.now =
    bare_longer c.args.mixed.now c.requires.formed dir c.in-Some.child (walked c.loop-child.children) (walked c.next.new.self) c.in-Some.ensures.takes c.loop-child.invariant.bare in
    let short : length c.in-Some.child.path.text.now ≤ 65535 =
    bare_short c.args.mixed.now c.requires.formed dir c.in-Some.child (walked c.loop-child.children) (walked c.next.new.self) c.in-Some.ensures.takes c.loop-child.invariant.bare in (
      omega (arith, c.decreases, longer, short),
      (
        c.requires.formed,
        (
          bare_child c.args.mixed.now c.requires.formed dir c.in-Some.child (walked c.loop-child.children) (walked c.next.new.self) c.in-Some.ensures.takes c.loop-child.invariant.bare,
          (c.in-Some.ensures.lists c.args.mixed.now c.loop-child.invariant.lists).1,
        ),
      ),
    )

pub has_in-returns-then-has_within : goal.has_in-returns-then-has_within
has_in-returns-then-has_within t c =
    bare_found c.args.mixed.now c.requires.formed (option_map (λ d. d.text.now) c.args.dir) c.in-Some.child (walked c.loop-child.children) (walked c.next.new.self) c.in-Some.ensures.takes c.loop-child.invariant.bare
    (subst (FindsCache c.args.mixed.now (is_within c.in-Some.child.path.text.now)) c.if-has_within.true c.has_within.ensures)

pub has_in-loop-child-preserved : goal.has_in-loop-child-preserved
has_in-loop-child-preserved t c =
    record {
      bare = bare_more c.args.mixed.now c.requires.formed (option_map (λ d. d.text.now) c.args.dir) c.in-Some.child (walked c.loop-child.children) (walked c.next.new.self) c.in-Some.ensures.takes c.loop-child.invariant.bare
          (subst (FindsCache c.args.mixed.now (is_within c.in-Some.child.path.text.now)) c.if-has_within.false c.has_within.ensures);
      lists = (c.in-Some.ensures.lists c.args.mixed.now c.loop-child.invariant.lists).0;
    }

pub has_in-returns : goal.has_in-returns
has_in-returns t c =
    bare_done c.args.mixed.now c.requires.formed (option_map (λ d. d.text.now) c.args.dir) (walked c.loop-child.children) c.in_default.ensures.takes.0 c.loop-child.invariant.bare
