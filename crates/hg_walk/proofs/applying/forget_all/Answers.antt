use Rattle.hg_mixed.specs.Held.{table}
use Rattle.hg_walk.specs.Writing.{WritesGone}
use Rattle.hg_walk.proofs.Applied.{among, gone_start, gone_step, still_bare}
use Rattle.hg_walk.proofs.applying.forget_all.Goals as goal

pub loop-dir-init : goal.loop-dir-init
loop-dir-init c = gone_start c.args.gone.items c.args.mixed.now

pub forget-requires : goal.forget-requires
forget-requires c =
    still_bare (table c.args.mixed.now) (table c.loop-dir.mixed) c.in-Some.dir (c.loop-dir.invariant.written.made.nodes c.in-Some.dir) (c.loop-dir.invariant.written.made.entries c.in-Some.dir)
    (c.requires c.in-Some.dir
    (among WritesGone c.args.gone.items c.loop-dir.gone.items c.pop.new.self.items c.in-Some.dir c.args.mixed.now c.loop-dir.mixed c.in-Some.ensures.items c.loop-dir.invariant))

pub loop-dir-preserved : goal.loop-dir-preserved
loop-dir-preserved c =
    gone_step c.args.gone.items c.loop-dir.gone.items c.pop.new.self.items c.in-Some.dir c.args.mixed.now c.loop-dir.mixed c.forget.new.mixed c.in-Some.ensures.items c.loop-dir.invariant
    c.in_ok-forget.ensures.edit c.forget.ensures.image
