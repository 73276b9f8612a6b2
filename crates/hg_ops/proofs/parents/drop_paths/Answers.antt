use Rattle.std.proofs.Common.{length, refl, ◌≡◌, Some}
use Rattle.std.specs.Prelude.{slice_get}
use Rattle.hg_ops.proofs.Dropping.{drop_all, drop_next, drop_none}
use Rattle.hg_ops.proofs.Setting.{at_place, same_image, unchanged_image}
use Rattle.hg_ops.specs.Parents.{entry_by}
use Rattle.hg_ops.proofs.parents.drop_paths.Goals as goal

pub loop-i-init : goal.loop-i-init
loop-i-init c = (drop_none (entry_by c.args.merged c.args.m1.now c.args.m2.now) c.args.mixed.now c.args.paths.now, unchanged_image c.args.mixed.now)

pub loop-i-preserved : goal.loop-i-preserved
loop-i-preserved c =
    let at : slice_get c.args.paths.now c.loop-i.i ≡ Some c.as_ref.result.text.now =
    at_place c.args.paths.now c.loop-i.i (length c.args.paths.now) c.index-paths-i.result c.as_ref.result.text.now c.loop-i-test.true refl c.index-paths-i.is c.as_ref.ensures in (
      drop_next (entry_by c.args.merged c.args.m1.now c.args.m2.now) c.args.mixed.now c.args.paths.now c.loop-i.i c.as_ref.result.text.now
          c.loop-i.mixed c.drop_lost.new.mixed at c.loop-i.invariant.0 c.in_ok-drop_lost.ensures.dropped,
      same_image c.args.mixed.now c.loop-i.mixed c.drop_lost.new.mixed c.loop-i.invariant.1 c.drop_lost.ensures.image,
    )

pub returns-clause-dropped : goal.returns-clause-dropped
returns-clause-dropped c =
    drop_all (entry_by c.args.merged c.args.m1.now c.args.m2.now) c.args.mixed.now c.loop-i.mixed c.args.paths.now c.loop-i.i
    c.loop-i-test.false c.loop-i.invariant.0
