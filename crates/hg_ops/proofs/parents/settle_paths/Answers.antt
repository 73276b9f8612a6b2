use Rattle.std.proofs.Common.{length, refl, ◌≡◌, Some}
use Rattle.std.specs.Prelude.{slice_get}
use Rattle.hg_ops.proofs.Setting.{all_among, at_place, same_image, settle_next, wanted_again}
use Rattle.hg_ops.specs.Parents.{entry_by}
use Rattle.hg_ops.proofs.parents.settle_paths.Goals as goal

pub loop-i-preserved : goal.loop-i-preserved
loop-i-preserved c =
    let at : slice_get c.args.paths.now c.loop-i.i ≡ Some c.as_ref.result.text.now =
    at_place c.args.paths.now c.loop-i.i (length c.args.paths.now) c.index-paths-i.result c.as_ref.result.text.now c.loop-i-test.true refl c.index-paths-i.is c.as_ref.ensures in (
      λ old done are.
          settle_next (entry_by c.args.merged c.args.m1.now c.args.m2.now) old (wanted_again c.args.merged c.args.m1.now c.args.m2.now) c.args.paths.now c.loop-i.i c.as_ref.result.text.now
          c.loop-i.mixed c.settle.new.mixed done at (c.loop-i.invariant.0 old done are) c.in_ok-settle.ensures.settled,
      same_image c.args.mixed.now c.loop-i.mixed c.settle.new.mixed c.loop-i.invariant.1 c.settle.ensures.image,
    )

pub returns-clause-set : goal.returns-clause-set
returns-clause-set c = λ old done are.
    all_among (entry_by c.args.merged c.args.m1.now c.args.m2.now) old c.loop-i.mixed c.args.paths.now c.loop-i.i done
    c.loop-i-test.false (c.loop-i.invariant.0 old done are)
