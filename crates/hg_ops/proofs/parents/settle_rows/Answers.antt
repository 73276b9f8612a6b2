use Rattle.std.proofs.Common.{◌≡◌, Some, sym, ◌∙◌}
use Rattle.std.specs.Map.{keys_of}
use Rattle.std.proofs.lemmas.Map.Entries.{length-keys_of}
use Rattle.std.specs.Prelude.{slice_get}
use Rattle.hg_ops.proofs.Setting.{all_among, end_is, key_at, same_image, settle_next, wanted_again}
use Rattle.hg_ops.specs.Parents.{entry_by}
use Rattle.hg_ops.proofs.parents.settle_rows.Goals as goal

pub loop-i-preserved : goal.loop-i-preserved
loop-i-preserved c =
    let at : slice_get (keys_of c.args.rows.now) c.loop-i.i ≡ Some c.at.result.0.text.now =
    key_at c.args.rows.now c.loop-i.i c.at.result.0.text.now c.at.result.1 c.at.ensures in (
      λ old done are.
          settle_next (entry_by c.args.merged c.args.m1.now c.args.m2.now) old (wanted_again c.args.merged c.args.m1.now c.args.m2.now) (keys_of c.args.rows.now) c.loop-i.i c.at.result.0.text.now
          c.loop-i.mixed c.settle.new.mixed done at (c.loop-i.invariant.0 old done are) c.in_ok-settle.ensures.settled,
      same_image c.args.mixed.now c.loop-i.mixed c.settle.new.mixed c.loop-i.invariant.1 c.settle.ensures.image,
    )

pub returns-clause-set : goal.returns-clause-set
returns-clause-set c = λ old done are.
    all_among (entry_by c.args.merged c.args.m1.now c.args.m2.now) old c.loop-i.mixed (keys_of c.args.rows.now) c.loop-i.i done
    (end_is c.len-i-end.result _ c.loop-i.i c.loop-i-test.false (c.len-i-end.ensures.len ∙ sym (length-keys_of c.args.rows.now))) (c.loop-i.invariant.0 old done are)
