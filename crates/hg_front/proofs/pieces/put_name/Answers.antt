use Rattle.std.proofs.Common.{◌∙◌}
use Rattle.std.proofs.lemmas.List.{at_drop_more}
use Rattle.hg_front.specs.Shown.{shown}
use Rattle.hg_front.proofs.Fronts.{at_err, part_put, put_on}
use Rattle.hg_front.proofs.pieces.put_name.Goals as goal

pub returns-in_err-put_byte-clause-prefix : goal.returns-in_err-put_byte-clause-prefix
returns-in_err-put_byte-clause-prefix g c =
    let below = rw c.as_bytes-byte-items.ensures.value at c.loop-byte-test.true in
    at_err c.from_residual.result
    (part_put _ _ _ _ _ _ (rw (at_drop_more shown c.args.name.now c.loop-byte.byte-index 0 below) at c.loop-byte.invariant.put) (rw c.as_bytes-byte-items.ensures.value at c.in_err-put_byte.ensures.prefix))

pub loop-byte-preserved : goal.loop-byte-preserved
loop-byte-preserved g c =
    let below = rw c.as_bytes-byte-items.ensures.value at c.loop-byte-test.true in
    record {
      put = put_on _ _ _ _ _ _ (rw (at_drop_more shown c.args.name.now c.loop-byte.byte-index 0 below) at c.loop-byte.invariant.put) (rw c.as_bytes-byte-items.ensures.value at c.in_ok-put_byte.ensures.all);
      quiet = c.in_ok-put_byte.ensures.cause.quiet ∙ c.loop-byte.invariant.quiet;
    }
