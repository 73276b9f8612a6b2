use Rattle.std.proofs.Common.{◌≡◌, ◌+◌, ◌*◌, take, get_or, arith}
use Rattle.hg_docket.specs.Number.{hex_value, digit_value}
use Rattle.hg_docket.proofs.Hex.{has_room, hex_step}
use Rattle.hg_docket.proofs.number.hex_value.Goals as goal

pub overflow_mul-value : goal.overflow_mul-value
overflow_mul-value c = omega (arith, has_room c.args.digits.now c.loop-b.b-index c.loop-b-test.true c.requires.few c.requires.digits)

pub overflow_add-value : goal.overflow_add-value
overflow_add-value c = omega (arith, has_room c.args.digits.now c.loop-b.b-index c.loop-b-test.true c.requires.few c.requires.digits)

pub loop-b-preserved : goal.loop-b-preserved
loop-b-preserved c =
    let step : hex_value (take (c.loop-b.b-index + 1) c.args.digits.now) ≡ hex_value (take c.loop-b.b-index c.args.digits.now) * 16 + digit_value (get_or c.args.digits.now c.loop-b.b-index 0) = hex_step c.args.digits.now c.loop-b.b-index c.loop-b-test.true in
    cc
