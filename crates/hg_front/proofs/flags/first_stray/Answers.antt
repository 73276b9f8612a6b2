use Rattle.std.proofs.Common.{Some, sym, ap, ◌∙◌}
use Rattle.hg_front.specs.Flags as flags
use Rattle.hg_front.proofs.Found.{first_found, first_on}
use Rattle.hg_front.proofs.flags.first_stray.Goals as goal

pub returns-then-is_stray : goal.returns-then-is_stray
returns-then-is_stray c =
    let test = flags.is_stray (flags.flags_of c.args.command.now) in
    ap Some c.as_str-word.ensures
    ∙ first_found test c.args.words.now c.loop-i.i c.at.result.now (rw c.len-i-end.ensures at c.loop-i-test.true) c.at.ensures _ c.loop-i.invariant
    (ap test (sym c.as_str-word.ensures) ∙ sym c.is_stray.ensures ∙ c.if-is_stray.true)

pub loop-i-preserved : goal.loop-i-preserved
loop-i-preserved c =
    let test = flags.is_stray (flags.flags_of c.args.command.now) in
    first_on test c.args.words.now c.loop-i.i c.at.result.now (rw c.len-i-end.ensures at c.loop-i-test.true) c.at.ensures _ c.loop-i.invariant
    (ap test (sym c.as_str-word.ensures) ∙ sym c.is_stray.ensures ∙ c.if-is_stray.false)
