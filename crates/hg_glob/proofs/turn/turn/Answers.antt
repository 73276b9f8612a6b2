use Rattle.std.proofs.Common.{◌-◌, ◌<◌, length, refl, sym, ◌∙◌, arith, length-set}
use Rattle.hg_glob.proofs.Passes.{few_so_far, passing_first, passing_more, passing_marks, on_there}
use Rattle.hg_glob.specs.declared.part.Part.TheVariants as a_part
use Rattle.hg_glob.proofs.turn.turn.Goals as goal

pub pass-init : goal.pass-init
pass-init c =
    passing_first c.args.inner c.args.c c.args.parts.now c.args.marks.now c.plain-end.result c.clear.new.self c.is_end-now.result c.first_on-on.result c.requires.marks c.is_end-now.ensures c.plain-end.ensures c.clear.ensures c.first_on-on.ensures

pub step-mark-requires : goal.step-mark-requires
step-mark-requires c = omega (arith, few_so_far c.pass.invariant.so_far, on_there c.pass.k _ (sym c.goes_on.ensures ∙ c.pass-test.true))

pub pass-preserved : goal.pass-preserved
pass-preserved c =
    let there : 0 < c.pass.k = on_there c.pass.k _ (sym c.goes_on.ensures ∙ c.pass-test.true) in
    passing_more c.args.inner c.args.c c.args.parts.now c.args.marks.now c.pass.k (c.pass.k - 1) c.pass.marks c.pass.going c.pass.next c.pass.now c.pass.on c.pass.lit _ (a_part.Literal 0) c.step-mark.result c.step-mark.new.going c.first_on-on-in-pass.result
    c.is_lit-lit.result c.pass.invariant (omega arith) c.requires.marks (c.pass.auto.marks ∙ length-set c.args.marks.now (length c.args.parts.now) c.plain-end.result) refl c.step-mark.ensures.mark c.step-mark.ensures.going c.first_on-on-in-pass.ensures c.is_lit-lit.ensures

pub returns-clause-marks : goal.returns-clause-marks
returns-clause-marks c =
    passing_marks c.args.inner c.args.c c.args.parts.now c.args.marks.now c.args.low c.pass.k c.pass.marks c.pass.going c.pass.next c.pass.now c.pass.on c.pass.lit c.pass.invariant c.requires.marks c.requires.low (sym c.goes_on.ensures ∙ c.pass-test.false)
