use Rattle.std.proofs.Common.{[], take, get_or, encode_utf8_all, refl, sym, ap, ◌∙◌}
use Rattle.hg_glob.specs.Part.{tail_from}
use Rattle.hg_glob.specs.declared.part.Part.TheVariants as a_part
use Rattle.hg_glob.proofs.Literal.{tail_more}
use Rattle.hg_glob.proofs.glob.tail_of.Goals as goal

pub loop-part-preserved : goal.loop-part-preserved
loop-part-preserved c =
    let i = c.loop-part.part-index in
    let parts = c.args.parts.now in
    c.in_ok-put_tail.ensures (tail_from [] (take i parts)) c.loop-part.invariant ∙ ap encode_utf8_all (sym (tail_more parts i (get_or parts i (a_part.Literal 0)) (a_part.Literal 0) c.loop-part-test.true refl))
