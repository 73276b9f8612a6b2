use Rattle.std.proofs.Common.{◌∙◌, arith, rules}
use Rattle.hg_base.proofs.Cuts.{bad_more, cut_length}
use Rattle.hg_base.proofs.rules.bad_place.Goals as goal

pub loop-front-preserved : goal.loop-front-preserved
loop-front-preserved c =
    let kept = c.loop-front.invariant in
    let now = c.in-Some.ensures in
    let shorter = cut_length c.loop-front.rest.now _ _ now.0 in
    record {
      found = bad_more c.loop-front.at _ c.loop-front.rest.now _ _ (omega arith) now.0 now.1 (search rules) ∙ kept.found;
      far = omega (arith, shorter, kept.far);
      text = search rules;
    }
