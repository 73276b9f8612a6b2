use Rattle.std.proofs.Common.{◌+◌, false, refl, arith}
use Rattle.std.proofs.lemmas.List.{get_or-set_same}
use Rattle.hg_glob.specs.declared.part.Part.TheVariants as a_part
use Rattle.hg_glob.proofs.Far.{reaches_more}
use Rattle.hg_glob.proofs.reach.follow_far.Goals as goal

pub on-preserved : goal.on-preserved
on-preserved c =
    let k = c.on.k in
    record {
      few = omega arith;
      here = get_or-set_same c.on.reaches (k + 1) c.reach_step-reach.result (record { now = 0; hit = 0; beyond = false }) (omega arith);
      all = λ path last first. reaches_more path c.args.short.now c.args.parts.now k _ (a_part.Literal 0) c.on.reaches c.on.reach c.reach_step-reach.result (c.on.invariant.all path last first) (omega arith) (omega arith) refl c.on.invariant.here (λ r. c.reach_step-reach.ensures path r last);
    }
