use Rattle.std.proofs.Common.{take, ◌∙◌, rules, refl}
use Rattle.std.proofs.lemmas.List.{take_all}
use Rattle.hg_store.proofs.Leading.{alone_first, alone_second, leads_on, leads_same, proceeds_same, proceeds_trans}
use Rattle.hg_store.proofs.Laying.{but_same, but_trans, laid_more}
use Rattle.hg_store.specs.Storing.{ButNew}
use Rattle.hg_store.proofs.writing.write_pieces.Goals as goal

pub loop-place-init : goal.loop-place-init
loop-place-init g c = record {
  proceeds = proceeds_same _;
  leads = λ alone. leads_same ButNew _ but_same;
  laid = λ alone laid. laid;
  held = refl;
  still = refl;
  within = search rules;
}

pub loop-place-preserved : goal.loop-place-preserved
loop-place-preserved g c =
    let p = c.loop-place.invariant.proceeds in
    let q = c.write.ensures.proceeds in
    record {
      proceeds = proceeds_trans p q;
      leads = leads_on ButNew but_trans p q c.loop-place.invariant.leads c.write.ensures.leads;
      laid = λ alone laid.
          laid_more c.loop-place.place _ c.args.text.now _ _ (search rules) (search rules)
          (c.in_ok-write.ensures.laid (take c.loop-place.place c.args.text.now) (alone_second p alone) (c.loop-place.invariant.laid (alone_first q alone) laid) (search rules));
      held = c.write.ensures.held ∙ c.loop-place.invariant.held;
      still = c.in_ok-write.ensures.cause.quiet ∙ c.loop-place.invariant.still;
      within = search rules;
    }

pub returns-clause-laid : goal.returns-clause-laid
returns-clause-laid g c = λ alone laid. c.loop-place.invariant.laid alone laid ∙ take_all c.loop-place.place c.args.text.now c.loop-place-test.false

pub returns-in_err-write-clause-proceeds : goal.returns-in_err-write-clause-proceeds
returns-in_err-write-clause-proceeds g c = proceeds_trans c.loop-place.invariant.proceeds c.write.ensures.proceeds

pub returns-in_err-write-clause-leads : goal.returns-in_err-write-clause-leads
returns-in_err-write-clause-leads g c = leads_on ButNew but_trans c.loop-place.invariant.proceeds c.write.ensures.proceeds c.loop-place.invariant.leads c.in_err-write.ensures.leads
