use Rattle.std.proofs.Common.{Bool, sym, subst, ◌∙◌, rules}
use Rattle.hg_store.specs.Standing.{Decides}
use Rattle.hg_store.specs.Storing.{ButNew, Keeps}
use Rattle.hg_store.proofs.Leading.{alone_first, alone_second, leads_weaker, passed, passed_leads, proceeds_trans}
use Rattle.hg_store.proofs.Placing.{absent_fits, absent_leads, absent_stored, but_leads, keeps_but, keeps_same, neither, other_is, proceeds_passes, same_fits, same_stored, second_is, still_of}
use Rattle.hg_store.proofs.settling.settle.Goals as goal

pub returns-then-is_null-clause-leads : goal.returns-then-is_null-clause-leads
returns-then-is_null-clause-leads g c = λ text alone sure long apart. leads_weaker ButNew (Keeps _ c.args.name.now text) (keeps_but _ c.args.name.now text apart) (c.refuse.ensures.leads alone)

pub returns-in_err-standing-clause-leads : goal.returns-in_err-standing-clause-leads
returns-in_err-standing-clause-leads g c = λ text alone sure long apart.
    passed_leads (Keeps _ c.args.name.now text) _ _ (keeps_same _ c.args.name.now text) (passed _ _ alone c.standing.ensures.kept c.standing.ensures.passes)

pub returns-in_err-place-in-Absent-clause-leads : goal.returns-in_err-place-in-Absent-clause-leads
returns-in_err-place-in-Absent-clause-leads g c = λ text alone sure long apart.
    absent_leads c.args.name.now text _ _ _ c.standing.ensures.kept c.standing.ensures.passes c.place.ensures.proceeds alone sure
    (λ still. sym (c.in_ok-standing.ensures.found text still sure.shown long) ∙ c.in-Absent.is)
    (λ second there absent. c.place.ensures.leads text second there absent apart)

pub returns-in_err-place-in-Absent-clause-proceeds : goal.returns-in_err-place-in-Absent-clause-proceeds
returns-in_err-place-in-Absent-clause-proceeds g c = proceeds_trans (proceeds_passes c.standing.ensures.kept c.standing.ensures.passes) c.place.ensures.proceeds

pub returns-in_err-let_stand-in-Same-clause-leads : goal.returns-in_err-let_stand-in-Same-clause-leads
returns-in_err-let_stand-in-Same-clause-leads g c = λ text alone sure long apart. but_leads c.args.name.now text _ _ _ c.standing.ensures.kept c.standing.ensures.passes c.let_stand.ensures.proceeds alone apart c.let_stand.ensures.leads

pub returns-in_err-let_stand-in-Same-clause-proceeds : goal.returns-in_err-let_stand-in-Same-clause-proceeds
returns-in_err-let_stand-in-Same-clause-proceeds g c = proceeds_trans (proceeds_passes c.standing.ensures.kept c.standing.ensures.passes) c.let_stand.ensures.proceeds

pub returns-in_ok-place-in-Absent-clause-leads : goal.returns-in_ok-place-in-Absent-clause-leads
returns-in_ok-place-in-Absent-clause-leads g c = λ text alone sure long apart.
    absent_leads c.args.name.now text _ _ _ c.standing.ensures.kept c.standing.ensures.passes c.place.ensures.proceeds alone sure
    (λ still. sym (c.in_ok-standing.ensures.found text still sure.shown long) ∙ c.in-Absent.is)
    (λ second there absent. c.place.ensures.leads text second there absent apart)

pub returns-in_ok-place-in-Absent-clause-proceeds : goal.returns-in_ok-place-in-Absent-clause-proceeds
returns-in_ok-place-in-Absent-clause-proceeds g c = proceeds_trans (proceeds_passes c.standing.ensures.kept c.standing.ensures.passes) c.place.ensures.proceeds

pub returns-in_ok-let_stand-in-Same-clause-leads : goal.returns-in_ok-let_stand-in-Same-clause-leads
returns-in_ok-let_stand-in-Same-clause-leads g c = λ text alone sure long apart. but_leads c.args.name.now text _ _ _ c.standing.ensures.kept c.standing.ensures.passes c.let_stand.ensures.proceeds alone apart c.let_stand.ensures.leads

pub returns-in_ok-let_stand-in-Same-clause-proceeds : goal.returns-in_ok-let_stand-in-Same-clause-proceeds
returns-in_ok-let_stand-in-Same-clause-proceeds g c = proceeds_trans (proceeds_passes c.standing.ensures.kept c.standing.ensures.passes) c.let_stand.ensures.proceeds

pub returns-in-Other-clause-leads : goal.returns-in-Other-clause-leads
returns-in-Other-clause-leads g c = λ text alone sure long apart. but_leads c.args.name.now text _ _ _ c.standing.ensures.kept c.standing.ensures.passes c.refuse-in-Other.ensures.proceeds alone apart c.refuse-in-Other.ensures.leads

pub returns-in-Other-clause-proceeds : goal.returns-in-Other-clause-proceeds
returns-in-Other-clause-proceeds g c = proceeds_trans (proceeds_passes c.standing.ensures.kept c.standing.ensures.passes) c.refuse-in-Other.ensures.proceeds

pub returns-in_ok-place-in-Absent-clause-decided : goal.returns-in_ok-place-in-Absent-clause-decided
returns-in_ok-place-in-Absent-clause-decided g c = λ text alone sure long.
    let still = still_of _ _ (alone_first c.place.ensures.proceeds alone) c.standing.ensures.kept c.standing.ensures.passes in
    neither _ _ (search rules) (absent_fits _ text (sym (c.in_ok-standing.ensures.found text still sure.shown long) ∙ c.in-Absent.is))

pub returns-in_ok-let_stand-in-Same-clause-decided : goal.returns-in_ok-let_stand-in-Same-clause-decided
returns-in_ok-let_stand-in-Same-clause-decided g c = λ text alone sure long.
    let still = still_of _ _ (alone_first c.let_stand.ensures.proceeds alone) c.standing.ensures.kept c.standing.ensures.passes in
    neither _ _ (search rules) (same_fits _ text (sym (c.in_ok-standing.ensures.found text still sure.shown long) ∙ c.in-Same.is))

pub returns-in-Other-clause-decided : goal.returns-in-Other-clause-decided
returns-in-Other-clause-decided g c = λ text alone sure long.
    let still = still_of _ _ (alone_first c.refuse-in-Other.ensures.proceeds alone) c.standing.ensures.kept c.standing.ensures.passes in
    subst (λ (t : Bool). Decides t c.args.id c.refuse-in-Other.result) (sym (second_is _ _ (other_is _ text (sym (c.in_ok-standing.ensures.found text still sure.shown long) ∙ c.in-Other.is)))) c.refuse-in-Other.ensures.decided

pub returns-in_ok-place-in-Absent-clause-stored : goal.returns-in_ok-place-in-Absent-clause-stored
returns-in_ok-place-in-Absent-clause-stored g c = λ text alone sure long apart.
    absent_stored c.args.name.now text _ _ _ c.standing.ensures.kept c.standing.ensures.passes c.place.ensures.proceeds alone sure (λ second there. c.in_ok-place-in-Absent.ensures.stored text second there apart)

pub returns-in_ok-let_stand-in-Same-clause-stored : goal.returns-in_ok-let_stand-in-Same-clause-stored
returns-in_ok-let_stand-in-Same-clause-stored g c = λ text alone sure long apart.
    same_stored c.args.name.now text _ _ _ c.standing.ensures.kept c.standing.ensures.passes c.let_stand.ensures.proceeds alone
    (λ still. sym (c.in_ok-standing.ensures.found text still sure.shown long) ∙ c.in-Same.is)
    (λ second there. c.in_ok-let_stand-in-Same.ensures.stood c.args.name.now text second apart there)

pub returns-in-Other-clause-cleared : goal.returns-in-Other-clause-cleared
returns-in-Other-clause-cleared g c = λ alone. c.refuse-in-Other.ensures.cleared (alone_second (proceeds_passes c.standing.ensures.kept c.standing.ensures.passes) alone)
