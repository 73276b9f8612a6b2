use Rattle.std.proofs.Common.{◌≡◌, ℕ, None, ap, subst, arith}
use Rattle.hg_docket.specs.Docket.{Contents}
use Rattle.hg_append.specs.Keeps.{keeps_lent}
use Rattle.hg_append.specs.Put.{IsPut}
use Rattle.hg_append.proofs.Steps.{put_few}
use Rattle.hg_append.proofs.Behind.{root_put}
use Rattle.hg_append.proofs.LentIn.{few_lent}
use Rattle.hg_append.proofs.appending.put_root.Goals as goal

pub put_list-requires-clause-few : goal.put_list-requires-clause-few
put_list-requires-clause-few c = few_lent c.args.mixed.now c.requires.over.counted c.requires.over.formed

pub returns-clause-put : goal.returns-clause-put
returns-clause-put c =
    let held = c.args.mixed.now in
    let here : c.image.result.docket.used ≡ held.docket.used = ap (λ (d : Contents). d.used) c.image.ensures.docket in
    root_put held c.in_ok-put.put _ _ _ _ (few_lent held c.requires.over.counted c.requires.over.formed) c.in_default.ensures c.requires.none
    (subst (λ (at : ℕ). IsPut held (keeps_lent held) None at c.in_ok-put.put c.args.bytes.now.items c.put_list.new.bytes.items c.new-records.result.items c.put_list.new.records.items) here c.in_ok-put.ensures)

pub returns-clause-few : goal.returns-clause-few
returns-clause-few c =
    let held = c.args.mixed.now in
    let here : c.image.result.docket.used ≡ held.docket.used = ap (λ (d : Contents). d.used) c.image.ensures.docket in
    put_few held (keeps_lent held) held.docket.used None _ c.in_ok-put.put _ _ _ _ (few_lent held c.requires.over.counted c.requires.over.formed) (omega (arith, here)) c.in_ok-put.ensures
