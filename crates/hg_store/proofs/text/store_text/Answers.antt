use Rattle.std.proofs.Common.{refl, sym, ap, ◌∙◌, List, ℕ}
use Rattle.sha1.specs.Sha1.{sha1}
use Rattle.hg_store.specs.Names.{plain_file}
use Rattle.hg_store.specs.Storing.{ButNew, Keeps}
use Rattle.hg_store.proofs.Leading.{alone_first, alone_second, leads_weaker, proceeds_trans}
use Rattle.hg_store.proofs.Naming.{name_apart}
use Rattle.hg_store.proofs.Placing.{clash_same, decides_err, keeps_but, text_leads, text_stored}
use Rattle.hg_store.proofs.text.store_text.Goals as goal

pub returns-in_err-write_text-clause-leads : goal.returns-in_err-write_text-clause-leads
returns-in_err-write_text-clause-leads g c = λ alone.
    leads_weaker ButNew (Keeps _ (plain_file c.args.plain (sha1 c.args.text.now)) c.args.text.now) (keeps_but _ _ _ (name_apart c.args.plain (sha1 c.args.text.now))) (c.in_err-write_text.ensures.leads alone)

pub returns-in-Ok-clause-proceeds : goal.returns-in-Ok-clause-proceeds
returns-in-Ok-clause-proceeds g c = proceeds_trans c.write_text.ensures.proceeds c.settle.ensures.proceeds

pub returns-in-Ok-clause-leads : goal.returns-in-Ok-clause-leads
returns-in-Ok-clause-leads g c = λ alone.
    text_leads (plain_file c.args.plain (sha1 c.args.text.now)) c.as_str.result.now c.args.text.now _ _ _ (c.as_str.ensures ∙ c.of-name.ensures ∙ ap (plain_file c.args.plain) c.digest.ensures)
    c.write_text.ensures.proceeds c.settle.ensures.proceeds alone (name_apart c.args.plain (sha1 c.args.text.now)) c.write_text.ensures.leads
    (λ second apart. c.settle.ensures.leads c.args.text.now second (c.in_ok-write_text.ensures.sure (alone_first c.settle.ensures.proceeds alone)) refl apart)

pub returns-in-Ok-clause-decided : goal.returns-in-Ok-clause-decided
returns-in-Ok-clause-decided g c = λ alone.
    sym (clash_same (plain_file c.args.plain (sha1 c.args.text.now)) c.as_str.result.now c.args.text.now _ (sha1 c.args.text.now) _ _ (c.as_str.ensures ∙ c.of-name.ensures ∙ ap (plain_file c.args.plain) c.digest.ensures) c.digest.ensures
    c.write_text.ensures.proceeds (name_apart c.args.plain (sha1 c.args.text.now)) (c.write_text.ensures.leads (alone_first c.settle.ensures.proceeds alone)))
    ∙ c.in-Ok.ensures.decided c.args.text.now (alone_second c.write_text.ensures.proceeds alone) (c.in_ok-write_text.ensures.sure (alone_first c.settle.ensures.proceeds alone)) refl

pub returns-in-Err-clause-proceeds : goal.returns-in-Err-clause-proceeds
returns-in-Err-clause-proceeds g c = proceeds_trans c.write_text.ensures.proceeds c.settle.ensures.proceeds

pub returns-in-Err-clause-leads : goal.returns-in-Err-clause-leads
returns-in-Err-clause-leads g c = λ alone.
    text_leads (plain_file c.args.plain (sha1 c.args.text.now)) c.as_str.result.now c.args.text.now _ _ _ (c.as_str.ensures ∙ c.of-name.ensures ∙ ap (plain_file c.args.plain) c.digest.ensures)
    c.write_text.ensures.proceeds c.settle.ensures.proceeds alone (name_apart c.args.plain (sha1 c.args.text.now)) c.write_text.ensures.leads
    (λ second apart. c.settle.ensures.leads c.args.text.now second (c.in_ok-write_text.ensures.sure (alone_first c.settle.ensures.proceeds alone)) refl apart)

pub returns-in-Err-clause-decided : goal.returns-in-Err-clause-decided
returns-in-Err-clause-decided g c = λ alone.
    decides_err (List ℕ) (List ℕ) c.in-Err.fault _ _ _ _
    (clash_same (plain_file c.args.plain (sha1 c.args.text.now)) c.as_str.result.now c.args.text.now _ (sha1 c.args.text.now) _ _ (c.as_str.ensures ∙ c.of-name.ensures ∙ ap (plain_file c.args.plain) c.digest.ensures) c.digest.ensures
    c.write_text.ensures.proceeds (name_apart c.args.plain (sha1 c.args.text.now)) (c.write_text.ensures.leads (alone_first c.settle.ensures.proceeds alone)))
    c.digest.ensures
    (c.in-Err.ensures.decided c.args.text.now (alone_second c.write_text.ensures.proceeds alone) (c.in_ok-write_text.ensures.sure (alone_first c.settle.ensures.proceeds alone)) refl)

pub returns-in-Ok-clause-stored : goal.returns-in-Ok-clause-stored
returns-in-Ok-clause-stored g c = λ alone.
    text_stored (plain_file c.args.plain (sha1 c.args.text.now)) c.as_str.result.now c.args.text.now _ _ _ (c.as_str.ensures ∙ c.of-name.ensures ∙ ap (plain_file c.args.plain) c.digest.ensures)
    c.write_text.ensures.proceeds c.settle.ensures.proceeds alone (name_apart c.args.plain (sha1 c.args.text.now)) c.write_text.ensures.leads
    (λ second apart. c.in-Ok.ensures.stored c.args.text.now second (c.in_ok-write_text.ensures.sure (alone_first c.settle.ensures.proceeds alone)) refl apart)

pub returns-in-Err-clause-cleared : goal.returns-in-Err-clause-cleared
returns-in-Err-clause-cleared g c = λ alone. c.in-Err.ensures.cleared (alone_second c.write_text.ensures.proceeds alone)
