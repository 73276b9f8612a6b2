use Rattle.std.proofs.Common.{List, ℕ, [], sym, subst, ap, ◌≡◌, ◌∙◌}
use Rattle.std.specs.Prelude.{bytes_eq, replicate, false}
use Rattle.sha1.specs.Sha1.{sha1}
use Rattle.hg_compare.specs.Alike.{contents_name}
use Rattle.hg_store.specs.Names.{plain_file}
use Rattle.hg_store.specs.declared.names.Plain.TheVariants as a_plain
use Rattle.hg_store.proofs.Filing.{contents_apart, device_answer, file_but, gone_sized, settled_answer}
use Rattle.hg_store.proofs.Leading.{alone_first, alone_second, proceeds_trans}
use Rattle.hg_store.proofs.Placing.{clash_same, decides_err, text_leads, text_stored}
use Rattle.hg_store.proofs.file.store_sized.Goals as goal

pub returns-in-Err-clause-stores : goal.returns-in-Err-clause-stores
returns-in-Err-clause-stores g c = record {
  text = [];
  answer = device_answer c.args.path.text.now [] c.args.size _ _ _ _ c.in-Err.fault c.in-Err.ensures.kind c.write_file.ensures.leads;
  leads = file_but [] _ _ c.write_file.ensures.leads;
}

pub returns-in-Ok-None-clause-stores : goal.returns-in-Ok-None-clause-stores
returns-in-Ok-None-clause-stores g c = record {
  text = [];
  answer = gone_sized c.args.path.text.now [] c.args.size _ _ _ _ c.gone.result c.gone.ensures (rw c.in-Ok-None.field-0-is at c.in-Ok-None.ensures.written) c.write_file.ensures.leads;
  leads = file_but [] _ _ c.write_file.ensures.leads;
}

pub returns-in-Err-settle-clause-proceeds : goal.returns-in-Err-settle-clause-proceeds
returns-in-Err-settle-clause-proceeds g c = proceeds_trans c.write_file.ensures.proceeds c.settle.ensures.proceeds

pub returns-in-Ok-clause-proceeds : goal.returns-in-Ok-clause-proceeds
returns-in-Ok-clause-proceeds g c = proceeds_trans c.write_file.ensures.proceeds c.settle.ensures.proceeds

pub returns-in-Err-settle-clause-stores : goal.returns-in-Err-settle-clause-stores
returns-in-Err-settle-clause-stores g c =
    let written = rw c.in-Ok-Some.field-0-is at c.in-Ok-Some.ensures.written in
    let spelled = c.as_str.ensures ∙ c.of-name.ensures ∙ ap (plain_file a_plain.Contents) written.3 in
    record {
      text = written.0;
      answer = settled_answer c.args.path.text.now written.0 c.args.size _ _ _ _ c.in-Ok-Some.taken.id c.in-Err-settle.fault c.in-Err-settle.ensures.kind written.3 written.1
          (λ alone. decides_err (List ℕ) (List ℕ) c.in-Err-settle.fault _ _ _ _ (clash_same (contents_name (sha1 written.0)) c.as_str.result.now written.0 _ (sha1 written.0) _ _ spelled written.3 c.write_file.ensures.proceeds (contents_apart (sha1 written.0)) (c.write_file.ensures.leads (alone_first c.settle.ensures.proceeds alone))) written.3 (c.in-Err-settle.ensures.decided written.0 (alone_second c.write_file.ensures.proceeds alone) (written.4 (alone_first c.settle.ensures.proceeds alone)) written.2))
          (λ alone. c.in-Err-settle.ensures.cleared (alone_second c.write_file.ensures.proceeds alone));
      leads = λ alone.
          text_leads (contents_name (sha1 written.0)) c.as_str.result.now written.0 _ _ _ spelled c.write_file.ensures.proceeds c.settle.ensures.proceeds alone (contents_apart (sha1 written.0)) c.write_file.ensures.leads
          (λ second apart. c.settle.ensures.leads written.0 second (written.4 (alone_first c.settle.ensures.proceeds alone)) written.2 apart);
    }

pub returns-in-Ok-clause-stores : goal.returns-in-Ok-clause-stores
returns-in-Ok-clause-stores g c =
    let written = rw c.in-Ok-Some.field-0-is at c.in-Ok-Some.ensures.written in
    let spelled = c.as_str.ensures ∙ c.of-name.ensures ∙ ap (plain_file a_plain.Contents) written.3 in
    record {
      text = written.0;
      answer = record {
        taken = written.1;
        id_is = written.3;
        known = subst (λ (i : List ℕ). bytes_eq i (replicate 20 0) ≡ false) written.3 c.in-Ok.ensures.known;
        stored = λ alone.
            text_stored (contents_name (sha1 written.0)) c.as_str.result.now written.0 _ _ _ spelled c.write_file.ensures.proceeds c.settle.ensures.proceeds alone (contents_apart (sha1 written.0)) c.write_file.ensures.leads
            (λ second apart. c.in-Ok.ensures.stored written.0 second (written.4 (alone_first c.settle.ensures.proceeds alone)) written.2 apart);
        fits = λ alone. sym (clash_same (contents_name (sha1 written.0)) c.as_str.result.now written.0 _ (sha1 written.0) _ _ spelled written.3 c.write_file.ensures.proceeds (contents_apart (sha1 written.0)) (c.write_file.ensures.leads (alone_first c.settle.ensures.proceeds alone))) ∙ c.in-Ok.ensures.decided written.0 (alone_second c.write_file.ensures.proceeds alone) (written.4 (alone_first c.settle.ensures.proceeds alone)) written.2;
      };
      leads = λ alone.
          text_leads (contents_name (sha1 written.0)) c.as_str.result.now written.0 _ _ _ spelled c.write_file.ensures.proceeds c.settle.ensures.proceeds alone (contents_apart (sha1 written.0)) c.write_file.ensures.leads
          (λ second apart. c.settle.ensures.leads written.0 second (written.4 (alone_first c.settle.ensures.proceeds alone)) written.2 apart);
    }
