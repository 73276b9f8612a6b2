use Rattle.std.proofs.Common.{◌≡◌, ◌≤◌, length, sym, subst, ◌∙◌, arith}
use Rattle.hg_manifest.specs.Plain.{most, plain_name}
use Rattle.sha1.specs.Sha1.{sha1}
use Rattle.hg_shelf.specs.Images.{course}
use Rattle.hg_store.specs.Rows.{AnswersManifest, text_of}
use Rattle.hg_store.specs.Storing.{Keeps}
use Rattle.hg_store.proofs.Leading.{leads_same}
use Rattle.hg_store.proofs.Placing.{keeps_same}
use Rattle.hg_store.proofs.Manifesting.{manifest_answers, manifest_before, manifest_clash, manifest_decides, manifest_leads, manifest_stored}
use Rattle.hg_store.proofs.manifest.store_manifest.Goals as goal

pub returns-then-size-gt-MOST-clause-answers : goal.returns-then-size-gt-MOST-clause-answers
returns-then-size-gt-MOST-clause-answers g c = let long = c.text_len-size.ensures in (omega (arith, long), long)

pub returns-then-size-gt-MOST-clause-leads : goal.returns-then-size-gt-MOST-clause-leads
returns-then-size-gt-MOST-clause-leads g c = λ alone. leads_same (Keeps _ (plain_name (sha1 (text_of c.args.rows.now))) (text_of c.args.rows.now)) _ (keeps_same _ _ _)

pub returns-in-Err-clause-answers : goal.returns-in-Err-clause-answers
returns-in-Err-clause-answers g c = let long = c.text_len-size.ensures in omega (arith, long)

pub returns-in-Err-clause-leads : goal.returns-in-Err-clause-leads
returns-in-Err-clause-leads g c = λ alone. leads_same (Keeps _ (plain_name (sha1 (text_of c.args.rows.now))) (text_of c.args.rows.now)) _ (keeps_same _ _ _)

pub returns-in-Ok-clause-answers : goal.returns-in-Ok-clause-answers
returns-in-Ok-clause-answers g c =
    let is : c.as_slice.result.now ≡ text_of c.args.rows.now = (c.as_slice.ensures.value ∙ c.in-Ok.ensures) in
    let long = c.text_len-size.ensures in
    let few : length (text_of c.args.rows.now) ≤ most = omega (arith, long) in
    subst (λ t. AnswersManifest t c.store_text.result) is
    (manifest_answers c.as_slice.result.now c.store_text.result (subst (λ t. length t ≤ most) (sym is) few) c.store_text.ensures.named c.store_text.ensures.known c.store_text.ensures.kind)

pub returns-in-Ok-clause-leads : goal.returns-in-Ok-clause-leads
returns-in-Ok-clause-leads g c = λ alone. manifest_leads c.as_slice.result.now (text_of c.args.rows.now) _ _ (c.as_slice.ensures.value ∙ c.in-Ok.ensures) (c.store_text.ensures.leads alone)

pub returns-in-Ok-clause-decided : goal.returns-in-Ok-clause-decided
returns-in-Ok-clause-decided g c = λ alone. manifest_clash c.store_text.result c.as_slice.result.now (text_of c.args.rows.now) (course (g.S.Shelf.history c.args.shelf.now) (g.S.Shelf.images c.args.shelf.now)) (c.as_slice.ensures.value ∙ c.in-Ok.ensures) (manifest_decides _ _ c.store_text.result (c.store_text.ensures.decided alone))

pub returns-in-Ok-clause-stored : goal.returns-in-Ok-clause-stored
returns-in-Ok-clause-stored g c = λ alone. manifest_stored c.store_text.result c.as_slice.result.now (text_of c.args.rows.now) _ _ (c.as_slice.ensures.value ∙ c.in-Ok.ensures) (c.store_text.ensures.stored alone)

pub returns-in-Ok-clause-before : goal.returns-in-Ok-clause-before
returns-in-Ok-clause-before g c = manifest_before _ _ c.store_text.result c.store_text.ensures.kind
