use Rattle.std.proofs.Common.{◌∙◌, ◌≡◌, ℕ, ap, take}
use Rattle.std.proofs.lemmas.Result.{IfOk-weaker}
use Rattle.hg_docket.specs.Docket.{Contents, docket_of, view}
use Rattle.hg_image.specs.Reading.{data_reading}
use Rattle.hg_save.proofs.loaded.Loaded.open.Goals as goal

pub returns-clause-docket : goal.returns-clause-docket
returns-clause-docket c =
    IfOk-weaker c.open.result (λ i. i.docket ≡ c.in-Ok.docket) (λ i. view i.docket ≡ docket_of c.args.self.now.shown.items)
    (λ i same. ap view same ∙ c.in-Ok.ensures.fields ∙ ap docket_of c.as_slice.ensures.value) c.open.ensures.docket

pub returns-clause-read : goal.returns-clause-read
returns-clause-read c =
    c.open.ensures.read ∙ ap (λ (d : Contents). data_reading d c.as_slice-in-Ok.result.now) (c.in-Ok.ensures.fields ∙ ap docket_of c.as_slice.ensures.value)
    ∙ ap (data_reading (docket_of c.args.self.now.shown.items)) c.as_slice-in-Ok.ensures.value

pub returns-clause-bytes : goal.returns-clause-bytes
returns-clause-bytes c =
    let used : c.in-Ok.docket.used ≡ (docket_of c.args.self.now.shown.items).used = ap (λ (d : Contents). d.used) (c.in-Ok.ensures.fields ∙ ap docket_of c.as_slice.ensures.value) in
    IfOk-weaker c.open.result (λ i. i.bytes.now ≡ take c.in-Ok.docket.used c.as_slice-in-Ok.result.now) (λ i. i.bytes.now ≡ take (docket_of c.args.self.now.shown.items).used c.args.self.now.nodes.items)
    (λ i same. same ∙ ap (λ (n : ℕ). take n c.as_slice-in-Ok.result.now) used ∙ ap (take (docket_of c.args.self.now.shown.items).used) c.as_slice-in-Ok.ensures.value) c.open.ensures.bytes
