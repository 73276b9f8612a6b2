use Rattle.std.proofs.Common.{◌≡◌, ◌∙◌, [], Some, None, ap}
use Rattle.hg_docket.specs.Docket.{Contents, view}
use Rattle.hg_image.specs.Rows.{rows_of}
use Rattle.hg_image.specs.Walk.{image_fault}
use Rattle.hg_gen.proofs.Entering.{no_fault, no_rows}
use Rattle.hg_gen.proofs.recording.record.Goals as goal

pub unreachable-requires-in-Err-open : goal.unreachable-requires-in-Err-open
unreachable-requires-in-Err-open c =
    let bad : Some c.in-Err-open.field-0 ≡ None = c.in-Err-open.ensures.fault ∙ ap (λ (d : Contents). image_fault d []) c.in-Ok.ensures.fields ∙ no_fault in
    cc bad

pub record_over-requires-clause-empty : goal.record_over-requires-clause-empty
record_over-requires-clause-empty c =
    record {
      docket = ap view c.in-Ok-open.ensures.docket ∙ c.in-Ok.ensures.fields;
      rows = c.in-Ok-open.ensures.rows ∙ ap (λ (d : Contents). rows_of d []) c.in-Ok.ensures.fields ∙ no_rows;
    }
