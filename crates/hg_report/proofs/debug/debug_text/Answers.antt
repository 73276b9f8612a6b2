use Rattle.std.proofs.Common.{◌∙◌, ◌++◌, List, ap}
use Rattle.std.specs.List.{flat_map}
use Rattle.hg_mixed.specs.declared.line.Line.{Line}
use Rattle.hg_report.specs.Debug.{row_copy, row_line}
use Rattle.hg_report.proofs.Recorded.{text_is}
use Rattle.hg_report.proofs.debug.debug_text.Goals as goal

pub returns : goal.returns
returns c = record {
  text =
      text_is c.args.mixed.now c.parents.ensures.formed c.in_ok-rows.rows.items c.in_ok-rows.ensures.gathered c.in_ok-rows.ensures.ascending
      c.parents.result.0.0 c.parents.result.1.0 c.new-text.result.items c.put_parents.new.text.items c.put_records.new.text.items c.put_copies.new.text.items c.parents.ensures.p1 c.parents.ensures.p2
      c.new-text.ensures.items c.in_ok-put_parents.ensures
      (c.in_ok-put_records.ensures ∙ ap (λ (rows : List Line). c.put_parents.new.text.items ++ flat_map row_line rows) c.as_slice.ensures.value)
      (c.in_ok-put_copies.ensures ∙ ap (λ (rows : List Line). c.put_records.new.text.items ++ flat_map row_copy rows) c.as_slice-2.ensures.value);
}
