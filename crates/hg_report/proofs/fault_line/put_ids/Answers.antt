use Rattle.std.proofs.Common.{◌∷◌, ◌++◌, [], ◌∙◌, ap}
use Rattle.std.proofs.lemmas.List.{append_assoc}
use Rattle.hg_report.proofs.Lines.{more}
use Rattle.hg_report.proofs.fault_line.put_ids.Goals as goal

pub loop-i-preserved : goal.loop-i-preserved
loop-i-preserved c =
    more (λ id. 32 ∷ id) c.args.ids.now c.loop-i.i c.at.result.now c.args.line.now.items c.loop-i.line.items c.extend_from_slice.new.self.items
    (rw c.len-i-end.ensures at c.loop-i-test.true) c.at.ensures c.loop-i.invariant
    (c.in_ok-extend_from_slice.ensures.items ∙ ap (λ l. l ++ c.as_bytes.result.now) c.in_ok-push.ensures.items ∙ append_assoc c.loop-i.line.items (32 ∷ []) c.as_bytes.result.now
    ∙ ap (λ l. c.loop-i.line.items ++ 32 ∷ l) c.as_bytes.ensures.bytes)
