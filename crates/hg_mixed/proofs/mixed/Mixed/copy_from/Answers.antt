use Rattle.std.proofs.Common.{refl}
use Rattle.std.specs.Option.{option_map}
use Rattle.std.proofs.lemmas.Result.{on_ok_weaker}
use Rattle.hg_nodes.specs.Edits.{after_copy}
use Rattle.hg_mixed.proofs.Lifted.{copy_marks, copy_own, copy_parted, copy_table, edit_of, kept_parted, kept_table, marks_of, ok_both, ok_or_err, ok_three, some_of}
use Rattle.hg_mixed.proofs.Placed.{copy_placed, copy_places, same_placed}
use Rattle.hg_mixed.proofs.LentWhole.{copy_whole, kept_whole, lends_held, lends_in}
use Rattle.hg_mixed.proofs.Quiet.{by_false, by_true, quiet_copy, quiet_lends, quiet_marks}
use Rattle.hg_docket.specs.Docket as docket
use Rattle.hg_mixed.proofs.mixed.Mixed.copy_from.Goals as goal

pub returns-then-has_source-clause-table : goal.returns-then-has_source-clause-table
returns-then-has_source-clause-table c = quiet_copy c.args.self.now c.args.path.text.now (option_map (λ s. s.text.now) c.args.source) (by_true _ _ _ c.has_source.ensures c.if-has_source.true)

pub returns-then-has_source-clause-changed : goal.returns-then-has_source-clause-changed
returns-then-has_source-clause-changed c = quiet_marks c.args.self.now

pub returns-then-has_source-clause-lent : goal.returns-then-has_source-clause-lent
returns-then-has_source-clause-lent c = quiet_lends c.args.self.now c.args.path.text.now

pub invariant_of-self-in-Ok : goal.invariant_of-self-in-Ok
invariant_of-self-in-Ok c = (
  ok_or_err c.copy_from.result
      (λ same. copy_parted _ _ _ _ _ _ c.copy_from.new.self c.take_for.ensures.moved c.args.path.text.now c.in-Ok.ensures.free.above (option_map (λ s. s.text.now) c.args.source) same (some_of _ _ c.self.view_is c.args.path.text.now c.requires))
      (λ kept. kept_parted _ _ _ _ _ _ c.copy_from.new.self c.take_for.ensures.moved kept.table) c.copy_from.ensures.table c.copy_from.ensures.err,
  ok_or_err c.copy_from.result
      (λ written. copy_placed _ _ _ _ _ _ c.copy_from.new.self c.take_for.ensures.moved c.args.path.text.now c.in-Ok.ensures.free.above (option_map (λ s. s.text.now) c.args.source) written c.self.invariant.1)
      (λ kept. same_placed _ _ _ _ _ _ c.copy_from.new.self c.take_for.ensures.moved kept.nodes c.self.invariant.1) c.copy_from.ensures.nodes c.copy_from.ensures.err,
  ok_or_err c.copy_from.result (λ whole. whole) (λ kept. kept_whole _ _ _ _ _ _ c.copy_from.new.self c.take_for.ensures.moved c.self.invariant.2 kept.nodes kept.table kept.kept)
      (ok_three c.copy_from.result
      (λ nodes table ends. copy_whole _ _ _ _ _ _ c.copy_from.new.self c.take_for.ensures.moved c.self.invariant.2 c.args.path.text.now c.args.path.is_path c.in-Ok.ensures.free.above ends (option_map (λ s. s.text.now) c.args.source) nodes table)
      c.copy_from.ensures.nodes c.copy_from.ensures.table c.copy_from.ensures.kept) c.copy_from.ensures.err,
)

pub returns-in-Ok-clause-table : goal.returns-in-Ok-clause-table
returns-in-Ok-clause-table c =
    on_ok_weaker c.copy_from.result
    (λ same. edit_of _ _ c.self.view_is (after_copy c.args.path.text.now (option_map (λ s. s.text.now) c.args.source)) _ (copy_table _ _ _ _ _ _ c.copy_from.new.self c.take_for.ensures.moved c.args.path.text.now c.in-Ok.ensures.free.above (option_map (λ s. s.text.now) c.args.source) same))
    c.copy_from.ensures.table

pub returns-in-Ok-clause-changed : goal.returns-in-Ok-clause-changed
returns-in-Ok-clause-changed c =
    ok_both c.copy_from.result
    (λ same marks. marks_of _ _ c.self.view_is _ c.copy_from.new.self.changed (copy_marks _ _ _ _ _ _ c.copy_from.new.self c.take_for.ensures.moved c.args.path.text.now c.in-Ok.ensures.free.above (option_map (λ s. s.text.now) c.args.source) same marks))
    c.copy_from.ensures.table c.copy_from.ensures.changed

pub returns-in-Ok-clause-places : goal.returns-in-Ok-clause-places
returns-in-Ok-clause-places c =
    ok_both c.copy_from.result
    (λ written same. copy_places _ _ _ _ _ _ c.copy_from.new.self c.take_for.ensures.moved c.args.path.text.now c.in-Ok.ensures.free.above (option_map (λ s. s.text.now) c.args.source) written same
    _ _ c.self.view_is _ (λ at. refl) (λ at. refl) (λ s. s) (λ s. s))
    c.copy_from.ensures.nodes c.copy_from.ensures.table

pub returns-in-Ok-clause-lent : goal.returns-in-Ok-clause-lent
returns-in-Ok-clause-lent c =
    ok_both c.copy_from.result
    (λ table ends. lends_held (docket.view c.self.inside.image.docket) c.self.inside.image.bytes.now c.self.inside.left c.take_for.new.left c.self.inside.memory c.copy_from.new.self c.args.self.now c.self.view_is c.args.path.text.now
    (lends_in _ _ _ _ _ _ c.copy_from.new.self c.take_for.ensures.moved c.self.invariant.2 c.args.path.text.now c.args.path.is_path c.in-Ok.ensures.free.above ends
    (kept_table _ _ _ _ _ _ c.copy_from.new.self c.take_for.ensures.moved)
    (copy_own _ _ _ _ _ _ c.copy_from.new.self c.take_for.ensures.moved c.args.path.text.now c.in-Ok.ensures.free.above (option_map (λ s. s.text.now) c.args.source) table)))
    c.copy_from.ensures.table c.copy_from.ensures.kept

pub returns-in-Err-clause-quiet : goal.returns-in-Err-clause-quiet
returns-in-Err-clause-quiet c = λ is. absurd (by_false _ _ _ c.has_source.ensures c.if-has_source.false is)

pub returns-in-Ok-clause-quiet : goal.returns-in-Ok-clause-quiet
returns-in-Ok-clause-quiet c = λ is. absurd (by_false _ _ _ c.has_source.ensures c.if-has_source.false is)
