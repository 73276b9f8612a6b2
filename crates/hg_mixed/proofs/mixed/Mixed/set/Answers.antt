use Rattle.std.proofs.Common.{refl}
use Rattle.std.proofs.lemmas.Result.{on_ok_weaker}
use Rattle.hg_entry.specs.Entry.{view}
use Rattle.hg_nodes.specs.Edits.{after_set}
use Rattle.hg_mixed.proofs.ClashWhole.{sets_whole}
use Rattle.hg_mixed.proofs.Lifted.{edit_of, kept_parted, kept_table, marks_of, ok_both, ok_or_err, ok_three, set_marks, set_own, set_parted, set_table}
use Rattle.hg_mixed.proofs.Placed.{places_of, same_placed, set_keeps, set_placed}
use Rattle.hg_mixed.proofs.LentWhole.{kept_whole, lends_held, lends_in, set_whole}
use Rattle.hg_mixed.proofs.Quiet.{by_false, by_true, quiet_clash, quiet_lends, quiet_marks, quiet_set}
use Rattle.hg_docket.specs.Docket as docket
use Rattle.hg_mixed.proofs.mixed.Mixed.set.Goals as goal

pub returns-then-says-clause-clash : goal.returns-then-says-clause-clash
returns-then-says-clause-clash c = quiet_clash c.args.self.now c.args.path.text.now (view c.args.entry) (by_true _ _ _ c.says.ensures.is c.if-says.true)

pub returns-then-says-clause-table : goal.returns-then-says-clause-table
returns-then-says-clause-table c = quiet_set c.args.self.now c.args.path.text.now (view c.args.entry) c.args.path.is_path c.says.ensures.formed (by_true _ _ _ c.says.ensures.is c.if-says.true)

pub returns-then-says-clause-changed : goal.returns-then-says-clause-changed
returns-then-says-clause-changed c = quiet_marks c.args.self.now

pub returns-then-says-clause-lent : goal.returns-then-says-clause-lent
returns-then-says-clause-lent c = quiet_lends c.args.self.now c.args.path.text.now

pub invariant_of-self-in-Ok : goal.invariant_of-self-in-Ok
invariant_of-self-in-Ok c = (
  ok_or_err c.set.result
      (λ same. set_parted _ _ _ _ _ _ c.set.new.self c.take_near.ensures.moved c.args.path.text.now c.in-Ok.ensures.near.free (view c.args.entry) same c.args.path.is_path)
      (λ kept. kept_parted _ _ _ _ _ _ c.set.new.self c.take_near.ensures.moved kept.table) c.set.ensures.table c.set.ensures.err,
  ok_or_err c.set.result
      (λ nodes. set_placed _ _ _ _ _ _ c.set.new.self c.take_near.ensures.moved c.args.path.text.now (view c.args.entry) nodes c.self.invariant.1)
      (λ kept. same_placed _ _ _ _ _ _ c.set.new.self c.take_near.ensures.moved kept.nodes c.self.invariant.1) c.set.ensures.nodes c.set.ensures.err,
  ok_or_err c.set.result (λ whole. whole) (λ kept. kept_whole _ _ _ _ _ _ c.set.new.self c.take_near.ensures.moved c.self.invariant.2 kept.nodes kept.table kept.kept)
      (ok_three c.set.result
      (λ nodes table ends. set_whole _ _ _ _ _ _ c.set.new.self c.take_near.ensures.moved c.self.invariant.2 c.args.path.text.now c.args.path.is_path c.in-Ok.ensures.near.free ends (view c.args.entry) nodes table)
      c.set.ensures.nodes c.set.ensures.table c.set.ensures.kept) c.set.ensures.err,
)

pub returns-in-Ok-clause-clash : goal.returns-in-Ok-clause-clash
returns-in-Ok-clause-clash c = sets_whole _ _ c.self.view_is _ _ _ _ _ _ c.take_near.ensures.moved c.args.path.text.now c.in-Ok.ensures.near refl (view c.args.entry) c.set.result c.set.ensures.clash

pub returns-in-Ok-clause-table : goal.returns-in-Ok-clause-table
returns-in-Ok-clause-table c =
    on_ok_weaker c.set.result
    (λ same. edit_of _ _ c.self.view_is (after_set c.args.path.text.now (view c.args.entry)) _ (set_table _ _ _ _ _ _ c.set.new.self c.take_near.ensures.moved c.args.path.text.now c.in-Ok.ensures.near.free (view c.args.entry) same))
    c.set.ensures.table

pub returns-in-Ok-clause-changed : goal.returns-in-Ok-clause-changed
returns-in-Ok-clause-changed c =
    ok_both c.set.result
    (λ same marks. marks_of _ _ c.self.view_is _ c.set.new.self.changed (set_marks _ _ _ _ _ _ c.set.new.self c.take_near.ensures.moved c.args.path.text.now c.in-Ok.ensures.near.free (view c.args.entry) same marks))
    c.set.ensures.table c.set.ensures.changed

pub returns-in-Ok-clause-places : goal.returns-in-Ok-clause-places
returns-in-Ok-clause-places c =
    on_ok_weaker c.set.result
    (λ nodes. places_of _ _ c.self.view_is _ (set_keeps _ _ _ _ _ _ c.set.new.self c.take_near.ensures.moved c.args.path.text.now (view c.args.entry) nodes)) c.set.ensures.nodes

pub returns-in-Ok-clause-lent : goal.returns-in-Ok-clause-lent
returns-in-Ok-clause-lent c =
    ok_both c.set.result
    (λ table ends. lends_held (docket.view c.self.inside.image.docket) c.self.inside.image.bytes.now c.self.inside.left c.take_near.new.left c.self.inside.memory c.set.new.self c.args.self.now c.self.view_is c.args.path.text.now
    (lends_in _ _ _ _ _ _ c.set.new.self c.take_near.ensures.moved c.self.invariant.2 c.args.path.text.now c.args.path.is_path c.in-Ok.ensures.near.free ends
    (kept_table _ _ _ _ _ _ c.set.new.self c.take_near.ensures.moved)
    (set_own _ _ _ _ _ _ c.set.new.self c.take_near.ensures.moved c.args.path.text.now c.in-Ok.ensures.near.free (view c.args.entry) table)))
    c.set.ensures.table c.set.ensures.kept

pub returns-in-Err-clause-quiet : goal.returns-in-Err-clause-quiet
returns-in-Err-clause-quiet c = λ is. absurd (by_false _ _ _ c.says.ensures.is c.if-says.false is)

pub returns-in-Ok-clause-quiet : goal.returns-in-Ok-clause-quiet
returns-in-Ok-clause-quiet c = λ is. absurd (by_false _ _ _ c.says.ensures.is c.if-says.false is)
