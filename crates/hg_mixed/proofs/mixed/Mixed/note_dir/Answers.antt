use Rattle.std.proofs.Common.{Some, sym, ◌∙◌}
use Rattle.hg_entry.specs.Entry.{cache_view}
use Rattle.std.proofs.lemmas.Result.{on_ok_weaker}
use Rattle.hg_nodes.specs.Edits.{after_cache}
use Rattle.hg_mixed.proofs.Lifted.{cache_marks, cache_own, cache_parted, cache_table, edit_of, kept_parted, kept_table, marks_of, node_of, none_of, ok_both, ok_or_err, ok_three}
use Rattle.hg_mixed.proofs.Placed.{places_of, same_keeps, same_placed}
use Rattle.hg_mixed.proofs.LentWhole.{cache_whole, kept_whole, lends_held, lends_in}
use Rattle.hg_mixed.proofs.Quiet.{by_false, by_true, quiet_cache, quiet_lends, quiet_marks}
use Rattle.hg_docket.specs.Docket as docket
use Rattle.hg_mixed.proofs.mixed.Mixed.note_dir.Goals as goal

pub returns-then-same_cache-clause-table : goal.returns-then-same_cache-clause-table
returns-then-same_cache-clause-table c = quiet_cache c.args.self.now c.args.dir.text.now (Some (cache_view c.args.time)) (sym c.cache.ensures ∙ by_true _ _ _ c.same_cache.ensures c.if-same_cache.true)

pub returns-then-same_cache-clause-changed : goal.returns-then-same_cache-clause-changed
returns-then-same_cache-clause-changed c = quiet_marks c.args.self.now

pub returns-then-same_cache-clause-lent : goal.returns-then-same_cache-clause-lent
returns-then-same_cache-clause-lent c = quiet_lends c.args.self.now c.args.dir.text.now

pub invariant_of-self-in-Ok : goal.invariant_of-self-in-Ok
invariant_of-self-in-Ok c = (
  ok_or_err c.note_dir.result
      (λ same. cache_parted _ _ _ _ _ _ c.note_dir.new.self c.take_for.ensures.moved c.args.dir.text.now c.in-Ok.ensures.free.above (Some (cache_view c.args.time)) same (node_of _ _ c.self.view_is c.args.dir.text.now c.requires.node)
      (none_of _ _ c.self.view_is c.args.dir.text.now c.requires.no_entry))
      (λ kept. kept_parted _ _ _ _ _ _ c.note_dir.new.self c.take_for.ensures.moved kept.table) c.note_dir.ensures.table c.note_dir.ensures.err,
  ok_or_err c.note_dir.result
      (λ nodes. same_placed _ _ _ _ _ _ c.note_dir.new.self c.take_for.ensures.moved nodes c.self.invariant.1)
      (λ kept. same_placed _ _ _ _ _ _ c.note_dir.new.self c.take_for.ensures.moved kept.nodes c.self.invariant.1) c.note_dir.ensures.nodes c.note_dir.ensures.err,
  ok_or_err c.note_dir.result (λ whole. whole) (λ kept. kept_whole _ _ _ _ _ _ c.note_dir.new.self c.take_for.ensures.moved c.self.invariant.2 kept.nodes kept.table kept.kept)
      (ok_three c.note_dir.result
      (λ nodes table ends. cache_whole _ _ _ _ _ _ c.note_dir.new.self c.take_for.ensures.moved c.self.invariant.2 c.args.dir.text.now c.args.dir.is_path c.in-Ok.ensures.free.above ends (Some (cache_view c.args.time)) nodes table)
      c.note_dir.ensures.nodes c.note_dir.ensures.table c.note_dir.ensures.kept) c.note_dir.ensures.err,
)

pub returns-in-Ok-clause-table : goal.returns-in-Ok-clause-table
returns-in-Ok-clause-table c =
    on_ok_weaker c.note_dir.result
    (λ same. edit_of _ _ c.self.view_is (after_cache c.args.dir.text.now (Some (cache_view c.args.time))) _ (cache_table _ _ _ _ _ _ c.note_dir.new.self c.take_for.ensures.moved c.args.dir.text.now c.in-Ok.ensures.free.above (Some (cache_view c.args.time)) same))
    c.note_dir.ensures.table

pub returns-in-Ok-clause-changed : goal.returns-in-Ok-clause-changed
returns-in-Ok-clause-changed c =
    ok_both c.note_dir.result
    (λ same marks. marks_of _ _ c.self.view_is _ c.note_dir.new.self.changed (cache_marks _ _ _ _ _ _ c.note_dir.new.self c.take_for.ensures.moved c.args.dir.text.now c.in-Ok.ensures.free.above (Some (cache_view c.args.time)) same marks))
    c.note_dir.ensures.table c.note_dir.ensures.changed

pub returns-in-Ok-clause-places : goal.returns-in-Ok-clause-places
returns-in-Ok-clause-places c =
    on_ok_weaker c.note_dir.result (λ nodes. places_of _ _ c.self.view_is _ (same_keeps _ _ _ _ _ _ c.note_dir.new.self c.take_for.ensures.moved nodes)) c.note_dir.ensures.nodes

pub returns-in-Ok-clause-lent : goal.returns-in-Ok-clause-lent
returns-in-Ok-clause-lent c =
    ok_both c.note_dir.result
    (λ table ends. lends_held (docket.view c.self.inside.image.docket) c.self.inside.image.bytes.now c.self.inside.left c.take_for.new.left c.self.inside.memory c.note_dir.new.self c.args.self.now c.self.view_is c.args.dir.text.now
    (lends_in _ _ _ _ _ _ c.note_dir.new.self c.take_for.ensures.moved c.self.invariant.2 c.args.dir.text.now c.args.dir.is_path c.in-Ok.ensures.free.above ends
    (kept_table _ _ _ _ _ _ c.note_dir.new.self c.take_for.ensures.moved)
    (cache_own _ _ _ _ _ _ c.note_dir.new.self c.take_for.ensures.moved c.args.dir.text.now c.in-Ok.ensures.free.above (Some (cache_view c.args.time)) table)))
    c.note_dir.ensures.table c.note_dir.ensures.kept

pub returns-in-Err-clause-quiet : goal.returns-in-Err-clause-quiet
returns-in-Err-clause-quiet c = λ is. absurd (by_false _ _ _ c.same_cache.ensures c.if-same_cache.false (c.cache.ensures ∙ is))

pub returns-in-Ok-clause-quiet : goal.returns-in-Ok-clause-quiet
returns-in-Ok-clause-quiet c = λ is. absurd (by_false _ _ _ c.same_cache.ensures c.if-same_cache.false (c.cache.ensures ∙ is))
