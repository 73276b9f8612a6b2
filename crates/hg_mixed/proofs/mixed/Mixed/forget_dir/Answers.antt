use Rattle.std.proofs.Common.{None, sym, ◌∙◌}
use Rattle.std.proofs.lemmas.Result.{on_ok_weaker}
use Rattle.hg_nodes.specs.Edits.{after_cache}
use Rattle.hg_mixed.proofs.Lifted.{cache_marks, cache_own, cache_parted, cache_table, edit_of, kept_parted, kept_table, marks_of, node_of, none_of, ok_both, ok_or_err, ok_three}
use Rattle.hg_mixed.proofs.Placed.{places_of, same_keeps, same_placed}
use Rattle.hg_mixed.proofs.LentWhole.{cache_whole, kept_whole, lends_held, lends_in}
use Rattle.hg_mixed.proofs.Quiet.{none_cached, quiet_cache, quiet_lends, quiet_marks, some_cached}
use Rattle.hg_docket.specs.Docket as docket
use Rattle.hg_mixed.proofs.mixed.Mixed.forget_dir.Goals as goal

pub returns-then-is_none-clause-table : goal.returns-then-is_none-clause-table
returns-then-is_none-clause-table c = quiet_cache c.args.self.now c.args.dir.text.now None (sym c.cache.ensures ∙ none_cached c.cache.result c.is_none.result c.is_none.ensures c.if-is_none.true)

pub returns-then-is_none-clause-changed : goal.returns-then-is_none-clause-changed
returns-then-is_none-clause-changed c = quiet_marks c.args.self.now

pub returns-then-is_none-clause-lent : goal.returns-then-is_none-clause-lent
returns-then-is_none-clause-lent c = quiet_lends c.args.self.now c.args.dir.text.now

pub invariant_of-self-in-Ok : goal.invariant_of-self-in-Ok
invariant_of-self-in-Ok c = (
  ok_or_err c.forget_dir.result
      (λ same. cache_parted _ _ _ _ _ _ c.forget_dir.new.self c.take_for.ensures.moved c.args.dir.text.now c.in-Ok.ensures.free.above None same (node_of _ _ c.self.view_is c.args.dir.text.now c.requires.node)
      (none_of _ _ c.self.view_is c.args.dir.text.now c.requires.no_entry))
      (λ kept. kept_parted _ _ _ _ _ _ c.forget_dir.new.self c.take_for.ensures.moved kept.table) c.forget_dir.ensures.table c.forget_dir.ensures.err,
  ok_or_err c.forget_dir.result
      (λ nodes. same_placed _ _ _ _ _ _ c.forget_dir.new.self c.take_for.ensures.moved nodes c.self.invariant.1)
      (λ kept. same_placed _ _ _ _ _ _ c.forget_dir.new.self c.take_for.ensures.moved kept.nodes c.self.invariant.1) c.forget_dir.ensures.nodes c.forget_dir.ensures.err,
  ok_or_err c.forget_dir.result (λ whole. whole) (λ kept. kept_whole _ _ _ _ _ _ c.forget_dir.new.self c.take_for.ensures.moved c.self.invariant.2 kept.nodes kept.table kept.kept)
      (ok_three c.forget_dir.result
      (λ nodes table ends. cache_whole _ _ _ _ _ _ c.forget_dir.new.self c.take_for.ensures.moved c.self.invariant.2 c.args.dir.text.now c.args.dir.is_path c.in-Ok.ensures.free.above ends None nodes table)
      c.forget_dir.ensures.nodes c.forget_dir.ensures.table c.forget_dir.ensures.kept) c.forget_dir.ensures.err,
)

pub returns-in-Ok-clause-table : goal.returns-in-Ok-clause-table
returns-in-Ok-clause-table c =
    on_ok_weaker c.forget_dir.result
    (λ same. edit_of _ _ c.self.view_is (after_cache c.args.dir.text.now None) _ (cache_table _ _ _ _ _ _ c.forget_dir.new.self c.take_for.ensures.moved c.args.dir.text.now c.in-Ok.ensures.free.above None same))
    c.forget_dir.ensures.table

pub returns-in-Ok-clause-changed : goal.returns-in-Ok-clause-changed
returns-in-Ok-clause-changed c =
    ok_both c.forget_dir.result
    (λ same marks. marks_of _ _ c.self.view_is _ c.forget_dir.new.self.changed (cache_marks _ _ _ _ _ _ c.forget_dir.new.self c.take_for.ensures.moved c.args.dir.text.now c.in-Ok.ensures.free.above None same marks))
    c.forget_dir.ensures.table c.forget_dir.ensures.changed

pub returns-in-Ok-clause-places : goal.returns-in-Ok-clause-places
returns-in-Ok-clause-places c =
    on_ok_weaker c.forget_dir.result (λ nodes. places_of _ _ c.self.view_is _ (same_keeps _ _ _ _ _ _ c.forget_dir.new.self c.take_for.ensures.moved nodes)) c.forget_dir.ensures.nodes

pub returns-in-Ok-clause-lent : goal.returns-in-Ok-clause-lent
returns-in-Ok-clause-lent c =
    ok_both c.forget_dir.result
    (λ table ends. lends_held (docket.view c.self.inside.image.docket) c.self.inside.image.bytes.now c.self.inside.left c.take_for.new.left c.self.inside.memory c.forget_dir.new.self c.args.self.now c.self.view_is c.args.dir.text.now
    (lends_in _ _ _ _ _ _ c.forget_dir.new.self c.take_for.ensures.moved c.self.invariant.2 c.args.dir.text.now c.args.dir.is_path c.in-Ok.ensures.free.above ends
    (kept_table _ _ _ _ _ _ c.forget_dir.new.self c.take_for.ensures.moved)
    (cache_own _ _ _ _ _ _ c.forget_dir.new.self c.take_for.ensures.moved c.args.dir.text.now c.in-Ok.ensures.free.above None table)))
    c.forget_dir.ensures.table c.forget_dir.ensures.kept

pub returns-in-Err-clause-quiet : goal.returns-in-Err-clause-quiet
returns-in-Err-clause-quiet c = λ is. absurd (some_cached c.cache.result c.is_none.result c.is_none.ensures c.if-is_none.false (c.cache.ensures ∙ is))

pub returns-in-Ok-clause-quiet : goal.returns-in-Ok-clause-quiet
returns-in-Ok-clause-quiet c = λ is. absurd (some_cached c.cache.result c.is_none.result c.is_none.ensures c.if-is_none.false (c.cache.ensures ∙ is))
