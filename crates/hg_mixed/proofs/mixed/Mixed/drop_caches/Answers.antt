use Rattle.std.proofs.Common.{refl, ◌∙◌}
use Rattle.std.proofs.lemmas.Result.{on_err_weaker, on_ok_weaker}
use Rattle.hg_nodes.specs.Edits.{after_no_caches}
use Rattle.hg_mixed.specs.Parted.{image_rows}
use Rattle.hg_mixed.proofs.Lifted.{edit_of, kept_parted, kept_table, marks_of, no_caches_marks, no_caches_parted, no_caches_table, ok_both, ok_or_err, ok_three, unchanged}
use Rattle.hg_mixed.proofs.Placed.{places_of, same_keeps, same_nodes, same_placed}
use Rattle.hg_mixed.proofs.LentWhole.{ended_uncached, kept_whole, lent_still, lent_uncached, uncached_held, uncached_whole}
use Rattle.hg_mixed.proofs.Quiet.{by_false, quiet_lends_uncached, quiet_marks, quiet_uncached}
use Rattle.hg_docket.specs.Docket as docket
use Rattle.hg_mixed.proofs.mixed.Mixed.drop_caches.Goals as goal

pub invariant_of-self-in-Ok : goal.invariant_of-self-in-Ok
invariant_of-self-in-Ok c = (
  ok_or_err c.drop_caches.result
      (λ same. no_caches_parted _ _ _ _ _ _ c.drop_caches.new.self c.take_all.ensures.moved c.in-Ok.ensures.all same)
      (λ kept. kept_parted _ _ _ _ _ _ c.drop_caches.new.self c.take_all.ensures.moved kept.table) c.drop_caches.ensures.table c.drop_caches.ensures.err,
  ok_or_err c.drop_caches.result
      (λ nodes. same_placed _ _ _ _ _ _ c.drop_caches.new.self c.take_all.ensures.moved nodes c.self.invariant.1)
      (λ kept. same_placed _ _ _ _ _ _ c.drop_caches.new.self c.take_all.ensures.moved kept.nodes c.self.invariant.1) c.drop_caches.ensures.nodes c.drop_caches.ensures.err,
  ok_or_err c.drop_caches.result (λ whole. whole) (λ kept. kept_whole _ _ _ _ _ _ c.drop_caches.new.self c.take_all.ensures.moved c.self.invariant.2 kept.nodes kept.table kept.kept)
      (ok_three c.drop_caches.result
      (λ nodes table ended. uncached_whole _ _ _ _ _ _ c.drop_caches.new.self c.take_all.ensures.moved c.in-Ok.ensures.all ended nodes table c.self.invariant.2)
      c.drop_caches.ensures.nodes c.drop_caches.ensures.table c.drop_caches.ensures.kept) c.drop_caches.ensures.err,
)

pub returns-in-Ok-clause-table : goal.returns-in-Ok-clause-table
returns-in-Ok-clause-table c =
    on_ok_weaker c.drop_caches.result
    (λ same. edit_of _ _ c.self.view_is after_no_caches _ (no_caches_table _ _ _ _ _ _ c.drop_caches.new.self c.take_all.ensures.moved c.in-Ok.ensures.all same))
    c.drop_caches.ensures.table

pub returns-in-Ok-clause-changed : goal.returns-in-Ok-clause-changed
returns-in-Ok-clause-changed c =
    ok_both c.drop_caches.result
    (λ same marks. marks_of _ _ c.self.view_is _ c.drop_caches.new.self.changed (no_caches_marks _ _ _ _ _ _ c.drop_caches.new.self c.take_all.ensures.moved c.in-Ok.ensures.all same marks))
    c.drop_caches.ensures.table c.drop_caches.ensures.changed

pub returns-in-Ok-clause-err : goal.returns-in-Ok-clause-err
returns-in-Ok-clause-err c =
    on_err_weaker c.drop_caches.result
    (λ kept. unchanged _ _ c.self.view_is _ (kept_table _ _ _ _ _ _ c.drop_caches.new.self c.take_all.ensures.moved kept.table) (kept.changed ∙ c.take_all.ensures.moved.changed) (λ dir. lent_still (image_rows c.self.inside.image) c.take_all.new.left c.take_all.new.memory c.drop_caches.new.self kept.kept dir ∙ c.take_all.ensures.moved.lent dir) (same_nodes _ _ _ _ _ _ c.drop_caches.new.self c.take_all.ensures.moved kept.nodes) refl refl)
    c.drop_caches.ensures.err

pub returns-in-Ok-clause-places : goal.returns-in-Ok-clause-places
returns-in-Ok-clause-places c =
    on_ok_weaker c.drop_caches.result (λ nodes. places_of _ _ c.self.view_is _ (same_keeps _ _ _ _ _ _ c.drop_caches.new.self c.take_all.ensures.moved nodes)) c.drop_caches.ensures.nodes

pub returns-in-Ok-clause-lent : goal.returns-in-Ok-clause-lent
returns-in-Ok-clause-lent c =
    on_ok_weaker c.drop_caches.result
    (λ ended. uncached_held (docket.view c.self.inside.image.docket) c.self.inside.image.bytes.now c.self.inside.left c.take_all.new.left c.self.inside.memory c.drop_caches.new.self c.args.self.now c.self.view_is
    (lent_uncached _ _ _ _ _ _ c.drop_caches.new.self c.take_all.ensures.moved c.in-Ok.ensures.all ended)
    (ended_uncached _ _ _ _ _ _ c.drop_caches.new.self c.take_all.ensures.moved c.in-Ok.ensures.all ended))
    c.drop_caches.ensures.kept

pub returns-then-not-has_caches-clause-table : goal.returns-then-not-has_caches-clause-table
returns-then-not-has_caches-clause-table c = quiet_uncached c.args.self.now (by_false _ _ _ c.has_caches.ensures c.if-not-has_caches.true)

pub returns-then-not-has_caches-clause-changed : goal.returns-then-not-has_caches-clause-changed
returns-then-not-has_caches-clause-changed c = quiet_marks c.args.self.now

pub returns-then-not-has_caches-clause-lent : goal.returns-then-not-has_caches-clause-lent
returns-then-not-has_caches-clause-lent c = quiet_lends_uncached c.args.self.now (by_false _ _ _ c.has_caches.ensures c.if-not-has_caches.true)
