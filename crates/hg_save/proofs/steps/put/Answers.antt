use Rattle.std.proofs.Common.{◌∙◌}
use Rattle.hg_shelf.specs.Images.{course}
use Rattle.hg_shelf.proofs.Scenes.{goes_trans}
use Rattle.hg_save.proofs.Own.{tears_failed, tears_synced, tears_unsynced}
use Rattle.hg_save.proofs.Parts.{put_leads, put_sure, sync_failed, write_failed}
use Rattle.hg_save.proofs.Turning.{either_acts, either_perhaps, either_then, stays_acts, stays_passes}
use Rattle.hg_save.proofs.Held.{held_acts, held_either, held_passes, held_then}
use Rattle.hg_shelf.specs.Rules.{Syncs, Tears, Writes}
use Rattle.hg_save.proofs.steps.put.Goals as goal

pub returns-in_err-write_at-clause-torn : goal.returns-in_err-write_at-clause-torn
returns-in_err-write_at-clause-torn g c = λ calm.
    write_failed c.args.name.now c.args.place c.args.bytes.now
    (course (g.S.Shelf.history c.args.shelf.now) (g.S.Shelf.images c.args.shelf.now)) (course (g.S.Shelf.history c.write_at.new.self) (g.S.Shelf.images c.write_at.new.self))
    c.requires c.in_err-write_at.ensures.ours c.in_err-write_at.ensures.kept calm (c.in_err-write_at.ensures.torn calm.told)

pub returns-in_err-sync-clause-torn : goal.returns-in_err-sync-clause-torn
returns-in_err-sync-clause-torn g c = λ calm.
    sync_failed c.args.name.now c.args.place c.args.bytes.now
    (course (g.S.Shelf.history c.args.shelf.now) (g.S.Shelf.images c.args.shelf.now)) (course (g.S.Shelf.history c.write_at.new.self) (g.S.Shelf.images c.write_at.new.self))
    (course (g.S.Shelf.history c.sync.new.self) (g.S.Shelf.images c.sync.new.self))
    c.requires c.in_ok-write_at.ensures.ours c.in_ok-write_at.ensures.kept c.in_err-sync.ensures.kept calm (c.in_ok-write_at.ensures.written calm.told) c.in_err-sync.ensures.unsynced

pub returns-in_err-sync-clause-kept : goal.returns-in_err-sync-clause-kept
returns-in_err-sync-clause-kept g c = goes_trans _ _ _ c.in_ok-write_at.ensures.kept c.in_err-sync.ensures.kept

pub returns-clause-torn : goal.returns-clause-torn
returns-clause-torn g c = λ calm.
    put_leads c.args.name.now c.args.place c.args.bytes.now
    (course (g.S.Shelf.history c.args.shelf.now) (g.S.Shelf.images c.args.shelf.now)) (course (g.S.Shelf.history c.write_at.new.self) (g.S.Shelf.images c.write_at.new.self))
    (course (g.S.Shelf.history c.sync.new.self) (g.S.Shelf.images c.sync.new.self))
    c.requires c.in_ok-write_at.ensures.ours c.in_ok-sync.ensures.ours c.in_ok-write_at.ensures.kept c.in_ok-sync.ensures.kept calm (c.in_ok-write_at.ensures.written calm.told)
    (c.in_ok-sync.ensures.synced (c.in_ok-write_at.ensures.kept.past.told ∙ calm.told))

pub returns-clause-sure : goal.returns-clause-sure
returns-clause-sure g c = λ calm.
    put_sure c.args.name.now c.args.place c.args.bytes.now
    (course (g.S.Shelf.history c.args.shelf.now) (g.S.Shelf.images c.args.shelf.now)) (course (g.S.Shelf.history c.write_at.new.self) (g.S.Shelf.images c.write_at.new.self))
    (course (g.S.Shelf.history c.sync.new.self) (g.S.Shelf.images c.sync.new.self))
    c.requires c.in_ok-write_at.ensures.ours c.in_ok-sync.ensures.ours c.in_ok-write_at.ensures.kept c.in_ok-sync.ensures.kept calm (c.in_ok-write_at.ensures.written calm.told)
    (c.in_ok-sync.ensures.synced (c.in_ok-write_at.ensures.kept.past.told ∙ calm.told))

pub returns-clause-kept : goal.returns-clause-kept
returns-clause-kept g c = goes_trans _ _ _ c.in_ok-write_at.ensures.kept c.in_ok-sync.ensures.kept

pub returns-in_err-write_at-clause-lock : goal.returns-in_err-write_at-clause-lock
returns-in_err-write_at-clause-lock g c = λ told. held_either (Tears c.args.name.now c.args.place c.args.bytes.now) (course (g.S.Shelf.history c.args.shelf.now) (g.S.Shelf.images c.args.shelf.now)) (course (g.S.Shelf.history c.write_at.new.self) (g.S.Shelf.images c.write_at.new.self)) c.requires (c.in_err-write_at.ensures.torn told)

pub returns-in_err-sync-clause-lock : goal.returns-in_err-sync-clause-lock
returns-in_err-sync-clause-lock g c = λ told.
    held_then (g.S.Shelf.history c.args.shelf.now) (g.S.Shelf.history c.write_at.new.self) (g.S.Shelf.history c.sync.new.self) c.in_err-sync.ensures.kept.past
    (held_acts (Writes c.args.name.now c.args.place c.args.bytes.now) (course (g.S.Shelf.history c.args.shelf.now) (g.S.Shelf.images c.args.shelf.now)) (course (g.S.Shelf.history c.write_at.new.self) (g.S.Shelf.images c.write_at.new.self)) c.requires (c.in_ok-write_at.ensures.written told))
    (held_passes (g.S.Shelf.history c.write_at.new.self) (g.S.Shelf.history c.sync.new.self) (c.in_ok-write_at.ensures.ours ∙ c.requires) c.in_err-sync.ensures.unsynced)

pub returns-clause-lock : goal.returns-clause-lock
returns-clause-lock g c = λ told.
    held_then (g.S.Shelf.history c.args.shelf.now) (g.S.Shelf.history c.write_at.new.self) (g.S.Shelf.history c.sync.new.self) c.in_ok-sync.ensures.kept.past
    (held_acts (Writes c.args.name.now c.args.place c.args.bytes.now) (course (g.S.Shelf.history c.args.shelf.now) (g.S.Shelf.images c.args.shelf.now)) (course (g.S.Shelf.history c.write_at.new.self) (g.S.Shelf.images c.write_at.new.self)) c.requires (c.in_ok-write_at.ensures.written told))
    (held_acts (Syncs c.args.name.now) (course (g.S.Shelf.history c.write_at.new.self) (g.S.Shelf.images c.write_at.new.self)) (course (g.S.Shelf.history c.sync.new.self) (g.S.Shelf.images c.sync.new.self)) (c.in_ok-write_at.ensures.ours ∙ c.requires) (c.in_ok-sync.ensures.synced (c.in_ok-write_at.ensures.kept.past.told ∙ told)))

pub returns-in_err-write_at-clause-tears : goal.returns-in_err-write_at-clause-tears
returns-in_err-write_at-clause-tears g c = λ calm.
    tears_failed c.args.name.now c.args.place c.args.bytes.now
    (course (g.S.Shelf.history c.args.shelf.now) (g.S.Shelf.images c.args.shelf.now)) (course (g.S.Shelf.history c.write_at.new.self) (g.S.Shelf.images c.write_at.new.self))
    c.requires (c.in_err-write_at.ensures.torn calm.told)

pub returns-in_err-sync-clause-tears : goal.returns-in_err-sync-clause-tears
returns-in_err-sync-clause-tears g c = λ calm.
    tears_unsynced c.args.name.now c.args.place c.args.bytes.now
    (course (g.S.Shelf.history c.args.shelf.now) (g.S.Shelf.images c.args.shelf.now)) (course (g.S.Shelf.history c.write_at.new.self) (g.S.Shelf.images c.write_at.new.self)) c.requires
    (course (g.S.Shelf.history c.sync.new.self) (g.S.Shelf.images c.sync.new.self))
    c.in_ok-write_at.ensures.ours c.in_err-sync.ensures.kept (c.in_ok-write_at.ensures.written calm.told) c.in_err-sync.ensures.unsynced

pub returns-clause-tears : goal.returns-clause-tears
returns-clause-tears g c = λ calm.
    tears_synced c.args.name.now c.args.place c.args.bytes.now
    (course (g.S.Shelf.history c.args.shelf.now) (g.S.Shelf.images c.args.shelf.now)) (course (g.S.Shelf.history c.write_at.new.self) (g.S.Shelf.images c.write_at.new.self)) c.requires
    (course (g.S.Shelf.history c.sync.new.self) (g.S.Shelf.images c.sync.new.self))
    c.in_ok-write_at.ensures.ours c.in_ok-sync.ensures.kept (c.in_ok-write_at.ensures.written calm.told) (c.in_ok-sync.ensures.synced (c.in_ok-write_at.ensures.kept.past.told ∙ calm.told))

pub returns-in_err-write_at-clause-either : goal.returns-in_err-write_at-clause-either
returns-in_err-write_at-clause-either g c = λ calm.
    either_perhaps (Tears c.args.name.now c.args.place c.args.bytes.now) (course (g.S.Shelf.history c.args.shelf.now) (g.S.Shelf.images c.args.shelf.now)) (course (g.S.Shelf.history c.write_at.new.self) (g.S.Shelf.images c.write_at.new.self)) c.requires c.in_err-write_at.ensures.kept calm (c.in_err-write_at.ensures.torn calm.told)

pub returns-in_err-sync-clause-either : goal.returns-in_err-sync-clause-either
returns-in_err-sync-clause-either g c = λ calm.
    either_then (course (g.S.Shelf.history c.args.shelf.now) (g.S.Shelf.images c.args.shelf.now)) (course (g.S.Shelf.history c.write_at.new.self) (g.S.Shelf.images c.write_at.new.self)) (course (g.S.Shelf.history c.sync.new.self) (g.S.Shelf.images c.sync.new.self)) c.in_ok-write_at.ensures.kept c.in_err-sync.ensures.kept calm
    (λ calm. either_acts (Writes c.args.name.now c.args.place c.args.bytes.now) (course (g.S.Shelf.history c.args.shelf.now) (g.S.Shelf.images c.args.shelf.now)) (course (g.S.Shelf.history c.write_at.new.self) (g.S.Shelf.images c.write_at.new.self)) c.requires c.in_ok-write_at.ensures.kept calm (c.in_ok-write_at.ensures.written calm.told))
    (λ calm. stays_passes (course (g.S.Shelf.history c.write_at.new.self) (g.S.Shelf.images c.write_at.new.self)) (course (g.S.Shelf.history c.sync.new.self) (g.S.Shelf.images c.sync.new.self)) (c.in_ok-write_at.ensures.ours ∙ c.requires) c.in_err-sync.ensures.kept calm c.in_err-sync.ensures.unsynced)

pub returns-clause-either : goal.returns-clause-either
returns-clause-either g c = λ calm.
    either_then (course (g.S.Shelf.history c.args.shelf.now) (g.S.Shelf.images c.args.shelf.now)) (course (g.S.Shelf.history c.write_at.new.self) (g.S.Shelf.images c.write_at.new.self)) (course (g.S.Shelf.history c.sync.new.self) (g.S.Shelf.images c.sync.new.self)) c.in_ok-write_at.ensures.kept c.in_ok-sync.ensures.kept calm
    (λ calm. either_acts (Writes c.args.name.now c.args.place c.args.bytes.now) (course (g.S.Shelf.history c.args.shelf.now) (g.S.Shelf.images c.args.shelf.now)) (course (g.S.Shelf.history c.write_at.new.self) (g.S.Shelf.images c.write_at.new.self)) c.requires c.in_ok-write_at.ensures.kept calm (c.in_ok-write_at.ensures.written calm.told))
    (λ calm. stays_acts (Syncs c.args.name.now) (course (g.S.Shelf.history c.write_at.new.self) (g.S.Shelf.images c.write_at.new.self)) (course (g.S.Shelf.history c.sync.new.self) (g.S.Shelf.images c.sync.new.self)) (c.in_ok-write_at.ensures.ours ∙ c.requires) c.in_ok-sync.ensures.kept calm (λ x y step. step.same.shown) (c.in_ok-sync.ensures.synced calm.told))
