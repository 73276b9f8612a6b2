use Rattle.std.proofs.Common.{◌∙◌, inl}
use Rattle.hg_shelf.specs.Images.{course}
use Rattle.hg_shelf.proofs.Scenes.{goes_trans}
use Rattle.hg_save.proofs.Own.{names_failed_steps, rename_failed_steps, swap_steps}
use Rattle.hg_save.proofs.Parts.{names_failed, names_whole, rename_failed, rename_whole, swap_done, swap_leads}
use Rattle.hg_save.proofs.Turning.{either_acts, either_perhaps, either_then, stays_acts, stays_passes}
use Rattle.hg_save.proofs.Held.{held_acts, held_either, held_passes, held_then}
use Rattle.hg_shelf.specs.Rules.{Renames, SyncsNames}
use Rattle.hg_save.proofs.steps.swap.Goals as goal

pub returns-in_err-rename-clause-leads : goal.returns-in_err-rename-clause-leads
returns-in_err-rename-clause-leads g c = λ calm there.
    rename_failed c.args.from.now c.args.to.now
    (course (g.S.Shelf.history c.args.shelf.now) (g.S.Shelf.images c.args.shelf.now)) (course (g.S.Shelf.history c.rename.new.self) (g.S.Shelf.images c.rename.new.self))
    c.requires c.in_err-rename.ensures.ours c.in_err-rename.ensures.kept calm there (c.in_err-rename.ensures.perhaps calm.told)

pub returns-in_err-sync_names-clause-leads : goal.returns-in_err-sync_names-clause-leads
returns-in_err-sync_names-clause-leads g c = λ calm there.
    names_failed c.args.from.now c.args.to.now
    (course (g.S.Shelf.history c.args.shelf.now) (g.S.Shelf.images c.args.shelf.now)) (course (g.S.Shelf.history c.rename.new.self) (g.S.Shelf.images c.rename.new.self))
    (course (g.S.Shelf.history c.sync_names.new.self) (g.S.Shelf.images c.sync_names.new.self))
    c.requires c.in_ok-rename.ensures.ours c.in_ok-rename.ensures.kept c.in_err-sync_names.ensures.kept calm there (c.in_ok-rename.ensures.renamed calm.told) c.in_err-sync_names.ensures.unsynced

pub returns-in_err-sync_names-clause-kept : goal.returns-in_err-sync_names-clause-kept
returns-in_err-sync_names-clause-kept g c = goes_trans _ _ _ c.in_ok-rename.ensures.kept c.in_err-sync_names.ensures.kept

pub returns-clause-leads : goal.returns-clause-leads
returns-clause-leads g c = λ calm there.
    swap_leads c.args.from.now c.args.to.now
    (course (g.S.Shelf.history c.args.shelf.now) (g.S.Shelf.images c.args.shelf.now)) (course (g.S.Shelf.history c.rename.new.self) (g.S.Shelf.images c.rename.new.self))
    (course (g.S.Shelf.history c.sync_names.new.self) (g.S.Shelf.images c.sync_names.new.self))
    c.requires c.in_ok-rename.ensures.ours c.in_ok-sync_names.ensures.ours c.in_ok-rename.ensures.kept c.in_ok-sync_names.ensures.kept calm there
    (λ f is. g.met.S.Shelf.named_leaves c.args.shelf.now (g.S.Shelf.history c.args.shelf.now).last f is)
    (c.in_ok-rename.ensures.renamed calm.told) (c.in_ok-sync_names.ensures.synced (c.in_ok-rename.ensures.kept.past.told ∙ calm.told))

pub returns-clause-done : goal.returns-clause-done
returns-clause-done g c = λ calm there.
    swap_done c.args.from.now c.args.to.now
    (course (g.S.Shelf.history c.args.shelf.now) (g.S.Shelf.images c.args.shelf.now)) (course (g.S.Shelf.history c.rename.new.self) (g.S.Shelf.images c.rename.new.self))
    (course (g.S.Shelf.history c.sync_names.new.self) (g.S.Shelf.images c.sync_names.new.self))
    c.requires c.in_ok-rename.ensures.ours c.in_ok-sync_names.ensures.ours c.in_ok-rename.ensures.kept c.in_ok-sync_names.ensures.kept calm there
    (λ f is. g.met.S.Shelf.named_leaves c.args.shelf.now (g.S.Shelf.history c.args.shelf.now).last f is)
    (c.in_ok-rename.ensures.renamed calm.told) (c.in_ok-sync_names.ensures.synced (c.in_ok-rename.ensures.kept.past.told ∙ calm.told))

pub returns-clause-kept : goal.returns-clause-kept
returns-clause-kept g c = goes_trans _ _ _ c.in_ok-rename.ensures.kept c.in_ok-sync_names.ensures.kept

pub returns-in_err-rename-clause-whole : goal.returns-in_err-rename-clause-whole
returns-in_err-rename-clause-whole g c = λ calm there.
    rename_whole c.args.from.now c.args.to.now
    (course (g.S.Shelf.history c.args.shelf.now) (g.S.Shelf.images c.args.shelf.now)) (course (g.S.Shelf.history c.rename.new.self) (g.S.Shelf.images c.rename.new.self))
    c.requires c.in_err-rename.ensures.ours c.in_err-rename.ensures.kept calm there (c.in_err-rename.ensures.perhaps calm.told)

pub returns-in_err-sync_names-clause-whole : goal.returns-in_err-sync_names-clause-whole
returns-in_err-sync_names-clause-whole g c = λ calm there.
    names_whole c.args.from.now c.args.to.now
    (course (g.S.Shelf.history c.args.shelf.now) (g.S.Shelf.images c.args.shelf.now)) (course (g.S.Shelf.history c.rename.new.self) (g.S.Shelf.images c.rename.new.self))
    (course (g.S.Shelf.history c.sync_names.new.self) (g.S.Shelf.images c.sync_names.new.self))
    c.requires c.in_ok-rename.ensures.ours c.in_ok-rename.ensures.kept c.in_err-sync_names.ensures.kept calm there (c.in_ok-rename.ensures.renamed calm.told) c.in_err-sync_names.ensures.unsynced

pub returns-clause-whole : goal.returns-clause-whole
returns-clause-whole g c = λ calm there.
    inl (swap_done c.args.from.now c.args.to.now
    (course (g.S.Shelf.history c.args.shelf.now) (g.S.Shelf.images c.args.shelf.now)) (course (g.S.Shelf.history c.rename.new.self) (g.S.Shelf.images c.rename.new.self))
    (course (g.S.Shelf.history c.sync_names.new.self) (g.S.Shelf.images c.sync_names.new.self))
    c.requires c.in_ok-rename.ensures.ours c.in_ok-sync_names.ensures.ours c.in_ok-rename.ensures.kept c.in_ok-sync_names.ensures.kept calm there
    (λ f is. g.met.S.Shelf.named_leaves c.args.shelf.now (g.S.Shelf.history c.args.shelf.now).last f is)
    (c.in_ok-rename.ensures.renamed calm.told) (c.in_ok-sync_names.ensures.synced (c.in_ok-rename.ensures.kept.past.told ∙ calm.told))).shown

pub returns-in_err-rename-clause-steps : goal.returns-in_err-rename-clause-steps
returns-in_err-rename-clause-steps g c = λ calm there.
    rename_failed_steps c.args.from.now c.args.to.now
    (course (g.S.Shelf.history c.args.shelf.now) (g.S.Shelf.images c.args.shelf.now)) (course (g.S.Shelf.history c.rename.new.self) (g.S.Shelf.images c.rename.new.self))
    c.requires c.in_err-rename.ensures.kept there calm (c.in_err-rename.ensures.perhaps calm.told)

pub returns-in_err-sync_names-clause-steps : goal.returns-in_err-sync_names-clause-steps
returns-in_err-sync_names-clause-steps g c = λ calm there.
    names_failed_steps c.args.from.now c.args.to.now
    (course (g.S.Shelf.history c.args.shelf.now) (g.S.Shelf.images c.args.shelf.now)) (course (g.S.Shelf.history c.rename.new.self) (g.S.Shelf.images c.rename.new.self)) c.requires c.in_ok-rename.ensures.kept there
    (course (g.S.Shelf.history c.sync_names.new.self) (g.S.Shelf.images c.sync_names.new.self))
    c.in_ok-rename.ensures.ours c.in_err-sync_names.ensures.kept calm (c.in_ok-rename.ensures.renamed calm.told) c.in_err-sync_names.ensures.unsynced

pub returns-clause-steps : goal.returns-clause-steps
returns-clause-steps g c = λ calm there.
    swap_steps c.args.from.now c.args.to.now
    (course (g.S.Shelf.history c.args.shelf.now) (g.S.Shelf.images c.args.shelf.now)) (course (g.S.Shelf.history c.rename.new.self) (g.S.Shelf.images c.rename.new.self)) c.requires c.in_ok-rename.ensures.kept there
    (course (g.S.Shelf.history c.sync_names.new.self) (g.S.Shelf.images c.sync_names.new.self))
    c.in_ok-rename.ensures.ours c.in_ok-sync_names.ensures.kept calm (c.in_ok-rename.ensures.renamed calm.told) (c.in_ok-sync_names.ensures.synced (c.in_ok-rename.ensures.kept.past.told ∙ calm.told))

pub returns-in_err-rename-clause-lock : goal.returns-in_err-rename-clause-lock
returns-in_err-rename-clause-lock g c = λ told. held_either (Renames c.args.from.now c.args.to.now) (course (g.S.Shelf.history c.args.shelf.now) (g.S.Shelf.images c.args.shelf.now)) (course (g.S.Shelf.history c.rename.new.self) (g.S.Shelf.images c.rename.new.self)) c.requires (c.in_err-rename.ensures.perhaps told)

pub returns-in_err-sync_names-clause-lock : goal.returns-in_err-sync_names-clause-lock
returns-in_err-sync_names-clause-lock g c = λ told.
    held_then (g.S.Shelf.history c.args.shelf.now) (g.S.Shelf.history c.rename.new.self) (g.S.Shelf.history c.sync_names.new.self) c.in_err-sync_names.ensures.kept.past
    (held_acts (Renames c.args.from.now c.args.to.now) (course (g.S.Shelf.history c.args.shelf.now) (g.S.Shelf.images c.args.shelf.now)) (course (g.S.Shelf.history c.rename.new.self) (g.S.Shelf.images c.rename.new.self)) c.requires (c.in_ok-rename.ensures.renamed told))
    (held_passes (g.S.Shelf.history c.rename.new.self) (g.S.Shelf.history c.sync_names.new.self) (c.in_ok-rename.ensures.ours ∙ c.requires) c.in_err-sync_names.ensures.unsynced)

pub returns-clause-lock : goal.returns-clause-lock
returns-clause-lock g c = λ told.
    held_then (g.S.Shelf.history c.args.shelf.now) (g.S.Shelf.history c.rename.new.self) (g.S.Shelf.history c.sync_names.new.self) c.in_ok-sync_names.ensures.kept.past
    (held_acts (Renames c.args.from.now c.args.to.now) (course (g.S.Shelf.history c.args.shelf.now) (g.S.Shelf.images c.args.shelf.now)) (course (g.S.Shelf.history c.rename.new.self) (g.S.Shelf.images c.rename.new.self)) c.requires (c.in_ok-rename.ensures.renamed told))
    (held_acts SyncsNames (course (g.S.Shelf.history c.rename.new.self) (g.S.Shelf.images c.rename.new.self)) (course (g.S.Shelf.history c.sync_names.new.self) (g.S.Shelf.images c.sync_names.new.self)) (c.in_ok-rename.ensures.ours ∙ c.requires) (c.in_ok-sync_names.ensures.synced (c.in_ok-rename.ensures.kept.past.told ∙ told)))

pub returns-in_err-rename-clause-either : goal.returns-in_err-rename-clause-either
returns-in_err-rename-clause-either g c = λ calm.
    either_perhaps (Renames c.args.from.now c.args.to.now) (course (g.S.Shelf.history c.args.shelf.now) (g.S.Shelf.images c.args.shelf.now)) (course (g.S.Shelf.history c.rename.new.self) (g.S.Shelf.images c.rename.new.self)) c.requires c.in_err-rename.ensures.kept calm (c.in_err-rename.ensures.perhaps calm.told)

pub returns-in_err-sync_names-clause-either : goal.returns-in_err-sync_names-clause-either
returns-in_err-sync_names-clause-either g c = λ calm.
    either_then (course (g.S.Shelf.history c.args.shelf.now) (g.S.Shelf.images c.args.shelf.now)) (course (g.S.Shelf.history c.rename.new.self) (g.S.Shelf.images c.rename.new.self)) (course (g.S.Shelf.history c.sync_names.new.self) (g.S.Shelf.images c.sync_names.new.self)) c.in_ok-rename.ensures.kept c.in_err-sync_names.ensures.kept calm
    (λ calm. either_acts (Renames c.args.from.now c.args.to.now) (course (g.S.Shelf.history c.args.shelf.now) (g.S.Shelf.images c.args.shelf.now)) (course (g.S.Shelf.history c.rename.new.self) (g.S.Shelf.images c.rename.new.self)) c.requires c.in_ok-rename.ensures.kept calm (c.in_ok-rename.ensures.renamed calm.told))
    (λ calm. stays_passes (course (g.S.Shelf.history c.rename.new.self) (g.S.Shelf.images c.rename.new.self)) (course (g.S.Shelf.history c.sync_names.new.self) (g.S.Shelf.images c.sync_names.new.self)) (c.in_ok-rename.ensures.ours ∙ c.requires) c.in_err-sync_names.ensures.kept calm c.in_err-sync_names.ensures.unsynced)

pub returns-clause-either : goal.returns-clause-either
returns-clause-either g c = λ calm.
    either_then (course (g.S.Shelf.history c.args.shelf.now) (g.S.Shelf.images c.args.shelf.now)) (course (g.S.Shelf.history c.rename.new.self) (g.S.Shelf.images c.rename.new.self)) (course (g.S.Shelf.history c.sync_names.new.self) (g.S.Shelf.images c.sync_names.new.self)) c.in_ok-rename.ensures.kept c.in_ok-sync_names.ensures.kept calm
    (λ calm. either_acts (Renames c.args.from.now c.args.to.now) (course (g.S.Shelf.history c.args.shelf.now) (g.S.Shelf.images c.args.shelf.now)) (course (g.S.Shelf.history c.rename.new.self) (g.S.Shelf.images c.rename.new.self)) c.requires c.in_ok-rename.ensures.kept calm (c.in_ok-rename.ensures.renamed calm.told))
    (λ calm. stays_acts SyncsNames (course (g.S.Shelf.history c.rename.new.self) (g.S.Shelf.images c.rename.new.self)) (course (g.S.Shelf.history c.sync_names.new.self) (g.S.Shelf.images c.sync_names.new.self)) (c.in_ok-rename.ensures.ours ∙ c.requires) c.in_ok-sync_names.ensures.kept calm (λ x y step. step.same.shown) (c.in_ok-sync_names.ensures.synced calm.told))
