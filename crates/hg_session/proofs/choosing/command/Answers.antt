-- The answer of a call, by its command.
use Rattle.std.proofs.Common.{ap, inl, inr, refl}
use Rattle.hg_session.proofs.Caused.{answered_changed, answered_record, answered_status, answered_unbuilt}
use Rattle.hg_session.proofs.Locked.{unwritten_here}
use Rattle.hg_shelf.proofs.Histories.{passes_same}
use Rattle.hg_shelf.proofs.Scenes.{goes_same}
use Rattle.hg_shelf.specs.Images.{course}
use Rattle.hg_session.specs.Commands.{is_change, is_done}
use Rattle.hg_session.proofs.choosing.command.Goals as goal

pub returns-in-Status : goal.returns-in-Status
returns-in-Status g c =
    answered_status c.args.command.now c.in-Status.flags _ _ _ _ _ _ refl refl c.status-done.result c.ended.result.status c.ended.result.fault refl c.in-Status.is c.status-done.ensures c.ended.ensures

pub returns-in-DebugDirstate : goal.returns-in-DebugDirstate
returns-in-DebugDirstate g c =
    answered_record _ c.show_record.result.status c.show_record.result.fault c.in-DebugDirstate.is c.show_record.ensures.shows c.show_record.ensures.below
    (record { history = refl; count = refl }) refl
    (λ none. record { tree = refl; shelf = c.show_record.ensures.calm_shelf none; regexps = refl; out = c.show_record.ensures.calm_out none; err = c.show_record.ensures.calm_err none })
    c.show_record.ensures.only c.show_record.ensures.only.passes c.show_record.ensures.status c.show_record.ensures.streams

pub returns-in-Add : goal.returns-in-Add
returns-in-Add g c =
    answered_changed _ c.change_record.result.status c.change_record.result.fault (elim c.in-Add.is [
      | inl (files, is) ↦ ap is_change is
      | inr (inl (files, is)) ↦ ap is_change is
      | inr (inr (inl (after, files, is))) ↦ ap is_change is
      | inr (inr (inr (inl (source, target, is)))) ↦ ap is_change is
      | inr (inr (inr (inr (p1, p2, is)))) ↦ ap is_change is
    ])
    (c.change_record.ensures.ran _ _ (record { bytes = refl; count = refl }) refl) c.change_record.ensures.status

pub returns-in-DebugScript : goal.returns-in-DebugScript
returns-in-DebugScript g c =
    answered_unbuilt _ c.failed.result.status c.failed.result.fault (elim c.in-DebugScript.is [
      | inl is ↦ ap is_done is
      | inr (n, is) ↦ ap is_done is
    ]) c.failed.ensures.fault c.failed.ensures.told
    (record {
      copy = record { history = refl; count = refl };
      files = refl;
      files_count = refl;
      kept = goes_same (course (g.S.Shelf.history c.args.shelf.now) (g.S.Shelf.images c.args.shelf.now));
      unwritten = unwritten_here (g.S.Shelf.history c.args.shelf.now);
      held = refl;
      regexps = refl;
      silent = record { bytes = refl; count = refl };
    })
    (passes_same (g.S.Shelf.history c.args.shelf.now)) c.failed.ensures.status
