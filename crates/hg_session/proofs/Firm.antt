-- Firm ground for an append, from what each step of others keeps.
use Rattle.std.proofs.Common.{ℕ, ◌≡◌, ◌≤◌, Option, Some, None, sym, ◌∙◌, subst, arith, inl, inr}
use Rattle.hg_entry.specs.Table.{Table}
use Rattle.hg_report.specs.declared.fault.Fault.{Fault}
use Rattle.hg_save.specs.Loads.{files_at}
use Rattle.hg_save.specs.Others.{HasData, KeepData, KeepsRecords}
use Rattle.hg_save.proofs.Spans.{keep_used}
use Rattle.hg_save.specs.Behind.{IsKeepingUsed, KeepsUsed}
use Rattle.hg_save.specs.Saved.{IsLatest}
use Rattle.hg_session.proofs.GoodParts.{from_moment}
use Rattle.hg_session.proofs.Locked.{unwritten}
use Rattle.hg_session.proofs.OwnTables.{own_of}
use Rattle.hg_session.proofs.UsedSteps.{used_shorter, using_itself}
use Rattle.hg_session.specs.Acts.{Makes}
use Rattle.hg_session.specs.Answered.{IsAnswered, Ran, made_by}
use Rattle.hg_session.specs.Call.{Call, Saved, Watched}
use Rattle.hg_session.specs.Change.{IsSafe, NoneOurs, up_to}
use Rattle.hg_session.specs.Crash.{IsFirmFor, IsSafeBy, KeepToFirstStep, LeavesSound, published_in}
use Rattle.hg_session.specs.Status.{noted_in}
use Rattle.hg_shelf.specs.History.{History, Who, others, readers, us}
use Rattle.hg_shelf.specs.Images.{Course, Goes, last_scene}
use Rattle.hg_shelf.specs.Polite.{Undisturbed}
use Rattle.hg_walk.specs.Notes.{NotesData}
use Rattle.hg_words.specs.declared.given.Command.{Command}
use Rattle.hg_words.specs.declared.given.Command.TheVariants as a_command

-- where others keep the bytes that dockets use, and the standing docket's are there at first, the data that dockets name are kept up to a moment before which the
-- caller made no step
pub kept_upto : (a b : Course) → Goes a b → Undisturbed a b → HasData (last_scene a).files → KeepsUsed others b.history a.history.last
    → (k : ℕ) → a.history.last ≤ k → k ≤ b.history.last → NoneOurs b.history a.history.last k → KeepData (up_to k b.history) a.history.last
kept_upto a b goes calm there used k later within none =
    keep_used (up_to k b.history) a.history.last (goes.past.told ∙ calm.told) (subst HasData (sym (goes.kept a.history.last (omega arith)).shown) there) by_each
  where
    by_each : (by : Who) → KeepsUsed by (up_to k b.history) a.history.last
    by_each us = record { each = λ j after before who. absurd (none j after before who) }
    by_each others = used_shorter others (up_to k b.history) b.history a.history.last (from_moment b.history k within) used
    by_each readers = record {
      each = λ j after before who.
          subst (IsKeepingUsed (files_at b.history j)) (sym (calm.others.same j after (omega (arith, before, within)) who).shown) (using_itself (files_at b.history j));
    }

pub noted_upto : (a b : Course) → KeepToFirstStep (record { old = a; new = b }) → (files : Watched History) → files.old.last ≡ a.history.last → (table : Option Table) (notes : NotesData) (k : ℕ)
    → a.history.last ≤ k → k ≤ b.history.last → NoneOurs b.history a.history.last k → (noted_in files table notes).fair b.history k
noted_upto a b keep files same None notes k later within none = tt
noted_upto a b keep files same (Some t) notes k later within none = subst (KeepData (up_to k b.history)) (sym same) (keep k later within none)

-- ---- the same upon one ground for whatever a call wrote

-- what a crash might have left at the start is sound, and others keep the data that dockets name as long as the call made no step
pub record IsFirmGround (saved : Saved) : Type 0 where
  pub sound : LeavesSound (last_scene saved.old)
  pub kept : KeepToFirstStep saved

-- upon it a call is safe from crashes
abbrev pub IsSafeUpon : Makes → Saved → Type 0
IsSafeUpon Does saved =
    Undisturbed saved.old saved.new → KeepsRecords others saved.new saved.old.history.last → IsLatest (last_scene saved.old) → IsFirmGround saved → IsSafeBy Does saved

firm_for : (Does : Makes) (saved : Saved) (fault : Option Fault) (wrote : IsSafe Does saved fault) → IsFirmGround saved → IsFirmFor Does saved fault wrote
firm_for Does saved fault (inl only) ground = tt
firm_for Does saved fault (inr (may, is)) ground = λ way. (ground.sound, inr ground.kept)

-- what a command wrote, whatever it was
wrote_of : (command : Command) (call : Call) (code : ℕ) (fault : Option Fault) (ran : Ran command call code fault) → Undisturbed call.saved.old call.saved.new → IsSafe (made_by command call code fault ran) call.saved fault
wrote_of (a_command.Status flags) call code fault ran calm = ran.saving.safe calm
wrote_of (a_command.Add files) call code fault ran calm = ran.safe calm
wrote_of (a_command.Forget files) call code fault ran calm = ran.safe calm
wrote_of (a_command.Remove after files) call code fault ran calm = ran.safe calm
wrote_of (a_command.Copy source target) call code fault ran calm = ran.safe calm
wrote_of (a_command.SetParents p1 p2) call code fault ran calm = ran.safe calm
wrote_of a_command.DebugDirstate call code fault ran calm = inl (inl (unwritten call.saved.old.history call.saved.new.history ran.only.passes))
wrote_of a_command.DebugScript call code fault ran calm = inl (inl ran.idle.unwritten)
wrote_of (a_command.DebugLoad n) call code fault ran calm = inl (inl ran.idle.unwritten)

-- of a call that was answered
pub answered_upon : (call : Call) (code : ℕ) (fault : Option Fault) (answered : IsAnswered call code fault) → IsSafeUpon (made_by call.command call code fault answered.ran) call.saved
answered_upon call code fault answered calm keep first ground =
    let Does = made_by call.command call code fault answered.ran in
    let wrote : IsSafe Does call.saved fault = wrote_of call.command call code fault answered.ran calm in (
      published_in Does call.saved fault wrote,
      own_of Does call.saved fault wrote,
      answered.crash calm keep first wrote (firm_for Does call.saved fault wrote ground),
    )
