-- What a status saves of what it noted, and what comes of it.
use Rattle.std.specs.Prelude.{ℕ, ◌≡◌, ◌⊎◌, ◌≤◌, [], Option, Some, None, Ok}
use Rattle.std.proofs.Common.{inl, inr}
use Rattle.hg_append.specs.declared.fault.EncodeFault.{EncodeFault}
use Rattle.hg_append.specs.declared.fault.EncodeFault.TheVariants as an_encode
use Rattle.hg_append.specs.declared.way.Way.TheVariants as a_way
use Rattle.hg_append.specs.Loss.{plan_of}
use Rattle.hg_entry.specs.Table.{Table}
use Rattle.hg_nodes.specs.Edits.{IsSame}
use Rattle.hg_mixed.specs.Held.{Held, table}
use Rattle.hg_report.specs.declared.fault.Fault.{Fault}
use Rattle.hg_report.specs.declared.fault.Fault.TheVariants as a_fault
use Rattle.hg_save.specs.Loads.{IsTry, Try, files_at, found_by}
use Rattle.hg_save.specs.Others.{KeepData}
use Rattle.hg_save.specs.Record.{docket_in}
use Rattle.hg_session.specs.Acts.{Makes, WritesNothing}
use Rattle.hg_session.specs.Call.{Count, FailsTwice, Saved, Watched}
use Rattle.hg_session.specs.Change.{IsKept, IsUnwritten, LockEnds, Stretch, up_to}
use Rattle.hg_session.specs.Crash.{IsLasting}
use Rattle.hg_session.specs.Look.{OnlyReads}
use Rattle.hg_session.specs.Put.{IsFaultOrMemory}
use Rattle.hg_session.specs.Ways.{IsMadeOver, IsUnfit, stood_by}
use Rattle.hg_shelf.specs.History.{History}
use Rattle.hg_shelf.specs.Polite.{Undisturbed}
use Rattle.hg_walk.specs.Applying.{IsBlank}
use Rattle.hg_walk.specs.Notes.{NotesData, applied}

-- ---- what is saved

-- what a status makes of the record of this table, which it read in a call: the same with what it noted. It was read before the lock was taken, so
-- others are asked to keep the data that dockets name until then
abbrev pub noted_makes : Watched History → Table → NotesData → Makes
noted_makes files recorded notes = record {
  does = λ loaded made said changed. IsSame loaded recorded × IsSame made (applied notes recorded) × (said.refused ≡ []);
  stops = λ loaded fault. ⊥;
  may = WritesNothing;
  fair = λ h at. KeepData (up_to at h) files.old.last;
}

-- between two moments another docket stood than the one that was read with the record since a start, by the record's own try
pub record AnotherStood (Own : Try → Type 0) (start new : History) (recorded : Table) (from to : ℕ) : Type 0 where
  pub tried : Try
  pub own : Own tried
  pub within : IsTry start new tried
  pub found : found_by new tried ≡ Some (Ok recorded)
  pub at : ℕ
  pub later : from ≤ at
  pub upto : at ≤ to
  pub other : docket_in (files_at new at) ≡ docket_in (files_at new tried.docket) → ⊥

-- the record that its own try found, which was made since a start, can't be written with notes, for a fault that isn't want of memory
pub record CannotWrite (Own : Try → Type 0) (start new : History) (recorded : Table) (notes : NotesData) : Type 0 where
  pub tried : Try
  pub own : Own tried
  pub within : IsTry start new tried
  pub found : found_by new tried ≡ Some (Ok recorded)
  pub fault : EncodeFault
  pub told : fault ≡ an_encode.OutOfMemory → ⊥
  pub unfit : IsUnfit (stood_by new tried) (applied notes recorded) fault

-- why nothing was to be saved between two moments: another docket stood, or the record can't be written with the notes
abbrev pub IsUnsaved : (Try → Type 0) → History → Table → NotesData → Saved → ℕ → ℕ → Type 0
IsUnsaved Own start recorded notes saved from to =
    AnotherStood Own start saved.new.history recorded from to
    ⊎ CannotWrite Own start saved.new.history recorded notes

-- the record with the notes is what is recorded then, and by what a crash leaves; where it was appended, others were asked to keep what was read
pub record IsNotedOver (Own : Try → Type 0) (start : History) (recorded : Table) (notes : NotesData) (saved : Saved) (from to : ℕ) : Type 0 where
  pub tried : Try
  pub own : Own tried
  pub within : IsTry start saved.new.history tried
  pub found : found_by saved.new.history tried ≡ Some (Ok recorded)
  pub held : Held
  pub over : IsMadeOver (stood_by saved.new.history tried) (applied notes recorded) held
  pub kept : (plan_of held ≡ a_way.Append → KeepData (up_to from saved.new.history) start.last) → IsKept (stood_by saved.new.history tried) recorded (applied notes recorded) saved from to

-- nothing was to be saved between two moments, and nothing was written; or the record with the notes is what is recorded then, and by what a crash leaves
abbrev pub IsNoted : (Try → Type 0) → History → Table → NotesData → Saved → ℕ → ℕ → Type 0
IsNoted Own start recorded notes saved from to =
    (IsUnsaved Own start recorded notes saved from to × IsUnwritten saved.old.history saved.new.history) ⊎ IsNotedOver Own start recorded notes saved from to

-- from the second moment to the call's end, whatever a crash leaves records what was saved, or what others published since; where it was appended, others were
-- asked to keep what was read
abbrev pub LastsNoted : (Own : Try → Type 0) (start : History) (recorded : Table) (notes : NotesData) (saved : Saved) (from to : ℕ) → IsNoted Own start recorded notes saved from to → Type 0
LastsNoted Own start recorded notes saved from to (inl unsaved) = Unit {0}
LastsNoted Own start recorded notes saved from to (inr over) =
    (fair : plan_of over.held ≡ a_way.Append → KeepData (up_to from saved.new.history) start.last)
    → IsLasting (stood_by saved.new.history over.tried) recorded (applied notes recorded) saved from to (over.kept fair)

-- and so it is between taking the lock and giving it back
abbrev pub IsNotedHeld : (Try → Type 0) → History → Table → NotesData → Saved → Type 0
IsNotedHeld Own start recorded notes saved =
    Undisturbed saved.old saved.new → (stretch : Stretch saved.old.history saved.new.history) × IsNoted Own start recorded notes saved stretch.from stretch.to

-- ---- the lock

-- the shelf failed behind notes that were saved, or behind a first fault; where it failed both times, both are counted
abbrev pub FailsBehindNotes : (Try → Type 0) → History → Watched History → Saved → Table → NotesData → Option Fault → Type 0
FailsBehindNotes Own start files saved recorded notes fault =
    (IsFaultOrMemory fault a_fault.ShelfFailed × (IsNotedHeld Own start recorded notes saved ⊎ FailsTwice files)) ⊎ (fault ≡ Some a_fault.OutOfMemory)

-- nothing was to be saved: without a fault nothing was noted
abbrev pub IsNotDue : NotesData → Option Fault → Type 0
IsNotDue notes None = IsBlank notes
IsNotDue notes (Some fault) = Unit {0}

-- nothing was to be saved, and the lock wasn't called for; or it was called for once, and one of these came of it: that it was refused is no fault
abbrev pub IsLockedToSave : (Try → Type 0) → History → Watched History → Saved → Count → Table → NotesData → Option Fault → Type 0
IsLockedToSave Own start files saved locks recorded notes fault =
    (IsNotDue notes fault × OnlyReads saved locks)
    ⊎ LockEnds (fault ≡ None) (IsFaultOrMemory fault a_fault.ShelfFailed) (FailsBehindNotes Own start files saved recorded notes fault) files locks
