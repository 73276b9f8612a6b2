-- What reading the record and writing a changed one lead to, while the lock is held.
use Rattle.std.specs.Prelude.{ℕ, ◌≡◌, ◌⊎◌, true, Option}
use Rattle.hg_append.specs.declared.fault.EncodeFault.{EncodeFault}
use Rattle.hg_append.specs.declared.way.Way.TheVariants as a_way
use Rattle.hg_append.specs.Either.{HasCauseBy}
use Rattle.hg_append.specs.Loss.{plan_of}
use Rattle.hg_base.specs.Fault.{Rose}
use Rattle.hg_mixed.specs.Held.{Held, table}
use Rattle.hg_save.specs.Over as over
use Rattle.hg_save.specs.Over.{IsPutOver, LeavesLists}
use Rattle.hg_report.specs.declared.fault.Fault.{Fault}
use Rattle.hg_save.specs.declared.loaded.Loaded.{Loaded}
use Rattle.hg_session.specs.Change.{IsUnwritten, MayFollowWriting}
use Rattle.hg_session.specs.declared.change_fault.ChangeFault.{ChangeFault}
use Rattle.hg_session.specs.declared.change_fault.ChangeFault.TheVariants as a_fault
use Rattle.hg_shelf.specs.Images.{Course}

-- ---- what was written

-- a table was written over the record that was loaded, wholly or in part: what `IsPutOver` says of each moment
pub record IsOverwritten (held : Held) (loaded : Loaded) (old new : Course) : Type 0 where
  pub changed : held.changed ≡ true
  pub put : IsPutOver held loaded old new

-- nothing was written, or a table over the record that was loaded
abbrev pub WritesOnly : Held → Loaded → Course → Course → Option Fault → Type 0
WritesOnly held loaded old new fault = IsUnwritten old.history new.history ⊎ (MayFollowWriting fault × IsOverwritten held loaded old new)

-- a table is recorded, whatever a crash leaves records it, by exactly its bytes; and where it was written behind the data file, each list that is lent
-- lies where it lay
pub record IsRecorded (held : Held) (old new : Course) : Type 0 where
  pub is : over.IsRecorded held old new
  pub lists : plan_of held ≡ a_way.Append → LeavesLists held new

-- why a table wasn't written: something was changed in it and it can't be, or the shelf failed
abbrev pub MetWriting : Held → ℕ → ℕ → ChangeFault → Type 0
MetWriting held before after fault =
    ((e : EncodeFault) × (fault ≡ a_fault.Encode e) × HasCauseBy held (plan_of held) e × (held.changed ≡ true)) ⊎ ((fault ≡ a_fault.ShelfFailed) × Rose before after)
