-- What the private calls say that change the record, below the contract of a command.
use Rattle.std.specs.Prelude.{ℕ, ◌≡◌, ◌⊎◌, ◌<◌, Option, Some, None, Result, Ok, Err, IfErr, IfOk, IsTrue, Vec}
use Rattle.std.specs.declared.alloc.Global.{Global}
use Rattle.hg_report.specs.declared.fault.Fault.TheVariants as a_fault
use Rattle.hg_report.specs.declared.fault.Fault.{Fault}
use Rattle.hg_save.specs.declared.publish_fault.PublishFault.TheVariants as a_publish_fault
use Rattle.hg_save.specs.declared.publish_fault.PublishFault.{PublishFault}
use Rattle.hg_session.specs.Acts.{Makes, makes_of}
use Rattle.hg_session.specs.Call.{Call, Count, Saved, Watched}
use Rattle.hg_session.specs.Change.{AsksChange, ChangesBehind, Come, IsDone, IsLocked, IsPublished, IsSafe, IsUnwritten, MayFollowWriting, MetChanging, MetLocking, Stretch, come_so, of_change}
use Rattle.hg_session.specs.Changed.{RanChange}
use Rattle.hg_session.specs.Look.{IsCalm}
use Rattle.hg_session.specs.Put.{IsFaultOrMemory, OnStream}
use Rattle.hg_session.specs.Told.{refusing}
use Rattle.hg_session.specs.declared.change_fault.ChangeFault.TheVariants as a_change_fault
use Rattle.hg_session.specs.declared.change_fault.ChangeFault.{ChangeFault}
use Rattle.hg_shelf.specs.History as shelf
use Rattle.hg_shelf.specs.Images.{Goes}
use Rattle.hg_shelf.specs.Polite.{Undisturbed}
use Rattle.hg_tree.specs.History as tree
use Rattle.hg_words.specs.declared.given.Command.{Command}

-- why a record wasn't published, among the faults of a change
abbrev pub of_publish : PublishFault → ChangeFault
of_publish (a_publish_fault.Encode fault) = a_change_fault.Encode fault
of_publish a_publish_fault.Failed = a_change_fault.ShelfFailed

-- the one that a change answers, if it does
abbrev pub fault_of : {A : Type 0} → Result A ChangeFault → Option Fault
fault_of (Ok done) = None
fault_of (Err fault) = Some (of_change fault)

-- the caller wrote nothing, unless the shelf failed while the lock was called for or a record was published
abbrev pub FailsOrUnwritten : shelf.History → shelf.History → ChangeFault → Type 0
FailsOrUnwritten old new fault = (fault ≡ a_change_fault.ShelfFailed) ⊎ IsUnwritten old new

-- nothing was written, or a record was published, where the lock is held all along
abbrev pub IsSafeHeld : Makes → Saved → Option Fault → Type 0
IsSafeHeld Does saved fault =
    IsUnwritten saved.old.history saved.new.history ⊎ (MayFollowWriting fault × IsPublished Does saved.new saved.old.history.last saved.new.history.last)

-- what is answered once the lock was given back, or couldn't be: the first fault
abbrev pub once_freed : {A U E : Type 0} → Result A ChangeFault → Result U E → Result A ChangeFault
once_freed (Err fault) freed = Err fault
once_freed (Ok done) (Err failed) = Err a_change_fault.ShelfFailed
once_freed (Ok done) (Ok unit) = Ok done

-- where a device failed there is a fault, another one than of a stream where the shelf did, and that of the working copy where it did
pub record EndsChange (call : Call) (code : ℕ) (fault : Option Fault) : Type 0 where
  pub ran : RanChange call code fault
  pub kept : Goes call.saved.old call.saved.new
  pub calm : fault ≡ None → IsCalm call.looked call.out call.err
  pub streams : OnStream fault (call.looked.shelf.after ≡ call.looked.shelf.before)
  pub tree : call.looked.tree.before < call.looked.tree.after → IsFaultOrMemory fault a_fault.TreeFailed

-- what came of a change while the lock is held: all of it speaks of one record that was read, and of what was made of it
pub record CameHeld (command : Command) (copy : Watched tree.History) (files : Watched shelf.History) (saved : Saved) (result : Result (Vec ℕ Global) ChangeFault) : Type 0 where
  pub come : Come (makes_of command copy files) files
  pub done : IfOk result (λ lines. IsDone (come_so come) files saved saved.old.history.last saved.new.history.last (refusing lines.items))
  pub met : IfErr result (MetChanging (come_so come) copy files)
  pub safe : Undisturbed saved.old saved.new → IsSafeHeld (come_so come) saved (fault_of result)
  pub tree : ChangesBehind command copy come.read
  pub asked : IsTrue files.old.told → AsksChange command copy come.read files.old files.new

-- so it is with the lock round it
pub record CameLocked (command : Command) (copy : Watched tree.History) (files : Watched shelf.History) (saved : Saved) (locks : Count) (result : Result (Vec ℕ Global) ChangeFault) : Type 0 where
  pub come : Come (makes_of command copy files) files
  pub done : IfOk result (λ lines. (stretch : Stretch saved.old.history saved.new.history) × IsDone (come_so come) files saved stretch.from stretch.to (refusing lines.items))
  pub met : IfErr result (MetLocking (come_so come) copy files locks)
  pub safe : Undisturbed saved.old saved.new → IsSafe (come_so come) saved (fault_of result)
  pub locked : IsLocked (come_so come) copy files saved locks (fault_of result)
  pub tree : ChangesBehind command copy come.read
  pub asked : IsTrue files.old.told → AsksChange command copy come.read files.old files.new
