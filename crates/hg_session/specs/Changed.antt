-- What the commands that change the record promise.
use Rattle.std.specs.Prelude.{ℕ, Bool, true, false, ◌≡◌, ◌⊎◌, ◌<◌, Option, Some, None, Ok, IsTrue}
use Rattle.hg_append.specs.declared.fault.EncodeFault.{EncodeFault}
use Rattle.hg_append.specs.declared.fault.EncodeFault.TheVariants as an_encode_fault
use Rattle.hg_base.specs.Fault.{IsSteady}
use Rattle.hg_entry.specs.Table.{Table}
use Rattle.hg_nodes.specs.Edits.{IsSame}
use Rattle.hg_report.specs.declared.fault.Fault.{Fault}
use Rattle.hg_report.specs.declared.fault.Fault.TheVariants as a_fault
use Rattle.hg_save.specs.Others.{KeepsRecords}
use Rattle.hg_save.specs.Record.{reading}
use Rattle.hg_session.specs.Acts.{Makes}
use Rattle.hg_session.specs.Call.{Call, Looked, Serves}
use Rattle.hg_session.specs.Change.{AsksChange, ChangesBehind, Come, come_so, IsDone, IsLocked, IsSafe, MetChanging, MetLocking, Stretch, WroteOnly, makes_in, of_change}
use Rattle.hg_session.specs.Loaded.{IsUnreadable}
use Rattle.hg_session.specs.Look.{Look, Concludes, saves_first}
use Rattle.hg_session.specs.Put.{IsFaultOrMemory, IsSilent}
use Rattle.hg_session.specs.Told.{Told, status_of}
use Rattle.hg_session.specs.Crash.{IsLasting}
use Rattle.hg_session.specs.Ways.{Fits, IsUnfit, stood_in}
use Rattle.hg_session.specs.declared.change_fault.ChangeFault.{ChangeFault}
use Rattle.hg_session.specs.declared.change_fault.ChangeFault.TheVariants as a_change_fault
use Rattle.hg_shelf.specs.History as shelf
use Rattle.hg_shelf.specs.Images.{scene}
use Rattle.hg_shelf.specs.Polite.{Undisturbed}
use Rattle.hg_tree.specs.History as tree
use Rattle.hg_words.specs.declared.given.Command.{Command}
use Rattle.hg_words.specs.declared.given.Command.TheVariants as a_command

-- this is what a change tells that was done while the lock was held
pub record SaysChange (Does : Makes) (call : Call) (said : Told) : Type 0 where
  pub stretch : Stretch call.saved.old.history call.saved.new.history
  pub done : IsDone Does call.looked.shelf call.saved stretch.from stretch.to said
  -- what was published is what a crash leaves from then on, until others publish
  pub lasts : (calm : Undisturbed call.saved.old call.saved.new) → KeepsRecords shelf.others call.saved.new call.saved.old.history.last
      → IsLasting (stood_in (scene call.saved.new stretch.from).files) done.is.loaded done.made call.saved stretch.from stretch.to (done.kept calm)

-- a command that changes the record tells what it has to once it is done; before a fault the caller wrote nothing but what the command may, whatever others do,
-- unless the shelf failed while it saved, for whose line there may be no memory
abbrev pub change_look : Makes → Call → Look
change_look Does call = record {
  Before = λ fault. WroteOnly Does.may call.saved × (f : ChangeFault) × IsFaultOrMemory (Some fault) (of_change f) × MetLocking Does call.looked.tree call.looked.shelf call.locks f;
  Ready = Unit {0};
  Says = SaysChange Does call;
  Printing = ⊥;
  Telling = Unit {0};
  Saving = λ fault. MetChanging Does call.looked.tree call.looked.shelf a_change_fault.ShelfFailed × ((fault ≡ a_fault.ShelfFailed) ⊎ (fault ≡ a_fault.OutOfMemory));
  order = saves_first;
}

-- ---- what has to be answered

-- this is made of the record in these files
pub record IsMadeOf (Does : Makes) (files : shelf.Files) (made : Table) (said : Told) (changed : Bool) : Type 0 where
  pub loaded : Table
  pub recorded : reading files ≡ Some (Ok loaded)
  pub does : Does.does loaded made said changed

-- the record is left as it is, or one is made that can be written
pub record CanBeDone (Does : Makes) (files : shelf.Files) : Type 0 where
  pub made : Table
  pub said : Told
  pub changed : Bool
  pub is : IsMadeOf Does files made said changed
  pub fits : ((changed ≡ false) × IsSame made is.loaded) ⊎ Fits (stood_in files) made

-- the record is changed, and what is made of it can't be written over it, for this
pub record IsUnfitFor (Does : Makes) (files : shelf.Files) (fault : EncodeFault) : Type 0 where
  pub made : Table
  pub said : Told
  pub is : IsMadeOf Does files made said true
  pub unfit : IsUnfit (stood_in files) made fault

-- of the record in these files nothing is made, for this fault
pub record IsStoppedFor (Does : Makes) (files : shelf.Files) (fault : Fault) : Type 0 where
  pub loaded : Table
  pub recorded : reading files ≡ Some (Ok loaded)
  pub stops : Does.stops loaded fault

-- the answer where the files stand so, nobody else steps, no device fails and no lock is refused; want of memory may come at any time
abbrev pub IsExpectedChange : Makes → shelf.Files → Option Fault → Type 0
IsExpectedChange Does files None = CanBeDone Does files
IsExpectedChange Does files (Some (a_fault.TooLarge size)) = IsUnfitFor Does files (an_encode_fault.TooLarge size)
IsExpectedChange Does files (Some a_fault.IdsSpent) = IsUnfitFor Does files an_encode_fault.IdsSpent
IsExpectedChange Does files (Some (a_fault.NoManifest id)) = IsStoppedFor Does files (a_fault.NoManifest id)
IsExpectedChange Does files (Some (a_fault.ManifestTooLarge size)) = IsStoppedFor Does files (a_fault.ManifestTooLarge size)
IsExpectedChange Does files (Some (a_fault.ManifestLine line)) = IsStoppedFor Does files (a_fault.ManifestLine line)
IsExpectedChange Does files (Some (a_fault.ManifestOrder line)) = IsStoppedFor Does files (a_fault.ManifestOrder line)
IsExpectedChange Does files (Some (a_fault.NoContents id)) = IsStoppedFor Does files (a_fault.NoContents id)
IsExpectedChange Does files (Some fault) = IsUnreadable files fault

-- ---- the command

-- a command looks at the working copy
abbrev pub looks_at_copy : Command → Bool
looks_at_copy (a_command.Forget words) = false
looks_at_copy (a_command.SetParents p1 p2) = false
looks_at_copy command = true

-- nobody else steps, and no count rises, of the devices that a command looks at
pub record IsQuietFor (command : Command) (looked : Looked) : Type 0 where
  pub copy : looks_at_copy command ≡ true → tree.IsOurs looked.tree.old looked.tree.new × Serves looked.tree
  pub shelf : shelf.IsOurs looked.shelf.old looked.shelf.new
  pub serves : Serves looked.shelf

-- what a command that changes the record did that ended with this status and this fault, or with none
pub record RanChange (call : Call) (status : ℕ) (fault : Option Fault) : Type 0 where
  -- the record that was read in the call, where one was, and what was made of it, where something was: all that follows but `complete` speaks of these
  pub come : Come (makes_in call) call.looked.shelf
  -- without a fault each word did what it says to the record that was read, the refused ones were told, and the rest is recorded; and with one: where it
  -- was met, why, and what stands in both streams
  pub shows : Concludes (change_look (come_so come) call) call.out call.err fault
  -- without a fault the status is 1 exactly where a word was refused
  pub ends : (none : fault ≡ None) → status ≡ status_of (shows.done none).said.refused
  -- whatever the answer, at each moment of the call a crash leaves the record as it was or as it is after, and so do reads
  pub safe : Undisturbed call.saved.old call.saved.new → IsSafe (come_so come) call.saved fault
  -- a lock that was refused is told as such
  pub held : call.locks.before < call.locks.after → IsFaultOrMemory fault a_fault.Held
  -- where nobody else steps, no count rises and no lock is refused, the answer is the expected one, or there was no memory
  pub complete : IsQuietFor call.command call.looked → Serves call.err → IsSteady call.locks.before call.locks.after
      → IsExpectedChange (makes_in call) (shelf.now call.looked.shelf.old).files fault
  -- nothing is printed, and no regexp compiled
  pub silent : IsSilent call.out
  pub uncounted : call.looked.oversize.after ≡ call.looked.oversize.before
  -- what becomes of the working copy, whatever was answered
  pub copy : ChangesBehind call.command call.looked.tree come.read
  -- below `.hg` it asks for the record, and behind it for what its command needs
  pub asked : IsTrue call.looked.shelf.old.told → AsksChange call.command call.looked.tree come.read call.looked.shelf.old call.looked.shelf.new
  -- the lock was called for once, also where nothing was to be changed
  pub locked : IsLocked (come_so come) call.looked.tree call.looked.shelf call.saved call.locks fault
