-- What a command that changes the record answers and leaves, and why.
use Rattle.std.specs.Prelude.{ℕ, ◌≡◌, ◌+◌, ◌⊎◌, ◌≤◌, ◌<◌, Bool, true, false, [], Option, Some, None, Ok, IsTrue, IfSome, IsSomeAnd}
use Rattle.hg_append.specs.declared.encoding.Encoded.{Encoded}
use Rattle.hg_append.specs.declared.fault.EncodeFault.{EncodeFault}
use Rattle.hg_append.specs.declared.way.Way.TheVariants as a_way
use Rattle.hg_append.specs.Loss.{plan_of}
use Rattle.hg_base.specs.Fault.{Rose}
use Rattle.hg_docket.specs.Docket.{docket_of}
use Rattle.hg_entry.specs.Table.{Table}
use Rattle.hg_nodes.specs.Edits.{IsSame}
use Rattle.hg_mixed.specs.Held.{Held, table}
use Rattle.hg_save.specs.Over.{IsEncoded}
use Rattle.hg_ops.specs.declared.refusal.OpFault.{OpFault}
use Rattle.hg_ops.specs.declared.refusal.OpFault.TheVariants as an_op_fault
use Rattle.hg_append.specs.declared.fault.EncodeFault.TheVariants as an_encode_fault
use Rattle.hg_report.specs.Cause.{of_encode, of_op}
use Rattle.hg_report.specs.declared.fault.Fault.{Fault}
use Rattle.hg_report.specs.declared.fault.Fault.TheVariants as a_fault
use Rattle.hg_save.specs.Others.{IsFrontOf, KeepsRecords, named_file, nodes_in}
use Rattle.hg_save.specs.Record.{data_name, shown_in, reading}
use Rattle.hg_save.specs.Saved.{IsExact, IsLatest, ReadsAsBeforeOr, TurnsOnce, WritesOnly}
use Rattle.hg_save.specs.Behind.{IsSolid, KeepsUsed}
use Rattle.hg_session.specs.Acts.{AsksBehind, ChangesTree, Makes, StandsAt, makes_of}
use Rattle.hg_session.specs.Call.{Call, Count, Fails, FailsTwice, IsLeftAlone, Saved, Watched}
use Rattle.hg_session.specs.Load.{of_read}
use Rattle.hg_session.specs.Loaded.{AsksRecord, IsRead, MetReading}
use Rattle.hg_session.specs.Locks.{NotReturned, NotTaken, Refused, Returned, TakenAt}
use Rattle.hg_session.specs.Put.{IsFaultOrMemory}
use Rattle.hg_session.specs.Told.{Told}
use Rattle.hg_session.specs.Ways.{Fits, IsMadeOver, IsUnfit, KeepsBy, KeepsUnchanged, LendsUnchanged, Stood, stood_by, stood_in}
use Rattle.hg_session.specs.declared.change_fault.ChangeFault.{ChangeFault}
use Rattle.hg_session.specs.declared.change_fault.ChangeFault.TheVariants as a_change_fault
use Rattle.hg_shelf.specs.History as shelf
use Rattle.hg_shelf.specs.Images.{Course, Scene, scene}
use Rattle.hg_shelf.specs.Polite.{Undisturbed}
use Rattle.hg_tree.specs.History as tree
use Rattle.hg_words.specs.declared.given.Command.{Command}

-- ---- what the words make of the record

-- no step is the caller's
abbrev pub NoneOurs : shelf.History → ℕ → ℕ → Type 0
NoneOurs h from to = (k : ℕ) → from ≤ k → k < to → h.who k ≡ shelf.us → ⊥

-- a history up to a moment
abbrev pub up_to : ℕ → shelf.History → shelf.History
up_to k h = record h { last = k }

-- the record was read in the call, up to a moment before which the caller made no step
pub record IsReadFirst (old new : shelf.History) (loaded : Table) : Type 0 where
  pub upto : ℕ
  pub later : old.last ≤ upto
  pub within : upto ≤ new.last
  pub none : NoneOurs new old.last upto
  pub read : IsRead old (up_to upto new) loaded

-- the docket and the data file that were read
abbrev pub stood_read : {old new : shelf.History} {loaded : Table} → IsReadFirst old new loaded → Stood
stood_read {new = new} is = stood_by new is.read.tried.last

-- a command made this of the record that was read in the call
pub record IsMade (Does : Makes) (files : Watched shelf.History) (made : Table) (said : Told) (changed : Bool) : Type 0 where
  pub loaded : Table
  pub read : IsTrue files.old.told → IsReadFirst files.old files.new loaded
  pub does : Does.does loaded made said changed

-- the record of this table was read in the call, where the files are told, before the caller made a step
abbrev pub IsLoadedFirst : Watched shelf.History → Table → Type 0
IsLoadedFirst files table = IsTrue files.old.told → IsReadFirst files.old files.new table

-- what a command made of the record that it read, what it told, and whether something was changed
pub record Made : Type 0 where
  pub table : Table
  pub said : Told
  pub changed : Bool

-- how far a command came in a call: which record it read, if it read one, and what it made of that, if it made something
pub record Come (Does : Makes) (files : Watched shelf.History) : Type 0 where
  pub read : Option Table
  pub loaded : IfSome read (IsLoadedFirst files)
  pub work : Option Made
  pub does : IfSome work (λ w. IsSomeAnd read (λ t. Does.does t w.table w.said w.changed))

-- what a command makes of the record, where it read this one, and made this of it: of no other one, and nothing else
abbrev pub only_so : Makes → Option Table → Option Made → Makes
only_so Does read work = record {
  does = λ loaded made said changed. (read ≡ Some loaded) × (work ≡ Some (record { table = made; said = said; changed = changed })) × Does.does loaded made said changed;
  stops = λ loaded fault. (read ≡ Some loaded) × Does.stops loaded fault;
  may = Does.may;
  fair = Does.fair;
}

-- so far as it came
abbrev pub come_so : {Does : Makes} {files : Watched shelf.History} → Come Does files → Makes
come_so {Does = Does} come = only_so Does come.read come.work

-- a stretch of a call from where the caller took the lock to where it gave it back; outside it the caller makes no step
pub record Stretch (old new : shelf.History) : Type 0 where
  pub from : ℕ
  pub to : ℕ
  pub start : old.last ≤ from
  pub order : from ≤ to
  pub end : to ≤ new.last
  pub before : NoneOurs new old.last from
  pub behind : NoneOurs new to new.last
  pub taken : IsTrue old.told → TakenAt old new from to
  -- within it each step is the caller's, or of one who may only read
  pub held : IsTrue old.told → (k : ℕ) → from ≤ k → k < to → (new.who k ≡ shelf.us) ⊎ (new.who k ≡ shelf.readers)

-- the caller wrote nothing
pub record IsUnwritten (old new : shelf.History) : Type 0 where
  pub none : NoneOurs new old.last new.last

-- each step of the caller between two moments is one that its command may make
abbrev pub OnlyMay : (Scene → Scene → Type 0) → Course → ℕ → ℕ → Type 0
OnlyMay May c from to = (k : ℕ) → from ≤ k → k < to → c.history.who k ≡ shelf.us → May (scene c k) (scene c (k + 1))

-- the caller wrote nothing, or only what its command may, while the lock was held
abbrev pub WroteOnly : (Scene → Scene → Type 0) → Saved → Type 0
WroteOnly May saved =
    IsUnwritten saved.old.history saved.new.history
    ⊎ ((stretch : Stretch saved.old.history saved.new.history) × OnlyMay May saved.new stretch.from stretch.to)

-- what an append asks of the moment over which it is made: what a crash may leave is solid, and others kept what was read
pub record IsFirm (Does : Makes) (c : Course) (from : ℕ) : Type 0 where
  pub solid : IsSolid (scene c from)
  pub fair : Does.fair c.history from

-- between two moments a record was published over the one that stood at the first, anew, or behind the data file where that is planned
pub record IsPublished (Does : Makes) (c : Course) (from to : ℕ) : Type 0 where
  pub loaded : Table
  pub there : Does.fair c.history from → StandsAt c from loaded
  -- the table in memory, over the docket that stood
  pub held : Held
  pub docket : held.docket ≡ docket_of (shown_in (scene c from).files)
  -- and over the data file; its lists are lent exactly where nothing differs below: so the way that is planned is one
  pub nodes : Does.fair c.history from → 0 < held.docket.used → IsFrontOf (named_file (shown_in (scene c from).files) (scene c from).files) held.docket.used held.bytes
  pub lends : LendsUnchanged held
  pub made : Table
  pub same : IsSame (table held) made
  pub said : Told
  pub does : Does.does loaded made said true
  -- what is recorded once it is published, and what is written for it
  pub found : Table
  pub is : IsSame found made
  pub new : Encoded
  pub encoded : IsEncoded held new found
  -- a crash leaves a record of what it might have left at the first moment, or the new one, and reads show the one or the other
  pub crash : IsLatest (scene c from) → (plan_of held ≡ a_way.Append → IsFirm Does c from) → (k : ℕ) (f : shelf.Files) → from ≤ k → k ≤ to → (scene c k).leaves f
      → ReadsAsBeforeOr (scene c from) (Some (Ok found)) f
  pub shown : (plan_of held ≡ a_way.Rewrite → IsLatest (scene c from)) → (plan_of held ≡ a_way.Append → Does.fair c.history from) → (k : ℕ) → from ≤ k → k ≤ to
      → (reading (scene c k).files ≡ reading (scene c from).files) ⊎ (reading (scene c k).files ≡ Some (Ok found))
  -- no file is changed but those that its way changes: reads show each other file as it was, and a crash leaves it as it might have left it
  pub others : (k : ℕ) → from ≤ k → k ≤ to → KeepsBy (plan_of held) held.docket (scene c from).files (scene c k).files
  pub spared : (k : ℕ) (f : shelf.Files) → from ≤ k → k ≤ to → (scene c k).leaves f
      → (d : shelf.Files) × (scene c from).leaves d × KeepsBy (plan_of held) held.docket d f
  -- also where the shelf failed: the data file and the docket beside are as they were, or changed at most where the new bytes go and past the old end, with the
  -- docket as it was; or all is exactly what is written
  pub torn : (k : ℕ) → from ≤ k → k ≤ to → WritesOnly new (scene c from).files (scene c from).files (scene c k).files
  pub torn_left : (k : ℕ) (f : shelf.Files) → from ≤ k → k ≤ to → (scene c k).leaves f → (d : shelf.Files) × (scene c from).leaves d × WritesOnly new (scene c from).files d f
  -- and no file shows other bytes on its way than those of the first moment and of the second
  pub once : (k : ℕ) → from ≤ k → k ≤ to → TurnsOnce new (scene c from).files (scene c k).files (scene c to).files
  -- each step of the caller's keeps to how a record is published, and the bytes that dockets use
  pub orderly : IsLatest (scene c from) → (plan_of held ≡ a_way.Append → IsFirm Does c from) → KeepsRecords shelf.us c from
  pub keeping : (plan_of held ≡ a_way.Append → Does.fair c.history from) → KeepsUsed shelf.us c.history from
  -- the next one finds its identifier free
  pub latest : IsLatest (scene c from) → IsLatest (scene c to)

-- a record was published while the lock was held, from a moment on before which the caller made only steps there that its command may make
pub record Publishes (Does : Makes) (saved : Saved) : Type 0 where
  pub stretch : Stretch saved.old.history saved.new.history
  pub since : ℕ
  pub from : stretch.from ≤ since
  pub upto : since ≤ stretch.to
  pub may : OnlyMay Does.may saved.new stretch.from since
  pub is : IsPublished Does saved.new since stretch.to

-- reads show exactly the bytes of a table that was made of a record, written over these files by the better way, and a crash leaves exactly them
pub record IsWritten (stood : Stood) (made found : Table) (before : shelf.Files) (behind : Scene) : Type 0 where
  pub new : Encoded
  -- they are the encoding of a table in memory over that record, whose docket stood
  pub held : Held
  pub over : IsMadeOver stood made held
  pub docket : held.docket ≡ docket_of (shown_in before)
  pub is : IsEncoded held new found
  pub shown : IsExact new before behind.files
  pub left : (f : shelf.Files) → behind.leaves f → IsExact new before f
  -- where they were written anew, the data file that the docket named is gone
  pub gone : plan_of held ≡ a_way.Rewrite → (held.docket.id ≡ [] → ⊥) → behind.files (data_name held.docket.id) ≡ None
  -- and where behind, that stays: it is the one that the table was read from, and each of its lists below which nothing differs lies where it lay
  pub nodes : plan_of held ≡ a_way.Append → 0 < held.docket.used → IsFrontOf (nodes_in before) held.docket.used held.bytes
  pub kept_lists : plan_of held ≡ a_way.Append → KeepsUnchanged held behind.files
  pub kept_left : plan_of held ≡ a_way.Append → (f : shelf.Files) → behind.leaves f → KeepsUnchanged held f

-- the record was asked for, and behind it, up to a place, what its command needs by the one that was read
pub record AsksChange (command : Command) (copy : Watched tree.History) (read : Option Table) (old new : shelf.History) : Type 0 where
  pub mid : shelf.History
  pub end : shelf.History
  pub past : shelf.Extends mid end
  pub later : shelf.Extends end new
  pub quiet : new.asked ≡ end.asked
  pub load : AsksRecord old mid
  pub behind : (end.asked ≡ mid.asked) ⊎ IsSomeAnd read (λ loaded. AsksBehind command copy loaded mid end)

-- at the second of two moments reads show a record of the table that was made of another record, and so does whatever a crash leaves, unless nothing was to be
-- published
pub record IsKept (stood : Stood) (loaded made : Table) (saved : Saved) (from to : ℕ) : Type 0 where
  pub found : Table
  pub is : IsSame found made
  pub shown : reading (scene saved.new to).files ≡ Some (Ok found)
  pub left : ((c : shelf.Files) → (scene saved.new to).leaves c → reading c ≡ Some (Ok found)) ⊎ (IsSame made loaded × IsUnwritten saved.old.history saved.new.history)
  -- the new bytes stand there exactly, over what stood at the first
  pub bytes : IsWritten stood made found (scene saved.new from).files (scene saved.new to) ⊎ IsUnwritten saved.old.history saved.new.history

-- it was done between two moments, and what it made is recorded
pub record IsDone (Does : Makes) (files : Watched shelf.History) (saved : Saved) (from to : ℕ) (said : Told) : Type 0 where
  pub made : Table
  pub changed : Bool
  pub is : IsMade Does files made said changed
  pub fits : (told : IsTrue files.old.told) → ((changed ≡ false) × IsSame made is.loaded) ⊎ Fits (stood_read (is.read told)) made
  pub kept : Undisturbed saved.old saved.new → IsKept (stood_in (scene saved.new from).files) is.loaded made saved from to
  -- where nothing was changed nothing is written
  pub idle : changed ≡ false → IsUnwritten saved.old.history saved.new.history

-- ---- why it met a fault

-- a fault of a change, as a command tells it
abbrev pub of_change : ChangeFault → Fault
of_change (a_change_fault.Read fault) = of_read fault
of_change (a_change_fault.Op fault) = of_op fault
of_change (a_change_fault.Encode fault) = of_encode fault
of_change a_change_fault.Held = a_fault.Held
of_change a_change_fault.ShelfFailed = a_fault.ShelfFailed

-- all that the command says was done, and what it made of the record that was read can't be written over it
pub record MetUnfit (Does : Makes) (files : Watched shelf.History) (fault : EncodeFault) : Type 0 where
  pub made : Table
  pub said : Told
  pub is : IsMade Does files made said true
  pub unfit : (told : IsTrue files.old.told) → IsUnfit (stood_read (is.read told)) made fault

-- the working copy was left alone, or a record was read, and behind it this became of it
abbrev pub ChangesBehind : Command → Watched tree.History → Option Table → Type 0
ChangesBehind command copy read = IsLeftAlone copy ⊎ IsSomeAnd read (λ loaded. ChangesTree command loaded copy)

-- the record was read in the call, and this stops what is made of it
pub record MetStop (Does : Makes) (files : Watched shelf.History) (fault : Fault) : Type 0 where
  pub loaded : Table
  pub read : IsTrue files.old.told → IsReadFirst files.old files.new loaded
  pub stops : Does.stops loaded fault

-- a device that is to blame failed
abbrev pub IsToBlame : Watched tree.History → Watched shelf.History → OpFault → Type 0
IsToBlame copy files an_op_fault.TreeFailed = Fails copy
IsToBlame copy files an_op_fault.ShelfFailed = Fails files
IsToBlame copy files fault = Unit {0}

-- while the command did what it says
abbrev pub MetDoing : Makes → Watched tree.History → Watched shelf.History → OpFault → Type 0
MetDoing Does copy files fault = MetStop Does files (of_op fault) × IsToBlame copy files fault

-- all that the command says was done
pub record MetMade (Does : Makes) (files : Watched shelf.History) : Type 0 where
  pub made : Table
  pub said : Told
  pub changed : Bool
  pub is : IsMade Does files made said changed

-- before anything was published, or while it was: what stood in the files, and then the working copy isn't looked at; what the command met; behind all that
-- it says a table that can't be written, or a shelf that failed, which may be the lock's
abbrev pub MetChanging : Makes → Watched tree.History → Watched shelf.History → ChangeFault → Type 0
MetChanging Does copy files (a_change_fault.Read fault) = MetReading files fault × IsLeftAlone copy
MetChanging Does copy files (a_change_fault.Op fault) = MetDoing Does copy files fault
MetChanging Does copy files (a_change_fault.Encode an_encode_fault.OutOfMemory) = MetMade Does files
MetChanging Does copy files (a_change_fault.Encode fault) = MetUnfit Does files fault
MetChanging Does copy files a_change_fault.Held = ⊥
MetChanging Does copy files a_change_fault.ShelfFailed = Fails files × (IsLeftAlone copy ⊎ MetMade Does files)

-- or a lock that was refused
abbrev pub MetLocking : Makes → Watched tree.History → Watched shelf.History → Count → ChangeFault → Type 0
MetLocking Does copy files locks fault = MetChanging Does copy files fault ⊎ ((fault ≡ a_change_fault.Held) × Rose locks.before locks.after × IsLeftAlone copy)

-- what a call makes of the record
abbrev pub makes_in : Call → Makes
makes_in call = makes_of call.command call.looked.tree call.looked.shelf

-- a fault that may be met once something was written: a shelf or an error stream that failed; for the line of the one there may be no memory
abbrev pub MayFollowWriting : Option Fault → Type 0
MayFollowWriting None = Unit {0}
MayFollowWriting (Some fault) = (fault ≡ a_fault.ShelfFailed) ⊎ ((fault ≡ a_fault.ErrFailed) ⊎ (fault ≡ a_fault.OutOfMemory))

-- nothing was written but what the command may, or a record was published while the lock was held
abbrev pub IsSafe : Makes → Saved → Option Fault → Type 0
IsSafe Does saved fault = WroteOnly Does.may saved ⊎ (MayFollowWriting fault × Publishes Does saved)

-- ---- the lock

-- the lock was refused, which is counted, nothing was written, and this is so besides
pub record WasRefused (Besides : Type 0) (files : Watched shelf.History) (locks : Count) : Type 0 where
  pub told : IsTrue files.old.told → Refused files.old files.new
  pub ours : files.new.ours ≡ files.old.ours
  pub counted : Rose locks.before locks.after
  pub unwritten : IsUnwritten files.old files.new
  pub besides : Besides

-- taking it failed, nothing was written, and this is so besides
pub record WasNotTaken (Besides : Type 0) (files : Watched shelf.History) (locks : Count) : Type 0 where
  pub told : IsTrue files.old.told → NotTaken files.old files.new
  pub ours : files.new.ours ≡ files.old.ours
  pub uncounted : locks.after ≡ locks.before
  pub failed : Fails files
  pub unwritten : IsUnwritten files.old files.new
  pub besides : Besides

-- it was taken and given back, after a fault too
pub record WasReturned (files : Watched shelf.History) (locks : Count) : Type 0 where
  pub told : IsTrue files.old.told → Returned files.old files.new
  pub ours : files.new.ours ≡ false
  pub uncounted : locks.after ≡ locks.before

-- it was taken, giving it back failed, and this is so besides
pub record WasNotReturned (Besides : Type 0) (files : Watched shelf.History) (locks : Count) : Type 0 where
  pub told : IsTrue files.old.told → NotReturned files.old files.new
  pub uncounted : locks.after ≡ locks.before
  pub failed : Fails files
  pub besides : Besides

-- the lock was called for once, and one of these came of it, with what is so besides
abbrev pub LockEnds : (AtRefusal AtTaking AtReturning : Type 0) → Watched shelf.History → Count → Type 0
LockEnds AtRefusal AtTaking AtReturning files locks =
    WasRefused AtRefusal files locks ⊎ (WasNotTaken AtTaking files locks ⊎ (WasReturned files locks ⊎ WasNotReturned AtReturning files locks))

-- a fault is answered, and nothing else was done
pub record OnlyAnswers (copy : Watched tree.History) (files : Watched shelf.History) (fault : Option Fault) (met : Fault) : Type 0 where
  pub unasked : files.new.asked ≡ files.old.asked
  pub unlooked : IsLeftAlone copy
  pub answer : IsFaultOrMemory fault met

-- the shelf failed behind a change that was done, or behind a first fault; where it failed both times, both are counted
abbrev pub FailsBehind : Makes → Watched tree.History → Watched shelf.History → Saved → Option Fault → Type 0
FailsBehind Does copy files saved fault =
    (IsFaultOrMemory fault a_fault.ShelfFailed × (stretch : Stretch saved.old.history saved.new.history) × (said : Told) × IsDone Does files saved stretch.from stretch.to said)
    ⊎ ((met : ChangeFault) × IsFaultOrMemory fault (of_change met) × MetChanging Does copy files met × (of_change met ≡ a_fault.ShelfFailed → FailsTwice files))

-- how the lock went in a change: each end of it but one is a fault
abbrev pub IsLocked : Makes → Watched tree.History → Watched shelf.History → Saved → Count → Option Fault → Type 0
IsLocked Does copy files saved locks fault =
    LockEnds (OnlyAnswers copy files fault a_fault.Held) (OnlyAnswers copy files fault a_fault.ShelfFailed) (FailsBehind Does copy files saved fault) files locks
