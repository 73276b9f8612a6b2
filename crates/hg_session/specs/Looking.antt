-- What the private calls say that list, print and tell, below the contract of a status.
use Rattle.std.specs.Prelude.{ℕ, ◌≡◌, ◌⊎◌, true, false, Option, Some, None, Result, Ok, Err, IfErr, IfSome, MatchOption, OnOk, ◌<◌, IfOk, IsTrue}
use Rattle.hg_entry.specs.Table.{Table}
use Rattle.hg_flat.specs.Needed.{AsksNeeded}
use Rattle.hg_listing.specs.declared.fault.StatusFault.{StatusFault}
use Rattle.hg_report.specs.Cause.{of_status}
use Rattle.hg_report.specs.Fault.{has_line}
use Rattle.hg_report.specs.declared.fault.Fault.TheVariants as a_fault
use Rattle.hg_report.specs.declared.fault.Fault.{Fault}
use Rattle.hg_save.specs.Loads.{Try}
use Rattle.hg_session.specs.Call.{Count, Looked, Saved, Sink, Watched}
use Rattle.hg_session.specs.Flags.{wanted_of}
use Rattle.hg_session.specs.Listed.{AsksBelow, AsksLittle, AsksOver, AsksPlain, ReadsLittle, StatusCause, status_over}
use Rattle.hg_session.specs.Loaded.{IsLoaded}
use Rattle.hg_session.specs.Look.{IsCalm, Look, saves_last, Stage, LeavesAt, IsShown}
use Rattle.hg_session.specs.Put.{IsFaultOrMemory, IsSilent, Tells, OnStream}
use Rattle.hg_session.specs.Status.{AreEarnedFor, IsWorked, SaysRows, status_look, SavesLast}
use Rattle.hg_shelf.specs.History as shelf
use Rattle.hg_shelf.specs.Images.{Goes}
use Rattle.hg_tree.specs.History as tree
use Rattle.hg_walk.specs.Notes.{NotesData}
use Rattle.hg_walk.specs.Walking.{AreNeeded, AreNoted}
use Rattle.hg_words.specs.declared.flags.StatusFlags.{StatusFlags}

-- the line of a fault isn't told yet
pub record IsUntold (err : Sink) (fault : Fault) : Type 0 where
  pub told : has_line fault ≡ true
  pub silent : IsSilent err

-- the fault of what was done, where it met one
abbrev pub fault_in : {A : Type 0} → Result A Fault → Option Fault
fault_in (Ok done) = None
fault_in (Err fault) = Some fault

-- what was done before the line of a fault is told
pub record Shows {A : Type 0} (look : Look) (out err : Sink) (result : Result A Fault) : Type 0 where
  pub done : OnOk result (IsShown look out err)
  pub left : IfErr result (λ fault. (stage : Stage) × LeavesAt look out err IsUntold stage fault)

-- how a command ends that only looks, by what it did: the line of a fault is told, where it has one
pub record EndsAs (err : Sink) (done : Result Unit Fault) (code : ℕ) (fault : Option Fault) : Type 0 where
  pub well : OnOk done ((fault ≡ None) × IsSilent err)
  pub ill : IfErr done (λ f. ((has_line f ≡ true) × IsFaultOrMemory fault f × IfSome fault (Tells err)) ⊎ ((has_line f ≡ false) × (fault ≡ Some f) × IsSilent err))
  pub status : MatchOption fault (code ≡ 0) (λ f. code ≡ 255)

-- what a listing over a table notes, only what is needed
pub record IsNotedFor (looked : Looked) (table : Table) (notes : NotesData) : Type 0 where
  pub needed : AreNeeded table notes
  pub noted : AreNoted looked.tree.old looked.tree.new notes
  pub earned : AreEarnedFor looked table notes

-- the part of a status that lists, prints and tells, over a table that was read before
abbrev pub show_look : StatusFlags → Looked → Table → NotesData → Look
show_look flags looked table notes = record {
  Before = λ fault. (f : StatusFault) × (fault ≡ of_status f) × StatusCause looked (wanted_of flags) table f;
  Ready = IsWorked looked (wanted_of flags) table notes;
  Says = SaysRows flags looked (Some table);
  Printing = Unit {0};
  Telling = Unit {0};
  Saving = λ fault. ⊥;
  order = saves_last;
}

-- a listing over a table, its text and its warnings, and what is noted, or a fault, before its line is told
pub record ShowsTable (flags : StatusFlags) (looked : Looked) (table : Table) (out err : Sink) (result : Result NotesData Fault) : Type 0 where
  pub tree : tree.Passes looked.tree.old looked.tree.new
  pub notes : NotesData
  pub noted : IsNotedFor looked table notes
  pub shows : Shows (show_look flags looked table notes) out err result
  pub answered : IfOk result (λ is. is ≡ notes)
  pub asked : IsTrue looked.tree.old.told → AsksOver table (wanted_of flags) looked.tree
  pub store : IsTrue looked.shelf.old.told → AsksPlain looked (wanted_of flags) table looked.shelf.old looked.shelf.new
  pub reads : IsTrue looked.tree.old.told → AsksNeeded (status_over looked (wanted_of flags) table)
  pub calm : OnOk result (IsCalm looked out err)
  pub streams : OnStream (fault_in result) (looked.shelf.after ≡ looked.shelf.before)
  pub tree_failed : looked.tree.before < looked.tree.after → fault_in result ≡ Some a_fault.TreeFailed

-- the call, with the files below `.hg` up to a history at which the listing ended, behind which times were saved
abbrev pub listed_to : shelf.History → Looked → Looked
listed_to end looked = record looked { shelf = record looked.shelf { new = end } }

-- the last try by which a table was read
abbrev pub ByLoaded : (files : Watched shelf.History) (table : Option Table) → IfSome table (IsLoaded files) → Try → Type 0
ByLoaded files None loaded tried = ⊥
ByLoaded files (Some table) loaded tried = (told : IsTrue files.old.told) × (tried ≡ (loaded told).tried.last)

-- all of a status, or a fault, before its line is told
pub record DoesStatus (flags : StatusFlags) (looked : Looked) (saved : Saved) (locks : Count) (out err : Sink) (result : Result Unit Fault) : Type 0 where
  pub end : shelf.History
  pub passes : shelf.Passes looked.shelf.old end
  pub later : shelf.Extends end looked.shelf.new
  pub table : Option Table
  pub loaded : IfSome table (IsLoaded (listed_to end looked).shelf)
  pub tree : tree.Passes looked.tree.old looked.tree.new
  pub notes : NotesData
  pub shows : Shows (status_look flags (listed_to end looked) saved locks table notes) out err result
  pub asked : AsksLittle looked (wanted_of flags) table
  pub reads : ReadsLittle looked (wanted_of flags) table
  pub below : IsTrue looked.shelf.old.told → AsksBelow looked (wanted_of flags) table
  pub calm : OnOk result (IsCalm looked out err)
  pub streams : OnStream (fault_in result) (looked.shelf.after ≡ looked.shelf.before)
  pub tree_failed : looked.tree.before < looked.tree.after → fault_in result ≡ Some a_fault.TreeFailed
  pub needed : IfSome table (λ t. AreNeeded t notes)
  pub noted : AreNoted looked.tree.old looked.tree.new notes
  pub earned : IfSome table (λ t. AreEarnedFor looked t notes)
  pub kept : Goes saved.old saved.new
  pub saving : SavesLast (ByLoaded (listed_to end looked).shelf table loaded) looked.shelf saved locks table notes (fault_in result)
