-- What a status did that ended so, from what was done before the line of its fault, and how that ends.
use Rattle.std.proofs.Common.{ℕ, ◌≡◌, ◌<◌, Option, Some, None, Result, IfSome, refl, sym, ap, ◌∙◌, inl, inr, true≢false}
use Rattle.std.specs.Option.{MatchOption}
use Rattle.hg_entry.specs.Table.{Table}
use Rattle.hg_report.specs.declared.fault.Fault.{Fault}
use Rattle.hg_report.specs.declared.fault.Fault.TheVariants as a_fault
use Rattle.hg_save.specs.Loads.{Try}
use Rattle.hg_save.specs.Others.{KeepsRecords}
use Rattle.hg_session.proofs.Crashes.{lasting}
use Rattle.hg_session.proofs.Expectations.{expected_by, front_own, whole_own}
use Rattle.hg_session.proofs.Longer.{concludes_whole, loaded_whole, own_listed, own_whole, right_some}
use Rattle.hg_session.proofs.Locks.{ends_by}
use Rattle.hg_session.proofs.Looks.{answer_is, calm_by, joined, looks_by}
use Rattle.hg_session.proofs.Saves.{saves_by}
use Rattle.hg_session.specs.Acts.{Makes}
use Rattle.hg_session.specs.Call.{Call, Count, Looked, Saved, Sink, Watched}
use Rattle.hg_session.specs.Change.{IsSafe, Stretch, IsLoadedFirst}
use Rattle.hg_session.specs.Flags.{wanted_of}
use Rattle.hg_session.specs.Look.{Concludes, IsCalm, Look}
use Rattle.hg_session.specs.Looking.{EndsAs, fault_in, ByLoaded, DoesStatus, listed_to}
use Rattle.hg_session.specs.Put.{IsFaultOrMemory, OnStream}
use Rattle.hg_session.specs.Status.{ByLoadedFirst, IsLockedLast, MetSaving, RanStatus, SavesLast, SaysRows, noted_in, status_look}
use Rattle.hg_session.specs.declared.read_fault.ReadFault.TheVariants as a_read
use Rattle.hg_session.specs.Saving.{FailsBehindNotes, IsNoted, IsNotedHeld, LastsNoted}
use Rattle.hg_session.specs.Told.{status_of}
use Rattle.hg_session.specs.Ways.{stood_by}
use Rattle.hg_shelf.specs.History.{History, others}
use Rattle.hg_shelf.specs.Polite.{Undisturbed}
use Rattle.hg_walk.specs.Notes.{NotesData, applied}
use Rattle.hg_words.specs.declared.given.Command.{Command}
use Rattle.hg_words.specs.declared.flags.StatusFlags.{StatusFlags}

-- there may be no memory for the line of a fault that is met once something was written
pub safe_memory : (Does : Makes) (saved : Saved) (fault : Fault) → IsSafe Does saved (Some fault) → IsSafe Does saved (Some a_fault.OutOfMemory)
safe_memory Does saved fault (inl only) = inl only
safe_memory Does saved fault (inr (may, is)) = inr (inr (inr refl), is)

saves_memory : (Own : Try → Type 0) (files : Watched History) (saved : Saved) (locks : Count) (table : Option Table) (notes : NotesData) (fault : Fault) → SavesLast Own files saved locks table notes (Some fault)
    → SavesLast Own files saved locks table notes (Some a_fault.OutOfMemory)
saves_memory Own files saved locks table notes fault is = record {
  safe = λ calm. safe_memory (noted_in files table notes) saved fault (is.safe calm);
  idle = is.idle;
  locked = locked_memory table is.locked;
  saves = λ none. absurd (cc none);
}
  where
    told_memory : IsFaultOrMemory (Some fault) a_fault.ShelfFailed → IsFaultOrMemory (Some a_fault.OutOfMemory) a_fault.ShelfFailed
    told_memory either = inr refl

    locked_memory : (t : Option Table) → IsLockedLast Own files saved locks t notes (Some fault) → IsLockedLast Own files saved locks t notes (Some a_fault.OutOfMemory)
    locked_memory None only = only
    locked_memory (Some t) (inl (due, only)) = inl (tt, only)
    locked_memory (Some t) (inr ends) = inr (ends_by (λ none. absurd (cc none)) told_memory (behind_memory t) files locks ends)
      where
        behind_memory : (t : Table) → FailsBehindNotes Own files.old files saved t notes (Some fault) → FailsBehindNotes Own files.old files saved t notes (Some a_fault.OutOfMemory)
        behind_memory t (inl (answer, is)) = inl (told_memory answer, is)
        behind_memory t (inr memory) = inr refl

-- without a fault the status is 0
pub well : (code : ℕ) (fault : Option Fault) → MatchOption fault (code ≡ 0) (λ f. code ≡ 255) → fault ≡ None → code ≡ 0
well code None is none = is
well code (Some fault) is none = absurd (cc none)

module _ (command : Command) (flags : StatusFlags) (looked : Looked) (saved : Saved) (locks : Count) (out mid tail : Sink) (bytes : tail.old ≡ mid.new) (count : tail.before ≡ mid.after)
    (done : Result Unit Fault) (code : ℕ) (fault : Option Fault) (does : DoesStatus flags looked saved locks out mid done) (ends : EndsAs tail done code fault) where
  abbrev call : Call
  call = record { command = command; looked = looked; saved = saved; locks = locks; out = out; err = joined mid tail bytes count }

  abbrev listed : Looked
  listed = listed_to does.end looked

  abbrev look : Look
  look = status_look flags listed saved locks does.table does.notes

  memory_before : (f : Fault) → look.Before f → look.Before a_fault.OutOfMemory
  memory_before f before = (before.0, inl (a_read.OutOfMemory, refl, tt))

  memory_saving : (f : Fault) → MetSaving looked.shelf saved f → MetSaving looked.shelf saved a_fault.OutOfMemory
  memory_saving f (inl (failed, is)) = inl (failed, inr refl)
  memory_saving f (inr (is, none)) = inr (refl, none)

  concludes : Concludes look out call.err fault
  concludes = looks_by mid tail bytes count look out memory_before memory_saving done code fault does.shows ends

  -- the record that was read, before the caller made a step
  abbrev loaded : IfSome does.table (IsLoadedFirst looked.shelf)
  loaded = loaded_whole flags looked saved locks does.table does.end does.passes.past does.later does.passes does.loaded

  -- by its own try
  abbrev Own : Try → Type 0
  Own = ByLoadedFirst looked.shelf does.table loaded

  saved_first : SavesLast Own looked.shelf saved locks does.table does.notes (fault_in done)
  saved_first =
      saves_by (ByLoaded listed.shelf does.table does.loaded) Own (own_whole flags looked saved locks does.table does.end does.passes.past does.later does.passes does.loaded) looked.shelf saved locks
      does.table does.notes (fault_in done) does.saving

  saving : SavesLast Own looked.shelf saved locks does.table does.notes fault
  saving = answer_is mid tail bytes count (SavesLast Own looked.shelf saved locks does.table does.notes) (saves_memory Own looked.shelf saved locks does.table does.notes) done code fault ends saved_first

  lasts_noted : (calm : Undisturbed saved.old saved.new) → KeepsRecords others saved.new saved.old.history.last → (t : Table) (stretch : Stretch saved.old.history saved.new.history)
      (noted : IsNoted Own looked.shelf.old t does.notes saved stretch.from stretch.to) → LastsNoted Own looked.shelf.old t does.notes saved stretch.from stretch.to noted
  lasts_noted calm keep t stretch (inl unsaved) = tt
  lasts_noted calm keep t stretch (inr over) = λ fair.
      lasting saved.old saved.new does.kept calm keep (stood_by saved.new.history over.tried) t (applied does.notes t) stretch (over.kept fair)

  lasts_some : (calm : Undisturbed saved.old saved.new) → KeepsRecords others saved.new saved.old.history.last → (o : Option Table)
      → IfSome o (λ t. (noted : IsNotedHeld Own looked.shelf.old t does.notes saved)
      → LastsNoted Own looked.shelf.old t does.notes saved (noted calm).0.from (noted calm).0.to (noted calm).1)
  lasts_some calm keep None = tt
  lasts_some calm keep (Some t) = λ noted. lasts_noted calm keep t (noted calm).0 (noted calm).1

  looks_whole : Concludes (status_look flags looked saved locks does.table does.notes) out call.err fault
  looks_whole = concludes_whole flags looked saved locks does.table does.end does.passes.past does.later out call.err does.notes fault concludes

  -- what it told
  said_whole : (none : fault ≡ None) → SaysRows flags looked does.table (looks_whole.done none).said
  said_whole none = (looks_whole.done none).says

  pub ran_status : RanStatus flags call code fault
  ran_status = record {
    table = does.table;
    loaded = loaded;
    notes = does.notes;
    looks = looks_whole;
    whole = λ none own right.
        whole_own flags listed saved locks out call.err does.notes does.tree does.passes does.table does.loaded fault concludes none (own_listed looked does.end does.later own)
        (right_some looked does.end does.later (wanted_of flags) does.table right);
    front = λ own right.
        front_own flags listed saved locks out call.err does.notes does.tree does.passes does.table does.loaded fault concludes (own_listed looked does.end does.later own)
        (right_some looked does.end does.later (wanted_of flags) does.table right);
    complete = λ own p q r w.
        expected_by flags listed saved locks out call.err does.notes does.tree does.passes does.table does.loaded fault concludes (own_listed looked does.end does.later own) p q r w;
    tree = does.tree;
    asked = does.asked;
    reads = does.reads;
    below = does.below;
    needed = does.needed;
    noted = does.noted;
    earned = does.earned;
    saving = saving;
    lasts = λ calm keep. lasts_some calm keep does.table;
    ends = λ none. well code fault ends.status none ∙ sym (ap status_of (said_whole none).unrefused);
  }

  -- where a device failed, or a regexp was too big, there is a fault
  pub status_calm : fault ≡ None → IsCalm looked out call.err
  status_calm = calm_by mid tail bytes count looked out done code fault ends does.calm

  -- another one than of a stream where the shelf did
  pub status_streams : OnStream fault (looked.shelf.after ≡ looked.shelf.before)
  status_streams = answer_is mid tail bytes count (λ f. OnStream f (looked.shelf.after ≡ looked.shelf.before)) (λ f has is. absurd (true≢false (sym is))) done code fault ends does.streams

  -- and that of the working copy where it did
  pub status_tree : looked.tree.before < looked.tree.after → IsFaultOrMemory fault a_fault.TreeFailed
  status_tree =
      answer_is mid tail bytes count (λ f. looked.tree.before < looked.tree.after → IsFaultOrMemory f a_fault.TreeFailed) (λ f has rose. inr refl) done code fault ends (λ rose. inl (does.tree_failed rose))
