-- What a status does, exit by exit: the record wasn't read, it wasn't shown, or what was noted was saved or not.
use Rattle.std.proofs.Common.{ℕ, ◌≡◌, ◌<◌, ◌⊎◌, Bool, true, false, List, [], ◌∷◌, Option, Some, None, Result, Ok, Err, IsTrue, OnOk, refl, sym, ap, ◌∙◌, subst, inl, inr, arith, true≢false}
use Rattle.std.specs.List.{Contains}
use Rattle.hg_entry.specs.Table.{Table}
use Rattle.hg_flat.proofs.Needing.{needed_moved}
use Rattle.hg_manifest.specs.Load.{Was}
use Rattle.hg_report.specs.Fault.{has_line}
use Rattle.hg_report.specs.declared.fault.Fault.{Fault}
use Rattle.hg_report.specs.declared.fault.Fault.TheVariants as a_fault
use Rattle.hg_save.specs.Asked.{docket_ask}
use Rattle.hg_save.specs.Loads.{Try}
use Rattle.hg_shelf.proofs.Histories.{extends_same}
use Rattle.hg_shelf.specs.Asks.{AsksFrontOf}
use Rattle.hg_shelf.specs.History as shelf
use Rattle.hg_shelf.specs.Images.{Goes}
use Rattle.hg_shelf.specs.Polite.{StaysPlain}
use Rattle.hg_shelf.specs.History.{Files}
use Rattle.hg_tree.specs.History as tree
use Rattle.hg_session.proofs.Listings.{asks_below, asks_little, asks_load, left_by, part_of, plain_by, shown_by}
use Rattle.hg_session.proofs.Locked.{unwritten}
use Rattle.hg_session.proofs.Longer.{plain_shorter}
use Rattle.hg_session.proofs.Printing.{never_rose, no_notes, none_noted}
use Rattle.hg_session.proofs.Records.{read_stream}
use Rattle.hg_session.specs.Call.{Count, Fails, IsLeftAlone, Looked, Saved, Sink, Watched}
use Rattle.hg_session.specs.Change.{IsUnwritten}
use Rattle.hg_session.specs.Flags.{wanted_of}
use Rattle.hg_session.specs.Listed.{AsksBelow, status_over}
use Rattle.hg_session.specs.Load.{of_read}
use Rattle.hg_session.specs.Loaded.{AsksRecord, IsLoaded, MetReading}
use Rattle.hg_session.specs.Look.{IsCalm, IsShown, OnlyReads, at_first, at_saving}
use Rattle.hg_session.specs.Looking.{Shows, fault_in, ByLoaded, DoesStatus, ShowsTable, listed_to}
use Rattle.hg_session.specs.Put.{IsSilent, OnStream, is_stream}
use Rattle.hg_session.specs.SavingNotes.{of_save}
use Rattle.hg_session.specs.Status.{AreEarnedFor, IsLockedLast, MetSaving, SavesLast, status_look}
use Rattle.hg_session.specs.declared.read_fault.ReadFault.{ReadFault}
use Rattle.hg_session.specs.declared.read_fault.ReadFault.TheVariants as a_read
use Rattle.hg_session.specs.declared.save_fault.SaveFault.{SaveFault}
use Rattle.hg_session.specs.declared.save_fault.SaveFault.TheVariants as a_save
use Rattle.hg_walk.specs.Applying.{CanApply}
use Rattle.hg_walk.specs.Notes.{DirNote, NotesData}
use Rattle.hg_walk.specs.Walking.{AreNeeded, AreNoted}
use Rattle.hg_words.specs.declared.flags.StatusFlags.{StatusFlags}

-- ---- nothing is saved

-- a fault was met before anything is saved
none_saved : (Own : Try → Type 0) (files : Watched shelf.History) (saved : Saved) (locks : Count) (table : Option Table) (notes : NotesData) (fault : Fault) → OnlyReads saved locks
    → SavesLast Own files saved locks table notes (Some fault)
none_saved Own files saved locks table notes fault only = record {
  safe = λ calm. inl (inl (unwritten saved.old.history saved.new.history only.passes));
  idle = λ blank. only;
  locked = by_table table;
  saves = λ none. absurd (cc none);
}
  where
    by_table : (t : Option Table) → IsLockedLast Own files saved locks t notes (Some fault)
    by_table None = only
    by_table (Some t) = inl (tt, only)

-- the line of some fault, where there is one
abbrev line_of_some : Option Fault → Bool
line_of_some None = false
line_of_some (Some fault) = has_line fault

abbrev stream_of_some : Option Fault → Bool
stream_of_some None = false
stream_of_some (Some fault) = is_stream fault

read_told : (fault : ReadFault) → has_line (of_read fault) ≡ true
read_told a_read.OutOfMemory = refl
read_told (a_read.Docket f) = refl
read_told (a_read.Node f) = refl
read_told (a_read.DataGone ids) = refl
read_told a_read.Failed = refl

-- ---- the record wasn't read

module _ (flags : StatusFlags) (looked : Looked) (saved : Saved) (locks : Count) (out err : Sink) where
  pub does_unread : (copy : IsLeftAlone looked.tree) → tree.Passes looked.tree.old looked.tree.new → shelf.Passes looked.shelf.old looked.shelf.new → OnlyReads saved locks → (fault : ReadFault) → MetReading looked.shelf fault
      → (IsTrue looked.shelf.old.told → AsksRecord looked.shelf.old looked.shelf.new) → IsSilent out → IsSilent err → DoesStatus flags looked saved locks out err (Err (of_read fault))
  does_unread copy tree_passes passes unsaved fault met load still silent = record {
    end = looked.shelf.new;
    passes = passes;
    later = extends_same looked.shelf.new;
    table = None;
    loaded = tt;
    tree = tree_passes;
    shows = record { done = tt; left = (at_first, ((unsaved, inl (fault, refl, met)), still, record { told = read_told fault; silent = silent })) };
    asked = λ told. inl (ap_asked copy);
    reads = λ told. inl (ap_asked copy);
    below = asks_load looked (wanted_of flags) None load;
    calm = tt;
    streams = λ is. absurd (true≢false (sym is ∙ read_stream fault));
    tree_failed = λ rose. absurd (never_rose looked.tree.before looked.tree.after copy.count rose);
    notes = no_notes;
    needed = tt;
    noted = none_noted looked.tree.old looked.tree.new;
    earned = tt;
    kept = unsaved.kept;
    saving = none_saved (λ tried. ⊥) looked.shelf saved locks None no_notes (of_read fault) unsaved;
  }
    where
      ap_asked : IsLeftAlone looked.tree → looked.tree.new.asked ≡ looked.tree.old.asked
      ap_asked alone = λ i. (alone.history i).asked

-- ---- it was read

module _ (flags : StatusFlags) (looked : Looked) (saved : Saved) (locks : Count) (out err : Sink) (behind end : shelf.History) (n m : ℕ) (t : Table) (before : shelf.Passes looked.shelf.old behind) (after : shelf.Passes behind end)
    (later : shelf.Extends end looked.shelf.new) (loaded : IsLoaded (listed_to end looked).shelf t) (load : IsTrue looked.shelf.old.told → AsksRecord looked.shelf.old behind) (only : shelf.Passes looked.shelf.old end) (kept : Goes saved.old saved.new) where
  abbrev listed : Looked
  listed = listed_to end looked

  abbrev part : Looked
  part = part_of behind n m listed

  -- the try by which the record was read
  abbrev Own : Try → Type 0
  Own = ByLoaded listed.shelf (Some t) loaded

  -- behind the listing the docket is asked for once at most
  abbrev Asks : Type 0
  Asks = IsTrue end.told → AsksFrontOf (docket_ask ∷ []) end looked.shelf.new

  below_by : Asks → (fault : Result NotesData Fault) → ShowsTable flags part t out err fault → IsTrue looked.shelf.old.told → AsksBelow looked (wanted_of flags) (Some t)
  below_by asks fault shows = asks_below flags listed behind n m t shows.tree before after looked.shelf.new later asks load shows.store

  module _ (answer : Result NotesData Fault) (shows : ShowsTable flags part t out err answer) where
    short : (store : shelf.Files) → StaysPlain store looked.shelf.new looked.shelf.old.last → StaysPlain store end looked.shelf.old.last
    short store keeps = plain_shorter end looked.shelf.new later store looked.shelf.old.last keeps

    -- what the files below `.hg` were while it listed they were in the call
    was_over : (name : List ℕ) (P : Option (List ℕ) → Type 0) → Was behind end name P → Was looked.shelf.old looked.shelf.new name P
    was_over name P was = record {
      at = was.at;
      during = λ told. let during = was.during (before.past.told ∙ told) in record { from = omega (arith, before.past.later, during.from); to = omega (arith, during.to, later.later) };
      so = λ told. subst (λ (f : Files). P (f name)) (sym (later.stay was.at (was.during (before.past.told ∙ told)).to).shown) (was.so (before.past.told ∙ told));
    }

    -- each time was seen with what it stands for
    earned_by : AreEarnedFor looked t shows.notes
    earned_by store honest told keeps = shows.noted.earned store honest told (plain_by flags listed behind n m t shows.tree before after store (short store keeps))

    does_by : (result : Result Unit Fault) → SavesLast Own looked.shelf saved locks (Some t) shows.notes (fault_in result) → Asks
        → Shows (status_look flags listed saved locks (Some t) shows.notes) out err result → OnOk result (IsCalm looked out err) → OnStream (fault_in result) (looked.shelf.after ≡ looked.shelf.before)
        → (looked.tree.before < looked.tree.after → fault_in result ≡ Some a_fault.TreeFailed) → DoesStatus flags looked saved locks out err result
    does_by result saving asks all calm streams tree_failed = record {
      end = end;
      passes = only;
      later = later;
      table = Some t;
      loaded = loaded;
      tree = shows.tree;
      notes = shows.notes;
      shows = all;
      asked = asks_little looked (wanted_of flags) t shows.asked;
      reads = λ told. inr (needed_moved (status_over part (wanted_of flags) t) looked.shelf.old looked.shelf.new was_over (shows.reads told));
      below = below_by asks answer shows;
      calm = calm;
      streams = streams;
      tree_failed = tree_failed;
      needed = shows.noted.needed;
      noted = shows.noted.noted;
      earned = earned_by;
      kept = kept;
      saving = saving;
    }

  -- but not shown
  pub does_unshown : Asks → OnlyReads saved locks → (Fails part.shelf → Fails looked.shelf) → (part.shelf.after ≡ part.shelf.before → looked.shelf.after ≡ looked.shelf.before)
      → (fault : Fault) → ShowsTable flags part t out err (Err fault) → DoesStatus flags looked saved locks out err (Err fault)
  does_unshown asks unsaved failed calm fault shows =
      does_by (Err fault) shows (Err fault) (none_saved Own looked.shelf saved locks (Some t) shows.notes fault unsaved) asks
      (record { done = tt; left = left_by flags listed behind n m t shows.tree before after saved locks out err shows.notes unsaved failed fault shows.shows.left }) tt
      (λ is. calm (shows.streams is)) shows.tree_failed

  -- ---- it was shown

  shown : (notes : NotesData) (shows : ShowsTable flags part t out err (Ok notes)) → IsShown (status_look flags listed saved locks (Some t) shows.notes) out err
  shown notes shows = shown_by flags listed behind n m t shows.tree before after saved locks out err shows.notes shows.shows.done

  -- what is saved is what was noted
  saves_noted : (notes : NotesData) (shows : ShowsTable flags part t out err (Ok notes)) (fault : Option Fault) → SavesLast Own looked.shelf saved locks (Some t) notes fault
      → SavesLast Own looked.shelf saved locks (Some t) shows.notes fault
  saves_noted notes shows fault saving = subst (λ (n : NotesData). SavesLast Own looked.shelf saved locks (Some t) n fault) shows.answered saving

  -- and saved, or nothing was to be saved
  pub does_saved : (notes : NotesData) (shows : ShowsTable flags part t out err (Ok notes)) (u : Unit) → SavesLast Own looked.shelf saved locks (Some t) notes None → Asks
      → looked.shelf.after ≡ looked.shelf.before → DoesStatus flags looked saved locks out err (Ok u)
  does_saved notes shows u saving asks calm =
      does_by (Ok notes) shows (Ok u) (saves_noted notes shows None saving) asks (record { done = shown notes shows; left = tt })
      (record { tree = shows.calm.tree; shelf = calm; regexps = shows.calm.regexps; out = shows.calm.out; err = shows.calm.err }) tt
      (λ rose. absurd (never_rose looked.tree.before looked.tree.after shows.calm.tree rose))

  -- saving met a fault
  pub does_unsaved : (notes : NotesData) (shows : ShowsTable flags part t out err (Ok notes)) (fault : Fault) → SavesLast Own looked.shelf saved locks (Some t) notes (Some fault) → Asks
      → MetSaving looked.shelf saved fault → DoesStatus flags looked saved locks out err (Err fault)
  does_unsaved notes shows fault saving asks met =
      let is = shown notes shows in
      does_by (Ok notes) shows (Err fault) (saves_noted notes shows (Some fault) saving) asks (record {
        done = tt;
        left = (
          at_saving,
          (
            met,
            (
              is.ready,
              record {
                said = is.said;
                says = is.says;
                printed = is.printed;
                behind = record { text = is.told.text; is = is.told.is; mid = err.new; put = is.told.put; rest = record { told = has fault met; silent = record { bytes = refl; count = shows.calm.err } } };
              },
            ),
          ),
        );
      }) tt (λ is. absurd (true≢false (sym is ∙ not_stream fault met))) (λ rose. absurd (never_rose looked.tree.before looked.tree.after shows.calm.tree rose))
    where
      not_stream : (f : Fault) → MetSaving looked.shelf saved f → is_stream f ≡ false
      not_stream f (inl (failed, inl is)) = ap stream_of_some is
      not_stream f (inl (failed, inr is)) = ap stream_of_some is
      not_stream f (inr (is, none)) = subst (λ (x : Fault). is_stream x ≡ false) (sym is) refl

      has : (f : Fault) → MetSaving looked.shelf saved f → has_line f ≡ true
      has f (inl (failed, inl is)) = ap line_of_some is
      has f (inl (failed, inr is)) = ap line_of_some is
      has f (inr (is, none)) = subst (λ (x : Fault). has_line x ≡ true) (sym is) refl

-- notes that are needed can be written
pub needed_can : (t : Table) (notes : NotesData) → AreNeeded t notes → CanApply notes t
needed_can t notes needed = record {
  kind = λ note among. (needed.clean note among).kind;
  seen = λ note among. absurd (let none : Contains [] note = subst (λ (l : List DirNote). Contains l note) needed.seen among in omega (arith, none.1));
  gone = λ dir among. absurd (let none : Contains [] dir = subst (λ (l : List (List ℕ)). Contains l dir) needed.gone among in omega (arith, none.1));
}

-- what is answered is what was noted
pub noted_as : (copy : Watched tree.History) (t : Table) (notes answered : NotesData) → answered ≡ notes → AreNeeded t notes → AreNoted copy.old copy.new notes
    → AreNeeded t answered × AreNoted copy.old copy.new answered
noted_as copy t notes answered same needed noted =
    (subst (λ (n : NotesData). AreNeeded t n) (sym same) needed, subst (λ (n : NotesData). AreNoted copy.old copy.new n) (sym same) noted)

-- why saving met a fault
pub save_met : (files : Watched shelf.History) (saved : Saved) (fault : SaveFault) → (fault ≡ a_save.ShelfFailed → Fails files) → (fault ≡ a_save.ShelfFailed) ⊎ IsUnwritten saved.old.history saved.new.history
    → MetSaving files saved (of_save fault)
save_met files saved a_save.OutOfMemory failed (inl is) = absurd (cc is)
save_met files saved a_save.OutOfMemory failed (inr none) = inr (refl, none)
save_met files saved a_save.ShelfFailed failed either = inl (failed refl, inl refl)
