-- What a load does: two statuses over a working copy that is made in memory, told by the numbers of their rows.
use Rattle.std.specs.Prelude.{ℕ, ◌≡◌, ◌*◌, ◌⊎◌, true, false, List, [], length, drop, Option, Some, None, IfSome}
use Rattle.hg_alone.specs.Alone.{files_of, tree_alone}
use Rattle.hg_cli.specs.Lines.{lines_with}
use Rattle.hg_cli.specs.Reading.{count_read}
use Rattle.hg_cli.specs.declared.load.Alone.{Alone}
use Rattle.hg_gen.specs.Copy.{IsCopy}
use Rattle.hg_gen.specs.Recorded.{IsStored}
use Rattle.hg_report.specs.Load.{load_text}
use Rattle.hg_report.specs.declared.fault.Fault.{Fault}
use Rattle.hg_report.specs.declared.fault.Fault.TheVariants as a_fault
use Rattle.hg_report.specs.declared.load.Counts.{Counts}
use Rattle.hg_session.specs.Answered.{IsAnswered}
use Rattle.hg_session.specs.Call.{Count, IsLeftAlone, Looked, Saved, Sink, counted, saved_by, watched}
use Rattle.hg_session.specs.Change.{IsUnwritten}
use Rattle.hg_session.specs.Look.{IsOutFault}
use Rattle.hg_session.specs.Put.{IsSilent, Puts, PutsFront, Tells}
use Rattle.hg_shelf.specs.Images.{Goes}
use Rattle.hg_shelf.specs.Memory as shelves
use Rattle.hg_tree.specs.History as tree
use Rattle.hg_words.specs.declared.flags.StatusFlags.{StatusFlags}
use Rattle.hg_words.specs.declared.given.Command.TheVariants as a_command

-- the flags of a status that asks for all letters
abbrev pub all_letters : StatusFlags
all_letters =
    record {
      modified = false;
      added = false;
      removed = false;
      deleted = false;
      clean = false;
      unknown = false;
      ignored = false;
      all = true;
      no_status = false;
      print0 = false;
      copies = false;
    }

-- it is the working copy of so many directories, as it was made: nothing of it was changed since, no call is to fail, and no lock was refused
pub record IsMade (dirs : ℕ) (made : Alone) : Type 0 where
  pub copy : IsCopy dirs (tree.now (tree_alone made.tree.tree))
  pub unchanged : (tree_alone made.tree.tree).last ≡ 0
  pub files : IsStored dirs (files_of made.shelf.shelf)
  pub looks : made.tree.tree.calls.failing ≡ []
  pub saves : made.shelf.shelf.calls.failing ≡ []
  pub refusals : made.shelf.shelf.refusals ≡ 0

-- a status over such a copy that asks for all letters, and meets no fault: what it leaves of the copy, and what it prints
pub record IsStatus (old new : Alone) (text : List ℕ) : Type 0 where
  pub oversize : Count
  pub out : Sink
  pub err : Sink
  pub code : ℕ
  pub empty : out.old ≡ Some []
  pub printed : out.new ≡ Some text
  pub answered : IsAnswered
      (record {
        command = a_command.Status all_letters;
        looked =
            record {
              tree = watched (λ t. tree_alone t.tree) (λ t. t.tree.calls.faults) old.tree new.tree;
              shelf = watched (λ s. shelves.history_of s.shelf) (λ s. s.shelf.calls.faults) old.shelf new.shelf;
              oversize = oversize;
            };
        saved = saved_by (λ s. shelves.history_of s.shelf) (λ s. shelves.images_of s.shelf) old.shelf new.shelf;
        locks = counted (λ s. s.shelf.refusals) old.shelf new.shelf;
        out = out;
        err = err;
      })
      code None

-- the numbers of rows in the text of a status, by the letters M A R ! ? I C
pub record AreCounts (text : List ℕ) (counts : Counts) : Type 0 where
  pub modified : counts.modified ≡ lines_with 77 text
  pub added : counts.added ≡ lines_with 65 text
  pub removed : counts.removed ≡ lines_with 82 text
  pub deleted : counts.deleted ≡ lines_with 33 text
  pub unknown : counts.unknown ≡ lines_with 63 text
  pub ignored : counts.ignored ≡ lines_with 73 text
  pub clean : counts.clean ≡ lines_with 67 text

-- the numbers of a status over a copy: of its rows, and of the different paths whose bytes it asked for
pub record Counted (old new : Alone) (counts : Counts) : Type 0 where
  pub text : List ℕ
  pub status : IsStatus old new text
  pub are : AreCounts text counts
  pub read : counts.read ≡ count_read (drop (length old.tree.tree.asked) new.tree.tree.asked)

-- so many rows of each letter has a listing of a working copy of so many directories
pub record AreNumbers (dirs : ℕ) (counts : Counts) : Type 0 where
  pub modified : counts.modified ≡ 2 * dirs
  pub added : counts.added ≡ dirs
  pub removed : counts.removed ≡ dirs
  pub deleted : counts.deleted ≡ dirs
  pub unknown : counts.unknown ≡ dirs
  pub ignored : counts.ignored ≡ 0
  pub clean : counts.clean ≡ 10 * dirs

-- the text of two statuses, one after another, over a working copy of so many directories: both have these numbers of rows
pub record IsLoadText (dirs : ℕ) (text : List ℕ) : Type 0 where
  pub made : Alone
  pub between : Alone
  pub behind : Alone
  pub first : Counts
  pub second : Counts
  pub fresh : IsMade dirs made
  pub one : Counted made between first
  pub other : Counted between behind second
  pub numbers : AreNumbers dirs first
  pub again : AreNumbers dirs second
  pub is : text ≡ load_text dirs first second

-- the working copy and the files below `.hg` weren't asked for anything, and nothing of them is changed
pub record AreUntouched (looked : Looked) (saved : Saved) (locks : Count) : Type 0 where
  pub copy : IsLeftAlone looked.tree
  pub files : looked.shelf.new ≡ looked.shelf.old
  pub files_count : looked.shelf.after ≡ looked.shelf.before
  pub kept : Goes saved.old saved.new
  pub unwritten : IsUnwritten saved.old.history saved.new.history
  pub held : locks.after ≡ locks.before
  pub regexps : looked.oversize.after ≡ looked.oversize.before

-- why a load met a fault, and what stands in standard output then: no memory, and nothing, or it failed while it was printed
abbrev pub StopsLoad : ℕ → Sink → Fault → Type 0
StopsLoad dirs out fault = ((fault ≡ a_fault.OutOfMemory) × IsSilent out) ⊎ (IsOutFault fault × PutsFront (IsLoadText dirs) out)

-- what a load printed and told that ended with this status and this fault, or with none
pub record Loads (dirs : ℕ) (out err : Sink) (code : ℕ) (fault : Option Fault) : Type 0 where
  pub done : fault ≡ None → (code ≡ 0) × Puts (IsLoadText dirs) out × IsSilent err
  pub left : IfSome fault (λ f. (code ≡ 255) × StopsLoad dirs out f × Tells err f)

-- and that it left all else as it was
pub record IsLoaded (dirs : ℕ) (looked : Looked) (saved : Saved) (locks : Count) (out err : Sink) (code : ℕ) (fault : Option Fault) : Type 0 where
  pub untouched : AreUntouched looked saved locks
  pub loads : Loads dirs out err code fault
