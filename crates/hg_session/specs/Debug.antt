-- What the command that prints the record answers, and why.
use Rattle.std.specs.Prelude.{ℕ, ◌≡◌, List, Option, Some, None, Result, Ok, Err, IfSome, IsTrue}
use Rattle.hg_entry.specs.Table.{Table}
use Rattle.hg_report.specs.Debug.{IsDebugText}
use Rattle.hg_report.specs.declared.fault.Fault.{Fault}
use Rattle.hg_save.specs.Record.{record_in}
use Rattle.hg_session.specs.Loaded.{AsksRecord, IsLoaded, IsUnreadable, MetReading}
use Rattle.hg_session.specs.Call.{Call, IsLeftAlone, Serves, Sink, Watched}
use Rattle.hg_session.specs.Load.{of_print}
use Rattle.hg_session.specs.Look.{OnlyReads}
use Rattle.hg_session.specs.Put.{IsFaultOrMemory, IsSilent, LeavesFront, Puts, PutsFront, Tells}
use Rattle.hg_session.specs.declared.print_fault.PrintFault.{PrintFault}
use Rattle.hg_session.specs.declared.print_fault.PrintFault.TheVariants as a_print
use Rattle.hg_shelf.specs.History as shelf

-- ---- what is printed

-- a text is that of the table that was read in the call
pub record HasText (files : Watched shelf.History) (text : List ℕ) : Type 0 where
  pub table : Table
  pub read : IsLoaded files table
  pub is : IsDebugText table text

-- a text is that of the record in these files
pub record IsTextIn (files : shelf.Files) (text : List ℕ) : Type 0 where
  pub table : Table
  pub recorded : record_in files files ≡ Some (Ok table)
  pub is : IsDebugText table text

-- two texts of the record in the same files are equal, so that one may speak of its text
abbrev pub OneRecord : Type 0
OneRecord = (files : shelf.Files) (a b : List ℕ) → IsTextIn files a → IsTextIn files b → a ≡ b

-- what printing came to: the text of the record was printed, or a front of it, or why the record wasn't read
abbrev pub Prints : Watched shelf.History → Sink → Result Unit PrintFault → Type 0
Prints files out (Ok done) = Puts (HasText files) out
Prints files out (Err (a_print.Read fault)) = MetReading files fault × IsSilent out
Prints files out (Err a_print.OutFailed) = PutsFront (HasText files) out

-- what is answered of it, and what stands on the error stream
abbrev pub AnswersPrinting : Sink → Result Unit PrintFault → Option Fault → Type 0
AnswersPrinting err (Ok done) answered = (answered ≡ None) × IsSilent err
AnswersPrinting err (Err fault) answered = IsFaultOrMemory answered (of_print fault) × IfSome answered (Tells err)

-- ---- what has to be answered

-- the answer where the files stand so, nobody else steps and no device fails; want of memory may come at any time
abbrev pub IsExpectedOf : shelf.Files → Option Fault → Type 0
IsExpectedOf files None = (table : Table) × (record_in files files ≡ Some (Ok table))
IsExpectedOf files (Some fault) = IsUnreadable files fault

-- ---- the command

-- the record was printed, or why not, and what was told of that
pub record ShowsRecord (files : Watched shelf.History) (out err : Sink) (answered : Option Fault) : Type 0 where
  pub came : Result Unit PrintFault
  pub prints : Prints files out came
  pub tells : AnswersPrinting err came answered

-- what the command did that ended with this status and this fault, or with none
pub record RanRecord (call : Call) (code : ℕ) (fault : Option Fault) : Type 0 where
  -- without a fault, the text of the table that was read was printed, and nothing told; and with one, why, and what stands in both streams
  pub shows : ShowsRecord call.looked.shelf call.out call.err fault
  -- where nobody else made a step below `.hg`, it is that of the record that stands there, and with a fault a front of it stands there, or nothing
  pub whole : fault ≡ None → shelf.IsOurs call.looked.shelf.old call.looked.shelf.new → Puts (IsTextIn (shelf.now call.looked.shelf.old).files) call.out
  pub front : shelf.IsOurs call.looked.shelf.old call.looked.shelf.new
      → IfSome fault (λ _. LeavesFront (IsTextIn (shelf.now call.looked.shelf.old).files) call.out)
  -- where nobody else steps and no count rises, the answer is the expected one, or there was no memory
  pub complete : shelf.IsOurs call.looked.shelf.old call.looked.shelf.new → Serves call.looked.shelf → Serves call.out
      → IsExpectedOf (shelf.now call.looked.shelf.old).files fault
  -- below `.hg` it asks for the record alone; it doesn't look at the working copy, and compiles no regexp
  pub below : IsTrue call.looked.shelf.old.told → AsksRecord call.looked.shelf.old call.looked.shelf.new
  pub alone : IsLeftAlone call.looked.tree
  pub uncounted : call.looked.oversize.after ≡ call.looked.oversize.before
  -- nothing below `.hg` is changed, and no lock asked for
  pub only : OnlyReads call.saved call.locks
  -- the status is 0 without a fault
  pub status : fault ≡ None → code ≡ 0
