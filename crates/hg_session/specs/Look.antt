-- Where a command meets a fault, and what stands in its streams then; and what every command does that only looks.
use Rattle.std.specs.Prelude.{ℕ, ◌≡◌, ◌⊎◌, List, Option, None, IfSome}
use Rattle.hg_report.specs.declared.fault.Fault.{Fault}
use Rattle.hg_report.specs.declared.fault.Fault.TheVariants as a_fault
use Rattle.hg_session.specs.Call.{Count, Looked, Saved, Sink}
use Rattle.hg_session.specs.Put.{IsSilent, Puts, PutsFront, PutsThen, Tells}
use Rattle.hg_session.specs.Told.{IsText, Told, errors_of}
use Rattle.hg_shelf.specs.History as shelf
use Rattle.hg_shelf.specs.Images.{Goes}

-- where a command meets a fault: before it prints or saves, while it prints, while it tells its lines behind that, while it saves
pub data Stage : Type 0 where
  at_first : Stage
  at_printing : Stage
  at_telling : Stage
  at_saving : Stage

-- when a command saves what it saves: before the text that it prints, or behind that and its lines
pub data Order : Type 0 where
  saves_first : Order
  saves_last : Order

-- what a command is about: why it meets a fault before it prints or saves, what is so where it met none, what it tells, what is so while it prints that, and
-- while it tells the lines behind it, why it meets a fault while it saves, and when it does that
pub record Look : Type 1 where
  pub Before : Fault → Type 0
  pub Ready : Type 0
  pub Says : Told → Type 0
  pub Printing : Type 0
  pub Telling : Type 0
  pub Saving : Fault → Type 0
  pub order : Order

-- a fault that printing may meet; for the line of the one there may be no memory
abbrev pub IsOutFault : Fault → Type 0
IsOutFault fault = (fault ≡ a_fault.OutFailed) ⊎ (fault ≡ a_fault.OutOfMemory)

-- a text is what such a command prints
pub record IsPrinted (look : Look) (text : List ℕ) : Type 0 where
  pub said : Told
  pub says : look.Says said
  pub is : text ≡ said.printed

-- all of what such a command prints was put, and this is so of what it tells on the error stream
pub record IsPrintedAll (look : Look) (out : Sink) (Behind : List ℕ → Type 0) : Type 0 where
  pub said : Told
  pub says : look.Says said
  pub printed : Puts (IsText said.printed) out
  pub behind : Behind (errors_of said)

-- what stands in both streams where saving failed: nothing but the line of the fault, or the whole text, and that line behind the others
abbrev pub LeftBySaving : Order → Look → Sink → Sink → (Sink → Fault → Type 0) → Fault → Type 0
LeftBySaving saves_first look out err Line fault = IsSilent out × Line err fault
LeftBySaving saves_last look out err Line fault = look.Ready × IsPrintedAll look out (λ errors. PutsThen (IsText errors) (λ rest. Line rest fault) err)

-- the table of stages: what a fault means, and what stands in standard output and on the error stream, by the stage at which it was met; Line is
-- what stands of the line of a fault on an error stream that nothing else is told to
abbrev pub LeavesAt : Look → Sink → Sink → (Sink → Fault → Type 0) → Stage → Fault → Type 0
LeavesAt look out err Line at_first fault = look.Before fault × IsSilent out × Line err fault
LeavesAt look out err Line at_printing fault = look.Printing × look.Ready × PutsFront (IsPrinted look) out × IsOutFault fault × Line err fault
LeavesAt look out err Line at_telling fault = look.Telling × look.Ready × IsPrintedAll look out (λ errors. PutsFront (IsText errors) err) × (fault ≡ a_fault.ErrFailed)
LeavesAt look out err Line at_saving fault = look.Saving fault × LeftBySaving look.order look out err Line fault

-- no fault was met: the text was printed, and the lines behind it were told
pub record IsShown (look : Look) (out err : Sink) : Type 0 where
  pub ready : look.Ready
  pub said : Told
  pub says : look.Says said
  pub printed : Puts (IsText said.printed) out
  pub told : Puts (IsText (errors_of said)) err

-- a command that ended with this fault, or with none
pub record Concludes (look : Look) (out err : Sink) (fault : Option Fault) : Type 0 where
  -- without a fault the text was printed, and the lines behind it were told
  pub done : fault ≡ None → IsShown look out err
  -- and with one: where it was met, why, and what stands in both streams
  pub left : IfSome fault (λ f. (stage : Stage) × LeavesAt look out err Tells stage f)

-- ---- what a command leaves as it was that only looks

-- the files below `.hg` are only asked: the caller makes no step, its lock stays, the moments so far stay with what a crash may leave, and no lock
-- was refused
pub record OnlyReads (saved : Saved) (locks : Count) : Type 0 where
  pub passes : shelf.Passes saved.old.history saved.new.history
  pub kept : Goes saved.old saved.new
  pub held : locks.after ≡ locks.before

-- no count rose
pub record IsCalm (looked : Looked) (output errors : Sink) : Type 0 where
  pub tree : looked.tree.after ≡ looked.tree.before
  pub shelf : looked.shelf.after ≡ looked.shelf.before
  pub regexps : looked.oversize.after ≡ looked.oversize.before
  pub out : output.after ≡ output.before
  pub err : errors.after ≡ errors.before
