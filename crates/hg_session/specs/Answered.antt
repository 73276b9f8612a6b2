-- What is promised of a call: one record of facts over what happened in it, a sentence a field.
use Rattle.std.specs.Prelude.{ℕ, ◌≡◌, ◌⊎◌, ◌<◌, None, Option, Some, IfSome, MatchOption}
use Rattle.hg_report.specs.declared.fault.Fault.{Fault}
use Rattle.hg_report.specs.declared.fault.Fault.TheVariants as a_fault
use Rattle.hg_save.specs.Others.{KeepsRecords}
use Rattle.hg_save.specs.Saved.{IsLatest}
use Rattle.hg_session.specs.Acts.{Makes, makes_nothing}
use Rattle.hg_session.specs.Call.{Call, Count, Fails, IsLeftAlone, Looked, Saved, Sink}
use Rattle.hg_session.specs.Cause.{CommandCause}
use Rattle.hg_session.specs.Change.{IsUnwritten, WroteOnly, come_so}
use Rattle.hg_session.specs.Changed.{RanChange}
use Rattle.hg_session.specs.Crash.{IsSafeFromCrashes}
use Rattle.hg_session.specs.Debug.{RanRecord}
use Rattle.hg_session.specs.Look.{IsCalm}
use Rattle.hg_session.specs.Put.{IsFaultOrMemory, IsSilent, OnStream, Tells}
use Rattle.hg_session.specs.Status.{RanStatus, noted_in}
use Rattle.hg_shelf.specs.History.{others}
use Rattle.hg_shelf.specs.Images.{Goes, last_scene}
use Rattle.hg_shelf.specs.Polite.{Undisturbed}
use Rattle.hg_words.specs.declared.given.Command.{Command}
use Rattle.hg_words.specs.declared.given.Command.TheVariants as a_command

-- every device but the error stream is as it was, and no count of theirs rose
pub record IsIdle (looked : Looked) (saved : Saved) (locks : Count) (out : Sink) : Type 0 where
  pub copy : IsLeftAlone looked.tree
  pub files : looked.shelf.new ≡ looked.shelf.old
  pub files_count : looked.shelf.after ≡ looked.shelf.before
  pub kept : Goes saved.old saved.new
  pub unwritten : IsUnwritten saved.old.history saved.new.history
  pub held : locks.after ≡ locks.before
  pub regexps : looked.oversize.after ≡ looked.oversize.before
  pub silent : IsSilent out

-- a fault was met before anything was done: its line is told, and nothing else is done
pub record IsUndone (met : Fault) (looked : Looked) (saved : Saved) (locks : Count) (out err : Sink) (code : ℕ) (fault : Option Fault) : Type 0 where
  pub answered : IsFaultOrMemory fault met
  pub told : IfSome fault (Tells err)
  pub idle : IsIdle looked saved locks out
  pub status : code ≡ 255

-- a command that isn't carried out is answered as not built
abbrev pub IsUnbuilt : Call → ℕ → Option Fault → Type 0
IsUnbuilt call code fault = IsUndone a_fault.NotBuilt call.looked call.saved call.locks call.out call.err code fault

-- what a command did that ended with this status and this fault, or with none
abbrev pub Ran : Command → Call → ℕ → Option Fault → Type 0
Ran (a_command.Status flags) call code fault = RanStatus flags call code fault
Ran (a_command.Add files) call code fault = RanChange call code fault
Ran (a_command.Forget files) call code fault = RanChange call code fault
Ran (a_command.Remove after files) call code fault = RanChange call code fault
Ran (a_command.Copy source target) call code fault = RanChange call code fault
Ran (a_command.SetParents p1 p2) call code fault = RanChange call code fault
Ran a_command.DebugDirstate call code fault = RanRecord call code fault
Ran a_command.DebugScript call code fault = IsUnbuilt call code fault
Ran (a_command.DebugLoad n) call code fault = IsUnbuilt call code fault

-- what a command makes of the record
abbrev pub made_by : (command : Command) (call : Call) (code : ℕ) (fault : Option Fault) → Ran command call code fault → Makes
made_by (a_command.Status flags) call code fault ran = noted_in call.looked.shelf ran.table ran.notes
made_by (a_command.Add files) call code fault ran = come_so ran.come
made_by (a_command.Forget files) call code fault ran = come_so ran.come
made_by (a_command.Remove after files) call code fault ran = come_so ran.come
made_by (a_command.Copy source target) call code fault ran = come_so ran.come
made_by (a_command.SetParents p1 p2) call code fault ran = come_so ran.come
made_by a_command.DebugDirstate call code fault ran = makes_nothing
made_by a_command.DebugScript call code fault ran = makes_nothing
made_by (a_command.DebugLoad n) call code fault ran = makes_nothing

-- a call ended with this status and this fault, or with none
pub record IsAnswered (call : Call) (code : ℕ) (fault : Option Fault) : Type 0 where
  -- what its command did
  pub ran : Ran call.command call code fault
  -- each fault comes only for its cause
  pub cause : IfSome fault (CommandCause call)
  -- where a device failed there is a fault
  pub calm : fault ≡ None → IsCalm call.looked call.out call.err
  -- a stream is told to have failed only where the shelf never did
  pub streams : OnStream fault (call.looked.shelf.after ≡ call.looked.shelf.before)
  -- a working copy that failed is told as such, whatever else failed behind it
  pub tree : call.looked.tree.before < call.looked.tree.after → IsFaultOrMemory fault a_fault.TreeFailed
  -- want of memory is told only where nothing was written but what its command may, or where the shelf failed too
  pub memory : fault ≡ Some a_fault.OutOfMemory → WroteOnly (made_by call.command call code fault ran).may call.saved ⊎ Fails call.looked.shelf
  -- the moments so far stay, with what a crash may leave of them
  pub kept : Goes call.saved.old call.saved.new
  -- at each moment of the call a crash leaves a record of what it might have left at the start, of what the call published of what its command made, or of what
  -- others published since; and the premises hold at the end, so that this can be said of the next call
  pub crash : IsSafeFromCrashes (made_by call.command call code fault ran) call.saved fault
  -- the premise on identifiers holds at the end upon any ground
  pub latest : Undisturbed call.saved.old call.saved.new → KeepsRecords others call.saved.new call.saved.old.history.last → IsLatest (last_scene call.saved.old)
      → IsLatest (last_scene call.saved.new)
  -- the status is 0 without a fault, or 1, and 255 with one
  pub status : MatchOption fault ((code ≡ 0) ⊎ (code ≡ 1)) (λ f. code ≡ 255)
