-- What holds of lists of calls of the program, each over the files below `.hg` that the one before it left.
use Rattle.std.specs.Prelude.{ℕ, ◌⊎◌, List, Option, None, IsTrue}
use Rattle.hg_base.specs.Runs.{RunsEach}
use Rattle.hg_cli.specs.Kinds.{Serves, ServesWords, one_command}
use Rattle.hg_cli.specs.Said.{Said, plainly, safely}
use Rattle.hg_cli.specs.Seen.{Seen, Views, saved_over, seen, shelf_course}
use Rattle.hg_report.specs.declared.fault.Fault.{Fault}
use Rattle.hg_save.specs.Behind.{KeepsUsed}
use Rattle.hg_save.specs.Others.{HasData, KeepData, KeepsRecords}
use Rattle.hg_save.specs.Saved.{IsLatest}
use Rattle.hg_session.specs.Call.{Count, Looked, Sink}
use Rattle.hg_session.specs.Crash.{LeavesSound}
use Rattle.hg_shelf.specs.History.{others, us}
use Rattle.hg_shelf.specs.Images.{Course, last_scene}
use Rattle.hg_shelf.specs.Polite.{OthersOnlyRead}

-- ---- every list

-- from a first course on others only read while the lock is held, and publish as a record is published; and the data that dockets name are kept, or each step of
-- others keeps the bytes that dockets use, as this program's do
pub record OthersKeep (first last : Course) : Type 0 where
  pub told : IsTrue last.history.told
  pub only : OthersOnlyRead last first.history.last
  pub keep : KeepsRecords others last first.history.last
  pub kept : KeepData last.history first.history.last ⊎ KeepsUsed others last.history first.history.last

-- at the end of a course whatever a crash may leave is a sound record, none of its dockets is ahead of the one that stands, and the data file that this one
-- names is there
pub record IsSoundShelf (c : Course) : Type 0 where
  pub latest : IsLatest (last_scene c)
  pub sound : LeavesSound (last_scene c)
  pub there : HasData (last_scene c).files

-- what holds of a list of calls as one: it leads to such a shelf again, and each step of the calls keeps the bytes that dockets use
pub record KeepsAll (first last : Course) : Type 0 where
  pub shelf : IsSoundShelf last
  pub keeping : KeepsUsed us last.history first.history.last

-- every list of calls that are so plainly is one of calls that are so safely, with others publishing between and beside them, from a first shelf on that is
-- sound; and it is at the end. The data that dockets name are kept throughout, which is what a load asks of others
abbrev pub StaySafe : {C S : Type 0} → (S → Course) → (C → S → S → Type 0) → (C → S → S → Type 0) → Type 0
StaySafe {C = C} {S = S} course_of Plain Safe =
    (calls : List C) (first last : S) → IsSoundShelf (course_of first) → OthersKeep (course_of first) (course_of last) → RunsEach Plain calls first last
    → RunsEach Safe calls first last × KeepsAll (course_of first) (course_of last) × KeepData (course_of last).history (course_of first).history.last

-- ---- calls of commands by themselves

-- a command that is run by these words leads from one shelf to another, whatever the other devices, as it is said of what is seen
abbrev pub Leads : {S : Type 0} → ((S → S → Seen) → Said S) → (S → Course) → List (List ℕ) → S → S → Type 0
Leads says course_of words old new =
    (looked : Looked) × (locks : Count) × (out : Sink) × (err : Sink) × (code : ℕ) × (fault : Option Fault)
    × Serves (says (λ a b. record { looked = looked; saved = saved_over course_of a b; locks = locks; out = out; err = err })) one_command words None None old new code fault

-- ---- calls of any kind

-- the devices of a call other than the files below `.hg`: the working copy, what compiles regexps, standard output and the error stream
pub record Beside (T G O E : Type 0) : Type 0 where
  pub tree : T
  pub regexps : G
  pub out : O
  pub err : E

-- a call: its words, what the input had left before and behind it, the devices beside the files below `.hg` then, its status and its fault
pub record Given (T G O E : Type 0) : Type 0 where
  pub words : List (List ℕ)
  pub from : Option (List ℕ)
  pub to : Option (List ℕ)
  pub old : Beside T G O E
  pub new : Beside T G O E
  pub code : ℕ
  pub fault : Option Fault

-- all devices of a call
abbrev pub devices : {T S G O E : Type 0} → Beside T G O E → S → T × S × G × O × E
devices beside shelf = (beside.tree, shelf, beside.regexps, beside.out, beside.err)

-- a call leads from one shelf to another, as it is said; of the other devices each call may have its own
abbrev pub Calls : {T S G O E : Type 0} → Said (T × S × G × O × E) → Given T G O E → S → S → Type 0
Calls said call old new = ServesWords said call.words call.from call.to (devices call.old old) (devices call.new new) call.code call.fault

-- so each call of every list of them is safe, and in a script each turn that was made
abbrev pub EachCallIsSafe : {T S G O E : Type 0} → Views T S G O E → Type 0
EachCallIsSafe views = StaySafe (shelf_course views) (Calls (plainly (seen views))) (Calls (safely (seen views)))
