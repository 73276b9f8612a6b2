-- A run that is said plainly is one that is said safely.
use Rattle.std.proofs.Common.{ℕ, List, Option, None, inl, inr, sym, subst}
use Rattle.hg_cli.proofs.Following.{Follows, PartsFollow, call_follows}
use Rattle.hg_cli.proofs.Lists.{Kept, Steps, back, each, none_before, stay_safe}
use Rattle.hg_cli.specs.Calls.{Calls, EachCallIsSafe, Leads, OthersKeep, StaySafe, devices}
use Rattle.hg_cli.specs.Kinds.{kind_of}
use Rattle.hg_cli.specs.Run.{Carries, IsRun, IsStopped, call_of, made_carried, made_run}
use Rattle.hg_cli.specs.Said.{plainly, safely}
use Rattle.hg_cli.specs.Seen.{Seen, Views, saved_over, seen, shelf_course}
use Rattle.hg_report.specs.declared.fault.Fault.{Fault}
use Rattle.hg_session.proofs.Crashes.{crash_unwritten}
use Rattle.hg_session.proofs.Firm.{answered_upon}
use Rattle.hg_session.specs.Acts.{Makes, makes_nothing}
use Rattle.hg_session.specs.Call.{Count, Looked, Saved, Sink}
use Rattle.hg_session.specs.Change.{IsUnwritten}
use Rattle.hg_session.specs.Crash.{IsSafeBy}
use Rattle.hg_shelf.proofs.Scenes.{goes_same}
use Rattle.hg_shelf.specs.Images.{Course, Goes}
use Rattle.hg_words.specs.declared.given.Command.{Command}
use Rattle.hg_words.specs.declared.given.Command.TheVariants as a_command

-- ---- what each part keeps

unwritten_steps : (saved : Saved) → Goes saved.old saved.new → IsUnwritten saved.old.history saved.new.history → Steps makes_nothing saved
unwritten_steps saved goes none = (goes, λ calm keep latest ground. (None, tt, crash_unwritten saved.old saved.new goes calm keep none latest))

stopped_steps : (met : Fault) (part : Seen) (code : ℕ) (fault : Option Fault) → IsStopped met part code fault → Steps makes_nothing part.saved
stopped_steps met part code fault stopped = unwritten_steps part.saved stopped.idle.kept stopped.idle.unwritten

carried_steps : (command : Command) (part : Seen) (code : ℕ) (fault : Option Fault) (is : Carries command part code fault) → Steps (made_carried command part code fault is) part.saved
carried_steps (a_command.Status flags) part code fault answered = (answered.kept, answered_upon (call_of (a_command.Status flags) part) code fault answered)
carried_steps (a_command.Add files) part code fault answered = (answered.kept, answered_upon (call_of (a_command.Add files) part) code fault answered)
carried_steps (a_command.Forget files) part code fault answered = (answered.kept, answered_upon (call_of (a_command.Forget files) part) code fault answered)
carried_steps (a_command.Remove after files) part code fault answered = (answered.kept, answered_upon (call_of (a_command.Remove after files) part) code fault answered)
carried_steps (a_command.Copy source target) part code fault answered = (answered.kept, answered_upon (call_of (a_command.Copy source target) part) code fault answered)
carried_steps (a_command.SetParents p1 p2) part code fault answered = (answered.kept, answered_upon (call_of (a_command.SetParents p1 p2) part) code fault answered)
carried_steps a_command.DebugDirstate part code fault answered = (answered.kept, answered_upon (call_of a_command.DebugDirstate part) code fault answered)
carried_steps a_command.DebugScript part code fault answered = (answered.kept, answered_upon (call_of a_command.DebugScript part) code fault answered)
carried_steps (a_command.DebugLoad n) part code fault loaded = unwritten_steps part.saved loaded.untouched.kept loaded.untouched.unwritten

run_steps : (words : List (List ℕ)) (part : Seen) (code : ℕ) (fault : Option Fault) (run : IsRun words part code fault) → Steps (made_run words part code fault run) part.saved
run_steps words part code fault (inl (command, is, carried)) = carried_steps command part code fault carried
run_steps words part code fault (inr unread) = stopped_steps _ part code fault unread.undone

-- where nothing is done
same_steps : (c : Course) → Steps makes_nothing (record { old = c; new = c })
same_steps c = unwritten_steps (record { old = c; new = c }) (goes_same c) (record { none = λ k after before who. none_before k c.history.last after before })

-- ---- a run of each kind

-- what is seen between two states, of which the files below `.hg` have a course
module _ {D : Type 0} (course_of : D → Course) (looked : D → D → Looked) (locks : D → D → Count) (out err : D → D → Sink) (first : Course) where
  abbrev seen_by : D → D → Seen
  seen_by old new = record { looked = looked old new; saved = saved_over course_of old new; locks = locks old new; out = out old new; err = err old new }

  abbrev pub Before : D → Type 0
  Before now = OthersKeep first (course_of now)

  abbrev pub Behind : D → Type 0
  Behind now = Kept first (course_of now)

  -- what keeps the moments so far, and what a crash may leave, is safe
  by_steps : (Does : D → D → ℕ → Option Fault → Type 0) (made : (old new : D) (code : ℕ) (fault : Option Fault) → Does old new code fault → Makes)
      → ((old new : D) (code : ℕ) (fault : Option Fault) (does : Does old new code fault) → Steps (made old new code fault does) (saved_over course_of old new))
      → Follows Before Behind Does (λ old new code fault. (does : Does old new code fault) × IsSafeBy (made old new code fault does) (saved_over course_of old new))
  by_steps Does made steps = record {
    back = λ old new code fault does. back first (made old new code fault does) (course_of old) (course_of new) (steps old new code fault does);
    each = λ old new code fault does premise kept.
        let says = each first (made old new code fault does) (course_of old) (course_of new) (steps old new code fault does) premise kept in
        ((does, says.0), says.1);
  }

  parts_follow : PartsFollow Before Behind (plainly seen_by) (safely seen_by)
  parts_follow = record {
    rests = by_steps (plainly seen_by).Rests (λ old new code fault does. makes_nothing)
        (λ old new code fault does. subst (λ (d : D). Steps makes_nothing (saved_over course_of old d)) (sym does.0) (same_steps (course_of old)));
    runs = λ words. by_steps ((plainly seen_by).Runs words) (λ old new code fault run. made_run words (seen_by old new) code fault run)
        (λ old new code fault run. run_steps words (seen_by old new) code fault run);
    stops = λ met. by_steps ((plainly seen_by).Stops met) (λ old new code fault does. makes_nothing)
        (λ old new code fault does. stopped_steps met (seen_by old new) code fault does);
  }

-- ---- lists

module _ {T S G O E : Type 0} (views : Views T S G O E) where
  abbrev Devices : Type 0
  Devices = T × S × G × O × E

  abbrev course_in : Devices → Course
  course_in d = shelf_course views d.1

  views_follow : (first : S) → PartsFollow (λ (d : Devices). OthersKeep (shelf_course views first) (course_in d)) (λ (d : Devices). Kept (shelf_course views first) (course_in d)) (plainly (seen views)) (safely (seen views))
  views_follow first =
      parts_follow course_in (λ old new. (seen views old new).looked) (λ old new. (seen views old new).locks) (λ old new. (seen views old new).out) (λ old new. (seen views old new).err)
      (shelf_course views first)

  pub each_call_is_safe : EachCallIsSafe views
  each_call_is_safe =
      stay_safe (shelf_course views) (Calls (plainly (seen views))) (Calls (safely (seen views)))
      (λ first call old new does premise.
      (call_follows (λ (d : Devices). OthersKeep (shelf_course views first) (course_in d)) (λ (d : Devices). Kept (shelf_course views first) (course_in d)) (plainly (seen views)) (safely (seen views)) (views_follow first) (kind_of call.words) call.words call.from call.to).back
      (devices call.old old) (devices call.new new) call.code call.fault does premise)
      (λ first call old new does premise kept.
      (call_follows (λ (d : Devices). OthersKeep (shelf_course views first) (course_in d)) (λ (d : Devices). Kept (shelf_course views first) (course_in d)) (plainly (seen views)) (safely (seen views)) (views_follow first) (kind_of call.words) call.words call.from call.to).each
      (devices call.old old) (devices call.new new) call.code call.fault does premise kept)

-- a command by itself, whatever the other devices
module _ {S : Type 0} (course_of : S → Course) where
  run_back : (first : S) (words : List (List ℕ)) (old new : S) → Leads plainly course_of words old new → OthersKeep (course_of first) (course_of new) → OthersKeep (course_of first) (course_of old)
  run_back first words old new (looked, locks, out, err, code, fault, run) premise =
      ((parts_follow course_of (λ a b. looked) (λ a b. locks) (λ a b. out) (λ a b. err) (course_of first)).runs words).back old new code fault run premise

  run_each : (first : S) (words : List (List ℕ)) (old new : S) → Leads plainly course_of words old new → OthersKeep (course_of first) (course_of new) → Kept (course_of first) (course_of old)
      → Leads safely course_of words old new × Kept (course_of first) (course_of new)
  run_each first words old new (looked, locks, out, err, code, fault, run) premise kept =
      let says = ((parts_follow course_of (λ a b. looked) (λ a b. locks) (λ a b. out) (λ a b. err) (course_of first)).runs words).each old new code fault run premise kept in
      ((looked, locks, out, err, code, fault, says.0), says.1)

  pub each_run_is_safe : StaySafe course_of (Leads plainly course_of) (Leads safely course_of)
  each_run_is_safe = stay_safe course_of (Leads plainly course_of) (Leads safely course_of) run_back run_each
