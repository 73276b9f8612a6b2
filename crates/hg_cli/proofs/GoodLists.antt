-- A call of the program, a script too, leads from good records to good ones, and so does every list of calls.
use Rattle.std.proofs.Common.{ℕ, ◌≤◌, List, Option, Some, None, refl, sym, ap, ◌∙◌, subst, arith, inl, inr}
use Rattle.std.specs.Prelude.{IsTrue}
use Rattle.hg_base.proofs.Runs.{says_each}
use Rattle.hg_cli.proofs.Following.{Follows, PartsFollow, call_follows}
use Rattle.hg_cli.proofs.Good.{LeadsOn, leads_both}
use Rattle.hg_cli.specs.Calls.{Given, devices}
use Rattle.hg_cli.specs.Good.{Between, CallsFairly, CallsGood, EachCallIsGood, IsBegunUpon, IsGoodShelf}
use Rattle.hg_cli.specs.Kinds.{ServesWords, kind_of}
use Rattle.hg_cli.specs.Run.{Carries, IsRun, IsStopped, call_of}
use Rattle.hg_cli.specs.Said.{plainly}
use Rattle.hg_cli.specs.Seen.{Seen, Views, seen, shelf_course}
use Rattle.hg_report.specs.declared.fault.Fault.{Fault}
use Rattle.hg_entry.specs.Table.{Table}
use Rattle.hg_save.proofs.Names.{never_itself}
use Rattle.hg_save.proofs.Solid.{sound_data}
use Rattle.hg_save.specs.Loads.{files_at}
use Rattle.hg_save.specs.Others.{HasData}
use Rattle.hg_save.specs.Record.{id_in, reading}
use Rattle.hg_save.specs.Saved.{name_after, used_in}
use Rattle.hg_session.proofs.Crashes.{crash_unwritten}
use Rattle.hg_session.proofs.Firm.{answered_upon}
use Rattle.hg_session.proofs.GoodCalls.{alone_past, answered_good, firm_by, unwritten_good}
use Rattle.hg_session.proofs.GoodParts.{there_upto}
use Rattle.hg_session.proofs.GoodStays.{good_later}
use Rattle.hg_session.specs.Answered.{IsAnswered, made_by}
use Rattle.hg_session.specs.Call.{IsLeftAlone, Looked, Saved}
use Rattle.hg_session.specs.Change.{IsUnwritten}
use Rattle.hg_session.specs.Crash.{IsCrashSafe}
use Rattle.hg_session.specs.Good.{IsFair, IsGoodGround, IsGoodRecord, KeepsGood, LeavesGood}
use Rattle.hg_shelf.proofs.Scenes.{goes_same}
use Rattle.hg_shelf.specs.History.{Files}
use Rattle.hg_shelf.specs.Images.{Goes, Scene, last_scene, scene}
use Rattle.hg_tree.proofs.Histories.{extends_same, extends_trans}
use Rattle.hg_tree.specs.History as tree
use Rattle.hg_words.specs.declared.given.Command.{Command}
use Rattle.hg_words.specs.declared.given.Command.TheVariants as a_command

-- ---- what one command does

-- a call that is safe from crashes leads to a shelf that may be called upon
ground_by : (looked : Looked) (saved : Saved) (own : Option Table) (by : tree.History) → Goes saved.old saved.new → IsFair by looked saved → IsGoodGround by (last_scene saved.old) → IsCrashSafe own saved
    → LeavesGood by (last_scene saved.new) → IsGoodGround by (last_scene saved.new)
ground_by looked saved own by goes fair ground crash good =
    let start = saved.old.history.last in
    let begun : HasData (files_at saved.new.history start) = subst HasData (sym (goes.kept start (omega arith)).shown) ground.there in
    record {
      latest = crash.latest;
      there = there_upto saved.new start (goes.past.told ∙ fair.calm.told) fair.calm.others fair.kept begun crash.keeping saved.new.history.last goes.past.later (omega arith);
      good = good;
    }

unwritten_leads : (looked : Looked) (saved : Saved) → IsLeftAlone looked.tree → Goes saved.old saved.new → IsUnwritten saved.old.history saved.new.history → LeadsOn looked saved
unwritten_leads looked saved alone goes none = record {
  past = alone_past looked.tree alone;
  goes = goes;
  ground = λ by past fair ground.
      ground_by looked saved None by goes fair ground (crash_unwritten saved.old saved.new goes fair.calm fair.keep none ground.latest)
      (unwritten_good looked saved goes none by past fair ground saved.new.history.last goes.past.later (omega arith));
  good = unwritten_good looked saved goes none;
}

pub stopped_leads : (met : Fault) (part : Seen) (code : ℕ) (fault : Option Fault) → IsStopped met part code fault → LeadsOn part.looked part.saved
stopped_leads met part code fault stopped = unwritten_leads part.looked part.saved stopped.idle.copy stopped.idle.kept stopped.idle.unwritten

-- ---- a call of the program

module _ {T S G O E : Type 0} (views : Views T S G O E)
    -- reads show one of what a crash may leave
    (shown : (s : S) → IsTrue (views.shelf s).told → (k : ℕ) → k ≤ (views.shelf s).last → (views.images s k).leaves ((views.shelf s).at k).files) where
  abbrev Devices : Type 0
  Devices = T × S × G × O × E

  abbrev Leads : Devices → Devices → Type 0
  Leads old new = LeadsOn (seen views old new).looked (seen views old new).saved

  pub same_leads : (d : Devices) → Leads d d
  same_leads d =
      unwritten_leads (seen views d d).looked (seen views d d).saved (record { history = refl; count = refl }) (goes_same (shelf_course views d.1))
      (record { none = λ k after before is. absurd (omega (arith, after, before)) })

  pub leads_on : (first old new : Devices) → Leads first old → Leads old new → Leads first new
  leads_on first old new one two =
      leads_both (views.tree first.0) (views.tree old.0) (views.tree new.0) (shelf_course views first.1) (shelf_course views old.1) (shelf_course views new.1)
      (views.tree_faults first.0) (views.tree_faults old.0) (views.tree_faults new.0)
      (seen views first old).looked.shelf (seen views old new).looked.shelf (seen views first new).looked.shelf
      (seen views first old).looked.oversize (seen views old new).looked.oversize (seen views first new).looked.oversize
      one.past two.past one.goes two.goes one two

  -- a command that was answered
  answered_leads : (command : Command) (old new : Devices) (code : ℕ) (fault : Option Fault) → IsAnswered (call_of command (seen views old new)) code fault → Leads old new
  answered_leads command old new code fault answered =
      let good : KeepsGood (seen views old new).looked (seen views old new).saved =
      answered_good (seen views old new).looked.tree (seen views old new).looked.shelf (seen views old new).looked.oversize (seen views old new).locks (views.images old.1) (views.images new.1)
      (seen views old new).out (seen views old new).err code fault (shown new.1) command answered in
      record {
        past = good.past;
        goes = answered.kept;
        ground = λ by past fair ground.
            let safe = answered_upon (call_of command (seen views old new)) code fault answered fair.calm fair.keep ground.latest
            (firm_by (seen views old new).looked (seen views old new).saved by answered.kept fair ground) in
            ground_by (seen views old new).looked (seen views old new).saved safe.0 by answered.kept fair ground safe.2
            (good.stays by past fair ground (shelf_course views new.1).history.last answered.kept.past.later (omega arith));
        good = good.stays;
      }

  carried_leads : (command : Command) (old new : Devices) (code : ℕ) (fault : Option Fault) → Carries command (seen views old new) code fault → Leads old new
  carried_leads (a_command.Status flags) old new code fault answered = answered_leads (a_command.Status flags) old new code fault answered
  carried_leads (a_command.Add files) old new code fault answered = answered_leads (a_command.Add files) old new code fault answered
  carried_leads (a_command.Forget files) old new code fault answered = answered_leads (a_command.Forget files) old new code fault answered
  carried_leads (a_command.Remove after files) old new code fault answered = answered_leads (a_command.Remove after files) old new code fault answered
  carried_leads (a_command.Copy source target) old new code fault answered = answered_leads (a_command.Copy source target) old new code fault answered
  carried_leads (a_command.SetParents p1 p2) old new code fault answered = answered_leads (a_command.SetParents p1 p2) old new code fault answered
  carried_leads a_command.DebugDirstate old new code fault answered = answered_leads a_command.DebugDirstate old new code fault answered
  carried_leads a_command.DebugScript old new code fault answered = answered_leads a_command.DebugScript old new code fault answered
  carried_leads (a_command.DebugLoad n) old new code fault loaded =
      unwritten_leads (seen views old new).looked (seen views old new).saved loaded.untouched.copy loaded.untouched.kept loaded.untouched.unwritten

  pub run_leads : (words : List (List ℕ)) (old new : Devices) (code : ℕ) (fault : Option Fault) → IsRun words (seen views old new) code fault → Leads old new
  run_leads words old new code fault (inl (command, is, carried)) = carried_leads command old new code fault carried
  run_leads words old new code fault (inr unread) = stopped_leads _ (seen views old new) code fault unread.undone

  -- what leads on from one state leads on from those before it
  abbrev Unasked : Devices → Type 0
  Unasked now = Unit {0}

  by_leads : (first : Devices) (Does : Devices → Devices → ℕ → Option Fault → Type 0) → ((old new : Devices) (code : ℕ) (fault : Option Fault) → Does old new code fault → Leads old new) → Follows Unasked (Leads first) Does Does
  by_leads first Does leads = record {
    back = λ old new code fault does premise. tt;
    each = λ old new code fault does premise kept. (does, leads_on first old new kept (leads old new code fault does));
  }

  parts_lead : (first : Devices) → PartsFollow Unasked (Leads first) (plainly (seen views)) (plainly (seen views))
  parts_lead first = record {
    rests = by_leads first (plainly (seen views)).Rests (λ old new code fault does. subst (Leads old) (sym does.0) (same_leads old));
    runs = λ words. by_leads first ((plainly (seen views)).Runs words) (run_leads words);
    stops = λ met. by_leads first ((plainly (seen views)).Stops met) (λ old new code fault does. stopped_leads met (seen views old new) code fault does);
  }

  pub call_leads : (words : List (List ℕ)) (from to : Option (List ℕ)) (old new : Devices) (code : ℕ) (fault : Option Fault) → ServesWords (plainly (seen views)) words from to old new code fault → Leads old new
  call_leads words from to old new code fault does =
      let says = (call_follows Unasked (Leads old) (plainly (seen views)) (plainly (seen views)) (parts_lead old) (kind_of words) words from to).each old new code fault does tt (same_leads old) in
      says.1

  -- ---- lists of calls

  pub since : (files : Scene) (h later : tree.History) → tree.Extends h later → IsGoodGround h files → IsGoodGround later files
  since files h later past ground = record {
    latest = ground.latest;
    there = ground.there;
    good = λ c left. let there = ground.good c left in (there.0, there.1, good_later c there.0 h later past there.2);
  }

  -- what a crash left may be called upon
  begun_upon : (h : tree.History) (left : Files) → IsGoodRecord left h (reading left) → (shelf : S) → IsBegunUpon views left shelf → IsGoodShelf views (shelf, h)
  begun_upon h left good shelf begun =
      let s : Scene = last_scene (shelf_course views shelf) in
      record {
        latest = record {
          latest = λ c leaves n after. never_itself n (id_in left) (ap (λ (f : Files). name_after n (id_in f)) (sym begun.shown) ∙ after ∙ ap (λ (f : Files). Some (id_in f)) (begun.alone c leaves));
          used = λ c leaves same. omega (arith, ap used_in (begun.alone c leaves ∙ sym begun.shown));
        };
        there = subst HasData (sym begun.shown) (sound_data left (good.0, good.1));
        good = λ c leaves. subst (λ (f : Files). IsGoodRecord f h (reading f)) (sym (begun.alone c leaves)) good;
      }

  pub each : (call : Given T G O E) (old new : Between S) → CallsFairly views call old new → Unit {0} → IsGoodShelf views old → CallsGood views call old new × IsGoodShelf views new
  each call old new does premise sound =
      let leads = call_leads call.words call.from call.to (devices call.old old.0) (devices call.new new.0) call.code call.fault does.does in
      let by = views.tree call.new.tree in
      let begun : IsGoodGround by (last_scene (shelf_course views old.0)) =
      since (last_scene (shelf_course views old.0)) old.1 by (extends_trans old.1 (views.tree call.old.tree) by does.since leads.past) sound in
      let same = extends_same by in (
        λ k after within.
            let good : LeavesGood new.1 (scene (shelf_course views new.0) k) =
            subst (λ (h : tree.History). LeavesGood h (scene (shelf_course views new.0) k)) (sym does.behind) (leads.good by same does.fair begun k after within) in
            (good, λ left leaves shelf upon. begun_upon new.1 left (good left leaves) shelf upon),
        subst (λ (h : tree.History). IsGoodGround h (last_scene (shelf_course views new.0))) (sym does.behind) (leads.ground by same does.fair begun),
      )

  pub each_call_is_good : EachCallIsGood views
  each_call_is_good calls first last sound runs =
      says_each (CallsFairly views) (CallsGood views) (λ now. Unit {0}) (IsGoodShelf views) (λ call old new does premise. tt) each calls first last runs tt sound
