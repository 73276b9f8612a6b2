-- Each status in a list of calls prints the full listing of what stands there, where nobody else steps in its call: the times that it finds are right.
use Rattle.std.proofs.Common.{ℕ, ◌≡◌, ◌≤◌, List, Option, Some, None, Ok, refl, sym, ap, ◌∙◌, subst, arith, inl, inr}
use Rattle.std.proofs.lemmas.Bool.{cases_lt}
use Rattle.std.specs.Prelude.{IfSome, IsTrue}
use Rattle.hg_append.specs.Loss.{plan_of}
use Rattle.hg_base.proofs.Runs.{says_each}
use Rattle.hg_base.specs.Runs.{RunsEach}
use Rattle.hg_entry.specs.Table.{Table}
use Rattle.hg_ignore.proofs.Staying.{apart_before}
use Rattle.hg_ignore.specs.Patterns.{Apart}
use Rattle.hg_cli.proofs.Following.{Follows, PartsFollow, call_follows}
use Rattle.hg_cli.proofs.Good.{LeadsOn, fair_first, fair_second}
use Rattle.hg_cli.proofs.GoodLists.{each, leads_on, run_leads, same_leads, since, stopped_leads}
use Rattle.hg_cli.proofs.Passing.{plain_kept}
use Rattle.hg_cli.specs.Calls.{Calls, Given, devices}
use Rattle.hg_cli.specs.Good.{Between, CallsFairly, CallsGood, CallsTruly, EachStatusIsFull, IsGoodShelf, PrintsFull, seen_of, truly}
use Rattle.hg_cli.specs.Kinds.{ServesWords, kind_of}
use Rattle.hg_cli.specs.Run.{Carries, IsRun, call_of}
use Rattle.hg_cli.specs.Said.{plainly}
use Rattle.hg_cli.specs.Seen.{Seen, Views, seen, shelf_course}
use Rattle.hg_report.specs.declared.fault.Fault.{Fault}
use Rattle.hg_session.proofs.GoodCalls.{answered_good}
use Rattle.hg_session.proofs.Looks.{not_without}
use Rattle.hg_session.proofs.Makers.{may_note_nothing, none_since, unwritten_only}
use Rattle.hg_session.specs.Acts.{Makes}
use Rattle.hg_session.specs.Answered.{IsAnswered}
use Rattle.hg_session.specs.Call.{Looked, Saved}
use Rattle.hg_session.specs.Change.{IsLoadedFirst, IsSafe, NoneOurs}
use Rattle.hg_session.specs.Good.{IsFair, IsGoodGround}
use Rattle.hg_session.specs.Listed.{IsOwn, IsRightFor}
use Rattle.hg_session.specs.Status.{noted_in}
use Rattle.hg_shelf.proofs.Scenes.{goes_same}
use Rattle.hg_shelf.specs.History as shelf
use Rattle.hg_shelf.specs.Images.{Course, Goes, Images, Scene, course, last_scene}
use Rattle.hg_shelf.specs.Polite.{KeepsPlain, Undisturbed}
use Rattle.hg_tree.proofs.Histories.{extends_same, extends_trans}
use Rattle.hg_tree.proofs.Spans.{ours_first, ours_second}
use Rattle.hg_tree.specs.History as tree
use Rattle.hg_words.specs.Command.{command_of}
use Rattle.hg_words.specs.declared.flags.StatusFlags.{StatusFlags}
use Rattle.hg_words.specs.declared.given.Command.{Command}
use Rattle.hg_words.specs.declared.given.Command.TheVariants as a_command

-- ---- where nobody else steps

us_not_readers : shelf.us ≡ shelf.readers → ⊥
us_not_readers same = cc same

us_not_others : shelf.us ≡ shelf.others → ⊥
us_not_others same = cc same

calm_own : (a b : Course) → shelf.IsOurs a.history b.history → Undisturbed a b
calm_own a b own = record { told = own.told; others = record { same = λ k from to is. absurd (us_not_readers (sym (own.ours k from to) ∙ is)) } }

-- others publish nothing, so what a call needs it has by any history of the working copy
fair_own : (by other : tree.History) (looked : Looked) (saved : Saved) → shelf.IsOurs saved.old.history saved.new.history → IsFair by looked saved → IsFair other looked saved
fair_own by other looked saved own fair = record {
  told = fair.told;
  honest = fair.honest;
  plain = fair.plain;
  parent = fair.parent;
  calm = fair.calm;
  keep = fair.keep;
  kept = fair.kept;
  published = λ t was. absurd (us_not_others (sym (own.ours was.at was.from was.to) ∙ was.by));
}

shelf_first : (a b c : shelf.History) → shelf.Extends b c → shelf.IsOurs a c → shelf.IsOurs a b
shelf_first a b c past own = record { told = own.told; ours = λ k from to. sym (past.who k to) ∙ own.ours k from (omega (arith, to, past.later)) }

shelf_second : (a b c : shelf.History) → shelf.Extends a b → shelf.IsOurs a c → shelf.IsOurs b c
shelf_second a b c past own = record { told = past.told ∙ own.told; ours = λ k from to. own.ours k (omega (arith, from, past.later)) to }

module _ (looked : Looked) (was now : ℕ → Images) (own : shelf.IsOurs looked.shelf.old looked.shelf.new) (past : shelf.Extends looked.shelf.old looked.shelf.new) where
  abbrev saved : Saved
  saved = record { old = course looked.shelf.old was; new = course looked.shelf.new now }

  abbrev start : ℕ
  start = looked.shelf.old.last

  abbrev end : ℕ
  end = looked.shelf.new.last

  -- a moment before which, or behind which, the caller made no step is the first, or the last
  is_start : (k : ℕ) → start ≤ k → k ≤ end → NoneOurs looked.shelf.new start k → k ≡ start
  is_start k later within none = elim (cases_lt start k) [
    | inl less ↦ absurd (none start (omega arith) less (own.ours start (omega arith) (omega (arith, less, within))))
    | inr most ↦ (omega (arith, most, later))
  ]

  is_end : (k : ℕ) → start ≤ k → k ≤ end → NoneOurs looked.shelf.new k end → k ≡ end
  is_end k later within none = elim (cases_lt k end) [
    | inl less ↦ absurd (none k (omega arith) less (own.ours k later less))
    | inr most ↦ (omega (arith, most, within))
  ]

  -- the plain store is as it was
  plain_own : (Does : Makes) → ((before behind : Scene) → Does.may before behind → ⊥) → (fault : Option Fault) → IsSafe Does saved fault → KeepsPlain looked.shelf.new start
  plain_own Does nothing fault (inl only) =
      let last : end ≡ start = is_start end past.later (omega arith) (unwritten_only Does.may nothing saved only).none in
      record { told = past.told ∙ own.told; each = λ name plain k from upto. ap (λ (j : ℕ). (looked.shelf.new.at j).files name) (omega (arith, from, upto, last)) }
  plain_own Does nothing fault (inr (may, is)) =
      let later : start ≤ is.since = omega (arith, is.stretch.start, is.from) in
      let within : is.since ≤ end = omega (arith, is.upto, is.stretch.end) in
      let first : is.since ≡ start = is_start is.since later within (none_since Does nothing saved is) in
      let last : is.stretch.to ≡ end = is_end is.stretch.to (omega (arith, later, is.upto)) is.stretch.end is.stretch.behind in
      record {
        told = past.told ∙ own.told;
        each = λ name plain k from upto.
            plain_kept (plan_of is.is.held) is.is.held.docket (looked.shelf.new.at is.since).files (looked.shelf.new.at k).files (is.is.others k (omega (arith, first, from)) (omega (arith, last, upto))) name plain
            ∙ ap (λ (j : ℕ). (looked.shelf.new.at j).files name) first;
      }

-- ---- one command

same_command : (words : List (List ℕ)) (a b : Command) → command_of words ≡ Ok a → command_of words ≡ Ok b → a ≡ b
same_command words a b first second = cc (first, second)

module _ {T S G O E : Type 0} (views : Views T S G O E)
    -- reads show one of what a crash may leave
    (shown : (s : S) → IsTrue (views.shelf s).told → (k : ℕ) → k ≤ (views.shelf s).last → (views.images s k).leaves ((views.shelf s).at k).files) where
  abbrev Devices : Type 0
  Devices = T × S × G × O × E

  -- what a command printed that ended over good ground
  abbrev Prints : Command → Devices → Devices → Option Fault → Type 0
  Prints command old new fault =
      (by : tree.History) → IsFair by (seen views old new).looked (seen views old new).saved → IsOwn (seen views old new).looked → Apart (views.tree new.0) → IsGoodGround (views.tree old.0) (last_scene (shelf_course views old.1))
      → PrintsFull command (seen views old new) fault

  status_prints : (flags : StatusFlags) (old new : Devices) (code : ℕ) (fault : Option Fault) → IsAnswered (call_of (a_command.Status flags) (seen views old new)) code fault → Prints (a_command.Status flags) old new fault
  status_prints flags old new code fault answered by fair own apart ground none =
      let looked : Looked = (seen views old new).looked in
      let saved : Saved = (seen views old new).saved in
      let good =
      answered_good looked.tree looked.shelf looked.oversize (seen views old new).locks (views.images old.1) (views.images new.1) (seen views old new).out (seen views old new).err code fault (shown new.1)
      (a_command.Status flags) answered in
      let ran = answered.ran in
      let plain : KeepsPlain looked.shelf.new looked.shelf.old.last =
      plain_own looked (views.images old.1) (views.images new.1) own.shelf answered.kept.past (noted_in looked.shelf ran.table ran.notes) (may_note_nothing looked.shelf ran.table ran.notes) fault
      (ran.saving.safe (calm_own saved.old saved.new own.shelf)) in
      ran.whole none own (some_right looked (λ t read. (good.right (fair_own by looked.tree.old looked saved own.shelf fair) apart ground t (read own.shelf.told)).each plain) ran.table ran.loaded)
    where
      some_right : (looked : Looked) → ((t : Table) → IsLoadedFirst looked.shelf t → IsRightFor looked t) → (o : Option Table) → IfSome o (IsLoadedFirst looked.shelf) → IfSome o (IsRightFor looked)
      some_right looked right None read = tt
      some_right looked right (Some t) read = right t read

  carried_prints : (command : Command) (old new : Devices) (code : ℕ) (fault : Option Fault) → Carries command (seen views old new) code fault → Prints command old new fault
  carried_prints (a_command.Status flags) old new code fault answered = status_prints flags old new code fault answered
  carried_prints command old new code fault carried = λ by fair own apart ground. tt

  run_prints : (words : List (List ℕ)) (old new : Devices) (code : ℕ) (fault : Option Fault) → IsRun words (seen views old new) code fault → (command : Command) → command_of words ≡ Ok command → Prints command old new fault
  run_prints words old new code fault (inl (made, is, carried)) command parsed =
      subst (λ (c : Command). Prints c old new fault) (same_command words made command is parsed) (carried_prints made old new code fault carried)
  run_prints words old new code fault (inr unread) command parsed = unread_prints command
    where
      unread_prints : (c : Command) → Prints c old new fault
      unread_prints (a_command.Status flags) = λ by fair own apart ground none. not_without fault _ unread.undone.answered none
      unread_prints c = λ by fair own apart ground. tt

  -- ---- a call, from its start on

  abbrev Leads : Devices → Devices → Type 0
  Leads old new = LeadsOn (seen views old new).looked (seen views old new).saved

  module _ (first : Devices) (by : tree.History) (start : IsGoodGround (views.tree first.0) (last_scene (shelf_course views first.1))) where
    -- so far nobody else stepped, and what it needs of others it had
    pub record SoFar (now : Devices) : Type 0 where
      pub fair : IsFair by (seen views first now).looked (seen views first now).saved
      pub own : IsOwn (seen views first now).looked
      pub apart : Apart (views.tree now.0)

    earlier : (old new : Devices) → Leads first old → Leads old new → SoFar new → SoFar old
    earlier old new one two so = record {
      fair =
          fair_first (views.tree first.0) (views.tree old.0) (views.tree new.0) (shelf_course views first.1) (shelf_course views old.1) (shelf_course views new.1)
          (views.tree_faults first.0) (views.tree_faults old.0) (views.tree_faults new.0)
          (seen views first old).looked.shelf (seen views old new).looked.shelf (seen views first new).looked.shelf
          (seen views first old).looked.oversize (seen views old new).looked.oversize (seen views first new).looked.oversize
          one.past two.past one.goes two.goes by so.fair;
      own = record {
        tree = ours_first (views.tree first.0) (views.tree old.0) (views.tree new.0) two.past so.own.tree;
        shelf = shelf_first (views.shelf first.1) (views.shelf old.1) (views.shelf new.1) two.goes.past so.own.shelf;
      };
      apart = apart_before (views.tree old.0) (views.tree new.0) two.past so.apart;
    }

    turn_prints : (words : List (List ℕ)) (old new : Devices) (code : ℕ) (fault : Option Fault) → IsRun words (seen views old new) code fault → Leads first old → Leads old new → SoFar new
        → (command : Command) → command_of words ≡ Ok command → PrintsFull command (seen views old new) fault
    turn_prints words old new code fault run one two so command parsed =
        let was : SoFar old = earlier old new one two so in
        let own : IsOwn (seen views old new).looked = record {
          tree = ours_second (views.tree first.0) (views.tree old.0) (views.tree new.0) one.past so.own.tree;
          shelf = shelf_second (views.shelf first.1) (views.shelf old.1) (views.shelf new.1) one.goes.past so.own.shelf;
        } in
        let ground : IsGoodGround (views.tree old.0) (last_scene (shelf_course views old.1)) =
        one.ground (views.tree old.0) (extends_same (views.tree old.0)) (fair_own by (views.tree old.0) (seen views first old).looked (seen views first old).saved was.own.shelf was.fair)
        (since views shown (last_scene (shelf_course views first.1)) (views.tree first.0) (views.tree old.0) one.past start) in
        run_prints words old new code fault run command parsed by
        (fair_second (views.tree first.0) (views.tree old.0) (views.tree new.0) (shelf_course views first.1) (shelf_course views old.1) (shelf_course views new.1)
        (views.tree_faults first.0) (views.tree_faults old.0) (views.tree_faults new.0)
        (seen views first old).looked.shelf (seen views old new).looked.shelf (seen views first new).looked.shelf
        (seen views first old).looked.oversize (seen views old new).looked.oversize (seen views first new).looked.oversize
        one.past two.past one.goes two.goes by so.fair)
        own so.apart ground

    -- where the call led to a state, it is so that far
    abbrev Premise : Devices → Type 0
    Premise now = Leads first now → SoFar now

    by_says : (Does Says : Devices → Devices → ℕ → Option Fault → Type 0) → ((old new : Devices) (code : ℕ) (fault : Option Fault) → Does old new code fault → Leads old new)
        → ((old new : Devices) (code : ℕ) (fault : Option Fault) → Does old new code fault → Leads first old → Leads old new → SoFar new → Says old new code fault) → Follows Premise (Leads first) Does Says
    by_says Does Says leads says = record {
      back = λ old new code fault does premise one.
          let two = leads old new code fault does in
          earlier old new one two (premise (leads_on views shown first old new one two));
      each = λ old new code fault does premise one.
          let two = leads old new code fault does in
          let both = leads_on views shown first old new one two in
          (says old new code fault does one two (premise both), both);
    }

    parts_say : PartsFollow Premise (Leads first) (plainly (seen views)) (truly (seen views))
    parts_say = record {
      rests = by_says (plainly (seen views)).Rests (truly (seen views)).Rests (λ old new code fault does. subst (Leads old) (sym does.0) (same_leads views shown old)) (λ old new code fault does one two so. does);
      runs = λ words.
          by_says ((plainly (seen views)).Runs words) ((truly (seen views)).Runs words) (run_leads views shown words)
          (λ old new code fault does one two so. (does, turn_prints words old new code fault does one two so));
      stops = λ met.
          by_says ((plainly (seen views)).Stops met) ((truly (seen views)).Stops met) (λ old new code fault does. stopped_leads met (seen views old new) code fault does) (λ old new code fault does one two so. does);
    }

    pub call_truly : (words : List (List ℕ)) (from to : Option (List ℕ)) (new : Devices) (code : ℕ) (fault : Option Fault) → ServesWords (plainly (seen views)) words from to first new code fault → SoFar new
        → ServesWords (truly (seen views)) words from to first new code fault
    call_truly words from to new code fault does so =
        let says = (call_follows Premise (Leads first) (plainly (seen views)) (truly (seen views)) parts_say (kind_of words) words from to).each first new code fault does (λ leads. so) (same_leads views shown first) in
        says.0

  -- ---- lists of calls

  each_truly : (call : Given T G O E) (old new : Between S) → CallsFairly views call old new → Unit {0} → IsGoodShelf views old → CallsTruly views call old new × IsGoodShelf views new
  each_truly call old new does premise sound = (
    λ own apart.
        call_truly (devices call.old old.0) (views.tree call.new.tree)
        (since views shown (last_scene (shelf_course views old.0)) old.1 (views.tree call.old.tree) does.since sound) call.words call.from call.to (devices call.new new.0) call.code call.fault does.does
        (record { fair = does.fair; own = own; apart = apart }),
    (each views shown call old new does premise sound).1,
  )

  pub each_status_is_full : EachStatusIsFull views
  each_status_is_full calls first last sound runs =
      (says_each (CallsFairly views) (CallsTruly views) (λ now. Unit {0}) (IsGoodShelf views) (λ call old new does premise. tt) each_truly calls first last runs tt sound).0
