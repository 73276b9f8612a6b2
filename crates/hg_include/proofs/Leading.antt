-- What was read so far and the lines that are left, led on by one line, and where the reading stops.
use Rattle.std.proofs.Common.{◌≡◌, ℕ, ◌+◌, ◌<◌, ◌≤◌, ◌⊎◌, inl, inr, true, false, List, [], ◌∷◌, ◌++◌, length, Option, Some, None, refl, sym, subst, ap, ◌∙◌, arith, append_assoc, append-nil, length-append, cond, suc, drop, drop-cons, get_or}
use Rattle.hg_tree.specs.History.{History, Passes}
use Rattle.hg_tree.proofs.Spans.{passes_trans}
use Rattle.hg_include.specs.declared.fault.Bad.{Bad}
use Rattle.hg_include.specs.declared.fault.Bad.TheVariants as a_bad
use Rattle.hg_include.specs.declared.fault.IncludeFault.{IncludeFault}
use Rattle.hg_include.specs.declared.fault.IncludeFault.TheVariants as a_fault
use Rattle.hg_include.specs.declared.look.Given.{Given}
use Rattle.hg_include.specs.declared.look.Given.TheVariants as given
use Rattle.hg_include.specs.declared.line.Line.{Line}
use Rattle.hg_include.specs.declared.line.Says.{Says}
use Rattle.hg_include.specs.declared.line.Says.TheVariants as says
use Rattle.hg_include.specs.declared.name.Target.{Target}
use Rattle.hg_include.specs.declared.opening.Opened.{Opened}
use Rattle.hg_include.specs.declared.piece.Piece.{Piece}
use Rattle.hg_include.specs.Answer.{Read}
use Rattle.hg_include.specs.Asking.{Agrees, EndsSo, Fails, Gives, IsNoRefusal, Stands, Stops, so_far}
use Rattle.hg_include.specs.Line.{lines_of}
use Rattle.hg_include.specs.Look.{Look, given_by}
use Rattle.hg_include.specs.Name.{included, subincluded, was_read}
use Rattle.hg_include.specs.Opening.{FailsToOpen, IsMade, Keeps, Opens}
use Rattle.hg_include.specs.Reading.{Ask, Ended, Know, SoFar, Task, named, opened, opens, reading, reads_on, refused, refuses, skips, step, step_of, tasks_of, warns}
use Rattle.hg_include.specs.Steps.{IsRefused, LeadsOn, StopsAt, line_task}
use Rattle.hg_include.proofs.Courses.{agrees_last, asks_more}
use Rattle.hg_include.proofs.Looks.{kept_fails}
use Rattle.hg_include.proofs.Readings.{GoesFrom, goes_behind, goes_from, on_bad, on_full, on_missing, on_refused, on_skipped, on_there, on_warned}

-- ---- where the tree isn't asked

plain_on : (most limit : ℕ) (start now : History) (before after : Read) (these those : List Task)
    → ((know : Know) (asks : List Ask) → reads_on most limit know these (so_far before asks) ≡ reads_on most limit know those (so_far after asks))
    → Stands most limit start now before these → Stands most limit start now after those
plain_on most limit start now before after these those same stands =
    record { asks = stands.asks; asked = stands.asked; goes = λ know agrees. stands.goes know agrees ∙ same know stands.asks }

plain_stop : (most limit : ℕ) (start now : History) (before : Read) (these : List Task) (fault : IncludeFault)
    → ((know : Know) (asks : List Ask) → EndsSo fault asks (reads_on most limit know these (so_far before asks)))
    → Stands most limit start now before these → Stops most limit start now fault
plain_stop most limit start now before these fault ends stands =
    record { asks = stands.asks; asked = stands.asked; ends = λ know agrees. subst (EndsSo fault stands.asks) (sym (stands.goes know agrees)) (ends know stands.asks) }

pub ends_from : (fault : IncludeFault) (asks : List Ask) (ended : Ended) → IsNoRefusal fault → GoesFrom ended asks → EndsSo fault asks ended
ends_from a_fault.OutOfMemory asks ended kind goes = goes
ends_from a_fault.Failed asks ended kind goes = goes
ends_from (a_fault.Bad file what) asks ended kind goes = absurd kind

-- want of memory at any place
pub stops_short : (most limit : ℕ) (start now : History) (before : Read) (these : List Task) → Stands most limit start now before these → Stops most limit start now a_fault.OutOfMemory
stops_short most limit start now before these =
    plain_stop most limit start now before these a_fault.OutOfMemory (λ know asks. goes_from most limit know these (so_far before asks))

-- ---- where it is asked

device_on : (most limit : ℕ) (start old new : History) (before after : Read) (these those : List Task) (path : List ℕ) (given : Given) → Passes start old → Passes old new
    → Gives most path old new given
    → ((know : Know) (asks : List Ask) → given_by most (know (length asks) path) ≡ given
    → reads_on most limit know these (so_far before asks) ≡ reads_on most limit know those (so_far after (asks ++ record { path = path; look = know (length asks) path } ∷ [])))
    → Stands most limit start old before these → Stands most limit start new after those
device_on most limit start old new before after these those path given first second gives same stands = record {
  asks = stands.asks ++ record { path = path; look = gives.look } ∷ [];
  asked = λ told. asks_more most start old new stands.asks (record { path = path; look = gives.look } ∷ []) second (stands.asked told) (gives.asked (first.past.told ∙ told));
  goes = λ know agrees.
      let both = agrees_last know stands.asks (record { path = path; look = gives.look }) agrees in
      stands.goes know both.0 ∙ same know stands.asks (ap (given_by most) both.1 ∙ gives.gives)
      ∙ ap (λ (look : Look). reads_on most limit know those (so_far after (stands.asks ++ record { path = path; look = look } ∷ []))) both.1;
}

device_stop : (most limit : ℕ) (start old new : History) (before : Read) (these : List Task) (path : List ℕ) (given : Given) (fault : IncludeFault) → Passes start old → Passes old new
    → Gives most path old new given
    → ((know : Know) (asks : List Ask) → given_by most (know (length asks) path) ≡ given
    → EndsSo fault (asks ++ record { path = path; look = know (length asks) path } ∷ []) (reads_on most limit know these (so_far before asks)))
    → Stands most limit start old before these → Stops most limit start new fault
device_stop most limit start old new before these path given fault first second gives ends stands = record {
  asks = stands.asks ++ record { path = path; look = gives.look } ∷ [];
  asked = λ told. asks_more most start old new stands.asks (record { path = path; look = gives.look } ∷ []) second (stands.asked told) (gives.asked (first.past.told ∙ told));
  ends = λ know agrees.
      let both = agrees_last know stands.asks (record { path = path; look = gives.look }) agrees in
      let at_looks = ends know stands.asks (ap (given_by most) both.1 ∙ gives.gives) in
      let by_look = subst (λ (look : Look). EndsSo fault (stands.asks ++ record { path = path; look = look } ∷ []) (reads_on most limit know these (so_far before stands.asks))) both.1 at_looks in
      subst (EndsSo fault (stands.asks ++ record { path = path; look = gives.look } ∷ [])) (sym (stands.goes know both.0)) by_look;
}

-- a look that isn't answered
device_fails : (most limit : ℕ) (start old new : History) (before : Read) (these : List Task) (path : List ℕ) (fault : IncludeFault) → Passes start old → Passes old new
    → Fails most path old new → IsNoRefusal fault
    → ((know : Know) (asks : List Ask) → GoesFrom (reads_on most limit know these (so_far before asks)) (asks ++ record { path = path; look = know (length asks) path } ∷ []))
    → Stands most limit start old before these → Stops most limit start new fault
device_fails most limit start old new before these path fault first second fails kind goes stands = record {
  asks = stands.asks ++ fails.asks;
  asked = λ told. asks_more most start old new stands.asks fails.asks second (stands.asked told) (fails.asked (first.past.told ∙ told));
  ends = λ know agrees. ends_from fault (stands.asks ++ fails.asks) (reading most limit know) kind (by_one know fails.asks fails.one agrees);
}
  where
    by_one : (know : Know) (asks : List Ask) → (asks ≡ []) ⊎ ((look : Look) × (asks ≡ record { path = path; look = look } ∷ [])) → Agrees know 0 (stands.asks ++ asks)
        → GoesFrom (reading most limit know) (stands.asks ++ asks)
    by_one know asks (inl e) agrees =
        let P : List Ask → Type 0 = λ v. Agrees know 0 v in
        let agreed = subst P (ap (λ v. stands.asks ++ v) e ∙ append-nil stands.asks) agrees in
        let far = goes_from most limit know these (so_far before stands.asks) in
        (far.0, ap (λ (v : Ended). v.so.asks) (stands.goes know agreed) ∙ far.1 ∙ ap (λ v. v ++ far.0) (sym (append-nil stands.asks) ∙ sym (ap (λ v. stands.asks ++ v) e)))
    by_one know asks (inr (look, e)) agrees =
        let P : List Ask → Type 0 = λ v. Agrees know 0 (stands.asks ++ v) in
        let both = agrees_last know stands.asks (record { path = path; look = look }) (subst P e agrees) in
        let far = goes know stands.asks in (
          far.0,
          ap (λ (v : Ended). v.so.asks) (stands.goes know both.0) ∙ far.1
              ∙ ap (λ (v : Look). (stands.asks ++ record { path = path; look = v } ∷ []) ++ far.0) both.1 ∙ ap (λ v. (stands.asks ++ v) ++ far.0) (sym e),
        )

-- ---- the lines of a reading

pub on_unknown : (most limit : ℕ) (now : History) (before after : Read) (task : Task) (name : List ℕ) → step before.pieces task ≡ warns name
    → after ≡ record before { warnings = before.warnings ++ record { file = task.file; line = task.line.number; missing = false; name = name } ∷ [] }
    → LeadsOn most limit now now before after (task ∷ []) []
on_unknown most limit now before after task name e is = λ start rest passes stands.
    plain_on most limit start now before after (task ∷ rest) rest
    (λ know asks. on_warned most limit know task rest (so_far before asks) name e ∙ ap (λ (r : Read). reads_on most limit know rest (so_far r asks)) (sym is)) stands

pub on_read_before : (most limit : ℕ) (now : History) (before : Read) (task : Task) → step before.pieces task ≡ skips → LeadsOn most limit now now before before (task ∷ []) []
on_read_before most limit now before task e = λ start rest passes stands.
    plain_on most limit start now before before (task ∷ rest) rest (λ know asks. on_skipped most limit know task rest (so_far before asks) e) stands

refused_so : (fault : IncludeFault) (file : List ℕ) (line : ℕ) (so : SoFar) (ended : Ended) → IsRefused file line fault → ended ≡ refused file (a_bad.Include line) so → EndsSo fault so.asks ended
refused_so a_fault.OutOfMemory file line so ended is e = ([], ap (λ (v : Ended). v.so.asks) e ∙ sym (append-nil so.asks))
refused_so a_fault.Failed file line so ended is e = absurd is
refused_so (a_fault.Bad at what) file line so ended is e =
    (ap (λ (v : Ended). v.so.asks) e, ap (λ (v : Ended). v.fault) e ∙ ap (λ (v : List ℕ). Some (record { file = v; what = a_bad.Include line })) (sym is.0) ∙ ap (λ (v : Bad). Some (record { file = at; what = v })) (sym is.1))

pub stops_refused : (most limit : ℕ) (now : History) (before : Read) (task : Task) (fault : IncludeFault) → step before.pieces task ≡ refuses → IsRefused task.file task.line.number fault
    → StopsAt most limit now now before (task ∷ []) fault
stops_refused most limit now before task fault e is = λ start rest passes stands.
    plain_stop most limit start now before (task ∷ rest) fault
    (λ know asks. refused_so fault task.file task.line.number (so_far before asks) _ is (on_refused most limit know task rest (so_far before asks) e)) stands

pub stops_full : (most limit : ℕ) (now : History) (before : Read) (task : Task) (fault : IncludeFault) (target : Target) (name : List ℕ) → step before.pieces task ≡ opens target name
    → limit ≤ length before.pieces → IsRefused task.file task.line.number fault → StopsAt most limit now now before (task ∷ []) fault
stops_full most limit now before task fault target name e full is = λ start rest passes stands.
    plain_stop most limit start now before (task ∷ rest) fault
    (λ know asks. refused_so fault task.file task.line.number (so_far before asks) _ is (on_full most limit know task rest (so_far before asks) target name e full)) stands

-- a file that is missing, and one that is there
pub leads_missing : (most limit : ℕ) (old new : History) (before after : Read) (task : Task) (target : Target) (name : List ℕ) → step before.pieces task ≡ opens target name
    → length before.pieces < limit → Passes old new → Gives most target.file old new given.Missing
    → after ≡ record before { warnings = before.warnings ++ record { file = task.file; line = task.line.number; missing = true; name = name } ∷ [] }
    → LeadsOn most limit old new before after (task ∷ []) []
leads_missing most limit old new before after task target name e room second gives is = λ start rest first stands.
    device_on most limit start old new before after (task ∷ rest) rest target.file given.Missing first second gives
    (λ know asks missing.
    on_missing most limit know task rest (so_far before asks) target name e room missing
    ∙ ap (λ (r : Read). reads_on most limit know rest (so_far r (asks ++ record { path = target.file; look = know (length asks) target.file } ∷ []))) (sym is)) stands

pub leads_there : (most limit : ℕ) (old new : History) (before after : Read) (task : Task) (target : Target) (name text : List ℕ) (o : Opened) → step before.pieces task ≡ opens target name
    → length before.pieces < limit → Passes old new → Gives most target.file old new (given.There text) → Keeps target text before after o
    → LeadsOn most limit old new before after (task ∷ []) (tasks_of o.target o.lines.items)
leads_there most limit old new before after task target name text o e room second gives keeps = λ start rest first stands.
    let tasks : tasks_of target (lines_of text) ≡ tasks_of o.target o.lines.items =
    sym (ap (λ t. tasks_of t (lines_of text)) keeps.same) ∙ sym (ap (tasks_of o.target) keeps.lines) in
    device_on most limit start old new before after (task ∷ rest) (tasks_of o.target o.lines.items ++ rest) target.file (given.There text) first second gives
    (λ know asks there.
    on_there most limit know task rest (so_far before asks) target name text e room there
    ∙ ap (λ (r : Read). reads_on most limit know (tasks_of target (lines_of text) ++ rest) (so_far r (asks ++ record { path = target.file; look = know (length asks) target.file } ∷ []))) (sym keeps.put)
    ∙ ap (λ v. reads_on most limit know (v ++ rest) (so_far after (asks ++ record { path = target.file; look = know (length asks) target.file } ∷ []))) tasks) stands

-- a file that is refused, or whose look isn't answered
pub stops_open : (most limit : ℕ) (old new : History) (before : Read) (task : Task) (target : Target) (name : List ℕ) (fault : IncludeFault) → step before.pieces task ≡ opens target name
    → length before.pieces < limit → Passes old new → FailsToOpen most target old new fault → StopsAt most limit old new before (task ∷ []) fault
stops_open most limit old new before task target name a_fault.OutOfMemory e room second fails = λ start rest first stands.
    device_fails most limit start old new before (task ∷ rest) target.file a_fault.OutOfMemory first second fails tt (λ know asks. goes_behind most limit know task rest (so_far before asks) target name e room) stands
stops_open most limit old new before task target name a_fault.Failed e room second fails = λ start rest first stands.
    device_fails most limit start old new before (task ∷ rest) target.file a_fault.Failed first second fails tt (λ know asks. goes_behind most limit know task rest (so_far before asks) target name e room) stands
stops_open most limit old new before task target name (a_fault.Bad file what) e room second (same, gives) = λ start rest first stands.
    device_stop most limit start old new before (task ∷ rest) target.file (given.Refused what) (a_fault.Bad file what) first second gives
    (λ know asks bad.
    let is = on_bad most limit know task rest (so_far before asks) target name what e room bad in
    (ap (λ (v : Ended). v.so.asks) is, ap (λ (v : Ended). v.fault) is ∙ ap (λ (v : List ℕ). Some (record { file = v; what = what })) (sym same))) stands

-- ---- what a name comes to

pub named_none : (pieces : List Piece) (name : List ℕ) (target : Option Target) → target ≡ None → named pieces name target ≡ refuses
named_none pieces name target e = ap (named pieces name) e

pub named_read : (pieces : List Piece) (name : List ℕ) (target : Option Target) (t : Target) → target ≡ Some t → was_read t pieces ≡ true → named pieces name target ≡ skips
named_read pieces name target t e was = ap (named pieces name) e ∙ ap (λ b. cond b skips (opens t name)) was

pub named_new : (pieces : List Piece) (name : List ℕ) (target : Option Target) (t : Target) → target ≡ Some t → was_read t pieces ≡ false → named pieces name target ≡ opens t name
named_new pieces name target t e new = ap (named pieces name) e ∙ ap (λ b. cond b skips (opens t name)) new

-- a file that wasn't opened was missing; one that was opened is there, and is the last
pub leads_none : (most limit : ℕ) (old new : History) (before mid after : Read) (task : Task) (target : Target) (name : List ℕ) (opened : Option Opened) → opened ≡ None → step before.pieces task ≡ opens target name
    → length before.pieces < limit → Passes old new → Opens most target old new before mid opened
    → after ≡ record mid { warnings = mid.warnings ++ record { file = task.file; line = task.line.number; missing = true; name = name } ∷ [] }
    → LeadsOn most limit old new before after (task ∷ []) []
leads_none most limit old new before mid after task target name opened none e room second o is =
    let made = subst (λ (v : Option Opened). IsMade target before mid o.given v) none o.made in
    let both = missing_given o.given made in
    leads_missing most limit old new before after task target name e room second (subst (Gives most target.file old new) both.0 o.gives)
    (is ∙ ap (λ (r : Read). record r { warnings = r.warnings ++ record { file = task.file; line = task.line.number; missing = true; name = name } ∷ [] }) both.1)
  where
    missing_given : (look : Given) → IsMade target before mid look None → (look ≡ given.Missing) × (mid ≡ before)
    missing_given given.Missing made = (refl, made)
    missing_given (given.Refused what) made = absurd made
    missing_given (given.There text) made = absurd made

pub leads_some : (most limit : ℕ) (old new : History) (before after : Read) (task : Task) (target : Target) (name : List ℕ) (o : Opened) → step before.pieces task ≡ opens target name
    → length before.pieces < limit → Passes old new → Opens most target old new before after (Some o)
    → LeadsOn most limit old new before after (task ∷ []) (tasks_of o.target o.lines.items)
leads_some most limit old new before after task target name o e room second is = by_given is.given is.gives is.made
  where
    by_given : (look : Given) → Gives most target.file old new look → IsMade target before after look (Some o) → LeadsOn most limit old new before after (task ∷ []) (tasks_of o.target o.lines.items)
    by_given given.Missing gives made = absurd made
    by_given (given.Refused what) gives made = absurd made
    by_given (given.There text) gives made = leads_there most limit old new before after task target name text o e room second gives made

-- one file more was read
pub more_kept : (most : ℕ) (target : Target) (old new : History) (before after : Read) (o : Opened) → Opens most target old new before after (Some o) → length after.pieces ≡ length before.pieces + 1
more_kept most target old new before after o is = by_given is.given is.made
  where
    by_given : (look : Given) → IsMade target before after look (Some o) → length after.pieces ≡ length before.pieces + 1
    by_given given.Missing made = absurd made
    by_given (given.Refused what) made = absurd made
    by_given (given.There text) made =
        ap (λ (r : Read). length r.pieces) made.put ∙ length-append before.pieces (record { file = target.file; base = target.base; text = text } ∷ [])

-- a look that was answered, behind which memory was short
pub stops_kept : (most limit : ℕ) (old new : History) (before : Read) (task : Task) (target : Target) (name : List ℕ) (look : Given) → step before.pieces task ≡ opens target name
    → length before.pieces < limit → Passes old new → Gives most target.file old new look → StopsAt most limit old new before (task ∷ []) a_fault.OutOfMemory
stops_kept most limit old new before task target name look e room second gives =
    stops_open most limit old new before task target name a_fault.OutOfMemory e room second (kept_fails most target.file old new look gives)

pub stops_at_once : (most limit : ℕ) (now : History) (before : Read) (these : List Task) → StopsAt most limit now now before these a_fault.OutOfMemory
stops_at_once most limit now before these = λ start rest passes stands. stops_short most limit start now before (these ++ rest) stands

-- what a line says that names a file
pub include_step : (pieces : List Piece) (file : List ℕ) (base : Option (List ℕ)) (what : Says) (name first second : List ℕ) (target : Option Target)
    → what ≡ says.Include name → first ≡ name → second ≡ name → target ≡ included base first → step_of pieces file base what ≡ named pieces second target
include_step pieces file base what name first second target e one two is =
    ap (step_of pieces file base) e ∙ ap (λ v. named pieces name (included base v)) (sym one) ∙ ap (named pieces name) (sym is) ∙ ap (λ v. named pieces v target) (sym two)

pub subinclude_step : (pieces : List Piece) (file at : List ℕ) (base : Option (List ℕ)) (what : Says) (name first second : List ℕ) (target : Option Target)
    → what ≡ says.SubInclude name → first ≡ name → second ≡ name → at ≡ file → target ≡ subincluded at first → step_of pieces file base what ≡ named pieces second target
subinclude_step pieces file at base what name first second target e one two same is =
    ap (step_of pieces file base) e ∙ ap (λ v. named pieces name (subincluded file v)) (sym one) ∙ ap (λ v. named pieces name (subincluded v first)) (sym same)
    ∙ ap (named pieces name) (sym is) ∙ ap (λ v. named pieces v target) (sym two)

-- ---- lines one behind another

pub leads_trans : (most limit : ℕ) (a b c : History) (x y z : Read) (these those its : List Task) → Passes a b → LeadsOn most limit a b x y these those → LeadsOn most limit b c y z those its
    → LeadsOn most limit a c x z these its
leads_trans most limit a b c x y z these those its passes first second = λ start rest before stands. second start rest (passes_trans start a b before passes) (first start rest before stands)

pub leads_under : (most limit : ℕ) (a b : History) (x y : Read) (these those more : List Task) → LeadsOn most limit a b x y these those → LeadsOn most limit a b x y (these ++ more) (those ++ more)
leads_under most limit a b x y these those more leads = λ start rest before stands.
    subst (Stands most limit start b y) (sym (append_assoc those more rest))
    (leads start (more ++ rest) before (subst (Stands most limit start a x) (append_assoc these more rest) stands))

pub stops_under : (most limit : ℕ) (a b : History) (x : Read) (these more : List Task) (fault : IncludeFault) → StopsAt most limit a b x these fault → StopsAt most limit a b x (these ++ more) fault
stops_under most limit a b x these more fault stops = λ start rest before stands.
    stops start (more ++ rest) before (subst (Stands most limit start a x) (append_assoc these more rest) stands)

pub stops_trans : (most limit : ℕ) (a b c : History) (x y : Read) (these those : List Task) (fault : IncludeFault) → Passes a b → LeadsOn most limit a b x y these those → StopsAt most limit b c y those fault
    → StopsAt most limit a c x these fault
stops_trans most limit a b c x y these those fault passes first stops = λ start rest before stands. stops start rest (passes_trans start a b before passes) (first start rest before stands)

-- a line was read, and what comes in its place stands before the lines that follow
pub leads_line : (most limit : ℕ) (a b c : History) (x y z : Read) (all : List Task) (target : Target) (lines more : List Line) (line : Line) (those : List Task) → Passes a b
    → LeadsOn most limit a b x y all (tasks_of target lines) → lines ≡ line ∷ more → LeadsOn most limit b c y z (line_task target line ∷ []) those
    → LeadsOn most limit a c x z all (those ++ tasks_of target more)
leads_line most limit a b c x y z all target lines more line those passes first e second =
    leads_trans most limit a b c x y z all (tasks_of target lines) (those ++ tasks_of target more) passes first
    (subst (λ (v : List Line). LeadsOn most limit b c y z (tasks_of target v) (those ++ tasks_of target more)) (sym e)
    (leads_under most limit b c y z (line_task target line ∷ []) those (tasks_of target more) second))

pub stops_line : (most limit : ℕ) (a b c : History) (x y : Read) (all : List Task) (target : Target) (lines more : List Line) (line : Line) (fault : IncludeFault) → Passes a b
    → LeadsOn most limit a b x y all (tasks_of target lines) → lines ≡ line ∷ more → StopsAt most limit b c y (line_task target line ∷ []) fault
    → StopsAt most limit a c x all fault
stops_line most limit a b c x y all target lines more line fault passes first e stops =
    stops_trans most limit a b c x y all (tasks_of target lines) fault passes first
    (subst (λ (v : List Line). StopsAt most limit b c y (tasks_of target v) fault) (sym e)
    (stops_under most limit b c y (line_task target line ∷ []) (tasks_of target more) fault stops))

-- the lines from a place on
pub next_line : (lines all : List Line) (i : ℕ) (line : Line) → lines ≡ all → i < length lines → line ≡ get_or lines i line → drop i all ≡ line ∷ drop (i + 1) all
next_line lines all i line same below is =
    let here : get_or all i line ≡ line = ap (λ (v : List Line). get_or v i line) (sym same) ∙ sym is in
    let within : i < length all = omega (arith, below, ap (λ (v : List Line). length v) same) in
    let more : suc i ≡ i + 1 = omega arith in
    drop-cons all i line within ∙ ap (λ v. v ∷ drop (suc i) all) here ∙ ap (λ n. line ∷ drop n all) more

-- the file that a line named was read whole
pub leads_deeper : (most limit : ℕ) (a b c d : History) (x y z w : Read) (all : List Task) (target : Target) (lines more : List Line) (line : Line) (those : List Task) → Passes a b → Passes b c
    → LeadsOn most limit a b x y all (tasks_of target lines) → lines ≡ line ∷ more → LeadsOn most limit b c y z (line_task target line ∷ []) those → LeadsOn most limit c d z w those []
    → LeadsOn most limit a d x w all (tasks_of target more)
leads_deeper most limit a b c d x y z w all target lines more line those p q first e second third =
    leads_trans most limit a c d x z w all (those ++ tasks_of target more) (tasks_of target more) (passes_trans a b c p q)
    (leads_line most limit a b c x y z all target lines more line those p first e second)
    (leads_under most limit c d z w those [] (tasks_of target more) third)

pub stops_deeper : (most limit : ℕ) (a b c d : History) (x y z : Read) (all : List Task) (target : Target) (lines more : List Line) (line : Line) (those : List Task) (fault : IncludeFault) → Passes a b → Passes b c
    → LeadsOn most limit a b x y all (tasks_of target lines) → lines ≡ line ∷ more → LeadsOn most limit b c y z (line_task target line ∷ []) those → StopsAt most limit c d z those fault
    → StopsAt most limit a d x all fault
stops_deeper most limit a b c d x y z all target lines more line those fault p q first e second stops =
    stops_trans most limit a c d x z all (those ++ tasks_of target more) fault (passes_trans a b c p q)
    (leads_line most limit a b c x y z all target lines more line those p first e second)
    (stops_under most limit c d z those (tasks_of target more) fault stops)
