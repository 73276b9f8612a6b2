-- What a command makes, said of a part of a call, holds of the whole.
use Rattle.std.proofs.Common.{ℕ, ◌+◌, ◌≤◌, Bool, List, Option, None, Some, Ok, Err, codes, inl, inr, ap, ◌∙◌}
use Rattle.std.proofs.lemmas.Bool.{cases_lt}
use Rattle.hg_base.specs.declared.id.Id20.{Id20}
use Rattle.hg_entry.specs.Table.{Table}
use Rattle.hg_manifest.specs.Rows.{Rows}
use Rattle.hg_manifest.specs.declared.fault.ManifestFault.{ManifestFault}
use Rattle.hg_ops.specs.declared.refusal.OpFault.{OpFault}
use Rattle.hg_ops.specs.declared.refusal.OpFault.TheVariants as an_op
use Rattle.hg_report.specs.declared.fault.Fault.{Fault}
use Rattle.hg_save.specs.Record.{reading}
use Rattle.hg_session.specs.Acts.{AllSteps, ByOp, Deed, IsRemoved, Makes, StandsAt, StopsRemoving, TakesAway, makes_of, span_of}
use Rattle.hg_session.specs.Call.{Saved, Watched}
use Rattle.hg_session.specs.Change.{IsUnwritten, Made, NoneOurs, Publishes, WroteOnly, only_so}
use Rattle.hg_session.specs.Manifests.{IsReparented, LacksParents, LacksRows, LoadsRows, StopsParents}
use Rattle.hg_session.specs.Status.{noted_in}
use Rattle.hg_session.specs.Told.{OnlyRefuses, Told}
use Rattle.hg_session.proofs.Acted.{acted_wide, steps_wide}
use Rattle.hg_session.proofs.TakenWords.{takes_longer}
use Rattle.hg_shelf.specs.History.{Extends, History}
use Rattle.hg_shelf.specs.Images.{Course, Goes, Scene, scene}
use Rattle.hg_shelf.proofs.Histories.{extends_trans}
use Rattle.hg_tree.specs.History as tree
use Rattle.hg_walk.specs.Notes.{NotesData}
use Rattle.hg_words.specs.declared.given.Command.{Command}
use Rattle.hg_words.specs.declared.given.Command.TheVariants as a_command
use Rattle.std.specs.Prelude.{Result}

-- what the other asks of a history, which goes on from that of the one, the one asks of its own
abbrev pub FairWider : Makes → Makes → Type 0
FairWider Part Whole = (c d : History) → Extends c d → (at : ℕ) → at ≤ c.last → Whole.fair d at → Part.fair c at

-- what the one says the other says
pub record IsWider (Part Whole : Makes) : Type 1 where
  pub does : (old new : Table) (said : Told) (changed : Bool) → Part.does old new said changed → Whole.does old new said changed
  pub stops : (loaded : Table) (fault : Fault) → Part.stops loaded fault → Whole.stops loaded fault
  pub may : (before behind : Scene) → Part.may before behind → Whole.may before behind
  pub fair : FairWider Part Whole

-- also where the record that was read is told, and what was made of it
pub so_wide : (Part Whole : Makes) → IsWider Part Whole → (read : Option Table) (work : Option Made) → IsWider (only_so Part read work) (only_so Whole read work)
so_wide Part Whole wide read work = record {
  does = λ old new said changed is. (is.0, is.1, wide.does old new said changed is.2);
  stops = λ loaded fault is. (is.0, wide.stops loaded fault is.1);
  may = wide.may;
  fair = wide.fair;
}

-- the files of a moment record it, seen from later on too
pub stands_later : (c d : Course) → Goes c d → (at : ℕ) → at ≤ c.history.last → (loaded : Table) → StandsAt c at loaded → StandsAt d at loaded
stands_later c d goes at within loaded is = ap reading (goes.kept at within).shown ∙ is

pub as_wide : (One : Makes) → FairWider One One → IsWider One One
as_wide One fair = record { does = λ old new said changed is. is; stops = λ loaded fault is. is; may = λ before behind is. is; fair = fair }

-- nothing is asked
pub none_asked : (c d : History) → Extends c d → (at : ℕ) → at ≤ c.last → Unit {0} → Unit {0}
none_asked c d past at within none = none

-- a command asks nothing of others
pub asks_none : (command : Command) (copy : Watched tree.History) (files : Watched History) (h : History) (at : ℕ) → (makes_of command copy files).fair h at
asks_none (a_command.Add words) copy files h at = tt
asks_none (a_command.Forget words) copy files h at = tt
asks_none (a_command.Remove after words) copy files h at = tt
asks_none (a_command.Copy source target) copy files h at = tt
asks_none (a_command.SetParents p1 p2) copy files h at = tt
asks_none command copy files h at = tt

-- and writes nothing below `.hg` but the record
pub may_nothing : (command : Command) (copy : Watched tree.History) (files : Watched History) (before behind : Scene) → (makes_of command copy files).may before behind → ⊥
may_nothing (a_command.Add words) copy files before behind may = may
may_nothing (a_command.Forget words) copy files before behind may = may
may_nothing (a_command.Remove after words) copy files before behind may = may
may_nothing (a_command.Copy source target) copy files before behind may = may
may_nothing (a_command.SetParents p1 p2) copy files before behind may = may
may_nothing command copy files before behind may = may

-- nor does a status
pub may_note_nothing : (files : Watched History) (table : Option Table) (notes : NotesData) (before behind : Scene) → (noted_in files table notes).may before behind → ⊥
may_note_nothing files None notes before behind may = may
may_note_nothing files (Some t) notes before behind may = may

-- where it may write nothing it wrote nothing
pub unwritten_only : (May : Scene → Scene → Type 0) → ((before behind : Scene) → May before behind → ⊥) → (saved : Saved) → WroteOnly May saved → IsUnwritten saved.old.history saved.new.history
unwritten_only May nothing saved (inl none) = none
unwritten_only May nothing saved (inr (stretch, only)) = record {
  none = λ k after below is. elim (cases_lt k stretch.from) [
    | inl early ↦ stretch.before k after early is
    | inr late ↦ elim (cases_lt k stretch.to) [
      | inl within ↦ nothing (scene saved.new k) (scene saved.new (k + 1)) (only k late within is)
      | inr behind ↦ stretch.behind k behind below is
    ]
  ];
}

-- so before the moment from which it published it made no step
pub none_since : (Does : Makes) → ((before behind : Scene) → Does.may before behind → ⊥) → (saved : Saved) (is : Publishes Does saved) → NoneOurs saved.new.history saved.old.history.last is.since
none_since Does nothing saved is k after below who = elim (cases_lt k is.stretch.from) [
  | inl early ↦ is.stretch.before k after early who
  | inr late ↦ nothing (scene saved.new k) (scene saved.new (k + 1)) (is.may k late below who)
]

-- an operation that stops for a fault stops for it also where more is known
by_op : (Part Whole : OpFault → Type 0) → ((fault : OpFault) → Part fault → Whole fault) → (fault : Fault) → ByOp Part fault → ByOp Whole fault
by_op Part Whole wide fault (met, is, stops) = (met, is, wide met stops)

-- and so are refusals
refuses_by : (Part Whole : List ℕ → Type 0) → ((lines : List ℕ) → Part lines → Whole lines) → (said : Told) → OnlyRefuses Part said → OnlyRefuses Whole said
refuses_by Part Whole wide said is = record { unprinted = is.unprinted; unwarned = is.unwarned; lines = wide said.refused is.lines }

module _ (part whole : Watched History) (before : Extends whole.old part.old) (behind : Extends part.new whole.new) where
  rows_wide : (id : Id20) (answer : Result Rows ManifestFault) → LoadsRows part id answer → LoadsRows whole id answer
  rows_wide id answer is = record {
    old = is.old;
    new = is.new;
    before = extends_trans whole.old part.old is.old before is.before;
    behind = extends_trans is.new part.new whole.new is.behind behind;
    answers = is.answers;
  }

  reparented_wide : (p1 p2 : Id20) (old new : Table) (lines : List ℕ) (changed : Bool) → IsReparented p1 p2 part old new lines changed → IsReparented p1 p2 whole old new lines changed
  reparented_wide p1 p2 old new lines changed is = record {
    m1 = is.m1;
    m2 = is.m2;
    first = rows_wide p1 (Ok is.m1) is.first;
    second = rows_wide p2 (Ok is.m2) is.second;
    parents = is.parents;
    silent = is.silent;
    idle = is.idle;
    same = is.same;
  }

  rows_lacked : (id : Id20) (fault : OpFault) → LacksRows id part fault → LacksRows id whole fault
  rows_lacked id fault lacks = record { met = lacks.met; is = lacks.is; loads = rows_wide id (Err lacks.met) lacks.loads }

  parents_lacked : (p1 p2 : Id20) (fault : OpFault) → LacksParents p1 p2 part fault → LacksParents p1 p2 whole fault
  parents_lacked p1 p2 fault (inl lacks) = inl (rows_lacked p1 fault lacks)
  parents_lacked p1 p2 fault (inr (m1, loads, lacks)) = inr (m1, rows_wide p1 (Ok m1) loads, rows_lacked p2 fault lacks)

  removed_wide : (after : Bool) (words : List (List ℕ)) (copy : Watched tree.History) (old new : Table) (lines : List ℕ) (changed : Bool)
      → IsRemoved after words copy part old new lines changed → IsRemoved after words copy whole old new lines changed
  removed_wide after words copy old new lines changed is = record {
    start = is.start;
    begun = extends_trans whole.old part.old is.start before is.begun;
    acted =
        acted_wide (TakesAway after (span_of old is.start part.new)) (TakesAway after (span_of old is.start whole.new)) (takes_longer after (span_of old is.start part.new) whole.new behind) (codes "remove") words copy old new lines changed is.acted;
  }

  steps_longer : (after : Bool) (t : Table) (start : History) (from to : tree.History) (deeds : List Deed) (old new : Table)
      → AllSteps (TakesAway after (span_of t start part.new)) from to deeds old new → AllSteps (TakesAway after (span_of t start whole.new)) from to deeds old new
  steps_longer after t start from to deeds old new steps =
      steps_wide (TakesAway after (span_of t start part.new)) (TakesAway after (span_of t start whole.new)) (takes_longer after (span_of t start part.new) whole.new behind) from to deeds old new steps

  stopped_wide : (after : Bool) (words : List (List ℕ)) (copy : Watched tree.History) (old : Table) (fault : OpFault) → StopsRemoving after words copy part old fault → StopsRemoving after words copy whole old fault
  stopped_wide after words copy old fault (inl is) = inl (record {
    start = is.start;
    begun = extends_trans whole.old part.old is.start before is.begun;
    deeds = is.deeds;
    word = is.word;
    rest = is.rest;
    all = is.all;
    mid = is.mid;
    between = is.between;
    steps = steps_longer after old is.start copy.old is.mid is.deeds old is.between is.steps;
    past = is.past;
    takes = is.takes;
    reads = is.reads;
    end = is.end;
    within = extends_trans is.end part.new whole.new is.within behind;
    met = is.met;
    stopped = is.stopped;
  })
  stopped_wide after words copy old fault (inr is) = inr (record {
    is = is.is;
    start = is.start;
    begun = extends_trans whole.old part.old is.start before is.begun;
    deeds = is.deeds;
    rest = is.rest;
    all = is.all;
    between = is.between;
    steps = steps_longer after old is.start copy.old copy.new is.deeds old is.between is.steps;
  })

  parents_stopped : (p1 p2 : Id20) (fault : OpFault) → StopsParents p1 p2 part fault → StopsParents p1 p2 whole fault
  parents_stopped p1 p2 an_op.OutOfMemory stops = tt
  parents_stopped p1 p2 an_op.TreeFailed stops = stops
  parents_stopped p1 p2 an_op.ShelfFailed stops = tt
  parents_stopped p1 p2 (an_op.NoManifest id) stops = parents_lacked p1 p2 (an_op.NoManifest id) stops
  parents_stopped p1 p2 (an_op.ManifestTooLarge size) stops = parents_lacked p1 p2 (an_op.ManifestTooLarge size) stops
  parents_stopped p1 p2 (an_op.ManifestLine line) stops = parents_lacked p1 p2 (an_op.ManifestLine line) stops
  parents_stopped p1 p2 (an_op.ManifestOrder line) stops = parents_lacked p1 p2 (an_op.ManifestOrder line) stops
  parents_stopped p1 p2 (an_op.NoContents id) stops = stops

  pub makes_wide : (command : Command) (copy : Watched tree.History) → IsWider (makes_of command copy part) (makes_of command copy whole)
  makes_wide (a_command.Add words) copy = as_wide (makes_of (a_command.Add words) copy whole) none_asked
  makes_wide (a_command.Forget words) copy = as_wide (makes_of (a_command.Forget words) copy whole) none_asked
  makes_wide (a_command.Remove after words) copy = record {
    does = λ old new said changed. refuses_by (λ lines. IsRemoved after words copy part old new lines changed) (λ lines. IsRemoved after words copy whole old new lines changed) (λ lines. removed_wide after words copy old new lines changed) said;
    stops = λ loaded. by_op (StopsRemoving after words copy part loaded) (StopsRemoving after words copy whole loaded) (stopped_wide after words copy loaded);
    may = λ before behind is. is;
    fair = none_asked;
  }
  makes_wide (a_command.Copy source target) copy = as_wide (makes_of (a_command.Copy source target) copy whole) none_asked
  makes_wide (a_command.SetParents p1 p2) copy = record {
    does = λ old new said changed. refuses_by (λ lines. IsReparented p1 p2 part old new lines changed) (λ lines. IsReparented p1 p2 whole old new lines changed) (λ lines. reparented_wide p1 p2 old new lines changed) said;
    stops = λ loaded. by_op (StopsParents p1 p2 part) (StopsParents p1 p2 whole) (parents_stopped p1 p2);
    may = λ before behind is. is;
    fair = none_asked;
  }
  makes_wide command copy = record { does = λ old new said changed is. is; stops = λ loaded fault is. is; may = λ before behind is. is; fair = none_asked }
