-- A shelf in memory: its history is the replay of what was changed.
use Rattle.std.specs.Prelude.{ℕ, zero, suc, ◌≡◌, ◌==◌, ◌<◌, ◌⊎◌, ◌||◌, Bool, not, true, false, if◌then◌else◌, List, [], ◌∷◌, ◌++◌, length, take, Option, Some, None, Result, Ok, Err, bytes_eq}
use Rattle.hg_base.specs.Calls.{Counted, answered, failed, is_due, unmade}
use Rattle.hg_shelf.specs.History.{Files, History, Who, us, others, label}
use Rattle.hg_shelf.specs.Images.{Images, Scene}
use Rattle.hg_shelf.specs.Rules.{content, overwritten, TornAt, Surely, Perhaps, moved, without}
use Rattle.hg_shelf.specs.declared.asked.Asked.{Asked}
use Rattle.hg_shelf.specs.declared.asked.LockAnswer.{LockAnswer}
use Rattle.hg_shelf.specs.declared.asked.LockAnswer.TheVariants as an_answer
use Rattle.hg_shelf.specs.declared.asked.LockCall.{LockCall}
use Rattle.hg_shelf.specs.declared.outside.Change.{Change}
use Rattle.hg_shelf.specs.declared.outside.Due.{Due}
use Rattle.hg_shelf.specs.declared.outside.Outside.{Outside}
use Rattle.hg_shelf.specs.declared.outside.Outside.TheVariants as a_change
use Rattle.hg_shelf.specs.declared.outside.Step.{Step}
use Rattle.hg_shelf.specs.declared.outside.Step.TheVariants as a_step

-- what was changed, in order; what others are to change just before a call; the calls of the shelf; whether another holds the lock,
-- and whether the caller does; how many locks were refused; what was asked, and the calls of the lock
pub record Memory : Type 0 where
  pub changes : List Change
  pub due : List Due
  pub calls : Counted
  pub away : Bool
  pub ours : Bool
  pub refusals : ℕ
  pub asked : List Asked
  pub locks : List LockCall

-- a shelf of which no call was made yet, none is to fail, and whose lock is free
abbrev pub fresh : Memory
fresh = record { changes = []; due = []; calls = unmade; away = false; ours = false; refusals = 0; asked = []; locks = [] }

-- the files with one put in place of what had its name
abbrev pub with_file : List ℕ → List ℕ → Files → Files
with_file name bytes files = λ at. if bytes_eq name at then Some bytes else files at

-- the maps that come by a change from one of some
abbrev pub After : (Files → Files → Type 0) → (Files → Type 0) → Files → Type 0
After change before c = (d : Files) × before d × change d c

-- a map gives a file as it is shown, where one is
abbrev pub Agrees : List ℕ → Files → Files → Type 0
Agrees name files c = (bytes : List ℕ) → files name ≡ Some bytes → c name ≡ Some bytes

-- a change that shows and leaves the same: that of another, with all that it does sure
abbrev pub surely : (Files → Files) → Scene → Scene
surely change s = record { files = change s.files; leaves = After (Surely change) s.leaves; named = After (Surely change) s.named }

-- a change of names, which a crash does wholly or not at all
abbrev pub perhaps : (Files → Files) → Scene → Scene
perhaps change s = record { files = change s.files; leaves = After (Perhaps change) s.leaves; named = After (Surely change) s.named }

-- a rename, by what is shown under the old name
abbrev pub renamed : Option (List ℕ) → List ℕ → List ℕ → Scene → Scene
renamed None from to s = s
renamed (Some bytes) from to s = perhaps (moved from to) s

abbrev pub written : List ℕ → ℕ → List ℕ → Scene → Scene
written name place bytes s = record {
  files = with_file name (overwritten (content (s.files name)) place bytes) s.files;
  leaves = After (TornAt name place (length bytes)) s.leaves;
  named = After (TornAt name place (length bytes)) s.named;
}

abbrev pub synced : List ℕ → Scene → Scene
synced name s = record { files = s.files; leaves = λ c. s.leaves c × Agrees name s.files c; named = λ c. s.named c × Agrees name s.files c }

-- the scene after a step
abbrev pub next : Step → Scene → Scene
next (a_step.Placed name bytes) s = surely (with_file name bytes) s
next (a_step.Taken name) s = surely (without name) s
next (a_step.Wrote name place bytes) s = written name place bytes s
next (a_step.Synced name) s = synced name s
next (a_step.Renamed from to) s = renamed (s.files from) from to s
next a_step.SyncedNames s = record { files = s.files; leaves = s.named; named = s.named }
next (a_step.Removed name) s = perhaps (without name) s

-- who made a change
abbrev pub maker : Change → Who
maker change = if change.by_us then us else label change.under_lock

-- who made the change of that number, counted from 0
abbrev pub maker_at : List Change → ℕ → Who
maker_at [] k = others
maker_at (change ∷ changes) zero = maker change
maker_at (change ∷ changes) (suc k) = maker_at changes k

-- a scene without files, also after a crash
abbrev pub empty : Scene
empty = record { files = λ name. None; leaves = λ c. (name : List ℕ) → c name ≡ None; named = λ c. (name : List ℕ) → c name ≡ None }

-- what reads show after a step
abbrev pub stepped : Step → Files → Files
stepped what files = (next what (record { files = files; leaves = λ c. Unit {0}; named = λ c. Unit {0} })).files

-- the scene after some changes
abbrev pub replayed : List Change → Scene → Scene
replayed [] s = s
replayed (change ∷ more) s = replayed more (next change.what s)

-- the files that some changes leave
abbrev pub AreLeft : List Change → Files → Type 0
AreLeft changes files = (name : List ℕ) → files name ≡ (replayed changes empty).files name

-- the scene after so many changes
abbrev pub scene_at : Memory → ℕ → Scene
scene_at memory k = replayed (take k memory.changes) empty

-- one moment for each change, after the one without files
abbrev pub history_of : Memory → History
history_of memory = record {
  ours = memory.ours;
  told = true;
  last = length memory.changes;
  at = λ k. record { files = (scene_at memory k).files };
  who = maker_at memory.changes;
  asked = memory.asked;
  locks = memory.locks;
}

abbrev pub images_of : Memory → ℕ → Images
images_of memory k = record { leaves = (scene_at memory k).leaves; named = (scene_at memory k).named }

-- what another does
abbrev pub step_of : Outside → Step
step_of (a_change.Place name bytes) = a_step.Placed name bytes
step_of (a_change.Remove name) = a_step.Taken name

-- a change of another just before a call, and just before the next one; and one of the caller's by the next one
abbrev pub before_call : ℕ → Bool → Outside → Change
before_call call ours change = record { call = call; by_us = false; under_lock = ours; what = step_of change }

abbrev pub by_others : Memory → Outside → Change
by_others memory change = before_call memory.calls.made memory.ours change

abbrev pub by_us : Memory → Step → Change
by_us memory what = record { call = memory.calls.made; by_us = true; under_lock = memory.ours; what = what }

-- what others change just before a call, by its number and by whether the caller holds the lock
abbrev pub coming_of : ℕ → Bool → List Due → List Change
coming_of call ours [] = []
coming_of call ours (d ∷ more) = if d.call == call then before_call call ours d.change ∷ coming_of call ours more else coming_of call ours more

-- what others change just before the next call
abbrev pub coming : Memory → List Change
coming memory = coming_of memory.calls.made memory.ours memory.due

-- the shelf once what is due just before its next call was made
abbrev pub after_due : Memory → Memory
after_due memory = record memory { changes = memory.changes ++ coming memory }

-- after a call that was answered, and after one that failed as it was told to: what was due was made, and the call is counted
abbrev pub after_call : Memory → Memory
after_call memory = record (after_due memory) { calls = answered memory.calls }

abbrev pub after_failure : Memory → Memory
after_failure memory = record (after_due memory) { calls = failed memory.calls }

-- after a call of the caller's that changed something
abbrev pub after_own : Step → Memory → Memory
after_own what memory = record (after_call memory) { changes = (after_due memory).changes ++ by_us memory what ∷ [] }

-- some of what was coming was made, and not all
pub record Stops (old coming new : List Change) : Type 0 where
  pub some : ℕ
  pub less : some < length coming
  pub made : new ≡ old ++ take some coming

-- after a call that found no memory: some of what was due was made, and the call counts as a failure
pub record Lacks (old new : Memory) : Type 0 where
  pub some : ℕ
  pub state : new ≡ record old { changes = old.changes ++ take some (coming old); calls = failed old.calls }

-- what a call leaves that failed
abbrev pub Fails : Memory → Memory → Type 0
Fails old new = ((is_due old.calls ≡ true) × (new ≡ after_failure old)) ⊎ Lacks old new

-- what was asked is noted, and what a call of the lock came to
abbrev pub asking : Asked → Memory → Memory
asking ask memory = record memory { asked = memory.asked ++ ask ∷ [] }

abbrev pub locking : LockAnswer → Memory → Memory
locking answer memory = record memory { locks = memory.locks ++ record { answer = answer; moment = length memory.changes } ∷ [] }

-- what a call leaves that asked and failed: it is noted, unless there was no memory
abbrev pub FailsAsking : Asked → Memory → Memory → Type 0
FailsAsking ask old new = Fails (asking ask old) new ⊎ Lacks old new

-- what a call of the lock leaves that failed: it is noted, unless there was no memory
pub record FailsLocking (answer : LockAnswer) (old new : Memory) : Type 0 where
  pub behind : Memory
  pub failed : Fails old behind
  pub noted : (new ≡ locking answer behind) ⊎ (new ≡ behind)

-- after a call before which nothing was due, by whether it failed: it is counted
abbrev pub counted : Bool → Memory → Memory
counted has_failed memory = record memory { calls = if has_failed then failed memory.calls else answered memory.calls }

-- a call that asks, before which nothing was due: it fails exactly where it was told to or couldn't be noted, and does nothing else
pub record AsksAlone (ask : Asked) (has_failed : Bool) (old new : Memory) : Type 0 where
  pub noted : Bool
  pub fails : has_failed ≡ (not noted || is_due old.calls)
  pub state : new ≡ counted has_failed (if noted then asking ask old else old)

-- what a call of the lock counts and notes, before which nothing was due: it fails exactly where it was told to or couldn't be noted
pub record LocksAlone (answer : LockAnswer) (has_failed : Bool) (old new : Memory) : Type 0 where
  pub noted : Bool
  pub fails : has_failed ≡ (not noted || is_due old.calls)
  pub calls : new.calls ≡ (counted has_failed old).calls
  pub locks : new.locks ≡ (if noted then locking answer old else old).locks

-- what taking the lock came to, and what giving it back did
abbrev pub taking_answer : {E : Type 0} → Result Bool E → LockAnswer
taking_answer (Ok true) = an_answer.Taken
taking_answer (Ok false) = an_answer.Refused
taking_answer (Err fault) = an_answer.NotTaken

abbrev pub giving_answer : {T E : Type 0} → Result T E → LockAnswer
giving_answer (Ok done) = an_answer.GivenBack
giving_answer (Err fault) = an_answer.NotGivenBack
