-- The tree in memory: how it began, what was changed and by whom, what it was asked and which of its calls fail.
use Rattle.std.specs.Prelude.{ℕ, zero, suc, ◌≡◌, ◌==◌, ◌≤◌, ◌<◌, ◌⊎◌, Bool, true, false, if◌then◌else◌, List, [], ◌∷◌, ◌++◌, length, take, Option, Result, Ok, Err}
use Rattle.hg_base.specs.Calls.{Counted, answered, failed, is_due}
use Rattle.hg_base.specs.declared.fault.Failed.{Failed}
use Rattle.hg_base.specs.declared.stat.Kind.{Kind}
use Rattle.hg_base.specs.declared.time.Time.{Time}
use Rattle.hg_tree.specs.declared.asked.Asked.{Asked}
use Rattle.hg_tree.specs.declared.asked.Asked.TheVariants as an_ask
use Rattle.hg_tree.specs.declared.asked.Change.{Change}
use Rattle.hg_tree.specs.declared.asked.Change.TheVariants as the_change
use Rattle.hg_tree.specs.declared.asked.Due.{Due}
use Rattle.hg_tree.specs.declared.asked.Own.{Own}
use Rattle.hg_tree.specs.declared.asked.Own.TheVariants as an_own
use Rattle.hg_tree.specs.declared.fault.TreeFault.{TreeFault}
use Rattle.hg_tree.specs.declared.fault.TreeFault.TheVariants as a_fault
use Rattle.hg_tree.specs.Moment.{Moment, Things, empty_at, IsFormed}
use Rattle.hg_tree.specs.Change.{after_outside, by_others}
use Rattle.hg_tree.specs.Own.{after_extended, after_made, after_unlink, put_thing}
use Rattle.hg_tree.specs.History.{History, Who, us, others}

-- the changes and the asks stand in the order in which they were made
pub record Memory : Type 0 where
  pub start : Time
  pub changes : List Change
  pub due : List Due
  pub asked : List Asked
  pub calls : Counted

-- what the caller's own change makes of a moment: what it leaves has the clock's time
abbrev pub after_own_change : Own → Moment → Moment
after_own_change (an_own.Unlink path) moment = record moment { things = after_unlink path moment.clock moment.things }
after_own_change (an_own.Make path thing) moment = record moment { things = after_made path thing moment.clock moment.things }
after_own_change (an_own.Extend path more) moment = record moment { things = after_extended path more moment.clock moment.things }

-- the moment that a change makes of the one before
abbrev pub after : Change → Moment → Moment
after (the_change.ByOthers what) moment = after_outside what moment
after (the_change.ByUs what) moment = after_own_change what moment

-- the moment that changes make, the first of them first
abbrev pub replayed : List Change → Moment → Moment
replayed [] moment = moment
replayed (change ∷ more) moment = replayed more (after change moment)

-- who made a change
abbrev pub maker : Change → Who
maker (the_change.ByOthers what) = others
maker (the_change.ByUs what) = us

-- who made the change of that number, counted from 0
abbrev pub maker_at : List Change → ℕ → Who
maker_at [] k = others
maker_at (change ∷ changes) zero = maker change
maker_at (change ∷ changes) (suc k) = maker_at changes k

-- its moments are the empty working copy and then one for each change
abbrev pub history_of : Memory → History
history_of memory = record {
  told = true;
  last = length memory.changes;
  at = λ k. replayed (take k memory.changes) (empty_at memory.start);
  who = maker_at memory.changes;
  asked = memory.asked;
}

-- what others change just before a call, by its number
abbrev pub coming_of : ℕ → List Due → List Change
coming_of call [] = []
coming_of call (d ∷ more) = if d.call == call then by_others d.change ∷ coming_of call more else coming_of call more

-- what others change just before the next call
abbrev pub coming : Memory → List Change
coming memory = coming_of memory.calls.made memory.due

-- the tree once what is due just before its next call was made
abbrev pub after_due : Memory → Memory
after_due memory = record memory { changes = memory.changes ++ coming memory }

-- after a call that was answered, and after one that failed: what was due was made, and the call is counted
abbrev pub after_call : Memory → Memory
after_call memory = record (after_due memory) { calls = answered memory.calls }

abbrev pub after_failure : Memory → Memory
after_failure memory = record (after_due memory) { calls = failed memory.calls }

-- a change that the caller made, and the tree behind a call that made it
abbrev pub by_us : Own → Change
by_us what = the_change.ByUs what

abbrev pub with_own : Own → Memory → Memory
with_own what memory = record memory { changes = memory.changes ++ by_us what ∷ [] }

-- what a `put` is as a change of the caller's
abbrev pub own_put : Kind → Bool → ℕ → List ℕ → List ℕ → Own
own_put kind exec zero bytes path = an_own.Make path (put_thing kind exec bytes)
own_put kind exec (suc place) bytes path = an_own.Extend path bytes

-- some of what is due at a call was made, and not all
pub record Stops (call : ℕ) (old new : Memory) : Type 0 where
  pub some : ℕ
  pub less : some < length (coming_of call old.due)
  pub state : new ≡ record old { changes = old.changes ++ take some (coming_of call old.due) }

-- after a call that found no memory: some of what was due was made, and the call counts as a failure
pub record Lacks (old new : Memory) : Type 0 where
  pub some : ℕ
  pub less : some < length (coming old)
  pub state : new ≡ record old { changes = old.changes ++ take some (coming old); calls = failed old.calls }

-- what a call leaves that failed: it was told to, or there was no memory for what was due
abbrev pub Fails : Memory → Memory → Type 0
Fails old new = ((is_due old.calls ≡ true) × (new ≡ after_failure old)) ⊎ Lacks old new

-- what was asked is noted
abbrev pub noting : Asked → Memory → Memory
noting ask memory = record memory { asked = memory.asked ++ ask ∷ [] }

-- what a listing leaves: it is counted and noted, also where it fails. Where there is no memory to note it, it answers so, and isn't made
abbrev pub LeavesListed : {T : Type 0} → Option (List ℕ) → Result T TreeFault → Memory → Memory → Type 0
LeavesListed dir (Ok found) old new = (is_due old.calls ≡ false) × (new ≡ noting (an_ask.List dir) (after_call old))
LeavesListed dir (Err a_fault.OutOfMemory) old new = (new ≡ old) ⊎ ((is_due old.calls ≡ false) × (new ≡ noting (an_ask.List dir) (after_call old)))
LeavesListed dir (Err a_fault.Failed) old new = Fails (noting (an_ask.List dir) old) new

-- what a read leaves: it is counted and noted. Where there is no memory to note it, it counts as a failure, and answers so
abbrev pub LeavesRead : {T : Type 0} → List ℕ → Result T Failed → Memory → Memory → Type 0
LeavesRead path (Ok got) old new = (is_due old.calls ≡ false) × (new ≡ noting (an_ask.Read path) (after_call old))
LeavesRead path (Err fault) old new =
    Fails (noting (an_ask.Read path) old) new ⊎ (Fails old new ⊎ ((is_due old.calls ≡ false) × (new ≡ after_failure old)))

-- what a call leaves that may change something: its own change stands behind what was due exactly where it answers that it was made. One
-- that failed, as for want of memory, made none
abbrev pub LeavesOwn : Own → Result Bool Failed → Memory → Memory → Type 0
LeavesOwn what (Ok done) old new = (is_due old.calls ≡ false) × (new ≡ (if done then with_own what (after_call old) else after_call old))
LeavesOwn what (Err fault) old new = Fails old new ⊎ (new ≡ after_failure old)

-- what is shown now, and the clock, is what the changes make, and each moment so far is well formed
pub record IsKept (start : Time) (changes : List Change) (clock : Time) (shown : Things) : Type 0 where
  pub time : clock ≡ (replayed changes (empty_at start)).clock
  pub current : (path : List ℕ) → shown path ≡ (replayed changes (empty_at start)).things path
  pub formed : (k : ℕ) → k ≤ length changes → IsFormed (replayed (take k changes) (empty_at start))
