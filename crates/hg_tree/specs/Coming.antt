-- What others are to change just before calls of the tree in memory.
use Rattle.std.specs.Prelude.{ℕ, Bool, true, IsTrue, List, [], ◌∷◌, Option, Some, None}
use Rattle.hg_tree.specs.declared.asked.Change.{Change}
use Rattle.hg_tree.specs.declared.asked.Due.{Due}
use Rattle.hg_tree.specs.declared.asked.Outside.{Outside}
use Rattle.hg_tree.specs.declared.asked.Outside.TheVariants as a_change
use Rattle.hg_tree.specs.Change.{by_others}
use Rattle.hg_tree.specs.Memory.{coming_of}
use Rattle.hg_tree.specs.Moment.{is_short_thing}

-- a link that is placed has a target of at most 4,095 bytes
abbrev pub is_short_change : Outside → Bool
is_short_change (a_change.Place path thing time) = is_short_thing thing
is_short_change (a_change.Take path) = true
is_short_change (a_change.Clock time) = true

abbrev pub IsShortDue : Due → Type 0
IsShortDue due = IsTrue (is_short_change due.change)

-- the change that one of them is at a call, where there is one
abbrev pub due_at : ℕ → Option Due → List Change
due_at call None = []
due_at call (Some due) = coming_of call (due ∷ [])

abbrev pub changes_of : Option Outside → List Change
changes_of None = []
changes_of (Some what) = by_others what ∷ []
