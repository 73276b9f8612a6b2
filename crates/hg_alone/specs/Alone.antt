-- The histories of devices in memory that nobody but their caller changes.
use Rattle.std.specs.Prelude.{ℕ, zero, suc, ◌≡◌, ◌+◌, ◌-◌, Bool, true, ◌&&◌, List, [], ◌∷◌, length, take}
use Rattle.hg_shelf.specs.History as files
use Rattle.hg_shelf.specs.Memory as shelves
use Rattle.hg_shelf.specs.declared.outside.Change as shelf_changes
use Rattle.hg_tree.specs.History as trees
use Rattle.hg_tree.specs.Memory.{Memory, replayed}
use Rattle.hg_tree.specs.Moment.{empty_at}
use Rattle.hg_tree.specs.declared.asked.Change.{Change}
use Rattle.hg_tree.specs.declared.asked.Change.TheVariants as the_change

-- ---- the working copy

-- how many changes there are up to the last one that another made, where so many of those behind a change are
abbrev pub upto_others : Change → ℕ → ℕ
upto_others change (suc n) = suc (suc n)
upto_others (the_change.ByOthers what) zero = 1
upto_others (the_change.ByUs what) zero = 0

-- how many changes there are up to the last one that another made
abbrev pub before_own : List Change → ℕ
before_own [] = 0
before_own (change ∷ changes) = upto_others change (before_own changes)

-- its moments begin behind that change, and each of its steps is the caller's
abbrev pub tree_alone : Memory → trees.History
tree_alone memory = record {
  told = true;
  last = length memory.changes - before_own memory.changes;
  at = λ k. replayed (take (before_own memory.changes + k) memory.changes) (empty_at memory.start);
  who = λ k. trees.us;
  asked = memory.asked;
}

-- ---- the files below `.hg`

-- each of some changes was the caller's own
abbrev pub all_own : List shelf_changes.Change → Bool
all_own [] = true
all_own (change ∷ changes) = change.by_us && all_own changes

-- nothing of others is due, no call is to fail, and each change so far was the caller's own
pub record IsOwn (memory : shelves.Memory) : Type 0 where
  pub due : memory.due ≡ []
  pub failing : memory.calls.failing ≡ []
  pub changes : all_own memory.changes ≡ true

-- the files that reads show
abbrev pub files_of : shelves.Memory → files.Files
files_of memory = (files.now (shelves.history_of memory)).files
