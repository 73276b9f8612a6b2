-- Whether any directory of a table is cached.
use Rattle.std.specs.Prelude.{ℕ, ◌≡◌, Bool, true, List, Option, None, MatchBool, is_some}
use Rattle.std.specs.List.{AllByRecursion}
use Rattle.hg_entry.specs.Table.{Table}
use Rattle.hg_mixed.specs.Children.{IsChild}
use Rattle.hg_mixed.specs.Gathered.{is_done}
use Rattle.hg_mixed.specs.Held.{Held, table}
use Rattle.hg_nodes.specs.Children.{ChildData}

-- some directory is cached
abbrev pub IsAnyCached : Table → Type 0
IsAnyCached t = (at : List ℕ) × (is_some (t.caches at) ≡ true)

-- no directory is cached
abbrev pub IsNoneCached : Table → Type 0
IsNoneCached t = (at : List ℕ) → t.caches at ≡ None

-- the answer is whether a path that passes a test is a cached directory
abbrev pub FindsCache : Held → (List ℕ → Bool) → Bool → Type 0
FindsCache held test found =
    MatchBool found ((at : List ℕ) × (test at ≡ true) × (is_some ((table held).caches at) ≡ true))
    ((at : List ℕ) → test at ≡ true → (table held).caches at ≡ None)

-- some children of a directory are left, and at the rest and below these nothing is cached
pub record AreBare (held : Held) (dir : Option (List ℕ)) (left : List ChildData) : Type 0 where
  pub each : AllByRecursion (IsChild held dir) left
  pub none : (at : List ℕ) → is_done dir left at ≡ true → (table held).caches at ≡ None
