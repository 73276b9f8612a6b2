-- Which paths a walk over all nodes collects: those with an entry.
use Rattle.std.specs.Prelude.{ℕ, ◌≡◌, Bool, true, ◌⊎◌, List, Option, is_some}
use Rattle.std.specs.List.{AllByRecursion, list_any}
use Rattle.hg_base.specs.Within.{is_above, is_within}
use Rattle.hg_mixed.specs.Children.{IsChild}
use Rattle.hg_nodes.specs.Children.{ChildData}
use Rattle.hg_mixed.specs.Held.{Held, table}
use Rattle.hg_mixed.specs.declared.child.Child.{Child}
use Rattle.hg_ops.specs.Setting.{is_among}

abbrev pub path_of : Child → List ℕ
path_of child = child.path.text.now

-- what was collected stays, and each path with an entry that passes a test was collected
pub record Collects (held : Held) (test : List ℕ → Bool) (old new : List (List ℕ)) : Type 0 where
  pub kept : (at : List ℕ) → is_among old at ≡ true → is_among new at ≡ true
  pub all : (at : List ℕ) → test at ≡ true → is_some ((table held).entries at) ≡ true → is_among new at ≡ true

-- the same of a child's own path
pub record CollectsAt (child : Child) (old new : List (List ℕ)) : Type 0 where
  pub kept : (at : List ℕ) → is_among old at ≡ true → is_among new at ≡ true
  pub own : is_some child.entry ≡ true → is_among new (path_of child) ≡ true

-- a path stands at one of some children or below it
abbrev pub is_left : List ChildData → List ℕ → Bool
is_left left path = list_any (λ child. is_within child.path path) left

-- some children of a directory are left, and what stands below the rest was collected
pub record AreLeft (held : Held) (dir : Option (List ℕ)) (left : List ChildData) (old new : List (List ℕ)) : Type 0 where
  pub each : AllByRecursion (IsChild held dir) left
  pub kept : (at : List ℕ) → is_among old at ≡ true → is_among new at ≡ true
  pub all : (at : List ℕ) → is_above dir at ≡ true → is_some ((table held).entries at) ≡ true → (is_left left at ≡ true) ⊎ (is_among new at ≡ true)
