-- The search for the least tracked path.
use Rattle.std.specs.Prelude.{ℕ, ◌≡◌, Bool, true, false, not, ◌&&◌, if◌then◌else◌, List, Option, Some, None, MatchOption}
use Rattle.std.specs.List.{AllByRecursion, list_any}
use Rattle.std.specs.List.Sorted.{IsStrictlySortedBy}
use Rattle.std.specs.Map.{keys_of}
use Rattle.std.specs.Ordering.{is_gt, nat_cmp}
use Rattle.std.specs.Cmp.Lexicographic.{slice_cmp}
use Rattle.hg_base.specs.PathText.{is_below}
use Rattle.hg_base.specs.Within.{is_within}
use Rattle.hg_nodes.specs.Clash.{is_tracked_entry}
use Rattle.hg_nodes.specs.Lists.{dir_text}
use Rattle.hg_nodes.specs.Node.{NodeData, entry_in, node_at}

abbrev pub is_tracked : List (List ℕ × NodeData) → List ℕ → Bool
is_tracked rows at = is_tracked_entry (entry_in (node_at rows at))

-- a tracked path stands above a path, below one, at one or below it
abbrev pub tracked_above : List (List ℕ × NodeData) → List ℕ → List ℕ → Bool
tracked_above rows path at = is_tracked rows at && is_below at path

abbrev pub tracked_below : List (List ℕ × NodeData) → List ℕ → List ℕ → Bool
tracked_below rows path at = is_tracked rows at && is_below path at

abbrev pub tracked_within : List (List ℕ × NodeData) → List ℕ → List ℕ → Bool
tracked_within rows path at = is_tracked rows at && is_within path at

-- the lesser of two paths, by bytes, where there are two
abbrev pub lesser : Option (List ℕ) → Option (List ℕ) → Option (List ℕ)
lesser None b = b
lesser (Some a) None = Some a
lesser (Some a) (Some b) = if is_gt (slice_cmp nat_cmp a b) then Some b else Some a

-- a path that was found isn't greater than another
abbrev pub is_past : Option (List ℕ) → List ℕ → Bool
is_past None path = false
is_past (Some a) path = not (is_gt (slice_cmp nat_cmp a path))

-- a path stands at one of some rows or below it
abbrev pub is_left : List (List ℕ × NodeData) → List ℕ → Bool
is_left kids at = list_any (λ kid. is_within kid.0 at) kids

-- the least path of what is tracked below a directory, but for what is left, was found
abbrev pub IsFoundBut : List (List ℕ × NodeData) → List ℕ → List (List ℕ × NodeData) → Option (List ℕ) → Type 0
IsFoundBut rows dir left least =
    MatchOption least ((at : List ℕ) → tracked_below rows dir at ≡ true → is_left left at ≡ true)
    (λ l. (tracked_below rows dir l ≡ true) × ((at : List ℕ) → tracked_below rows dir at ≡ true → is_left left at ≡ false → is_gt (slice_cmp nat_cmp l at) ≡ false))

-- some nodes of a directory are left, and the least path was found but for what is at them or below
pub record AreLeft (rows : List (List ℕ × NodeData)) (dir : List ℕ) (left : List (List ℕ × NodeData)) (least : Option (List ℕ)) : Type 0 where
  pub sorted : IsStrictlySortedBy (slice_cmp nat_cmp) (keys_of left)
  pub each : AllByRecursion (λ kid. (dir_text kid.0 ≡ dir) × (node_at rows kid.0 ≡ Some kid.1)) left
  pub found : IsFoundBut rows dir left least
