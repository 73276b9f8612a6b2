-- How much longer a path below a directory can be: what a listing has left to go down.
use Rattle.std.proofs.Common.{ℕ, ◌≡◌, ◌+◌, ◌-◌, ◌*◌, ◌<◌, ◌≤◌, true, List, length, Option, Some, None, ap, ◌∙◌, arith}
use Rattle.hg_base.specs.PathText.{child_of, is_below, is_path, joined}
use Rattle.hg_base.proofs.Below.{below_joined, below_length}
use Rattle.hg_base.proofs.Children.{below_child}
use Rattle.hg_base.proofs.Paths.{path_parts, path_some}

-- the bytes that a path in the directory may still have, where no directory is the root
abbrev pub room : Option (List ℕ) → ℕ
room None = 65536
room (Some dir) = 65536 - length dir

deeper : (dir path : ℕ) → dir < path → path ≤ 65535 → 4 * (65536 - path) + 4 < 4 * (65536 - dir) + 1
deeper dir path below short = omega (arith, below, short)

top : (path : ℕ) → 0 < path → 4 * (65536 - path) + 4 < 4 * 65536 + 1
top path some = omega (arith, some)

-- less is left at a name of a directory than in it
pub named_falls : (dir : Option (List ℕ)) (name path : List ℕ) → path ≡ joined dir name → is_path path ≡ true → 4 * (65536 - length path) + 4 < 4 * room dir + 1
named_falls None name path is good = top (length path) (path_some path good)
named_falls (Some dir) name path is good =
    deeper (length dir) (length path) (below_length dir path (ap (is_below dir) is ∙ below_joined dir name)) (path_parts path good).short

-- and at a child of it
pub child_falls : (dir path name : List ℕ) → child_of (Some dir) path ≡ Some name → is_path path ≡ true → 4 * (65536 - length path) + 4 < 4 * (65536 - length dir) + 1
child_falls dir path name child good = deeper (length dir) (length path) (below_length dir path (below_child dir path name child)) (path_parts path good).short
