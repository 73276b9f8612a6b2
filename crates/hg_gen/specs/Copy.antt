-- The working copy of a number of directories: which things stand at which paths.
use Rattle.std.specs.Prelude.{ℕ, pos, ◌≡◌, ◌<◌, ◌+◌, ◌*◌, ◌-◌, ◌/◌, ◌%◌, ◌==◌, ◌⊎◌, ◌||◌, Bool, true, not, if◌then◌else◌, List, [], ◌∷◌, ◌++◌, length, replicate, drop, codes, Option, Some, None, is_some}
use Rattle.std.specs.Fmt.{decimal}
use Rattle.std.specs.List.{AllByRecursion}
use Rattle.std.proofs.Common.{lit<}
use Rattle.hg_base.specs.PathText.{joined}
use Rattle.hg_base.specs.declared.time.Time.{Time}
use Rattle.hg_tree.specs.History.{others}
use Rattle.hg_tree.specs.Memory.{Memory, maker}
use Rattle.hg_tree.specs.Moment.{Moment, Things}
use Rattle.hg_tree.specs.declared.thing.Placed.{Placed}
use Rattle.hg_tree.specs.declared.thing.Thing.{Thing}
use Rattle.hg_tree.specs.declared.thing.Thing.TheVariants as a_thing

-- the directory of that number
abbrev pub dir_of : ℕ → List ℕ
dir_of dir = codes "d" ++ decimal dir

-- a name in it
abbrev pub name_of : ℕ → List ℕ
name_of name = codes "f" ++ decimal name

-- a file by its number: sixteen names are in each directory
abbrev pub path_of : ℕ → List ℕ
path_of file = joined (Some (dir_of (file / 16))) (name_of (file % 16))

-- its number, in a line
abbrev pub text_of : ℕ → List ℕ
text_of file = decimal file ++ 10 ∷ []

-- a number in forty digits, with zeros before it
abbrev pub forty_digits : ℕ → List ℕ
forty_digits n = replicate (40 - length (decimal n)) 48 ++ decimal n

-- the name of its contents: its number from 1 on
abbrev pub contents_of : ℕ → List ℕ
contents_of file = forty_digits (file + 1)

abbrev pub is_on_disk : ℕ → Bool
is_on_disk file = not (file % 16 == 5 || file % 16 == 13)

abbrev pub is_exec : ℕ → Bool
is_exec file = file % 16 == 7

abbrev pub is_changed : ℕ → Bool
is_changed file = file % 16 == 3

-- its bytes on the disk
abbrev pub bytes_of : ℕ → List ℕ
bytes_of file = if is_changed file then codes "x" ++ drop 1 (text_of file) else text_of file

-- 1970-01-01 UTC and so many seconds
abbrev pub seconds : (n : ℕ) → Time
seconds n = record { seconds = pos n; nanos = 0; in_second = lit< tt }

-- a thing that was changed 1,000 seconds after that
abbrev pub placed : Thing → Placed
placed thing = record { thing = thing; mtime = seconds 1000 }

-- what stands at a file's path
abbrev pub on_disk : ℕ → Option Placed
on_disk file = if is_on_disk file then Some (placed (a_thing.File (is_exec file) (bytes_of file))) else None

-- the things are the first so many files, with their directories, and no others
pub record AreFiles (files : ℕ) (things : Things) : Type 0 where
  pub file : (i : ℕ) → i < files → things (path_of i) ≡ on_disk i
  pub dir : (i : ℕ) → i < files → things (dir_of (i / 16)) ≡ Some (placed a_thing.Dir)
  pub only : (at : List ℕ) → is_some (things at) ≡ true → (i : ℕ) × (i < files) × ((at ≡ path_of i) ⊎ (at ≡ dir_of (i / 16)))

-- a working copy of so many directories
pub record IsCopy (dirs : ℕ) (moment : Moment) : Type 0 where
  pub clock : moment.clock ≡ seconds 2000
  pub things : AreFiles (16 * dirs) moment.things

-- all that was done to a tree was done by others, nothing more is to be, and no call is to fail
pub record IsGiven (tree : Memory) : Type 0 where
  pub due : tree.due ≡ []
  pub failing : tree.calls.failing ≡ []
  pub changes : AllByRecursion (λ change. maker change ≡ others) tree.changes
