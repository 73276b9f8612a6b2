-- The directories above a path, while a thing is put there.
use Rattle.std.specs.Prelude.{ℕ, ◌≡◌, true, false, ◌||◌, List, Option, MatchOption, is_some}
use Rattle.std.specs.Str.{bytes_eq}
use Rattle.hg_base.specs.PathText.{is_below}
use Rattle.hg_tree.specs.Moment.{Things, is_dir}

-- what stands above the path is the directory and what stands above that
abbrev pub IsParent : List ℕ → List ℕ → Type 0
IsParent dir path = (at : List ℕ) → is_below at path ≡ (bytes_eq dir at || is_below at dir)

-- each ancestor of the path is a directory
abbrev pub AreDirsAbove : List ℕ → Things → Type 0
AreDirsAbove path things = (at : List ℕ) → is_below at path ≡ true → is_dir (things at) ≡ true

-- above each ancestor of the path that is a directory stand directories alone
abbrev pub AreRootedAbove : List ℕ → Things → Type 0
AreRootedAbove path things =
    (dir at : List ℕ) → is_below at path ≡ true → is_below dir at ≡ true → is_dir (things at) ≡ true → is_dir (things dir) ≡ true

-- a missing directory is the parent of the path; where there is none, each ancestor is a directory
abbrev pub IsMissing : List ℕ → Things → Option (List ℕ) → Type 0
IsMissing path things missing =
    MatchOption missing (AreDirsAbove path things) (λ dir. IsParent dir path × (is_dir (things dir) ≡ false))

-- above what stands at the path, or above it, something stands everywhere
abbrev pub AreHeldAbove : List ℕ → Things → Type 0
AreHeldAbove path things =
    (at dir : List ℕ) → (bytes_eq path dir || is_below dir path) ≡ true → is_below at dir ≡ true → is_some (things dir) ≡ true → is_some (things at) ≡ true
