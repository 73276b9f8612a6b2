-- Where the requirements of a store stand.
use Rattle.std.specs.Prelude.{ℕ, List, ◌++◌, Option, codes}
use Rattle.std.specs.Option.{unwrap_or}

-- in the store of the repository, or of the one that it shares it with, whose folder is given
abbrev pub store_name : Option (List ℕ) → List ℕ
store_name folder = unwrap_or folder (codes ".hg") ++ codes "/store/requires"
