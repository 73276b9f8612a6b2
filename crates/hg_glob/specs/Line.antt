-- Where a glob line of an ignore text stands in a path.
use Rattle.std.specs.Prelude.{ℕ, ◌≡◌, ◌⊎◌, Bool, true, false, List, [], ◌∷◌, ◌++◌}
use Rattle.hg_glob.specs.Pattern.{Pattern, InGlob}

-- what stands in front of the glob: nothing, or directories, where the glob isn't held to the root
abbrev pub IsFront : Bool → List ℕ → Type 0
IsFront true a = a ≡ []
IsFront false a = (a ≡ []) ⊎ ((dir : List ℕ) × (a ≡ dir ++ 47 ∷ []))

-- what stands behind it: nothing, or, where `inner` is set, what is below the directory that it matched
abbrev pub IsBack : Bool → List ℕ → Type 0
IsBack false c = c ≡ []
IsBack true c = (c ≡ []) ⊎ ((below : List ℕ) × (c ≡ 47 ∷ below))

-- the path is directories, a text in the glob, and what is below it
abbrev pub Stands : Bool → Bool → Pattern → List ℕ → Type 0
Stands inner rooted g path = (a : List ℕ) × (b : List ℕ) × (c : List ℕ) × (path ≡ a ++ (b ++ c)) × IsFront rooted a × InGlob g b × IsBack inner c
