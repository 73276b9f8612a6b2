-- Where a text is cut at a slash.
use Rattle.std.specs.Prelude.{ℕ, ◌≡◌, false, List, ◌∷◌, ◌++◌, Option, MatchOption}
use Rattle.std.specs.Borrow.{Bor}
use Rattle.hg_base.specs.PathText.{has_slash}

-- the text at its first slash, where it has one
abbrev pub IsCut : List ℕ → Option (Bor (List ℕ) × Bor (List ℕ)) → Type 0
IsCut text parts = MatchOption parts (has_slash text ≡ false) (λ p. (text ≡ p.0.now ++ 47 ∷ p.1.now) × (has_slash p.0.now ≡ false))

-- the text at its last slash, where it has one
abbrev pub IsLastCut : List ℕ → Option (Bor (List ℕ) × Bor (List ℕ)) → Type 0
IsLastCut text parts = MatchOption parts (has_slash text ≡ false) (λ p. (text ≡ p.0.now ++ 47 ∷ p.1.now) × (has_slash p.1.now ≡ false))
