-- What a glob is, and the texts that stand in it (hgignore's globs; texts are lists of characters, Unicode scalar values).
use Rattle.std.specs.Prelude.{ℕ, ◌≡◌, ◌⊎◌, if◌then◌else◌, Bool, false, not, ◌&&◌, ◌||◌, List, [], ◌∷◌, ◌++◌, nat_le, IsTrue}
use Rattle.hg_base.specs.PathText.{has_slash}

-- the characters from `low` to `high`
pub record Span : Type 0 where
  pub low : ℕ
  pub high : ℕ

-- a glob by its first part; what follows the part is a glob again
mutual
  pub data Pattern : Type 0 where
    empty : Pattern
    literal : ℕ → Pattern → Pattern
    one : Pattern → Pattern
    listed : Bool → List Span → Pattern → Pattern
    star : Pattern → Pattern
    any : Pattern → Pattern
    slashes : Pattern → Pattern
    braces : Choices → Pattern → Pattern

  pub data Choices : Type 0 where
    last : Pattern → Choices
    choice : Pattern → Choices → Choices

-- the character stands in one of the spans
abbrev pub in_spans : ℕ → List Span → Bool
in_spans c [] = false
in_spans c (s ∷ spans) = (nat_le s.low c && nat_le c s.high) || in_spans c spans

-- a class takes what it lists, a negated one what it doesn't
abbrev pub in_class : Bool → List Span → ℕ → Bool
in_class negated spans c = if negated then not (in_spans c spans) else in_spans c spans

-- the text is in the glob, by the glob's first part: a character is itself; `?` is any character; a class is one of its
-- characters; `*` is any text without a slash; `**` is any text; `**/` is nothing, or any text that ends in a slash; braces are
-- one of their choices
abbrev mutual
  pub InGlob : Pattern → List ℕ → Type 0
  InGlob empty text = text ≡ []
  InGlob (literal c g) text = (rest : List ℕ) × (text ≡ c ∷ rest) × InGlob g rest
  InGlob (one g) text = (c : ℕ) × (rest : List ℕ) × (text ≡ c ∷ rest) × InGlob g rest
  InGlob (listed negated spans g) text = (c : ℕ) × (rest : List ℕ) × (text ≡ c ∷ rest) × IsTrue (in_class negated spans c) × InGlob g rest
  InGlob (star g) text = (front : List ℕ) × (rest : List ℕ) × (text ≡ front ++ rest) × (has_slash front ≡ false) × InGlob g rest
  InGlob (any g) text = (front : List ℕ) × (rest : List ℕ) × (text ≡ front ++ rest) × InGlob g rest
  InGlob (slashes g) text = InGlob g text ⊎ ((front : List ℕ) × (rest : List ℕ) × (text ≡ front ++ 47 ∷ rest) × InGlob g rest)
  InGlob (braces choices g) text = (front : List ℕ) × (rest : List ℕ) × (text ≡ front ++ rest) × InChoices choices front × InGlob g rest

  pub InChoices : Choices → List ℕ → Type 0
  InChoices (last g) text = InGlob g text
  InChoices (choice g choices) text = InGlob g text ⊎ InChoices choices text
