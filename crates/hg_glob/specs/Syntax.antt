-- Which text spells which glob (hgignore's globs): a relation with one rule for each construct of the table on the crate's page. It says nothing of
-- how a text is read. Texts are lists of characters.
use Rattle.std.specs.Prelude.{ℕ, ◌≡◌, ◌≤◌, ◌⊎◌, Bool, true, false, ◌||◌, ◌==◌, List, [], ◌∷◌, ◌++◌}
use Rattle.std.specs.List.{list_any}
use Rattle.hg_glob.specs.Pattern.{Pattern, Choices, Span, empty, literal, one, listed, star, any, slashes, braces, last, choice}

-- the text begins with the character
abbrev pub BeginsWith : ℕ → List ℕ → Type 0
BeginsWith c text = (rest : List ℕ) × (text ≡ c ∷ rest)

-- ---- classes

-- what a class lists: a character at least, and behind the first one no `]`
abbrev pub AreListed : List ℕ → Type 0
AreListed [] = ⊥
AreListed (first ∷ more) = list_any (λ c. c == 93) more ≡ false

-- a class at the front of a text, with what it lists, and what stands behind it: `[`, or `[!` where it is negated, and the next `]`
abbrev pub IsClass : Bool → List ℕ → List ℕ → List ℕ → Type 0
IsClass true text members rest = AreListed members × (text ≡ 91 ∷ 33 ∷ (members ++ 93 ∷ rest))
IsClass false text members rest = AreListed members × (BeginsWith 33 members → ⊥) × (text ≡ 91 ∷ (members ++ 93 ∷ rest))

-- some class stands at the front
abbrev pub BeginsClass : List ℕ → Type 0
BeginsClass text = (negated : Bool) × (members : List ℕ) × (rest : List ℕ) × IsClass negated text members rest

-- a range `x-y` at the front of what is listed, and what stands behind it; it doesn't end before it begins
abbrev pub IsRange : List ℕ → Span → List ℕ → Type 0
IsRange members span rest = (members ≡ span.low ∷ 45 ∷ span.high ∷ rest) × (span.low ≤ span.high)

-- a character that is listed by itself: no `-` with a character behind it follows
abbrev pub IsSingle : List ℕ → Span → List ℕ → Type 0
IsSingle members span rest = (members ≡ span.low ∷ rest) × (span.high ≡ span.low) × ((high : ℕ) (more : List ℕ) → rest ≡ 45 ∷ high ∷ more → ⊥)

-- the spans are what is listed, from the left
abbrev pub AreMembers : List ℕ → List Span → Type 0
AreMembers members [] = members ≡ []
AreMembers members (span ∷ spans) = (rest : List ℕ) × (IsRange members span rest ⊎ IsSingle members span rest) × AreMembers rest spans

-- ---- characters that stand for themselves, with what stands behind them

-- behind a backslash any character does
abbrev pub IsEscaped : ℕ → List ℕ → List ℕ → Type 0
IsEscaped c text rest = text ≡ 92 ∷ c ∷ rest

-- a backslash at the text's end
abbrev pub IsLastEscape : ℕ → List ℕ → List ℕ → Type 0
IsLastEscape c text rest = (c ≡ 92) × (text ≡ 92 ∷ []) × (rest ≡ [])

-- a `[` where no class begins
abbrev pub IsBracket : ℕ → List ℕ → List ℕ → Type 0
IsBracket c text rest = (c ≡ 91) × (text ≡ 91 ∷ rest) × (BeginsClass text → ⊥)

-- a comma or a `}` outside braces
abbrev pub IsOutside : Bool → ℕ → List ℕ → List ℕ → Type 0
IsOutside inside c text rest = (inside ≡ false) × ((c ≡ 44) ⊎ (c ≡ 125)) × (text ≡ c ∷ rest)

-- the characters that stand for something else somewhere: backslash, `*`, `?`, `[`, `{`, comma and `}`
abbrev pub is_sign : ℕ → Bool
is_sign c = c == 92 || c == 42 || c == 63 || c == 91 || c == 123 || c == 44 || c == 125

-- any other character
abbrev pub IsPlain : ℕ → List ℕ → List ℕ → Type 0
IsPlain c text rest = (is_sign c ≡ false) × (text ≡ c ∷ rest)

-- the text begins with what stands for that character itself
abbrev pub IsItself : Bool → ℕ → List ℕ → List ℕ → Type 0
IsItself inside c text rest = IsEscaped c text rest ⊎ (IsLastEscape c text rest ⊎ (IsBracket c text rest ⊎ (IsOutside inside c text rest ⊎ IsPlain c text rest)))

-- ---- globs

abbrev mutual
  -- inside braces or outside, the text spells the glob up to what is left of it, by the glob's first part: a character by what stands for it, `?`,
  -- a class, `*` without another behind it, `**` without a slash behind it, `**/`, and `{` with choices behind it
  pub Spells : Bool → List ℕ → Pattern → List ℕ → Type 0
  Spells inside text empty left = text ≡ left
  Spells inside text (literal c g) left = (rest : List ℕ) × IsItself inside c text rest × Spells inside rest g left
  Spells inside text (one g) left = (rest : List ℕ) × (text ≡ 63 ∷ rest) × Spells inside rest g left
  Spells inside text (listed negated spans g) left = (members : List ℕ) × (rest : List ℕ) × IsClass negated text members rest × AreMembers members spans × Spells inside rest g left
  Spells inside text (star g) left = (rest : List ℕ) × (text ≡ 42 ∷ rest) × (BeginsWith 42 rest → ⊥) × Spells inside rest g left
  Spells inside text (any g) left = (rest : List ℕ) × (text ≡ 42 ∷ 42 ∷ rest) × (BeginsWith 47 rest → ⊥) × Spells inside rest g left
  Spells inside text (slashes g) left = (rest : List ℕ) × (text ≡ 42 ∷ 42 ∷ 47 ∷ rest) × Spells inside rest g left
  Spells inside text (braces choices g) left = (within : List ℕ) × (rest : List ℕ) × (text ≡ 123 ∷ within) × SpellsChoices within choices rest × Spells inside rest g left

  -- choices are parted by commas, each a glob that may be empty and have braces of its own, and `}` ends them
  pub SpellsChoices : List ℕ → Choices → List ℕ → Type 0
  SpellsChoices text (last g) rest = Spells true text g (125 ∷ rest)
  SpellsChoices text (choice g choices) rest = (more : List ℕ) × Spells true text g (44 ∷ more) × SpellsChoices more choices rest

-- the whole text spells the glob
abbrev pub IsSpelled : List ℕ → Pattern → Type 0
IsSpelled text g = Spells false text g []
