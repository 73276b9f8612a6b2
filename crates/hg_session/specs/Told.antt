-- What a command tells, by what becomes of it: what is printed goes to standard output, warnings and behind them refusals to the error stream.
use Rattle.std.specs.Prelude.{ℕ, ◌≡◌, List, [], ◌∷◌, ◌++◌}

-- what a command prints, what it warns of, and the lines of the words that it refused
pub record Told : Type 0 where
  pub printed : List ℕ
  pub warned : List ℕ
  pub refused : List ℕ

-- what goes to the error stream: the warnings, and behind them the refusals
abbrev pub errors_of : Told → List ℕ
errors_of said = said.warned ++ said.refused

-- refusals alone
abbrev pub refusing : List ℕ → Told
refusing lines = record { printed = []; warned = []; refused = lines }

-- nothing is printed and nothing warned of, and this is so of the refusals
pub record OnlyRefuses (Is : List ℕ → Type 0) (said : Told) : Type 0 where
  pub unprinted : said.printed ≡ []
  pub unwarned : said.warned ≡ []
  pub lines : Is said.refused

-- the status of a command that ended without a fault: 1 where a word was refused, and else 0; a warning doesn't count
abbrev pub status_of : List ℕ → ℕ
status_of [] = 0
status_of (byte ∷ lines) = 1

-- a text is this one
abbrev pub IsText : List ℕ → List ℕ → Type 0
IsText text is = is ≡ text
