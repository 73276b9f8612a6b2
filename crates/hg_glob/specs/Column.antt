-- Words with one bit for each end of a path, and how those of a part follow from those of the part behind it; for the private functions alone.
use Rattle.std.specs.Prelude.{◌≡◌, ◌≤◌, ◌<◌, slice_index_or, ℕ, zero, suc, Bool, true, false, ◌&&◌, ◌||◌, List, [], ◌∷◌, map, take, reverse, length, Some, None, IsTrue, ◌==◌, nat_le, nat_lt}
use Rattle.std.specs.Int.{bit_at}
use Rattle.hg_glob.specs.declared.part.Part.{Part}
use Rattle.hg_glob.specs.declared.mark.Brace.{Brace}
use Rattle.hg_glob.specs.declared.mark.Going.{Going}
use Rattle.hg_glob.specs.declared.fork.Fork.{Fork}
use Rattle.hg_glob.specs.Row.{no_mark, plain, step, Stepped}

-- the end of i characters is there
unfoldable pub bit : ℕ → ℕ → Bool
bit word i = bit_at word i == 1

-- each end is by one character longer
pub record IsUp (word up : ℕ) : Type 0 where
  pub front : bit up 0 ≡ false
  pub more : (i : ℕ) → suc i < 64 → bit up (suc i) ≡ bit word i

-- an end goes on over marked characters
pub record IsSmeared (word mask result : ℕ) : Type 0 where
  pub front : bit result 0 ≡ bit word 0
  pub more : (i : ℕ) → suc i < 64 → bit result (suc i) ≡ (bit word (suc i) || (bit mask (suc i) && bit result i))

-- the character at a place is there and passes the test
abbrev pub passes : (ℕ → Bool) → List ℕ → ℕ → Bool
passes test [] i = false
passes test (x ∷ xs) zero = test x
passes test (x ∷ xs) (suc i) = passes test xs i

-- the end is there and its first character passes the test; the characters stand from the path's end
abbrev pub marked : (ℕ → Bool) → List ℕ → ℕ → Bool
marked test xs zero = false
marked test xs (suc i) = passes test xs i

-- the word of the ends whose first character passes the test, and no others
pub record IsMask (xs : List ℕ) (test : ℕ → Bool) (word : ℕ) : Type 0 where
  pub at : (i : ℕ) → bit word i ≡ marked test xs i

-- the same as far as the path goes
pub record IsWord (xs : List ℕ) (test : ℕ → Bool) (word : ℕ) : Type 0 where
  pub front : bit word 0 ≡ false
  pub at : (i : ℕ) → i < length xs → bit word (suc i) ≡ test (slice_index_or xs i 0)

-- for each ASCII character the ends that begin with it
abbrev pub AreEach : List ℕ → List ℕ → Type 0
AreEach xs table = (x : ℕ) → x < 128 → IsMask xs (λ c. c == x) (slice_index_or table x 0)

-- for each number up to 128 the ends that begin with a character below it
pub record IsSums (xs sums : List ℕ) : Type 0 where
  pub room : length sums ≡ 129
  pub at : (x : ℕ) → x ≤ 128 → IsWord xs (λ c. nat_lt c x) (slice_index_or sums x 0)

-- so many characters, a word for each ASCII character, one for all others, and the sums where they are ready
pub record IsTable (items : List ℕ) (count : ℕ) (table : List ℕ) (wide : ℕ) (below : List ℕ) (is_ready : Bool) : Type 0 where
  pub few : count ≤ 63
  pub room : length items ≡ 64
  pub words : length table ≡ 128
  pub at : AreEach (take count items) table
  pub beyond : IsMask (take count items) (λ c. nat_le 128 c) wide
  pub sums : IsTrue is_ready → IsSums (take count items) below

-- the ends at which a match may end
pub record IsEnd (inner : Bool) (xs : List ℕ) (word : ℕ) : Type 0 where
  pub front : bit word 0 ≡ true
  pub at : (i : ℕ) → i < length xs → bit word (suc i) ≡ (inner && slice_index_or xs i 0 == 47)

-- the pairs of braces around, the innermost first
abbrev pub stack : ℕ → List Fork → List Fork
stack depth forks = reverse (take depth forks)

-- what is known of a pair of braces at the end of i characters
abbrev pub brace_at : ℕ → Fork → Brace
brace_at i f = record { after = bit f.after i; found = bit f.found i }

-- what a pass over the marks of that end carries along
abbrev pub going_at : ℕ → List Fork → ℕ → Going
going_at hit forks i = record { hit = bit hit i; braces = map (brace_at i) forks }

-- the mark of a part at that end, from the columns of the part behind it
abbrev pub stepped_at : Part → List ℕ → ℕ → ℕ → List Fork → ℕ → Stepped
stepped_at part xs now hit forks zero = step None part no_mark no_mark (bit now 0) (going_at hit forks 0)
stepped_at part xs now hit forks (suc i) =
    step (Some (slice_index_or xs i 0)) part (stepped_at part xs now hit forks i).mark (plain (bit now i)) (bit now (suc i)) (going_at hit forks (suc i))

-- the columns of a part from those of the part behind it
pub record StepsTo (part : Part) (xs : List ℕ) (now hit : ℕ) (forks : List Fork) (on on_hit : ℕ) (on_forks : List Fork) : Type 0 where
  pub mark : (i : ℕ) → i ≤ length xs → bit on i ≡ (stepped_at part xs now hit forks i).mark.here
  pub going : (i : ℕ) → i ≤ length xs → going_at on_hit on_forks i ≡ (stepped_at part xs now hit forks i).going
