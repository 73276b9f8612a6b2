-- What a stream of bytes tells: the bytes that were put into it, or those that are left in it, where it tells them.
use Rattle.std.specs.Prelude.{ℕ, ◌≡◌, List, ◌++◌, take, drop, Option, Some, None, option_map}

-- the bytes of a sink grew by some more at the end
abbrev pub Grown : Option (List ℕ) → Option (List ℕ) → List ℕ → Type 0
Grown old new more = new ≡ option_map (λ bytes. bytes ++ more) old

-- a piece was put but for its rest
pub record GrownBut (old new : Option (List ℕ)) (piece rest : List ℕ) : Type 0 where
  pub front : List ℕ
  pub parts : piece ≡ front ++ rest
  pub grown : Grown old new front

-- some front of a piece was put, and nothing else
abbrev pub GrownByFront : Option (List ℕ) → Option (List ℕ) → List ℕ → Type 0
GrownByFront old new piece = (rest : List ℕ) × GrownBut old new piece rest

-- n bytes were taken from what was left: they stand at the front of the buffer, whose rest is as it was
pub record Takes (old new : List ℕ) (buffer_old buffer_new : List ℕ) (n : ℕ) : Type 0 where
  pub left : new ≡ drop n old
  pub filled : buffer_new ≡ take n old ++ drop n buffer_old

-- what a source that tells its bytes does; one that doesn't goes on telling nothing
abbrev pub Taken : Option (List ℕ) → Option (List ℕ) → List ℕ → List ℕ → ℕ → Type 0
Taken None None buffer_old buffer_new n = Unit {0}
Taken (Some old) (Some new) buffer_old buffer_new n = Takes old new buffer_old buffer_new n
Taken None (Some new) buffer_old buffer_new n = ⊥
Taken (Some old) None buffer_old buffer_new n = ⊥
