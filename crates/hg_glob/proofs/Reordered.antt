-- Which globs of a list stand in a path doesn't depend on their order.
use Rattle.std.proofs.Common.{◌≡◌, ℕ, ◌<◌, ◌↔◌, inl, inr, zero, suc, false, List, [], ◌∷◌, length, get_or, chars, refl, sym, subst, arith}
use Rattle.std.specs.List.{Contains}
use Rattle.std.specs.List.Sorted.{IsPermutation}
use Rattle.std.proofs.lemmas.List.Sorted.{Contains-permutation, IsPermutation-sym}
use Rattle.hg_glob.specs.Part.{glob_of}
use Rattle.hg_glob.specs.Line.{Stands}
use Rattle.hg_glob.specs.Many.{SomeStands}
use Rattle.hg_glob.specs.declared.globs.GlobLine.{GlobLine}

-- the line's glob stands in the path
abbrev LineStands : GlobLine → List ℕ → Type 0
LineStands line path = Stands false line.rooted (glob_of (chars line.glob)) (chars path)

-- a line of the list that stands in the path
record StandingLine (globs : List GlobLine) (path : List ℕ) : Type 0 where
  line : GlobLine
  among : Contains globs line
  stands : LineStands line path

standing_line : (globs : List GlobLine) (path : List ℕ) → SomeStands globs path → StandingLine globs path
standing_line [] path none = absurd none
standing_line (first ∷ globs) path (inl s) = record { line = first; among = (0, omega arith, refl); stands = s }
standing_line (first ∷ globs) path (inr s) =
    let found : StandingLine globs path = standing_line globs path s in
    record { line = found.line; among = (suc found.among.0, omega (arith, found.among.1), found.among.2); stands = found.stands }

stands_at : (globs : List GlobLine) (line : GlobLine) (path : List ℕ) (k : ℕ) → k < length globs → get_or globs k line ≡ line → LineStands line path → SomeStands globs path
stands_at [] line path k within is s = absurd (omega arith)
stands_at (first ∷ globs) line path zero within is s =
    let P : GlobLine → Type 0 = λ v. LineStands v path in
    inl (subst P (sym is) s)
stands_at (first ∷ globs) line path (suc k) within is s = inr (stands_at globs line path k (omega arith) is s)

moved : (xs ys : List GlobLine) (path : List ℕ) → IsPermutation xs ys → SomeStands xs path → SomeStands ys path
moved xs ys path permuted s =
    let found : StandingLine xs path = standing_line xs path s in
    let among : Contains ys found.line = Contains-permutation xs ys found.line permuted found.among in
    stands_at ys found.line path among.0 among.1 among.2 found.stands

pub reordered : (xs ys : List GlobLine) → IsPermutation xs ys → (path : List ℕ) → SomeStands ys path ↔ SomeStands xs path
reordered xs ys permuted path = (moved ys xs path (IsPermutation-sym xs ys permuted), moved xs ys path permuted)
