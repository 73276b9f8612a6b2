-- From pieces to bytes.
use Rattle.std.proofs.Common.{◌≡◌, ℕ, zero, suc, ◌+◌, ◌-◌, ◌<◌, ◌≤◌, List, [], ◌∷◌, length, take, drop, min, slice_get, Option, Some, None, refl, sym, ap, ◌∙◌, arith, inl, inr}
use Rattle.std.proofs.lemmas.Bool.{cases_lt}
use Rattle.std.proofs.lemmas.List.{length-drop, length-take}
use Rattle.std.proofs.lemmas.Option.{slice_get_past}
use Rattle.hg_manifest.specs.Load.{file_at}
use Rattle.hg_tree.specs.Moment.{Moment, bytes_at}
use Rattle.hg_compare.specs.Seen.{Compared, HasByte, HasPiece, Holds, SeesByte, SeesPiece, SeesSame, Shows}
use Rattle.hg_compare.proofs.Spans.{Parts, bytes_first, first_of, piece_second, second_of}

get_drop : (n : ℕ) (xs : List ℕ) (i : ℕ) → slice_get (drop n xs) i ≡ slice_get xs (n + i)
get_drop zero xs i = ap (slice_get xs) (omega arith)
get_drop (suc n) [] i = refl
get_drop (suc n) (x ∷ xs) i = get_drop n xs i ∙ ap (slice_get (x ∷ xs)) (next n i)
  where
    next : (a b : ℕ) → suc (a + b) ≡ suc a + b
    next a b = omega arith

get_take : (n : ℕ) (xs : List ℕ) (i : ℕ) → i < n → slice_get (take n xs) i ≡ slice_get xs i
get_take zero xs i below = absurd (omega (arith, below))
get_take (suc n) [] i below = refl
get_take (suc n) (x ∷ xs) zero below = refl
get_take (suc n) (x ∷ xs) (suc i) below = get_take n xs i (omega (arith, below))

-- the byte of a piece
piece_byte : (place width : ℕ) (piece : List ℕ) (bytes : Option (List ℕ)) (k : ℕ) → place ≤ k → k < place + width → HasPiece place width piece bytes → HasByte k (slice_get piece (k - place)) bytes
piece_byte place width piece None k from to is = absurd is
piece_byte place width piece (Some bytes) k from to is =
    ap (slice_get bytes) (omega (arith, from)) ∙ sym (get_drop place bytes (k - place)) ∙ sym (get_take width (drop place bytes) (k - place) (omega (arith, from, to)))
    ∙ ap (λ (xs : List ℕ). slice_get xs (k - place)) (sym is)

-- no byte behind a piece that ends early
end_byte : (place width : ℕ) (piece : List ℕ) (bytes : Option (List ℕ)) (k : ℕ) → place + width ≤ k → length piece < width → HasPiece place width piece bytes → HasByte k None bytes
end_byte place width piece None k behind short is = absurd is
end_byte place width piece (Some bytes) k behind short is =
    let taken : length piece ≡ min width (length (drop place bytes)) = ap length is ∙ length-take width (drop place bytes) in
    let dropped = length-drop place bytes in
    slice_get_past bytes k (omega (arith, behind, short, taken, dropped))

shown_weaker : (c : Compared) (P Q : Moment → Type 0) → ((m : Moment) → P m → Q m) → Shows c P → Shows c Q
shown_weaker c P Q weaker is = record { at = is.at; during = is.during; so = λ told. weaker (c.tree_new.at is.at) (is.so told) }

held_weaker : (c : Compared) (P Q : Option (List ℕ) → Type 0) → ((f : Option (List ℕ)) → P f → Q f) → Holds c P → Holds c Q
held_weaker c P Q weaker is = record { at = is.at; during = is.during; so = λ told. weaker (file_at c.shelf_new c.name is.at) (is.so told) }

byte_of : (c : Compared) (place width : ℕ) (piece : List ℕ) (k : ℕ) → place ≤ k → k < place + width → SeesPiece c place width piece piece → SeesByte c k
byte_of c place width piece k from to pieces = record {
  byte = slice_get piece (k - place);
  mine =
      shown_weaker c (λ moment. HasPiece place width piece (bytes_at moment c.path)) (λ moment. HasByte k (slice_get piece (k - place)) (bytes_at moment c.path))
      (λ m. piece_byte place width piece (bytes_at m c.path) k from to) pieces.mine_was;
  theirs = held_weaker c (HasPiece place width piece) (HasByte k (slice_get piece (k - place))) (λ f. piece_byte place width piece f k from to) pieces.theirs_was;
}

byte_behind : (c : Compared) (place width : ℕ) (piece : List ℕ) (k : ℕ) → place + width ≤ k → length piece < width → SeesPiece c place width piece piece → SeesByte c k
byte_behind c place width piece k behind short pieces = record {
  byte = None;
  mine =
      shown_weaker c (λ moment. HasPiece place width piece (bytes_at moment c.path)) (λ moment. HasByte k None (bytes_at moment c.path))
      (λ m. end_byte place width piece (bytes_at m c.path) k behind short) pieces.mine_was;
  theirs = held_weaker c (HasPiece place width piece) (HasByte k None) (λ f. end_byte place width piece f k behind short) pieces.theirs_was;
}

-- one piece more
pub piece_more : (p : Parts) (place width next : ℕ) (piece : List ℕ) → next ≡ place + width → SeesSame (first_of p) place → SeesPiece (second_of p) place width piece piece → SeesSame p.whole next
piece_more p place width next piece is before pieces k below =
    elim (cases_lt k place) [
      | inl less ↦ bytes_first p place before k less
      | inr from ↦ byte_of p.whole place width piece k from (omega (arith, below, is)) (piece_second p place width piece piece pieces)
    ]

-- the last piece
pub piece_last : (p : Parts) (place width size : ℕ) (piece : List ℕ) → length piece < width → SeesSame (first_of p) place → SeesPiece (second_of p) place width piece piece → SeesSame p.whole size
piece_last p place width size piece short before pieces k below =
    elim (cases_lt k place) [
      | inl less ↦ bytes_first p place before k less
      | inr from ↦
          elim (cases_lt k (place + width)) [
            | inl inside ↦ byte_of p.whole place width piece k from inside (piece_second p place width piece piece pieces)
            | inr behind ↦ byte_behind p.whole place width piece k behind short (piece_second p place width piece piece pieces)
          ]
    ]

-- no byte yet
pub none_same : (c : Compared) → SeesSame c 0
none_same c k below = absurd (omega (arith, below))

pub same_less : (c : Compared) (place size : ℕ) → size ≤ place → SeesSame c place → SeesSame c size
same_less c place size less same k below = same k (omega (arith, less, below))
