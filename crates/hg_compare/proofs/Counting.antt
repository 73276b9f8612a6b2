-- How often one thing is asked for.
use Rattle.std.proofs.Common.{◌≡◌, ℕ, ◌+◌, ◌*◌, ◌-◌, ◌<◌, ◌≤◌, min, List, ◌++◌, replicate, sym, ap, ◌∙◌, arith, inl, inr, ◌⊎◌}
use Rattle.std.proofs.lemmas.Bool.{cases_lt}
use Rattle.std.proofs.lemmas.List.{append-nil, append_assoc, replicate-append-replicate}
use Rattle.hg_compare.specs.Pieces.{Once}
use Rattle.hg_compare.specs.Same.{InPieces}

-- whole pieces were read so far, or all
abbrev pub IsWhole : ℕ → ℕ → Type 0
IsWhole place size = ((m : ℕ) × (place ≡ 65536 * m)) ⊎ (place ≡ size)

pub pieces_none : {A : Type 0} (ask : A) (list : List A) → InPieces 0 ask list list
pieces_none ask list = record { pieces = 0; few = omega arith; asked = sym (append-nil list) }

asked_more : {A : Type 0} (ask : A) (a b c : List A) (n m : ℕ) → b ≡ a ++ replicate n ask → c ≡ b ++ replicate m ask → c ≡ a ++ replicate (n + m) ask
asked_more {A} ask a b c n m first second =
    second ∙ ap (λ (l : List A). l ++ replicate m ask) first ∙ append_assoc a (replicate n ask) (replicate m ask)
    ∙ ap (λ (l : List A). a ++ l) (replicate-append-replicate n m ask)

few_more : (place size pieces times : ℕ) → IsWhole place size → place < size → 65536 * pieces < place + 65536 → times ≤ 1 → 65536 * (pieces + times) ≤ place + 65536
few_more place size pieces times (inl (m, is)) below few once = omega (arith, is, few, once)
few_more place size pieces times (inr is) below few once = absurd (omega (arith, is, below))

-- one piece more, of as many as a greater size has
pub pieces_more : {A : Type 0} (place size next : ℕ) (ask : A) (old mid new : List A) → IsWhole place size → place < size → place < next → InPieces place ask old mid → Once ask mid new → InPieces next ask old new
pieces_more place size next ask old mid new whole below further reads once = record {
  pieces = reads.pieces + once.times;
  few = let few = few_more place size reads.pieces once.times whole below reads.few once.few in omega (arith, few, further);
  asked = asked_more ask old mid new reads.pieces once.times reads.asked once.asked;
}

pub whole_more : (place size width : ℕ) → IsWhole place size → place < size → width ≡ min (size - place) 65536 → IsWhole (place + width) size
whole_more place size width (inr is) below wide = absurd (omega (arith, is, below))
whole_more place size width (inl (m, is)) below wide =
    elim (cases_lt (size - place) 65536) [
      | inl less ↦ inr (omega (arith, wide, less, below))
      | inr most ↦ inl (m + 1, omega (arith, wide, most, is))
    ]
