-- The contents are read piece by piece: each piece begins where the one before it ended.
use Rattle.std.proofs.Common.{◌≡◌, ℕ, zero, suc, ◌+◌, ◌-◌, ◌*◌, ◌<◌, ◌≤◌, min, List, [], ◌∷◌, ◌++◌, take, refl, sym, ap, ◌∙◌, arith, inl, inr, ◌⊎◌}
use Rattle.std.proofs.lemmas.Bool.{cases_lt}
use Rattle.std.proofs.lemmas.List.{append-nil, append_assoc}
use Rattle.hg_shelf.specs.Asks.{AsksFrontOf}
use Rattle.hg_shelf.specs.History.{History}
use Rattle.hg_shelf.specs.declared.asked.Asked.{Asked}
use Rattle.hg_shelf.specs.declared.asked.Asked.TheVariants as a_shelf_ask
use Rattle.hg_compare.specs.Pieces.{ReadsTheirs}
use Rattle.hg_compare.specs.Same.{piece_ask, pieces_from}

-- the pieces before a place were read: whole ones, or all
pub record ReadsUpto (size place : ℕ) (name : List ℕ) (old new : History) : Type 0 where
  pub pieces : ℕ
  pub there : (place ≡ 65536 * pieces) ⊎ ((place ≡ size) × (65536 * pieces < size + 65536))
  pub asked : new.asked ≡ old.asked ++ pieces_from size name 0 pieces

pub theirs_none : (size : ℕ) (name : List ℕ) (h : History) → ReadsUpto size 0 name h h
theirs_none size name h = record { pieces = 0; there = inl (omega arith); asked = sym (append-nil h.asked) }

-- one piece more
pieces_snoc : (size : ℕ) (name : List ℕ) (k n : ℕ) → pieces_from size name k (suc n) ≡ pieces_from size name k n ++ piece_ask size name (k + n) ∷ []
pieces_snoc size name k zero = let same : k ≡ k + 0 = omega arith in ap (λ (m : ℕ). piece_ask size name m ∷ []) same
pieces_snoc size name k (suc n) =
    let same : suc k + n ≡ k + suc n = omega arith in
    ap (λ (l : List Asked). piece_ask size name k ∷ l)
    (pieces_snoc size name (suc k) n ∙ ap (λ (m : ℕ). pieces_from size name (suc k) n ++ piece_ask size name m ∷ []) same)

one_more : (size place wide width n : ℕ) (name : List ℕ) (a b c : History) → place ≡ 65536 * n → wide ≡ width → width ≡ min (size - place) 65536 → b.asked ≡ a.asked ++ pieces_from size name 0 n
    → c.asked ≡ b.asked ++ a_shelf_ask.Read name place wide ∷ [] → c.asked ≡ a.asked ++ pieces_from size name 0 (suc n)
one_more size place wide width n name a b c at same least first next =
    let long : wide ≡ min (size - 65536 * n) 65536 = omega (arith, at, same, least) in
    let from : n ≡ 0 + n = omega arith in
    let ask : a_shelf_ask.Read name place wide ≡ piece_ask size name (0 + n) =
    ap (λ (p : ℕ). a_shelf_ask.Read name p wide) at ∙ ap (λ (w : ℕ). a_shelf_ask.Read name (65536 * n) w) long ∙ ap (piece_ask size name) from in
    next
    ∙ ap (λ (l : List Asked). l ++ a_shelf_ask.Read name place wide ∷ []) first
    ∙ append_assoc a.asked (pieces_from size name 0 n) (a_shelf_ask.Read name place wide ∷ [])
    ∙ ap (λ (x : Asked). a.asked ++ (pieces_from size name 0 n ++ x ∷ [])) ask
    ∙ ap (λ (l : List Asked). a.asked ++ l) (sym (pieces_snoc size name 0 n))

behind : (size place width n : ℕ) → place < size → place ≡ 65536 * n → width ≡ min (size - place) 65536 → (place + width ≡ 65536 * suc n) ⊎ ((place + width ≡ size) × (65536 * suc n < size + 65536))
behind size place width n below at least =
    elim (cases_lt (size - place) 65536) [
      | inl less ↦ inr (omega (arith, least, less, below), omega (arith, at, below))
      | inr most ↦ inl (omega (arith, least, most, at))
    ]

pub theirs_more : (size place wide width : ℕ) (name : List ℕ) (a b c : History) → place < size → wide ≡ width → width ≡ min (size - place) 65536 → ReadsUpto size place name a b
    → c.asked ≡ b.asked ++ a_shelf_ask.Read name place wide ∷ [] → ReadsUpto size (place + width) name a c
theirs_more size place wide width name a b c below same least reads next =
    elim reads.there [
      | inl at ↦ record {
        pieces = suc reads.pieces;
        there = behind size place width reads.pieces below at least;
        asked = one_more size place wide width reads.pieces name a b c at same least reads.asked next;
      }
      | inr all ↦ absurd (omega (arith, all.0, below))
    ]

-- the last one
one_front : (k : ℕ) (ask : Asked) → (take k (ask ∷ []) ≡ []) ⊎ (take k (ask ∷ []) ≡ ask ∷ [])
one_front zero ask = inl refl
one_front (suc zero) ask = inr refl
one_front (suc (suc k)) ask = inr refl

pub theirs_end : (size place : ℕ) (name : List ℕ) (a b : History) → place ≤ size → ReadsUpto size place name a b → ReadsTheirs size name a b
theirs_end size place name a b within reads = record {
  pieces = reads.pieces;
  few =
      elim reads.there [
        | inl at ↦ omega (arith, at, within)
        | inr all ↦ all.1
      ];
  asked = reads.asked;
}

pub theirs_last : (size place wide width : ℕ) (name : List ℕ) (a b c : History) → place < size → wide ≡ width → width ≡ min (size - place) 65536 → ReadsUpto size place name a b
    → AsksFrontOf (a_shelf_ask.Read name place wide ∷ []) b c → ReadsTheirs size name a c
theirs_last size place wide width name a b c below same least reads front =
    elim (one_front front.some (a_shelf_ask.Read name place wide)) [
      | inl none ↦
          let still : c.asked ≡ b.asked = front.made ∙ ap (λ (l : List Asked). b.asked ++ l) none ∙ append-nil b.asked in
          theirs_end size place name a c (omega (arith, below)) (record { pieces = reads.pieces; there = reads.there; asked = still ∙ reads.asked })
      | inr one ↦
          let next : c.asked ≡ b.asked ++ a_shelf_ask.Read name place wide ∷ [] = front.made ∙ ap (λ (l : List Asked). b.asked ++ l) one in
          theirs_end size (place + width) name a c (omega (arith, least, below)) (theirs_more size place wide width name a b c below same least reads next)
    ]

-- the last one, which was answered
pub theirs_made : (size place wide width : ℕ) (name : List ℕ) (a b c : History) → place < size → wide ≡ width → width ≡ min (size - place) 65536 → ReadsUpto size place name a b
    → c.asked ≡ b.asked ++ a_shelf_ask.Read name place wide ∷ [] → ReadsTheirs size name a c
theirs_made size place wide width name a b c below same least reads next =
    theirs_end size (place + width) name a c (omega (arith, least, below)) (theirs_more size place wide width name a b c below same least reads next)
