-- What was taken of a path in parts of a call was taken in the call.
use Rattle.std.proofs.Common.{◌≡◌, ℕ, zero, suc, ◌+◌, ◌-◌, ◌<◌, ◌≤◌, min, List, [], ◌∷◌, ◌++◌, length, take, drop, slice_get, Option, Some, None, refl, sym, ap, ◌∙◌, subst, arith, inl, inr}
use Rattle.std.specs.Prelude.{IsTrue}
use Rattle.std.proofs.lemmas.Bool.{cases_lt}
use Rattle.std.proofs.lemmas.List.{length-append, length-drop, length-take}
use Rattle.sha1.specs.Sha1.{Holds}
use Rattle.sha1.specs.declared.Sha1.{Sha1}
use Rattle.hg_shelf.specs.Images.{Course}
use Rattle.hg_tree.specs.History.{History, Passes, now}
use Rattle.hg_tree.specs.Moment.{Moment, bytes_at}
use Rattle.hg_compare.specs.Seen.{HasByte, HasPiece}
use Rattle.hg_store.specs.Storing.{IsAlone, IsLaid, Proceeds}
use Rattle.hg_store.specs.Taking.{Copies, EndsAt, IsFront, IsTaken, Shows}
use Rattle.hg_store.proofs.Leading.{alone_first, alone_second}

-- ---- moments

pub shows_first : {a b c : History} (P : Moment → Type 0) → Passes a b → Passes b c → Shows a b P → Shows a c P
shows_first P p q is = record {
  at = is.at;
  during = λ told. let during = is.during told in record { from = during.from; to = omega (arith, during.to, q.past.later) };
  so = λ told. subst P (sym (q.past.stay is.at (is.during told).to)) (is.so told);
}

pub shows_second : {a b c : History} (P : Moment → Type 0) → Passes a b → Shows b c P → Shows a c P
shows_second P p is = record {
  at = is.at;
  during = λ told. let during = is.during (p.past.told ∙ told) in record { from = omega (arith, p.past.later, during.from); to = during.to };
  so = λ told. is.so (p.past.told ∙ told);
}

pub shows_last : {a b : History} (P : Moment → Type 0) → Passes a b → (IsTrue b.told → P (now b)) → Shows a b P
shows_last {a} {b} P p is = record {
  at = b.last;
  during = λ told. record { from = p.past.later; to = omega arith };
  so = λ told. is (p.past.told ∙ told);
}

-- ---- bytes

get_front : (xs ys : List ℕ) (k : ℕ) → k < length xs → slice_get (xs ++ ys) k ≡ slice_get xs k
get_front [] ys k below = absurd (omega (arith, below))
get_front (x ∷ xs) ys zero below = refl
get_front (x ∷ xs) ys (suc k) below = get_front xs ys k (omega (arith, below))

get_behind : (xs ys : List ℕ) (k : ℕ) → length xs ≤ k → slice_get (xs ++ ys) k ≡ slice_get ys (k - length xs)
get_behind [] ys k from = ap (slice_get ys) (omega arith)
get_behind (x ∷ xs) ys zero from = absurd (omega (arith, from))
get_behind (x ∷ xs) ys (suc k) from = get_behind xs ys k (omega (arith, from)) ∙ ap (slice_get ys) (omega arith)

get_drop : (n : ℕ) (xs : List ℕ) (i : ℕ) → slice_get (drop n xs) i ≡ slice_get xs (n + i)
get_drop zero xs i = ap (slice_get xs) (omega arith)
get_drop (suc n) [] i = refl
get_drop (suc n) (x ∷ xs) i = get_drop n xs i ∙ ap (slice_get (x ∷ xs)) (next n i)
  where
    next : (a b : ℕ) → suc (a + b) ≡ suc a + b
    next a b = omega arith

get_take : (n : ℕ) (xs : List ℕ) (i : ℕ) → i < n → slice_get (take n xs) i ≡ slice_get xs i
get_take zero xs i below = absurd (omega (arith, below))
get_take (suc n) [] i below = refl
get_take (suc n) (x ∷ xs) zero below = refl
get_take (suc n) (x ∷ xs) (suc i) below = get_take n xs i (omega (arith, below))

-- the byte of a piece that stands behind a text
piece_byte : (width : ℕ) (text piece : List ℕ) (file : Option (List ℕ)) (k : ℕ) → length text ≤ k → k < length text + width → HasPiece (length text) width piece file → HasByte k (slice_get (text ++ piece) k) file
piece_byte width text piece None k from to is = absurd is
piece_byte width text piece (Some bytes) k from to is =
    let i : ℕ = k - length text in
    ap (slice_get bytes) (omega (arith, from)) ∙ sym (get_drop (length text) bytes i) ∙ sym (get_take width (drop (length text) bytes) i (omega (arith, from, to)))
    ∙ ap (λ (xs : List ℕ). slice_get xs i) (sym is) ∙ sym (get_behind text piece k from)

-- a piece that is short ends the file
pub piece_end : (place width n : ℕ) (piece : List ℕ) (file : Option (List ℕ)) → length piece ≡ n → n < width → HasPiece place width piece file → EndsAt (place + n) file
piece_end place width n piece None long short is = absurd is
piece_end place width n piece (Some bytes) long short is =
    let taken : length piece ≡ min width (length (drop place bytes)) = ap length is ∙ length-take width (drop place bytes) in
    let dropped = length-drop place bytes in
    omega (arith, long, short, taken, dropped)

pub front_none : (path : List ℕ) (a b : History) → IsFront path [] a b
front_none path a b k below = absurd (omega (arith, below))

-- a piece more
front_more : {a b c : History} (path text piece : List ℕ) (width : ℕ) → Passes a b → Passes b c → length piece ≤ width → IsFront path text a b → (IsTrue c.told → HasPiece (length text) width piece (bytes_at (now c) path)) → IsFront path (text ++ piece) a c
front_more {a} {b} {c} path text piece width p q few front has k below =
    let long = length-append text piece in
    elim (cases_lt k (length text)) [
      | inl less ↦
          subst (λ (o : Option ℕ). Shows a c (λ moment. HasByte k o (bytes_at moment path))) (sym (get_front text piece k less))
          (shows_first (λ moment. HasByte k (slice_get text k) (bytes_at moment path)) p q (front k less))
      | inr from ↦
          shows_second (λ moment. HasByte k (slice_get (text ++ piece) k) (bytes_at moment path)) p
          (shows_last (λ moment. HasByte k (slice_get (text ++ piece) k) (bytes_at moment path)) q (λ told. piece_byte width text piece (bytes_at (now c) path) k from (omega (arith, below, long, few)) (has told)))
    ]

pub copies_none : (path : List ℕ) (a : History) (c : Course) (h : Sha1) → (text : List ℕ) × Copies path text a a c c h h 0
copies_none path a c h = ([], record { front = front_none path a a; long = refl; laid = λ alone laid. laid; hashed = λ holds. holds })

pub copies_more : (path text piece : List ℕ) (width : ℕ) {a b c : History} {x y z : Course} {g h i : Sha1} (place n : ℕ) → Passes a b → Passes b c → Proceeds x y → Proceeds y z → n ≤ width → length piece ≡ n
    → Copies path text a b x y g h place
    → (IsTrue c.told → HasPiece place width piece (bytes_at (now c) path))
    → (IsAlone y z → IsLaid text y → IsLaid (text ++ piece) z)
    → (Holds h text → Holds i (text ++ piece))
    → Copies path (text ++ piece) a c x z g i (place + n)
copies_more path text piece width {a} {b} {c} place n p q r s few long copies has laid hashed =
    let here : (IsTrue c.told → HasPiece (length text) width piece (bytes_at (now c) path)) = subst (λ (m : ℕ). IsTrue c.told → HasPiece m width piece (bytes_at (now c) path)) (sym copies.long) has in
    let longer = length-append text piece in
    record {
      front = front_more path text piece width p q (omega (arith, long, few)) copies.front here;
      long = omega (arith, longer, long, copies.long);
      laid = λ alone none. laid (alone_second r alone) (copies.laid (alone_first s alone) none);
      hashed = λ holds. hashed (copies.hashed holds);
    }

-- all of it was taken
pub taken_all : (path text : List ℕ) (size place : ℕ) {a b : History} {x y : Course} {g h : Sha1} → size ≤ place → place ≤ size → Copies path text a b x y g h place → IsTaken path text size a b
taken_all path text size place past within copies = record {
  front = copies.front;
  few = omega (arith, within, copies.long);
  ended = λ less. absurd (omega (arith, less, past, copies.long));
}

-- or it ended earlier
pub taken_end : (path text : List ℕ) (size len : ℕ) {a b : History} {x y : Course} {g h : Sha1} → len ≤ size → Copies path text a b x y g h len → Shows a b (λ moment. EndsAt len (bytes_at moment path)) → IsTaken path text size a b
taken_end path text size len {a} {b} within copies ends = record {
  front = copies.front;
  few = omega (arith, within, copies.long);
  ended = λ less. subst (λ (n : ℕ). Shows a b (λ moment. EndsAt n (bytes_at moment path))) (sym copies.long) ends;
}
