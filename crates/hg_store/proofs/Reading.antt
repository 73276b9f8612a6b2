-- What is read of a file that stays as it is.
use Rattle.std.proofs.Common.{◌≡◌, ℕ, ◌+◌, ◌-◌, ◌≤◌, List, [], ◌∷◌, ◌++◌, length, take, drop, Option, Some, None, Bool, true, false, refl, sym, ap, ◌∙◌, subst, arith, inl, inr, zero, suc, MatchBool, cond}
use Rattle.std.proofs.lemmas.Bool.{cases_lt, false≢true, false_from_ne_true}
use Rattle.std.proofs.Math.Seq.{take-nil}
use Rattle.std.proofs.lemmas.List.{length-drop, length-take, take_all, take-append-le, take-take}
use Rattle.std.proofs.lemmas.Slice.Eq.{bytes_eq-Decides}
use Rattle.std.specs.Str.{bytes_eq}
use Rattle.std.specs.Prelude.{IsTrue}
use Rattle.hg_base.specs.Reads.{ReadsBytes, ReadsPast}
use Rattle.hg_base.specs.declared.stat.Got.TheVariants as a_got
use Rattle.hg_shelf.specs.History.{Files, History, Passes, now}
use Rattle.hg_shelf.specs.Reads.{size_of}
use Rattle.hg_store.specs.Standing.{IsStill, standing_of}
use Rattle.hg_store.specs.declared.standing.Standing.TheVariants as a_standing

-- the parts of a call that goes by in two
pub still_first : {a b c : History} → Passes a b → Passes b c → IsStill a c → IsStill a b
still_first {a} {b} {c} p q still = record {
  told = still.told;
  same = λ k after before. sym (q.past.stay k before).shown ∙ still.same k after (omega (arith, before, q.past.later));
}

pub still_now : {a b c : History} → Passes a b → Passes b c → IsStill a c → (now b).files ≡ (now a).files
still_now {a} {b} {c} p q still = (still_first p q still).same b.last p.past.later (omega arith)

pub still_second : {a b c : History} → Passes a b → Passes b c → IsStill a c → IsStill b c
still_second {a} {b} {c} p q still = record {
  told = p.past.told ∙ still.told;
  same = λ k after before. still.same k (omega (arith, p.past.later, after)) before ∙ sym (still_now p q still);
}

pub still_file : {a b c : History} (name bytes : List ℕ) → Passes a b → Passes b c → IsStill a c → (now a).files name ≡ Some bytes → (now b).files name ≡ Some bytes
still_file name bytes p q still there = ap (λ (f : Files). f name) (still_now p q still) ∙ there

past_taken : (bytes : List ℕ) (place : ℕ) (old new : List ℕ) (n : ℕ) → ReadsPast bytes place old new n → take n new ≡ take (length old) (drop place bytes)
past_taken bytes place old new n read =
    let dropped = length-drop place bytes in
    let front = length-take n (drop place bytes) in
    ap (take n) read.filled ∙ take-append-le n (take n (drop place bytes)) (drop n old) (omega (arith, read.count, dropped, front))
    ∙ take-take n n (drop place bytes) (omega arith)
    ∙ elim (cases_lt (length bytes - place) (length old)) [
      | inl less ↦ take_all n (drop place bytes) (omega (arith, read.count, dropped, less)) ∙ sym (take_all (length old) (drop place bytes) (omega (arith, dropped, less)))
      | inr most ↦ ap (λ (m : ℕ). take m (drop place bytes)) (omega (arith, read.count, most))
    ]

pub piece_read : (a b : History) (name bytes : List ℕ) (place : ℕ) (old new : List ℕ) (n : ℕ) → Passes a b → IsStill a b → (now a).files name ≡ Some bytes → (IsTrue a.told → ReadsBytes ((now b).files name) place old new (a_got.Bytes n)) → take n new ≡ take (length old) (drop place bytes)
piece_read a b name bytes place old new n p still there found =
    let here : (now b).files name ≡ Some bytes = ap (λ (f : Files). f name) (still.same b.last p.past.later (omega arith)) ∙ there in
    past_taken bytes place old new n (subst (λ (f : Option (List ℕ)). ReadsBytes f place old new (a_got.Bytes n)) here (found still.told))

pub piece_absent : (a b : History) (name bytes : List ℕ) (place : ℕ) (old new : List ℕ) → Passes a b → IsStill a b → (now a).files name ≡ Some bytes → (IsTrue a.told → ReadsBytes ((now b).files name) place old new a_got.Absent) → ⊥
piece_absent a b name bytes place old new p still there found =
    let here : (now b).files name ≡ Some bytes = ap (λ (f : Files). f name) (still.same b.last p.past.later (omega arith)) ∙ there in
    subst (λ (f : Option (List ℕ)). ReadsBytes f place old new a_got.Absent) here (found still.told)

-- what the test of two texts says of what they are
some_injective : {m n : ℕ} → Some m ≡ Some n → m ≡ n
some_injective {m} {n} is = ap (λ (o : Option ℕ). option_or o m) is
  where
    option_or : Option ℕ → ℕ → ℕ
    option_or None k = k
    option_or (Some k) j = k

by_bool : {P : Type 0} (t : Bool) → (t ≡ true → P) → (P → t ≡ true) → MatchBool t P (P → ⊥)
by_bool true holds back = holds refl
by_bool false holds back = λ p. absurd (false≢true (back p))

-- what a test decided
pub is_so : (x y : List ℕ) (t : Bool) → t ≡ true → MatchBool t (x ≡ y) (x ≡ y → ⊥) → x ≡ y
is_so x y true is found = found
is_so x y false is found = absurd (false≢true is)

pub is_not : (x y : List ℕ) (t : Bool) → t ≡ false → MatchBool t (x ≡ y) (x ≡ y → ⊥) → x ≡ y → ⊥
is_not x y true is found same = absurd (false≢true (sym is))
is_not x y false is found same = found same

pub piece_same : (width place : ℕ) (text bytes : List ℕ) → text ≡ bytes → take width (drop place text) ≡ take width (drop place bytes)
piece_same width place text bytes same = ap (λ (xs : List ℕ). take width (drop place xs)) same

pub equal_texts : (xs ys a b : List ℕ) (t : Bool) → t ≡ bytes_eq xs ys → xs ≡ a → ys ≡ b → MatchBool t (a ≡ b) (a ≡ b → ⊥)
equal_texts xs ys a b t is first second =
    by_bool t (λ equal. sym first ∙ (bytes_eq-Decides xs ys).0 (sym is ∙ equal) ∙ second) (λ same. is ∙ (bytes_eq-Decides xs ys).1 (first ∙ same ∙ sym second))

-- so many bytes more are the same
pub take_piece : (place width next : ℕ) (text : List ℕ) → next ≡ place + width → take next text ≡ take place text ++ take width (drop place text)
take_piece zero width next text is = ap (λ (n : ℕ). take n text) (omega (arith, is))
take_piece (suc place) width zero text is = absurd (omega (arith, is))
take_piece (suc place) width (suc next) [] is = sym (take-nil width)
take_piece (suc place) width (suc next) (b ∷ text) is = ap (λ (xs : List ℕ). b ∷ xs) (take_piece place width next text (omega (arith, is)))

pub same_more : (place width next : ℕ) (text bytes : List ℕ) → next ≡ place + width → take place text ≡ take place bytes → take width (drop place text) ≡ take width (drop place bytes) → take next text ≡ take next bytes
same_more place width next text bytes is front piece =
    take_piece place width next text is ∙ ap (λ (xs : List ℕ). xs ++ take width (drop place text)) front ∙ ap (λ (xs : List ℕ). take place bytes ++ xs) piece ∙ sym (take_piece place width next bytes is)

pub same_whole : (place size : ℕ) (text bytes : List ℕ) → size ≤ place → length text ≡ size → length bytes ≡ size → take place text ≡ take place bytes → text ≡ bytes
same_whole place size text bytes past long wide same = sym (take_all place text (omega (arith, past, long))) ∙ same ∙ take_all place bytes (omega (arith, past, wide))

-- what stands under a name, by its size and by its bytes
pub standing_same : (file : Option (List ℕ)) (text : List ℕ) (size : ℕ) → Some size ≡ size_of file → ((bytes : List ℕ) → file ≡ Some bytes → length bytes ≡ size → text ≡ bytes) → a_standing.Same ≡ standing_of file text
standing_same None text size sized same = absurd cc
standing_same (Some bytes) text size sized same =
    let long : length bytes ≡ size = some_injective (sym sized) in
    ap (λ (t : Bool). cond t a_standing.Same a_standing.Other) (sym ((bytes_eq-Decides bytes text).1 (sym (same bytes refl long))))

pub standing_other : (file : Option (List ℕ)) (text : List ℕ) (size : ℕ) → Some size ≡ size_of file → ((bytes : List ℕ) → file ≡ Some bytes → length bytes ≡ size → text ≡ bytes → ⊥) → a_standing.Other ≡ standing_of file text
standing_other None text size sized other = absurd cc
standing_other (Some bytes) text size sized other =
    let long : length bytes ≡ size = some_injective (sym sized) in
    ap (λ (t : Bool). cond t a_standing.Same a_standing.Other) (sym (false_from_ne_true (bytes_eq bytes text) (λ equal. other bytes refl long (sym ((bytes_eq-Decides bytes text).0 equal)))))
