-- The last of some publications, one more behind them, and rows that stand in front of others.
use Rattle.std.proofs.Common.{ℕ, zero, suc, ◌≡◌, ◌≢◌, ◌+◌, ◌≤◌, ◌⊎◌, inl, inr, Bool, true, false, ◌&&◌, List, [], ◌∷◌, ◌++◌, length, take, set, get_or, Option, Some, None, refl, sym, ap, subst, ◌∙◌, arith, eqb, eq-eqb, eqb-true}
use Rattle.std.specs.Prelude.{slice_get}
use Rattle.std.proofs.lemmas.Bool.{and_parts, cases_eq, cases_lt, ne_eqb, true≢false}
use Rattle.std.proofs.lemmas.List.{append-nil, append_assoc, get_or-set_same, get_or-set_other, get_or_past, length-append, nil_from_length, set_past, take_at}
use Rattle.std.proofs.lemmas.Option.{same_Some, none-some}
use Rattle.hg_race.specs.Rows.{BeginsWith, Row}
use Rattle.hg_race.specs.World.{holds, is_same, last_or}
use Rattle.hg_race.specs.declared.parts.Naming.{Naming}
use Rattle.hg_race.specs.declared.parts.Publication.{Publication}

module _ {A : Type 0} where
  -- what stands in a list stands there in a longer one
  pub slice_get-append : (xs ys : List A) (n : ℕ) (x : A) → slice_get xs n ≡ Some x → slice_get (xs ++ ys) n ≡ Some x
  slice_get-append [] ys n x e = absurd (none-some x e)
  slice_get-append (y ∷ xs) ys zero x e = e
  slice_get-append (y ∷ xs) ys (suc n) x e = slice_get-append xs ys n x e

  -- what stands in a list with one element more stood there before, or is that element
  pub slice_get-push_cases : (xs : List A) (y : A) (n : ℕ) (x : A) → slice_get (xs ++ y ∷ []) n ≡ Some x → (slice_get xs n ≡ Some x) ⊎ ((n ≡ length xs) × (y ≡ x))
  slice_get-push_cases [] y zero x e = inr (refl, same_Some y x e)
  slice_get-push_cases [] y (suc n) x e = absurd (none-some x e)
  slice_get-push_cases (z ∷ xs) y zero x e = inl e
  slice_get-push_cases (z ∷ xs) y (suc n) x e =
      elim (slice_get-push_cases xs y n x e) [ inl h ↦ inl h | inr h ↦ inr (ap (λ (k : ℕ). suc k) h.0, h.1) ]

-- the last with one more behind
pub last_or-push : (before : Publication) (xs : List Publication) (x : Publication) → last_or before (xs ++ x ∷ []) ≡ x
last_or-push before [] x = refl
last_or-push before (y ∷ xs) x = last_or-push y xs x

-- the last is the one at the last place
pub last_or-at : (before : Publication) (xs : List Publication) (n : ℕ) (x : Publication) → slice_get xs n ≡ Some x → suc n ≡ length xs → last_or before xs ≡ x
last_or-at before [] n x e l = absurd (none-some x e)
last_or-at before (y ∷ []) zero x e l = same_Some y x e
last_or-at before (y ∷ z ∷ xs) zero x e l = absurd (omega arith)
last_or-at before (y ∷ xs) (suc n) x e l = last_or-at y xs n x e (omega arith)

-- where the last stands
pub last_place : (before : Publication) (y : Publication) (xs : List Publication) → slice_get (y ∷ xs) (length xs) ≡ Some (last_or before (y ∷ xs))
last_place before y [] = refl
last_place before y (z ∷ xs) = last_place y z xs

-- where a list has a first, its last has a number
pub last_number : (before first : Publication) (xs : List Publication) → slice_get xs 0 ≡ Some first
    → (n : ℕ) × (length xs ≡ suc n) × (slice_get xs n ≡ Some (last_or before xs))
last_number before first [] e = absurd (none-some first e)
last_number before first (y ∷ xs) e = (length xs, refl, last_place before y xs)

-- two dockets that are found the same
pub same_docket : (a b : Option Naming) → is_same a b ≡ true → a ≡ b
same_docket None None e = refl
same_docket None (Some b) e = absurd (true≢false (sym e))
same_docket (Some a) None e = absurd (true≢false (sym e))
same_docket (Some a) (Some b) e =
    let parts = and_parts (eqb a.id b.id) (eqb a.used b.used) e in
    let id : a.id ≡ b.id = eqb-true a.id b.id parts.0 in
    let used : a.used ≡ b.used = eqb-true a.used b.used parts.1 in
    λ i. Some (record { id = id i; used = used i })

-- a docket is the same as itself
pub is_same-itself : (a : Option Naming) → is_same a a ≡ true
is_same-itself None = refl
is_same-itself (Some a) = ap (λ (t : Bool). t && eqb a.used a.used) (eq-eqb a.id a.id refl) ∙ eq-eqb a.used a.used refl

-- who holds the lock
pub holder_is : (holder : Option ℕ) (who : ℕ) → holds holder who ≡ true → holder ≡ Some who
holder_is None who e = absurd (true≢false (sym e))
holder_is (Some h) who e = ap (λ (k : ℕ). Some k) (eqb-true h who e)

-- and then nobody else does
pub others_hold_nothing : (holder : Option ℕ) (who other : ℕ) → holds holder who ≡ true → other ≢ who → holds holder other ≡ false
others_hold_nothing None who other e apart = refl
others_hold_nothing (Some h) who other e apart = ne_eqb h other (λ s. apart (sym s ∙ eqb-true h who e))

pub begins_itself : (rows : List Row) → BeginsWith rows rows
begins_itself rows = ([], sym (append-nil rows))

pub begins_trans : (a b c : List Row) → BeginsWith a b → BeginsWith b c → BeginsWith a c
begins_trans a b c p q = (q.0 ++ p.0, p.1 ∙ ap (λ (l : List Row). l ++ p.0) q.1 ∙ append_assoc c q.0 p.0)

-- rows of one length of which the one stands in front of the other
pub begins_same : (a b : List Row) → BeginsWith a b → length a ≡ length b → a ≡ b
begins_same a b p l =
    let sum : length a ≡ length b + length p.0 = ap (λ (x : List Row). length x) p.1 ∙ length-append b p.0 in
    let none : p.0 ≡ [] = nil_from_length p.0 (omega arith) in
    p.1 ∙ ap (λ (x : List Row). b ++ x) none ∙ append-nil b

pub begins_taken : (a b : List Row) (n : ℕ) → BeginsWith a b → length b ≡ n → take n a ≡ b
begins_taken a b n p l = ap (λ (x : List Row). take n x) p.1 ∙ take_at b p.0 n l

pub begins_within : (a b : List Row) (n : ℕ) → BeginsWith a b → length b ≡ n → n ≤ length a
begins_within a b n p l =
    let sum : length a ≡ length b + length p.0 = ap (λ (x : List Row). length x) p.1 ∙ length-append b p.0 in
    omega arith

-- what holds of one actor that is new, and of the others as they were, holds of each
pub each_actor : {A : Type 0} (P : ℕ → A → Type 0) (actors : List A) (who : ℕ) (actor none : A) → P who actor
    → ((other : ℕ) → other ≢ who → P other (get_or actors other none))
    → ((other : ℕ) → P other none) → (other : ℕ) → P other (get_or (set actors who actor) other none)
each_actor P actors who actor none mine others empty other =
    elim (cases_eq other who) [
      | inl e ↦
          elim (cases_lt who (length actors)) [
            | inl l ↦
                subst (P other) (ap (λ (k : ℕ). get_or (set actors who actor) k none) (sym e))
                (subst (λ k. P k (get_or (set actors who actor) who none)) (sym e) (subst (P who) (sym (get_or-set_same actors who actor none l)) mine))
            | inr l ↦
                subst (P other) (sym (ap (λ (l : List _). get_or l other none) (set_past actors who actor l)
                ∙ get_or_past actors other none (omega arith))) (empty other)
          ]
      | inr apart ↦ subst (P other) (sym (get_or-set_other actors who other actor none apart)) (others other apart)
    ]
