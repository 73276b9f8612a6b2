-- Counting: two lists without doubles that have the same members have as many that meet a test; and a test that repeats itself every sixteen numbers.
use Rattle.std.proofs.Common.{ℕ, zero, suc, ◌≡◌, ◌+◌, ◌*◌, ◌%◌, ◌<◌, ◌≤◌, ◌⊎◌, Bool, cond, List, [], ◌∷◌, inl, inr, refl, sym, ap, subst, ◌∙◌, arith, mul-suc, add_comm}
use Rattle.std.proofs.lemmas.Bool.{cases_lt}

-- ---- members

abbrev pub In : {X : Type 0} → List X → X → Type 0
In [] x = ⊥
In (y ∷ ys) x = (y ≡ x) ⊎ In ys x

abbrev pub AreOnce : {X : Type 0} → List X → Type 0
AreOnce [] = Unit {0}
AreOnce (y ∷ ys) = (In ys y → ⊥) × AreOnce ys

-- how many meet a test
abbrev pub count : {X : Type 0} → (X → Bool) → List X → ℕ
count test [] = 0
count test (y ∷ ys) = cond (test y) 1 0 + count test ys

-- the others
abbrev without : {X : Type 0} (ys : List X) (x : X) → In ys x → List X
without [] x has = absurd has
without (y ∷ ys) x (inl is) = ys
without (y ∷ ys) x (inr has) = y ∷ without ys x has

count_without : {X : Type 0} (test : X → Bool) (ys : List X) (x : X) (has : In ys x) → count test ys ≡ cond (test x) 1 0 + count test (without ys x has)
count_without test [] x has = absurd has
count_without test (y ∷ ys) x (inl is) = ap (λ z. cond (test z) 1 0 + count test ys) is
count_without test (y ∷ ys) x (inr has) =
    let rest : count test ys ≡ cond (test x) 1 0 + count test (without ys x has) = count_without test ys x has in
    omega (arith, rest)

in_without : {X : Type 0} (ys : List X) (x z : X) (has : In ys x) → In ys z → (z ≡ x → ⊥) → In (without ys x has) z
in_without [] x z has at other = absurd has
in_without (y ∷ ys) x z (inl is) (inl here) other = absurd (other (sym here ∙ is))
in_without (y ∷ ys) x z (inl is) (inr later) other = later
in_without (y ∷ ys) x z (inr has) (inl here) other = inl here
in_without (y ∷ ys) x z (inr has) (inr later) other = inr (in_without ys x z has later other)

count_upto : {X : Type 0} (test : X → Bool) (xs ys : List X) → AreOnce xs → ((x : X) → In xs x → In ys x) → count test xs ≤ count test ys
count_upto test [] ys once goes = omega arith
count_upto test (x ∷ xs) ys once goes =
    let has = goes x (inl refl) in
    let rest : count test xs ≤ count test (without ys x has) =
    count_upto test xs (without ys x has) once.1 (λ z later. in_without ys x z has (goes z (inr later)) (λ is. once.0 (subst (In xs) is later))) in
    let all : count test ys ≡ cond (test x) 1 0 + count test (without ys x has) = count_without test ys x has in
    omega (arith, rest, all)

pub same_count : {X : Type 0} (test : X → Bool) (xs ys : List X) → AreOnce xs → AreOnce ys → ((x : X) → In xs x → In ys x) → ((x : X) → In ys x → In xs x) → count test xs ≡ count test ys
same_count test xs ys once_x once_y there back =
    let upto : count test xs ≤ count test ys = count_upto test xs ys once_x there in
    let from : count test ys ≤ count test xs = count_upto test ys xs once_y back in
    omega (arith, upto, from)

-- ---- numbers

-- what is listed of the numbers below one
abbrev pub upto : {X : Type 0} → (ℕ → X) → ℕ → List X
upto of zero = []
upto of (suc n) = of n ∷ upto of n

pub in_upto : {X : Type 0} (of : ℕ → X) (n i : ℕ) → i < n → In (upto of n) (of i)
in_upto of zero i below = absurd (omega (arith, below))
in_upto of (suc n) i below = elim (cases_lt i n) [
  | inl less ↦ inr (in_upto of n i less)
  | inr last ↦ let same : n ≡ i = omega (arith, below, last) in inl (ap of same)
]

pub of_upto : {X : Type 0} (of : ℕ → X) (n : ℕ) (x : X) → In (upto of n) x → (i : ℕ) × (i < n) × (of i ≡ x)
of_upto of zero x has = absurd has
of_upto of (suc n) x (inl is) = (n, omega arith, is)
of_upto of (suc n) x (inr has) = let at = of_upto of n x has in let less : at.0 < n = at.1 in (at.0, omega (arith, less), at.2)

pub once_upto : {X : Type 0} (of : ℕ → X) (n : ℕ) → ((i j : ℕ) → i < n → j < n → of i ≡ of j → i ≡ j) → AreOnce (upto of n)
once_upto of zero differ = tt
once_upto of (suc n) differ = (
  λ has.
      let at = of_upto of n (of n) has in
      let less : at.0 < n = at.1 in
      let same : at.0 ≡ n = differ at.0 n (omega (arith, less)) (omega arith) at.2 in
      absurd (omega (arith, less, same)),
  once_upto of n (λ i j i_below j_below same. differ i j (omega (arith, i_below)) (omega (arith, j_below)) same),
)

-- how many numbers below one meet a test
abbrev pub tally : (ℕ → Bool) → ℕ → ℕ
tally test zero = 0
tally test (suc n) = cond (test n) 1 0 + tally test n

pub count_tally : {X : Type 0} (test : X → Bool) (of : ℕ → X) (n : ℕ) → count test (upto of n) ≡ tally (λ i. test (of i)) n
count_tally test of zero = refl
count_tally test of (suc n) = ap (λ (k : ℕ). cond (test (of n)) 1 0 + k) (count_tally test of n)

tally_add : (test : ℕ → Bool) (a b : ℕ) → tally test (b + a) ≡ tally (λ i. test (i + a)) b + tally test a
tally_add test a zero =
    let none : 0 + a ≡ a = omega arith in
    let all : 0 + tally test a ≡ tally test a = omega arith in
    ap (tally test) none ∙ sym all
tally_add test a (suc b) =
    let rest : tally test (b + a) ≡ tally (λ i. test (i + a)) b + tally test a = tally_add test a b in
    let more : suc b + a ≡ suc (b + a) = omega arith in
    let next : tally test (suc b + a) ≡ cond (test (b + a)) 1 0 + tally test (b + a) = ap (tally test) more in
    omega (arith, rest, next)

tally_same : (p q : ℕ → Bool) (n : ℕ) → ((i : ℕ) → p i ≡ q i) → tally p n ≡ tally q n
tally_same p q zero same = refl
tally_same p q (suc n) same = let rest : tally p n ≡ tally q n = tally_same p q n same in ap (λ (b : Bool). cond b 1 0 + tally p n) (same n) ∙ ap (λ (k : ℕ). cond (q n) 1 0 + k) rest

-- a test of rests by sixteen
pub tally_rests : (test : ℕ → Bool) (dirs each : ℕ) → tally (λ i. test (i % 16)) 16 ≡ each → tally (λ i. test (i % 16)) (16 * dirs) ≡ each * dirs
tally_rests test zero each is = omega arith
tally_rests test (suc dirs) each is =
    let rest : tally (λ i. test (i % 16)) (16 * dirs) ≡ each * dirs = tally_rests test dirs each is in
    let split : tally (λ i. test (i % 16)) (16 + 16 * dirs) ≡ tally (λ i. test ((i + 16 * dirs) % 16)) 16 + tally (λ i. test (i % 16)) (16 * dirs) = tally_add (λ i. test (i % 16)) (16 * dirs) 16 in
    let same : tally (λ i. test ((i + 16 * dirs) % 16)) 16 ≡ tally (λ i. test (i % 16)) 16 =
    tally_same (λ i. test ((i + 16 * dirs) % 16)) (λ i. test (i % 16)) 16 (λ i. let e : (i + 16 * dirs) % 16 ≡ i % 16 = omega arith in ap test e) in
    let all : 16 * suc dirs ≡ 16 + 16 * dirs = omega arith in
    let more : each * suc dirs ≡ each + each * dirs = mul-suc each dirs ∙ add_comm (each * dirs) each in
    ap (tally (λ i. test (i % 16))) all ∙ split ∙ ap (λ (k : ℕ). k + tally (λ i. test (i % 16)) (16 * dirs)) (same ∙ is) ∙ ap (λ (k : ℕ). each + k) rest ∙ sym more
