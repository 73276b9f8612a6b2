-- A text without a foreign byte is made of the bytes of identifiers, and the other way round.
use Rattle.std.proofs.Common.{◌≡◌, ℕ, ◌+◌, ◌≤◌, Bool, true, false, not, ◌&&◌, cond, List, [], ◌∷◌, length, refl, arith, Some, None, nat_lt, suc}
use Rattle.std.specs.List.{list_all, position_or_len}
use Rattle.std.proofs.lemmas.Bool.Decides.{nat_tests}
use Rattle.hg_docket.specs.Name.{is_name_byte, is_name, foreign_place}

one_before : (t : Bool) (n k : ℕ) (rest : Bool) → suc n ≤ cond (not (not t)) (1 + k) 0 → (n ≤ k → rest ≡ true) → (t && rest) ≡ true
one_before true n k rest h all = all (omega arith)
one_before false n k rest h all = absurd (omega arith)

all_before : (p : ℕ → Bool) (bs : List ℕ) → length bs ≤ position_or_len (λ b. not (p b)) bs → list_all p bs ≡ true
all_before p [] h = refl
all_before p (b ∷ bs) h = one_before (p b) (length bs) (position_or_len (λ c. not (p c)) bs) (list_all p bs) h (all_before p bs)

one_through : (t : Bool) (n k : ℕ) (rest : Bool) → (t && rest) ≡ true → (rest ≡ true → n ≤ k) → suc n ≤ cond (not (not t)) (1 + k) 0
one_through true n k rest h all = let below : n ≤ k = all h in omega arith
one_through false n k rest h all = absurd cc

all_through : (p : ℕ → Bool) (bs : List ℕ) → list_all p bs ≡ true → length bs ≤ position_or_len (λ b. not (p b)) bs
all_through p [] h = omega arith
all_through p (b ∷ bs) h = one_through (p b) (length bs) (position_or_len (λ c. not (p c)) bs) (list_all p bs) h (all_through p bs)

past_end : (k n : ℕ) → cond (nat_lt k n) (Some k) None ≡ None → n ≤ k
past_end k n h = grind (arith, nat_tests, h)

nowhere : (k n : ℕ) → n ≤ k → cond (nat_lt k n) (Some k) None ≡ None
nowhere k n h = grind (arith, nat_tests, h)

pub none_foreign : (bs : List ℕ) → foreign_place bs ≡ None → list_all is_name_byte bs ≡ true
none_foreign bs h = all_before is_name_byte bs (past_end (position_or_len (λ b. not (is_name_byte b)) bs) (length bs) h)

pub foreign_none : (bs : List ℕ) → list_all is_name_byte bs ≡ true → foreign_place bs ≡ None
foreign_none bs h = nowhere (position_or_len (λ b. not (is_name_byte b)) bs) (length bs) (all_through is_name_byte bs h)

-- an identifier is what is short enough and has no foreign byte
pub name_of_none : (bs : List ℕ) → length bs ≤ 255 → foreign_place bs ≡ None → is_name bs ≡ true
name_of_none bs short none = let names : list_all is_name_byte bs ≡ true = none_foreign bs none in grind (arith, nat_tests, names, short)
