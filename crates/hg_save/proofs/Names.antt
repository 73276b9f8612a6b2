-- The names of the files that a publication writes, and the identifier that follows another.
use Rattle.std.proofs.Common.{◌≡◌, ℕ, zero, suc, ◌+◌, ◌<◌, ◌≤◌, ◌^◌, ◌==◌, Bool, true, false, cond, ◌&&◌, nat_lt, nat_le, List, [], ◌∷◌, length, drop, get_or, codes, refl, sym, ap, ◌∙◌, subst, arith, Option, Some, None}
use Rattle.std.specs.List.{list_all}
use Rattle.std.specs.Option.{option_and_then}
use Rattle.std.specs.Str.{bytes_eq}
use Rattle.std.proofs.Math.Nat.{pow-le-pow_right}
use Rattle.std.proofs.lemmas.Bool.{false_from_ne_true, leb-true}
use Rattle.std.proofs.lemmas.Slice.Eq.{bytes_eq-Decides}
use Rattle.hg_base.proofs.Within.{same_bytes}
use Rattle.hg_docket.specs.Number.{hex_text, hex_value, is_digit, is_number, next_name, number_after, number_of}
use Rattle.hg_docket.specs.Name.{is_name}
use Rattle.hg_docket.proofs.Branches.{both_hold, not_zero}
use Rattle.hg_docket.proofs.Hex.{hex_bound, text_len, text_number}
use Rattle.hg_docket.specs.Docket.{docket_of}
use Rattle.hg_shelf.specs.Images.{Scene}
use Rattle.hg_save.specs.Record.{data_name}
use Rattle.hg_save.specs.Saved.{IsLatest, IsUnnamed, Stands, name_after, new_docket}

-- ---- names

pub docket_not_data : (id : List ℕ) → codes "dirstate" ≡ data_name id → ⊥
docket_not_data id is = absurd (omega (arith, ap length is))

pub docket_not_new : codes "dirstate" ≡ new_docket → ⊥
docket_not_new is = absurd (omega (arith, ap length is))

pub data_not_new : (id : List ℕ) → data_name id ≡ new_docket → ⊥
data_not_new id is = absurd (omega (arith, ap (λ (l : List ℕ). get_or l 8 0) is))

pub one_data : (a b : List ℕ) → data_name a ≡ data_name b → a ≡ b
one_data a b is = ap (drop 9) is

pub others_apart : (a b : List ℕ) → (a ≡ b → ⊥) → bytes_eq a b ≡ false
others_apart a b apart = false_from_ne_true (bytes_eq a b) (λ is. apart (same_bytes a b is))

-- ---- identifiers

-- a number that an identifier is
number_small : (text : List ℕ) (n : ℕ) → number_of text ≡ Some n → n < 2 ^ 64
number_small text n is = small_by (is_number text) refl is where
  value_small : is_number text ≡ true → hex_value text < 2 ^ 64
  value_small test =
      let parts = both_hold (nat_lt 0 (length text) && nat_le (length text) 16) (list_all is_digit text) test in
      let few : length text ≤ 16 = leb-true (length text) 16 (both_hold (nat_lt 0 (length text)) (nat_le (length text) 16) parts.0).1 in
      let most : 16 ^ length text ≤ 16 ^ 16 = pow-le-pow_right (omega arith) few in
      omega (arith, hex_bound text parts.1, most)

  small_by : (t : Bool) → is_number text ≡ t → cond t (Some (hex_value text)) None ≡ Some n → n < 2 ^ 64
  small_by true test is = let same : hex_value text ≡ n = cc is in subst (λ (k : ℕ). k < 2 ^ 64) same (value_small test)
  small_by false test is = absurd (cc is)

-- an identifier that follows is that of a number
pub record Follows (text id : List ℕ) : Type 0 where
  pub small : number_after (number_of text) < 2 ^ 64
  pub is : id ≡ hex_text 16 (number_after (number_of text))

after_small : (text : List ℕ) (number : Option ℕ) → number_of text ≡ number → (number_after number == 2 ^ 64) ≡ false → number_after number < 2 ^ 64
after_small text None is test = omega arith
after_small text (Some n) is test = let small = number_small text n is in most n small test where
  most : (n : ℕ) → n < 2 ^ 64 → (n + 1 == 2 ^ 64) ≡ false → n + 1 < 2 ^ 64
  most n small test = grind (arith, small, test)

pub follows : (text id : List ℕ) → next_name text ≡ Some id → Follows text id
follows text id is = by (number_after (number_of text) == 2 ^ 64) refl is where
  by : (t : Bool) → (number_after (number_of text) == 2 ^ 64) ≡ t → cond t None (Some (hex_text 16 (number_after (number_of text)))) ≡ Some id → Follows text id
  by true test is = absurd (cc is)
  by false test is = record { small = after_small text (number_of text) refl test; is = sym (cc is) }

pub next_len : (text id : List ℕ) → next_name text ≡ Some id → length id ≡ 16
next_len text id is = ap length (follows text id is).is ∙ text_len 16 (number_after (number_of text))

-- an identifier that follows another is its number's
pub next_number : (text id : List ℕ) → next_name text ≡ Some id → number_of id ≡ Some (number_after (number_of text))
next_number text id is = let f = follows text id is in ap number_of f.is ∙ text_number (number_after (number_of text)) f.small

above : (number : Option ℕ) → number ≡ Some (number_after number) → ⊥
above None is = absurd (cc is)
above (Some n) is = let same : n ≡ n + 1 = cc is in absurd (omega (arith, same))

-- no identifier follows itself
pub next_other : (text id : List ℕ) → next_name text ≡ Some id → text ≡ id → ⊥
next_other text id is same = above (number_of text) (ap number_of same ∙ next_number text id is)

-- an identifier that comes after another has a greater number
later_number : (n : ℕ) (id other : List ℕ) → name_after n id ≡ Some other → (m : ℕ) × (number_of other ≡ Some m) × (number_after (number_of id) ≤ m)
later_number zero id other is = (number_after (number_of id), next_number id other is, omega arith)
later_number (suc n) id other is = by (next_name id) refl is (λ between after. later_number n between other after) where
  above : (between : List ℕ) → next_name id ≡ Some between → (m : ℕ) × (number_of other ≡ Some m) × (number_after (number_of between) ≤ m) → (m : ℕ) × (number_of other ≡ Some m) × (number_after (number_of id) ≤ m)
  above between next found =
      let number : number_after (number_of between) ≡ number_after (number_of id) + 1 = ap number_after (next_number id between next) in
      (found.0, found.1, omega (arith, number, found.2))

  by : (next : Option (List ℕ)) → next_name id ≡ next → option_and_then (name_after n) next ≡ Some other
      → ((between : List ℕ) → name_after n between ≡ Some other → (m : ℕ) × (number_of other ≡ Some m) × (number_after (number_of between) ≤ m))
      → (m : ℕ) × (number_of other ≡ Some m) × (number_after (number_of id) ≤ m)
  by None is after below = absurd (cc after)
  by (Some between) is after below = above between is (below between after)

-- no identifier comes after itself
pub never_itself : (n : ℕ) (id : List ℕ) → name_after n id ≡ Some id → ⊥
never_itself n id is =
    let later = later_number n id id is in
    let number : number_after (number_of id) ≡ later.0 + 1 = ap number_after later.1 in
    absurd (omega (arith, number, later.2))

-- what comes after the next one comes after this one
pub later_still : (n : ℕ) (id next other : List ℕ) → next_name id ≡ Some next → name_after n next ≡ Some other → name_after (suc n) id ≡ Some other
later_still n id next other is after = ap (option_and_then (name_after n)) is ∙ after

-- where no docket names an identifier ahead of the one that stands, the next one is free
pub next_free : (loaded : List ℕ) (s : Scene) (id : List ℕ) → Stands loaded s → IsLatest s → next_name (docket_of loaded).id ≡ Some id → IsUnnamed id s
next_free loaded s id stands latest next = record {
  free = λ c is names. latest.latest c is 0 (ap (λ (bytes : List ℕ). next_name (docket_of bytes).id) stands ∙ next ∙ ap (λ (i : List ℕ). Some i) (sym names));
}

-- ---- what is read of an identifier

pub read_id : (id bytes : List ℕ) → Some id ≡ cond (is_name bytes) (Some bytes) None → id ≡ bytes
read_id id bytes is = by (is_name bytes) is where
  by : (t : Bool) → Some id ≡ cond t (Some bytes) None → id ≡ bytes
  by true is = cc is
  by false is = absurd (cc is)

pub some_id : (bytes : List ℕ) (t : Bool) → t ≡ (length bytes == 0) → t ≡ false → bytes ≡ [] → ⊥
some_id bytes t is test none = cc (sym test ∙ is ∙ ap (λ (l : List ℕ). length l == 0) none)

pub empty_id : (bytes : List ℕ) (t : Bool) → t ≡ (length bytes == 0) → t ≡ true → bytes ≡ []
empty_id [] t is test = refl
empty_id (b ∷ bytes) t is test = absurd (cc (sym test ∙ is ∙ not_zero (length (b ∷ bytes)) (omega arith)))

-- ---- bytes that are compared

pub one_bytes : (a b : List ℕ) (t : Bool) → t ≡ bytes_eq a b → t ≡ true → a ≡ b
one_bytes a b t is test = same_bytes a b (sym is ∙ test)

pub other_bytes : (a b : List ℕ) (t : Bool) → t ≡ bytes_eq a b → t ≡ false → a ≡ b → ⊥
other_bytes a b t is test same = let all : bytes_eq a b ≡ true = (bytes_eq-Decides a b).1 same in cc (sym test ∙ is ∙ all)
