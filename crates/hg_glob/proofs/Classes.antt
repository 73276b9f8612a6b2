-- Where a class ends, and what it lists.
use Rattle.std.proofs.Common.{◌≡◌, ℕ, ◌+◌, Bool, true, false, cond, not, ◌||◌, ◌⊎◌, inl, inr, ◌==◌, List, [], ◌∷◌, ◌++◌, length, drop, Some, None, nat_lt, refl, sym, ap, ◌∙◌, arith, length-append, eqb-true, eq-eqb}
use Rattle.std.specs.Prelude.{position, option_map}
use Rattle.std.specs.List.{list_any, position_or_len}
use Rattle.std.proofs.Math.Seq.{take-append_seam, drop-append-add}
use Rattle.std.proofs.lemmas.Bool.{cases_Bool, or_from, lt-ltb, le-ltb, false≢true, both_ways}
use Rattle.hg_glob.specs.Part.{Spelled, single, begins, ranges, members, bracket, bracketed, parts_from}
use Rattle.hg_glob.specs.Syntax.{AreListed, BeginsClass, BeginsWith, IsClass}
use Rattle.hg_glob.specs.declared.part.Part.{Part}
use Rattle.hg_glob.specs.declared.part.Part.TheVariants as a_part
use Rattle.hg_glob.proofs.Spelled.{parts_step}

abbrev closes : ℕ → Bool
closes c = c == 93

-- the first `]` of a text
record FirstBracket (text : List ℕ) : Type 0 where
  front : List ℕ
  behind : List ℕ
  split : text ≡ front ++ 93 ∷ behind
  before : list_any closes front ≡ false

bracket_on : (c : ℕ) (text : List ℕ) → (c == 93) ≡ false → FirstBracket text ⊎ (list_any closes text ≡ false) → FirstBracket (c ∷ text) ⊎ (list_any closes (c ∷ text) ≡ false)
bracket_on c text other (inl f) = inl (record { front = c ∷ f.front; behind = f.behind; split = ap (λ v. c ∷ v) f.split; before = or_from (c == 93) (list_any closes f.front) other f.before })
bracket_on c text other (inr quiet) = inr (or_from (c == 93) (list_any closes text) other quiet)

first_bracket : (text : List ℕ) → FirstBracket text ⊎ (list_any closes text ≡ false)
first_bracket [] = inr refl
first_bracket (c ∷ text) = elim (cases_Bool (c == 93)) [
  | inl same ↦ inl (record { front = []; behind = text; split = ap (λ v. v ∷ text) (eqb-true c 93 same); before = refl })
  | inr other ↦ bracket_on c text other (first_bracket text)
]

pub or_none : (a b : Bool) → (a || b) ≡ false → (a ≡ false) × (b ≡ false)
or_none true b h = absurd (false≢true (sym h))
or_none false b h = (refl, h)

bracket_len : (front behind : List ℕ) → list_any closes front ≡ false → position_or_len closes (front ++ 93 ∷ behind) ≡ length front
bracket_len [] behind quiet = refl
bracket_len (c ∷ front) behind quiet =
    let (other, more) = or_none (c == 93) (list_any closes front) quiet in
    ap (λ b. cond (not b) (1 + position_or_len closes (front ++ 93 ∷ behind)) 0) other ∙ omega (arith, bracket_len front behind more)

quiet_len : (text : List ℕ) → list_any closes text ≡ false → position_or_len closes text ≡ length text
quiet_len [] quiet = refl
quiet_len (c ∷ text) quiet =
    let (other, more) = or_none (c == 93) (list_any closes text) quiet in
    ap (λ b. cond (not b) (1 + position_or_len closes text) 0) other ∙ omega (arith, quiet_len text more)

at_length : (text : List ℕ) (n : ℕ) → position_or_len closes text ≡ n → position closes text ≡ cond (nat_lt n (length text)) (Some n) None
at_length text n h = ap (λ k. cond (nat_lt k (length text)) (Some k) None) h

bracket_found : (front behind : List ℕ) → list_any closes front ≡ false → position closes (front ++ 93 ∷ behind) ≡ Some (length front)
bracket_found front behind quiet =
    at_length (front ++ 93 ∷ behind) (length front) (bracket_len front behind quiet)
    ∙ ap (λ b. cond b (Some (length front)) None) (lt-ltb (length front) (length (front ++ 93 ∷ behind)) (omega (arith, length-append front (93 ∷ behind))))

bracket_none : (text : List ℕ) → list_any closes text ≡ false → position closes text ≡ None
bracket_none text quiet = at_length text (length text) (quiet_len text quiet) ∙ ap (λ b. cond b (Some (length text)) None) (le-ltb (length text) (length text) (omega arith))

-- what a class lists is what stands before its `]`
members_listed : (listed rest : List ℕ) → AreListed listed → members (listed ++ 93 ∷ rest) ≡ Some (length listed)
members_listed [] rest none = absurd none
members_listed (first ∷ more) rest quiet = ap (option_map (λ n. n + 1)) (bracket_found more rest quiet) ∙ ap (λ n. Some n) (omega arith)

record Listed (text : List ℕ) : Type 0 where
  list : List ℕ
  rest : List ℕ
  are : AreListed list
  split : text ≡ list ++ 93 ∷ rest

listed_or_none : (text : List ℕ) → Listed text ⊎ (members text ≡ None)
listed_or_none [] = inr refl
listed_or_none (first ∷ more) = elim (first_bracket more) [
  | inl f ↦ inl (record { list = first ∷ f.front; rest = f.behind; are = f.before; split = ap (λ v. first ∷ v) f.split })
  | inr quiet ↦ inr (ap (option_map (λ n. n + 1)) (bracket_none more quiet))
]

-- where the first member of a class stands behind its `[`
abbrev pub place_of : Bool → ℕ → ℕ
place_of true at = at + 2
place_of false at = at + 1

-- how many characters stand before it there
abbrev pub lead : Bool → ℕ
lead true = 1
lead false = 0

-- what is read of a class
abbrev pub class_read : Bool → ℕ → List ℕ → Spelled
class_read negated at listed = record { parts = a_part.Class negated ∷ ranges (place_of negated at) listed; more = lead negated + length listed + 1 }

begun_no : (x : ℕ) (rest more : List ℕ) → (BeginsWith 33 (x ∷ rest) → ⊥) → begins 33 (x ∷ more) ≡ false
begun_no x rest more other = elim (cases_Bool (x == 33)) [
  | inl same ↦ absurd (other (rest, ap (λ v. v ∷ rest) (eqb-true x 33 same)))
  | inr apart ↦ apart
]

listed_unbegun : (listed rest : List ℕ) → AreListed listed → (BeginsWith 33 listed → ⊥) → begins 33 (listed ++ 93 ∷ rest) ≡ false
listed_unbegun [] rest none other = absurd none
listed_unbegun (x ∷ listed) rest are other = begun_no x listed (listed ++ 93 ∷ rest) other

-- behind a bracket that a class begins with, the class is read
pub class_bracketed : (negated : Bool) (at : ℕ) (text listed rest : List ℕ) → IsClass negated text listed rest → bracketed at (drop 1 text) ≡ class_read negated at listed
class_bracketed true at text listed rest (are, is) =
    ap (λ v. bracketed at (drop 1 v)) is ∙ ap (bracket true (at + 2) 1 (listed ++ 93 ∷ rest)) (members_listed listed rest are)
    ∙ ap (λ v. record { parts = a_part.Class true ∷ ranges (at + 2) v; more = 1 + length listed + 1 }) (take-append_seam listed (93 ∷ rest))
class_bracketed false at text listed rest (are, other, is) =
    let all : List ℕ = listed ++ 93 ∷ rest in
    ap (λ v. bracketed at (drop 1 v)) is ∙ ap (λ b. cond b (bracket true (at + 2) 1 (drop 1 all) (members (drop 1 all))) (bracket false (at + 1) 0 all (members all))) (listed_unbegun listed rest are other)
    ∙ ap (bracket false (at + 1) 0 all) (members_listed listed rest are)
    ∙ ap (λ v. record { parts = a_part.Class false ∷ ranges (at + 1) v; more = 0 + length listed + 1 }) (take-append_seam listed (93 ∷ rest))

begins_split : (x : ℕ) (text : List ℕ) → begins x text ≡ true → text ≡ x ∷ drop 1 text
begins_split x [] h = absurd (false≢true h)
begins_split x (c ∷ text) h = ap (λ v. v ∷ text) (eqb-true c x h)

unbegun : (x : ℕ) (text : List ℕ) → begins x text ≡ false → BeginsWith x text → ⊥
unbegun x text h (rest, is) = both_ways (begins x (x ∷ rest)) (ap (begins x) (sym is) ∙ h) (eq-eqb x x refl)

-- a bracket begins a class or is itself
pub bracket_cases : (at : ℕ) (rest : List ℕ) → BeginsClass (91 ∷ rest) ⊎ (bracketed at rest ≡ single (a_part.Literal 91))
bracket_cases at rest = elim (cases_Bool (begins 33 rest)) [
  | inl marked ↦ elim (listed_or_none (drop 1 rest)) [
    | inl l ↦ inl (true, l.list, l.rest, (l.are, ap (λ v. 91 ∷ v) (begins_split 33 rest marked) ∙ ap (λ v. 91 ∷ 33 ∷ v) l.split))
    | inr none ↦ inr (ap (λ b. cond b (bracket true (at + 2) 1 (drop 1 rest) (members (drop 1 rest))) (bracket false (at + 1) 0 rest (members rest))) marked ∙ ap (bracket true (at + 2) 1 (drop 1 rest)) none)
  ]
  | inr plain ↦ elim (listed_or_none rest) [
    | inl l ↦ inl (false, l.list, l.rest, (l.are, unbegun_front rest l.list (93 ∷ l.rest) plain l.split, ap (λ v. 91 ∷ v) l.split))
    | inr none ↦ inr (ap (λ b. cond b (bracket true (at + 2) 1 (drop 1 rest) (members (drop 1 rest))) (bracket false (at + 1) 0 rest (members rest))) plain ∙ ap (bracket false (at + 1) 0 rest) none)
  ]
]
  where
    unbegun_front : (text front behind : List ℕ) → begins 33 text ≡ false → text ≡ front ++ behind → BeginsWith 33 front → ⊥
    unbegun_front text front behind h split (more, is) = unbegun 33 text h (more ++ behind, split ∙ ap (λ v. v ++ behind) is)

-- one that is read as itself begins none
pub bracket_alone : (at : ℕ) (rest : List ℕ) → bracketed at rest ≡ single (a_part.Literal 91) → BeginsClass (91 ∷ rest) → ⊥
bracket_alone at rest h (negated, listed, behind, class) =
    both_ways (begins_class (bracketed at rest).parts) (ap (λ s. begins_class s.parts) h) (ap (λ s. begins_class s.parts) (class_bracketed negated at (91 ∷ rest) listed behind class))
  where
    is_class : Part → Bool
    is_class (a_part.Class negated) = true
    is_class _ = false

    begins_class : List Part → Bool
    begins_class [] = false
    begins_class (p ∷ parts) = is_class p

-- the parts of a text that begins with a class
pub class_parts : (negated : Bool) (depth at : ℕ) (text listed rest : List ℕ) → IsClass negated text listed rest
    → (to : ℕ) × (parts_from 0 depth at text ≡ a_part.Class negated ∷ (ranges (place_of negated at) listed ++ parts_from 0 depth to rest))
class_parts true depth at text listed rest class =
    let all : List ℕ = 33 ∷ (listed ++ 93 ∷ rest) in
    let s : Spelled = class_read true at listed in (
      at + (1 + s.more),
      ap (parts_from 0 depth at) class.1 ∙ parts_step depth at 91 all
          ∙ ap (λ (r : Spelled). r.parts ++ parts_from 0 depth (at + (1 + r.more)) (drop r.more all)) (class_bracketed true at (91 ∷ all) listed rest (class.0, refl))
          ∙ ap (λ v. s.parts ++ parts_from 0 depth (at + (1 + s.more)) v) (ap (λ n. drop n all) (omega arith) ∙ drop-append-add (33 ∷ listed) (93 ∷ rest) 1),
    )
class_parts false depth at text listed rest class =
    let all : List ℕ = listed ++ 93 ∷ rest in
    let s : Spelled = class_read false at listed in (
      at + (1 + s.more),
      ap (parts_from 0 depth at) class.2 ∙ parts_step depth at 91 all
          ∙ ap (λ (r : Spelled). r.parts ++ parts_from 0 depth (at + (1 + r.more)) (drop r.more all)) (class_bracketed false at (91 ∷ all) listed rest (class.0, class.1, refl))
          ∙ ap (λ v. s.parts ++ parts_from 0 depth (at + (1 + s.more)) v) (ap (λ n. drop n all) (omega arith) ∙ drop-append-add listed (93 ∷ rest) 1),
    )
