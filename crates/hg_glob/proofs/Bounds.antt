-- How many parts a text spells, and that each `}` among them stands behind its `{`.
use Rattle.std.proofs.Common.{◌≡◌, ℕ, zero, suc, ◌+◌, ◌-◌, ◌<◌, ◌≤◌, Bool, true, false, cond, ◌&&◌, ◌==◌, List, [], ◌∷◌, ◌++◌, length, drop, take, Option, Some, None, nat_lt, refl, sym, ap, subst, ◌∙◌, arith, length-append, length-take, length-drop, eqb-true, ltb-true}
use Rattle.std.specs.Prelude.{position, option_map}
use Rattle.std.proofs.lemmas.Bool.{false≢true}
use Rattle.std.proofs.lemmas.List.Quantifiers.{position-Some}
use Rattle.hg_glob.specs.Part.{Spelled, single, escaped, starred, bracket, bracketed, spelled, begins, members, ranges_from, range_more, parts_from, depth_after}
use Rattle.hg_glob.specs.Refusal.{closers}
use Rattle.hg_glob.specs.declared.part.Part.{Part}
use Rattle.hg_glob.specs.declared.part.Part.TheVariants as a_part

-- what holds of either holds of the choice
if_cases : (P : Spelled → Type 0) (b : Bool) (x y : Spelled) → (b ≡ true → P x) → (b ≡ false → P y) → P (cond b x y)
if_cases P true x y p q = p refl
if_cases P false x y p q = q refl

and_first : (a b : Bool) → (a && b) ≡ true → a ≡ true
and_first true b h = refl
and_first false b h = absurd (false≢true h)

and_second : (a b : Bool) → (a && b) ≡ true → b ≡ true
and_second true b h = h
and_second false b h = absurd (false≢true h)

after_of : (opens closes : Bool) (depth : ℕ) → opens ≡ false → cond opens (depth + 1) (cond closes (depth - 1) depth) ≤ depth
after_of true closes depth h = absurd (false≢true (sym h))
after_of false true depth h = omega arith
after_of false false depth h = omega arith

-- what a text spells at its front, by its first character
spelled_cases : (P : Spelled → Type 0) (depth at c : ℕ) (rest : List ℕ) → P (escaped rest) → P (starred rest) → P (single a_part.One) → P (bracketed at rest) → ((c == 123) ≡ true → P (single (a_part.Open at)))
    → P (single a_part.Comma) → ((c == 125 && nat_lt 0 depth) ≡ true → P (single a_part.Close)) → P (single (a_part.Literal c)) → P (spelled depth at c rest)
spelled_cases P depth at c rest slash star one class opens comma closes literal =
    if_cases P (c == 92) _ _ (λ _. slash) (λ _.
    if_cases P (c == 42) _ _ (λ _. star) (λ _.
    if_cases P (c == 63) _ _ (λ _. one) (λ _.
    if_cases P (c == 91) _ _ (λ _. class) (λ _.
    if_cases P (c == 123) _ _ opens (λ _.
    if_cases P (c == 44 && nat_lt 0 depth) _ _ (λ _. comma) (λ _.
    if_cases P (c == 125 && nat_lt 0 depth) _ _ closes (λ _. literal)))))))

ranges_few : (n at : ℕ) (text : List ℕ) → length (ranges_from n at text) ≤ length text
unfolding ranges_from
ranges_few n at [] = omega arith
ranges_few zero at (c ∷ text) = omega (arith, ranges_few (range_more text) (at + 1) text)
ranges_few (suc n) at (c ∷ text) = omega (arith, ranges_few n (at + 1) text)

-- within the text: so many parts at most as characters, and no more characters than there are
pub record IsWithin (rest : List ℕ) (s : Spelled) : Type 0 where
  pub few : length s.parts ≤ s.more + 1
  pub there : s.more ≤ length rest

single_within : (rest : List ℕ) (part : Part) → IsWithin rest (single part)
single_within rest part = record { few = omega arith; there = omega arith }

escaped_within : (rest : List ℕ) → IsWithin rest (escaped rest)
escaped_within [] = single_within [] (a_part.Literal 92)
escaped_within (c ∷ rest) = record { few = omega arith; there = omega arith }

begins_some : (x : ℕ) (text : List ℕ) → begins x text ≡ true → 1 ≤ length text
begins_some x [] h = absurd (false≢true h)
begins_some x (c ∷ text) h = omega arith

starred_within : (rest : List ℕ) → IsWithin rest (starred rest)
starred_within rest =
    if_cases (IsWithin rest) (begins 42 rest) _ _
    (λ one. if_cases (IsWithin rest) (begins 47 (drop 1 rest)) _ _
    (λ two. record { few = omega arith; there = omega (arith, begins_some 47 (drop 1 rest) two, length-drop 1 rest) })
    (λ _. record { few = omega arith; there = begins_some 42 rest one }))
    (λ _. single_within rest a_part.Star)

-- a class ends within the text
members_from : (first : ℕ) (rest : List ℕ) (p : Option ℕ) (n : ℕ) → position (λ c. c == 93) rest ≡ p → option_map (λ k. k + 1) p ≡ Some n → n < length (first ∷ rest)
members_from first rest None n found h = absurd (cc h)
members_from first rest (Some k) n found h =
    let within = (position-Some (λ c. c == 93) rest k 0 found).0 in
    let same : k + 1 ≡ n = cc h in
    omega arith

pub members_within : (text : List ℕ) (n : ℕ) → members text ≡ Some n → n < length text
members_within [] n h = absurd (cc h)
members_within (first ∷ rest) n h = members_from first rest (position (λ c. c == 93) rest) n refl h

bracket_within : (negated : Bool) (at skipped : ℕ) (rest text : List ℕ) (m : Option ℕ) → members text ≡ m → skipped + length text ≤ length rest → IsWithin rest (bracket negated at skipped text m)
bracket_within negated at skipped rest text None found room = single_within rest (a_part.Literal 91)
bracket_within negated at skipped rest text (Some n) found room =
    let within = members_within text n found in
    record {
      few = omega (arith, ranges_few 0 at (take n text), length-take n text);
      there = omega arith;
    }

bracketed_within : (at : ℕ) (rest : List ℕ) → IsWithin rest (bracketed at rest)
bracketed_within at rest =
    if_cases (IsWithin rest) (begins 33 rest) _ _
    (λ one. bracket_within true (at + 2) 1 rest (drop 1 rest) (members (drop 1 rest)) refl (omega (arith, begins_some 33 rest one, length-drop 1 rest)))
    (λ _. bracket_within false (at + 1) 0 rest rest (members rest) refl (omega arith))

pub spelled_within : (depth at c : ℕ) (rest : List ℕ) → IsWithin rest (spelled depth at c rest)
spelled_within depth at c rest =
    spelled_cases (IsWithin rest) depth at c rest (escaped_within rest) (starred_within rest) (single_within rest a_part.One) (bracketed_within at rest) (λ _. single_within rest (a_part.Open at))
    (single_within rest a_part.Comma) (λ _. single_within rest a_part.Close) (single_within rest (a_part.Literal c))

pub parts_few : (n depth at : ℕ) (text : List ℕ) → length (parts_from n depth at text) ≤ length text - n
unfolding parts_from
parts_few n depth at [] = omega arith
parts_few zero depth at (c ∷ rest) =
    let s : Spelled = spelled depth at c rest in
    let within = spelled_within depth at c rest in
    omega (arith, within.few, within.there, parts_few s.more (depth_after depth c) (at + 1) rest, length-append s.parts (parts_from s.more (depth_after depth c) (at + 1) rest))
parts_few (suc n) depth at (c ∷ rest) = omega (arith, parts_few n depth (at + 1) rest)

-- of parts that are no braces
ranges_plain : (n at : ℕ) (text : List ℕ) (tail : List Part) → closers (ranges_from n at text ++ tail) ≡ closers tail
unfolding ranges_from
ranges_plain n at [] tail = refl
ranges_plain zero at (c ∷ text) tail = ranges_plain (range_more text) (at + 1) text tail
ranges_plain (suc n) at (c ∷ text) tail = ranges_plain n (at + 1) text tail

escaped_plain : (rest : List ℕ) (tail : List Part) → closers ((escaped rest).parts ++ tail) ≡ closers tail
escaped_plain [] tail = refl
escaped_plain (c ∷ rest) tail = refl

starred_plain : (rest : List ℕ) (tail : List Part) → closers ((starred rest).parts ++ tail) ≡ closers tail
starred_plain rest tail =
    let P : Spelled → Type 0 = λ s. closers (s.parts ++ tail) ≡ closers tail in
    if_cases P (begins 42 rest) _ _ (λ _. if_cases P (begins 47 (drop 1 rest)) _ _ (λ _. refl) (λ _. refl)) (λ _. refl)

bracket_plain : (negated : Bool) (at skipped : ℕ) (text : List ℕ) (m : Option ℕ) (tail : List Part) → closers ((bracket negated at skipped text m).parts ++ tail) ≡ closers tail
bracket_plain negated at skipped text None tail = refl
bracket_plain negated at skipped text (Some n) tail = ranges_plain 0 at (take n text) tail

bracketed_plain : (at : ℕ) (rest : List ℕ) (tail : List Part) → closers ((bracketed at rest).parts ++ tail) ≡ closers tail
bracketed_plain at rest tail =
    let P : Spelled → Type 0 = λ s. closers (s.parts ++ tail) ≡ closers tail in
    if_cases P (begins 33 rest) _ _ (λ _. bracket_plain true (at + 2) 1 (drop 1 rest) (members (drop 1 rest)) tail) (λ _. bracket_plain false (at + 1) 0 rest (members rest) tail)

close_after : (depth c : ℕ) → (c == 125 && nat_lt 0 depth) ≡ true → (depth_after depth c ≡ depth - 1) × (0 < depth)
close_after depth c h =
    let same : c ≡ 125 = eqb-true c 125 (and_first (c == 125) (nat_lt 0 depth) h) in
    (ap (depth_after depth) same, ltb-true 0 depth (and_second (c == 125) (nat_lt 0 depth) h))

plain_after : (depth c : ℕ) → (c == 123) ≡ false → depth_after depth c ≤ depth
plain_after depth c h = after_of (c == 123) (c == 125) depth h

-- each `}` stands behind its `{`
pub closed_step : (depth at c : ℕ) (rest : List ℕ) (tail : List Part) → closers tail ≤ depth_after depth c → closers ((spelled depth at c rest).parts ++ tail) ≤ depth
closed_step depth at c rest tail h = by_open (c == 123) refl
  where
    by_open : (b : Bool) → (c == 123) ≡ b → closers ((spelled depth at c rest).parts ++ tail) ≤ depth
    by_open true e =
        let same : c ≡ 123 = eqb-true c 123 e in
        let room : closers tail ≤ depth + 1 = subst (λ d. closers tail ≤ depth_after depth d) same h in
        let Q : ℕ → Type 0 = λ d. closers ((spelled depth at d rest).parts ++ tail) ≤ depth in
        subst Q (sym same) (omega arith)
    by_open false e =
        let less = plain_after depth c e in
        let Q : Spelled → Type 0 = λ s. closers (s.parts ++ tail) ≤ depth in
        spelled_cases Q depth at c rest (omega (arith, escaped_plain rest tail)) (omega (arith, starred_plain rest tail)) (omega arith) (omega (arith, bracketed_plain at rest tail))
        (λ o. absurd (false≢true (sym e ∙ o))) (omega arith) (λ o. let after = close_after depth c o in omega (arith, after.0, after.1)) (omega arith)

pub closed : (n depth at : ℕ) (text : List ℕ) → closers (parts_from n depth at text) ≤ depth
unfolding parts_from
closed n depth at [] = omega arith
closed zero depth at (c ∷ rest) = closed_step depth at c rest _ (closed (spelled depth at c rest).more (depth_after depth c) (at + 1) rest)
closed (suc n) depth at (c ∷ rest) = closed n depth (at + 1) rest
