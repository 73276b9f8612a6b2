-- A text whose parts have no fault spells a glob by the rules, the one that is read, and no other.
use Rattle.std.proofs.Common.{◌≡◌, ℕ, zero, suc, ◌+◌, ◌-◌, ◌<◌, ◌≤◌, Bool, true, false, cond, ◌||◌, ◌⊎◌, inl, inr, ◌==◌, List, [], ◌∷◌, ◌++◌, drop, length, chars, Option, Some, None, nat_lt, refl, sym, ap, subst, ◌∙◌, arith, eqb-true, length-append}
use Rattle.std.proofs.lemmas.Bool.{cases_Bool, eqb-false, ltb-false, or_from, false≢true}
use Rattle.hg_glob.specs.Pattern.{Pattern, Choices, Span, empty, literal, one, listed, star, any, slashes, braces, last, choice}
use Rattle.hg_glob.specs.Part.{Reading, glob_of, parts_from, parts_of, ranges, ranges_from, range_more, reading}
use Rattle.hg_glob.specs.Refusal.{bytes_before, closers, first_fault, or_else, refusal, reversed, unclosed}
use Rattle.hg_glob.specs.Syntax.{AreMembers, BeginsWith, IsClass, IsItself, IsSpelled, Spells, SpellsChoices, is_sign}
use Rattle.hg_glob.specs.declared.fault.GlobFault.{GlobFault}
use Rattle.hg_glob.specs.declared.fault.GlobFault.TheVariants as a_fault
use Rattle.hg_glob.specs.declared.part.Part.{Part}
use Rattle.hg_glob.specs.declared.part.Part.TheVariants as a_part
use Rattle.hg_glob.proofs.Bounds.{closed}
use Rattle.hg_glob.proofs.Classes.{bracket_alone, bracket_cases, class_parts, place_of}
use Rattle.hg_glob.proofs.Constructs.{Begun, any_parts, close_parts, comma_parts, inside, itself_parts, one_parts, open_parts, slashes_parts, star_parts}
use Rattle.hg_glob.proofs.Faults.{refusal_within}
use Rattle.hg_glob.proofs.Grown.{Ends, IsQuiet, glob_made, literal_quiet, no_range, range_quiet}
use Rattle.hg_glob.proofs.Spelled.{parts_end, ranges_end, ranges_step}

-- ---- parts without a fault, in so many open braces

record IsClean (depth : ℕ) (parts : List Part) : Type 0 where
  closers_are : closers parts ≡ depth
  unclosed_is : unclosed parts ≡ None
  reversed_is : reversed parts ≡ None

clean_past : (depth : ℕ) (part : Part) (all parts : List Part) → IsQuiet part → all ≡ part ∷ parts → IsClean depth all → IsClean depth parts
clean_past depth part all parts quiet is clean = record {
  closers_are = sym (quiet.closes (closers parts)) ∙ sym (ap closers is) ∙ clean.closers_are;
  unclosed_is = sym (quiet.opens (closers parts) (unclosed parts)) ∙ sym (ap unclosed is) ∙ clean.unclosed_is;
  reversed_is = sym (ap (λ v. or_else v (reversed parts)) quiet.ordered) ∙ sym (ap reversed is) ∙ clean.reversed_is;
}

some_not : {A : Type 0} (a : A) → Some a ≡ None → ⊥
some_not a h = cc h

open_some : (at n : ℕ) (b : Bool) (behind : Option ℕ) → (n == 0) ≡ b → cond b (Some at) behind ≡ None → (n ≡ 0 → ⊥) × (behind ≡ None)
open_some at n true behind is h = absurd (some_not at h)
open_some at n false behind is h = (eqb-false n 0 is, h)

clean_open : (depth at : ℕ) (all parts : List Part) → all ≡ a_part.Open at ∷ parts → IsClean depth all → IsClean (suc depth) parts
clean_open depth at all parts is clean =
    let (some, none) = open_some at (closers parts) (closers parts == 0) (unclosed parts) refl (sym (ap unclosed is) ∙ clean.unclosed_is) in
    let less : closers parts - 1 ≡ depth = sym (ap closers is) ∙ clean.closers_are in
    record { closers_are = omega (arith, less, some); unclosed_is = none; reversed_is = sym (ap reversed is) ∙ clean.reversed_is }

clean_close : (depth : ℕ) (all parts : List Part) → all ≡ a_part.Close ∷ parts → IsClean (suc depth) all → IsClean depth parts
clean_close depth all parts is clean =
    let more : closers parts + 1 ≡ suc depth = sym (ap closers is) ∙ clean.closers_are in
    record { closers_are = omega (arith, more); unclosed_is = sym (ap unclosed is) ∙ clean.unclosed_is; reversed_is = sym (ap reversed is) ∙ clean.reversed_is }

-- ---- what a class lists

range_ordered : (at low high : ℕ) (b : Bool) (behind : Option ℕ) → nat_lt high low ≡ b → or_else (cond b (Some at) None) behind ≡ None → low ≤ high
range_ordered at low high true behind is h = absurd (some_not at h)
range_ordered at low high false behind is h = ltb-false high low is

record Members (depth : ℕ) (members : List ℕ) (behind : List Part) : Type 0 where
  spans : List Span
  are : AreMembers members spans
  clean : IsClean depth behind

-- a character that is listed by itself, and a range
single_past : (depth place low : ℕ) (rest : List ℕ) (behind : List Part) → ((high : ℕ) (more : List ℕ) → rest ≡ 45 ∷ high ∷ more → ⊥) → IsClean depth (ranges_from 0 place (low ∷ rest) ++ behind)
    → (to : ℕ) × IsClean depth (ranges_from 0 to rest ++ behind)
single_past depth place low rest behind none clean =
    let (high, more) = no_range low rest none in
    let to : ℕ = place + (1 + 0) in
    let split : ranges_from 0 place (low ∷ rest) ++ behind ≡ a_part.Range place low low ∷ (ranges_from 0 to rest ++ behind) =
    ap (λ v. v ++ behind) (ranges_step place low rest ∙ ap (λ h. a_part.Range place low h ∷ ranges_from 0 (place + (1 + range_more rest)) (drop (range_more rest) rest)) high
    ∙ ap (λ n. a_part.Range place low low ∷ ranges_from 0 (place + (1 + n)) (drop n rest)) more) in
    (to, clean_past depth (a_part.Range place low low) (ranges_from 0 place (low ∷ rest) ++ behind) (ranges_from 0 to rest ++ behind) (range_quiet place low low (omega arith)) split clean)

range_past : (depth place low high : ℕ) (rest : List ℕ) (behind : List Part) → IsClean depth (ranges_from 0 place (low ∷ 45 ∷ high ∷ rest) ++ behind)
    → (low ≤ high) × ((to : ℕ) × IsClean depth (ranges_from 0 to rest ++ behind))
range_past depth place low high rest behind clean =
    let to : ℕ = place + (1 + 2) in
    let all : List Part = ranges_from 0 place (low ∷ 45 ∷ high ∷ rest) ++ behind in
    let parts : List Part = ranges_from 0 to rest ++ behind in
    let split : all ≡ a_part.Range place low high ∷ parts = ap (λ v. v ++ behind) (ranges_step place low (45 ∷ high ∷ rest)) in
    let ordered : low ≤ high = range_ordered place low high (nat_lt high low) (reversed parts) refl (sym (ap reversed split) ∙ clean.reversed_is) in
    (ordered, (to, clean_past depth (a_part.Range place low high) all parts (range_quiet place low high ordered) split clean))

single_on : (depth low : ℕ) (rest : List ℕ) (behind : List Part) → ((high : ℕ) (more : List ℕ) → rest ≡ 45 ∷ high ∷ more → ⊥) → Members depth rest behind → Members depth (low ∷ rest) behind
single_on depth low rest behind none m = record { spans = record { low = low; high = low } ∷ m.spans; are = (rest, inr (refl, refl, none), m.are); clean = m.clean }

range_on : (depth low dash high : ℕ) (rest : List ℕ) (behind : List Part) → dash ≡ 45 → low ≤ high → Members depth rest behind → Members depth (low ∷ dash ∷ high ∷ rest) behind
range_on depth low dash high rest behind same ordered m =
    record { spans = record { low = low; high = high } ∷ m.spans; are = (rest, inl (ap (λ d. low ∷ d ∷ high ∷ rest) same, ordered), m.are); clean = m.clean }

members_of : (n depth place : ℕ) (members : List ℕ) (behind : List Part) → length members ≤ n → IsClean depth (ranges_from 0 place members ++ behind) → Members depth members behind
members_of n depth place [] behind few clean = record { spans = []; are = refl; clean = subst (λ v. IsClean depth (v ++ behind)) (ranges_end place) clean }
members_of zero depth place (low ∷ rest) behind few clean = absurd (omega (arith, few))
members_of (suc n) depth place (low ∷ []) behind few clean =
    let none : (high : ℕ) (more : List ℕ) → [] ≡ 45 ∷ high ∷ more → ⊥ = λ high more h. cc h in
    let (to, next) = single_past depth place low [] behind none clean in
    single_on depth low [] behind none (members_of n depth to [] behind (omega arith) next)
members_of (suc n) depth place (low ∷ dash ∷ []) behind few clean =
    let none : (high : ℕ) (more : List ℕ) → dash ∷ [] ≡ 45 ∷ high ∷ more → ⊥ = λ high more h. cc h in
    let (to, next) = single_past depth place low (dash ∷ []) behind none clean in
    single_on depth low (dash ∷ []) behind none (members_of n depth to (dash ∷ []) behind (omega (arith, few)) next)
members_of (suc n) depth place (low ∷ dash ∷ high ∷ rest) behind few clean = elim (cases_Bool (dash == 45)) [
  | inl h ↦
      let same : dash ≡ 45 = eqb-true dash 45 h in
      let (ordered, (to, next)) = range_past depth place low high rest behind (subst (λ d. IsClean depth (ranges_from 0 place (low ∷ d ∷ high ∷ rest) ++ behind)) same clean) in
      range_on depth low dash high rest behind same ordered (members_of n depth to rest behind (omega (arith, few)) next)
  | inr h ↦
      let none : (x : ℕ) (more : List ℕ) → dash ∷ high ∷ rest ≡ 45 ∷ x ∷ more → ⊥ = λ x more e. eqb-false dash 45 h (cc e) in
      let (to, next) = single_past depth place low (dash ∷ high ∷ rest) behind none clean in
      single_on depth low (dash ∷ high ∷ rest) behind none (members_of n depth to (dash ∷ high ∷ rest) behind (omega (arith, few)) next)
]

-- ---- one construct in front

-- a construct of a glob stands in front of a shorter text whose parts are clean
record Step (depth : ℕ) (text : List ℕ) : Type 0 where
  rest : List ℕ
  to : ℕ
  put : Pattern → Pattern
  rule : (g : Pattern) (left : List ℕ) → Spells (inside depth) rest g left → Spells (inside depth) text (put g) left
  shorter : length rest < length text
  clean : IsClean depth (parts_from 0 depth to rest)

step_of : (depth at : ℕ) (text rest : List ℕ) (part : Part) (put : Pattern → Pattern) → IsQuiet part → Begun depth at text part depth rest
    → ((g : Pattern) (left : List ℕ) → Spells (inside depth) rest g left → Spells (inside depth) text (put g) left) → length rest < length text → IsClean depth (parts_from 0 depth at text) → Step depth text
step_of depth at text rest part put quiet begun rule shorter clean =
    record { rest = rest; to = begun.to; put = put; rule = rule; shorter = shorter; clean = clean_past depth part (parts_from 0 depth at text) (parts_from 0 depth begun.to rest) quiet begun.is clean }

itself_step : (depth at c : ℕ) (text rest : List ℕ) → IsItself (inside depth) c text rest → length rest < length text → IsClean depth (parts_from 0 depth at text) → Step depth text
itself_step depth at c text rest is shorter clean =
    step_of depth at text rest (a_part.Literal c) (literal c) (literal_quiet c) (itself_parts depth at c text rest is) (λ g left s. (rest, is, s)) shorter clean

slash_step : (depth at : ℕ) (rest : List ℕ) → IsClean depth (parts_from 0 depth at (92 ∷ rest)) → Step depth (92 ∷ rest)
slash_step depth at [] clean = itself_step depth at 92 (92 ∷ []) [] (inr (inl (refl, refl, refl))) (omega arith) clean
slash_step depth at (c ∷ rest) clean = itself_step depth at c (92 ∷ c ∷ rest) rest (inl refl) (omega arith) clean

star_step : (depth at : ℕ) (rest : List ℕ) → (BeginsWith 42 rest → ⊥) → IsClean depth (parts_from 0 depth at (42 ∷ rest)) → Step depth (42 ∷ rest)
star_step depth at rest other clean =
    step_of depth at (42 ∷ rest) rest a_part.Star star (record { closes = λ n. refl; opens = λ n b. refl; ordered = refl }) (star_parts depth at (42 ∷ rest) rest refl other) (λ g left s. (rest, refl, other, s)) (omega arith) clean

any_step : (depth at : ℕ) (rest : List ℕ) → (BeginsWith 47 rest → ⊥) → IsClean depth (parts_from 0 depth at (42 ∷ 42 ∷ rest)) → Step depth (42 ∷ 42 ∷ rest)
any_step depth at rest other clean =
    step_of depth at (42 ∷ 42 ∷ rest) rest a_part.Any any (record { closes = λ n. refl; opens = λ n b. refl; ordered = refl }) (any_parts depth at (42 ∷ 42 ∷ rest) rest refl other) (λ g left s. (rest, refl, other, s)) (omega arith) clean

slashes_step : (depth at : ℕ) (rest : List ℕ) → IsClean depth (parts_from 0 depth at (42 ∷ 42 ∷ 47 ∷ rest)) → Step depth (42 ∷ 42 ∷ 47 ∷ rest)
slashes_step depth at rest clean =
    step_of depth at (42 ∷ 42 ∷ 47 ∷ rest) rest a_part.Slashes slashes (record { closes = λ n. refl; opens = λ n b. refl; ordered = refl }) (slashes_parts depth at (42 ∷ 42 ∷ 47 ∷ rest) rest refl) (λ g left s. (rest, refl, s)) (omega arith) clean

-- a text begins with the character, or it doesn't
first_is : (x : ℕ) (text : List ℕ) → BeginsWith x text ⊎ (BeginsWith x text → ⊥)
first_is x [] = inr (λ b. cc b.1)
first_is x (c ∷ text) = elim (cases_Bool (c == x)) [
  | inl h ↦ inl (text, ap (λ v. v ∷ text) (eqb-true c x h))
  | inr h ↦ inr (λ b. eqb-false c x h (cc b.1))
]

stars_step : (depth at : ℕ) (rest : List ℕ) → IsClean depth (parts_from 0 depth at (42 ∷ rest)) → Step depth (42 ∷ rest)
stars_step depth at rest clean = elim (first_is 42 rest) [
  | inr other ↦ star_step depth at rest other clean
  | inl (more, is) ↦
      let P : List ℕ → Type 0 = λ v. Step depth (42 ∷ v) in
      let Q : List ℕ → Type 0 = λ v. IsClean depth (parts_from 0 depth at (42 ∷ v)) in
      subst P (sym is) (elim (first_is 47 more) [
        | inr other ↦ any_step depth at more other (subst Q is clean)
        | inl (end, same) ↦ subst (λ v. Step depth (42 ∷ 42 ∷ v)) (sym same) (slashes_step depth at end (subst Q (is ∙ ap (λ v. 42 ∷ v) same) clean))
      ])
]

class_shorter : (negated : Bool) (text members rest : List ℕ) → IsClass negated text members rest → length rest < length text
class_shorter true text members rest class = omega (arith, ap length class.1, length-append members (93 ∷ rest))
class_shorter false text members rest class = omega (arith, ap length class.2, length-append members (93 ∷ rest))

bracket_step : (depth at : ℕ) (rest : List ℕ) → IsClean depth (parts_from 0 depth at (91 ∷ rest)) → Step depth (91 ∷ rest)
bracket_step depth at rest clean = elim (bracket_cases at rest) [
  | inr alone ↦ itself_step depth at 91 (91 ∷ rest) rest (inr (inr (inl (refl, refl, bracket_alone at rest alone)))) (omega arith) clean
  | inl (negated, members, behind, class) ↦
      let (to, is) = class_parts negated depth at (91 ∷ rest) members behind class in
      let parts : List Part = parts_from 0 depth to behind in
      let place : ℕ = place_of negated at in
      let list : List Part = ranges place members ++ parts in
      let found = members_of (length members) depth place members parts (omega arith)
      (clean_past depth (a_part.Class negated) (parts_from 0 depth at (91 ∷ rest)) list (record { closes = λ n. refl; opens = λ n b. refl; ordered = refl }) is clean) in
      record {
        rest = behind;
        to = to;
        put = listed negated found.spans;
        rule = λ g left s. (members, behind, class, found.are, s);
        shorter = class_shorter negated (91 ∷ rest) members behind class;
        clean = found.clean;
      }
]

-- the constructs that begin or end a choice
abbrev Found : ℕ → List ℕ → Type 0
Found depth text =
    Step depth text ⊎ (((rest : List ℕ) × (text ≡ 123 ∷ rest)) ⊎ (((inside depth ≡ true) × ((rest : List ℕ) × (text ≡ 44 ∷ rest))) ⊎ ((inside depth ≡ true) × ((rest : List ℕ) × (text ≡ 125 ∷ rest)))))

comma_found : (depth at : ℕ) (rest : List ℕ) → IsClean depth (parts_from 0 depth at (44 ∷ rest)) → Found depth (44 ∷ rest)
comma_found depth at rest clean = elim (cases_Bool (inside depth)) [
  | inl within ↦ inr (inr (inl (within, (rest, refl))))
  | inr out ↦ inl (itself_step depth at 44 (44 ∷ rest) rest (inr (inr (inr (inl (out, inl refl, refl))))) (omega arith) clean)
]

close_found : (depth at : ℕ) (rest : List ℕ) → IsClean depth (parts_from 0 depth at (125 ∷ rest)) → Found depth (125 ∷ rest)
close_found depth at rest clean = elim (cases_Bool (inside depth)) [
  | inl within ↦ inr (inr (inr (within, (rest, refl))))
  | inr out ↦ inl (itself_step depth at 125 (125 ∷ rest) rest (inr (inr (inr (inl (out, inr refl, refl))))) (omega arith) clean)
]

-- a character is that one, or another one
by_char : (P : ℕ → Type 0) (c x : ℕ) → P x → ((c == x) ≡ false → P c) → P c
by_char P c x same other = elim (cases_Bool (c == x)) [
  | inl h ↦ subst P (sym (eqb-true c x h)) same
  | inr h ↦ other h
]

found : (depth at c : ℕ) (rest : List ℕ) → IsClean depth (parts_from 0 depth at (c ∷ rest)) → Found depth (c ∷ rest)
found depth at c rest =
    let P : ℕ → Type 0 = λ v. IsClean depth (parts_from 0 depth at (v ∷ rest)) → Found depth (v ∷ rest) in
    let one_step : P 63 = λ clean. inl (step_of depth at (63 ∷ rest) rest a_part.One one (record { closes = λ n. refl; opens = λ n b. refl; ordered = refl }) (one_parts depth at (63 ∷ rest) rest refl) (λ g left s. (rest, refl, s)) (omega arith) clean) in
    by_char P c 92 (λ clean. inl (slash_step depth at rest clean)) (λ slash.
    by_char P c 42 (λ clean. inl (stars_step depth at rest clean)) (λ star_is.
    by_char P c 63 one_step (λ mark.
    by_char P c 91 (λ clean. inl (bracket_step depth at rest clean)) (λ bracket.
    by_char P c 123 (λ clean. inr (inl (rest, refl))) (λ brace.
    by_char P c 44 (comma_found depth at rest) (λ comma.
    by_char P c 125 (close_found depth at rest) (λ close clean.
    let none : is_sign c ≡ false =
    or_from (c == 92 || c == 42 || c == 63 || c == 91 || c == 123 || c == 44) (c == 125)
    (or_from (c == 92 || c == 42 || c == 63 || c == 91 || c == 123) (c == 44)
    (or_from (c == 92 || c == 42 || c == 63 || c == 91) (c == 123) (or_from (c == 92 || c == 42 || c == 63) (c == 91) (or_from (c == 92 || c == 42) (c == 63) (or_from (c == 92) (c == 42) slash star_is) mark) bracket) brace) comma) close in
    inl (itself_step depth at c (c ∷ rest) rest (inr (inr (inr (inr (none, refl))))) (omega arith) clean))))))))

-- ---- the whole text

-- outside braces the text spells a glob; inside them it goes on with choices, and behind their `}` so does the rest
abbrev GoesOn : ℕ → List ℕ → Type 0
GoesOn zero text = (g : Pattern) × Spells false text g []
GoesOn (suc depth) text = (choices : Choices) × (rest : List ℕ) × SpellsChoices text choices rest × GoesOn depth rest

goes_in_front : (depth : ℕ) (text rest : List ℕ) (put : Pattern → Pattern) → ((g : Pattern) (left : List ℕ) → Spells (inside depth) rest g left → Spells (inside depth) text (put g) left) → GoesOn depth rest → GoesOn depth text
goes_in_front zero text rest put rule (g, s) = (put g, rule g [] s)
goes_in_front (suc depth) text rest put rule (last g, end, s, on) = (last (put g), end, rule g (125 ∷ end) s, on)
goes_in_front (suc depth) text rest put rule (choice g choices, end, (more, s, c), on) = (choice (put g) choices, end, (more, rule g (44 ∷ more) s, c), on)

ends_here : (depth : ℕ) → zero ≡ depth → GoesOn depth []
ends_here zero h = (empty, refl)
ends_here (suc depth) h = absurd (omega (arith, h))

-- what is so of each shorter text
abbrev Below : ℕ → Type 0
Below n = (depth at : ℕ) (text : List ℕ) → length text ≤ n → IsClean depth (parts_from 0 depth at text) → GoesOn depth text

goes_open : (n depth at : ℕ) (text rest : List ℕ) → text ≡ 123 ∷ rest → length rest ≤ n → IsClean depth (parts_from 0 depth at text) → Below n → GoesOn depth text
goes_open n depth at text rest is few clean below =
    let begun = open_parts depth at text rest is in
    let (choices, end, c, on) = below (suc depth) begun.to rest few (clean_open depth at (parts_from 0 depth at text) (parts_from 0 (suc depth) begun.to rest) begun.is clean) in
    goes_in_front depth text end (braces choices) (λ g left s. (rest, end, is, c, s)) on

goes_comma : (n depth at : ℕ) (text rest : List ℕ) → inside depth ≡ true → text ≡ 44 ∷ rest → length rest ≤ n → IsClean depth (parts_from 0 depth at text) → Below n → GoesOn depth text
goes_comma n zero at text rest within is few clean below = absurd (false≢true within)
goes_comma n (suc depth) at text rest within is few clean below =
    let begun = comma_parts depth at text rest is in
    let quiet : IsQuiet a_part.Comma = record { closes = λ k. refl; opens = λ k b. refl; ordered = refl } in
    let (choices, end, c, on) = below (suc depth) begun.to rest few (clean_past (suc depth) a_part.Comma (parts_from 0 (suc depth) at text) (parts_from 0 (suc depth) begun.to rest) quiet begun.is clean) in
    (choice empty choices, end, (rest, is, c), on)

goes_close : (n depth at : ℕ) (text rest : List ℕ) → inside depth ≡ true → text ≡ 125 ∷ rest → length rest ≤ n → IsClean depth (parts_from 0 depth at text) → Below n → GoesOn depth text
goes_close n zero at text rest within is few clean below = absurd (false≢true within)
goes_close n (suc depth) at text rest within is few clean below =
    let begun = close_parts depth at text rest is in
    (last empty, rest, is, below depth begun.to rest few (clean_close depth (parts_from 0 (suc depth) at text) (parts_from 0 depth begun.to rest) begun.is clean))

goes_on : (n : ℕ) → Below n
goes_on n depth at [] few clean = ends_here depth (sym (ap closers (parts_end depth at)) ∙ clean.closers_are)
goes_on zero depth at (c ∷ rest) few clean = absurd (omega (arith, few))
goes_on (suc n) depth at (c ∷ rest) few clean = elim (found depth at c rest clean) [
  | inl step ↦ goes_in_front depth (c ∷ rest) step.rest step.put step.rule (goes_on n depth step.to step.rest (omega (arith, few, step.shorter)) step.clean)
  | inr (inl (more, is)) ↦ goes_open n depth at (c ∷ rest) more is (omega (arith, few, ap length is)) clean (goes_on n)
  | inr (inr (inl (within, (more, is)))) ↦ goes_comma n depth at (c ∷ rest) more within is (omega (arith, few, ap length is)) clean (goes_on n)
  | inr (inr (inr (within, (more, is)))) ↦ goes_close n depth at (c ∷ rest) more within is (omega (arith, few, ap length is)) clean (goes_on n)
]

-- ---- the laws

nothing_left : Ends 0 []
nothing_left = record { pattern = λ to. ap (λ ps. (reading ps).pattern) (parts_end 0 to); spans = λ to. ap (λ ps. (reading ps).spans) (parts_end 0 to) }

pub spelled_is : (text : List ℕ) (g : Pattern) → IsSpelled text g → g ≡ glob_of text
spelled_is text g s = sym (ap (λ (r : Reading). r.pattern) (glob_made g 0 0 text [] s nothing_left).grown.is)

pub one_glob : (text : List ℕ) (a b : Pattern) → IsSpelled text a → IsSpelled text b → a ≡ b
one_glob text a b s t = spelled_is text a s ∙ sym (spelled_is text b t)

fault_none : (text : List ℕ) (brace range : Option ℕ) → first_fault text brace range ≡ None → (brace ≡ None) × (range ≡ None)
fault_none text None None h = (refl, refl)
fault_none text (Some brace) None h = absurd (cc h)
fault_none text None (Some range) h = absurd (cc h)
fault_none text (Some brace) (Some range) h = two (nat_lt brace range) h
  where
    two : (b : Bool) → cond b (Some (a_fault.Unbalanced (bytes_before brace text))) (Some (a_fault.Range (bytes_before range text))) ≡ None → (Some brace ≡ None) × (Some range ≡ None)
    two true h = absurd (cc h)
    two false h = absurd (cc h)

within_length : (text : List ℕ) (b : Bool) (fault : Option GlobFault) → cond b (Some (a_fault.TooLong (length text))) fault ≡ None → fault ≡ None
within_length text true fault h = absurd (cc h)
within_length text false fault h = h

pub is_spelled : (text : List ℕ) → refusal text ≡ None → IsSpelled (chars text) (glob_of (chars text))
is_spelled text fine =
    let cs : List ℕ = chars text in
    let parts : List Part = parts_of cs in
    let (brace, range) = fault_none cs (unclosed parts) (reversed parts) (within_length text (nat_lt 4095 (length text)) (first_fault cs (unclosed parts) (reversed parts)) fine) in
    let clean : IsClean 0 parts = record { closers_are = omega (arith, closed 0 0 0 cs); unclosed_is = brace; reversed_is = range } in
    let (g, s) = goes_on (length cs) 0 0 cs (omega arith) clean in
    subst (λ v. IsSpelled cs v) (spelled_is cs g s) s

pub refused_for_length : (text : List ℕ) (g : Pattern) → IsSpelled (chars text) g → length text ≤ 4095 → refusal text ≡ None
refused_for_length text g s few =
    let cs : List ℕ = chars text in
    let made = glob_made g 0 0 cs [] s nothing_left in
    let brace : unclosed (parts_of cs) ≡ None = made.grown.unclosed_is ∙ ap unclosed (parts_end 0 made.to) in
    let range : reversed (parts_of cs) ≡ None = made.grown.reversed_is ∙ ap reversed (parts_end 0 made.to) in
    refusal_within text few ∙ ap (λ b. first_fault cs b (reversed (parts_of cs))) brace ∙ ap (λ r. first_fault cs None r) range
