-- A pass over the parts from the last to the first, in place.
use Rattle.std.proofs.Common.{◌≡◌, ℕ, zero, suc, true, false, cond, ◌+◌, ◌<◌, ◌≤◌, Bool, ◌&&◌, ◌||◌, ◌⊎◌, inl, inr, nat_lt, nat_le, List, [], ◌∷◌, ◌++◌, length, get_or, take, drop, set, Option, refl, sym, ap, subst, ◌∙◌, arith, drop-cons, length-drop, get_or-set_same, get_or-set_other, ltb-true, lt-ltb}
use Rattle.std.proofs.lemmas.Bool.{false≢true, ltb-false, leb-false}
use Rattle.std.proofs.lemmas.List.{set-get_or}
use Rattle.hg_glob.proofs.Turns.{AreShut, step_off, step_shut, or_first, or_second}
use Rattle.std.proofs.lemmas.List.{drop_all}
use Rattle.hg_glob.specs.Row.{first, step, turned, plain, is_end, no_mark, is_marked, IsOff, OffBelow, Stepped, Turned, put, open_step, comma_step}
use Rattle.hg_glob.specs.declared.part.Part.{Part}
use Rattle.hg_glob.specs.declared.part.Part.TheVariants as a_part
use Rattle.hg_glob.specs.declared.mark.Mark.{Mark}
use Rattle.hg_glob.specs.declared.mark.Brace.{Brace}
use Rattle.hg_glob.specs.declared.mark.Going.{Going}

-- the pass has come down to place k
pub record SoFar (inner : Bool) (c : Option ℕ) (parts : List Part) (old : List Mark) (k : ℕ) (marks : List Mark) (going : Going) (next : Mark) (now : Bool) : Type 0 where
  pub place : k ≤ length parts
  pub marks_are : marks ≡ take k old ++ (turned inner c (drop k parts) (drop k old)).marks
  pub going_is : going ≡ (turned inner c (drop k parts) (drop k old)).going
  pub next_is : next ≡ first (drop k old)
  pub now_is : now ≡ (first (turned inner c (drop k parts) (drop k old)).marks).here

open_few : (now hit : Bool) (braces : List Brace) → length (open_step now hit braces).going.braces ≤ length braces + 1
open_few now hit [] = omega arith
open_few now hit (b ∷ braces) = omega arith

comma_few : (now hit : Bool) (braces : List Brace) → length (comma_step now hit braces).going.braces ≤ length braces + 1
comma_few now hit [] = omega arith
comma_few now hit (b ∷ braces) = omega arith

-- a part opens one pair of braces at most
step_few : (c : Option ℕ) (part : Part) (was next : Mark) (now : Bool) (going : Going) → length (step c part was next now going).going.braces ≤ length going.braces + 1
step_few c (a_part.Open at) was next now going = open_few now going.hit going.braces
step_few c a_part.Comma was next now going = comma_few now going.hit going.braces
step_few c _ was next now going = omega arith

turned_few : (inner : Bool) (c : Option ℕ) (parts : List Part) (old : List Mark) → length (turned inner c parts old).going.braces ≤ length parts
unfolding turned
turned_few inner c [] old = omega arith
turned_few inner c (part ∷ parts) old =
    let below = turned inner c parts (drop 1 old) in
    omega (arith, turned_few inner c parts (drop 1 old), step_few c part (first old) (first (drop 1 old)) (first below.marks).here below.going)

turned_more : (inner : Bool) (c : Option ℕ) (part : Part) (parts : List Part) (was : Mark) (old : List Mark) → turned inner c (part ∷ parts) (was ∷ old) ≡ put (turned inner c parts old) (step c part was (first old) (first (turned inner c parts old).marks).here (turned inner c parts old).going)
unfolding turned
turned_more inner c part parts was old = refl

pub few_so_far : {inner : Bool} {c : Option ℕ} {parts : List Part} {old : List Mark} {k : ℕ} {marks : List Mark} {going : Going} {next : Mark} {now : Bool} → SoFar inner c parts old k marks going next now → length going.braces + k ≤ length parts
few_so_far {inner} {c} {parts} {old} {k} {marks} {going} h =
    let e = ap (λ (g : Going). length g.braces) h.going_is in
    omega (arith, h.place, e, turned_few inner c (drop k parts) (drop k old), length-drop k parts)

first_drop : (k : ℕ) (marks : List Mark) → get_or marks k no_mark ≡ first (drop k marks)
first_drop zero [] = refl
first_drop zero (m ∷ marks) = refl
first_drop (suc k) [] = refl
first_drop (suc k) (m ∷ marks) = first_drop k marks

set_before : (j : ℕ) (old tail : List Mark) (v : Mark) → j < length old → set (take (suc j) old ++ tail) j v ≡ take j old ++ v ∷ tail
set_before j [] tail v h = absurd (omega arith)
set_before zero (o ∷ old) tail v h = refl
set_before (suc j) (o ∷ old) tail v h = ap (λ (xs : List Mark). o ∷ xs) (set_before j old tail v (omega arith))

get_before : (j : ℕ) (old tail : List Mark) → j < length old → get_or (take (suc j) old ++ tail) j no_mark ≡ get_or old j no_mark
get_before j [] tail h = absurd (omega arith)
get_before zero (o ∷ old) tail h = refl
get_before (suc j) (o ∷ old) tail h = get_before j old tail (omega arith)

set_last : (old : List Mark) (n : ℕ) (v : Mark) → length old ≡ n + 1 → set old n v ≡ take n old ++ v ∷ []
set_last [] n v h = absurd (omega arith)
set_last (o ∷ []) zero v h = refl
set_last (o ∷ p ∷ old) zero v h = absurd (omega arith)
set_last (o ∷ old) (suc n) v h = ap (λ (xs : List Mark). o ∷ xs) (set_last old n v (omega arith))

turned_nil : (inner : Bool) (c : Option ℕ) (old : List Mark) → turned inner c [] old ≡ record { marks = plain (is_end inner c) ∷ []; going = record { hit = false; braces = [] } }
unfolding turned
turned_nil inner c old = refl

-- the pass begins behind the last part
pub so_far_first : (inner : Bool) (c : Option ℕ) (parts : List Part) (old : List Mark) (end : Mark) (braces : List Brace) (now : Bool) → length old ≡ length parts + 1 → now ≡ is_end inner c → end ≡ plain now → braces ≡ []
    → SoFar inner c parts old (length parts) (set old (length parts) end) (record { hit = false; braces = braces }) (get_or old (length parts) no_mark) now
so_far_first inner c parts old end braces now few now_is end_is none =
    let e : turned inner c (drop (length parts) parts) (drop (length parts) old) ≡ record { marks = plain (is_end inner c) ∷ []; going = record { hit = false; braces = [] } } =
    ap (λ ps. turned inner c ps (drop (length parts) old)) (drop_all (length parts) parts (omega arith)) ∙ turned_nil inner c (drop (length parts) old) in
    record {
      place = omega arith;
      marks_are = set_last old (length parts) end few ∙ ap (λ (m : Mark). take (length parts) old ++ m ∷ []) (end_is ∙ ap plain now_is) ∙ ap (λ (t : Turned). take (length parts) old ++ t.marks) (sym e);
      going_is = ap (λ (bs : List Brace). let g : Going = record { hit = false; braces = bs } in g) none ∙ ap (λ (t : Turned). t.going) (sym e);
      next_is = first_drop (length parts) old;
      now_is = now_is ∙ ap (λ (t : Turned). (first t.marks).here) (sym e);
    }

-- the pass comes down by one part
pub so_far_more : (inner : Bool) (c : Option ℕ) (parts : List Part) (old : List Mark) (k j : ℕ) (marks : List Mark) (going : Going) (next : Mark) (now : Bool) (part other : Part) (mark : Mark) (on : Going)
    → SoFar inner c parts old k marks going next now → k ≡ suc j → length old ≡ length parts + 1 → part ≡ get_or parts j other
    → mark ≡ (step c part (get_or marks j no_mark) next now going).mark → on ≡ (step c part (get_or marks j no_mark) next now going).going
    → SoFar inner c parts old j (set marks j mark) on (get_or marks j no_mark) mark.here
so_far_more inner c parts old k j marks going next now part other mark on h at few part_is mark_is on_is =
    let T : Turned = turned inner c (drop (suc j) parts) (drop (suc j) old) in
    let hk : SoFar inner c parts old (suc j) marks going next now = subst (λ n. SoFar inner c parts old n marks going next now) at h in
    let inside : j < length parts = omega (arith, hk.place) in
    let here : get_or marks j no_mark ≡ get_or old j no_mark = ap (λ ms. get_or ms j no_mark) hk.marks_are ∙ get_before j old T.marks (omega arith) in
    let parts_are : drop j parts ≡ part ∷ drop (suc j) parts = drop-cons parts j other inside ∙ ap (λ p. p ∷ drop (suc j) parts) (sym part_is) in
    let old_are : drop j old ≡ get_or old j no_mark ∷ drop (suc j) old = drop-cons old j no_mark (omega arith) in
    let whole : turned inner c (drop j parts) (drop j old) ≡ put T (step c part (get_or old j no_mark) (first (drop (suc j) old)) (first T.marks).here T.going) =
    ap (λ ps. turned inner c ps (drop j old)) parts_are ∙ ap (turned inner c (part ∷ drop (suc j) parts)) old_are ∙ turned_more inner c part (drop (suc j) parts) (get_or old j no_mark) (drop (suc j) old) in
    let stepped_is : step c part (get_or marks j no_mark) next now going ≡ step c part (get_or old j no_mark) (first (drop (suc j) old)) (first T.marks).here T.going =
    ap (λ was. step c part was next now going) here ∙ ap (λ n. step c part (get_or old j no_mark) n now going) hk.next_is
    ∙ ap (λ n. step c part (get_or old j no_mark) (first (drop (suc j) old)) n going) hk.now_is
    ∙ ap (step c part (get_or old j no_mark) (first (drop (suc j) old)) (first T.marks).here) hk.going_is in
    let marked : mark ≡ (step c part (get_or old j no_mark) (first (drop (suc j) old)) (first T.marks).here T.going).mark = mark_is ∙ ap (λ (s : Stepped). s.mark) stepped_is in
    record {
      place = omega arith;
      marks_are = ap (λ ms. set ms j mark) hk.marks_are ∙ set_before j old T.marks mark (omega arith) ∙ ap (λ (m : Mark). take j old ++ m ∷ T.marks) marked ∙ ap (λ (t : Turned). take j old ++ t.marks) (sym whole);
      going_is = on_is ∙ ap (λ (s : Stepped). s.going) stepped_is ∙ ap (λ (t : Turned). t.going) (sym whole);
      next_is = here ∙ first_drop j old;
      now_is = ap (λ (m : Mark). m.here) marked ∙ ap (λ (t : Turned). (first t.marks).here) (sym whole);
    }

-- the pass is done
pub so_far_done : (inner : Bool) (c : Option ℕ) (parts : List Part) (old : List Mark) (k : ℕ) (marks : List Mark) (going : Going) (next : Mark) (now : Bool) → SoFar inner c parts old k marks going next now → k ≡ 0 → marks ≡ (turned inner c parts old).marks
so_far_done inner c parts old k marks going next now h at =
    let h0 : SoFar inner c parts old 0 marks going next now = subst (λ n. SoFar inner c parts old n marks going next now) at h in
    h0.marks_are

below_of : (a b : ℕ) (r : Bool) → nat_lt a b ≡ r → (a < b) ⊎ (b ≤ a)
below_of a b true h = inl (ltb-true a b h)
below_of a b false h = inr (ltb-false a b h)

below_cases : (a b : ℕ) → (a < b) ⊎ (b ≤ a)
below_cases a b = below_of a b (nat_lt a b) refl

le_cases : (a b : ℕ) → a ≤ b → (b ≡ a) ⊎ (a < b)
le_cases a b h = elim (below_cases a b) [ inl less ↦ inr less | inr more ↦ inl (omega arith) ]

and_there : (a b : Bool) → a ≡ true → (a && b) ≡ false → b ≡ false
and_there true b t h = h
and_there false b t h = absurd (false≢true t)

shut_none : (braces : List Brace) → nat_lt 0 (length braces) ≡ false → AreShut braces
shut_none [] h = tt
shut_none (b ∷ braces) h = absurd (false≢true (sym h ∙ lt-ltb 0 (length (b ∷ braces)) (omega arith)))

-- the pass has come down to place k, and from there on nothing is marked in front of `on`
pub record Passing (inner : Bool) (c : Option ℕ) (parts : List Part) (old : List Mark) (k : ℕ) (marks : List Mark) (going : Going) (next : Mark) (now : Bool) (on : ℕ) (lit : Bool) : Type 0 where
  pub so_far : SoFar inner c parts old k marks going next now
  pub below : (i : ℕ) → k ≤ i → i < on → IsOff (get_or marks i no_mark)
  pub shut : lit ≡ false → AreShut going.braces

unmarked : (m : Mark) → is_marked m ≡ false → IsOff m
unmarked m h = record { here = or_first m.here m.behind h; behind = or_second m.here m.behind h }

-- nothing is marked at the place itself, or `on` is the place
at_place : (m there : Mark) (i j on : ℕ) (b : Bool) → is_marked m ≡ b → there ≡ m → i ≡ j → i < cond b j on → IsOff there
at_place m there i j on true marked same at below = absurd (omega arith)
at_place m there i j on false marked same at below = subst IsOff (sym same) (unmarked m marked)

past_place : (i j on : ℕ) (b : Bool) → j < i → i < cond b j on → i < on
past_place i j on true past below = absurd (omega arith)
past_place i j on false past below = below

pub passing_first : (inner : Bool) (c : Option ℕ) (parts : List Part) (old : List Mark) (end : Mark) (braces : List Brace) (now : Bool) (on : ℕ) → length old ≡ length parts + 1 → now ≡ is_end inner c → end ≡ plain now → braces ≡ []
    → on ≡ cond (is_marked end) (length parts) (length parts + 1)
    → Passing inner c parts old (length parts) (set old (length parts) end) (record { hit = false; braces = braces }) (get_or old (length parts) no_mark) now on false
passing_first inner c parts old end braces now on few now_is end_is none on_is = record {
  so_far = so_far_first inner c parts old end braces now few now_is end_is none;
  below = λ i from to.
      let to' : i < cond (is_marked end) (length parts) (length parts + 1) = subst (λ n. i < n) on_is to in
      elim (le_cases (length parts) i from) [
        | inl at ↦ at_place end (get_or (set old (length parts) end) i no_mark) i (length parts) (length parts + 1) (is_marked end) refl
            (ap (λ n. get_or (set old (length parts) end) n no_mark) at ∙ get_or-set_same old (length parts) end no_mark (omega arith)) at to'
        | inr past ↦ let in_front = past_place i (length parts) (length parts + 1) (is_marked end) past to' in absurd (omega arith)
      ];
  shut = λ _. subst AreShut (sym none) tt;
}

shut_after : (lit now : Bool) (c : Option ℕ) (part : Part) (was next : Mark) (going on : Going) → on ≡ (step c part was next now going).going → (lit ≡ false → AreShut going.braces) → ((lit || now) && nat_lt 0 (length on.braces)) ≡ false → AreShut on.braces
shut_after true now c part was next going on on_is shut off = shut_none on.braces off
shut_after false true c part was next going on on_is shut off = shut_none on.braces off
shut_after false false c part was next going on on_is shut off = subst (λ (g : Going). AreShut g.braces) (sym on_is) (step_shut c part was next false going refl (shut refl))

pub passing_more : (inner : Bool) (c : Option ℕ) (parts : List Part) (old : List Mark) (k j : ℕ) (marks : List Mark) (going : Going) (next : Mark) (now : Bool) (on : ℕ) (lit : Bool) (part other : Part) (mark : Mark) (on_going : Going) (on' : ℕ) (lit' : Bool)
    → Passing inner c parts old k marks going next now on lit → k ≡ suc j → length old ≡ length parts + 1 → length marks ≡ length old → part ≡ get_or parts j other
    → mark ≡ (step c part (get_or marks j no_mark) next now going).mark → on_going ≡ (step c part (get_or marks j no_mark) next now going).going
    → on' ≡ cond (is_marked mark) j on → lit' ≡ ((lit || now) && nat_lt 0 (length on_going.braces))
    → Passing inner c parts old j (set marks j mark) on_going (get_or marks j no_mark) mark.here on' lit'
passing_more inner c parts old k j marks going next now on lit part other mark on_going on' lit' h at few same part_is mark_is going_is on_is lit_is = record {
  so_far = so_far_more inner c parts old k j marks going next now part other mark on_going h.so_far at few part_is mark_is going_is;
  below = λ i from to.
      let to' : i < cond (is_marked mark) j on = subst (λ n. i < n) on_is to in
      elim (le_cases j i from) [
        | inl here ↦ at_place mark (get_or (set marks j mark) i no_mark) i j on (is_marked mark) refl
            (ap (λ n. get_or (set marks j mark) n no_mark) here ∙ get_or-set_same marks j mark no_mark (omega (arith, h.so_far.place))) here to'
        | inr past ↦ subst IsOff (sym (get_or-set_other marks j i mark no_mark (omega arith))) (h.below i (omega arith) (past_place i j on (is_marked mark) past to'))
      ];
  shut = λ off. shut_after lit now c part (get_or marks j no_mark) next going on_going going_is h.shut (sym lit_is ∙ off);
}

off_is : (m : Mark) → IsOff m → m ≡ no_mark
off_is m h = λ i. record { here = h.here i; behind = h.behind i }

get_front : (k j : ℕ) (old tail : List Mark) → j < k → k ≤ length old → get_or (take k old ++ tail) j no_mark ≡ get_or old j no_mark
get_front k j [] tail h few = absurd (omega arith)
get_front zero j (o ∷ old) tail h few = absurd (omega arith)
get_front (suc k) zero (o ∷ old) tail h few = refl
get_front (suc k) (suc j) (o ∷ old) tail h few = get_front k j old tail (omega arith) (omega arith)

-- the pass may stop where nothing is carried along, and nothing was marked in front
stops : (inner : Bool) (c : Option ℕ) (parts : List Part) (old : List Mark) (k : ℕ) (marks : List Mark) (going : Going) (next : Mark) (now : Bool) → SoFar inner c parts old k marks going next now → length old ≡ length parts + 1
    → ((j : ℕ) → j ≤ k → IsOff (get_or old j no_mark)) → now ≡ false → AreShut going.braces → marks ≡ (turned inner c parts old).marks
stops inner c parts old zero marks going next now h few off dark shut = so_far_done inner c parts old 0 marks going next now h refl
stops inner c parts old (suc j) marks going next now h few off dark shut =
    let other : Part = a_part.Comma in
    let part : Part = get_or parts j other in
    let was : Mark = get_or marks j no_mark in
    let s : Stepped = step c part was next now going in
    let was_is : was ≡ get_or old j no_mark = ap (λ ms. get_or ms j no_mark) h.marks_are ∙ get_front (suc j) j old _ (omega arith) (omega (arith, h.place)) in
    let was_off : IsOff was = subst IsOff (sym was_is) (off j (omega arith)) in
    let next_off : IsOff next = subst IsOff (first_drop (suc j) old ∙ sym h.next_is) (off (suc j) (omega arith)) in
    let stepped = step_off c part was next now going was_off next_off dark shut in
    let more = so_far_more inner c parts old (suc j) j marks going next now part other s.mark s.going h refl few refl refl refl in
    let same : set marks j s.mark ≡ marks = ap (λ m. set marks j m) (off_is s.mark stepped.0 ∙ sym (off_is was was_off)) ∙ set-get_or marks j no_mark in
    sym same ∙ stops inner c parts old j (set marks j s.mark) s.going was s.mark.here more few (λ i below. off i (omega arith)) stepped.0.here stepped.1

stopped : (k low : ℕ) (now lit : Bool) → (nat_lt 0 k && (nat_le low k || now || lit)) ≡ false → (k ≡ 0) ⊎ ((k < low) × (now ≡ false) × (lit ≡ false))
stopped zero low now lit h = inl refl
stopped (suc k) low now lit h =
    let out = or_first (nat_le low (suc k) || now) lit (and_there (nat_lt 0 (suc k)) _ (lt-ltb 0 (suc k) (omega arith)) h) in
    inr (leb-false low (suc k) (or_first (nat_le low (suc k)) now out), or_second (nat_le low (suc k)) now out, or_second (nat_le low (suc k) || now) lit (and_there (nat_lt 0 (suc k)) _ (lt-ltb 0 (suc k) (omega arith)) h))

pub passing_marks : (inner : Bool) (c : Option ℕ) (parts : List Part) (old : List Mark) (low k : ℕ) (marks : List Mark) (going : Going) (next : Mark) (now : Bool) (on : ℕ) (lit : Bool) → Passing inner c parts old k marks going next now on lit → length old ≡ length parts + 1
    → OffBelow low old → (nat_lt 0 k && (nat_le low k || now || lit)) ≡ false → marks ≡ (turned inner c parts old).marks
passing_marks inner c parts old low k marks going next now on lit h few below out =
    elim (stopped k low now lit out) [
      | inl at ↦ so_far_done inner c parts old k marks going next now h.so_far at
      | inr q ↦ stops inner c parts old k marks going next now h.so_far few (λ j up. below j (omega (arith, q.0))) q.1 (h.shut q.2)
    ]

pub passing_low : (inner : Bool) (c : Option ℕ) (parts : List Part) (old : List Mark) (low k : ℕ) (marks : List Mark) (going : Going) (next : Mark) (now : Bool) (on : ℕ) (lit : Bool) → Passing inner c parts old k marks going next now on lit → length old ≡ length parts + 1
    → OffBelow low old → (nat_lt 0 k && (nat_le low k || now || lit)) ≡ false → OffBelow on marks
passing_low inner c parts old low k marks going next now on lit h few below out =
    λ j to. elim (below_cases j k) [
      | inl in_front ↦ elim (stopped k low now lit out) [
        | inl at ↦ absurd (omega arith)
        | inr q ↦ subst IsOff (sym (ap (λ ms. get_or ms j no_mark) h.so_far.marks_are ∙ get_front k j old _ in_front (omega (arith, h.so_far.place)))) (below j (omega (arith, q.0)))
      ]
      | inr behind ↦ h.below j behind to
    ]

pub on_there : (k : ℕ) (b : Bool) → (nat_lt 0 k && b) ≡ true → 0 < k
on_there zero b h = absurd (false≢true h)
on_there (suc k) b h = omega arith
