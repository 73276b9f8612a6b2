-- The columns of the parts, from the last to the first, as the texts that they speak of.
use Rattle.std.proofs.Common.{◌≡◌, ℕ, zero, suc, ◌+◌, ◌*◌, ◌<◌, ◌≤◌, Bool, true, false, ◌⊎◌, inl, inr, List, [], ◌∷◌, ◌++◌, length, get_or, take, drop, reverse, map, Option, Some, None, refl, sym, ap, subst, ◌∙◌, arith, append_assoc, drop-cons, length-drop}
use Rattle.std.specs.Bool.{Decides}
use Rattle.std.proofs.lemmas.Bool.Decides.{Decides-like}
use Rattle.std.proofs.lemmas.List.{drop_all, length-reverse, length-take, reverse-append}
use Rattle.hg_glob.specs.Accepted.{Ends, Follows, Accepts, BracesAre, HitIs, char_at, end_at, ColumnIs}
use Rattle.hg_glob.specs.Part.{Frame, Reading, before, reading}
use Rattle.hg_glob.specs.Line.{IsFront, Stands}
use Rattle.hg_glob.specs.Refusal.{closers, closers_at}
use Rattle.hg_glob.specs.Row.{Stepped, plain, no_mark}
use Rattle.hg_glob.specs.Column.{bit, IsEnd, brace_at, going_at, stepped_at, stack, StepsTo}
use Rattle.hg_glob.specs.declared.part.Part.{Part}
use Rattle.hg_glob.specs.declared.part.Part.TheVariants as a_part
use Rattle.hg_glob.specs.declared.mark.Going.{Going}
use Rattle.hg_glob.specs.declared.fork.Fork.{Fork}
use Rattle.hg_glob.proofs.Bits.{bit_of_none}
use Rattle.hg_glob.proofs.Then.{Past, empty_then, then_empty, slashes_then, then_slashes}
use Rattle.hg_glob.proofs.Rows.{BehindIs, step_is}
use Rattle.hg_glob.proofs.Turns.{end_is}
use Rattle.hg_glob.proofs.Ends.{frames_len}
use Rattle.hg_glob.proofs.Lines.{stands_from, accepts_behind}

-- what a step says of one end
record EndIs (inner : Bool) (c : Option ℕ) (p : Part) (r : Reading) (s : Stepped) (t : List ℕ) : Type 0 where
  pub here : Decides s.mark.here (Accepts inner (before p r) t)
  pub behind : BehindIs inner p r s.mark t
  pub hit : HitIs c (before p r).spans s.going.hit
  pub braces_are : BracesAre inner (before p r).frames s.going.braces t

ends_are : (inner : Bool) (xs : List ℕ) (p : Part) (r : Reading) (now hit : ℕ) (forks : List Fork) → ColumnIs inner xs r now hit forks → (i : ℕ) → i ≤ length xs → EndIs inner (char_at xs i) p r (stepped_at p xs now hit forks i) (end_at xs i)
ends_are inner xs p r now hit forks h zero below =
    let s = step_is inner None [] p r no_mark no_mark (bit now 0) (going_at hit forks 0) (record {
      was_is = tt;
      was_behind = tt;
      next_is = tt;
      now_is = h.now_is 0 below;
      hit_is = h.hit_is 0 below;
      braces_are = h.braces_are 0 below;
    }) in
    record { here = s.here; behind = s.behind; hit = s.hit; braces_are = s.braces_are }
ends_are inner xs p r now hit forks h (suc i) below =
    let was = ends_are inner xs p r now hit forks h i (omega arith) in
    let s = step_is inner (Some (get_or xs i 0)) (end_at xs i) p r (stepped_at p xs now hit forks i).mark (plain (bit now i)) (bit now (suc i)) (going_at hit forks (suc i)) (record {
      was_is = was.here;
      was_behind = was.behind;
      next_is = h.now_is i (omega arith);
      now_is = h.now_is (suc i) below;
      hit_is = h.hit_is (suc i) below;
      braces_are = h.braces_are (suc i) below;
    }) in
    record { here = s.here; behind = s.behind; hit = s.hit; braces_are = s.braces_are }

-- one part in front
pub column_more : (inner : Bool) (xs : List ℕ) (p : Part) (r : Reading) (now hit : ℕ) (forks : List Fork) (on on_hit : ℕ) (on_forks : List Fork) → ColumnIs inner xs r now hit forks → StepsTo p xs now hit forks on on_hit on_forks → ColumnIs inner xs (before p r) on on_hit on_forks
column_more inner xs p r now hit forks on on_hit on_forks h s = record {
  now_is = λ i below. subst (λ b. Decides b (Accepts inner (before p r) (end_at xs i))) (sym (s.mark i below)) (ends_are inner xs p r now hit forks h i below).here;
  hit_is = λ i below. subst (λ (g : Going). HitIs (char_at xs i) (before p r).spans g.hit) (sym (s.going i below)) (ends_are inner xs p r now hit forks h i below).hit;
  braces_are = λ i below. subst (λ (g : Going). BracesAre inner (before p r).frames g.braces (end_at xs i)) (sym (s.going i below)) (ends_are inner xs p r now hit forks h i below).braces_are;
}

end_starts : (inner : Bool) (xs : List ℕ) (now : ℕ) → IsEnd inner xs now → (i : ℕ) → i ≤ length xs → Decides (bit now i) (Ends inner (end_at xs i))
end_starts inner xs now e zero below = subst (λ b. Decides b (Ends inner [])) (sym e.front) (end_is inner None [])
end_starts inner xs now e (suc i) below = subst (λ b. Decides b (Ends inner (end_at xs (suc i)))) (sym (e.at i below)) (end_is inner (Some (get_or xs i 0)) (end_at xs i))

hit_starts : (xs : List ℕ) (i : ℕ) → HitIs (char_at xs i) [] (bit 0 i)
hit_starts xs zero = tt
hit_starts xs (suc i) = bit_of_none (suc i)

-- behind the last part
pub column_first : (inner : Bool) (xs : List ℕ) (now : ℕ) (parts : List Part) (k : ℕ) (forks : List Fork) → IsEnd inner xs now → length parts ≤ k → ColumnIs inner xs (reading (drop k parts)) now 0 (stack 0 forks)
column_first inner xs now parts k forks e all =
    let none : drop k parts ≡ [] = drop_all k parts all in
    subst (λ ps. ColumnIs inner xs (reading ps) now 0 (stack 0 forks)) (sym none) (record {
      now_is = λ i below. Decides-like (bit now i) (then_empty (Ends inner) (end_at xs i)) (empty_then (Ends inner) (end_at xs i)) (end_starts inner xs now e i below);
      hit_is = λ i below. hit_starts xs i;
      braces_are = λ i below. tt;
    })

-- the pass comes down by one part
pub column_down : (inner : Bool) (xs : List ℕ) (parts : List Part) (k j : ℕ) (part other : Part) (now hit : ℕ) (forks : List Fork) (on on_hit : ℕ) (on_forks : List Fork) → ColumnIs inner xs (reading (drop k parts)) now hit forks → k ≡ suc j → k ≤ length parts
    → part ≡ get_or parts j other → StepsTo part xs now hit forks on on_hit on_forks → ColumnIs inner xs (reading (drop j parts)) on on_hit on_forks
column_down inner xs parts k j part other now hit forks on on_hit on_forks h at inside part_is s =
    let rest : drop j parts ≡ part ∷ drop k parts = drop-cons parts j other (omega arith) ∙ ap (λ p. p ∷ drop (suc j) parts) (sym part_is) ∙ ap (λ n. part ∷ drop n parts) (sym at) in
    subst (λ ps. ColumnIs inner xs (reading ps) on on_hit on_forks) (sym rest) (column_more inner xs part (reading (drop k parts)) now hit forks on on_hit on_forks h s)

-- as many pairs of braces are around as end behind
pub braces_len : (inner : Bool) (frames : List Frame) (i : ℕ) (forks : List Fork) (t : List ℕ) → BracesAre inner frames (map (brace_at i) forks) t → length frames ≡ length forks
braces_len inner [] i [] t h = refl
braces_len inner [] i (f ∷ forks) t h = absurd h
braces_len inner (a ∷ frames) i [] t h = absurd h
braces_len inner (a ∷ frames) i (f ∷ forks) t h = ap suc (braces_len inner frames i forks t h.2)

closers_at_least : (part : Part) (n : ℕ) → n ≤ closers_at part n + 1
closers_at_least (a_part.Open at) n = omega arith
closers_at_least a_part.Close n = omega arith
closers_at_least _ n = omega arith

closers_at_most : (part : Part) (n : ℕ) → closers_at part n ≤ n + 1
closers_at_most (a_part.Open at) n = omega arith
closers_at_most a_part.Close n = omega arith
closers_at_most _ n = omega arith

pub closers_few : (parts : List Part) → closers parts ≤ length parts
closers_few [] = omega arith
closers_few (part ∷ parts) = omega (arith, closers_few parts, closers_at_most part (closers parts))

closers_drop : (parts : List Part) (k : ℕ) → closers (drop k parts) ≤ closers parts + k
closers_drop parts zero = omega arith
closers_drop [] (suc k) = omega arith
closers_drop (part ∷ parts) (suc k) = omega (arith, closers_drop parts k, closers_at_least part (closers parts))

pub stack_len : (depth : ℕ) (forks : List Fork) → depth ≤ length forks → length (stack depth forks) ≡ depth
stack_len depth forks room = length-reverse (take depth forks) ∙ length-take depth forks ∙ (omega arith)

-- there is room for a pair of braces more
pub room_left : (inner : Bool) (xs : List ℕ) (parts : List Part) (k now hit depth : ℕ) (forks : List Fork) → ColumnIs inner xs (reading (drop k parts)) now hit (stack depth forks) → closers parts ≡ 0 → k ≤ length parts → depth ≤ length forks → length parts < 2 * length forks
    → depth < length forks
room_left inner xs parts k now hit depth forks h none inside room few =
    let same : length (reading (drop k parts)).frames ≡ length (stack depth forks) = braces_len inner (reading (drop k parts)).frames 0 (stack depth forks) [] (h.braces_are 0 (omega arith)) in
    let around : depth ≡ closers (drop k parts) = sym (stack_len depth forks room) ∙ sym same ∙ frames_len (drop k parts) in
    omega (arith, around, none, closers_few (drop k parts), closers_drop parts k, length-drop k parts)

-- the end of as many characters as there are is the whole path
end_more : (x : ℕ) (xs : List ℕ) (i : ℕ) → end_at (x ∷ xs) (suc i) ≡ end_at xs i ++ x ∷ []
end_more x xs zero = refl
end_more x xs (suc i) = ap (λ t. get_or xs i 0 ∷ t) (end_more x xs i)

pub end_all : (xs : List ℕ) → end_at xs (length xs) ≡ reverse xs
end_all [] = refl
end_all (x ∷ xs) = end_more x xs (length xs) ∙ ap (λ t. t ++ x ∷ []) (end_all xs) ∙ sym (reverse-append (x ∷ []) xs)

-- the whole path is accepted
pub found_rooted : (inner : Bool) (xs : List ℕ) (parts : List Part) (now hit : ℕ) (forks : List Fork) → ColumnIs inner xs (reading parts) now hit forks → closers parts ≡ 0 → Decides (bit now (length xs)) (Stands inner true (reading parts).pattern (reverse xs))
found_rooted inner xs parts now hit forks h none =
    let whole : Decides (bit now (length xs)) (Accepts inner (reading parts) (reverse xs)) = subst (λ t. Decides (bit now (length xs)) (Accepts inner (reading parts) t)) (end_all xs) (h.now_is (length xs) (omega arith)) in
    Decides-like (bit now (length xs))
    (λ k. stands_from inner true parts (reverse xs) [] (reverse xs) none refl refl k)
    (λ (a, b, c, e, in_front, i, back). subst (Accepts inner (reading parts)) (sym (e ∙ ap (λ v. v ++ (b ++ c)) in_front)) (accepts_behind inner parts b c none i back))
    whole

past_stands : (inner : Bool) (parts : List Part) (path : List ℕ) → closers parts ≡ 0 → Accepts inner (reading parts) path ⊎ Past (Accepts inner (reading parts)) path → Stands inner false (reading parts).pattern path
past_stands inner parts path none (inl k) = stands_from inner false parts path [] path none refl (inl refl) k
past_stands inner parts path none (inr (dir, rest, e, k)) = stands_from inner false parts path (dir ++ 47 ∷ []) rest none (e ∙ sym (append_assoc dir (47 ∷ []) rest)) (inr (dir, refl)) k

stands_by : (inner : Bool) (parts : List Part) (path a t : List ℕ) → path ≡ a ++ t → IsFront false a → Accepts inner (reading parts) t → Accepts inner (reading parts) path ⊎ Past (Accepts inner (reading parts)) path
stands_by inner parts path a t e (inl nothing) k = inl (subst (Accepts inner (reading parts)) (sym (e ∙ ap (λ v. v ++ t) nothing)) k)
stands_by inner parts path a t e (inr (dir, slash)) k = inr (dir, t, e ∙ ap (λ v. v ++ t) slash ∙ append_assoc dir (47 ∷ []) t, k)

-- what is behind some directories is accepted
pub found_inside : (inner : Bool) (xs : List ℕ) (parts : List Part) (now hit : ℕ) (forks : List Fork) (on : ℕ) → ColumnIs inner xs (reading parts) now hit forks → closers parts ≡ 0 → StepsTo a_part.Slashes xs now hit forks on hit forks
    → Decides (bit on (length xs)) (Stands inner false (reading parts).pattern (reverse xs))
found_inside inner xs parts now hit forks on h none s =
    let r : Reading = reading parts in
    let K : List ℕ → Type 0 = Follows inner r.frames in
    let more = column_more inner xs a_part.Slashes r now hit forks on hit forks h s in
    let whole : Decides (bit on (length xs)) (Accepts inner (before a_part.Slashes r) (reverse xs)) = subst (λ t. Decides (bit on (length xs)) (Accepts inner (before a_part.Slashes r) t)) (end_all xs) (more.now_is (length xs) (omega arith)) in
    Decides-like (bit on (length xs))
    (λ k. past_stands inner parts (reverse xs) none (slashes_then r.pattern K (reverse xs) k))
    (λ (a, b, c, e, in_front, i, back). then_slashes r.pattern K (reverse xs) (stands_by inner parts (reverse xs) a (b ++ c) e in_front (accepts_behind inner parts b c none i back)))
    whole

column_done : (inner : Bool) (xs : List ℕ) (parts : List Part) (k now hit : ℕ) (forks : List Fork) → ColumnIs inner xs (reading (drop k parts)) now hit forks → k ≡ 0 → ColumnIs inner xs (reading parts) now hit forks
column_done inner xs parts k now hit forks h at =
    let first : ColumnIs inner xs (reading (drop 0 parts)) now hit forks = subst (λ n. ColumnIs inner xs (reading (drop n parts)) now hit forks) at h in
    first

-- the pass is done, and the code asks for one bit
pub answer_rooted : (inner rooted : Bool) (xs : List ℕ) (parts : List Part) (k now hit : ℕ) (forks : List Fork) (len : ℕ) (found : Bool) → ColumnIs inner xs (reading (drop k parts)) now hit forks → k ≡ 0 → closers parts ≡ 0 → rooted ≡ true → len ≡ length xs → found ≡ bit now len
    → Decides found (Stands inner rooted (reading parts).pattern (reverse xs))
answer_rooted inner rooted xs parts k now hit forks len found h at none held len_is found_is =
    subst (λ r. Decides found (Stands inner r (reading parts).pattern (reverse xs))) (sym held)
    (subst (λ b. Decides b (Stands inner true (reading parts).pattern (reverse xs))) (sym (found_is ∙ ap (bit now) len_is)) (found_rooted inner xs parts now hit forks (column_done inner xs parts k now hit forks h at) none))

pub answer_inside : (inner rooted : Bool) (xs : List ℕ) (parts : List Part) (k now hit : ℕ) (forks : List Fork) (on len : ℕ) (found : Bool) → ColumnIs inner xs (reading (drop k parts)) now hit forks → k ≡ 0 → closers parts ≡ 0 → StepsTo a_part.Slashes xs now hit forks on hit forks
    → rooted ≡ false → len ≡ length xs → found ≡ bit on len → Decides found (Stands inner rooted (reading parts).pattern (reverse xs))
answer_inside inner rooted xs parts k now hit forks on len found h at none s free len_is found_is =
    subst (λ r. Decides found (Stands inner r (reading parts).pattern (reverse xs))) (sym free)
    (subst (λ b. Decides b (Stands inner false (reading parts).pattern (reverse xs))) (sym (found_is ∙ ap (bit on) len_is)) (found_inside inner xs parts now hit forks on (column_done inner xs parts k now hit forks h at) none s))
