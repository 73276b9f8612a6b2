-- The ends of a long path that are longer than what was read of it.
use Rattle.std.proofs.Common.{◌≡◌, ℕ, suc, ◌+◌, ◌-◌, ◌<◌, ◌≤◌, Bool, true, false, ◌||◌, ◌⊎◌, inl, inr, List, [], ◌∷◌, ◌++◌, length, length-append, get_or, set, drop, reverse, refl, sym, ap, subst, ◌∙◌, arith, append_assoc, eqb-true, eq-eqb, ◌==◌, ◌≢◌, nat_lt, drop-cons, ltb-true, ltb-false}
use Rattle.std.proofs.lemmas.Bool.{false≢true}
use Rattle.std.proofs.lemmas.List.{length-reverse, get_or-set_same, get_or-set_other}
use Rattle.hg_glob.specs.Part.{Reading, before, reading}
use Rattle.hg_glob.specs.Kept.{HasEnd}
use Rattle.hg_glob.specs.Accepted.{Then, Ends, Follows, Accepts, end_at, ColumnIs}
use Rattle.hg_glob.specs.Column.{bit, StepsTo}
use Rattle.hg_glob.specs.Many.{last_parts, SharesEnd}
use Rattle.hg_glob.specs.Reach.{is_brace, ReachIs, reach_at, ReachesAre}
use Rattle.hg_glob.specs.declared.part.Part.{Part}
use Rattle.hg_glob.specs.declared.part.Part.TheVariants as a_part
use Rattle.hg_glob.specs.declared.fork.Fork.{Fork}
use Rattle.hg_glob.specs.declared.fork.Reach.{Reach}
use Rattle.hg_glob.proofs.Bits.{bit_of_none}
use Rattle.hg_glob.proofs.Then.{empty_then, literal_head, one_head, listed_head, star_head, any_head, slashes_then, then_slashes, past_head}
use Rattle.hg_glob.proofs.Lines.{ends_of_one}
use Rattle.hg_glob.proofs.Sweeps.{end_all, column_more, column_first, braces_len}
use Rattle.hg_glob.proofs.Dead.{end_of_end}
use Rattle.hg_glob.proofs.Masks.{end_alone}

-- an end of the path that isn't longer than what was read is an end of it
near_from : (xs t : List ℕ) → length t ≤ length xs → ((ys : List ℕ) × (reverse xs ≡ ys ++ t)) ⊎ ((ys : List ℕ) × (t ≡ ys ++ reverse xs)) → end_at xs (length t) ≡ t
near_from xs t short (inl (ys, e)) = (end_of_end xs (length xs) ys t (end_all xs ∙ e)).0
near_from xs t short (inr ([], e)) = (end_of_end xs (length xs) [] t (end_all xs ∙ sym e)).0
near_from xs t short (inr (y ∷ ys, e)) = absurd (omega (arith, ap length e, length-append ys (reverse xs), length-reverse xs))

near_end : (path xs t : List ℕ) → HasEnd path (reverse xs) → HasEnd path t → length t ≤ length xs → end_at xs (length t) ≡ t
near_end path xs t (a, e) (b, f) short = near_from xs t short (ends_of_one a (reverse xs) b t (sym e ∙ f))

-- and the column has its bit
near_bit : (path xs : List ℕ) (r : Reading) (now hit : ℕ) (forks : List Fork) (t : List ℕ) → ColumnIs false xs r now hit forks → HasEnd path (reverse xs) → HasEnd path t → length t ≤ length xs → Accepts false r t → bit now (length t) ≡ true
near_bit path xs r now hit forks t h last is_end short k = (h.now_is (length t) short).1 (subst (Accepts false r) (sym (near_end path xs t last is_end short)) k)

-- what is accepted from a part on that is no brace is accepted behind it, there or by one character on, or from it on by one character on
abbrev Heads : Part → Reading → ℕ → List ℕ → Type 0
Heads p r c t = Accepts false r (c ∷ t) ⊎ (Accepts false r t ⊎ Accepts false (before p r) t)

heads : (p : Part) (r : Reading) (c : ℕ) (t : List ℕ) → is_brace p ≡ false → Accepts false (before p r) (c ∷ t) → Heads p r c t
heads (a_part.Literal x) r c t free k = inr (inl (literal_head x c r.pattern (Follows false r.frames) t k).1)
heads a_part.One r c t free k = inr (inl (one_head c r.pattern (Follows false r.frames) t k))
heads (a_part.Class negated) r c t free k = inr (inl (listed_head negated r.spans c r.pattern (Follows false r.frames) t k).1)
heads (a_part.Range at low high) r c t free k = inl k
heads a_part.Star r c t free k = elim (star_head c r.pattern (Follows false r.frames) t k) [ inl h ↦ inl h | inr h ↦ inr (inr h.1) ]
heads a_part.Any r c t free k = elim (any_head c r.pattern (Follows false r.frames) t k) [ inl h ↦ inl h | inr h ↦ inr (inr h) ]
heads a_part.Slashes r c t free k =
    elim (slashes_then r.pattern (Follows false r.frames) (c ∷ t) k) [
      | inl h ↦ inl h
      | inr h ↦ elim (past_head (Then r.pattern (Follows false r.frames)) c t h) [
        | inl q ↦ inr (inl q.1)
        | inr q ↦ inr (inr (then_slashes r.pattern (Follows false r.frames) t (inr q)))
      ]
    ]
heads (a_part.Open at) r c t free k = absurd (false≢true (sym free))
heads a_part.Comma r c t free k = absurd (false≢true (sym free))
heads a_part.Close r c t free k = absurd (false≢true (sym free))

or_left : (a b : Bool) → a ≡ true → (a || b) ≡ true
or_left true b h = refl
or_left false b h = absurd (false≢true h)

or_right : (a b : Bool) → b ≡ true → (a || b) ≡ true
or_right true b h = refl
or_right false b h = h

end_shorter : (path t : List ℕ) (c : ℕ) → HasEnd path (c ∷ t) → HasEnd path t
end_shorter path t c (a, e) = (a ++ c ∷ [], e ∙ sym (append_assoc a (c ∷ []) t))

is_as_long : (a b : List ℕ) → length a ≤ length b → length b ≤ length a → length a ≡ length b
is_as_long a b h k = omega arith

-- an end that is as long as what was read or longer, and is accepted from the part on
far_end : (path xs : List ℕ) (p : Part) (r : Reading) (was : Reach) (on on_hit : ℕ) (forks : List Fork) (t : List ℕ) → is_brace p ≡ false → HasEnd path (reverse xs) → ReachIs path xs r was → ColumnIs false xs (before p r) on on_hit forks → HasEnd path t → length xs ≤ length t
    → Accepts false (before p r) t → (was.beyond || (bit was.now (length xs) || bit on (length xs))) ≡ true
far_end path xs p r was on on_hit forks [] free last h column is_end long k =
    let same : length {A = ℕ} [] ≡ length xs = is_as_long [] xs (omega arith) long in
    or_right was.beyond _ (or_right (bit was.now (length xs)) _ (ap (bit on) (sym same) ∙ near_bit path xs (before p r) on on_hit forks [] column last is_end (omega arith) k))
far_end path xs p r was on on_hit forks (c ∷ t) free last h column is_end long k = by_len (λ more still. far_end path xs p r was on on_hit forks t free last h column (end_shorter path t c is_end) more still) (length xs == length (c ∷ t)) refl
  where
    next_len : length xs ≤ length t → Accepts false r t → (b : Bool) → (length xs == length t) ≡ b → (was.beyond || (bit was.now (length xs) || bit on (length xs))) ≡ true
    next_len more next true same =
        let e : length xs ≡ length t = eqb-true (length xs) (length t) same in
        or_right was.beyond _ (or_left (bit was.now (length xs)) _ (ap (bit was.now) e ∙ near_bit path xs r was.now was.hit [] t h.near last (end_shorter path t c is_end) (omega arith) next))
    next_len more next false other =
        let apart : length xs ≢ length t = λ e. absurd (false≢true (sym other ∙ eq-eqb (length xs) (length t) e)) in
        or_left was.beyond _ (h.far t (end_shorter path t c is_end) (omega (arith, apart)) next)

    shorter : (length xs ≤ length t → Accepts false (before p r) t → (was.beyond || (bit was.now (length xs) || bit on (length xs))) ≡ true) → length xs ≤ length t → Heads p r c t → (was.beyond || (bit was.now (length xs) || bit on (length xs))) ≡ true
    shorter again more (inl here) = or_left was.beyond _ (h.far (c ∷ t) is_end (omega arith) here)
    shorter again more (inr (inl next)) = next_len more next (length xs == length t) refl
    shorter again more (inr (inr still)) = again more still

    by_len : (length xs ≤ length t → Accepts false (before p r) t → (was.beyond || (bit was.now (length xs) || bit on (length xs))) ≡ true) → (b : Bool) → (length xs == length (c ∷ t)) ≡ b → (was.beyond || (bit was.now (length xs) || bit on (length xs))) ≡ true
    by_len again true same =
        let e : length xs ≡ length (c ∷ t) = eqb-true (length xs) (length (c ∷ t)) same in
        or_right was.beyond _ (or_right (bit was.now (length xs)) _ (ap (bit on) e ∙ near_bit path xs (before p r) on on_hit forks (c ∷ t) column last is_end (omega arith) k))
    by_len again false other =
        let apart : length xs ≢ length (c ∷ t) = λ e. absurd (false≢true (sym other ∙ eq-eqb (length xs) (length (c ∷ t)) e)) in
        shorter again (omega (arith, apart)) (heads p r c t free k)

same_frames : (p : Part) (r : Reading) → is_brace p ≡ false → (before p r).frames ≡ r.frames
same_frames (a_part.Literal x) r free = refl
same_frames a_part.One r free = refl
same_frames (a_part.Class negated) r free = refl
same_frames (a_part.Range at low high) r free = refl
same_frames a_part.Star r free = refl
same_frames a_part.Any r free = refl
same_frames a_part.Slashes r free = refl
same_frames (a_part.Open at) r free = absurd (false≢true (sym free))
same_frames a_part.Comma r free = absurd (false≢true (sym free))
same_frames a_part.Close r free = absurd (false≢true (sym free))

no_forks : (forks : List Fork) → length forks ≡ 0 → forks ≡ []
no_forks [] h = refl
no_forks (f ∷ forks) h = absurd (omega arith)

-- one part in front
pub reach_more : (path xs : List ℕ) (p : Part) (r : Reading) (was : Reach) (on on_hit : ℕ) (forks : List Fork) (beyond : Bool) → is_brace p ≡ false → HasEnd path (reverse xs) → ReachIs path xs r was → StepsTo p xs was.now was.hit [] on on_hit forks
    → beyond ≡ (was.beyond || (bit was.now (length xs) || bit on (length xs))) → ReachIs path xs (before p r) (record { now = on; hit = on_hit; beyond = beyond })
reach_more path xs p r was on on_hit forks beyond free last h s beyond_is =
    let column : ColumnIs false xs (before p r) on on_hit forks = column_more false xs p r was.now was.hit [] on on_hit forks h.near s in
    let before_none : length r.frames ≡ length {A = Fork} [] = braces_len false r.frames 0 [] [] (h.near.braces_are 0 (omega arith)) in
    let around : length (before p r).frames ≡ length forks = braces_len false (before p r).frames 0 forks [] (column.braces_are 0 (omega arith)) in
    let none : forks ≡ [] = no_forks forks (sym around ∙ ap length (same_frames p r free) ∙ before_none) in
    record {
      near = subst (λ fs. ColumnIs false xs (before p r) on on_hit fs) none column;
      far = λ t is_end longer k. beyond_is ∙ far_end path xs p r was on on_hit forks t free last h column is_end (omega arith) k;
    }

same_beyond : (a b c d e : Bool) → b ≡ d → c ≡ e → (a || (b || c)) ≡ (a || (d || e))
same_beyond a b c d e h k = ap (λ v. a || (v || c)) h ∙ ap (λ v. a || (d || v)) k

pub reach_stepped : (path xs : List ℕ) (p : Part) (r : Reading) (was : Reach) (on on_hit whole : ℕ) (forks : List Fork) (behind here : Bool) → is_brace p ≡ false → whole ≡ length xs → behind ≡ bit was.now whole → here ≡ bit on whole → StepsTo p xs was.now was.hit [] on on_hit forks
    → HasEnd path (reverse xs) → ReachIs path xs r was → ReachIs path xs (before p r) (record { now = on; hit = on_hit; beyond = was.beyond || (behind || here) })
reach_stepped path xs p r was on on_hit whole forks behind here free all behind_is here_is s last h =
    reach_more path xs p r was on on_hit forks (was.beyond || (behind || here)) free last h s (same_beyond was.beyond behind here _ _ (behind_is ∙ ap (bit was.now) all) (here_is ∙ ap (bit on) all))

abbrev no_reach : Reach
no_reach = record { now = 0; hit = 0; beyond = false }

last_more : (parts : List Part) (k : ℕ) (part other : Part) → k < length parts → part ≡ get_or parts (length parts - 1 - k) other → last_parts (k + 1) parts ≡ part ∷ last_parts k parts
last_more parts k part other inside is =
    let j : ℕ = length parts - 1 - k in
    let here : length parts - (k + 1) ≡ j = omega arith in
    let next : suc j ≡ length parts - k = omega arith in
    ap (λ n. drop n parts) here ∙ drop-cons parts j other (omega arith) ∙ ap (λ p. p ∷ drop (suc j) parts) (sym is) ∙ ap (λ n. part ∷ drop n parts) next

-- the parts that were known and one more
one_of : (path xs : List ℕ) (parts : List Part) (k j : ℕ) (reaches : List Reach) (reach : Reach) (b : Bool) → (j == k + 1) ≡ b → ReachesAre path xs parts k reaches → k + 1 < length reaches → ReachIs path xs (reading (last_parts (k + 1) parts)) reach → j ≤ k + 1
    → ReachIs path xs (reading (last_parts j parts)) (reach_at (set reaches (k + 1) reach) j)
one_of path xs parts k j reaches reach true same h room reach_is below =
    let at : j ≡ k + 1 = eqb-true j (k + 1) same in
    let is : reach_at (set reaches (k + 1) reach) j ≡ reach = ap (reach_at (set reaches (k + 1) reach)) at ∙ get_or-set_same reaches (k + 1) reach no_reach room in
    subst (ReachIs path xs (reading (last_parts j parts))) (sym is) (subst (λ n. ReachIs path xs (reading (last_parts n parts)) reach) (sym at) reach_is)
one_of path xs parts k j reaches reach false other h room reach_is below =
    let apart : j ≢ k + 1 = λ e. absurd (false≢true (sym other ∙ eq-eqb j (k + 1) e)) in
    let is : reach_at (set reaches (k + 1) reach) j ≡ reach_at reaches j = get_or-set_other reaches (k + 1) j reach no_reach apart in
    subst (ReachIs path xs (reading (last_parts j parts))) (sym is) (h.at j (omega (arith, apart)))

pub reaches_more : (path xs : List ℕ) (parts : List Part) (k : ℕ) (part other : Part) (reaches : List Reach) (was reach : Reach) → ReachesAre path xs parts k reaches → k < length parts → k + 1 < length reaches → part ≡ get_or parts (length parts - 1 - k) other → reach_at reaches k ≡ was
    → ((r : Reading) → ReachIs path xs r was → ReachIs path xs (before part r) reach) → ReachesAre path xs parts (k + 1) (set reaches (k + 1) reach)
reaches_more path xs parts k part other reaches was reach h more room part_is was_is steps =
    let here : ReachIs path xs (reading (last_parts k parts)) was = subst (ReachIs path xs (reading (last_parts k parts))) was_is (h.at k (omega arith)) in
    let next : ReachIs path xs (reading (last_parts (k + 1) parts)) reach = subst (λ ps. ReachIs path xs (reading ps) reach) (sym (last_more parts k part other more part_is)) (steps (reading (last_parts k parts)) here) in
    record { inside = omega arith; at = λ j below. one_of path xs parts k j reaches reach (j == k + 1) refl h room next below }

ends_nothing : (t : List ℕ) → Accepts false (reading []) t → t ≡ []
ends_nothing [] k = refl
ends_nothing (c ∷ t) k = absurd (false≢true (empty_then (Ends false) (c ∷ t) k))

-- of no parts
pub reaches_first : (path xs : List ℕ) (reaches : List Reach) → 0 < length reaches → ReachesAre path xs [] 0 (set reaches 0 (record { now = 1; hit = 0; beyond = false }))
reaches_first path xs reaches room =
    let reach : Reach = record { now = 1; hit = 0; beyond = false } in
    let is : reach_at (set reaches 0 reach) 0 ≡ reach = get_or-set_same reaches 0 reach no_reach room in
    let reach_is : ReachIs path xs (reading []) reach = record {
      near = column_first false xs 1 [] 0 [] (end_alone xs) (omega arith);
      far = λ t is_end longer k. absurd (omega (arith, ap length (ends_nothing t k)));
    } in
    record {
      inside = omega arith;
      at = λ j below.
          let none : j ≡ 0 = omega arith in
          subst (λ n. ReachIs path xs (reading (last_parts n [])) (reach_at (set reaches 0 reach) n)) (sym none) (subst (ReachIs path xs (reading [])) (sym is) reach_is);
    }

-- what two globs have in common serves the second as well
pub reaches_shared : (path xs : List ℕ) (a b : List Part) (count len n : ℕ) (reaches : List Reach) → ReachesAre path xs a len reaches → SharesEnd count a b → n ≤ len → n ≤ count → ReachesAre path xs b n reaches
reaches_shared path xs a b count len n reaches h s few common = record {
  inside = omega (arith, s.second);
  at = λ j below. subst (λ r. ReachIs path xs r (reach_at reaches j)) (s.same j (omega arith)) (h.at j (omega arith));
}

-- no end of the path is accepted
no_end : (path xs : List ℕ) (r : Reading) (reach : Reach) (t : List ℕ) → HasEnd path (reverse xs) → ReachIs path xs r reach → reach.now ≡ 0 → HasEnd path t → Accepts false r t → length t ≤ length xs → ⊥
no_end path xs r reach t last h none is_end k short =
    let off : bit reach.now (length t) ≡ false = ap (λ w. bit w (length t)) none ∙ bit_of_none (length t) in
    false≢true (sym off ∙ near_bit path xs r reach.now reach.hit [] t h.near last is_end short k)

pub out_accepts : (path xs : List ℕ) (r : Reading) (reach : Reach) (t : List ℕ) → HasEnd path (reverse xs) → ReachIs path xs r reach → reach.now ≡ 0 → reach.beyond ≡ false → HasEnd path t → Accepts false r t → ⊥
out_accepts path xs r reach t last h none never is_end k = by_len (nat_lt (length xs) (length t)) refl
  where
    by_len : (b : Bool) → nat_lt (length xs) (length t) ≡ b → ⊥
    by_len true longer = false≢true (sym never ∙ h.far t is_end (ltb-true (length xs) (length t) longer) k)
    by_len false shorter = no_end path xs r reach t last h none is_end k (ltb-false (length xs) (length t) shorter)
