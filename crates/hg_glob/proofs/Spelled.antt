-- Parts as a text spells them.
use Rattle.std.proofs.Common.{◌≡◌, ℕ, zero, suc, ◌+◌, ◌≤◌, true, List, [], ◌∷◌, ◌++◌, length, drop, refl, sym, ap, ◌∙◌, arith, append_assoc, append-nil}
use Rattle.std.proofs.lemmas.Bool.{false≢true}
use Rattle.hg_glob.specs.Part.{begins, range_high, range_more, ranges_from, parts_from, spelled, depth_after}
use Rattle.hg_glob.specs.declared.part.Part.{Part}
use Rattle.hg_glob.specs.declared.part.Part.TheVariants as a_part

pub begins_len : (x : ℕ) (text : List ℕ) → begins x text ≡ true → 1 ≤ length text
begins_len x [] h = absurd (false≢true h)
begins_len x (c ∷ text) h = omega arith

none_left : (rest : List ℕ) → length rest ≡ 0 → rest ≡ []
none_left [] h = refl
none_left (c ∷ rest) h = absurd (omega arith)

pub range_within : (rest : List ℕ) → range_more rest ≤ length rest
range_within [] = omega arith
range_within (dash ∷ []) = omega arith
range_within (dash ∷ high ∷ rest) = grind arith

pub ranges_past : (n at : ℕ) (text : List ℕ) → ranges_from n at text ≡ ranges_from 0 (at + n) (drop n text)
unfolding ranges_from
ranges_past zero at text = ap (λ k. ranges_from 0 k text) (omega arith)
ranges_past (suc n) at [] = refl
ranges_past (suc n) at (c ∷ text) = ranges_past n (at + 1) text ∙ ap (λ k. ranges_from 0 k (drop n text)) (omega arith)

-- one member and then the others
pub ranges_step : (at low : ℕ) (rest : List ℕ) → ranges_from 0 at (low ∷ rest) ≡ a_part.Range at low (range_high low rest) ∷ ranges_from 0 (at + (1 + range_more rest)) (drop (range_more rest) rest)
unfolding ranges_from
ranges_step at low rest = ap (λ ps. a_part.Range at low (range_high low rest) ∷ ps) (ranges_past (range_more rest) (at + 1) rest ∙ ap (λ k. ranges_from 0 k (drop (range_more rest) rest)) (omega arith))

pub ranges_end : (at : ℕ) → ranges_from 0 at [] ≡ []
unfolding ranges_from
ranges_end at = refl

pub parts_past : (n depth at : ℕ) (text : List ℕ) → parts_from n depth at text ≡ parts_from 0 depth (at + n) (drop n text)
unfolding parts_from
parts_past zero depth at text = ap (λ k. parts_from 0 depth k text) (omega arith)
parts_past (suc n) depth at [] = refl
parts_past (suc n) depth at (c ∷ text) = parts_past n depth (at + 1) text ∙ ap (λ k. parts_from 0 depth k (drop n text)) (omega arith)

-- one part and then the others
pub parts_step : (depth at c : ℕ) (rest : List ℕ) → parts_from 0 depth at (c ∷ rest)
    ≡ (spelled depth at c rest).parts ++ parts_from 0 (depth_after depth c) (at + (1 + (spelled depth at c rest).more)) (drop (spelled depth at c rest).more rest)
unfolding parts_from
parts_step depth at c rest =
    let n : ℕ = (spelled depth at c rest).more in
    ap (λ ps. (spelled depth at c rest).parts ++ ps) (parts_past n (depth_after depth c) (at + 1) rest ∙ ap (λ k. parts_from 0 (depth_after depth c) k (drop n rest)) (omega arith))

pub parts_end : (depth at : ℕ) → parts_from 0 depth at [] ≡ []
unfolding parts_from
parts_end depth at = refl

pub ranges_more : (done new goal : List Part) (place low high more : ℕ) (left rest behind : List ℕ) → done ++ ranges_from 0 place left ≡ goal → left ≡ low ∷ rest → new ≡ done ++ a_part.Range place low high ∷ []
    → high ≡ range_high low rest → more ≡ range_more rest → behind ≡ drop more rest → new ++ ranges_from 0 (place + (1 + more)) behind ≡ goal
ranges_more done new goal place low high more left rest behind so_far left_is new_is high_is more_is behind_is =
    let tail : ranges_from 0 (place + (1 + more)) behind ≡ ranges_from 0 (place + (1 + range_more rest)) (drop (range_more rest) rest) =
    ap (ranges_from 0 (place + (1 + more))) behind_is ∙ ap (λ n. ranges_from 0 (place + (1 + n)) (drop n rest)) more_is in
    let step : ranges_from 0 place left ≡ a_part.Range place low high ∷ ranges_from 0 (place + (1 + more)) behind =
    ap (ranges_from 0 place) left_is ∙ ranges_step place low rest ∙ ap (λ h. a_part.Range place low h ∷ ranges_from 0 (place + (1 + range_more rest)) (drop (range_more rest) rest)) (sym high_is)
    ∙ ap (λ ps. a_part.Range place low high ∷ ps) (sym tail) in
    ap (λ ps. ps ++ ranges_from 0 (place + (1 + more)) behind) new_is ∙ append_assoc done (a_part.Range place low high ∷ []) (ranges_from 0 (place + (1 + more)) behind) ∙ ap (λ ps. done ++ ps) (sym step) ∙ so_far

pub ranges_done : (done goal : List Part) (place : ℕ) (left : List ℕ) → done ++ ranges_from 0 place left ≡ goal → length left ≡ 0 → done ≡ goal
ranges_done done goal place left so_far none = sym (append-nil done) ∙ ap (λ ps. done ++ ps) (sym (ap (ranges_from 0 place) (none_left left none) ∙ ranges_end place)) ∙ so_far

pub parts_more : (done new goal : List Part) (depth on at c more : ℕ) (left rest behind : List ℕ) → done ++ parts_from 0 depth at left ≡ goal → left ≡ c ∷ rest → new ≡ done ++ (spelled depth at c rest).parts
    → on ≡ depth_after depth c → more ≡ (spelled depth at c rest).more → behind ≡ drop more rest → new ++ parts_from 0 on (at + (1 + more)) behind ≡ goal
parts_more done new goal depth on at c more left rest behind so_far left_is new_is on_is more_is behind_is =
    let n : ℕ = (spelled depth at c rest).more in
    let tail : parts_from 0 on (at + (1 + more)) behind ≡ parts_from 0 (depth_after depth c) (at + (1 + n)) (drop n rest) =
    ap (parts_from 0 on (at + (1 + more))) behind_is ∙ ap (λ k. parts_from 0 on (at + (1 + k)) (drop k rest)) more_is ∙ ap (λ d. parts_from 0 d (at + (1 + n)) (drop n rest)) on_is in
    let step : parts_from 0 depth at left ≡ (spelled depth at c rest).parts ++ parts_from 0 on (at + (1 + more)) behind =
    ap (parts_from 0 depth at) left_is ∙ parts_step depth at c rest ∙ ap (λ ps. (spelled depth at c rest).parts ++ ps) (sym tail) in
    ap (λ ps. ps ++ parts_from 0 on (at + (1 + more)) behind) new_is ∙ append_assoc done (spelled depth at c rest).parts (parts_from 0 on (at + (1 + more)) behind) ∙ ap (λ ps. done ++ ps) (sym step) ∙ so_far

pub parts_done : (done goal : List Part) (depth at : ℕ) (left : List ℕ) → done ++ parts_from 0 depth at left ≡ goal → length left ≡ 0 → done ≡ goal
parts_done done goal depth at left so_far none = sym (append-nil done) ∙ ap (λ ps. done ++ ps) (sym (ap (parts_from 0 depth at) (none_left left none) ∙ parts_end depth at)) ∙ so_far
