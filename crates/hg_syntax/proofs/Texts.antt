-- The steps on a line.
use Rattle.std.proofs.Common.{◌≡◌, ◌≢◌, ℕ, zero, suc, ◌+◌, ◌-◌, ◌<◌, ◌≤◌, Bool, true, false, not, cond, List, [], ◌∷◌, ◌++◌, length, get_or, take, drop, All, Option, Some, None, option_map, inl, inr, ◌⊎◌, refl, sym, ap, ◌∙◌, arith, eqb, eq-eqb, eqb-true, subst, lit<, Bor, IsUtf8, IsCharBoundary, append_assoc, ◌&&◌, ◌||◌}
use Rattle.std.specs.Option.{MatchOption}
use Rattle.std.specs.List.{prefix_len}
use Rattle.std.proofs.lemmas.List.Sums.{prefix_len-drop_yes}
use Rattle.std.proofs.lemmas.Str.{IsCharBoundary-after_ascii}
use Rattle.std.proofs.lemmas.List.{length-append, get_or_default}
use Rattle.std.proofs.lemmas.List.Splits.{length-slice_split, slice_split_at, slice_split_none}
use Rattle.std.proofs.lemmas.Bool.{or_from, ne_eqb}
use Rattle.std.proofs.lemmas.Str.Pattern.{IsSplitOnceResult, split_parts}
use Rattle.std.proofs.Math.Seq.{take-append_seam}
use Rattle.hg_syntax.specs.Text.{has, pieces, IsCut, cut_at, odd_from, is_escaping, without_last, escaped, kept, is_white}

-- no byte has that value
pub plain_from : (at : ℕ) (text : List ℕ) → ((i : ℕ) → i < length text → get_or text i 0 ≢ at) → has at text ≡ false
plain_from at [] h = refl
plain_from at (b ∷ text) h = or_from (eqb b at) (has at text) (ne_eqb b at (h 0 (omega arith))) (plain_from at text (λ i l. h (suc i) (omega arith)))

cut_of_parts : (at : ℕ) (text : List ℕ) (r : Option (Bor (List ℕ) × Bor (List ℕ)))
    → MatchOption r ((i : ℕ) → i < length text → get_or text i 0 ≢ at) (λ x. (text ≡ x.0.now ++ (at ∷ x.1.now)) × ((i : ℕ) → i < length x.0.now → get_or x.0.now i 0 ≢ at))
    → IsCut at text r
cut_of_parts at text None h = plain_from at text h
cut_of_parts at text (Some x) h = (h.0, plain_from at x.0.now h.1)

-- what `split_once` at a character gives
pub is_cut : (at : ℕ) (text : List ℕ) (r : Option (Bor (List ℕ) × Bor (List ℕ))) → IsSplitOnceResult at text r → at < 128 → IsCut at text r
is_cut at text r h low = cut_of_parts at text r (split_parts at text r h low)

-- of a test that finds nothing, each part
pub or_false : (a b : Bool) → (a || b) ≡ false → (a ≡ false) × (b ≡ false)
or_false false b h = (refl, h)
or_false true b h = absurd (cc h)

pub none_is : (at : ℕ) (text : List ℕ) → has at text ≡ false → All (λ b. eqb b at ≡ false) text
none_is at [] h = λ k d l. absurd (omega (arith, l))
none_is at (b ∷ text) h = λ k d l. let parts = or_false (eqb b at) (has at text) h in at_place k d l parts (none_is at text parts.1)
  where
    at_place : (k d : ℕ) → k < length (b ∷ text) → (eqb b at ≡ false) × (has at text ≡ false) → All (λ b. eqb b at ≡ false) text → eqb (get_or (b ∷ text) k d) at ≡ false
    at_place zero d l parts rest = parts.0
    at_place (suc k) d l parts rest = rest k d (omega (arith, l))

true_eqb : (n : ℕ) → eqb n n ≡ true
true_eqb n = eq-eqb n n refl

-- the pieces of a text that is cut at its first byte of that value
pub cut_pieces : (at : ℕ) (text front rest : List ℕ) → text ≡ front ++ at ∷ rest → has at front ≡ false → pieces at text ≡ front ∷ pieces at rest
cut_pieces at text front rest e plain = ap (pieces at) e ∙ slice_split_at (λ b. eqb b at) front at rest (none_is at front plain) (true_eqb at)

pub plain_pieces : (at : ℕ) (text : List ℕ) → has at text ≡ false → pieces at text ≡ text ∷ []
plain_pieces at text plain = slice_split_none (λ b. eqb b at) text (none_is at text plain)

-- what is behind a cut is shorter
pub cut_length : (at : ℕ) (text front rest : List ℕ) → text ≡ front ++ at ∷ rest → length text ≡ length front + 1 + length rest
cut_length at text front rest e = ap length e ∙ length-append front (at ∷ rest) ∙ omega arith

-- a row of backslashes with one byte more
odd_more : (odd : Bool) (front : List ℕ) (b : ℕ) → odd_from odd (front ++ b ∷ []) ≡ (eqb b 92 && not (odd_from odd front))
odd_more odd [] b = refl
odd_more odd (x ∷ front) b = odd_more (eqb x 92 && not odd) front b

pub last_off : (front : List ℕ) (b : ℕ) → without_last (front ++ b ∷ []) ≡ front
last_off front b =
    let n : length (front ++ b ∷ []) - 1 ≡ length front = omega (arith, length-append front (b ∷ [])) in
    ap (λ k. take k (front ++ b ∷ [])) n ∙ take-append_seam front (b ∷ [])

last_view : (text : List ℕ) → (text ≡ []) ⊎ ((front : List ℕ) × (b : ℕ) × (text ≡ front ++ b ∷ []))
last_view [] = inl refl
last_view (x ∷ text) = elim (last_view text) [
  | inl e ↦ inr ([], x, ap (λ t. x ∷ t) e)
  | inr p ↦ inr (x ∷ p.0, p.1, ap (λ t. x ∷ t) p.2)
]

plain_end : (text front : List ℕ) (b : ℕ) → text ≡ front ++ b ∷ [] → ((front : List ℕ) → text ≢ front ++ 92 ∷ []) → is_escaping text ≡ false
plain_end text front b e other =
    ap is_escaping e ∙ odd_more false front b ∙ ap (λ t. t && not (is_escaping front)) (ne_eqb b 92 (λ same. other front (e ∙ ap (λ v. front ++ v ∷ []) same)))

escaped_of : (text : List ℕ) (front : List ℕ) → text ≡ front ++ 92 ∷ [] → escaped text ≡ cond (is_escaping front) None (Some front)
escaped_of text front e =
    ap escaped e ∙ ap (λ t. cond t (Some (without_last (front ++ 92 ∷ []))) None) (odd_more false front 92) ∙ ap (λ v. cond (not (is_escaping front)) (Some v) None) (last_off front 92)
    ∙ turned (is_escaping front)
  where
    turned : (t : Bool) → cond (not t) (Some front) None ≡ cond t None (Some front)
    turned true = refl
    turned false = refl

pub escaped_none : (text : List ℕ) → ((front : List ℕ) → text ≢ front ++ 92 ∷ []) → escaped text ≡ None
escaped_none text other =
    ap (λ t. cond t (Some (without_last text)) None) (elim (last_view text) [ inl e ↦ ap is_escaping e | inr p ↦ plain_end text p.0 p.1 p.2 other ])

pub escaped_twice : (text front : List ℕ) → text ≡ front ++ 92 ∷ [] → is_escaping front ≡ true → escaped text ≡ None
escaped_twice text front e twice = escaped_of text front e ∙ ap (λ t. cond t None (Some front)) twice

pub escaped_once : (text front : List ℕ) → text ≡ front ++ 92 ∷ [] → is_escaping front ≡ false → escaped text ≡ Some front
escaped_once text front e once = escaped_of text front e ∙ ap (λ t. cond t None (Some front)) once

-- what is kept of a line that is cut at its first `#`
kept_onto : (front : List ℕ) (more : List (List ℕ)) → 0 < length more → kept (front ∷ more) ≡ cond (is_escaping front) (without_last front ++ 35 ∷ kept more) front
kept_onto front [] some = absurd (omega (arith, some))
kept_onto front (next ∷ more) some = refl

kept_cut : (line front rest : List ℕ) → line ≡ front ++ 35 ∷ rest → has 35 front ≡ false → kept (pieces 35 line) ≡ cond (is_escaping front) (without_last front ++ 35 ∷ kept (pieces 35 rest)) front
kept_cut line front rest e plain =
    ap kept (cut_pieces 35 line front rest e plain) ∙ kept_onto front (pieces 35 rest) (omega (arith, length-slice_split (λ b. eqb b 35) rest))

by_escape : (t : Bool) (whole short rest : List ℕ) (r : Option (List ℕ)) → cond t (Some short) None ≡ r → (r ≡ None → cond t rest whole ≡ whole) × ((s : List ℕ) → r ≡ Some s → (t ≡ true) × (s ≡ short))
by_escape true whole short rest r e = (λ none. absurd (cc (e, none)), λ s some. (refl, cc (e, some)))
by_escape false whole short rest r e = (λ none. refl, λ s some. absurd (cc (e, some)))

pub kept_comment : (line front rest : List ℕ) → line ≡ front ++ 35 ∷ rest → has 35 front ≡ false → escaped front ≡ None → kept (pieces 35 line) ≡ front
kept_comment line front rest e plain none =
    kept_cut line front rest e plain ∙ (by_escape (is_escaping front) front (without_last front) (without_last front ++ 35 ∷ kept (pieces 35 rest)) None none).0 refl

pub kept_escaped : (line front rest short : List ℕ) → line ≡ front ++ 35 ∷ rest → has 35 front ≡ false → escaped front ≡ Some short → kept (pieces 35 line) ≡ short ++ 35 ∷ kept (pieces 35 rest)
kept_escaped line front rest short e plain some =
    let (yes_, same) = (by_escape (is_escaping front) front (without_last front) front (Some short) some).1 short refl in
    kept_cut line front rest e plain ∙ ap (λ t. cond t (without_last front ++ 35 ∷ kept (pieces 35 rest)) front) yes_ ∙ ap (λ v. v ++ 35 ∷ kept (pieces 35 rest)) (sym same)

pub kept_plain : (line : List ℕ) → has 35 line ≡ false → kept (pieces 35 line) ≡ line
kept_plain line plain = ap kept (plain_pieces 35 line plain)

-- what `strip_suffix` gives, case by case
pub strips_none : (text : List ℕ) (r : Option (Bor (List ℕ))) → MatchOption r ((front : List ℕ) → text ≢ front ++ (92 ∷ [])) (λ x. text ≡ x.now ++ (92 ∷ [])) → r ≡ None → (front : List ℕ) → text ≢ front ++ 92 ∷ []
strips_none text None h is = h
strips_none text (Some x) h is = absurd (cc is)

pub strips_some : (text : List ℕ) (r : Option (Bor (List ℕ))) (x : Bor (List ℕ)) → MatchOption r ((front : List ℕ) → text ≢ front ++ (92 ∷ [])) (λ x. text ≡ x.now ++ (92 ∷ [])) → r ≡ Some x → text ≡ x.now ++ 92 ∷ []
strips_some text None x h is = absurd (cc is)
strips_some text (Some y) x h is = let same : y ≡ x = cc is in h ∙ ap (λ (b : Bor (List ℕ)). b.now ++ 92 ∷ []) same

-- one piece more is put
pub put_more : (text short rest kept_rest whole once twice : List ℕ) → once ≡ text ++ short → twice ≡ once ++ 35 ∷ [] → kept_rest ≡ short ++ 35 ∷ rest → text ++ kept_rest ≡ whole → twice ++ rest ≡ whole
put_more text short rest kept_rest whole once twice first second is all =
    ap (λ v. v ++ rest) (second ∙ ap (λ v. v ++ 35 ∷ []) first) ∙ append_assoc (text ++ short) (35 ∷ []) rest ∙ append_assoc text short (35 ∷ rest) ∙ ap (λ v. text ++ v) (sym is) ∙ all

-- white space is ASCII
or_cases : (a b : Bool) → (a || b) ≡ true → (a ≡ true) ⊎ (b ≡ true)
or_cases true b h = inl refl
or_cases false b h = inr h

low_of : (n b : ℕ) → n < 128 → eqb b n ≡ true → b < 128
low_of n b low same = let P : ℕ → Type 0 = λ v. v < 128 in subst P (sym (eqb-true b n same)) low

pub white_ascii : (b : ℕ) → is_white b ≡ true → b < 128
white_ascii b h =
    elim (or_cases (eqb b 32 || eqb b 9 || eqb b 13 || eqb b 11) (eqb b 12) h) [
      | inr e ↦ low_of 12 b (lit< tt) e
      | inl h ↦ elim (or_cases (eqb b 32 || eqb b 9 || eqb b 13) (eqb b 11) h) [
        | inr e ↦ low_of 11 b (lit< tt) e
        | inl h ↦ elim (or_cases (eqb b 32 || eqb b 9) (eqb b 13) h) [
          | inr e ↦ low_of 13 b (lit< tt) e
          | inl h ↦ elim (or_cases (eqb b 32) (eqb b 9) h) [ inl e ↦ low_of 32 b (lit< tt) e | inr e ↦ low_of 9 b (lit< tt) e ]
        ]
      ]
    ]

-- one byte of white space more at the beginning
pub record Starts (text : List ℕ) (start : ℕ) : Type 0 where
  pub within : start ≤ length text
  pub rest : prefix_len is_white text ≡ start + prefix_len is_white (drop start text)
  pub cut : IsCharBoundary text start

pub start_more : (text : List ℕ) (start : ℕ) → IsUtf8 text → start < length text → prefix_len is_white text ≡ start + prefix_len is_white (drop start text) → is_white (get_or text start 0) ≡ true → Starts text (start + 1)
start_more text start utf8 within so_far white = record {
  within = omega (arith, within);
  rest = omega (arith, so_far, prefix_len-drop_yes is_white text start 0 within white);
  cut = IsCharBoundary-after_ascii text start utf8 within (white_ascii (get_or text start 0) white);
}

-- the parts of a text at its first byte of that value
pub cut_is_none : (at : ℕ) (text : List ℕ) → has at text ≡ false → cut_at at text ≡ None
cut_is_none at [] h = refl
cut_is_none at (b ∷ text) h =
    let (here, later) = or_false (eqb b at) (has at text) h in
    ap (λ t. cond t (Some ([], text)) (option_map (λ p. (b ∷ p.0, p.1)) (cut_at at text))) here ∙ ap (option_map (λ p. (b ∷ p.0, p.1))) (cut_is_none at text later)

cut_onto : (at : ℕ) (front rest : List ℕ) → has at front ≡ false → cut_at at (front ++ at ∷ rest) ≡ Some (front, rest)
cut_onto at [] rest h = ap (λ t. cond t (Some ([], rest)) (option_map (λ p. (at ∷ p.0, p.1)) (cut_at at rest))) (true_eqb at)
cut_onto at (b ∷ front) rest h =
    let (here, later) = or_false (eqb b at) (has at front) h in
    ap (λ t. cond t (Some ([], front ++ at ∷ rest)) (option_map (λ p. (b ∷ p.0, p.1)) (cut_at at (front ++ at ∷ rest)))) here ∙ ap (option_map (λ p. (b ∷ p.0, p.1))) (cut_onto at front rest later)

pub cut_is_some : (at : ℕ) (text front rest : List ℕ) → text ≡ front ++ at ∷ rest → has at front ≡ false → cut_at at text ≡ Some (front, rest)
cut_is_some at text front rest e h = ap (cut_at at) e ∙ cut_onto at front rest h

-- the elements of a text are bytes
pub text_bytes : (text : List ℕ) → ((k : ℕ) → get_or text k 0 < 256) → All (λ b. b < 256) text
text_bytes text each = λ k d h. rw (get_or_default text k d 0 h) (each k)
