-- The lines that begin with a letter, counted byte by byte.
use Rattle.std.proofs.Common.{ℕ, suc, ◌≡◌, ◌≢◌, ◌+◌, ◌≤◌, Bool, true, false, cond, ◌&&◌, List, [], ◌∷◌, length, refl, sym, ap, ◌∙◌, arith, eqb, eqb-true, drop, get_or, drop-cons, add-one, ◌<◌}
use Rattle.std.specs.List.{onto_first, slice_split}
use Rattle.std.proofs.lemmas.List.{drop_all}
use Rattle.hg_cli.specs.Lines.{count_lines, lines_with}

-- by whether a line begins with the next byte
abbrev pub lines_from : Bool → ℕ → List ℕ → ℕ
lines_from begins letter [] = 0
lines_from begins letter (b ∷ text) = cond (begins && eqb b letter) 1 0 + lines_from (eqb b 10) letter text

abbrev rest : List (List ℕ) → List (List ℕ)
rest [] = []
rest (line ∷ lines) = lines

abbrev parts : List ℕ → List (List ℕ)
parts text = slice_split (λ b. eqb b 10) text

-- a byte more at the first line
first_more : (letter b : ℕ) (lines : List (List ℕ)) → count_lines letter (onto_first b lines) ≡ cond (eqb b letter) (suc (count_lines letter (rest lines))) (count_lines letter (rest lines))
first_more letter b [] = refl
first_more letter b (line ∷ lines) = refl

rest_more : (b : ℕ) (lines : List (List ℕ)) → rest (onto_first b lines) ≡ rest lines
rest_more b [] = refl
rest_more b (line ∷ lines) = refl

module _ (letter : ℕ) (solid : letter ≢ 10) where
  abbrev Both : List ℕ → Type 0
  Both text = (lines_from true letter text ≡ count_lines letter (parts text)) × (lines_from false letter text ≡ count_lines letter (rest (parts text)))

  no_letter : (b : ℕ) → eqb b 10 ≡ true → eqb b letter ≡ true → ⊥
  no_letter b end is = solid (sym (eqb-true b letter is) ∙ eqb-true b 10 end)

  one_more : (b : ℕ) (text : List ℕ) → Both text → (end is : Bool) → eqb b 10 ≡ end → eqb b letter ≡ is
      → (cond is 1 0 + lines_from end letter text ≡ count_lines letter (cond end ([] ∷ parts text) (onto_first b (parts text))))
      × (lines_from end letter text ≡ count_lines letter (rest (cond end ([] ∷ parts text) (onto_first b (parts text)))))
  one_more b text both true true end is = absurd (no_letter b end is)
  one_more b text both true false end is = (omega (arith, both.0), both.0)
  one_more b text both false true end is =
      let e : count_lines letter (onto_first b (parts text)) ≡ suc (count_lines letter (rest (parts text))) =
      first_more letter b (parts text) ∙ ap (λ (t : Bool). cond t (suc (count_lines letter (rest (parts text)))) (count_lines letter (rest (parts text)))) is in
      (omega (arith, e, both.1), both.1 ∙ ap (count_lines letter) (sym (rest_more b (parts text))))
  one_more b text both false false end is =
      let e : count_lines letter (onto_first b (parts text)) ≡ count_lines letter (rest (parts text)) =
      first_more letter b (parts text) ∙ ap (λ (t : Bool). cond t (suc (count_lines letter (rest (parts text)))) (count_lines letter (rest (parts text)))) is in
      (omega (arith, e, both.1), both.1 ∙ ap (count_lines letter) (sym (rest_more b (parts text))))

  both_ways_count : (text : List ℕ) → Both text
  both_ways_count [] = (refl, refl)
  both_ways_count (b ∷ text) = let h = one_more b text (both_ways_count text) (eqb b 10) (eqb b letter) refl refl in (h.0, omega (arith, h.1))

  pub counted : (text : List ℕ) → lines_from true letter text ≡ lines_with letter text
  counted text = (both_ways_count text).0

-- one byte more
pub step : (letter : ℕ) (begins : Bool) (text : List ℕ) (i b lines more : ℕ) → i < length text → b ≡ get_or text i 0
    → lines_from true letter text ≡ lines + lines_from begins letter (drop i text) → more ≡ cond (begins && eqb b letter) 1 0
    → lines_from true letter text ≡ lines + more + lines_from (eqb b 10) letter (drop (i + 1) text)
step letter begins text i b lines more below is sum so =
    let cut : drop i text ≡ get_or text i 0 ∷ drop (i + 1) text = rw (add-one) (drop-cons text i 0 below) in
    let e : lines_from begins letter (drop i text) ≡ cond (begins && eqb b letter) 1 0 + lines_from (eqb b 10) letter (drop (i + 1) text) =
    ap (lines_from begins letter) cut ∙ ap (λ (x : ℕ). cond (begins && eqb x letter) 1 0 + lines_from (eqb x 10) letter (drop (i + 1) text)) (sym is) in
    omega (arith, sum, e, so)

-- and no byte is left
pub all_counted : (letter : ℕ) (begins : Bool) (text : List ℕ) (i lines : ℕ) → letter ≢ 10 → length text ≤ i
    → lines_from true letter text ≡ lines + lines_from begins letter (drop i text) → lines ≡ lines_with letter text
all_counted letter begins text i lines solid end sum =
    let none : lines_from begins letter (drop i text) ≡ 0 = ap (lines_from begins letter) (drop_all i text end) in
    let all : lines_from true letter text ≡ lines_with letter text = counted letter solid text in
    omega (arith, sum, none, all)

pub one_at_most : (t : Bool) (n : ℕ) → n ≡ cond t 1 0 → n ≤ 1
one_at_most true n is = omega (arith, is)
one_at_most false n is = omega (arith, is)
