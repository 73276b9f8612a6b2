-- The letter of each file of the copy, by the rest of its number by sixteen.
use Rattle.std.proofs.Common.{ℕ, ◌≡◌, ◌+◌, ◌%◌, ◌<◌, ◌^◌, Bool, true, false, not, cond, ◌||◌, List, [], ◌∷◌, ◌++◌, get_or, Option, Some, None, inl, inr, refl, sym, ap, subst, ◌∙◌, arith, eqb}
use Rattle.std.specs.Prelude.{codes, drop, option_map}
use Rattle.std.specs.Char.{digit_value}
use Rattle.std.specs.Fmt.{decimal}
use Rattle.std.specs.Str.{bytes_eq}
use Rattle.std.specs.Str.Parse.{AllDigits}
use Rattle.std.proofs.lemmas.Bool.{cases_lt}
use Rattle.std.proofs.lemmas.Fmt.{decimal_is_IsNumeral}
use Rattle.hg_compare.specs.Tracked.{ParentRow, is_file_or_link, tracked_letter}
use Rattle.hg_compare.specs.declared.letter.Letter.{Letter}
use Rattle.hg_compare.specs.declared.letter.Letter.TheVariants as a_letter
use Rattle.hg_entry.specs.Table.{Marks, marks_of}
use Rattle.hg_gen.specs.Copy.{on_disk, placed, text_of}
use Rattle.hg_gen.specs.Manifest.{is_in_parent}
use Rattle.hg_gen.specs.Recorded.{entry_of, is_tracked}
use Rattle.hg_gen.proofs.Naming.{other_bytes}
use Rattle.hg_tree.proofs.Planting.{equal_bytes}
use Rattle.hg_tree.specs.declared.thing.Placed.{Placed}
use Rattle.hg_tree.specs.declared.thing.Thing.TheVariants as a_thing

-- the letter of a file with this rest
abbrev pub letter_of : ℕ → Letter
letter_of r =
    cond (eqb r 3) a_letter.M
    (cond (eqb r 5) a_letter.Gone
    (cond (eqb r 7) a_letter.M
    (cond (eqb r 9) a_letter.Unknown (cond (eqb r 11) a_letter.A (cond (eqb r 13) a_letter.R a_letter.C)))))

-- what the first parent has of a file of this text
abbrev pub parent_of : List ℕ → ParentRow
parent_of text = record { exec = false; link = false; bytes = Some text }

abbrev has_parent : ℕ → Bool
has_parent r = not (eqb r 9 || eqb r 11)

abbrev has_mark : ℕ → Bool
has_mark r = not (eqb r 9 || eqb r 13)

abbrev marks_at : ℕ → Option Marks
marks_at r = cond (has_mark r || has_parent r) (Some (record { w = has_mark r; p1 = has_parent r; p2 = false })) None

abbrev thing_at : ℕ → List ℕ → List ℕ → Option Placed
thing_at r text other = cond (not (eqb r 5 || eqb r 13)) (Some (placed (a_thing.File (eqb r 7) (cond (eqb r 3) other text)))) None

-- a letter is that of a path with these marks, or without an entry
abbrev pub Tells : Option Marks → Option ParentRow → Option Placed → Letter → Type 0
Tells None row thing letter = (letter ≡ a_letter.Unknown) × (is_file_or_link thing ≡ true)
Tells (Some marks) row thing letter = tracked_letter row marks false thing ≡ Some letter

-- ---- one after another

one_more : (n : ℕ) (P : ℕ → Type 0) → P n → ((r : ℕ) → r < n → P r) → (r : ℕ) → r < n + 1 → P r
one_more n P last before r below = elim (cases_lt r n) [
  | inl less ↦ before r less
  | inr late ↦ let same : n ≡ r = omega (arith, below, late) in subst P same last
]

module _ (text other : List ℕ) (differ : bytes_eq text other ≡ false) where
  abbrev At : ℕ → Type 0
  At r = (row : Option ParentRow) → (has_parent r ≡ true → row ≡ Some (parent_of text)) → Tells (marks_at r) row (thing_at r text other) (letter_of r)

  abbrev both : Marks
  both = record { w = true; p1 = true; p2 = false }

  clean : (row : Option ParentRow) → row ≡ Some (parent_of text) → tracked_letter row both false (Some (placed (a_thing.File false text))) ≡ Some a_letter.C
  clean row is =
      ap (λ (o : Option ParentRow). tracked_letter o both false (Some (placed (a_thing.File false text)))) is
      ∙ ap (λ (b : Bool). Some (cond b a_letter.C a_letter.M)) (equal_bytes text)

  changed : (row : Option ParentRow) → row ≡ Some (parent_of text) → tracked_letter row both false (Some (placed (a_thing.File false other))) ≡ Some a_letter.M
  changed row is =
      ap (λ (o : Option ParentRow). tracked_letter o both false (Some (placed (a_thing.File false other)))) is
      ∙ ap (λ (b : Bool). Some (cond b a_letter.C a_letter.M)) differ

  turned : (row : Option ParentRow) → row ≡ Some (parent_of text) → tracked_letter row both false (Some (placed (a_thing.File true text))) ≡ Some a_letter.M
  turned row is = ap (λ (o : Option ParentRow). tracked_letter o both false (Some (placed (a_thing.File true text)))) is

  each : (r : ℕ) → r < 16 → At r
  each =
      one_more 15 At (λ row is. clean row (is refl))
      (one_more 14 At (λ row is. clean row (is refl))
      (one_more 13 At (λ row is. refl)
      (one_more 12 At (λ row is. clean row (is refl))
      (one_more 11 At (λ row is. refl)
      (one_more 10 At (λ row is. clean row (is refl))
      (one_more 9 At (λ row is. (refl, refl))
      (one_more 8 At (λ row is. clean row (is refl))
      (one_more 7 At (λ row is. turned row (is refl))
      (one_more 6 At (λ row is. clean row (is refl))
      (one_more 5 At (λ row is. refl)
      (one_more 4 At (λ row is. clean row (is refl))
      (one_more 3 At (λ row is. changed row (is refl))
      (one_more 2 At (λ row is. clean row (is refl))
      (one_more 1 At (λ row is. clean row (is refl))
      (one_more 0 At (λ row is. clean row (is refl)) (λ r below. absurd (omega (arith, below))))))))))))))))))

-- ---- of the files themselves

-- the first byte of a number is no `x`
not_x : (ds rest : List ℕ) → AllDigits 10 ds → ds ++ 10 ∷ [] ≡ 120 ∷ rest → ⊥
not_x [] rest h same = let e : 10 ≡ 120 = ap (λ (l : List ℕ). get_or l 0 0) same in absurd (omega (arith, e))
not_x (d ∷ ds) rest h same =
    let e : d ≡ 120 = ap (λ (l : List ℕ). get_or l 0 0) same in
    let low : digit_value 120 < 10 = subst (λ (x : ℕ). digit_value x < 10) e h.0 in
    absurd (omega (arith, low))

abbrev changed_text : ℕ → List ℕ
changed_text file = codes "x" ++ drop 1 (text_of file)

text_differs : (file : ℕ) → file < 2 ^ 64 → bytes_eq (text_of file) (changed_text file) ≡ false
text_differs file small = other_bytes (text_of file) (changed_text file) (not_x (decimal file) (drop 1 (text_of file)) (decimal_is_IsNumeral file small).0.1)

marks_so : (b w p1 : Bool) → option_map marks_of (cond b (Some (record { w = w; p1 = p1; p2 = false; exec = false; link = false; size = None; stamp = None; modified = false; fallback = 0 })) None) ≡ cond b (Some (record { w = w; p1 = p1; p2 = false })) None
marks_so true w p1 = refl
marks_so false w p1 = refl

pub tells : (file : ℕ) → file < 2 ^ 64 → (row : Option ParentRow) → (is_in_parent file ≡ true → row ≡ Some (parent_of (text_of file)))
    → Tells (option_map marks_of (entry_of file)) row (on_disk file) (letter_of (file % 16))
tells file small row is =
    subst (λ (m : Option Marks). Tells m row (on_disk file) (letter_of (file % 16))) (sym (marks_so (is_tracked file || is_in_parent file) (is_tracked file) (is_in_parent file)))
    (each (text_of file) (changed_text file) (text_differs file small) (file % 16) (omega arith) row is)
