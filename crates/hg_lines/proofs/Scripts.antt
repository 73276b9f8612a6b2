-- What a script is, by its next line: refused as soon as enough of it was taken, or read whole.
use Rattle.std.proofs.Common.{◌≡◌, ℕ, ◌+◌, ◌<◌, ◌≤◌, min, Bool, true, false, cond, List, [], ◌∷◌, ◌++◌, length, take, drop, Option, Some, None, refl, sym, ap, ◌∙◌, append_assoc, arith, ltb, take-append-drop}
use Rattle.std.specs.Str.{is_utf8}
use Rattle.std.proofs.lemmas.Bool.{le-ltb, lt-ltb, ne_eqb}
use Rattle.std.proofs.lemmas.List.{length-append, length-take-le}
use Rattle.std.proofs.lemmas.List.Splits.{length-slice_split}
use Rattle.hg_lines.proofs.Cuts.{FirstPiece, first_piece, pieces_at, plain_more}
use Rattle.hg_lines.specs.Script.{Reading, ended, has_end, held, is_end, judged, pieces, refusal, script_from}
use Rattle.hg_lines.specs.Steps.{Ends, IsRefused, Refuses}
use Rattle.hg_lines.specs.declared.fault.LineFault.{LineFault}
use Rattle.hg_lines.specs.declared.fault.LineFault.TheVariants as a_fault

-- ---- one line

abbrev by_text : ℕ → List ℕ → Option LineFault
by_text number line = cond (is_utf8 line) None (Some (a_fault.Text number))

abbrev by_length : ℕ → List ℕ → Option LineFault
by_length number line = cond (ltb 65536 (length line)) (Some (a_fault.Line number)) (by_text number line)

large : (before number size : ℕ) (line : List ℕ) → 67108864 < before + min size 65537 → refusal before number size line ≡ Some (a_fault.TooLarge 67108865)
large before number size line over =
    ap (λ (t : Bool). cond t (Some (a_fault.TooLarge 67108865)) (by_length number line)) (lt-ltb 67108864 (before + min size 65537) over)

within : (before number size : ℕ) (line : List ℕ) → before + min size 65537 ≤ 67108864 → refusal before number size line ≡ by_length number line
within before number size line room =
    ap (λ (t : Bool). cond t (Some (a_fault.TooLarge 67108865)) (by_length number line)) (le-ltb 67108864 (before + min size 65537) room)

long : (before number size : ℕ) (line : List ℕ) → before + 65537 ≤ 67108864 → 65536 < length line → refusal before number size line ≡ Some (a_fault.Line number)
long before number size line room over =
    within before number size line (omega (arith, room)) ∙ ap (λ (t : Bool). cond t (Some (a_fault.Line number)) (by_text number line)) (lt-ltb 65536 (length line) over)

pub text_of : (before number size : ℕ) (line : List ℕ) → before + size ≤ 67108864 → length line ≤ 65536 → refusal before number size line ≡ by_text number line
text_of before number size line room short =
    within before number size line (omega (arith, room)) ∙ ap (λ (t : Bool). cond t (Some (a_fault.Line number)) (by_text number line)) (le-ltb 65536 (length line) short)

-- ---- the pieces

pub from_more : (before number : ℕ) (line : List ℕ) (behind : List (List ℕ)) (answer : Option LineFault) → 0 < length behind → refusal before number (length line + 1) line ≡ answer
    → script_from before number (line ∷ behind) ≡ judged answer line (script_from (before + length line + 1) (number + 1) behind)
from_more before number line [] answer some is = absurd (omega (arith, some))
from_more before number line (next ∷ more) answer some is = ap (λ (a : Option LineFault). judged a line (script_from (before + length line + 1) (number + 1) (next ∷ more))) is

pub from_last : (before number : ℕ) (line : List ℕ) (answer : Option LineFault) → 0 < length line → refusal before number (length line) line ≡ answer → script_from before number (line ∷ []) ≡ judged answer line (ended None)
from_last before number line answer some is =
    ap (λ (t : Bool). cond t (ended None) (judged (refusal before number (length line) line) line (ended None))) (ne_eqb (length line) 0 (λ none. omega (arith, some, none)))
    ∙ ap (λ (a : Option LineFault). judged a line (ended None)) is

from_large : (before number n : ℕ) (line : List ℕ) (behind : List (List ℕ)) → before ≤ 67108864 → n ≤ length line → 67108864 < before + min n 65537
    → script_from before number (line ∷ behind) ≡ ended (Some (a_fault.TooLarge 67108865))
from_large before number n line [] low part over =
    from_last before number line (Some (a_fault.TooLarge 67108865)) (omega (arith, low, part, over)) (large before number (length line) line (omega (arith, part, over)))
from_large before number n line (next ∷ more) low part over =
    from_more before number line (next ∷ more) (Some (a_fault.TooLarge 67108865)) (omega arith) (large before number (length line + 1) line (omega (arith, part, over)))

from_long : (before number : ℕ) (line : List ℕ) (behind : List (List ℕ)) → before + 65537 ≤ 67108864 → 65536 < length line → script_from before number (line ∷ behind) ≡ ended (Some (a_fault.Line number))
from_long before number line [] room over = from_last before number line (Some (a_fault.Line number)) (omega (arith, over)) (long before number (length line) line room over)
from_long before number line (next ∷ more) room over = from_more before number line (next ∷ more) (Some (a_fault.Line number)) (omega arith) (long before number (length line + 1) line room over)

-- every text has a piece
pub some_piece_of : (text : List ℕ) → 0 < length (pieces text)
some_piece_of text = omega (arith, length-slice_split is_end text)

-- ---- what was taken of a line, and what comes behind that

cut_long : (before number : ℕ) (taken tail : List ℕ) → has_end taken ≡ false → before + 65537 ≤ 67108864 → 65536 < length taken → script_from before number (pieces (taken ++ tail)) ≡ ended (Some (a_fault.Line number))
cut_long before number taken tail whole room over =
    let first : FirstPiece taken (taken ++ tail) = first_piece taken tail whole in
    ap (script_from before number) first.parts
    ∙ from_long before number (taken ++ first.more) first.behind room (omega (arith, over, length-append taken first.more))

cut_large : (before number : ℕ) (taken tail : List ℕ) → has_end taken ≡ false → before ≤ 67108864 → 67108864 < before + min (length taken) 65537
    → script_from before number (pieces (taken ++ tail)) ≡ ended (Some (a_fault.TooLarge 67108865))
cut_large before number taken tail whole low over =
    let first : FirstPiece taken (taken ++ tail) = first_piece taken tail whole in
    ap (script_from before number) first.parts
    ∙ from_large before number (length taken) (taken ++ first.more) first.behind low (omega (arith, length-append taken first.more)) over

cut_large_end : (before number : ℕ) (taken tail : List ℕ) → has_end taken ≡ false → 67108864 < before + min (length taken + 1) 65537
    → script_from before number (pieces (taken ++ 10 ∷ tail)) ≡ ended (Some (a_fault.TooLarge 67108865))
cut_large_end before number taken tail whole over =
    ap (script_from before number) (pieces_at taken tail whole)
    ∙ from_more before number taken (pieces tail) (Some (a_fault.TooLarge 67108865)) (some_piece_of tail) (large before number (length taken + 1) taken over)

-- the bytes in another grouping: what belongs to the line first
regrouped : (line piece rest : List ℕ) (n : ℕ) → (line ++ piece) ++ rest ≡ (line ++ take n piece) ++ (drop n piece ++ rest)
regrouped line piece rest n = ap (λ (p : List ℕ). (line ++ p) ++ rest) (sym (take-append-drop n piece)) ∙ simp append_assoc

module _ (reading : Reading) (n : ℕ) (whole : has_end reading.line ≡ false) (low : reading.before ≤ 67108864) (within_piece : n ≤ length reading.piece) (plain : has_end (take n reading.piece) ≡ false) where
  abbrev taken : List ℕ
  taken = reading.line ++ take n reading.piece

  clean : has_end taken ≡ false
  clean = plain_more reading.line (take n reading.piece) whole plain

  size : length taken ≡ length reading.line + n
  size = omega (arith, length-append reading.line (take n reading.piece), length-take-le n reading.piece within_piece)

  in_script : (fault : LineFault) → ((tail : List ℕ) → script_from reading.before (reading.number + 1) (pieces (taken ++ (drop n reading.piece ++ tail))) ≡ ended (Some fault))
      → (rest : List ℕ) → script_from reading.before (reading.number + 1) (pieces (held reading ++ rest)) ≡ ended (Some fault)
  in_script fault so rest = ap (λ (t : List ℕ). script_from reading.before (reading.number + 1) (pieces t)) (regrouped reading.line reading.piece rest n) ∙ so rest

  large_by : (ends : Bool) → (ends ≡ true → Ends (drop n reading.piece)) → Refuses reading.before (reading.number + 1) (length reading.line + n) ends (Some (a_fault.TooLarge 67108865))
      → (tail : List ℕ) → script_from reading.before (reading.number + 1) (pieces (taken ++ (drop n reading.piece ++ tail))) ≡ ended (Some (a_fault.TooLarge 67108865))
  large_by true end refuses tail =
      let at = end refl in
      ap (λ (p : List ℕ). script_from reading.before (reading.number + 1) (pieces (taken ++ (p ++ tail)))) at.1
      ∙ cut_large_end reading.before (reading.number + 1) taken (at.0 ++ tail) clean (omega (arith, refuses.1, size))
  large_by false end refuses tail = cut_large reading.before (reading.number + 1) taken (drop n reading.piece ++ tail) clean low (omega (arith, refuses.1, size))

  pub is_refused : (ends : Bool) (fault : LineFault) → (ends ≡ true → Ends (drop n reading.piece)) → Refuses reading.before (reading.number + 1) (length reading.line + n) ends (Some fault) → IsRefused reading fault
  is_refused ends a_fault.OutOfMemory end refuses = tt
  is_refused ends a_fault.Failed end refuses = tt
  is_refused ends (a_fault.Line k) end refuses =
      (refuses.0, in_script (a_fault.Line k) (λ tail. cut_long reading.before (reading.number + 1) taken (drop n reading.piece ++ tail) clean refuses.2 (omega (arith, refuses.1, size)) ∙ ap (λ (m : ℕ). ended (Some (a_fault.Line m))) (sym refuses.0)))
  is_refused ends (a_fault.Text k) end refuses = absurd refuses
  is_refused ends (a_fault.TooLarge most) end refuses =
      (refuses.0, in_script (a_fault.TooLarge most) (λ tail. large_by ends end (refl, refuses.1) tail ∙ ap (λ (m : ℕ). ended (Some (a_fault.TooLarge m))) (sym refuses.0)))
