-- What the next line's answers say, by how far it was read.
use Rattle.std.proofs.Common.{◌≡◌, ℕ, ◌+◌, ◌<◌, ◌≤◌, Bool, false, cond, List, [], ◌∷◌, ◌++◌, length, drop, Option, Some, None, Result, Ok, Err, refl, sym, ap, ◌∙◌, subst, append_assoc, arith, inl, inr}
use Rattle.std.specs.Prelude.{IfSome}
use Rattle.std.specs.Str.{is_utf8}
use Rattle.std.proofs.lemmas.List.{append-nil}
use Rattle.hg_lines.proofs.Cuts.{pieces_at, pieces_last}
use Rattle.hg_lines.proofs.Scripts.{from_last, from_more, some_piece_of, text_of}
use Rattle.hg_lines.specs.Script.{Answers, IsHanded, IsLine, IsStill, Reading, Reads, ReadsFrom, all_of, ended, has_end, held, onto, pieces, refusal, script_behind, script_from}
use Rattle.hg_lines.specs.Steps.{HasEnd, IsRefused, IsText, passed}
use Rattle.hg_lines.specs.declared.fault.LineFault.{LineFault}
use Rattle.hg_lines.specs.declared.fault.LineFault.TheVariants as a_fault

-- the same lines stand before
behind_still : (old mid : Reading) (text : List ℕ) → IsStill old mid → script_behind old text ≡ script_behind mid text
behind_still old mid text still =
    ap (λ (b : ℕ). script_from b (old.number + 1) (pieces text)) (sym still.before) ∙ ap (λ (n : ℕ). script_from mid.before (n + 1) (pieces text)) (sym still.number)

by_left : (old mid new : Reading) (to : Option (List ℕ)) (answer : Result (Option (List ℕ)) LineFault)
    → ((rest : List ℕ) → to ≡ Some rest → Reads old (held mid ++ rest) new (held new ++ rest) answer) → ReadsFrom old (all_of mid to) new (all_of new to) answer
by_left old mid new None answer so = tt
by_left old mid new (Some rest) answer so = so rest refl

-- what an answer says is said of the bytes that are held and left once the line was reached
reads_by : (old mid new : Reading) (from to : Option (List ℕ)) (answer : Result (Option (List ℕ)) LineFault) → all_of mid to ≡ all_of old from
    → ((rest : List ℕ) → to ≡ Some rest → Reads old (held mid ++ rest) new (held new ++ rest) answer) → ReadsFrom old (all_of old from) new (all_of new to) answer
reads_by old mid new from to answer all so = subst (λ (bytes : Option (List ℕ)). ReadsFrom old bytes new (all_of new to) answer) all (by_left old mid new to answer so)

no_rest : (to : Option (List ℕ)) (rest : List ℕ) → IfSome to (λ left. left ≡ []) → to ≡ Some rest → rest ≡ []
no_rest None rest none is = absurd (cc is)
no_rest (Some left) rest none is = sym (cc is) ∙ none

-- ---- a line

module _ (old mid : Reading) (from to : Option (List ℕ)) (still : IsStill old mid) (all : all_of mid to ≡ all_of old from) where
  fine_text : (size : ℕ) → mid.before + size ≤ 67108864 → IsLine mid.line → refusal mid.before (mid.number + 1) size mid.line ≡ None
  fine_text size room fine = text_of mid.before (mid.number + 1) size mid.line room fine.short ∙ ap (λ (t : Bool). cond t None (Some (a_fault.Text (mid.number + 1)))) fine.text

  pub read_end : HasEnd mid → IsLine mid.line → ReadsFrom old (all_of old from) (passed mid 1) (all_of (passed mid 1) to) (Ok (Some mid.line))
  read_end ends fine =
      reads_by old mid (passed mid 1) from to (Ok (Some mid.line)) all
      (λ rest is.
      let tail : List ℕ = drop 1 mid.piece ++ rest in
      let first : held mid ++ rest ≡ mid.line ++ 10 ∷ tail =
      ap (λ (p : List ℕ). (mid.line ++ p) ++ rest) ends.0.1 ∙ append_assoc mid.line (10 ∷ ends.0.0) rest
      ∙ ap (λ (q : List ℕ). mid.line ++ 10 ∷ (q ++ rest)) (sym (ap (λ (q : List ℕ). drop 1 q) ends.0.1)) in (
        inl first,
        behind_still old mid (held mid ++ rest) still ∙ ap (script_behind mid) first ∙ ap (script_from mid.before (mid.number + 1)) (pieces_at mid.line tail fine.whole)
            ∙ from_more mid.before (mid.number + 1) mid.line (pieces tail) None (some_piece_of tail) (fine_text (length mid.line + 1) (omega (arith, ends.1)) fine),
      ))

  pub read_last : mid.piece ≡ [] → IfSome to (λ left. left ≡ []) → 0 < length mid.line → mid.before + length mid.line ≤ 67108864 → IsLine mid.line
      → ReadsFrom old (all_of old from) (passed mid 0) (all_of (passed mid 0) to) (Ok (Some mid.line))
  read_last none end some room fine =
      reads_by old mid (passed mid 0) from to (Ok (Some mid.line)) all
      (λ rest is.
      let empty : rest ≡ [] = no_rest to rest end is in
      let first : held mid ++ rest ≡ mid.line =
      ap (λ (p : List ℕ). (mid.line ++ p) ++ rest) none ∙ ap (λ (r : List ℕ). (mid.line ++ []) ++ r) empty ∙ append-nil (mid.line ++ []) ∙ append-nil mid.line in
      let behind : held (passed mid 0) ++ rest ≡ [] = ap (λ (p : List ℕ). drop 0 p ++ rest) none ∙ empty in (
        inr (first, behind, some),
        behind_still old mid (held mid ++ rest) still ∙ ap (script_behind mid) first ∙ ap (script_from mid.before (mid.number + 1)) (pieces_last mid.line fine.whole)
            ∙ from_last mid.before (mid.number + 1) mid.line None some (fine_text (length mid.line) room fine)
            ∙ ap (λ (t : List ℕ). onto mid.line (script_behind (passed mid 0) t)) (sym behind),
      ))

  pub read_none : mid.piece ≡ [] → IfSome to (λ left. left ≡ []) → mid.line ≡ [] → ReadsFrom old (all_of old from) mid (all_of mid to) (Ok None)
  read_none none end done =
      reads_by old mid mid from to (Ok None) all
      (λ rest is.
      let empty : held mid ++ rest ≡ [] = ap (λ (p : List ℕ). (mid.line ++ p) ++ rest) none ∙ ap (λ (l : List ℕ). (l ++ []) ++ rest) done ∙ no_rest to rest end is in
      (empty, empty))

  -- ---- a fault

  refused_by : (fault : LineFault) (rest : List ℕ) → IsRefused mid fault → Reads old (held mid ++ rest) mid (held mid ++ rest) (Err fault)
  refused_by a_fault.OutOfMemory rest refused = refl
  refused_by a_fault.Failed rest refused = refl
  refused_by (a_fault.Line n) rest refused = (refl, behind_still old mid (held mid ++ rest) still ∙ refused.1 rest)
  refused_by (a_fault.Text n) rest refused = (refl, behind_still old mid (held mid ++ rest) still ∙ refused.1 rest)
  refused_by (a_fault.TooLarge size) rest refused = (refl, behind_still old mid (held mid ++ rest) still ∙ refused.1 rest)

  pub read_refused : (fault : LineFault) → IsRefused mid fault → ReadsFrom old (all_of old from) mid (all_of mid to) (Err fault)
  read_refused fault refused = reads_by old mid mid from to (Err fault) all (λ rest is. refused_by fault rest refused)

  not_text : (size : ℕ) → mid.before + size ≤ 67108864 → length mid.line ≤ 65536 → is_utf8 mid.line ≡ false → refusal mid.before (mid.number + 1) size mid.line ≡ Some (a_fault.Text (mid.number + 1))
  not_text size room short bad = text_of mid.before (mid.number + 1) size mid.line room short ∙ ap (λ (t : Bool). cond t None (Some (a_fault.Text (mid.number + 1)))) bad

  text_end_by : (fault : LineFault) (rest : List ℕ) → HasEnd mid → has_end mid.line ≡ false → length mid.line ≤ 65536 → IsText (mid.number + 1) mid.line (Err fault)
      → Reads old (held mid ++ rest) mid (held mid ++ rest) (Err fault)
  text_end_by a_fault.OutOfMemory rest ends whole short bad = refl
  text_end_by a_fault.Failed rest ends whole short bad = refl
  text_end_by (a_fault.Line n) rest ends whole short bad = absurd bad
  text_end_by (a_fault.TooLarge size) rest ends whole short bad = absurd bad
  text_end_by (a_fault.Text n) rest ends whole short bad = (
    refl,
    behind_still old mid (held mid ++ rest) still
        ∙ ap (script_behind mid) (ap (λ (p : List ℕ). (mid.line ++ p) ++ rest) ends.0.1 ∙ append_assoc mid.line (10 ∷ ends.0.0) rest)
        ∙ ap (script_from mid.before (mid.number + 1)) (pieces_at mid.line (ends.0.0 ++ rest) whole)
        ∙ from_more mid.before (mid.number + 1) mid.line (pieces (ends.0.0 ++ rest)) (Some (a_fault.Text (mid.number + 1))) (some_piece_of (ends.0.0 ++ rest)) (not_text (length mid.line + 1) (omega (arith, ends.1)) short bad.1)
        ∙ ap (λ (n : ℕ). ended (Some (a_fault.Text n))) (sym bad.0),
  )

  pub text_end : (fault : LineFault) → HasEnd mid → has_end mid.line ≡ false → length mid.line ≤ 65536 → IsText (mid.number + 1) mid.line (Err fault) → ReadsFrom old (all_of old from) mid (all_of mid to) (Err fault)
  text_end fault ends whole short bad = reads_by old mid mid from to (Err fault) all (λ rest is. text_end_by fault rest ends whole short bad)

  text_last_by : (fault : LineFault) (rest : List ℕ) → mid.piece ≡ [] → rest ≡ [] → 0 < length mid.line → mid.before + length mid.line ≤ 67108864 → has_end mid.line ≡ false → length mid.line ≤ 65536
      → IsText (mid.number + 1) mid.line (Err fault) → Reads old (held mid ++ rest) mid (held mid ++ rest) (Err fault)
  text_last_by a_fault.OutOfMemory rest none empty some room whole short bad = refl
  text_last_by a_fault.Failed rest none empty some room whole short bad = refl
  text_last_by (a_fault.Line n) rest none empty some room whole short bad = absurd bad
  text_last_by (a_fault.TooLarge size) rest none empty some room whole short bad = absurd bad
  text_last_by (a_fault.Text n) rest none empty some room whole short bad = (
    refl,
    behind_still old mid (held mid ++ rest) still
        ∙ ap (script_behind mid) (ap (λ (p : List ℕ). (mid.line ++ p) ++ rest) none ∙ ap (λ (r : List ℕ). (mid.line ++ []) ++ r) empty ∙ append-nil (mid.line ++ []) ∙ append-nil mid.line)
        ∙ ap (script_from mid.before (mid.number + 1)) (pieces_last mid.line whole)
        ∙ from_last mid.before (mid.number + 1) mid.line (Some (a_fault.Text (mid.number + 1))) some (not_text (length mid.line) room short bad.1) ∙ ap (λ (n : ℕ). ended (Some (a_fault.Text n))) (sym bad.0),
  )

  pub text_last : (fault : LineFault) → mid.piece ≡ [] → IfSome to (λ left. left ≡ []) → 0 < length mid.line → mid.before + length mid.line ≤ 67108864 → has_end mid.line ≡ false → length mid.line ≤ 65536
      → IsText (mid.number + 1) mid.line (Err fault) → ReadsFrom old (all_of old from) mid (all_of mid to) (Err fault)
  text_last fault none end some room whole short bad =
      reads_by old mid mid from to (Err fault) all (λ rest is. text_last_by fault rest none (no_rest to rest end is) some room whole short bad)

  -- ---- over any source

  pub handed_end : IsLine mid.line → HasEnd mid → IsHanded old (passed mid 1) mid.line
  handed_end fine ends = record { fine = fine; number = ap (λ (n : ℕ). n + 1) still.number; before = inl (omega (arith, still.before)); more = omega (arith, still.before); within = ends.1 }

  pub handed_last : IsLine mid.line → 0 < length mid.line → mid.before + length mid.line ≤ 67108864 → IsHanded old (passed mid 0) mid.line
  handed_last fine some room = record { fine = fine; number = ap (λ (n : ℕ). n + 1) still.number; before = inr (omega (arith, still.before)); more = omega (arith, still.before, some); within = omega (arith, room) }

  named : (n : ℕ) → n ≡ mid.number + 1 → n ≡ old.number + 1
  named n is = omega (arith, is, still.number)

  pub answers_refused : (fault : LineFault) → IsRefused mid fault → Answers old mid (Err fault)
  answers_refused a_fault.OutOfMemory refused = still
  answers_refused a_fault.Failed refused = still
  answers_refused (a_fault.Line n) refused = (still, named n refused.0)
  answers_refused (a_fault.Text n) refused = (still, named n refused.0)
  answers_refused (a_fault.TooLarge size) refused = (still, refused.0)

  pub answers_text : (fault : LineFault) → IsText (mid.number + 1) mid.line (Err fault) → Answers old mid (Err fault)
  answers_text a_fault.OutOfMemory bad = still
  answers_text a_fault.Failed bad = absurd bad
  answers_text (a_fault.Line n) bad = absurd bad
  answers_text (a_fault.Text n) bad = (still, named n bad.0)
  answers_text (a_fault.TooLarge size) bad = absurd bad

-- a text that isn't read isn't for a failing source
pub text_own : (number : ℕ) (line : List ℕ) (fault : LineFault) → IsText number line (Err fault) → fault ≡ a_fault.Failed → ⊥
text_own number line a_fault.OutOfMemory bad is = cc is
text_own number line a_fault.Failed bad is = bad
text_own number line (a_fault.Line n) bad is = bad
text_own number line (a_fault.Text n) bad is = cc is
text_own number line (a_fault.TooLarge size) bad is = bad
