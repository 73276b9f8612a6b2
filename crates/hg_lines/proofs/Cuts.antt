-- Texts that are cut at single bytes.
use Rattle.std.proofs.Common.{◌≡◌, ℕ, ◌<◌, Bool, false, cond, List, [], ◌∷◌, ◌++◌, length, get_or, Option, Some, None, refl, sym, ap, ◌∙◌, append_assoc, arith, eqb, lit<, Bor}
use Rattle.std.specs.Option.{MatchOption}
use Rattle.std.specs.List.{onto_first, slice_split}
use Rattle.std.proofs.lemmas.Bool.{ne_eqb, or_from, or_parts}
use Rattle.std.proofs.lemmas.List.Elements.{All-from_get_or}
use Rattle.std.proofs.lemmas.List.{length-append}
use Rattle.std.proofs.lemmas.List.Folds.{list_any-append}
use Rattle.std.proofs.lemmas.List.Splits.{slice_split-cons_no, slice_split_none, slice_split_at, length-slice_split}
use Rattle.std.proofs.lemmas.Str.Pattern.{IsSplitOnceResult, split_parts}
use Rattle.hg_lines.specs.Script.{has_end, is_end, pieces, words_of}

-- ---- at spaces

abbrev is_space : ℕ → Bool
is_space b = eqb b 32

-- the words of a text that is cut at its first space, and of one without
pub space_parts : (text : List ℕ) (r : Option (Bor (List ℕ) × Bor (List ℕ))) → IsSplitOnceResult 32 text r
    → MatchOption r (slice_split is_space text ≡ text ∷ []) (λ x. (slice_split is_space text ≡ x.0.now ∷ slice_split is_space x.1.now) × (length x.1.now < length text))
space_parts text None h = slice_split_none is_space text (All-from_get_or (λ x. is_space x ≡ false) text 0 (λ i less. ne_eqb (get_or text i 0) 32 (split_parts 32 text None h (lit< tt) i less)))
space_parts text (Some x) h =
    let parts = split_parts 32 text (Some x) h (lit< tt) in (
      ap (slice_split is_space) parts.0 ∙ slice_split_at is_space x.0.now 32 x.1.now (All-from_get_or (λ x. is_space x ≡ false) x.0.now 0 (λ i less. ne_eqb (get_or x.0.now i 0) 32 (parts.1 i less))) refl,
      longer text x.0.now x.1.now parts.0,
    )
  where
    longer : (text front rest : List ℕ) → text ≡ front ++ 32 ∷ rest → length rest < length text
    longer text front rest e = omega (arith, ap length e, length-append front (32 ∷ rest))

pub more_words : (words new : List (List ℕ)) (text word behind item : List ℕ) (whole : List (List ℕ)) → new ≡ words ++ item ∷ [] → item ≡ word → slice_split is_space text ≡ word ∷ slice_split is_space behind
    → words ++ slice_split is_space text ≡ whole → new ++ slice_split is_space behind ≡ whole
more_words words new text word behind item whole pushed same cut all =
    ap (λ (l : List (List ℕ)). l ++ slice_split is_space behind) (pushed ∙ ap (λ (w : List ℕ). words ++ w ∷ []) same) ∙ append_assoc words (word ∷ []) (slice_split is_space behind)
    ∙ ap (λ (l : List (List ℕ)). words ++ l) (sym cut) ∙ all

pub last_words : (words new : List (List ℕ)) (text item line : List ℕ) → new ≡ words ++ item ∷ [] → item ≡ text → slice_split is_space text ≡ text ∷ [] → words ++ slice_split is_space text ≡ slice_split is_space line
    → eqb (length line) 0 ≡ false → new ≡ words_of line
last_words words new text item line pushed same cut all some =
    pushed ∙ ap (λ (w : List ℕ). words ++ w ∷ []) same ∙ ap (λ (l : List (List ℕ)). words ++ l) (sym cut) ∙ all
    ∙ sym (ap (λ (t : Bool). cond t [] (slice_split is_space line)) some)

-- ---- at line feeds

-- a line that ends
pub pieces_at : (line rest : List ℕ) → has_end line ≡ false → pieces (line ++ 10 ∷ rest) ≡ line ∷ pieces rest
pieces_at [] rest plain = refl
pieces_at (b ∷ line) rest plain =
    let parts = or_parts (eqb b 10) (has_end line) plain in
    slice_split-cons_no is_end b (line ++ 10 ∷ rest) parts.0 ∙ ap (onto_first b) (pieces_at line rest parts.1)

-- one that doesn't
pub pieces_last : (line : List ℕ) → has_end line ≡ false → pieces line ≡ line ∷ []
pieces_last [] plain = refl
pieces_last (b ∷ line) plain =
    let parts = or_parts (eqb b 10) (has_end line) plain in
    slice_split-cons_no is_end b line parts.0 ∙ ap (onto_first b) (pieces_last line parts.1)

-- the first piece of a text, and those behind it
pub record FirstPiece (line text : List ℕ) : Type 0 where
  pub more : List ℕ
  pub behind : List (List ℕ)
  pub parts : pieces text ≡ (line ++ more) ∷ behind

some_piece : (parts : List (List ℕ)) → 0 < length parts → (first : List ℕ) × (more : List (List ℕ)) × (parts ≡ first ∷ more)
some_piece [] some = absurd (omega arith)
some_piece (first ∷ more) some = (first, more, refl)

-- what begins with a part of a line has a first piece that begins with it
pub first_piece : (line rest : List ℕ) → has_end line ≡ false → FirstPiece line (line ++ rest)
first_piece [] rest plain =
    let some = some_piece (pieces rest) (omega (arith, length-slice_split is_end rest)) in
    record { more = some.0; behind = some.1; parts = some.2 }
first_piece (b ∷ line) rest plain =
    let parts = or_parts (eqb b 10) (has_end line) plain in
    let under : FirstPiece line (line ++ rest) = first_piece line rest parts.1 in
    record {
      more = under.more;
      behind = under.behind;
      parts = slice_split-cons_no is_end b (line ++ rest) parts.0 ∙ ap (onto_first b) under.parts;
    }

-- what no line feed stands in, put behind what none stands in
pub plain_more : (line more : List ℕ) → has_end line ≡ false → has_end more ≡ false → has_end (line ++ more) ≡ false
plain_more line more first second = list_any-append is_end line more ∙ or_from (has_end line) (has_end more) first second
