-- Texts that are cut at their NULs.
use Rattle.std.proofs.Common.{◌≡◌, ℕ, ◌<◌, Bool, false, cond, List, [], ◌∷◌, ◌++◌, length, get_or, Option, Some, None, refl, sym, ap, ◌∙◌, append_assoc, arith, eqb, lit<, Bor}
use Rattle.std.specs.Option.{MatchOption}
use Rattle.std.specs.List.{slice_split}
use Rattle.std.proofs.lemmas.Bool.{ne_eqb}
use Rattle.std.proofs.lemmas.List.Elements.{All-from_get_or}
use Rattle.std.proofs.lemmas.List.{length-append}
use Rattle.std.proofs.lemmas.List.Splits.{slice_split_none, slice_split_at}
use Rattle.std.proofs.lemmas.Str.Pattern.{IsSplitOnceResult, split_parts}
use Rattle.hg_server.specs.Protocol.{words_of}

abbrev is_nul : ℕ → Bool
is_nul b = eqb b 0

-- the words of a text that is cut at its first NUL, and of one without
pub nul_parts : (text : List ℕ) (r : Option (Bor (List ℕ) × Bor (List ℕ))) → IsSplitOnceResult 0 text r
    → MatchOption r (slice_split is_nul text ≡ text ∷ []) (λ x. (slice_split is_nul text ≡ x.0.now ∷ slice_split is_nul x.1.now) × (length x.1.now < length text))
nul_parts text None h = slice_split_none is_nul text (All-from_get_or (λ x. is_nul x ≡ false) text 0 (λ i less. ne_eqb (get_or text i 0) 0 (split_parts 0 text None h (lit< tt) i less)))
nul_parts text (Some x) h =
    let parts = split_parts 0 text (Some x) h (lit< tt) in (
      ap (slice_split is_nul) parts.0 ∙ slice_split_at is_nul x.0.now 0 x.1.now (All-from_get_or (λ x. is_nul x ≡ false) x.0.now 0 (λ i less. ne_eqb (get_or x.0.now i 0) 0 (parts.1 i less))) refl,
      longer text x.0.now x.1.now parts.0,
    )
  where
    longer : (text front rest : List ℕ) → text ≡ front ++ 0 ∷ rest → length rest < length text
    longer text front rest e = omega (arith, ap length e, length-append front (0 ∷ rest))

pub more_words : (words new : List (List ℕ)) (text word behind item : List ℕ) (whole : List (List ℕ)) → new ≡ words ++ item ∷ [] → item ≡ word → slice_split is_nul text ≡ word ∷ slice_split is_nul behind
    → words ++ slice_split is_nul text ≡ whole → new ++ slice_split is_nul behind ≡ whole
more_words words new text word behind item whole pushed same cut all =
    ap (λ (l : List (List ℕ)). l ++ slice_split is_nul behind) (pushed ∙ ap (λ (w : List ℕ). words ++ w ∷ []) same) ∙ append_assoc words (word ∷ []) (slice_split is_nul behind)
    ∙ ap (λ (l : List (List ℕ)). words ++ l) (sym cut) ∙ all

pub last_words : (words new : List (List ℕ)) (text item line : List ℕ) → new ≡ words ++ item ∷ [] → item ≡ text → slice_split is_nul text ≡ text ∷ [] → words ++ slice_split is_nul text ≡ slice_split is_nul line
    → eqb (length line) 0 ≡ false → new ≡ words_of line
last_words words new text item line pushed same cut all some =
    pushed ∙ ap (λ (w : List ℕ). words ++ w ∷ []) same ∙ ap (λ (l : List (List ℕ)). words ++ l) (sym cut) ∙ all
    ∙ sym (ap (λ (t : Bool). cond t [] (slice_split is_nul line)) some)
