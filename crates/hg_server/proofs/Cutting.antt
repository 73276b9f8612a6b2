-- Cutting a text into pieces: the first one, and those of what is behind it.
use Rattle.std.proofs.Common.{◌≡◌, ℕ, zero, suc, ◌+◌, ◌*◌, ◌-◌, ◌<◌, min, List, [], ◌∷◌, ◌++◌, length, take, drop, map, flat_map, refl, sym, ap, ◌∙◌, arith}
use Rattle.std.specs.Int.{div_ceil}
use Rattle.std.specs.List.{range_with_len}
use Rattle.std.proofs.lemmas.List.{drop-drop, length-drop}
use Rattle.hg_server.specs.Protocol.{message, messages, pieces}

module _ (size : ℕ) where
  piece_at : (text : List ℕ) (k : ℕ) → take size (drop (size * (k + 1)) text) ≡ take size (drop (size * k) (drop size text))
  piece_at text k =
      let place : size * (k + 1) ≡ size + size * k = grind arith in
      ap (λ (n : ℕ). take size (drop n text)) place ∙ ap (take size) (sym (drop-drop (size * k) size text))

  pieces_behind : (text : List ℕ) (a n : ℕ) → map (λ k. take size (drop (size * k) text)) (range_with_len (a + 1) n) ≡ map (λ k. take size (drop (size * k) (drop size text))) (range_with_len a n)
  pieces_behind text a zero = refl
  pieces_behind text a (suc n) =
      ap (λ (p : List ℕ). p ∷ map (λ k. take size (drop (size * k) text)) (range_with_len (a + 1 + 1) n)) (piece_at text a)
      ∙ ap (λ (ps : List (List ℕ)). take size (drop (size * a) (drop size text)) ∷ ps) (pieces_behind text (a + 1) n)

one_more : (n : ℕ) → 0 < n → div_ceil n 65536 ≡ suc (div_ceil (n - 65536) 65536)
one_more n some = omega arith

-- a text that isn't empty is its first piece and those of what is behind it
pub pieces_more : (text : List ℕ) → 0 < length text → pieces text ≡ take 65536 text ∷ pieces (drop 65536 text)
pieces_more text some =
    let count : div_ceil (length text) 65536 ≡ suc (div_ceil (length (drop 65536 text)) 65536) =
    one_more (length text) some ∙ ap (λ (n : ℕ). suc (div_ceil n 65536)) (sym (length-drop 65536 text)) in
    ap (λ (n : ℕ). map (λ k. take 65536 (drop (65536 * k) text)) (range_with_len 0 n)) count
    ∙ ap (λ (ps : List (List ℕ)). take 65536 text ∷ ps) (pieces_behind 65536 text 0 (div_ceil (length (drop 65536 text)) 65536))

pub messages_more : (channel : ℕ) (text : List ℕ) → 0 < length text → messages channel text ≡ message channel (take 65536 text) ++ messages channel (drop 65536 text)
messages_more channel text some = ap (flat_map (message channel)) (pieces_more text some)

drop_min : (n : ℕ) (text : List ℕ) → drop (min (length text) n) text ≡ drop n text
drop_min zero text = let none : min (length text) 0 ≡ 0 = omega arith in ap (λ (k : ℕ). drop k text) none
drop_min (suc n) [] = let none : min 0 (suc n) ≡ 0 = omega arith in ap (λ (k : ℕ). drop k []) none
drop_min (suc n) (b ∷ text) = let less : min (length (b ∷ text)) (suc n) ≡ suc (min (length text) n) = omega arith in ap (λ (k : ℕ). drop k (b ∷ text)) less ∙ drop_min n text

take_min : (n : ℕ) (text : List ℕ) → take (min (length text) n) text ≡ take n text
take_min zero text = let none : min (length text) 0 ≡ 0 = omega arith in ap (λ (k : ℕ). take k text) none
take_min (suc n) [] = let none : min 0 (suc n) ≡ 0 = omega arith in ap (λ (k : ℕ). take k []) none
take_min (suc n) (b ∷ text) = let less : min (length (b ∷ text)) (suc n) ≡ suc (min (length text) n) = omega arith in ap (λ (k : ℕ). take k (b ∷ text)) less ∙ ap (λ (l : List ℕ). b ∷ l) (take_min n text)

-- a text that is cut at its first 65,536 bytes, or at its end
pub cut_at : (channel mid : ℕ) (text piece behind : List ℕ) → 0 < length text → mid ≡ min (length text) 65536 → piece ≡ take mid text → behind ≡ drop mid text
    → messages channel text ≡ message channel piece ++ messages channel behind
cut_at channel mid text piece behind some at front back =
    let piece_is : piece ≡ take 65536 text = front ∙ ap (λ (k : ℕ). take k text) at ∙ take_min 65536 text in
    let behind_is : behind ≡ drop 65536 text = back ∙ ap (λ (k : ℕ). drop k text) at ∙ drop_min 65536 text in
    messages_more channel text some ∙ ap (λ (l : List ℕ). message channel l ++ messages channel (drop 65536 text)) (sym piece_is)
    ∙ ap (λ (l : List ℕ). message channel piece ++ messages channel l) (sym behind_is)
