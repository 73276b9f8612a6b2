-- Reading and writing a record are inverse to each other.
use Rattle.std.proofs.Common.{◌≡◌, ℕ, zero, suc, ◌+◌, ◌<◌, ◌≤◌, List, [], ◌∷◌, ◌++◌, length, take, drop, get_or, refl, sym, ap, ◌∙◌, arith, append_assoc}
use Rattle.std.specs.Int.{w16, w32, to_be_bytes, from_be_bytes}
use Rattle.std.proofs.Math.Seq.{take-add}
use Rattle.std.proofs.lemmas.List.{take_all, length-take-le, length-drop, get_or-drop, drop-drop, take-append-drop}
use Rattle.std.proofs.lemmas.Nat.{be_bytes_2, be_bytes_4, from_be_bytes-to_be_bytes_2, from_be_bytes-to_be_bytes_4}
use Rattle.hg_node.specs.declared.record.Rec.{Rec}
use Rattle.hg_node.specs.Node.{number_at, rec_of, bytes_of, texts_of, facts_of, AreTextsSized, AreFactsSized}

-- each place of the list has a byte
abbrev pub AreBytes : List ℕ → Type 0
AreBytes bytes = (i : ℕ) → get_or bytes i 0 < 256

taken_fit : (n : ℕ) (bytes : List ℕ) → AreBytes bytes → AreBytes (take n bytes)
taken_fit zero bytes fits i = omega arith
taken_fit (suc n) [] fits i = omega arith
taken_fit (suc n) (b ∷ bytes) fits zero = fits 0
taken_fit (suc n) (b ∷ bytes) fits (suc i) = taken_fit n bytes (λ k. fits (suc k)) i

dropped_fit : (n : ℕ) (bytes : List ℕ) → AreBytes bytes → AreBytes (drop n bytes)
dropped_fit n bytes fits i = rw get_or-drop (fits (n + i))

-- a number of 16 bits more
grown_16 : (bytes text : List ℕ) (start n : ℕ) → AreBytes bytes → start + n + 2 ≤ length bytes → text ≡ take n (drop start bytes) → text ++ to_be_bytes w16 (number_at w16 (start + n) bytes) ≡ take (n + 2) (drop start bytes)
grown_16 bytes text start n fits long so_far =
    let part : List ℕ = take 2 (drop (start + n) bytes) in
    let len : length part ≡ 2 = length-take-le 2 (drop (start + n) bytes) (rw length-drop (omega arith)) in
    let same : to_be_bytes w16 (number_at w16 (start + n) bytes) ≡ part = be_bytes_2 part (from_be_bytes w16 part) len (taken_fit 2 (drop (start + n) bytes) (dropped_fit (start + n) bytes fits)) refl in
    let there : part ≡ take 2 (drop n (drop start bytes)) = ap (take 2) (sym (drop-drop n start bytes)) in
    ap (λ (front : List ℕ). front ++ to_be_bytes w16 (number_at w16 (start + n) bytes)) so_far ∙ ap (λ (tail : List ℕ). take n (drop start bytes) ++ tail) (same ∙ there) ∙ sym (take-add n 2 (drop start bytes))

-- a number of 32 bits more
grown_32 : (bytes text : List ℕ) (start n : ℕ) → AreBytes bytes → start + n + 4 ≤ length bytes → text ≡ take n (drop start bytes) → text ++ to_be_bytes w32 (number_at w32 (start + n) bytes) ≡ take (n + 4) (drop start bytes)
grown_32 bytes text start n fits long so_far =
    let part : List ℕ = take 4 (drop (start + n) bytes) in
    let len : length part ≡ 4 = length-take-le 4 (drop (start + n) bytes) (rw length-drop (omega arith)) in
    let same : to_be_bytes w32 (number_at w32 (start + n) bytes) ≡ part = be_bytes_4 part (from_be_bytes w32 part) len (taken_fit 4 (drop (start + n) bytes) (dropped_fit (start + n) bytes fits)) refl in
    let there : part ≡ take 4 (drop n (drop start bytes)) = ap (take 4) (sym (drop-drop n start bytes)) in
    ap (λ (front : List ℕ). front ++ to_be_bytes w32 (number_at w32 (start + n) bytes)) so_far ∙ ap (λ (tail : List ℕ). take n (drop start bytes) ++ tail) (same ∙ there) ∙ sym (take-add n 4 (drop start bytes))

texts_back : (bytes : List ℕ) → length bytes ≡ 44 → AreBytes bytes → texts_of (rec_of bytes) ≡ take 22 (drop 0 bytes)
texts_back bytes len fits =
    let path_start : to_be_bytes w32 (number_at w32 0 bytes) ≡ take 4 (drop 0 bytes) = grown_32 bytes [] 0 0 fits (omega arith) refl in
    let path_len : to_be_bytes w32 (number_at w32 0 bytes) ++ to_be_bytes w16 (number_at w16 4 bytes) ≡ take 6 (drop 0 bytes) = grown_16 bytes (to_be_bytes w32 (number_at w32 0 bytes)) 0 4 fits (omega arith) path_start in
    let base_at : to_be_bytes w32 (number_at w32 0 bytes) ++ to_be_bytes w16 (number_at w16 4 bytes) ++ to_be_bytes w16 (number_at w16 6 bytes) ≡ take 8 (drop 0 bytes) = grown_16 bytes (to_be_bytes w32 (number_at w32 0 bytes) ++ to_be_bytes w16 (number_at w16 4 bytes)) 0 6 fits (omega arith) path_len in
    let copy_start : to_be_bytes w32 (number_at w32 0 bytes) ++ to_be_bytes w16 (number_at w16 4 bytes) ++ to_be_bytes w16 (number_at w16 6 bytes) ++ to_be_bytes w32 (number_at w32 8 bytes) ≡ take 12 (drop 0 bytes) = grown_32 bytes (to_be_bytes w32 (number_at w32 0 bytes) ++ to_be_bytes w16 (number_at w16 4 bytes) ++ to_be_bytes w16 (number_at w16 6 bytes)) 0 8 fits (omega arith) base_at in
    let copy_len : to_be_bytes w32 (number_at w32 0 bytes) ++ to_be_bytes w16 (number_at w16 4 bytes) ++ to_be_bytes w16 (number_at w16 6 bytes) ++ to_be_bytes w32 (number_at w32 8 bytes) ++ to_be_bytes w16 (number_at w16 12 bytes) ≡ take 14 (drop 0 bytes) = grown_16 bytes (to_be_bytes w32 (number_at w32 0 bytes) ++ to_be_bytes w16 (number_at w16 4 bytes) ++ to_be_bytes w16 (number_at w16 6 bytes) ++ to_be_bytes w32 (number_at w32 8 bytes)) 0 12 fits (omega arith) copy_start in
    let kids_start : to_be_bytes w32 (number_at w32 0 bytes) ++ to_be_bytes w16 (number_at w16 4 bytes) ++ to_be_bytes w16 (number_at w16 6 bytes) ++ to_be_bytes w32 (number_at w32 8 bytes) ++ to_be_bytes w16 (number_at w16 12 bytes) ++ to_be_bytes w32 (number_at w32 14 bytes) ≡ take 18 (drop 0 bytes) = grown_32 bytes (to_be_bytes w32 (number_at w32 0 bytes) ++ to_be_bytes w16 (number_at w16 4 bytes) ++ to_be_bytes w16 (number_at w16 6 bytes) ++ to_be_bytes w32 (number_at w32 8 bytes) ++ to_be_bytes w16 (number_at w16 12 bytes)) 0 14 fits (omega arith) copy_len in
    grown_32 bytes (to_be_bytes w32 (number_at w32 0 bytes) ++ to_be_bytes w16 (number_at w16 4 bytes) ++ to_be_bytes w16 (number_at w16 6 bytes) ++ to_be_bytes w32 (number_at w32 8 bytes) ++ to_be_bytes w16 (number_at w16 12 bytes) ++ to_be_bytes w32 (number_at w32 14 bytes)) 0 18 fits (omega arith) kids_start

facts_back : (bytes : List ℕ) → length bytes ≡ 44 → AreBytes bytes → facts_of (rec_of bytes) ≡ take 22 (drop 22 bytes)
facts_back bytes len fits =
    let entries_below : to_be_bytes w32 (number_at w32 22 bytes) ≡ take 4 (drop 22 bytes) = grown_32 bytes [] 22 0 fits (omega arith) refl in
    let tracked_below : to_be_bytes w32 (number_at w32 22 bytes) ++ to_be_bytes w32 (number_at w32 26 bytes) ≡ take 8 (drop 22 bytes) = grown_32 bytes (to_be_bytes w32 (number_at w32 22 bytes)) 22 4 fits (omega arith) entries_below in
    let flags : to_be_bytes w32 (number_at w32 22 bytes) ++ to_be_bytes w32 (number_at w32 26 bytes) ++ to_be_bytes w16 (number_at w16 30 bytes) ≡ take 10 (drop 22 bytes) = grown_16 bytes (to_be_bytes w32 (number_at w32 22 bytes) ++ to_be_bytes w32 (number_at w32 26 bytes)) 22 8 fits (omega arith) tracked_below in
    let size : to_be_bytes w32 (number_at w32 22 bytes) ++ to_be_bytes w32 (number_at w32 26 bytes) ++ to_be_bytes w16 (number_at w16 30 bytes) ++ to_be_bytes w32 (number_at w32 32 bytes) ≡ take 14 (drop 22 bytes) = grown_32 bytes (to_be_bytes w32 (number_at w32 22 bytes) ++ to_be_bytes w32 (number_at w32 26 bytes) ++ to_be_bytes w16 (number_at w16 30 bytes)) 22 10 fits (omega arith) flags in
    let seconds : to_be_bytes w32 (number_at w32 22 bytes) ++ to_be_bytes w32 (number_at w32 26 bytes) ++ to_be_bytes w16 (number_at w16 30 bytes) ++ to_be_bytes w32 (number_at w32 32 bytes) ++ to_be_bytes w32 (number_at w32 36 bytes) ≡ take 18 (drop 22 bytes) = grown_32 bytes (to_be_bytes w32 (number_at w32 22 bytes) ++ to_be_bytes w32 (number_at w32 26 bytes) ++ to_be_bytes w16 (number_at w16 30 bytes) ++ to_be_bytes w32 (number_at w32 32 bytes)) 22 14 fits (omega arith) size in
    grown_32 bytes (to_be_bytes w32 (number_at w32 22 bytes) ++ to_be_bytes w32 (number_at w32 26 bytes) ++ to_be_bytes w16 (number_at w16 30 bytes) ++ to_be_bytes w32 (number_at w32 32 bytes) ++ to_be_bytes w32 (number_at w32 36 bytes)) 22 18 fits (omega arith) seconds

-- what was read is written again
pub bytes_back : (bytes : List ℕ) → length bytes ≡ 44 → AreBytes bytes → bytes_of (rec_of bytes) ≡ bytes
bytes_back bytes len fits =
    let rest : take 22 (drop 22 bytes) ≡ drop 22 bytes = take_all 22 (drop 22 bytes) (rw length-drop (omega arith)) in
    ap (λ (front : List ℕ). front ++ facts_of (rec_of bytes)) (texts_back bytes len fits) ∙ ap (λ (tail : List ℕ). take 22 bytes ++ tail) (facts_back bytes len fits ∙ rest) ∙ take-append-drop 22 bytes

-- what was written is read again
pub rec_back : (rec : Rec) → AreTextsSized rec → AreFactsSized rec → rec_of (bytes_of rec) ≡ record rec { place = 0 }
rec_back rec texts facts =
    λ i. record {
      place = 0;
      path_start = from_be_bytes-to_be_bytes_4 rec.path_start texts.path_start i;
      path_len = from_be_bytes-to_be_bytes_2 rec.path_len texts.path_len i;
      base_at = from_be_bytes-to_be_bytes_2 rec.base_at texts.base_at i;
      copy_start = from_be_bytes-to_be_bytes_4 rec.copy_start texts.copy_start i;
      copy_len = from_be_bytes-to_be_bytes_2 rec.copy_len texts.copy_len i;
      kids_start = from_be_bytes-to_be_bytes_4 rec.kids_start texts.kids_start i;
      kids_count = from_be_bytes-to_be_bytes_4 rec.kids_count texts.kids_count i;
      entries_below = from_be_bytes-to_be_bytes_4 rec.entries_below facts.entries_below i;
      tracked_below = from_be_bytes-to_be_bytes_4 rec.tracked_below facts.tracked_below i;
      flags = from_be_bytes-to_be_bytes_2 rec.flags facts.flags i;
      size = from_be_bytes-to_be_bytes_4 rec.size facts.size i;
      seconds = from_be_bytes-to_be_bytes_4 rec.seconds facts.seconds i;
      nanos = from_be_bytes-to_be_bytes_4 rec.nanos facts.nanos i;
    }

pub facts_grouped : (front a b c d e f : List ℕ) → front ++ a ++ b ++ c ++ d ++ e ++ f ≡ front ++ (a ++ b ++ c ++ d ++ e ++ f)
facts_grouped front a b c d e f = simp append_assoc
