-- What is written of a docket reads as the docket, whatever follows.
use Rattle.std.proofs.Common.{◌≡◌, ℕ, ◌+◌, ◌-◌, ◌<◌, ◌≤◌, ◌^◌, true, false, not, ◌&&◌, ◌||◌, nat_lt, List, [], ◌∷◌, ◌++◌, length, take, drop, replicate, get_or, refl, sym, ap, ◌∙◌, arith, Option, None, append_assoc, IsTrue, ◌==◌}
use Rattle.std.specs.List.{list_all}
use Rattle.std.specs.Int.{w32, to_be_bytes, from_be_bytes}
use Rattle.std.proofs.lemmas.List.{take_at, drop_at, drop-drop, get_or-drop, length-append, length-drop}
use Rattle.std.proofs.lemmas.Nat.{from_be_bytes-to_be_bytes_4}
use Rattle.hg_docket.specs.Docket.{Contents, docket_of, docket_refusal, marker, empty_docket, fields_in, number_at, name_len, name_in, needed_len, name_refusal, bytes_refusal}
use Rattle.hg_docket.specs.Written.{bytes_of, head_of, IsSized, is_writable, ReadsAs}
use Rattle.hg_docket.specs.Name.{is_name, is_name_byte, foreign_place}
use Rattle.hg_docket.proofs.Ascii.{name_parts}
use Rattle.hg_docket.proofs.Foreign.{foreign_none}
use Rattle.hg_docket.proofs.Branches.{not_zero, chosen, both_hold, not_less}

-- what stands behind the ignore hash
after_hash : Contents → List ℕ → List ℕ
after_hash d rest = to_be_bytes w32 d.used ++ (length d.id ∷ (d.id ++ rest))

-- what stands behind the second parent
after_p2 : Contents → List ℕ → List ℕ
after_p2 d rest =
    replicate 12 0 ++ (to_be_bytes w32 d.root_start ++ (to_be_bytes w32 d.root_count ++ (to_be_bytes w32 d.entries ++ (to_be_bytes w32 d.copies ++ (to_be_bytes w32 d.unreachable ++ (replicate 4 0 ++ (d.hash ++ after_hash d rest)))))))

-- what stands behind the first parent
after_p1 : Contents → List ℕ → List ℕ
after_p1 d rest = replicate 12 0 ++ (d.p2 ++ after_p2 d rest)

grouped : (m p1 z p2 y n1 n2 n3 n4 n5 u hash used len id rest : List ℕ)
    → m ++ p1 ++ z ++ p2 ++ y ++ n1 ++ n2 ++ n3 ++ n4 ++ n5 ++ u ++ hash ++ used ++ len ++ id ++ rest
    ≡ m ++ (p1 ++ (z ++ (p2 ++ (y ++ (n1 ++ (n2 ++ (n3 ++ (n4 ++ (n5 ++ (u ++ (hash ++ (used ++ (len ++ (id ++ rest))))))))))))))
grouped m p1 z p2 y n1 n2 n3 n4 n5 u hash used len id rest = simp append_assoc

behind_marker : (d : Contents) (rest : List ℕ) → drop 12 (bytes_of d ++ rest) ≡ d.p1 ++ after_p1 d rest
unfolding after_p1 after_p2 after_hash head_of
behind_marker d rest =
    ap (drop 12) (
    grouped marker d.p1 (replicate 12 0) d.p2 (replicate 12 0) (to_be_bytes w32 d.root_start) (to_be_bytes w32 d.root_count) (to_be_bytes w32 d.entries) (to_be_bytes w32 d.copies) (to_be_bytes w32 d.unreachable) (replicate 4 0) d.hash (to_be_bytes w32 d.used) (length d.id ∷ []) d.id rest
    )

-- behind a part of known length
past : (text part tail : List ℕ) (n m : ℕ) → drop n text ≡ part ++ tail → length part ≡ m → drop (n + m) text ≡ tail
past text part tail n m at len = sym (drop-drop m n text) ∙ ap (drop m) at ∙ drop_at part tail m len

-- a part of known length
part_at : (text part tail : List ℕ) (n m : ℕ) → drop n text ≡ part ++ tail → length part ≡ m → take m (drop n text) ≡ part
part_at text part tail n m at len = ap (take m) at ∙ take_at part tail m len

behind_p1 : (d : Contents) (rest : List ℕ) → length d.p1 ≡ 20 → drop 32 (bytes_of d ++ rest) ≡ after_p1 d rest
behind_p1 d rest len = past (bytes_of d ++ rest) d.p1 (after_p1 d rest) 12 20 (behind_marker d rest) len

p2_place : (d : Contents) (rest : List ℕ) → IsSized d → drop 44 (bytes_of d ++ rest) ≡ d.p2 ++ after_p2 d rest
unfolding after_p1
p2_place d rest sized = past (bytes_of d ++ rest) (replicate 12 0) (d.p2 ++ after_p2 d rest) 32 12 (behind_p1 d rest sized.p1) refl

behind_p2 : (d : Contents) (rest : List ℕ) → IsSized d → drop 64 (bytes_of d ++ rest) ≡ after_p2 d rest
behind_p2 d rest sized = past (bytes_of d ++ rest) d.p2 (after_p2 d rest) 44 20 (p2_place d rest sized) sized.p2

-- further on
later : (text tail : List ℕ) (n m : ℕ) → drop n text ≡ tail → drop (n + m) text ≡ drop m tail
later text tail n m at = sym (drop-drop m n text) ∙ ap (drop m) at

number_is : (text tail : List ℕ) (at n : ℕ) → drop at text ≡ to_be_bytes w32 n ++ tail → n < 2 ^ 32 → number_at at text ≡ n
number_is text tail at n here fits = ap (from_be_bytes w32) (part_at text (to_be_bytes w32 n) tail at 4 here refl) ∙ from_be_bytes-to_be_bytes_4 n fits

hash_place : (d : Contents) (rest : List ℕ) → IsSized d → drop 100 (bytes_of d ++ rest) ≡ d.hash ++ after_hash d rest
unfolding after_p2
hash_place d rest sized = later (bytes_of d ++ rest) (after_p2 d rest) 64 36 (behind_p2 d rest sized)

behind_hash : (d : Contents) (rest : List ℕ) → IsSized d → drop 120 (bytes_of d ++ rest) ≡ after_hash d rest
behind_hash d rest sized = past (bytes_of d ++ rest) d.hash (after_hash d rest) 100 20 (hash_place d rest sized) sized.hash

len_is : (d : Contents) (rest : List ℕ) → IsSized d → name_len (bytes_of d ++ rest) ≡ length d.id
unfolding after_hash
len_is d rest sized = sym (get_or-drop 120 (bytes_of d ++ rest) 4 0) ∙ ap (λ (l : List ℕ). get_or l 4 0) (behind_hash d rest sized)

name_place : (d : Contents) (rest : List ℕ) → IsSized d → drop 125 (bytes_of d ++ rest) ≡ d.id ++ rest
unfolding after_hash
name_place d rest sized = later (bytes_of d ++ rest) (after_hash d rest) 120 5 (behind_hash d rest sized)

name_is : (d : Contents) (rest : List ℕ) → IsSized d → name_in (bytes_of d ++ rest) ≡ d.id
name_is d rest sized = rw (len_is d rest sized) (part_at (bytes_of d ++ rest) d.id rest 125 (length d.id) (name_place d rest sized) refl)

used_is : (d : Contents) (rest : List ℕ) → IsSized d → number_at 120 (bytes_of d ++ rest) ≡ d.used
unfolding after_hash
used_is d rest sized = number_is (bytes_of d ++ rest) _ 120 d.used (behind_hash d rest sized) sized.used

root_start_is : (d : Contents) (rest : List ℕ) → IsSized d → number_at 76 (bytes_of d ++ rest) ≡ d.root_start
unfolding after_p2
root_start_is d rest sized = number_is (bytes_of d ++ rest) _ 76 d.root_start (later (bytes_of d ++ rest) (after_p2 d rest) 64 12 (behind_p2 d rest sized)) sized.root_start

root_count_is : (d : Contents) (rest : List ℕ) → IsSized d → number_at 80 (bytes_of d ++ rest) ≡ d.root_count
unfolding after_p2
root_count_is d rest sized = number_is (bytes_of d ++ rest) _ 80 d.root_count (later (bytes_of d ++ rest) (after_p2 d rest) 64 16 (behind_p2 d rest sized)) sized.root_count

entries_is : (d : Contents) (rest : List ℕ) → IsSized d → number_at 84 (bytes_of d ++ rest) ≡ d.entries
unfolding after_p2
entries_is d rest sized = number_is (bytes_of d ++ rest) _ 84 d.entries (later (bytes_of d ++ rest) (after_p2 d rest) 64 20 (behind_p2 d rest sized)) sized.entries

copies_is : (d : Contents) (rest : List ℕ) → IsSized d → number_at 88 (bytes_of d ++ rest) ≡ d.copies
unfolding after_p2
copies_is d rest sized = number_is (bytes_of d ++ rest) _ 88 d.copies (later (bytes_of d ++ rest) (after_p2 d rest) 64 24 (behind_p2 d rest sized)) sized.copies

unreachable_is : (d : Contents) (rest : List ℕ) → IsSized d → number_at 92 (bytes_of d ++ rest) ≡ d.unreachable
unfolding after_p2
unreachable_is d rest sized = number_is (bytes_of d ++ rest) _ 92 d.unreachable (later (bytes_of d ++ rest) (after_p2 d rest) 64 28 (behind_p2 d rest sized)) sized.unreachable

length_is : (d : Contents) (rest : List ℕ) → IsSized d → length (bytes_of d ++ rest) ≡ 125 + length d.id + length rest
unfolding after_hash
length_is d rest sized =
    let behind : length (bytes_of d ++ rest) - 120 ≡ length (after_hash d rest) = sym (length-drop 120 (bytes_of d ++ rest)) ∙ ap length (behind_hash d rest sized) in
    let tail : length (after_hash d rest) ≡ 5 + length (d.id ++ rest) = omega arith in
    omega (arith, behind, tail, length-append d.id rest)

-- each field is read as it was written
fields_back : (d : Contents) (rest : List ℕ) → IsSized d → fields_in (bytes_of d ++ rest) ≡ d
fields_back d rest sized =
    λ i. record {
      p1 = part_at (bytes_of d ++ rest) d.p1 (after_p1 d rest) 12 20 (behind_marker d rest) sized.p1 i;
      p2 = part_at (bytes_of d ++ rest) d.p2 (after_p2 d rest) 44 20 (p2_place d rest sized) sized.p2 i;
      root_start = root_start_is d rest sized i;
      root_count = root_count_is d rest sized i;
      entries = entries_is d rest sized i;
      copies = copies_is d rest sized i;
      unreachable = unreachable_is d rest sized i;
      hash = part_at (bytes_of d ++ rest) d.hash (after_hash d rest) 100 20 (hash_place d rest sized) sized.hash i;
      used = used_is d rest sized i;
      id = name_is d rest sized i;
    }

-- what is read is the docket
pub contents_back : (d : Contents) (rest : List ℕ) → IsSized d → docket_of (bytes_of d ++ rest) ≡ d
contents_back d rest sized = chosen (length (bytes_of d ++ rest) == 0) empty_docket (fields_in (bytes_of d ++ rest)) d (not_zero (length (bytes_of d ++ rest)) (omega (arith, length_is d rest sized))) (fields_back d rest sized)

-- an identifier that may be missing where nothing is used
none_missing : (id : List ℕ) (used : ℕ) → (not (length id == 0) || used == 0) ≡ true → (length id == 0 && not (used == 0)) ≡ false
none_missing id used h = elim (length id == 0) as (λ t. (not t || used == 0) ≡ true → (t && not (used == 0)) ≡ false) [ true ↦ λ k. ap not k | false ↦ λ k. refl ] h

named_none : (bytes id : List ℕ) (used : ℕ) → name_in bytes ≡ id → number_at 120 bytes ≡ used → list_all is_name_byte id ≡ true → (not (length id == 0) || used == 0) ≡ true
    → name_refusal (foreign_place (name_in bytes)) bytes ≡ None
named_none bytes id used name at names some =
    let place : foreign_place (name_in bytes) ≡ None = ap foreign_place name ∙ foreign_none id names in
    let test : (length (name_in bytes) == 0 && not (number_at 120 bytes == 0)) ≡ false = rw (name, at) (none_missing id used some) in
    ap (λ (place : Option ℕ). name_refusal place bytes) place ∙ chosen (length (name_in bytes) == 0 && not (number_at 120 bytes == 0)) _ None None test refl

long_enough : (bytes id : List ℕ) → name_len bytes ≡ length id → 125 + length id ≤ length bytes → nat_lt (length bytes) (needed_len bytes) ≡ false
long_enough bytes id len long =
    let needed : needed_len bytes ≡ 125 + length id = chosen (nat_lt (length bytes) 125) 125 (125 + name_len bytes) (125 + length id) (not_less (length bytes) 125 (omega arith)) (ap (λ n. 125 + n) len) in
    rw needed (not_less (length bytes) (125 + length id) long)

-- nothing is refused
pub none_refused : (d : Contents) (rest : List ℕ) → IsSized d → IsTrue (is_writable d) → docket_refusal (bytes_of d ++ rest) ≡ None
unfolding head_of
none_refused d rest sized writable =
    let bytes : List ℕ = bytes_of d ++ rest in
    let parts : (is_name d.id ≡ true) × ((not (length d.id == 0) || d.used == 0) ≡ true) = both_hold (is_name d.id) (not (length d.id == 0) || d.used == 0) writable in
    let named = name_parts d.id parts.0 in
    let long : 125 + length d.id ≤ length bytes = omega (arith, length_is d rest sized) in
    let marked : docket_refusal bytes ≡ bytes_refusal None bytes = chosen (length bytes == 0) None (bytes_refusal None bytes) (bytes_refusal None bytes) (not_zero (length bytes) (omega arith)) refl in
    marked
    ∙ chosen (nat_lt (length bytes) (needed_len bytes)) _ (name_refusal (foreign_place (name_in bytes)) bytes) None (long_enough bytes d.id (len_is d rest sized) long) (named_none bytes d.id d.used (name_is d rest sized) (used_is d rest sized) named.1 parts.1)

-- what a reading answers of bytes
pub reads_back : (d : Contents) (rest : List ℕ) → IsSized d → IsTrue (is_writable d) → ReadsAs (bytes_of d ++ rest) d
reads_back d rest sized writable = record { whole = none_refused d rest sized writable; same = contents_back d rest sized }
