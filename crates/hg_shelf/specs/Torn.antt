-- A write changes a file at most where a crash may tear it.
use Rattle.std.proofs.Common.{ℕ, ◌≡◌, ◌≤◌, ◌+◌, ◌-◌, List, ◌++◌, length, take, drop, replicate, Some, Bool, true, false, refl, sym, ◌∙◌, ap, subst, arith}
use Rattle.std.specs.Prelude.{bytes_eq, if◌then◌else◌}
use Rattle.std.proofs.lemmas.Bool.{false_from_ne_true}
use Rattle.std.proofs.lemmas.List.{length-append, length-take, length-replicate, length-drop, take-append-le, take-take, drop_at}
use Rattle.std.proofs.lemmas.Slice.Eq.{bytes_eq-Decides}
use Rattle.hg_shelf.specs.History.{Files}
use Rattle.hg_shelf.specs.Memory.{with_file}
use Rattle.hg_shelf.specs.Rules.{content, overwritten, Torn, TornAt, TornFile}

length_padded : (old : List ℕ) (place : ℕ) → length (take place old ++ replicate (place - length old) 0) ≡ place
length_padded old place =
    let whole = length-append (take place old) (replicate (place - length old) 0) in
    let head = length-take place old in
    let zeros = length-replicate {A = ℕ} (place - length old) 0 in
    omega (arith, whole, head, zeros)

length_front : (old : List ℕ) (place : ℕ) (bytes : List ℕ) → length (take place old ++ replicate (place - length old) 0 ++ bytes) ≡ place + length bytes
length_front old place bytes =
    let whole = length-append (take place old ++ replicate (place - length old) 0) bytes in
    let padded = length_padded old place in
    omega (arith, whole, padded)

length_over : (old : List ℕ) (place : ℕ) (bytes : List ℕ) → length (overwritten old place bytes) ≡ place + length bytes + (length old - (place + length bytes))
length_over old place bytes =
    let whole = length-append (take place old ++ replicate (place - length old) 0 ++ bytes) (drop (place + length bytes) old) in
    let head = length_front old place bytes in
    let rest = length-drop (place + length bytes) old in
    omega (arith, whole, head, rest)

before_over : (old : List ℕ) (place : ℕ) (bytes : List ℕ) (m : ℕ) → m ≤ place → m ≤ length old → take m (overwritten old place bytes) ≡ take m old
before_over old place bytes m near within =
    let padded = length_padded old place in
    let head = length_front old place bytes in
    let kept = length-take place old in
    take-append-le m (take place old ++ replicate (place - length old) 0 ++ bytes) (drop (place + length bytes) old) (omega (arith, near, head))
    ∙ take-append-le m (take place old ++ replicate (place - length old) 0) bytes (omega (arith, near, padded))
    ∙ take-append-le m (take place old) (replicate (place - length old) 0) (omega (arith, near, within, kept))
    ∙ take-take m place old near

pub torn_over : (old : List ℕ) (place : ℕ) (bytes : List ℕ) → Torn place (length bytes) old (overwritten old place bytes)
torn_over old place bytes =
    let size = length_over old place bytes in
    record {
      before = before_over old place bytes;
      after = drop_at (take place old ++ replicate (place - length old) 0 ++ bytes) (drop (place + length bytes) old) (place + length bytes) (length_front old place bytes);
      no_shorter = omega (arith, size);
      no_longer = omega (arith, size);
    }

-- the test of a name against itself, and against another
pub same_name : (name : List ℕ) → bytes_eq name name ≡ true
same_name name = (bytes_eq-Decides name name).1 refl

pub other_name : (name at : List ℕ) → (at ≡ name → ⊥) → bytes_eq name at ≡ false
other_name name at apart = false_from_ne_true _ (λ same. apart (sym ((bytes_eq-Decides name at).0 same)))

pub torn_written : (name : List ℕ) (place : ℕ) (bytes : List ℕ) (files : Files)
    → TornAt name place (length bytes) files (with_file name (overwritten (content (files name)) place bytes) files)
torn_written name place bytes files =
    record {
      elsewhere = λ at apart. ap (λ (t : Bool). if t then Some (overwritten (content (files name)) place bytes) else files at) (other_name name at apart);
      here = subst (λ (t : Bool). TornFile place (length bytes) (files name) (if t then Some (overwritten (content (files name)) place bytes) else files name)) (sym (same_name name)) (torn_over (content (files name)) place bytes);
    }
