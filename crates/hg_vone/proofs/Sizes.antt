-- How long a docket is.
use Rattle.std.proofs.Common.{ℕ, ◌≡◌, ◌+◌, ◌≤◌, List, [], ◌∷◌, ◌++◌, length, replicate, arith}
use Rattle.std.specs.Int.{to_be_bytes, w32}
use Rattle.std.proofs.lemmas.List.{length-append}
use Rattle.hg_docket.specs.Docket.{Contents, marker}
use Rattle.hg_docket.specs.Written.{bytes_of, head_of}

head_parts : (m p1 z p2 y n1 n2 n3 n4 n5 u hash used : List ℕ)
    → length (m ++ p1 ++ z ++ p2 ++ y ++ n1 ++ n2 ++ n3 ++ n4 ++ n5 ++ u ++ hash ++ used)
    ≡ length m + length p1 + length z + length p2 + length y + length n1 + length n2 + length n3 + length n4 + length n5 + length u + length hash + length used
head_parts m p1 z p2 y n1 n2 n3 n4 n5 u hash used = simp length-append

head_length : (d : Contents) → length d.p1 ≡ 20 → length d.p2 ≡ 20 → length d.hash ≡ 20 → length (head_of d) ≡ 124
unfolding head_of
head_length d p1 p2 hash =
    let all = head_parts marker d.p1 (replicate 12 0) d.p2 (replicate 12 0) (to_be_bytes w32 d.root_start) (to_be_bytes w32 d.root_count) (to_be_bytes w32 d.entries) (to_be_bytes w32 d.copies) (to_be_bytes w32 d.unreachable) (replicate 4 0) d.hash (to_be_bytes w32 d.used) in
    omega (arith, all, p1, p2, hash)

pub docket_few : (d : Contents) (bytes : List ℕ) → length d.p1 ≡ 20 → length d.p2 ≡ 20 → length d.hash ≡ 20 → length d.id ≤ 2 → bytes ≡ bytes_of d → length bytes ≤ 512
docket_few d bytes p1 p2 hash id is =
    let head = head_length d p1 p2 hash in
    let one = length-append (head_of d ++ length d.id ∷ []) d.id in
    let two = length-append (head_of d) (length d.id ∷ []) in
    rw is (omega (arith, one, two, head, id))
