-- How long the parts of a layout are.
use Rattle.std.proofs.Common.{◌≡◌, ℕ, ◌+◌, ◌*◌, ◌<◌, ◌≤◌, ◌^◌, Bool, true, false, cond, Option, Some, None, List, ◌++◌, length, refl, arith}
use Rattle.std.proofs.lemmas.List.{length-append}
use Rattle.hg_node.specs.declared.record.Rec.{Rec}
use Rattle.hg_node.specs.Node.{bytes_of}
use Rattle.hg_append.specs.declared.kept.Kept.{Kept}
use Rattle.hg_append.specs.Keeps.{Keeps, bytes_unless, keeps_nothing, size_unless}
use Rattle.hg_append.specs.Tree.{Counting, Tree, Nothing, Node, count_in, heads, kept_of}
use Rattle.hg_append.specs.Layout.{behind_in, front_in, front_of, front_size, front_size_in, path_put, put_in, put_of, rec_in, records_in, records_of, size_in, size_of, source_put, under_bytes, under_size}
use Rattle.hg_append.specs.Put.{kept}

-- what stands before the records, and the records
pub size_is_in : (keeps : Keeps) (tree : Tree) → size_in keeps tree ≡ front_size_in keeps tree + 44 * length (heads tree)
size_is_in keeps Nothing = refl
size_is_in keeps (Node child below behind) =
    let more : size_in keeps behind ≡ front_size_in keeps behind + 44 * length (heads behind) = size_is_in keeps behind in
    omega (arith, more)

pub size_is : (tree : Tree) → size_of tree ≡ front_size tree + 44 * length (heads tree)
size_is tree = size_is_in keeps_nothing tree

pub record_length : (rec : Rec) → length (bytes_of rec) ≡ 44
record_length rec = refl

pub records_length_in : (keeps : Keeps) (at : ℕ) (tree : Tree) → length (records_in keeps at tree) ≡ 44 * length (heads tree)
records_length_in keeps at Nothing = refl
records_length_in keeps at (Node child below behind) =
    let more : length (records_in keeps (behind_in keeps at child below) behind) ≡ 44 * length (heads behind) = records_length_in keeps (behind_in keeps at child below) behind in
    let both : length (bytes_of (rec_in keeps at child below) ++ records_in keeps (behind_in keeps at child below) behind) ≡ 44 + length (records_in keeps (behind_in keeps at child below) behind) =
    length-append (bytes_of (rec_in keeps at child below)) (records_in keeps (behind_in keeps at child below) behind) in
    omega (arith, more, both)

pub records_length : (at : ℕ) (tree : Tree) → length (records_of at tree) ≡ 44 * length (heads tree)
records_length at tree = records_length_in keeps_nothing at tree

-- the bytes of a list that may be kept
unless_length : (list : Option Kept) (bytes : List ℕ) (n : ℕ) → length bytes ≡ n → length (bytes_unless list bytes) ≡ size_unless list n
unless_length None bytes n same = same
unless_length (Some list) bytes n same = refl

pub front_length_in : (keeps : Keeps) (at : ℕ) (tree : Tree) → length (front_in keeps at tree) ≡ front_size_in keeps tree
front_length_in keeps at Nothing = refl
front_length_in keeps at (Node child below behind) =
    let a = front_in keeps at below in
    let b = records_in keeps at below in
    let under = under_bytes keeps at child below in
    let path = path_put keeps child in
    let c = source_put keeps child in
    let d = front_in keeps (behind_in keeps at child below) behind in
    let one : length a ≡ front_size_in keeps below = front_length_in keeps at below in
    let two : length b ≡ 44 * length (heads below) = records_length_in keeps at below in
    let all : size_in keeps below ≡ front_size_in keeps below + 44 * length (heads below) = size_is_in keeps below in
    let three : length d ≡ front_size_in keeps behind = front_length_in keeps (behind_in keeps at child below) behind in
    let s : length (a ++ b) ≡ length a + length b = length-append a b in
    let lower : length under ≡ under_size keeps child below = unless_length (kept_of keeps child) (a ++ b) (size_in keeps below) (omega (arith, one, two, all, s)) in
    let p : length (under ++ path ++ c ++ d) ≡ length (under ++ path ++ c) + length d = length-append (under ++ path ++ c) d in
    let q : length (under ++ path ++ c) ≡ length (under ++ path) + length c = length-append (under ++ path) c in
    let r : length (under ++ path) ≡ length under + length path = length-append under path in
    omega (arith, three, p, q, r, lower)

pub front_length : (at : ℕ) (tree : Tree) → length (front_of at tree) ≡ front_size tree
front_length at tree = front_length_in keeps_nothing at tree

pub put_length_in : (keeps : Keeps) (at : ℕ) (tree : Tree) → length (put_in keeps at tree) ≡ size_in keeps tree
put_length_in keeps at tree =
    let one : length (front_in keeps at tree) ≡ front_size_in keeps tree = front_length_in keeps at tree in
    let two : length (records_in keeps at tree) ≡ 44 * length (heads tree) = records_length_in keeps at tree in
    let all : size_in keeps tree ≡ front_size_in keeps tree + 44 * length (heads tree) = size_is_in keeps tree in
    let both : length (front_in keeps at tree ++ records_in keeps at tree) ≡ length (front_in keeps at tree) + length (records_in keeps at tree) = length-append (front_in keeps at tree) (records_in keeps at tree) in
    omega (arith, one, two, all, both)

pub put_length : (at : ℕ) (tree : Tree) → length (put_of at tree) ≡ size_of tree
put_length at tree = put_length_in keeps_nothing at tree

-- each that is counted takes a record
pub counted_few : (counting : Counting) (tree : Tree) → 44 * count_in counting tree ≤ size_of tree
counted_few counting Nothing = omega arith
counted_few counting (Node child below behind) =
    let one : cond {A = ℕ} (counting.test child) 1 0 ≤ 1 = at_most (counting.test child) in
    let under : 44 * count_in counting below ≤ size_of below = counted_few counting below in
    let more : 44 * count_in counting behind ≤ size_of behind = counted_few counting behind in
    omega (arith, one, under, more)
  where
    at_most : (b : Bool) → cond {A = ℕ} b 1 0 ≤ 1
    at_most true = omega arith
    at_most false = omega arith

-- sums that are kept
pub kept_small : (n : ℕ) → n < 2 ^ 32 → kept n ≡ n
kept_small n small = omega (arith, small)

pub kept_back : (n : ℕ) → kept n < 2 ^ 32 → n < 2 ^ 32
kept_back n small = omega (arith, small)

pub kept_more : (a b : ℕ) → kept (kept a + b) ≡ kept (a + b)
kept_more a b = omega arith

pub kept_both : (a b : ℕ) → kept (kept a + kept b) ≡ kept (a + b)
kept_both a b = omega arith

pub kept_times : (a n : ℕ) → kept (kept a + kept (kept n * 44)) ≡ kept (a + 44 * n)
kept_times a n = omega arith
