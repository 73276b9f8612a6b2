-- Each flag of a written entry is read as it was.
use Rattle.std.proofs.Common.{◌≡◌, ℕ, ◌+◌, ◌*◌, ◌/◌, ◌%◌, ◌^◌, ◌<◌, ◌≤◌, Bool, true, false, ◌==◌, is_some, refl, arith, ap, ◌∙◌}
use Rattle.hg_entry.specs.Flags.{has, flag}
use Rattle.hg_entry.specs.Entry.{EntryData}
use Rattle.hg_entry.specs.Written.{flags_of, is_ambiguous}

-- a flag as a number
bit : Bool → ℕ
bit true = 1
bit false = 0

bit_small : (b : Bool) → bit b ≤ 1
unfolding bit
bit_small true = omega arith
bit_small false = omega arith

bit_test : (b : Bool) (n : ℕ) → n ≡ bit b → (n == 1) ≡ b
unfolding bit
bit_test true n e = rw e refl
bit_test false n e = rw e refl

flag_is : (b : Bool) (k : ℕ) → flag b k ≡ bit b * 2 ^ k
unfolding bit
flag_is true k = omega arith
flag_is false k = omega arith

-- what the flags and the four carried bits add up to
total : EntryData → ℕ
total v =
    bit v.w * 1 + bit v.p1 * 2 + bit v.p2 * 4 + bit v.exec * 8 + bit v.link * 16 + bit v.modified * 512 + bit (is_some v.size) * 1024 + bit (is_some v.stamp) * 2048 + bit (is_ambiguous v.stamp) * 4096 + v.fallback * 32

total_is : (v : EntryData) → flags_of v ≡ total v
unfolding total
total_is v =
    omega (arith, flag_is v.w 0, flag_is v.p1 1, flag_is v.p2 2, flag_is v.exec 3, flag_is v.link 4, flag_is v.modified 9, flag_is (is_some v.size) 10, flag_is (is_some v.stamp) 11, flag_is (is_ambiguous v.stamp) 12)

total_w : (v : EntryData) → v.fallback < 16 → total v / 1 % 2 ≡ bit v.w
unfolding total
total_w v few = omega (arith, bit_small v.w, bit_small v.p1, bit_small v.p2, bit_small v.exec, bit_small v.link, bit_small v.modified, bit_small (is_some v.size), bit_small (is_some v.stamp), bit_small (is_ambiguous v.stamp))

pub w_back : (v : EntryData) → v.fallback < 16 → has (flags_of v) 0 ≡ v.w
w_back v few = ap (λ n. has n 0) (total_is v) ∙ bit_test v.w (total v / 1 % 2) (total_w v few)

total_p1 : (v : EntryData) → v.fallback < 16 → total v / 2 % 2 ≡ bit v.p1
unfolding total
total_p1 v few = omega (arith, bit_small v.w, bit_small v.p1, bit_small v.p2, bit_small v.exec, bit_small v.link, bit_small v.modified, bit_small (is_some v.size), bit_small (is_some v.stamp), bit_small (is_ambiguous v.stamp))

pub p1_back : (v : EntryData) → v.fallback < 16 → has (flags_of v) 1 ≡ v.p1
p1_back v few = ap (λ n. has n 1) (total_is v) ∙ bit_test v.p1 (total v / 2 % 2) (total_p1 v few)

total_p2 : (v : EntryData) → v.fallback < 16 → total v / 4 % 2 ≡ bit v.p2
unfolding total
total_p2 v few = omega (arith, bit_small v.w, bit_small v.p1, bit_small v.p2, bit_small v.exec, bit_small v.link, bit_small v.modified, bit_small (is_some v.size), bit_small (is_some v.stamp), bit_small (is_ambiguous v.stamp))

pub p2_back : (v : EntryData) → v.fallback < 16 → has (flags_of v) 2 ≡ v.p2
p2_back v few = ap (λ n. has n 2) (total_is v) ∙ bit_test v.p2 (total v / 4 % 2) (total_p2 v few)

total_exec : (v : EntryData) → v.fallback < 16 → total v / 8 % 2 ≡ bit v.exec
unfolding total
total_exec v few = omega (arith, bit_small v.w, bit_small v.p1, bit_small v.p2, bit_small v.exec, bit_small v.link, bit_small v.modified, bit_small (is_some v.size), bit_small (is_some v.stamp), bit_small (is_ambiguous v.stamp))

pub exec_back : (v : EntryData) → v.fallback < 16 → has (flags_of v) 3 ≡ v.exec
exec_back v few = ap (λ n. has n 3) (total_is v) ∙ bit_test v.exec (total v / 8 % 2) (total_exec v few)

total_link : (v : EntryData) → v.fallback < 16 → total v / 16 % 2 ≡ bit v.link
unfolding total
total_link v few = omega (arith, bit_small v.w, bit_small v.p1, bit_small v.p2, bit_small v.exec, bit_small v.link, bit_small v.modified, bit_small (is_some v.size), bit_small (is_some v.stamp), bit_small (is_ambiguous v.stamp))

pub link_back : (v : EntryData) → v.fallback < 16 → has (flags_of v) 4 ≡ v.link
link_back v few = ap (λ n. has n 4) (total_is v) ∙ bit_test v.link (total v / 16 % 2) (total_link v few)

total_modified : (v : EntryData) → v.fallback < 16 → total v / 512 % 2 ≡ bit v.modified
unfolding total
total_modified v few = omega (arith, bit_small v.w, bit_small v.p1, bit_small v.p2, bit_small v.exec, bit_small v.link, bit_small v.modified, bit_small (is_some v.size), bit_small (is_some v.stamp), bit_small (is_ambiguous v.stamp))

pub modified_back : (v : EntryData) → v.fallback < 16 → has (flags_of v) 9 ≡ v.modified
modified_back v few = ap (λ n. has n 9) (total_is v) ∙ bit_test v.modified (total v / 512 % 2) (total_modified v few)

total_sized : (v : EntryData) → v.fallback < 16 → total v / 1024 % 2 ≡ bit (is_some v.size)
unfolding total
total_sized v few = omega (arith, bit_small v.w, bit_small v.p1, bit_small v.p2, bit_small v.exec, bit_small v.link, bit_small v.modified, bit_small (is_some v.size), bit_small (is_some v.stamp), bit_small (is_ambiguous v.stamp))

pub sized_back : (v : EntryData) → v.fallback < 16 → has (flags_of v) 10 ≡ is_some v.size
sized_back v few = ap (λ n. has n 10) (total_is v) ∙ bit_test (is_some v.size) (total v / 1024 % 2) (total_sized v few)

total_timed : (v : EntryData) → v.fallback < 16 → total v / 2048 % 2 ≡ bit (is_some v.stamp)
unfolding total
total_timed v few = omega (arith, bit_small v.w, bit_small v.p1, bit_small v.p2, bit_small v.exec, bit_small v.link, bit_small v.modified, bit_small (is_some v.size), bit_small (is_some v.stamp), bit_small (is_ambiguous v.stamp))

pub timed_back : (v : EntryData) → v.fallback < 16 → has (flags_of v) 11 ≡ is_some v.stamp
timed_back v few = ap (λ n. has n 11) (total_is v) ∙ bit_test (is_some v.stamp) (total v / 2048 % 2) (total_timed v few)

total_ambiguous : (v : EntryData) → v.fallback < 16 → total v / 4096 % 2 ≡ bit (is_ambiguous v.stamp)
unfolding total
total_ambiguous v few = omega (arith, bit_small v.w, bit_small v.p1, bit_small v.p2, bit_small v.exec, bit_small v.link, bit_small v.modified, bit_small (is_some v.size), bit_small (is_some v.stamp), bit_small (is_ambiguous v.stamp))

pub ambiguous_back : (v : EntryData) → v.fallback < 16 → has (flags_of v) 12 ≡ is_ambiguous v.stamp
ambiguous_back v few = ap (λ n. has n 12) (total_is v) ∙ bit_test (is_ambiguous v.stamp) (total v / 4096 % 2) (total_ambiguous v few)

total_fallback : (v : EntryData) → v.fallback < 16 → total v / 32 % 16 ≡ v.fallback
unfolding total
total_fallback v few = omega (arith, bit_small v.w, bit_small v.p1, bit_small v.p2, bit_small v.exec, bit_small v.link, bit_small v.modified, bit_small (is_some v.size), bit_small (is_some v.stamp), bit_small (is_ambiguous v.stamp))

pub fallback_back : (v : EntryData) → v.fallback < 16 → flags_of v / 32 % 16 ≡ v.fallback
fallback_back v few = ap (λ n. n / 32 % 16) (total_is v) ∙ total_fallback v few
