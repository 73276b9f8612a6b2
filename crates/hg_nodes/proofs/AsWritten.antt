-- Numbers that are those that their entry is written as.
use Rattle.std.proofs.Common.{◌≡◌, ℕ, zero, suc, ◌+◌, ◌*◌, ◌/◌, ◌%◌, ◌^◌, ◌<◌, Bool, true, false, not, ◌&&◌, ◌==◌, cond, eqb-true, Option, Some, None, is_some, refl, sym, arith, true≢false, ◌∙◌}
use Rattle.hg_entry.specs.declared.entry.Fields.{Fields}
use Rattle.hg_entry.specs.Entry.{EntryData, StampData, has_entry, time_of}
use Rattle.hg_entry.specs.Flags.{flag, has}
use Rattle.hg_entry.specs.Written.{flags_of, is_ambiguous, nanos_of, or_zero, seconds_of}
use Rattle.hg_nodes.specs.Written.{AreTheirs, is_sized, is_timed}

both_true : (a b : Bool) → (a && b) ≡ true → (a ≡ true) × (b ≡ true)
both_true true b h = (refl, h)
both_true false b h = absurd (true≢false (sym h))

is_clear : (a : Bool) → not a ≡ true → a ≡ false
is_clear true h = absurd (true≢false (sym h))
is_clear false h = refl

-- what a flag adds, as a number
flag_bit : (m k : ℕ) → m < 2 → flag (m == 1) k ≡ m * 2 ^ k
flag_bit zero k few = omega arith
flag_bit (suc zero) k few = omega arith
flag_bit (suc (suc m)) k few = absurd (omega (arith, few))

low_bits : (n : ℕ) → n / 1 % 2 * 1 + n / 2 % 2 * 2 + n / 4 % 2 * 4 + n / 8 % 2 * 8 + n / 16 % 2 * 16 + n / 32 * 32 ≡ n
low_bits n = omega arith

high_bits : (m : ℕ) → m < 256 → m % 16 + m / 16 % 2 * 16 + m / 32 % 2 * 32 + m / 64 % 2 * 64 + m / 128 % 2 * 128 ≡ m
high_bits m few = omega (arith, few)

-- the flags of numbers, each by itself
flags_sum : (n : ℕ) → n < 2 ^ 13
    → flag (has n 0) 0 + flag (has n 1) 1 + flag (has n 2) 2 + flag (has n 3) 3 + flag (has n 4) 4 + n / 2 ^ 5 % 16 * 2 ^ 5 + flag (has n 9) 9 + flag (has n 10) 10 + flag (has n 11) 11 + flag (has n 12) 12 ≡ n
flags_sum n few =
    omega (
      arith,
      few,
      flag_bit (n / 2 ^ 0 % 2) 0 (omega arith),
      flag_bit (n / 2 ^ 1 % 2) 1 (omega arith),
      flag_bit (n / 2 ^ 2 % 2) 2 (omega arith),
      flag_bit (n / 2 ^ 3 % 2) 3 (omega arith),
      flag_bit (n / 2 ^ 4 % 2) 4 (omega arith),
      flag_bit (n / 2 ^ 9 % 2) 9 (omega arith),
      flag_bit (n / 2 ^ 10 % 2) 10 (omega arith),
      flag_bit (n / 2 ^ 11 % 2) 11 (omega arith),
      flag_bit (n / 2 ^ 12 % 2) 12 (omega arith),
      low_bits n,
      high_bits (n / 32) (omega (arith, few)),
    )

-- what counts beside a size alone, where there is one, or nothing of it is said
sized : (s exec link : Bool) (n : ℕ) → cond s true (n == 0 && not exec && not link) ≡ true
    → ((s && exec) ≡ exec) × (((s && link) ≡ link) × ((or_zero (cond s (Some n) None) ≡ n) × (is_some (cond s (Some n) None) ≡ s)))
sized true exec link n h = (refl, (refl, (refl, refl)))
sized false exec link n h =
    let parts = both_true (n == 0 && not exec) (not link) h in
    let front = both_true (n == 0) (not exec) parts.0 in
    (sym (is_clear exec front.1), (sym (is_clear link parts.1), (sym (eqb-true n 0 front.0), refl)))

-- a time, where it is recorded and counts, or nothing of it is said
record IsKept (time : StampData) (recorded : Bool) (read : Option StampData) : Type 0 where
  seconds : seconds_of read ≡ time.seconds
  nanos : nanos_of read ≡ time.nanos
  ambiguous : is_ambiguous read ≡ time.ambiguous
  some : is_some read ≡ recorded

timed : (t modified : Bool) (time : StampData) → cond t (not modified) (time.seconds == 0 && time.nanos == 0 && not time.ambiguous) ≡ true
    → IsKept time t (cond (t && not modified) (Some time) None)
timed true true time h = absurd (true≢false (sym h))
timed true false time h = record { seconds = refl; nanos = refl; ambiguous = refl; some = refl }
timed false modified time h =
    let parts = both_true (time.seconds == 0 && time.nanos == 0) (not time.ambiguous) h in
    let front = both_true (time.seconds == 0) (time.nanos == 0) parts.0 in
    record { seconds = sym (eqb-true _ 0 front.0); nanos = sym (eqb-true _ 0 front.1); ambiguous = sym (is_clear _ parts.1); some = refl }

-- what numbers say with an entry
read : Fields → EntryData
read f =
    record {
      w = has f.flags 0;
      p1 = has f.flags 1;
      p2 = has f.flags 2;
      exec = has f.flags 10 && has f.flags 3;
      link = has f.flags 10 && has f.flags 4;
      size = cond (has f.flags 10) (Some f.size) None;
      stamp = cond (has f.flags 11 && not (has f.flags 9)) (Some (time_of f)) None;
      modified = has f.flags 9;
      fallback = f.flags / 2 ^ 5 % 16;
    }

pub theirs : (f : Fields) → f.flags < 2 ^ 13 → has_entry f.flags ≡ true → is_sized f ≡ true → is_timed f ≡ true → AreTheirs f
unfolding read
theirs f few entry size time =
    let s = sized (has f.flags 10) (has f.flags 3) (has f.flags 4) f.size size in
    let t = timed (has f.flags 11) (has f.flags 9) (time_of f) time in
    let n = f.flags in
    let sum : flags_of (read f) ≡ n =
    (λ i. flag (has n 0) 0 + flag (has n 1) 1 + flag (has n 2) 2 + flag (s.0 i) 3 + flag (s.1.0 i) 4 + n / 2 ^ 5 % 16 * 2 ^ 5 + flag (has n 9) 9 + flag (s.1.1.1 i) 10 + flag (t.some i) 11 + flag (t.ambiguous i) 12) ∙ flags_sum n few in
    record {
      entry = read f;
      is = λ i. cond (entry i) (Some (read f)) None;
      same = sym (λ i. record { flags = sum i; size = s.1.1.0 i; seconds = t.seconds i; nanos = t.nanos i });
    }
