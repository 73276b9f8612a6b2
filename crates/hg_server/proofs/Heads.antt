-- Judging bytes that were taken for a request: those of which all stand there, and those behind which some are missing.
use Rattle.std.proofs.Common.{◌≡◌, ℕ, ◌+◌, ◌-◌, ◌<◌, ◌≤◌, min, Bool, true, false, cond, not, ◌&&◌, eqb, ltb, List, ◌++◌, length, take, drop, Option, MatchBool, refl, sym, ap, ◌∙◌, subst, arith, inr}
use Rattle.std.specs.Int.{w32, to_be_bytes}
use Rattle.std.proofs.lemmas.Bool.{le-ltb, ltb-false, lt-ltb}
use Rattle.std.proofs.lemmas.List.{drop-drop, length-drop, take-append-drop, take_all}
use Rattle.hg_base.proofs.Within.{same_bytes}
use Rattle.hg_server.specs.Protocol.{line}
use Rattle.hg_server.specs.Requests.{agrees, room, size_in}
use Rattle.hg_server.specs.Steps.{IsOpen, IsThere}
use Rattle.hg_server.specs.declared.fault.ServeFault.{ServeFault}

-- ---- chains of tests

pub last_of : (b1 b2 b3 b4 b5 : Bool) (x1 x2 x3 x4 x5 x6 : Option ServeFault) → b1 ≡ false → b2 ≡ false → b3 ≡ false → b4 ≡ false → b5 ≡ false
    → cond b1 x1 (cond b2 x2 (cond b3 x3 (cond b4 x4 (cond b5 x5 x6)))) ≡ x6
last_of b1 b2 b3 b4 b5 x1 x2 x3 x4 x5 x6 e1 e2 e3 e4 e5 = rw (e1, e2, e3, e4, e5) refl

pub third_of : (b1 b2 b3 : Bool) (x1 x2 x3 x4 : Option ServeFault) → b1 ≡ false → b2 ≡ false → b3 ≡ true → cond b1 x1 (cond b2 x2 (cond b3 x3 x4)) ≡ x3
third_of b1 b2 b3 x1 x2 x3 x4 e1 e2 e3 = rw (e1, e2, e3) refl

pub fifth_of : (b1 b2 b3 b4 b5 : Bool) (x1 x2 x3 x4 x5 x6 : Option ServeFault) → b1 ≡ false → b2 ≡ false → b3 ≡ false → b4 ≡ false → b5 ≡ true
    → cond b1 x1 (cond b2 x2 (cond b3 x3 (cond b4 x4 (cond b5 x5 x6)))) ≡ x5
fifth_of b1 b2 b3 b4 b5 x1 x2 x3 x4 x5 x6 e1 e2 e3 e4 e5 = rw (e1, e2, e3, e4, e5) refl

-- ---- the head of a request

not_past : (past there : Bool) → (past && not there) ≡ false → there ≡ false → past ≡ false
not_past true true e f = f
not_past true false e f = e
not_past false there e f = refl

-- what agrees with the line and is as long begins with it
begins : (part : List ℕ) → agrees part ≡ true → 11 ≤ length part → take 11 part ≡ line
begins part agree long =
    let all : min (length part) 11 ≡ 11 = omega arith in
    subst (λ (n : ℕ). take n part ≡ take n line) all (same_bytes (take (min (length part) 11) part) (take (min (length part) 11) line) agree)

-- bytes with a whole head are the line, four bytes and the rest
cut_head : (part : List ℕ) → agrees part ≡ true → 11 ≤ length part → part ≡ line ++ take 4 (drop 11 part) ++ drop 15 part
cut_head part agree long =
    sym (take-append-drop 11 part) ∙ ap (λ (l : List ℕ). l ++ drop 11 part) (begins part agree long)
    ∙ ap (λ (l : List ℕ). line ++ l) (sym (take-append-drop 4 (drop 11 part)) ∙ ap (λ (l : List ℕ). take 4 (drop 11 part) ++ l) (drop-drop 4 11 part))

-- ---- all bytes are there, or some are missing

module _ (n size : ℕ) (part : List ℕ) (is : size ≡ size_in part) (bytes : to_be_bytes w32 size ≡ take 4 (drop 11 part)) (not_over : (ltb 4294967296 n && not (eqb (length part) 0)) ≡ false)
    (agree : agrees part ≡ true) (long : 15 ≤ length part) (few : size ≤ 1048576) where
  some : eqb (length part) 0 ≡ false
  some = eqb_no (length part) long
    where
      eqb_no : (m : ℕ) → 15 ≤ m → eqb m 0 ≡ false
      eqb_no m low = grind arith

  few_in : size_in part ≤ 1048576
  few_in = subst (λ (k : ℕ). k ≤ 1048576) is few

  there : length part ≡ 15 + size → IsThere n part
  there all =
      let rest : length (drop 15 part) ≡ size = omega (arith, length-drop 15 part, all) in
      record {
        judged = last_of _ _ _ _ _ _ _ _ _ _ _ not_over (ap not agree) (le-ltb (length part) 15 long) (le-ltb 1048576 (size_in part) few_in)
            (le-ltb (length part) (15 + size_in part) (omega (arith, all, is)));
        text = take_all (size_in part) (drop 15 part) (omega (arith, rest, is));
        whole = cut_head part agree (omega (arith, long)) ∙ ap (λ (l : List ℕ). line ++ l ++ drop 15 part) (sym bytes) ∙ ap (λ (k : ℕ). line ++ to_be_bytes w32 k ++ drop 15 part) (sym rest);
        short = omega (arith, rest, few);
        number = ltb-false 4294967296 n (not_past (ltb 4294967296 n) (eqb (length part) 0) not_over some);
      }

  missing : length part < 15 + size → IsOpen n part (15 + size - length part)
  missing less = record {
    judged = fifth_of _ _ _ _ _ _ _ _ _ _ _ not_over (ap not agree) (le-ltb (length part) 15 long) (le-ltb 1048576 (size_in part) few_in)
        (lt-ltb (length part) (15 + size_in part) (omega (arith, less, is)));
    allowed = inr (long, few_in, omega (arith, less, is));
  }

  room_is : room part ≡ 15 + size_in part
  room_is = ap (λ (b : Bool). cond b 15 (15 + size_in part)) (le-ltb 1048576 (size_in part) few_in)

  by_test : (b : Bool) (m : ℕ) → m ≡ 15 + size - length part → b ≡ eqb m 0 → length part ≤ 15 + size → MatchBool b (IsThere n part) (IsOpen n part m)
  by_test true m e test within =
      let none : m ≡ 0 = eqb-zero m (sym test) in
      there (omega (arith, e, none, within))
    where
      eqb-zero : (k : ℕ) → eqb k 0 ≡ true → k ≡ 0
      eqb-zero k t = grind arith
  by_test false m e test within =
      let more : 0 < m = eqb-more m (sym test) in
      subst (λ (k : ℕ). IsOpen n part k) (sym e) (missing (omega (arith, e, more)))
    where
      eqb-more : (k : ℕ) → eqb k 0 ≡ false → 0 < k
      eqb-more k t = grind arith

  pub lacks : length part ≤ room part → MatchBool (eqb (15 + size - length part) 0) (IsThere n part) (IsOpen n part (15 + size - length part))
  lacks within = by_test _ (15 + size - length part) refl refl (omega (arith, within, room_is, is))
