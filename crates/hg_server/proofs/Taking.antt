-- Bytes that a source puts into a buffer, behind those that stand there.
use Rattle.std.proofs.Common.{◌≡◌, ℕ, zero, suc, ◌+◌, ◌-◌, ◌<◌, ◌≤◌, ◌↔◌, ltb, Bool, true, List, [], ◌++◌, length, take, drop, Option, Some, None, IfSome, MatchBool, refl, sym, ap, subst, ◌∙◌, arith}
use Rattle.std.proofs.lemmas.List.{length-append, length-drop, length-take, take-append-drop, take-append-le, take-take, take_all}
use Rattle.std.proofs.lemmas.Bool.{lt-ltb}
use Rattle.std.proofs.Math.Seq.{take-append-add}
use Rattle.hg_stream.specs.Stream.{Taken}
use Rattle.hg_server.specs.Requests.{IsAtEnd, Took}
use Rattle.hg_server.specs.Steps.{TakesSome}

behind : (front buf post : List ℕ) (n : ℕ) → n ≤ length buf → take (length front + n) (front ++ (buf ++ post)) ≡ front ++ take n buf
behind front buf post n within = take-append-add front (buf ++ post) n ∙ ap (λ (l : List ℕ). front ++ l) (take-append-le n buf post within)

-- what a buffer shows of which so many bytes more are used
pub shown : (room buf post : List ℕ) (len n : ℕ) → len ≤ length room → n ≤ length buf → take (len + n) (take len room ++ (buf ++ post)) ≡ take len room ++ take n buf
shown room buf post len n there within =
    let long : length (take len room) ≡ len = omega (arith, length-take len room, there) in
    ap (λ (k : ℕ). take (k + n) (take len room ++ (buf ++ post))) (sym long) ∙ behind (take len room) buf post n within

taken_told : (old new buf_old buf_new : List ℕ) (n : ℕ) → n ≤ length buf_old → length buf_new ≡ length buf_old → new ≡ drop n old → buf_new ≡ take n old ++ drop n buf_old → old ≡ take n buf_new ++ new
taken_told old new buf_old buf_new n within same rest filled =
    let there : n ≤ length old = omega (arith, within, same, ap length filled, length-append (take n old) (drop n buf_old), length-take n old, length-drop n buf_old) in
    let long : n ≤ length (take n old) = omega (arith, there, length-take n old) in
    let front : take n buf_new ≡ take n old = ap (take n) filled ∙ take-append-le n (take n old) (drop n buf_old) long ∙ take_all n (take n old) (omega (arith, length-take n old)) in
    sym (take-append-drop n old) ∙ ap (λ (l : List ℕ). take n old ++ l) (sym rest) ∙ ap (λ (l : List ℕ). l ++ new) (sym front)

took : (from to : Option (List ℕ)) (buf_old buf_new : List ℕ) (n : ℕ) → n ≤ length buf_old → length buf_new ≡ length buf_old → Taken from to buf_old buf_new n → Took from to (take n buf_new)
took None None buf_old buf_new n within same taken = refl
took (Some old) (Some new) buf_old buf_new n within same taken = ap Some (taken_told old new buf_old buf_new n within same taken.left taken.filled)
took None (Some new) buf_old buf_new n within same taken = absurd taken
took (Some old) None buf_old buf_new n within same taken = absurd taken

at_end : (from to : Option (List ℕ)) (buf_old buf_new : List ℕ) (n : ℕ) → n ≡ 0 → Taken from to buf_old buf_new n → IfSome from (λ bytes. n ≡ 0 ↔ bytes ≡ []) → IsAtEnd to
at_end None None buf_old buf_new n none taken end = tt
at_end (Some old) (Some new) buf_old buf_new n none taken end = taken.left ∙ ap (λ (k : ℕ). drop k old) none ∙ end.0 none
at_end None (Some new) buf_old buf_new n none taken end = absurd taken
at_end (Some old) None buf_old buf_new n none taken end = absurd taken

ended : (from to : Option (List ℕ)) (buf_old buf_new : List ℕ) (n : ℕ) → n ≤ length buf_old → 0 < length buf_old → length buf_new ≡ length buf_old → Taken from to buf_old buf_new n
    → (0 < length buf_old → IfSome from (λ bytes. n ≡ 0 ↔ bytes ≡ [])) → MatchBool (ltb 0 n) (0 < length (take n buf_new)) ((take n buf_new ≡ []) × IsAtEnd to)
ended from to buf_old buf_new zero within some same taken end = (refl, at_end from to buf_old buf_new 0 refl taken (end some))
ended from to buf_old buf_new (suc n) within some same taken end =
    let more : 0 < length (take (suc n) buf_new) = omega (arith, within, same, length-take (suc n) buf_new) in
    let test : true ≡ ltb 0 (suc n) = sym (lt-ltb 0 (suc n) (omega arith)) in
    subst (λ (b : Bool). MatchBool b (0 < length (take (suc n) buf_new)) ((take (suc n) buf_new ≡ []) × IsAtEnd to)) test more

-- what a take says of a buffer whose first bytes were taken before, and which was made longer then
pub takes_some : (from to : Option (List ℕ)) (short room buf_old buf_new post old new : List ℕ) (len most n : ℕ) → take (length short) room ≡ short → len ≤ length short → take len short ≡ old
    → len + most ≤ length room → buf_old ≡ take (len + most - len) (drop len room) → new ≡ take (len + n) (take len room ++ (buf_new ++ post)) → 0 < most → length buf_new ≡ length buf_old
    → n ≤ length buf_old → Taken from to buf_old buf_new n → (0 < length buf_old → IfSome from (λ bytes. n ≡ 0 ↔ bytes ≡ [])) → TakesSome old new from to most (ltb 0 n)
takes_some from to short room buf_old buf_new post old new len most n kept there was fits lent is some same within taken end =
    let long : length buf_old ≡ most = omega (arith, fits, ap length lent, length-take (len + most - len) (drop len room), length-drop len room) in
    let front : take len room ≡ old = sym (take-take len (length short) room there) ∙ ap (take len) kept ∙ was in
    record {
      more = take n buf_new;
      whole = is ∙ shown room buf_new post len n (omega (arith, fits)) (omega (arith, within, same)) ∙ ap (λ (l : List ℕ). l ++ take n buf_new) front;
      took = took from to buf_old buf_new n within same taken;
      few = omega (arith, length-take n buf_new, within, long);
      end = ended from to buf_old buf_new n within (omega (arith, long, some)) same taken end;
    }
