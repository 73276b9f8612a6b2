-- Parting a text into requests, in one way alone.
use Rattle.std.proofs.Common.{◌≡◌, ℕ, ◌+◌, ◌<◌, ◌≤◌, min, Bool, true, false, not, ◌&&◌, eqb, ltb, List, [], ◌∷◌, ◌++◌, length, take, drop, flat_map, Option, Some, None, refl, sym, ap, ◌∙◌, subst, append_assoc, arith, bytes_eq}
use Rattle.std.specs.Int.{w32, to_be_bytes}
use Rattle.std.proofs.lemmas.Bool.{le-ltb, lt-ltb, ltb-false}
use Rattle.std.proofs.lemmas.List.{append-nil, length-append, take-append-le}
use Rattle.std.proofs.Math.Seq.{drop-append_seam}
use Rattle.hg_base.proofs.Within.{equal_bytes}
use Rattle.hg_server.proofs.Heads.{fifth_of, third_of}
use Rattle.hg_server.proofs.Reading.{same_size}
use Rattle.hg_server.proofs.Writing.{long, not_refused, sized, texted}
use Rattle.hg_server.specs.Protocol.{IsFit, line, request}
use Rattle.hg_server.specs.Readings.{AreFit, HasOneReading, IsAwaited, IsRest, IsTaken}
use Rattle.hg_server.specs.Requests.{agrees, refusal, size_in, text_in}
use Rattle.hg_server.specs.declared.fault.ServeFault.{ServeFault}
use Rattle.hg_server.specs.declared.fault.ServeFault.TheVariants as a_fault

pub taken : IsTaken
taken n text more low fit = (not_refused n text more low fit, texted text more fit.short)

-- ---- what a request begins with

front_agrees : (text front back : List ℕ) → request text ≡ front ++ back → agrees front ≡ true
front_agrees text front back is =
    let m : ℕ = min (length front) 11 in
    let eleven : length line ≡ 11 = refl in
    let front_is : take m front ≡ take m (request text) = sym (take-append-le m front back (omega arith)) ∙ ap (take m) (sym is) in
    let line_is : take m (request text) ≡ take m line =
    ap (take m) (append_assoc line (to_be_bytes w32 (length text)) text) ∙ take-append-le m line (to_be_bytes w32 (length text) ++ text) (omega (arith, eleven)) in
    ap (λ (l : List ℕ). bytes_eq l (take m line)) (front_is ∙ line_is) ∙ equal_bytes (take m line)

module _ (n : ℕ) (text front back : List ℕ) (low : n ≤ 4294967296) (fit : IsFit text) (is : request text ≡ front ++ back) (more : 0 < length back) where
  not_over : (ltb 4294967296 n && not (eqb (length front) 0)) ≡ false
  not_over = ap (λ (b : Bool). b && not (eqb (length front) 0)) (le-ltb 4294967296 n low)

  size_is : 15 ≤ length front → size_in front ≡ length text
  size_is high = sym (same_size front back high) ∙ ap size_in (sym is ∙ sym (append-nil (request text))) ∙ sized text [] fit.short

  less : length front < 15 + length text
  less = omega (arith, more, ap length is, length-append front back)

  awaited_by : (short : Bool) → ltb (length front) 15 ≡ short → refusal n front ≡ Some (a_fault.ServerShort n)
  awaited_by true short = third_of _ _ _ _ _ _ _ not_over (ap not (front_agrees text front back is)) short
  awaited_by false high =
      let there : 15 ≤ length front = ltb-false (length front) 15 high in
      let size = size_is there in
      fifth_of _ _ _ _ _ _ _ _ _ _ _ not_over (ap not (front_agrees text front back is)) high (le-ltb 1048576 (size_in front) (omega (arith, size, fit.short)))
      (lt-ltb (length front) (15 + size_in front) (omega (arith, size, less)))

pub awaited : IsAwaited
awaited n text front back low fit is more = awaited_by n text front back low fit is more (ltb (length front) 15) refl

-- ---- one reading

some_none : {f : ServeFault} → None ≡ Some f → ⊥
some_none e = cc e

none_first : (n : ℕ) (rest more : List ℕ) (q : List ℕ) (f : Option ServeFault) → n ≤ 4294967296 → IsFit q → IsRest n rest f → rest ≡ request q ++ more → ⊥
none_first n rest more q None low fit ends is = omega (arith, ap length (sym ends ∙ is), long q more fit.short)
none_first n rest more q (Some f) low fit ends is = some_none (sym (ap (refusal n) is ∙ not_refused n q more low fit) ∙ ends.1)

same_end : (n : ℕ) (first second : List ℕ) (f g : Option ServeFault) → IsRest n first f → IsRest n second g → first ≡ second → f ≡ g
same_end n first second None None a b is = refl
same_end n first second None (Some g) a b is = absurd (omega (arith, b.0, ap length (sym is ∙ a)))
same_end n first second (Some f) None a b is = absurd (omega (arith, a.0, ap length (is ∙ b)))
same_end n first second (Some f) (Some g) a b is = sym a.1 ∙ ap (refusal n) is ∙ b.1

one_by : (n : ℕ) (first second : List (List ℕ)) (left right : List ℕ) (f g : Option ServeFault) → flat_map request first ++ left ≡ flat_map request second ++ right → AreFit first → AreFit second
    → n + length first ≤ 4294967297 → n + length second ≤ 4294967297 → IsRest (n + length first) left f → IsRest (n + length second) right g → (first ≡ second) × (f ≡ g)
one_by n [] [] left right f g is fit fit' few few' ends ends' = (refl, same_end (n + 0) left right f g ends ends' is)
one_by n [] (q ∷ second) left right f g is fit fit' few few' ends ends' =
    absurd (none_first (n + 0) left (flat_map request second ++ right) q f (omega (arith, few')) fit'.0 ends (is ∙ append_assoc (request q) (flat_map request second) right))
one_by n (p ∷ first) [] left right f g is fit fit' few few' ends ends' =
    absurd (none_first (n + 0) right (flat_map request first ++ left) p g (omega (arith, few)) fit.0 ends' (sym is ∙ append_assoc (request p) (flat_map request first) left))
one_by n (p ∷ first) (q ∷ second) left right f g is fit fit' few few' ends ends' =
    let whole : request p ++ (flat_map request first ++ left) ≡ request q ++ (flat_map request second ++ right) =
    sym (append_assoc (request p) (flat_map request first) left) ∙ is ∙ append_assoc (request q) (flat_map request second) right in
    let same : p ≡ q = sym (texted p (flat_map request first ++ left) fit.0.short) ∙ ap text_in whole ∙ texted q (flat_map request second ++ right) fit'.0.short in
    let behind : flat_map request first ++ left ≡ flat_map request second ++ right =
    sym (drop-append_seam (request p) (flat_map request first ++ left)) ∙ ap (drop (length (request p))) whole
    ∙ ap (λ (t : List ℕ). drop (length (request t)) (request q ++ (flat_map request second ++ right))) same ∙ drop-append_seam (request q) (flat_map request second ++ right) in
    let next : n + length (p ∷ first) ≡ n + 1 + length first = omega arith in
    let next' : n + length (q ∷ second) ≡ n + 1 + length second = omega arith in
    let rest = one_by (n + 1) first second left right f g behind fit.1 fit'.1 (omega (arith, few, next)) (omega (arith, few', next'))
    (subst (λ (k : ℕ). IsRest k left f) next ends) (subst (λ (k : ℕ). IsRest k right g) next' ends') in
    (ap (λ (t : List ℕ). t ∷ first) same ∙ ap (λ (l : List (List ℕ)). q ∷ l) rest.0, rest.1)

pub one_reading : HasOneReading
one_reading n text first second f g a b = one_by n first second a.rest b.rest f g (sym a.whole ∙ b.whole) a.fit b.fit a.few b.few a.ends b.ends
