use Rattle.std.proofs.Common.{◌≡◌, ◌∙◌, ◌≤◌, ℕ, ◌+◌, Bool, false, List, length, take, drop, ap, subst, arith, ltb, Some}
use Rattle.std.proofs.lemmas.Bool.{ltb-true}
use Rattle.hg_lines.proofs.Scripts.{is_refused}
use Rattle.hg_lines.specs.Script.{Reading, has_end}
use Rattle.hg_lines.specs.Steps.{Ends, IsRefused, Refuses}
use Rattle.hg_lines.proofs.lines.Lines.gather.Goals as goal

pub returns-in-Some-clause-err : goal.returns-in-Some-clause-err
returns-in-Some-clause-err c =
    let same = c.bytes-bytes.ensures.bytes in
    let n = c.end_of-n.result in
    let ends : Bool = ltb n (length c.bytes-bytes.result.now) in
    let within : n ≤ length c.self.inside.piece = omega (arith, ap length same, c.end_of-n.ensures.within) in
    let low : c.self.inside.before ≤ 67108864 = omega (arith, c.self.invariant.within) in
    let reading : Reading = record { number = c.self.inside.number; before = c.self.inside.before; line = c.self.inside.line.items; piece = c.self.inside.piece } in
    subst (λ (r : Reading). IsRefused r c.in-Some.fault) c.self.view_is
    (is_refused reading n c.self.invariant.whole low within
    (subst (λ (p : List ℕ). has_end (take n p) ≡ false) same c.end_of-n.ensures.plain) ends c.in-Some.fault
    (λ yes. subst (λ (p : List ℕ). Ends (drop n p)) same (c.end_of-n.ensures.end (ltb-true n (length c.bytes-bytes.result.now) yes)))
    (subst (λ (k : ℕ). Refuses c.self.inside.before (c.self.inside.number + 1) (k + n) ends (Some c.in-Some.fault)) (c.len.ensures ∙ c.self.inside.line.ok.0) c.in-Some.ensures))
