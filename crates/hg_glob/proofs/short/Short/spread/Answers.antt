use Rattle.std.proofs.Common.{take, ◌≡◌, ◌+◌, ◌==◌, ◌||◌, ◌&&◌, nat_le, subst, ap, ◌∙◌, arith}
use Rattle.hg_glob.specs.Column.{bit, IsMask}
use Rattle.hg_glob.proofs.Masks.{mask_none, spread_more}
use Rattle.hg_glob.proofs.short.Short.spread.Goals as goal

pub loop-j-init : goal.loop-j-init
loop-j-init c = mask_none (λ d. nat_le c.args.low d && nat_le d c.args.high)

pub loop-j-preserved : goal.loop-j-preserved
loop-j-preserved c =
    spread_more c.self.inside.items c.loop-j.j (λ d. nat_le c.args.low d && nat_le d c.args.high) c.loop-j.word c.put-word.result (omega (arith, c.self.invariant.few, c.self.invariant.room, c.loop-j-test.true)) c.loop-j.invariant
    (λ i. c.put-word.ensures i ∙ ap (λ v. bit c.loop-j.word i || (v && i == c.loop-j.j + 1)) c.lies.ensures)

pub returns : goal.returns
returns c =
    let all : c.loop-j.j ≡ c.self.inside.count = omega (arith, c.loop-j.auto.j-end, c.loop-j-test.false) in
    subst (λ xs. IsMask xs (λ d. nat_le c.args.low d && nat_le d c.args.high) c.loop-j.word) (ap (λ n. take n c.self.inside.items) all ∙ c.self.view_is) c.loop-j.invariant
