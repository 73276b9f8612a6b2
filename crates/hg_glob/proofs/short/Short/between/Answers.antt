use Rattle.std.proofs.Common.{subst, sym, take, ◌==◌, ◌&&◌, nat_le, nat_lt, ℕ, Bool, arith}
use Rattle.std.proofs.lemmas.List.{length-take}
use Rattle.hg_glob.specs.Column.{IsWord}
use Rattle.hg_glob.proofs.Masks.{word_of_mask, word_like, pinned}
use Rattle.hg_glob.proofs.Sums.{only_near, both_words}
use Rattle.hg_glob.proofs.short.Short.between.Goals as goal

pub returns-then-low-high : goal.returns-then-low-high
returns-then-low-high c =
    subst (λ h. IsWord c.args.self.now (λ d. nat_le c.args.low d && nat_le d h) c.literal.result) c.if-low-high.true
    (word_like c.args.self.now (λ d. d == c.args.low) (λ d. nat_le c.args.low d && nat_le d c.args.low) c.literal.result (λ d. sym (pinned c.args.low d)) c.literal.ensures)

pub returns-then-not-self : goal.returns-then-not-self
returns-then-not-self c = word_of_mask c.args.self.now (λ d. nat_le c.args.low d && nat_le d c.args.high) c.spread.result c.spread.ensures

pub returns-then-self-eq0 : goal.returns-then-self-eq0
returns-then-self-eq0 c =
    let t = c.self.inside in
    let test : ℕ → Bool = λ d. nat_le c.args.low d && nat_le d c.args.high in
    subst (λ xs. IsWord xs test c.span-near.result) c.self.view_is
    (only_near (take t.count t.items) test t.wide c.span-near.result c.self.invariant.beyond c.if-self-eq0.true (c.span-near.ensures (take t.count t.items) (c.self.invariant.sums c.if-not-self.false) (omega (arith, length-take t.count t.items, c.self.invariant.few))))

pub returns : goal.returns
returns c =
    let t = c.self.inside in
    let test : ℕ → Bool = λ d. nat_le c.args.low d && nat_le d c.args.high in
    both_words c.args.self.now test c.span-near.result c.far.result
    (subst (λ xs. IsWord xs (λ d. nat_lt d 128 && test d) c.span-near.result) c.self.view_is (c.span-near.ensures (take t.count t.items) (c.self.invariant.sums c.if-not-self.false) (omega (arith, length-take t.count t.items, c.self.invariant.few))))
    c.far.ensures
