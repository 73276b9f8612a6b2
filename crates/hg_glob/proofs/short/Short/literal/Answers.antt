use Rattle.std.proofs.Common.{subst, take, get_or, ◌==◌, ◌&&◌, nat_le, arith}
use Rattle.hg_glob.specs.Column.{IsWord}
use Rattle.hg_glob.proofs.Masks.{word_of_mask, word_like, pinned, none_beyond}
use Rattle.hg_glob.proofs.Sums.{far_one}
use Rattle.hg_glob.proofs.short.Short.literal.Goals as goal

pub returns-then-code-lt128 : goal.returns-then-code-lt128
returns-then-code-lt128 c =
    let t = c.self.inside in
    subst (λ xs. IsWord xs (λ d. d == c.args.x) (get_or t.table c.args.x 0)) c.self.view_is (word_of_mask (take t.count t.items) (λ d. d == c.args.x) (get_or t.table c.args.x 0) (c.self.invariant.at c.args.x (omega arith)))

pub returns-then-self-eq0 : goal.returns-then-self-eq0
returns-then-self-eq0 c =
    let t = c.self.inside in
    subst (λ xs. IsWord xs (λ d. d == c.args.x) 0) c.self.view_is (none_beyond (take t.count t.items) c.args.x t.wide c.if-code-lt128.false c.self.invariant.beyond c.if-self-eq0.true)

pub returns : goal.returns
returns c = far_one c.args.self.now c.args.x c.far.result c.if-code-lt128.false c.far.ensures

pub returns-then-is_many : goal.returns-then-is_many
returns-then-is_many c =
    word_like c.args.self.now (λ d. nat_le c.args.x d && nat_le d c.args.x) (λ d. d == c.args.x) c.spread.result (pinned c.args.x)
    (word_of_mask c.args.self.now (λ d. nat_le c.args.x d && nat_le d c.args.x) c.spread.result c.spread.ensures)
