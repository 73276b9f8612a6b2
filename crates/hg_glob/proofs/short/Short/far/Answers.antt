use Rattle.std.proofs.Common.{take, ◌&&◌, nat_le, ◌-◌, subst, sym, ap, ◌∙◌, arith}
use Rattle.std.specs.Int.{trailing_zeros, w64}
use Rattle.std.proofs.lemmas.List.{length-take, get_or-take}
use Rattle.hg_glob.specs.Column.{IsWord}
use Rattle.hg_glob.proofs.Sums.{lowest, far_first, far_place, fewer_left, far_more, far_word}
use Rattle.hg_glob.proofs.short.Short.far.Goals as goal

pub wide-init : goal.wide-init
wide-init c = far_first _ _ _

pub overflow_sub-at : goal.overflow_sub-at
overflow_sub-at c =
    let low = lowest c.wide.left c.wide-test.true c.wide.auto.left-fits.fits in
    (far_place _ _ _ c.wide.left _ _ c.self.invariant.beyond c.wide.invariant low.1).0

pub overflow_sub-at-in-wide : goal.overflow_sub-at-in-wide
overflow_sub-at-in-wide c =
    let low = lowest c.wide.left c.wide-test.true c.wide.auto.left-fits.fits in
    (far_place _ _ _ c.wide.left _ _ c.self.invariant.beyond c.wide.invariant low.1).0

pub wide-smaller : goal.wide-smaller
wide-smaller c =
    let low = lowest c.wide.left c.wide-test.true c.wide.auto.left-fits.fits in
    fewer_left c.wide.left _ low.0 low.1

pub wide-preserved : goal.wide-preserved
wide-preserved c =
    let t = c.self.inside in
    let low = lowest c.wide.left c.wide-test.true c.wide.auto.left-fits.fits in
    let place = far_place _ _ _ c.wide.left _ _ c.self.invariant.beyond c.wide.invariant low.1 in
    far_more (take t.count t.items) (λ d. nat_le c.args.low d && nat_le d c.args.high) t.wide c.wide.left c.wide.word (trailing_zeros w64 c.wide.left) c.put-word.result c.lies.result c.wide.invariant (omega (arith, length-take t.count t.items, c.self.invariant.few)) place.0 low.0 low.1
    (c.lies.ensures ∙ ap (λ d. nat_le c.args.low d && nat_le d c.args.high) (sym (get_or-take t.count t.items (trailing_zeros w64 c.wide.left - 1) 0 (omega (arith, length-take t.count t.items, place.1))))) c.put-word.ensures

pub returns : goal.returns
returns c =
    let t = c.self.inside in
    subst (λ xs. IsWord xs (λ d. nat_le 128 d && (nat_le c.args.low d && nat_le d c.args.high)) c.wide.word) c.self.view_is (far_word (take t.count t.items) (λ d. nat_le c.args.low d && nat_le d c.args.high) t.wide c.wide.left c.wide.word c.self.invariant.beyond c.wide.invariant c.wide-test.false)
