use Rattle.std.proofs.Common.{subst, take, get_or, not, ◌==◌, arith}
use Rattle.std.proofs.lemmas.List.{length-take}
use Rattle.hg_glob.specs.Column.{IsWord}
use Rattle.hg_glob.proofs.Masks.{word_of_mask, word_not}
use Rattle.hg_glob.proofs.short.Short.inside.Goals as goal

pub returns : goal.returns
returns c =
    let t = c.self.inside in
    subst (λ xs. IsWord xs (λ d. not (d == 47)) c.others.result) c.self.view_is
    (word_not (take t.count t.items) (λ d. d == 47) (get_or t.table 47 0) c.others.result (omega (arith, length-take t.count t.items, c.self.invariant.few)) (word_of_mask (take t.count t.items) (λ d. d == 47) (get_or t.table 47 0) (c.self.invariant.at 47 (omega arith))) c.others.ensures.front c.others.ensures.more)
