use Rattle.std.proofs.Common.{subst, take, get_or, ◌==◌, arith}
use Rattle.hg_glob.specs.Column.{IsWord}
use Rattle.hg_glob.proofs.Masks.{word_of_mask}
use Rattle.hg_glob.proofs.short.Short.slash.Goals as goal

pub returns : goal.returns
returns c =
    let t = c.self.inside in
    subst (λ xs. IsWord xs (λ d. d == 47) (get_or t.table 47 0)) c.self.view_is (word_of_mask (take t.count t.items) (λ d. d == 47) (get_or t.table 47 0) (c.self.invariant.at 47 (omega arith)))
