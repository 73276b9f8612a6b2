use Rattle.std.proofs.Common.{arith, ◌∙◌, List, ℕ, subst}
use Rattle.std.proofs.lemmas.Result.{err_from_is_err_and}
use Rattle.hg_include.specs.Asking.{Gives}
use Rattle.hg_include.proofs.Looks.{kept_fails, small}
use Rattle.hg_include.proofs.opening.enter.Goals as goal

pub keep-requires : goal.keep-requires
keep-requires g c =
    let gives = c.in-Ok.ensures.gives in
    let few = small c.args.most gives.look c.in-There.text (gives.gives ∙ c.in-There.is) in
    omega (arith, few.0)

pub returns-in_err-opened-in-There-clause-fails : goal.returns-in_err-opened-in-There-clause-fails
returns-in_err-opened-in-There-clause-fails g c =
    let p = err_from_is_err_and c.from_residual.result c.from_residual.ensures.1 in
    let old = g.T.Tree.history c.args.tree.now in
    let new = g.T.Tree.history c.look.new.tree in
    let P : List ℕ → Type 0 = λ path. Gives c.args.most path old new c.in-Ok.given in
    rw (p.1, p.2) (kept_fails c.args.most c.args.target.file old new c.in-Ok.given (subst P c.as_ref.ensures c.in-Ok.ensures.gives))
