use Rattle.std.proofs.Common.{subst, List, ℕ, Some}
use Rattle.std.proofs.lemmas.Result.{on_ok_weaker, on_err_weaker}
use Rattle.hg_nodes.specs.Lists.{IsChanged}
use Rattle.hg_nodes.proofs.Listed.{list_changed, list_kept}
use Rattle.hg_nodes.proofs.lists.put.Goals as goal

pub returns-in-Some-clause-ok : goal.returns-in-Some-clause-ok
returns-in-Some-clause-ok c =
    on_ok_weaker c.put_in.result
    (λ changed. list_changed c.args.path.text.now c.dir_text-dir.result.now c.dir_text-dir.ensures c.args.lists.now (c.get_mut.follows.lender c.put_in.new.list) c.in-Some.list.now c.put_in.new.list
    c.requires c.in-Some.ensures.value (c.get_mut.follows.holds c.put_in.new.list) (Some c.args.node)
    (subst (λ (p : List ℕ). IsChanged p (Some c.args.node) c.in-Some.list.now c.put_in.new.list) c.in_ok-key.ensures.ok changed))
    c.put_in.ensures.ok

pub returns-in-Some-clause-err : goal.returns-in-Some-clause-err
returns-in-Some-clause-err c =
    on_err_weaker c.put_in.result
    (λ same. list_kept c.args.path.text.now c.dir_text-dir.result.now c.dir_text-dir.ensures c.args.lists.now (c.get_mut.follows.lender c.put_in.new.list) c.in-Some.list.now c.put_in.new.list
    c.requires c.in-Some.ensures.value (c.get_mut.follows.holds c.put_in.new.list) same)
    c.put_in.ensures.err
