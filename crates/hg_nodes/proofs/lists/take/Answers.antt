use Rattle.std.proofs.Common.{sym, ◌≡◌, ◌∙◌, ap, subst, None}
use Rattle.hg_nodes.specs.Lists.{AreChanged, dir_text}
use Rattle.std.specs.BTreeMap.{get_by_text}
use Rattle.hg_nodes.proofs.Listed.{found_nothing, list_changed}
use Rattle.hg_nodes.proofs.lists.take.Goals as goal

pub returns-in-None : goal.returns-in-None
returns-in-None c =
    let none : get_by_text c.args.lists.now (dir_text c.args.path.text.now) ≡ None = ap (get_by_text c.args.lists.now) (sym c.dir_text.ensures) ∙ sym c.in-None.ensures.value in
    subst (λ lists. AreChanged c.args.path.text.now None c.args.lists.now lists) (sym c.get_mut.follows.holds-at-none)
    (record { found = found_nothing c.args.path.text.now c.args.lists.now none; listed = c.requires })

pub returns-in-Some : goal.returns-in-Some
returns-in-Some c =
    list_changed c.args.path.text.now c.dir_text.result.now c.dir_text.ensures c.args.lists.now (c.get_mut.follows.lender c.remove_in.new.list) c.in-Some.list.now c.remove_in.new.list
    c.requires c.in-Some.ensures.value (c.get_mut.follows.holds c.remove_in.new.list) _ c.remove_in.ensures
