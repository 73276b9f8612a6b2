use Rattle.std.proofs.Common.{subst, sym, ◌∙◌, ap, Option}
use Rattle.std.specs.Option.{option_and_then}
use Rattle.std.specs.Prelude.{IsSome}
use Rattle.std.specs.BTreeMap.{get_by_text}
use Rattle.hg_nodes.specs.declared.node.Node.{Node}
use Rattle.hg_nodes.proofs.Listed.{list_changed}
use Rattle.hg_nodes.proofs.lists.replace.Goals as goal

pub replace_in-requires : goal.replace_in-requires
replace_in-requires c =
    subst (λ (o : Option Node). IsSome o)
    (sym (ap (option_and_then (λ l. get_by_text l c.args.path.text.now)) (c.in-Some.ensures.value ∙ ap (get_by_text c.args.lists.now) c.dir_text.ensures)))
    c.requires.there

pub returns-in-Some-clause-changed : goal.returns-in-Some-clause-changed
returns-in-Some-clause-changed c =
    list_changed c.args.path.text.now c.dir_text.result.now c.dir_text.ensures c.args.lists.now (c.get_mut.follows.lender c.replace_in.new.list) c.in-Some.list.now c.replace_in.new.list
    c.requires.listed c.in-Some.ensures.value (c.get_mut.follows.holds c.replace_in.new.list) _ c.replace_in.ensures.changed
