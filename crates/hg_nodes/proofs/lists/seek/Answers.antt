use Rattle.std.proofs.Common.{◌∙◌, ℕ, List, ◌&&◌, not, eqb, length, ap}
use Rattle.std.specs.Str.{bytes_eq}
use Rattle.hg_nodes.proofs.Sought.{sought_none, sought_some}
use Rattle.hg_nodes.proofs.lists.seek.Goals as goal

pub returns-in-None : goal.returns-in-None
returns-in-None c = sought_none c.args.lists.now c.requires c.args.dir.now c.range.result (c.range.ensures.in_range tt) c.in-None.ensures.steps.0

pub returns-in-Some : goal.returns-in-Some
returns-in-Some c =
    sought_some c.args.lists.now c.requires c.args.dir.now c.range.result (c.range.ensures.in_range tt) c.in-Some.first.now c.in-Some.list.now c.next.new.self c.in-Some.ensures.steps
    c.is_list_of.result c.as_str-first.result.now c.as_str-first.ensures.value
    (c.is_list_of.ensures ∙ ap (λ (t : List ℕ). bytes_eq c.as_str-first.result.now t && not (eqb (length c.in-Some.list.now.entries) 0)) c.as_str-dir.ensures.value)
