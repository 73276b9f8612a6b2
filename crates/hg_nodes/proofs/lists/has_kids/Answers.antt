use Rattle.std.proofs.Common.{sym, ◌∙◌, ap, ℕ, not, eqb}
use Rattle.hg_nodes.proofs.Listed.{has_list, has_rows}
use Rattle.hg_nodes.proofs.lists.has_kids.Goals as goal

pub returns-in-None : goal.returns-in-None
returns-in-None c = ap has_list c.in-None.ensures.value ∙ sym (has_rows c.args.dir.now c.args.lists.now.entries c.requires)

pub returns-in-Some : goal.returns-in-Some
returns-in-Some c =
    ap (λ (n : ℕ). not (eqb n 0)) c.len.ensures.len
    ∙ ap has_list c.in-Some.ensures.value
    ∙ sym (has_rows c.args.dir.now c.args.lists.now.entries c.requires)
