use Rattle.std.proofs.Common.{◌<◌, ◌∙◌, ap, ap₂, sym, Some, length, drop, map}
use Rattle.hg_words.proofs.Telling.{gives_same, parent_told, parents_told}
use Rattle.hg_words.specs.Command.{null_node, parents}
use Rattle.hg_words.proofs.reading.set_parents.Goals as goal

pub returns-then-len-lt2 : goal.returns-then-len-lt2
returns-then-len-lt2 c =
    let h = c.in_ok-nodes.ensures.ok in
    let few : length c.in_ok-nodes.nodes < 2 = rw c.len.ensures at c.if-len-lt2.true in
    gives_same _ _ (parent_told (drop 1 (map (λ word. word.now) c.args.words.now)) c.in_ok-nodes.nodes h.0 c.as_str.result.now h.1 h.2 h.3 (c.at.ensures ∙ ap Some (sym c.as_str.ensures)) few
    ∙ ap (λ n. parents n (Some null_node)) (sym c.node-first.ensures) ∙ sym c.parents.ensures)

pub returns : goal.returns
returns c =
    let h = c.in_ok-nodes.ensures.ok in
    gives_same _ _ (parents_told (drop 1 (map (λ word. word.now) c.args.words.now)) c.in_ok-nodes.nodes h.0 c.as_str.result.now c.as_str-2.result.now h.1 h.2 h.3 (c.at.ensures ∙ ap Some (sym c.as_str.ensures))
    (c.at-2.ensures ∙ ap Some (sym c.as_str-2.ensures)) ∙ ap₂ parents (sym c.node-first.ensures) (sym c.node.ensures) ∙ sym c.parents-2.ensures)
