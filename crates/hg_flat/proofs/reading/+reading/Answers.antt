use Rattle.std.proofs.Common.{◌∙◌, ◌+◌, ◌∷◌, ◌++◌, List, sym, ap}
use Rattle.std.proofs.lemmas.List.{append_assoc}
use Rattle.hg_image.specs.Rows as node
use Rattle.hg_image.specs.View.{row, rows_below, rows_from}
use Rattle.hg_flat.proofs.Recording.{adds_trans}
use Rattle.hg_flat.proofs.reading.+reading.Goals as goal

pub add_list-loop-i-preserved : goal.add_list-loop-i-preserved
add_list-loop-i-preserved t c =
    let inv = c.loop-i.invariant in
    let own : List node.Row = row c.get.result ∷ rows_below c.get.result in (
      inv.0 ++ own,
      inv.1 ∙ ap (λ (l : List node.Row). inv.0 ++ l) c.get.ensures.rows ∙ sym (append_assoc inv.0 own (rows_from c.args.list (c.loop-i.i + 1))),
      adds_trans inv.0 own c.args.found.now.items c.loop-i.found.items c.add_node.new.found.items inv.2 c.in_ok-add_node.ensures,
    )
