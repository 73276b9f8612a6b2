use Rattle.std.proofs.Common.{map, option_map, ap, sym, ◌∙◌}
use Rattle.std.specs.BTreeSet.{contains_text}
use Rattle.hg_docket.specs.Docket as docket
use Rattle.hg_image.specs.View.{rows}
use Rattle.hg_vone.specs.View.{item}
use Rattle.hg_vone.proofs.Agreed.{tells}
use Rattle.hg_vone.proofs.agreeing.agrees.Goals as goal

pub returns : goal.returns
returns c = λ yes.
    tells c.root-root.result (rows c.args.image.now) (docket.view c.args.image.now.docket) (map item c.args.items.now) (contains_text c.args.paths.now) (ap (option_map _) c.root-root.ensures.dir)
    c.root-root.ensures.rows c.requires (c.are_right.ensures c.if-not-are_right.false) (c.have_nodes.ensures yes) (sym c.counted.ensures ∙ c.if-not-counted.false)
