use Rattle.std.proofs.Common.{Option, None, Some, ap, subst, sym, ◌∙◌}
use Rattle.std.specs.Option.{option_map}
use Rattle.hg_base.specs.declared.path.PathRef.{PathRef}
use Rattle.hg_docket.specs.Docket as docket
use Rattle.hg_mixed.specs.Parted.{image_rows}
use Rattle.hg_mixed.specs.Shown.{FindsList}
use Rattle.hg_mixed.proofs.ImageLists.{node_list, none_list}
use Rattle.hg_mixed.proofs.image_list.list_at.Goals as goal

pub returns-in-None-node_in : goal.returns-in-None-node_in
returns-in-None-node_in c =
    subst (λ (o : Option PathRef). FindsList (docket.view c.args.image.docket) c.args.image.bytes.now (image_rows c.args.image) (option_map (λ d. d.text.now) o) None) (sym c.in-Some.is)
    (none_list c.args.image c.root-in-Some.result (ap (option_map (λ d. d.text.now)) c.root-in-Some.ensures.dir) c.root-in-Some.ensures.rows c.in-Some.dir.text.now c.in-None-node_in.ensures.node)

pub returns-in-Some-node_in : goal.returns-in-Some-node_in
returns-in-Some-node_in c =
    subst (λ (o : Option PathRef). FindsList (docket.view c.args.image.docket) c.args.image.bytes.now (image_rows c.args.image) (option_map (λ d. d.text.now) o) (Some c.children.result)) (sym c.in-Some.is)
    (node_list c.args.image c.root-in-Some.result (ap (option_map (λ d. d.text.now)) c.root-in-Some.ensures.dir) c.root-in-Some.ensures.rows c.in-Some.dir.text.now c.in-Some-node_in.node
    c.in-Some-node_in.ensures.node c.in-Some-node_in.ensures.below c.children.result c.children.ensures.rows c.children.ensures.dir c.children.ensures.start c.children.ensures.count
    (c.children.ensures.bytes ∙ c.in-Some-node_in.ensures.bytes ∙ c.root-in-Some.ensures.bytes))
