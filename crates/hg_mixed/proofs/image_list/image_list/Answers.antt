use Rattle.std.proofs.Common.{arith, sym, ap, ◌∙◌}
use Rattle.std.specs.Option.{option_map}
use Rattle.hg_docket.specs.Docket as docket
use Rattle.hg_image.specs.View.{rows_from}
use Rattle.hg_mixed.specs.Parted.{image_rows}
use Rattle.hg_mixed.proofs.ImageLists.{list_empty, list_filled, no_list}
use Rattle.hg_mixed.proofs.image_list.image_list.Goals as goal

pub returns-in_default : goal.returns-in_default
returns-in_default c = no_list (image_rows c.args.image) (option_map (λ d. d.text.now) c.args.dir) c.in_default.ensures

pub returns-then-len-eq0 : goal.returns-then-len-eq0
returns-then-len-eq0 c =
    list_empty (docket.view c.args.image.docket) c.args.image.bytes.now (image_rows c.args.image) (option_map (λ d. d.text.now) c.args.dir) c.in-Some.list c.in-Some.ensures
    (c.len.ensures.whole ∙ ap (rows_from c.in-Some.list) (sym c.if-len-eq0.true) ∙ c.len.ensures.end)

pub returns : goal.returns
returns c =
    list_filled (docket.view c.args.image.docket) c.args.image.bytes.now (image_rows c.args.image) (option_map (λ d. d.text.now) c.args.dir) c.in-Some.list c.in-Some.ensures
    (omega (arith, c.if-len-eq0.false, c.len.ensures.count))
