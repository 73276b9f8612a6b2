use Rattle.std.proofs.Common.{sym, ◌∙◌}
use Rattle.std.proofs.lemmas.List.{take_all}
use Rattle.hg_docket.specs.Docket.{docket_of}
use Rattle.std.proofs.lemmas.Result.{err_from_is_err_and}
use Rattle.hg_image.specs.Reading.{table_in}
use Rattle.hg_session.proofs.Lending.{few_bytes, image_same, lists_same, places_same}
use Rattle.hg_session.proofs.reading.opened.Goals as goal

pub returns-in_err-image : goal.returns-in_err-image
returns-in_err-image c =
    let p = err_from_is_err_and c.from_residual.result c.from_residual.ensures.1 in
    rw (p.1, p.2) (sym c.in_err-image.ensures.read)

pub returns : goal.returns
returns c =
    let few = few_bytes c.in_ok-image.image (docket_of c.args.loaded.now.shown.items) c.args.loaded.now.nodes.items c.in_ok-image.ensures.docket c.in_ok-image.ensures.bytes c.args.loaded.now.whole.most in (
      table_in c.in_ok-image.image,
      sym c.in_ok-image.ensures.read,
      record {
        same = c.open-mixed.ensures.table;
        unchanged = c.open-mixed.ensures.changed;
        contents = c.open-mixed.ensures.docket ∙ c.in_ok-image.ensures.docket;
        image = image_same c.in_ok-image.image c.open-mixed.result c.open-mixed.ensures.docket c.open-mixed.ensures.bytes few c.open-mixed.ensures.table;
        lent = lists_same c.in_ok-image.image c.open-mixed.result c.open-mixed.ensures.docket c.open-mixed.ensures.bytes few c.open-mixed.ensures.lent.lists;
        placed = places_same c.in_ok-image.image c.open-mixed.result c.open-mixed.ensures.docket c.open-mixed.ensures.bytes few c.open-mixed.ensures.places;
        nodes = c.open-mixed.ensures.bytes ∙ c.in_ok-image.ensures.bytes ∙ take_all (docket_of c.args.loaded.now.shown.items).used c.args.loaded.now.nodes.items c.args.loaded.now.whole.most;
      },
    )
