use Rattle.hg_save.proofs.Asking.{asks_used, named_id}
use Rattle.hg_docket.specs.Name.{is_name}
use Rattle.hg_docket.specs.Docket.{view}
use Rattle.hg_save.proofs.loading.read_data.Goals as goal

pub returns-clause-asked : goal.returns-clause-asked
returns-clause-asked g c = λ told.
    let same = named_id (is_name c.args.docket.now.id.now) c.args.docket.now.id.now c.in-Some.id c.requires c.in-Some.ensures in
    asks_used (view c.args.docket.now) c.in-Some.id (g.S.Shelf.history c.args.shelf.now) (g.S.Shelf.history c.read_file.new.shelf) c.read_file.result
    c.if-docket-eq0.false same (c.read_file.ensures.asked told)
