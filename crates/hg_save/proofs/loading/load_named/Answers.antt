use Rattle.std.proofs.Common.{Ok, Err, sym, refl}
use Rattle.hg_docket.specs.Docket.{view}
use Rattle.std.proofs.lemmas.Result.{err_from_is_err_and}
use Rattle.hg_save.proofs.Asking.{asks_refused, asks_sound}
use Rattle.hg_shelf.proofs.Asks.{front_all}
use Rattle.hg_save.proofs.Loads.{named_fault, named_memory, named_read, named_unread}
use Rattle.hg_save.proofs.loading.load_named.Goals as goal

pub returns-in_err-docket-clause-found : goal.returns-in_err-docket-clause-found
returns-in_err-docket-clause-found g c = λ told.
    let p = err_from_is_err_and c.from_residual.result c.from_residual.ensures.1 in
    rw (p.1, p.2) (named_fault (g.S.Shelf.history c.args.shelf.now) c.args.bytes.now c.in_err-docket.field-0.0 (sym c.in_err-docket.ensures.refused))

pub returns-in_err-nodes-clause-found : goal.returns-in_err-nodes-clause-found
returns-in_err-nodes-clause-found g c = λ told.
    let p = err_from_is_err_and c.from_residual-in_err-nodes.result c.from_residual-in_err-nodes.ensures.1 in
    rw (p.1, p.2)
    (named_unread (g.S.Shelf.history c.args.shelf.now) (g.S.Shelf.history c.read_data.new.shelf) c.args.bytes.now (view c.in_ok-docket.docket) c.in_err-nodes.field-0.0
    (sym c.in_ok-docket.ensures.refused) c.in_ok-docket.ensures.fields (c.in_err-nodes.ensures.found told))

pub returns-in_err-kept-clause-found : goal.returns-in_err-kept-clause-found
returns-in_err-kept-clause-found g c = λ told.
    let p = err_from_is_err_and c.from_residual-in_err-kept.result c.from_residual-in_err-kept.ensures.1 in
    rw (p.1, p.2) (named_memory (g.S.Shelf.history c.args.shelf.now) (g.S.Shelf.history c.read_data.new.shelf) c.args.bytes.now c.in_ok-nodes.ensures.passes.past)

pub returns-in_err-shown-clause-found : goal.returns-in_err-shown-clause-found
returns-in_err-shown-clause-found g c = λ told.
    let p = err_from_is_err_and c.from_residual-in_err-shown.result c.from_residual-in_err-shown.ensures.1 in
    rw (p.1, p.2) (named_memory (g.S.Shelf.history c.args.shelf.now) (g.S.Shelf.history c.read_data.new.shelf) c.args.bytes.now c.in_ok-nodes.ensures.passes.past)

pub returns-clause-found : goal.returns-clause-found
returns-clause-found g c = λ told.
    named_read (g.S.Shelf.history c.args.shelf.now) (g.S.Shelf.history c.read_data.new.shelf) c.args.bytes.now c.in_ok-nodes.nodes.items (view c.in_ok-docket.docket) _
    (sym c.in_ok-docket.ensures.refused) c.in_ok-docket.ensures.fields (c.in_ok-nodes.ensures.found told)
    c.in_ok-kept.ensures c.in_ok-shown.ensures refl

pub returns-in_err-docket-clause-asked : goal.returns-in_err-docket-clause-asked
returns-in_err-docket-clause-asked g c = λ told.
    let p = err_from_is_err_and c.from_residual.result c.from_residual.ensures.1 in
    rw p.1 (asks_refused c.args.bytes.now (g.S.Shelf.history c.args.shelf.now) p.0)

pub returns-in_err-nodes-clause-asked : goal.returns-in_err-nodes-clause-asked
returns-in_err-nodes-clause-asked g c = λ told.
    let p = err_from_is_err_and c.from_residual-in_err-nodes.result c.from_residual-in_err-nodes.ensures.1 in
    rw p.1
    (asks_sound c.args.bytes.now (view c.in_ok-docket.docket) (g.S.Shelf.history c.args.shelf.now) (g.S.Shelf.history c.read_data.new.shelf) (Err c.in_err-nodes.field-0.0) (Err p.0) (sym c.in_ok-docket.ensures.refused) c.in_ok-docket.ensures.fields
    (λ asks front. front) (c.in_err-nodes.ensures.asked told))

pub returns-in_err-kept-clause-asked : goal.returns-in_err-kept-clause-asked
returns-in_err-kept-clause-asked g c = λ told.
    let p = err_from_is_err_and c.from_residual-in_err-kept.result c.from_residual-in_err-kept.ensures.1 in
    rw p.1
    (asks_sound c.args.bytes.now (view c.in_ok-docket.docket) (g.S.Shelf.history c.args.shelf.now) (g.S.Shelf.history c.read_data.new.shelf) (Ok c.in_ok-nodes.nodes) (Err p.0) (sym c.in_ok-docket.ensures.refused) c.in_ok-docket.ensures.fields
    (λ asks made. front_all asks (g.S.Shelf.history c.args.shelf.now) (g.S.Shelf.history c.read_data.new.shelf) made) (c.in_ok-nodes.ensures.asked told))

pub returns-in_err-shown-clause-asked : goal.returns-in_err-shown-clause-asked
returns-in_err-shown-clause-asked g c = λ told.
    let p = err_from_is_err_and c.from_residual-in_err-shown.result c.from_residual-in_err-shown.ensures.1 in
    rw p.1
    (asks_sound c.args.bytes.now (view c.in_ok-docket.docket) (g.S.Shelf.history c.args.shelf.now) (g.S.Shelf.history c.read_data.new.shelf) (Ok c.in_ok-nodes.nodes) (Err p.0) (sym c.in_ok-docket.ensures.refused) c.in_ok-docket.ensures.fields
    (λ asks made. front_all asks (g.S.Shelf.history c.args.shelf.now) (g.S.Shelf.history c.read_data.new.shelf) made) (c.in_ok-nodes.ensures.asked told))

pub returns-clause-asked : goal.returns-clause-asked
returns-clause-asked g c = λ told.
    asks_sound c.args.bytes.now (view c.in_ok-docket.docket) (g.S.Shelf.history c.args.shelf.now) (g.S.Shelf.history c.read_data.new.shelf) (Ok c.in_ok-nodes.nodes) _ (sym c.in_ok-docket.ensures.refused) c.in_ok-docket.ensures.fields
    (λ asks made. made) (c.in_ok-nodes.ensures.asked told)
