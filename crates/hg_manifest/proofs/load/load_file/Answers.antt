use Rattle.std.proofs.Common.{◌∙◌, arith}
use Rattle.std.proofs.Common.{[], ◌∷◌, Err}
use Rattle.std.proofs.lemmas.Result.{err_from_is_err_and}
use Rattle.hg_shelf.specs.declared.asked.Asked.TheVariants as an_ask
use Rattle.hg_shelf.proofs.Asks.{front_next, made_next, order_made}
use Rattle.hg_shelf.proofs.Scenes.{goes_trans}
use Rattle.hg_manifest.specs.Plain.{plain_name}
use Rattle.hg_manifest.proofs.Loads.{asks_sized, asks_unread, asks_unsized, cause_counted, counted_read, finds, taken, untaken}
use Rattle.hg_manifest.proofs.load.load_file.Goals as goal

pub returns-clause-found : goal.returns-clause-found
returns-clause-found g c =
    let old = g.S.Shelf.history c.args.shelf.now in
    let mid = g.S.Shelf.history c.ask_size.new.shelf in
    let new = g.S.Shelf.history c.take_bytes.new.shelf in
    let sizes = rw (c.as_str.ensures.value, c.in_ok-name.ensures) at c.in_ok-size.ensures.found in
    let takes = rw (c.as_str-2.ensures.value, c.in_ok-name.ensures) at c.in_ok-bytes.ensures.found in
    finds old new (plain_name c.args.id.now.0) c.in_ok-bytes.bytes.items c.args.id.now c.of.result
    (taken old mid new (plain_name c.args.id.now.0) c.args.id.now c.in_ok-size.size c.in_ok-bytes.bytes c.ask_size.ensures.passes c.take_bytes.ensures.passes sizes takes)
    c.of.ensures

pub returns-clause-counted : goal.returns-clause-counted
returns-clause-counted g c =
    counted_read (g.S.Shelf.faults c.args.shelf.now) (g.S.Shelf.faults c.take_bytes.new.shelf) c.in_ok-bytes.bytes.items c.of.result
    (c.in_ok-bytes.ensures.cause.quiet ∙ c.in_ok-size.ensures.cause.quiet) c.of.ensures

pub returns-clause-cause : goal.returns-clause-cause
returns-clause-cause g c =
    cause_counted (g.S.Shelf.faults c.args.shelf.now) (g.S.Shelf.faults c.take_bytes.new.shelf) c.of.result
    (omega (arith, c.ask_size.ensures.cause.later, c.take_bytes.ensures.cause.later))
    (counted_read (g.S.Shelf.faults c.args.shelf.now) (g.S.Shelf.faults c.take_bytes.new.shelf) c.in_ok-bytes.bytes.items c.of.result
    (c.in_ok-bytes.ensures.cause.quiet ∙ c.in_ok-size.ensures.cause.quiet) c.of.ensures)

pub returns-in_err-name-clause-asked : goal.returns-in_err-name-clause-asked
returns-in_err-name-clause-asked g c = λ told.
    let p = err_from_is_err_and c.from_residual.result c.from_residual.ensures.1 in
    rw p.1 (asks_unread (g.S.Shelf.history c.args.shelf.now) (plain_name c.args.id.now.0) p.0)

pub returns-in_err-size-clause-asked : goal.returns-in_err-size-clause-asked
returns-in_err-size-clause-asked g c = λ told.
    let p = err_from_is_err_and c.from_residual-in_err-size.result c.from_residual-in_err-size.ensures.1 in
    let name = plain_name c.args.id.now.0 in
    rw p.1
    (asks_unsized (g.S.Shelf.history c.args.shelf.now) (g.S.Shelf.history c.ask_size.new.shelf) name p.0 c.ask_size.ensures.passes
    (rw (c.as_str.ensures.value, c.in_ok-name.ensures) at (c.in_err-size.ensures.asked told)))

pub returns-in_err-bytes-clause-kept : goal.returns-in_err-bytes-clause-kept
returns-in_err-bytes-clause-kept g c = goes_trans _ _ _ c.ask_size.ensures.kept c.take_bytes.ensures.kept

pub returns-in_err-bytes-clause-asked : goal.returns-in_err-bytes-clause-asked
returns-in_err-bytes-clause-asked g c = λ told.
    let p = err_from_is_err_and c.from_residual-in_err-bytes.result c.from_residual-in_err-bytes.ensures.1 in
    let name = plain_name c.args.id.now.0 in
    let old = g.S.Shelf.history c.args.shelf.now in
    let mid = g.S.Shelf.history c.ask_size.new.shelf in
    let new = g.S.Shelf.history c.take_bytes.new.shelf in
    let sizes = rw (c.as_str.ensures.value, c.in_ok-name.ensures) at c.in_ok-size.ensures.found in
    rw p.1
    (asks_sized old mid new name c.args.id.now c.in_ok-size.size (Err p.0) c.ask_size.ensures.passes c.take_bytes.ensures.passes told sizes
    (front_next (an_ask.Size name) (an_ask.Read name 0 c.in_ok-size.size ∷ []) old mid new
    (rw (c.as_str.ensures.value, c.in_ok-name.ensures) at (c.in_ok-size.ensures.asked told))
    (rw (c.as_str-2.ensures.value, c.in_ok-name.ensures) at (c.in_err-bytes.ensures.asked (c.ask_size.ensures.passes.past.told ∙ told)))))

pub returns-in_err-bytes-clause-found : goal.returns-in_err-bytes-clause-found
returns-in_err-bytes-clause-found g c =
    let p = err_from_is_err_and c.from_residual-in_err-bytes.result c.from_residual-in_err-bytes.ensures.1 in
    rw (p.1, p.2)
    (untaken (g.S.Shelf.history c.args.shelf.now) (g.S.Shelf.history c.ask_size.new.shelf) (g.S.Shelf.history c.take_bytes.new.shelf) (plain_name c.args.id.now.0) c.args.id.now c.in_err-bytes.field-0.0
    c.ask_size.ensures.passes (rw (c.as_str-2.ensures.value, c.in_ok-name.ensures) at c.in_err-bytes.ensures.found))

pub returns-clause-kept : goal.returns-clause-kept
returns-clause-kept g c = goes_trans _ _ _ c.ask_size.ensures.kept c.take_bytes.ensures.kept

pub returns-clause-asked : goal.returns-clause-asked
returns-clause-asked g c = λ told.
    let name = plain_name c.args.id.now.0 in
    let old = g.S.Shelf.history c.args.shelf.now in
    let mid = g.S.Shelf.history c.ask_size.new.shelf in
    let new = g.S.Shelf.history c.take_bytes.new.shelf in
    let sizes = rw (c.as_str.ensures.value, c.in_ok-name.ensures) at c.in_ok-size.ensures.found in
    asks_sized old mid new name c.args.id.now c.in_ok-size.size c.of.result c.ask_size.ensures.passes c.take_bytes.ensures.passes told sizes
    (order_made (an_ask.Size name ∷ an_ask.Read name 0 c.in_ok-size.size ∷ []) old new c.of.result
    (made_next (an_ask.Size name) (an_ask.Read name 0 c.in_ok-size.size ∷ []) old mid new
    (rw (c.as_str.ensures.value, c.in_ok-name.ensures) at (c.in_ok-size.ensures.asked told))
    (rw (c.as_str-2.ensures.value, c.in_ok-name.ensures) at (c.in_ok-bytes.ensures.asked (c.ask_size.ensures.passes.past.told ∙ told)))))
