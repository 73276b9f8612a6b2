use Rattle.std.proofs.Common.{true, false, [], ◌∷◌, ◌∙◌, arith}
use Rattle.std.proofs.lemmas.Result.{err_from_is_err_and}
use Rattle.hg_shelf.specs.History.{now}
use Rattle.hg_save.specs.Record.{data_name}
use Rattle.hg_shelf.proofs.Asks.{answered, front_first}
use Rattle.hg_shelf.specs.declared.asked.Asked.TheVariants as an_ask
use Rattle.hg_save.proofs.Loads.{cut_front, front_free, front_gone, front_read}
use Rattle.hg_save.proofs.loading.read_front.Goals as goal

pub returns-in_err-nodes-clause-found : goal.returns-in_err-nodes-clause-found
returns-in_err-nodes-clause-found g c = λ told.
    let p = err_from_is_err_and c.from_residual.result c.from_residual.ensures.1 in
    front_free ((now (g.S.Shelf.history c.args.shelf.now)).files (data_name c.args.id)) c.args.id c.args.want c.from_residual.result p.0 p.1 p.2

pub returns-in-Ok-Absent-clause-found : goal.returns-in-Ok-Absent-clause-found
returns-in-Ok-Absent-clause-found g c = λ told.
    front_gone ((now (g.S.Shelf.history c.read_at.new.self)).files (data_name c.args.id)) c.args.id c.args.want c.as_mut_slice.result.now c.read_at.new.buf c.gone.result c.gone.ensures
    (rw (c.in-Ok-Absent.field-0-is, c.as_str.ensures, c.of-name.ensures) at (c.in-Ok-Absent.ensures.found told))

pub returns-in-Ok-Bytes-clause-found : goal.returns-in-Ok-Bytes-clause-found
returns-in-Ok-Bytes-clause-found g c = λ told.
    let fits = rw c.in-Ok-Bytes.field-0-is at c.in-Ok-Bytes.ensures.fit in
    let len = c.as_mut_slice.ensures.len in
    let kept = c.read_at.auto.buf in
    front_read ((now (g.S.Shelf.history c.read_at.new.self)).files (data_name c.args.id)) c.args.id c.args.want c.in-Ok-Bytes.n c.as_mut_slice.result.now c.read_at.new.buf c.truncate.new.self.items
    (len ∙ c.in_ok-nodes.ensures.len)
    (rw (c.in-Ok-Bytes.field-0-is, c.as_str.ensures, c.of-name.ensures) at (c.in-Ok-Bytes.ensures.found told))
    (c.truncate.ensures.items ∙ cut_front c.in-Ok-Bytes.n c.in_ok-nodes.nodes.len c.read_at.new.buf _ (omega (arith, fits, len)) (omega (arith, fits, kept)))

pub returns-in-Err-clause-asked : goal.returns-in-Err-clause-asked
returns-in-Err-clause-asked g c = λ told.
    front_first false (an_ask.Read (data_name c.args.id) 0 c.args.want) [] (g.S.Shelf.history c.args.shelf.now) (g.S.Shelf.history c.read_at.new.self)
    (rw (c.as_str.ensures, c.of-name.ensures, c.as_mut_slice.ensures.len ∙ c.in_ok-nodes.ensures.len) at (c.in-Err.ensures.asked told))

pub returns-in-Ok-Absent-clause-asked : goal.returns-in-Ok-Absent-clause-asked
returns-in-Ok-Absent-clause-asked g c = λ told.
    front_first true (an_ask.Read (data_name c.args.id) 0 c.args.want) [] (g.S.Shelf.history c.args.shelf.now) (g.S.Shelf.history c.read_at.new.self)
    (rw (c.as_str.ensures, c.of-name.ensures, c.as_mut_slice.ensures.len ∙ c.in_ok-nodes.ensures.len) at (c.in-Ok-Absent.ensures.asked told))

pub returns-in-Ok-Bytes-clause-asked : goal.returns-in-Ok-Bytes-clause-asked
returns-in-Ok-Bytes-clause-asked g c = λ told.
    answered (an_ask.Read (data_name c.args.id) 0 c.args.want ∷ []) (g.S.Shelf.history c.args.shelf.now) (g.S.Shelf.history c.read_at.new.self)
    (rw (c.as_str.ensures, c.of-name.ensures, c.as_mut_slice.ensures.len ∙ c.in_ok-nodes.ensures.len) at (c.in-Ok-Bytes.ensures.asked told))
