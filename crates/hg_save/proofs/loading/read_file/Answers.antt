use Rattle.std.proofs.Common.{true, false, [], ◌∷◌, ◌∙◌}
use Rattle.hg_shelf.proofs.Scenes.{goes_trans}
use Rattle.hg_save.specs.Loads.{bytes_of}
use Rattle.hg_shelf.proofs.Asks.{answered}
use Rattle.hg_shelf.specs.declared.asked.Asked.TheVariants as an_ask
use Rattle.hg_save.specs.Record.{data_name}
use Rattle.hg_save.specs.declared.load_fault.LoadFault.TheVariants as a_fault
use Rattle.hg_save.proofs.Asking.{asks_sized, asks_unread}
use Rattle.hg_save.proofs.Loads.{file_rest, gone_sized}
use Rattle.hg_save.proofs.loading.read_file.Goals as goal

pub returns-in-Ok-None-clause-found : goal.returns-in-Ok-None-clause-found
returns-in-Ok-None-clause-found g c = λ told.
    gone_sized (g.S.Shelf.history c.args.shelf.now) (g.S.Shelf.history c.size.new.self) c.args.id c.as_str.result.now c.args.used c.gone.result c.size.ensures.passes
    (c.as_str.ensures ∙ c.of.ensures) (rw c.in-Ok-None.field-0-is at (c.in-Ok-None.ensures.found told)) c.gone.ensures

pub returns-in-Ok-Some-clause-found : goal.returns-in-Ok-Some-clause-found
returns-in-Ok-Some-clause-found g c = λ told.
    file_rest (g.S.Shelf.history c.args.shelf.now) (g.S.Shelf.history c.size.new.self) (g.S.Shelf.history c.read_front.new.shelf) c.args.id c.as_str.result.now c.args.used c.in-Ok-Some.size c.min.result
    (bytes_of c.read_front.result) c.size.ensures.passes c.read_front.ensures.passes (c.as_str.ensures ∙ c.of.ensures) (rw c.in-Ok-Some.field-0-is at (c.in-Ok-Some.ensures.found told)) c.min.ensures
    (c.read_front.ensures.found (c.size.ensures.passes.past.told ∙ told))

pub returns-in-Ok-Some-clause-kept : goal.returns-in-Ok-Some-clause-kept
returns-in-Ok-Some-clause-kept g c = goes_trans _ _ _ c.size.ensures.kept c.read_front.ensures.kept

pub returns-in-Err-clause-asked : goal.returns-in-Err-clause-asked
returns-in-Err-clause-asked g c = λ told.
    asks_unread c.args.id c.args.used false (g.S.Shelf.history c.args.shelf.now) (g.S.Shelf.history c.size.new.self) a_fault.Failed c.size.ensures.passes
    (rw (c.as_str.ensures, c.of.ensures) at (c.in-Err.ensures.asked told))

pub returns-in-Ok-None-clause-asked : goal.returns-in-Ok-None-clause-asked
returns-in-Ok-None-clause-asked g c = λ told.
    asks_unread c.args.id c.args.used true (g.S.Shelf.history c.args.shelf.now) (g.S.Shelf.history c.size.new.self) c.gone.result c.size.ensures.passes
    (rw (c.as_str.ensures, c.of.ensures) at (c.in-Ok-None.ensures.asked told))

pub returns-in-Ok-Some-clause-asked : goal.returns-in-Ok-Some-clause-asked
returns-in-Ok-Some-clause-asked g c = λ told.
    asks_sized c.args.id c.as_str.result.now c.args.used c.in-Ok-Some.size c.min.result (g.S.Shelf.history c.args.shelf.now) (g.S.Shelf.history c.size.new.self) (g.S.Shelf.history c.read_front.new.shelf) c.read_front.result
    c.size.ensures.passes c.read_front.ensures.passes (c.as_str.ensures ∙ c.of.ensures) (rw c.in-Ok-Some.field-0-is at (c.in-Ok-Some.ensures.found told)) c.min.ensures
    (answered (an_ask.Size (data_name c.args.id) ∷ []) (g.S.Shelf.history c.args.shelf.now) (g.S.Shelf.history c.size.new.self) (rw (c.as_str.ensures, c.of.ensures) at (c.in-Ok-Some.ensures.asked told)))
    (c.read_front.ensures.asked (c.size.ensures.passes.past.told ∙ told))
