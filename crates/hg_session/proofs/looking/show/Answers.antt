-- A listing over a table: the walk, the texts, and printing both.
use Rattle.std.proofs.Common.{◌∙◌, Ok, Err, refl}
use Rattle.std.proofs.lemmas.Result.{err_from_is_err_and}
use Rattle.hg_mixed.specs.Held.{table}
use Rattle.hg_session.specs.Call.{Looked}
use Rattle.hg_session.proofs.Printing.{cause_of, did_show, met_memory, met_printing, met_walking, met_warning, noted_at, text_as, walks_as, walks_err, walks_ok}
use Rattle.hg_session.proofs.looking.show.Goals as goal

pub returns-in_err-walked-clause-shows : goal.returns-in_err-walked-clause-shows
returns-in_err-walked-clause-shows g c =
    let p = err_from_is_err_and c.from_residual.result c.from_residual.ensures.1 in
    let looked : Looked = record {
      tree = record { old = g.T.Tree.history c.args.tree.now; new = g.T.Tree.history c.walk.new.tree; before = g.T.Tree.faults c.args.tree.now; after = g.T.Tree.faults c.walk.new.tree };
      shelf = record { old = g.S.Shelf.history c.args.shelf.now; new = g.S.Shelf.history c.walk.new.shelf; before = g.S.Shelf.faults c.args.shelf.now; after = g.S.Shelf.faults c.walk.new.shelf };
      oversize = record { before = g.G.Regexps.oversize c.args.regexps.now; after = g.G.Regexps.oversize c.walk.new.regexps };
    } in
    let t = table c.args.mixed.now in
    let fault = c.in_err-walked.field-0.0 in
    let walks = walks_as looked c.args.flags c.wanted.result t (Err fault) c.wanted.ensures (walks_err looked c.wanted.result t c.walk.ensures.passes c.walk.ensures.passes_shelf c.walk.ensures.asked c.walk.ensures.asked_store c.walk.ensures.reads fault
    (cause_of looked c.wanted.result t fault c.in_err-walked.ensures.behind c.in_err-walked.ensures.cause.rose c.in_err-walked.ensures.cause_shelf.rose c.in_err-walked.ensures.oversize c.in_err-walked.ensures.met c.in_err-walked.ensures.first) c.in_err-walked.ensures.cause.stayed) in
    rw (p.1, p.2) (met_walking c.args.flags looked t _ _ fault walks (record { bytes = refl; count = refl }) (record { bytes = refl; count = refl }))

pub returns-in_err-text-clause-shows : goal.returns-in_err-text-clause-shows
returns-in_err-text-clause-shows g c =
    let p = err_from_is_err_and c.from_residual-in_err-text.result c.from_residual-in_err-text.ensures.1 in
    let looked : Looked = record {
      tree = record { old = g.T.Tree.history c.args.tree.now; new = g.T.Tree.history c.walk.new.tree; before = g.T.Tree.faults c.args.tree.now; after = g.T.Tree.faults c.walk.new.tree };
      shelf = record { old = g.S.Shelf.history c.args.shelf.now; new = g.S.Shelf.history c.walk.new.shelf; before = g.S.Shelf.faults c.args.shelf.now; after = g.S.Shelf.faults c.walk.new.shelf };
      oversize = record { before = g.G.Regexps.oversize c.args.regexps.now; after = g.G.Regexps.oversize c.walk.new.regexps };
    } in
    let t = table c.args.mixed.now in
    let walks = walks_as looked c.args.flags c.wanted.result t (Ok c.in_ok-walked.walked) c.wanted.ensures (walks_ok looked c.wanted.result t c.walk.ensures.passes c.walk.ensures.passes_shelf c.walk.ensures.asked c.walk.ensures.asked_store c.walk.ensures.reads
    c.in_ok-walked.walked c.in_ok-walked.ensures.still c.in_ok-walked.ensures.warns c.in_ok-walked.ensures.served c.in_ok-walked.ensures.asked_own c.in_ok-walked.ensures.cause.quiet c.in_ok-walked.ensures.cause_shelf.quiet c.in_ok-walked.ensures.oversize
    (record { needed = c.in_ok-walked.ensures.needed; noted = c.in_ok-walked.ensures.noted; earned = c.in_ok-walked.ensures.earned }) c.in_ok-walked.ensures.recorded
    (λ wants. noted_at looked c.wanted.result t c.in_ok-walked.walked.notes c.walk.ensures.passes_shelf (c.in_ok-walked.ensures.noted_by wants))) in
    rw (p.1, p.2) (met_memory c.args.flags looked t _ _ c.in_ok-walked.walked walks (record { bytes = refl; count = refl }) (record { bytes = refl; count = refl }))

pub returns-in_err-warnings-clause-shows : goal.returns-in_err-warnings-clause-shows
returns-in_err-warnings-clause-shows g c =
    let p = err_from_is_err_and c.from_residual-in_err-warnings.result c.from_residual-in_err-warnings.ensures.1 in
    let looked : Looked = record {
      tree = record { old = g.T.Tree.history c.args.tree.now; new = g.T.Tree.history c.walk.new.tree; before = g.T.Tree.faults c.args.tree.now; after = g.T.Tree.faults c.walk.new.tree };
      shelf = record { old = g.S.Shelf.history c.args.shelf.now; new = g.S.Shelf.history c.walk.new.shelf; before = g.S.Shelf.faults c.args.shelf.now; after = g.S.Shelf.faults c.walk.new.shelf };
      oversize = record { before = g.G.Regexps.oversize c.args.regexps.now; after = g.G.Regexps.oversize c.walk.new.regexps };
    } in
    let t = table c.args.mixed.now in
    let walks = walks_as looked c.args.flags c.wanted.result t (Ok c.in_ok-walked.walked) c.wanted.ensures (walks_ok looked c.wanted.result t c.walk.ensures.passes c.walk.ensures.passes_shelf c.walk.ensures.asked c.walk.ensures.asked_store c.walk.ensures.reads
    c.in_ok-walked.walked c.in_ok-walked.ensures.still c.in_ok-walked.ensures.warns c.in_ok-walked.ensures.served c.in_ok-walked.ensures.asked_own c.in_ok-walked.ensures.cause.quiet c.in_ok-walked.ensures.cause_shelf.quiet c.in_ok-walked.ensures.oversize
    (record { needed = c.in_ok-walked.ensures.needed; noted = c.in_ok-walked.ensures.noted; earned = c.in_ok-walked.ensures.earned }) c.in_ok-walked.ensures.recorded
    (λ wants. noted_at looked c.wanted.result t c.in_ok-walked.walked.notes c.walk.ensures.passes_shelf (c.in_ok-walked.ensures.noted_by wants))) in
    rw (p.1, p.2) (met_memory c.args.flags looked t _ _ c.in_ok-walked.walked walks (record { bytes = refl; count = refl }) (record { bytes = refl; count = refl }))

pub returns-in-Err-clause-shows : goal.returns-in-Err-clause-shows
returns-in-Err-clause-shows g c =
    let looked : Looked = record {
      tree = record { old = g.T.Tree.history c.args.tree.now; new = g.T.Tree.history c.walk.new.tree; before = g.T.Tree.faults c.args.tree.now; after = g.T.Tree.faults c.walk.new.tree };
      shelf = record { old = g.S.Shelf.history c.args.shelf.now; new = g.S.Shelf.history c.walk.new.shelf; before = g.S.Shelf.faults c.args.shelf.now; after = g.S.Shelf.faults c.walk.new.shelf };
      oversize = record { before = g.G.Regexps.oversize c.args.regexps.now; after = g.G.Regexps.oversize c.walk.new.regexps };
    } in
    let t = table c.args.mixed.now in
    let walks = walks_as looked c.args.flags c.wanted.result t (Ok c.in_ok-walked.walked) c.wanted.ensures (walks_ok looked c.wanted.result t c.walk.ensures.passes c.walk.ensures.passes_shelf c.walk.ensures.asked c.walk.ensures.asked_store c.walk.ensures.reads
    c.in_ok-walked.walked c.in_ok-walked.ensures.still c.in_ok-walked.ensures.warns c.in_ok-walked.ensures.served c.in_ok-walked.ensures.asked_own c.in_ok-walked.ensures.cause.quiet c.in_ok-walked.ensures.cause_shelf.quiet c.in_ok-walked.ensures.oversize
    (record { needed = c.in_ok-walked.ensures.needed; noted = c.in_ok-walked.ensures.noted; earned = c.in_ok-walked.ensures.earned }) c.in_ok-walked.ensures.recorded
    (λ wants. noted_at looked c.wanted.result t c.in_ok-walked.walked.notes c.walk.ensures.passes_shelf (c.in_ok-walked.ensures.noted_by wants))) in
    met_printing c.args.flags looked t _ _ c.in_ok-walked.walked walks c.as_slice.result.now
    (text_as c.in_ok-walked.walked.rows _ c.style.result c.args.flags c.style.ensures (c.as_slice.ensures.value ∙ c.in_ok-text.ensures)) c.in-Err.ensures.prefix (c.in-Err.ensures.cause.rose tt)
    (record { bytes = refl; count = refl })

pub returns-in-Err-put_all-clause-shows : goal.returns-in-Err-put_all-clause-shows
returns-in-Err-put_all-clause-shows g c =
    let looked : Looked = record {
      tree = record { old = g.T.Tree.history c.args.tree.now; new = g.T.Tree.history c.walk.new.tree; before = g.T.Tree.faults c.args.tree.now; after = g.T.Tree.faults c.walk.new.tree };
      shelf = record { old = g.S.Shelf.history c.args.shelf.now; new = g.S.Shelf.history c.walk.new.shelf; before = g.S.Shelf.faults c.args.shelf.now; after = g.S.Shelf.faults c.walk.new.shelf };
      oversize = record { before = g.G.Regexps.oversize c.args.regexps.now; after = g.G.Regexps.oversize c.walk.new.regexps };
    } in
    let t = table c.args.mixed.now in
    let walks = walks_as looked c.args.flags c.wanted.result t (Ok c.in_ok-walked.walked) c.wanted.ensures (walks_ok looked c.wanted.result t c.walk.ensures.passes c.walk.ensures.passes_shelf c.walk.ensures.asked c.walk.ensures.asked_store c.walk.ensures.reads
    c.in_ok-walked.walked c.in_ok-walked.ensures.still c.in_ok-walked.ensures.warns c.in_ok-walked.ensures.served c.in_ok-walked.ensures.asked_own c.in_ok-walked.ensures.cause.quiet c.in_ok-walked.ensures.cause_shelf.quiet c.in_ok-walked.ensures.oversize
    (record { needed = c.in_ok-walked.ensures.needed; noted = c.in_ok-walked.ensures.noted; earned = c.in_ok-walked.ensures.earned }) c.in_ok-walked.ensures.recorded
    (λ wants. noted_at looked c.wanted.result t c.in_ok-walked.walked.notes c.walk.ensures.passes_shelf (c.in_ok-walked.ensures.noted_by wants))) in
    met_warning c.args.flags looked t _ _ c.in_ok-walked.walked walks c.as_slice.result.now
    (text_as c.in_ok-walked.walked.rows _ c.style.result c.args.flags c.style.ensures (c.as_slice.ensures.value ∙ c.in_ok-text.ensures))
    c.as_slice-in-Ok.result.now (c.as_slice-in-Ok.ensures.value ∙ c.in_ok-warnings.ensures) c.in-Ok.ensures.all c.in-Ok.ensures.cause.quiet c.in-Err-put_all.ensures.prefix (c.in-Err-put_all.ensures.cause.rose tt)

pub returns-in-Ok-put_all-clause-shows : goal.returns-in-Ok-put_all-clause-shows
returns-in-Ok-put_all-clause-shows g c =
    let looked : Looked = record {
      tree = record { old = g.T.Tree.history c.args.tree.now; new = g.T.Tree.history c.walk.new.tree; before = g.T.Tree.faults c.args.tree.now; after = g.T.Tree.faults c.walk.new.tree };
      shelf = record { old = g.S.Shelf.history c.args.shelf.now; new = g.S.Shelf.history c.walk.new.shelf; before = g.S.Shelf.faults c.args.shelf.now; after = g.S.Shelf.faults c.walk.new.shelf };
      oversize = record { before = g.G.Regexps.oversize c.args.regexps.now; after = g.G.Regexps.oversize c.walk.new.regexps };
    } in
    let t = table c.args.mixed.now in
    let walks = walks_as looked c.args.flags c.wanted.result t (Ok c.in_ok-walked.walked) c.wanted.ensures (walks_ok looked c.wanted.result t c.walk.ensures.passes c.walk.ensures.passes_shelf c.walk.ensures.asked c.walk.ensures.asked_store c.walk.ensures.reads
    c.in_ok-walked.walked c.in_ok-walked.ensures.still c.in_ok-walked.ensures.warns c.in_ok-walked.ensures.served c.in_ok-walked.ensures.asked_own c.in_ok-walked.ensures.cause.quiet c.in_ok-walked.ensures.cause_shelf.quiet c.in_ok-walked.ensures.oversize
    (record { needed = c.in_ok-walked.ensures.needed; noted = c.in_ok-walked.ensures.noted; earned = c.in_ok-walked.ensures.earned }) c.in_ok-walked.ensures.recorded
    (λ wants. noted_at looked c.wanted.result t c.in_ok-walked.walked.notes c.walk.ensures.passes_shelf (c.in_ok-walked.ensures.noted_by wants))) in
    did_show c.args.flags looked t _ _ c.in_ok-walked.walked walks c.as_slice.result.now
    (text_as c.in_ok-walked.walked.rows _ c.style.result c.args.flags c.style.ensures (c.as_slice.ensures.value ∙ c.in_ok-text.ensures))
    c.as_slice-in-Ok.result.now (c.as_slice-in-Ok.ensures.value ∙ c.in_ok-warnings.ensures) c.in-Ok.ensures.all c.in-Ok.ensures.cause.quiet
    c.in-Ok-put_all.ensures.all c.in-Ok-put_all.ensures.cause.quiet
