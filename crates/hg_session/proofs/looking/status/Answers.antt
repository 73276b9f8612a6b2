-- A status: the record, what is shown of it, and saving what was noted.
use Rattle.std.proofs.Common.{◌∙◌, Ok, Err, inl, inr, refl, sym}
use Rattle.std.proofs.lemmas.List.{append-nil}
use Rattle.std.proofs.lemmas.Result.{err_from_is_err_and}
use Rattle.hg_docket.specs.Docket.{docket_of}
use Rattle.hg_image.specs.Reading.{data_reading}
use Rattle.hg_mixed.specs.Held.{table}
use Rattle.hg_shelf.proofs.Histories.{extends_same, passes_trans}
use Rattle.hg_shelf.proofs.Scenes.{goes_trans}
use Rattle.hg_shelf.specs.Images.{course}
use Rattle.hg_tree.proofs.Spans.{passes_same}
use Rattle.hg_session.proofs.Locked.{unwritten_then}
use Rattle.hg_session.proofs.NotesKept.{needed_are_news}
use Rattle.hg_session.proofs.Readings.{cause_still, loaded_since, loaded_table, met_reading, met_refused, opened_as, opened_nodes, same_as}
use Rattle.hg_session.proofs.Saves.{saves_earlier}
use Rattle.hg_session.proofs.Stages.{does_saved, does_unread, does_unsaved, does_unshown, needed_can, noted_as, save_met}
use Rattle.hg_session.specs.Reading.{IsOpened}
use Rattle.hg_session.specs.Call.{Count, IsLeftAlone, Looked, Saved}
use Rattle.hg_session.specs.SavingNotes.{IsOpenedSince, IsTryOf, of_save}
use Rattle.hg_session.specs.Look.{OnlyReads}
use Rattle.hg_session.specs.Looking.{listed_to}
use Rattle.hg_session.proofs.looking.status.Goals as goal

pub returns-in_err-loaded : goal.returns-in_err-loaded
returns-in_err-loaded g c =
    let p = err_from_is_err_and c.from_residual.result c.from_residual.ensures.1 in
    let looked : Looked = record {
      tree = record { old = g.T.Tree.history c.args.tree.now; new = g.T.Tree.history c.args.tree.now; before = g.T.Tree.faults c.args.tree.now; after = g.T.Tree.faults c.args.tree.now };
      shelf = record { old = g.S.Shelf.history c.args.shelf.now; new = g.S.Shelf.history c.read.new.shelf; before = g.S.Shelf.faults c.args.shelf.now; after = g.S.Shelf.faults c.read.new.shelf };
      oversize = record { before = g.G.Regexps.oversize c.args.regexps.now; after = g.G.Regexps.oversize c.args.regexps.now };
    } in
    let saved : Saved = record { old = course (g.S.Shelf.history c.args.shelf.now) (g.S.Shelf.images c.args.shelf.now); new = course (g.S.Shelf.history c.read.new.shelf) (g.S.Shelf.images c.read.new.shelf) } in
    let locks : Count = record { before = g.S.Shelf.held c.args.shelf.now; after = g.S.Shelf.held c.read.new.shelf } in
    let unsaved : OnlyReads saved locks = record { passes = c.read.ensures.passes; kept = c.read.ensures.kept; held = c.read.ensures.locks } in
    let alone : IsLeftAlone looked.tree = record { history = refl; count = refl } in
    let fault = c.in_err-loaded.field-0.0 in
    rw (p.1, p.2) (does_unread c.args.flags looked saved locks _ _ alone (passes_same looked.tree.old) c.read.ensures.passes unsaved fault
    (met_refused looked.shelf fault c.in_err-loaded.ensures.found c.in_err-loaded.ensures.cause.rose) c.read.ensures.asked (record { bytes = refl; count = refl }) (record { bytes = refl; count = refl }))

pub returns-in_err-mixed : goal.returns-in_err-mixed
returns-in_err-mixed g c =
    let p = err_from_is_err_and c.from_residual-in_err-mixed.result c.from_residual-in_err-mixed.ensures.1 in
    let looked : Looked = record {
      tree = record { old = g.T.Tree.history c.args.tree.now; new = g.T.Tree.history c.args.tree.now; before = g.T.Tree.faults c.args.tree.now; after = g.T.Tree.faults c.args.tree.now };
      shelf = record { old = g.S.Shelf.history c.args.shelf.now; new = g.S.Shelf.history c.read.new.shelf; before = g.S.Shelf.faults c.args.shelf.now; after = g.S.Shelf.faults c.read.new.shelf };
      oversize = record { before = g.G.Regexps.oversize c.args.regexps.now; after = g.G.Regexps.oversize c.args.regexps.now };
    } in
    let saved : Saved = record { old = course (g.S.Shelf.history c.args.shelf.now) (g.S.Shelf.images c.args.shelf.now); new = course (g.S.Shelf.history c.read.new.shelf) (g.S.Shelf.images c.read.new.shelf) } in
    let locks : Count = record { before = g.S.Shelf.held c.args.shelf.now; after = g.S.Shelf.held c.read.new.shelf } in
    let unsaved : OnlyReads saved locks = record { passes = c.read.ensures.passes; kept = c.read.ensures.kept; held = c.read.ensures.locks } in
    let alone : IsLeftAlone looked.tree = record { history = refl; count = refl } in
    let fault = c.in_err-mixed.field-0.0 in
    let docket = docket_of c.in_ok-loaded.loaded.shown.items in
    let nodes = data_reading docket c.in_ok-loaded.loaded.nodes.items in
    let found = opened_as looked.shelf.old looked.shelf.new c.in_ok-loaded.loaded (Err fault) c.in_ok-loaded.loaded.whole.sound c.in_err-mixed.ensures c.in_ok-loaded.ensures.found in
    rw (p.1, p.2) (does_unread c.args.flags looked saved locks _ _ alone (passes_same looked.tree.old) c.read.ensures.passes unsaved fault
    (met_reading (IsOpened c.in_ok-loaded.loaded) looked.shelf fault found (cause_still (IsOpened c.in_ok-loaded.loaded) looked.shelf.before looked.shelf.after (Err fault) nodes c.in_ok-loaded.ensures.cause.quiet c.in_err-mixed.ensures).rose)
    c.read.ensures.asked (record { bytes = refl; count = refl }) (record { bytes = refl; count = refl }))

pub returns-in_err-notes : goal.returns-in_err-notes
returns-in_err-notes g c =
    let p = err_from_is_err_and c.from_residual-in_err-notes.result c.from_residual-in_err-notes.ensures.1 in
    let looked : Looked = record {
      tree = record { old = g.T.Tree.history c.args.tree.now; new = g.T.Tree.history c.show.new.tree; before = g.T.Tree.faults c.args.tree.now; after = g.T.Tree.faults c.show.new.tree };
      shelf = record { old = g.S.Shelf.history c.args.shelf.now; new = g.S.Shelf.history c.show.new.shelf; before = g.S.Shelf.faults c.args.shelf.now; after = g.S.Shelf.faults c.show.new.shelf };
      oversize = record { before = g.G.Regexps.oversize c.args.regexps.now; after = g.G.Regexps.oversize c.show.new.regexps };
    } in
    let saved : Saved = record { old = course (g.S.Shelf.history c.args.shelf.now) (g.S.Shelf.images c.args.shelf.now); new = course (g.S.Shelf.history c.show.new.shelf) (g.S.Shelf.images c.show.new.shelf) } in
    let locks : Count = record { before = g.S.Shelf.held c.args.shelf.now; after = g.S.Shelf.held c.show.new.shelf } in
    let start = g.S.Shelf.history c.args.shelf.now in
    let behind = g.S.Shelf.history c.read.new.shelf in
    let end = g.S.Shelf.history c.show.new.shelf in
    let found = opened_as start behind c.in_ok-loaded.loaded (Ok c.in_ok-mixed.mixed) c.in_ok-loaded.loaded.whole.sound c.in_ok-mixed.ensures c.in_ok-loaded.ensures.found in
    let t = table c.in_ok-mixed.mixed in
    let loaded = loaded_table (listed_to end looked).shelf behind c.in_ok-loaded.loaded c.in_ok-mixed.mixed c.show.ensures.only.passes.past found (c.in_ok-mixed.ensures.0, c.in_ok-mixed.ensures.2) in
    let only = passes_trans start behind end c.read.ensures.passes c.show.ensures.only.passes in
    let unsaved : OnlyReads saved locks = record {
      passes = only;
      kept = goes_trans saved.old (course behind (g.S.Shelf.images c.read.new.shelf)) saved.new c.read.ensures.kept c.show.ensures.only.kept;
      held = c.show.ensures.only.held ∙ c.read.ensures.locks;
    } in
    rw (p.1, p.2) (does_unshown c.args.flags looked saved locks _ _ behind end (g.S.Shelf.faults c.read.new.shelf) (g.S.Shelf.faults c.show.new.shelf) t c.read.ensures.passes c.show.ensures.only.passes
    (extends_same end) loaded c.read.ensures.asked only unsaved.kept (λ told. record { some = 0; made = sym (append-nil end.asked) }) unsaved (λ failed. rw (sym c.in_ok-loaded.ensures.cause.quiet) failed)
    (λ same. same ∙ c.in_ok-loaded.ensures.cause.quiet)
    c.in_err-notes.field-0.0 c.in_err-notes.ensures.shows)

pub returns-in_err-save_notes : goal.returns-in_err-save_notes
returns-in_err-save_notes g c =
    let p = err_from_is_err_and c.from_residual-in_err-save_notes.result c.from_residual-in_err-save_notes.ensures.1 in
    let looked : Looked = record {
      tree = record { old = g.T.Tree.history c.args.tree.now; new = g.T.Tree.history c.show.new.tree; before = g.T.Tree.faults c.args.tree.now; after = g.T.Tree.faults c.show.new.tree };
      shelf = record { old = g.S.Shelf.history c.args.shelf.now; new = g.S.Shelf.history c.save_notes.new.shelf; before = g.S.Shelf.faults c.args.shelf.now; after = g.S.Shelf.faults c.save_notes.new.shelf };
      oversize = record { before = g.G.Regexps.oversize c.args.regexps.now; after = g.G.Regexps.oversize c.show.new.regexps };
    } in
    let saved : Saved = record { old = course (g.S.Shelf.history c.args.shelf.now) (g.S.Shelf.images c.args.shelf.now); new = course (g.S.Shelf.history c.save_notes.new.shelf) (g.S.Shelf.images c.save_notes.new.shelf) } in
    let locks : Count = record { before = g.S.Shelf.held c.args.shelf.now; after = g.S.Shelf.held c.save_notes.new.shelf } in
    let start = g.S.Shelf.history c.args.shelf.now in
    let behind = g.S.Shelf.history c.read.new.shelf in
    let end = g.S.Shelf.history c.show.new.shelf in
    let t = table c.in_ok-mixed.mixed in
    let only = passes_trans start behind end c.read.ensures.passes c.show.ensures.only.passes in
    let first = goes_trans saved.old (course behind (g.S.Shelf.images c.read.new.shelf)) (course end (g.S.Shelf.images c.show.new.shelf)) c.read.ensures.kept c.show.ensures.only.kept in
    let since : IsOpenedSince start end c.in_ok-loaded.loaded t c.in_ok-mixed.mixed = record {
      mid = behind;
      front = c.read.ensures.passes.past;
      past = c.show.ensures.only.passes.past;
      loads = c.in_ok-loaded.ensures.found;
      nodes = opened_nodes c.in_ok-loaded.loaded _ c.in_ok-mixed.mixed c.in_ok-mixed.ensures;
      same = same_as t;
      image = c.in_ok-mixed.ensures.2.image;
      lent = c.in_ok-mixed.ensures.2.lent;
      placed = c.in_ok-mixed.ensures.2.placed;
    } in
    let loaded = loaded_since start end c.in_ok-loaded.loaded t c.in_ok-mixed.mixed c.in_ok-loaded.loaded.whole.sound since in
    let noted = noted_as looked.tree t c.in_ok-notes.ensures.shows.notes c.in_ok-notes.notes c.in_ok-notes.ensures.shows.answered c.in_ok-notes.ensures.shows.noted.needed c.in_ok-notes.ensures.shows.noted.noted in
    let news = needed_are_news t _ _ c.in_ok-notes.notes noted.0 noted.1 in
    let quiet = c.in_ok-notes.ensures.shows.calm.shelf ∙ c.in_ok-loaded.ensures.cause.quiet in
    let saving = saves_earlier saved.old (course end (g.S.Shelf.images c.show.new.shelf)) saved.new only first c.save_notes.ensures.kept (IsTryOf start end c.in_ok-loaded.loaded t c.in_ok-mixed.mixed since) t c.in_ok-notes.notes looked.shelf.before (g.S.Shelf.faults c.show.new.shelf) looked.shelf.after
    locks.before (g.S.Shelf.held c.show.new.shelf) locks.after quiet (c.show.ensures.only.held ∙ c.read.ensures.locks) _ (c.in_err-save_notes.ensures.saves start t since news) in
    let fault = c.in_err-save_notes.field-0.0 in
    rw (p.1, p.2) (does_unsaved c.args.flags looked saved locks _ _ behind end (g.S.Shelf.faults c.read.new.shelf) (g.S.Shelf.faults c.show.new.shelf) t c.read.ensures.passes c.show.ensures.only.passes
    c.save_notes.ensures.kept.past loaded c.read.ensures.asked only (goes_trans saved.old (course end (g.S.Shelf.images c.show.new.shelf)) saved.new first c.save_notes.ensures.kept) c.in_ok-notes.notes c.in_ok-notes.ensures.shows (of_save fault) saving c.save_notes.ensures.asked
    (save_met looked.shelf saved fault (λ is. rw (sym quiet) (c.in_err-save_notes.ensures.cause.rose is)) (elim c.in_err-save_notes.ensures.unwritten [
      | inl is ↦ inl is
      | inr none ↦ inr (unwritten_then saved.old (course end (g.S.Shelf.images c.show.new.shelf)) saved.new only c.save_notes.ensures.kept none)
    ])))

pub returns : goal.returns
returns g c =
    let looked : Looked = record {
      tree = record { old = g.T.Tree.history c.args.tree.now; new = g.T.Tree.history c.show.new.tree; before = g.T.Tree.faults c.args.tree.now; after = g.T.Tree.faults c.show.new.tree };
      shelf = record { old = g.S.Shelf.history c.args.shelf.now; new = g.S.Shelf.history c.save_notes.new.shelf; before = g.S.Shelf.faults c.args.shelf.now; after = g.S.Shelf.faults c.save_notes.new.shelf };
      oversize = record { before = g.G.Regexps.oversize c.args.regexps.now; after = g.G.Regexps.oversize c.show.new.regexps };
    } in
    let saved : Saved = record { old = course (g.S.Shelf.history c.args.shelf.now) (g.S.Shelf.images c.args.shelf.now); new = course (g.S.Shelf.history c.save_notes.new.shelf) (g.S.Shelf.images c.save_notes.new.shelf) } in
    let locks : Count = record { before = g.S.Shelf.held c.args.shelf.now; after = g.S.Shelf.held c.save_notes.new.shelf } in
    let start = g.S.Shelf.history c.args.shelf.now in
    let behind = g.S.Shelf.history c.read.new.shelf in
    let end = g.S.Shelf.history c.show.new.shelf in
    let t = table c.in_ok-mixed.mixed in
    let only = passes_trans start behind end c.read.ensures.passes c.show.ensures.only.passes in
    let first = goes_trans saved.old (course behind (g.S.Shelf.images c.read.new.shelf)) (course end (g.S.Shelf.images c.show.new.shelf)) c.read.ensures.kept c.show.ensures.only.kept in
    let since : IsOpenedSince start end c.in_ok-loaded.loaded t c.in_ok-mixed.mixed = record {
      mid = behind;
      front = c.read.ensures.passes.past;
      past = c.show.ensures.only.passes.past;
      loads = c.in_ok-loaded.ensures.found;
      nodes = opened_nodes c.in_ok-loaded.loaded _ c.in_ok-mixed.mixed c.in_ok-mixed.ensures;
      same = same_as t;
      image = c.in_ok-mixed.ensures.2.image;
      lent = c.in_ok-mixed.ensures.2.lent;
      placed = c.in_ok-mixed.ensures.2.placed;
    } in
    let loaded = loaded_since start end c.in_ok-loaded.loaded t c.in_ok-mixed.mixed c.in_ok-loaded.loaded.whole.sound since in
    let noted = noted_as looked.tree t c.in_ok-notes.ensures.shows.notes c.in_ok-notes.notes c.in_ok-notes.ensures.shows.answered c.in_ok-notes.ensures.shows.noted.needed c.in_ok-notes.ensures.shows.noted.noted in
    let news = needed_are_news t _ _ c.in_ok-notes.notes noted.0 noted.1 in
    let quiet = c.in_ok-notes.ensures.shows.calm.shelf ∙ c.in_ok-loaded.ensures.cause.quiet in
    let saving = saves_earlier saved.old (course end (g.S.Shelf.images c.show.new.shelf)) saved.new only first c.save_notes.ensures.kept (IsTryOf start end c.in_ok-loaded.loaded t c.in_ok-mixed.mixed since) t c.in_ok-notes.notes looked.shelf.before (g.S.Shelf.faults c.show.new.shelf) looked.shelf.after
    locks.before (g.S.Shelf.held c.show.new.shelf) locks.after quiet (c.show.ensures.only.held ∙ c.read.ensures.locks) _ (c.in_ok-save_notes.ensures.saves start t since news) in
    does_saved c.args.flags looked saved locks _ _ behind end (g.S.Shelf.faults c.read.new.shelf) (g.S.Shelf.faults c.show.new.shelf) t c.read.ensures.passes c.show.ensures.only.passes
    c.save_notes.ensures.kept.past loaded c.read.ensures.asked only (goes_trans saved.old (course end (g.S.Shelf.images c.show.new.shelf)) saved.new first c.save_notes.ensures.kept) c.in_ok-notes.notes c.in_ok-notes.ensures.shows tt saving c.save_notes.ensures.asked (c.in_ok-save_notes.ensures.cause.quiet ∙ quiet)

pub save_notes-requires-clause-can : goal.save_notes-requires-clause-can
save_notes-requires-clause-can g c =
    let shows = c.in_ok-notes.ensures.shows in
    needed_can (table c.in_ok-mixed.mixed) c.in_ok-notes.notes (rw shows.answered shows.noted.needed)
