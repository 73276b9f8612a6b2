-- New parents: the manifests of both, and then the table.
use Rattle.std.proofs.Common.{Ok, Err, refl, ◌∙◌}
use Rattle.std.proofs.lemmas.Result.{err_from_is_err_and}
use Rattle.hg_session.proofs.KeptLists.{parents_keep}
use Rattle.hg_session.proofs.KeptTexts.{parents_texts}
use Rattle.hg_session.proofs.ParentLoads.{asks_first, asks_second, cause_as, not_tree, stops_first, stops_second}
use Rattle.hg_session.proofs.SoFar.{unmarked}
use Rattle.hg_shelf.proofs.Histories.{extends_same, passes_trans}
use Rattle.hg_shelf.proofs.Scenes.{goes_trans}
use Rattle.hg_session.proofs.reparenting.reparent.Goals as goal

pub returns-in_err-m1-clause-stops : goal.returns-in_err-m1-clause-stops
returns-in_err-m1-clause-stops g c =
    let p = err_from_is_err_and c.from_residual.result c.from_residual.ensures.1 in
    rw (p.1, p.2)
    (stops_first c.args.p1 c.args.p2 _ c.in_err-m1.field-0.0
    (record { old = g.S.Shelf.history c.args.shelf.now; new = g.S.Shelf.history c.rows_of.new.shelf; before = extends_same (g.S.Shelf.history c.args.shelf.now); behind = extends_same (g.S.Shelf.history c.rows_of.new.shelf); answers = c.in_err-m1.ensures.answers }))

pub returns-in_err-m1-clause-asked : goal.returns-in_err-m1-clause-asked
returns-in_err-m1-clause-asked g c = λ told.
    asks_first c.args.p1 c.args.p2 (g.S.Shelf.history c.args.shelf.now) (g.S.Shelf.history c.rows_of.new.shelf) c.in_err-m1.field-0.0 c.in_err-m1.ensures.passes (c.in_err-m1.ensures.asked told)

pub returns-in_err-m1-clause-cause : goal.returns-in_err-m1-clause-cause
returns-in_err-m1-clause-cause g c =
    let p = err_from_is_err_and c.from_residual.result c.from_residual.ensures.1 in
    rw (p.1, p.2) (cause_as _ _ _ c.in_err-m1.field-0.0 refl c.in_err-m1.ensures.cause)

pub returns-in_err-m1-clause-kind : goal.returns-in_err-m1-clause-kind
returns-in_err-m1-clause-kind g c =
    let p = err_from_is_err_and c.from_residual.result c.from_residual.ensures.1 in
    rw (p.1, p.2) (not_tree c.in_err-m1.field-0.0)

pub returns-in_err-m2-clause-stops : goal.returns-in_err-m2-clause-stops
returns-in_err-m2-clause-stops g c =
    let p = err_from_is_err_and c.from_residual-in_err-m2.result c.from_residual-in_err-m2.ensures.1 in
    rw (p.1, p.2)
    (stops_second c.args.p1 c.args.p2 _ c.in_ok-m1.m1
    (record { old = g.S.Shelf.history c.args.shelf.now; new = g.S.Shelf.history c.rows_of.new.shelf; before = extends_same (g.S.Shelf.history c.args.shelf.now); behind = c.in_err-m2.ensures.passes.past; answers = c.in_ok-m1.ensures.answers })
    c.in_err-m2.field-0.0
    (record { old = g.S.Shelf.history c.rows_of.new.shelf; new = g.S.Shelf.history c.rows_of-2.new.shelf; before = c.in_ok-m1.ensures.passes.past; behind = extends_same (g.S.Shelf.history c.rows_of-2.new.shelf); answers = c.in_err-m2.ensures.answers }))

pub returns-in_err-m2-clause-asked : goal.returns-in_err-m2-clause-asked
returns-in_err-m2-clause-asked g c = λ told.
    asks_second c.args.p1 c.args.p2 (g.S.Shelf.history c.args.shelf.now) (g.S.Shelf.history c.rows_of.new.shelf) (g.S.Shelf.history c.rows_of-2.new.shelf) c.in_ok-m1.m1 (Err c.in_err-m2.field-0.0)
    c.in_ok-m1.ensures.passes c.in_err-m2.ensures.passes (c.in_ok-m1.ensures.asked told) (c.in_err-m2.ensures.asked (c.in_ok-m1.ensures.passes.past.told ∙ told))

pub returns-in_err-m2-clause-cause : goal.returns-in_err-m2-clause-cause
returns-in_err-m2-clause-cause g c =
    let p = err_from_is_err_and c.from_residual-in_err-m2.result c.from_residual-in_err-m2.ensures.1 in
    rw (p.1, p.2) (cause_as _ _ _ c.in_err-m2.field-0.0 c.in_ok-m1.ensures.cause.quiet c.in_err-m2.ensures.cause)

pub returns-in_err-m2-clause-kind : goal.returns-in_err-m2-clause-kind
returns-in_err-m2-clause-kind g c =
    let p = err_from_is_err_and c.from_residual-in_err-m2.result c.from_residual-in_err-m2.ensures.1 in
    rw (p.1, p.2) (not_tree c.in_err-m2.field-0.0)

pub returns-in_err-m2-clause-passes : goal.returns-in_err-m2-clause-passes
returns-in_err-m2-clause-passes g c = passes_trans _ _ _ c.in_ok-m1.ensures.passes c.in_err-m2.ensures.passes

pub returns-in_err-m2-clause-kept : goal.returns-in_err-m2-clause-kept
returns-in_err-m2-clause-kept g c = goes_trans _ _ _ c.in_ok-m1.ensures.kept c.in_err-m2.ensures.kept

pub returns-in_err-set_rows-clause-asked : goal.returns-in_err-set_rows-clause-asked
returns-in_err-set_rows-clause-asked g c = λ told.
    asks_second c.args.p1 c.args.p2 (g.S.Shelf.history c.args.shelf.now) (g.S.Shelf.history c.rows_of.new.shelf) (g.S.Shelf.history c.rows_of-2.new.shelf) c.in_ok-m1.m1 (Ok c.in_ok-m2.m2)
    c.in_ok-m1.ensures.passes c.in_ok-m2.ensures.passes (c.in_ok-m1.ensures.asked told) (c.in_ok-m2.ensures.asked (c.in_ok-m1.ensures.passes.past.told ∙ told))

pub returns-in_err-set_rows-clause-passes : goal.returns-in_err-set_rows-clause-passes
returns-in_err-set_rows-clause-passes g c = passes_trans _ _ _ c.in_ok-m1.ensures.passes c.in_ok-m2.ensures.passes

pub returns-in_err-set_rows-clause-kept : goal.returns-in_err-set_rows-clause-kept
returns-in_err-set_rows-clause-kept g c = goes_trans _ _ _ c.in_ok-m1.ensures.kept c.in_ok-m2.ensures.kept

pub returns-clause-does : goal.returns-clause-does
returns-clause-does g c = λ unset. record {
  m1 = c.in_ok-m1.m1;
  m2 = c.in_ok-m2.m2;
  first = record { old = g.S.Shelf.history c.args.shelf.now; new = g.S.Shelf.history c.rows_of.new.shelf; before = extends_same (g.S.Shelf.history c.args.shelf.now); behind = c.in_ok-m2.ensures.passes.past; answers = c.in_ok-m1.ensures.answers };
  second = record { old = g.S.Shelf.history c.rows_of.new.shelf; new = g.S.Shelf.history c.rows_of-2.new.shelf; before = c.in_ok-m1.ensures.passes.past; behind = extends_same (g.S.Shelf.history c.rows_of-2.new.shelf); answers = c.in_ok-m2.ensures.answers };
  parents = c.in_ok-set_rows.ensures.parents;
  silent = c.new.ensures.items;
  idle = λ same. c.in_ok-set_rows.ensures.changed.kept same ∙ unset;
  same = λ is. unmarked _ _ _ _ c.in_ok-set_rows.ensures.changed is;
}

pub returns-clause-lent : goal.returns-clause-lent
returns-clause-lent g c =
    parents_keep c.args.mixed.now c.set_rows.new.mixed c.in_ok-set_rows.ensures.lent
    (parents_texts c.args.mixed.now c.set_rows.new.mixed c.in_ok-set_rows.ensures.parents.sources c.in_ok-set_rows.ensures.places)

pub returns-clause-asked : goal.returns-clause-asked
returns-clause-asked g c = λ told.
    asks_second c.args.p1 c.args.p2 (g.S.Shelf.history c.args.shelf.now) (g.S.Shelf.history c.rows_of.new.shelf) (g.S.Shelf.history c.rows_of-2.new.shelf) c.in_ok-m1.m1 (Ok c.in_ok-m2.m2)
    c.in_ok-m1.ensures.passes c.in_ok-m2.ensures.passes (c.in_ok-m1.ensures.asked told) (c.in_ok-m2.ensures.asked (c.in_ok-m1.ensures.passes.past.told ∙ told))

pub returns-clause-passes : goal.returns-clause-passes
returns-clause-passes g c = passes_trans _ _ _ c.in_ok-m1.ensures.passes c.in_ok-m2.ensures.passes

pub returns-clause-kept : goal.returns-clause-kept
returns-clause-kept g c = goes_trans _ _ _ c.in_ok-m1.ensures.kept c.in_ok-m2.ensures.kept
