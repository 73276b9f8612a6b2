-- A change of the record: the load, what the command makes of it, the publication.
use Rattle.std.proofs.Common.{Some, None, Err, inl, inr, refl, sym, ap, ◌∙◌, subst}
use Rattle.std.proofs.lemmas.Result.{err_from_is_err_and}
use Rattle.hg_ops.specs.declared.refusal.OpFault.{OpFault}
use Rattle.hg_report.specs.Cause.{of_op}
use Rattle.hg_session.specs.Acts.{Makes, makes_of}
use Rattle.hg_session.specs.Reading.{IsOpened}
use Rattle.hg_session.specs.Call.{Watched}
use Rattle.hg_session.specs.declared.change_fault.ChangeFault.TheVariants as a_change_fault
use Rattle.hg_save.proofs.Held.{held_passes, held_then}
use Rattle.hg_session.proofs.Asking.{asks_read}
use Rattle.hg_session.proofs.Changes.{asks_by, changes_by, done_by, loads_upto, met_acting, met_opened, met_read, met_writing, none_come, read_first, safe_by, used_there}
use Rattle.hg_session.proofs.Locked.{unwritten, unwritten_unless}
use Rattle.hg_session.proofs.Makers.{makes_wide}
use Rattle.hg_session.proofs.SameTables.{one_table}
use Rattle.hg_entry.specs.Table.{Table}
use Rattle.hg_mixed.specs.Held.{table}
use Rattle.hg_session.specs.Change.{Come, Made, come_so, of_change}
use Rattle.hg_shelf.specs.History as shelf
use Rattle.hg_shelf.specs.Images.{Course, course}
use Rattle.hg_shelf.proofs.Histories.{extends_same, passes_trans}
use Rattle.hg_shelf.proofs.Scenes.{goes_same, goes_trans, second_part}
use Rattle.hg_tree.specs.History as tree
use Rattle.hg_session.proofs.changing.change_locked.Goals as goal
use Rattle.hg_session.specs.Told.{refusing}

-- ---- the record could not be read

pub returns-in_err-loaded-clause-came : goal.returns-in_err-loaded-clause-came
returns-in_err-loaded-clause-came g c =
    let p = err_from_is_err_and c.from_residual.result c.from_residual.ensures.1 in
    let copy : Watched tree.History = record { old = g.T.Tree.history c.args.tree.now; new = g.T.Tree.history c.args.tree.now; before = g.T.Tree.faults c.args.tree.now; after = g.T.Tree.faults c.args.tree.now } in
    let files : Watched shelf.History = record { old = g.S.Shelf.history c.args.shelf.now; new = g.S.Shelf.history c.read.new.shelf; before = g.S.Shelf.faults c.args.shelf.now; after = g.S.Shelf.faults c.read.new.shelf } in
    let come : Come (makes_of c.args.command.now copy files) files = none_come (makes_of c.args.command.now copy files) files in
    rw (p.1, p.2) (record {
      come = come;
      done = tt;
      met = met_read (come_so come) copy files c.in_err-loaded.field-0.0 c.in_err-loaded.ensures.found c.in_err-loaded.ensures.cause.rose (record { history = refl; count = refl });
      safe = λ calm. inl (unwritten files.old files.new c.in_err-loaded.ensures.passes);
      tree = inl (record { history = refl; count = refl });
      asked = λ told. asks_read c.args.command.now copy None files.old files.new (c.in_err-loaded.ensures.asked told);
    })

pub returns-in_err-loaded-clause-unwritten : goal.returns-in_err-loaded-clause-unwritten
returns-in_err-loaded-clause-unwritten g c =
    let p = err_from_is_err_and c.from_residual.result c.from_residual.ensures.1 in
    rw (p.1, p.2) (inr (unwritten (g.S.Shelf.history c.args.shelf.now) (g.S.Shelf.history c.read.new.shelf) c.in_err-loaded.ensures.passes))

pub returns-in_err-loaded-clause-lock : goal.returns-in_err-loaded-clause-lock
returns-in_err-loaded-clause-lock g c = λ told. held_passes (g.S.Shelf.history c.args.shelf.now) (g.S.Shelf.history c.read.new.shelf) c.requires c.in_err-loaded.ensures.passes

-- ---- its nodes could not

pub returns-in_err-table-clause-came : goal.returns-in_err-table-clause-came
returns-in_err-table-clause-came g c =
    let p = err_from_is_err_and c.from_residual-in_err-table.result c.from_residual-in_err-table.ensures.1 in
    let copy : Watched tree.History = record { old = g.T.Tree.history c.args.tree.now; new = g.T.Tree.history c.args.tree.now; before = g.T.Tree.faults c.args.tree.now; after = g.T.Tree.faults c.args.tree.now } in
    let files : Watched shelf.History = record { old = g.S.Shelf.history c.args.shelf.now; new = g.S.Shelf.history c.read.new.shelf; before = g.S.Shelf.faults c.args.shelf.now; after = g.S.Shelf.faults c.read.new.shelf } in
    let come : Come (makes_of c.args.command.now copy files) files = none_come (makes_of c.args.command.now copy files) files in
    rw (p.1, p.2) (record {
      come = come;
      done = tt;
      met = met_opened (come_so come) copy files (IsOpened c.in_ok-loaded.loaded) c.in_ok-loaded.loaded c.in_err-table.field-0.0 c.in_ok-loaded.loaded.whole.sound c.in_ok-loaded.ensures.found c.in_err-table.ensures (record { history = refl; count = refl });
      safe = λ calm. inl (unwritten files.old files.new c.in_ok-loaded.ensures.passes);
      tree = inl (record { history = refl; count = refl });
      asked = λ told. asks_read c.args.command.now copy None files.old files.new (c.in_ok-loaded.ensures.asked told);
    })

pub returns-in_err-table-clause-unwritten : goal.returns-in_err-table-clause-unwritten
returns-in_err-table-clause-unwritten g c =
    let p = err_from_is_err_and c.from_residual-in_err-table.result c.from_residual-in_err-table.ensures.1 in
    rw (p.1, p.2) (inr (unwritten (g.S.Shelf.history c.args.shelf.now) (g.S.Shelf.history c.read.new.shelf) c.in_ok-loaded.ensures.passes))

pub returns-in_err-table-clause-lock : goal.returns-in_err-table-clause-lock
returns-in_err-table-clause-lock g c = λ told. held_passes (g.S.Shelf.history c.args.shelf.now) (g.S.Shelf.history c.read.new.shelf) c.requires c.in_ok-loaded.ensures.passes

-- ---- the command met a fault

pub returns-in_err-lines-clause-came : goal.returns-in_err-lines-clause-came
returns-in_err-lines-clause-came g c =
    let p = err_from_is_err_and c.from_residual-in_err-lines.result c.from_residual-in_err-lines.ensures.1 in
    let a : Course = course (g.S.Shelf.history c.args.shelf.now) (g.S.Shelf.images c.args.shelf.now) in
    let b : Course = course (g.S.Shelf.history c.read.new.shelf) (g.S.Shelf.images c.read.new.shelf) in
    let m : Course = course (g.S.Shelf.history c.act.new.shelf) (g.S.Shelf.images c.act.new.shelf) in
    let copy : Watched tree.History = record { old = g.T.Tree.history c.args.tree.now; new = g.T.Tree.history c.act.new.tree; before = g.T.Tree.faults c.args.tree.now; after = g.T.Tree.faults c.act.new.tree } in
    let part : Watched shelf.History = record { old = b.history; new = m.history; before = g.S.Shelf.faults c.read.new.shelf; after = g.S.Shelf.faults c.act.new.shelf } in
    let whole : Watched shelf.History = record { old = a.history; new = m.history; before = g.S.Shelf.faults c.args.shelf.now; after = g.S.Shelf.faults c.act.new.shelf } in
    let acts = c.in_err-lines.ensures.acts in
    let wider = makes_wide part whole c.in_ok-loaded.ensures.passes.past (extends_same m.history) c.args.command.now copy in
    let passes = passes_trans a.history b.history m.history c.in_ok-loaded.ensures.passes acts.below in
    let loads = loads_upto a.history b.history m.history c.in_ok-loaded.loaded acts.below.past c.in_ok-loaded.ensures.found in
    let same = one_table (table c.in_ok-table.table) c.in_ok-table.ensures.0 c.in_ok-table.ensures.2.same in
    let come : Come (makes_of c.args.command.now copy whole) whole = record {
      read = Some c.in_ok-table.ensures.0;
      loaded = read_first a m m passes (goes_same m) c.in_ok-loaded.loaded c.in_ok-loaded.loaded.whole.sound loads c.in_ok-table.ensures.0 c.in_ok-table.ensures.1;
      work = None;
      does = tt;
    } in
    rw (p.1, p.2) (record {
      come = come;
      done = tt;
      met = met_acting a m m (passes_trans a.history b.history m.history c.in_ok-loaded.ensures.passes acts.below) (goes_same m) c.in_ok-loaded.loaded c.in_ok-loaded.loaded.whole.sound
          (loads_upto a.history b.history m.history c.in_ok-loaded.loaded acts.below.past c.in_ok-loaded.ensures.found) c.in_ok-table.ensures.0 c.in_ok-table.ensures.1
          (come_so come) copy c.in_ok-table.table c.in_ok-table.ensures.2 (g.S.Shelf.faults c.args.shelf.now) (g.S.Shelf.faults c.read.new.shelf) (g.S.Shelf.faults c.act.new.shelf) c.in_err-lines.field-0.0
          c.in_ok-loaded.ensures.cause.quiet (ap Some (sym same), wider.stops _ (of_op c.in_err-lines.field-0.0) (acts.stops c.in_ok-table.ensures.2.unchanged)) acts.tree_cause.rose acts.shelf_cause.rose;
      safe = λ calm. inl (unwritten a.history m.history passes);
      tree = changes_by a m m (passes_trans a.history b.history m.history c.in_ok-loaded.ensures.passes acts.below) (goes_same m) c.in_ok-loaded.loaded c.in_ok-loaded.loaded.whole.sound
          (loads_upto a.history b.history m.history c.in_ok-loaded.loaded acts.below.past c.in_ok-loaded.ensures.found) c.in_ok-table.ensures.0 c.in_ok-table.ensures.1 c.args.command.now
          (record { old = g.T.Tree.history c.args.tree.now; new = g.T.Tree.history c.act.new.tree; before = g.T.Tree.faults c.args.tree.now; after = g.T.Tree.faults c.act.new.tree }) c.in_ok-table.table c.in_ok-table.ensures.2 acts.tree;
      asked = λ told. asks_by a m m (passes_trans a.history b.history m.history c.in_ok-loaded.ensures.passes acts.below) (goes_same m) c.in_ok-loaded.loaded c.in_ok-loaded.loaded.whole.sound
          (loads_upto a.history b.history m.history c.in_ok-loaded.loaded acts.below.past c.in_ok-loaded.ensures.found) c.in_ok-table.ensures.0 c.in_ok-table.ensures.1
          c.args.command.now _ c.in_ok-table.table c.in_ok-table.ensures.2 b.history acts.below.past refl c.in_ok-loaded.ensures.asked acts.asked c.in_ok-loaded.ensures.passes.past told;
    })

pub returns-in_err-lines-clause-unwritten : goal.returns-in_err-lines-clause-unwritten
returns-in_err-lines-clause-unwritten g c =
    let p = err_from_is_err_and c.from_residual-in_err-lines.result c.from_residual-in_err-lines.ensures.1 in
    rw (p.1, p.2)
    (inr (unwritten (g.S.Shelf.history c.args.shelf.now) (g.S.Shelf.history c.act.new.shelf)
    (passes_trans (g.S.Shelf.history c.args.shelf.now) (g.S.Shelf.history c.read.new.shelf) (g.S.Shelf.history c.act.new.shelf) c.in_ok-loaded.ensures.passes c.in_err-lines.ensures.acts.below)))

pub returns-in_err-lines-clause-failed : goal.returns-in_err-lines-clause-failed
returns-in_err-lines-clause-failed g c = λ rose.
    let p = err_from_is_err_and c.from_residual-in_err-lines.result c.from_residual-in_err-lines.ensures.1 in
    p.1 ∙ ap Err (p.2 ∙ ap (λ (f : OpFault). a_change_fault.Op f) (cc (c.in_err-lines.ensures.acts.tree_failed rose)))

pub returns-in_err-lines-clause-kept : goal.returns-in_err-lines-clause-kept
returns-in_err-lines-clause-kept g c = goes_trans _ _ _ c.in_ok-loaded.ensures.kept c.in_err-lines.ensures.kept

pub returns-in_err-lines-clause-lock : goal.returns-in_err-lines-clause-lock
returns-in_err-lines-clause-lock g c = λ told.
    held_passes (g.S.Shelf.history c.args.shelf.now) (g.S.Shelf.history c.act.new.shelf) c.requires
    (passes_trans (g.S.Shelf.history c.args.shelf.now) (g.S.Shelf.history c.read.new.shelf) (g.S.Shelf.history c.act.new.shelf) c.in_ok-loaded.ensures.passes c.in_err-lines.ensures.acts.below)

-- ---- it was not written

pub returns-in_err-save-clause-came : goal.returns-in_err-save-clause-came
returns-in_err-save-clause-came g c =
    let p = err_from_is_err_and c.from_residual-in_err-save.result c.from_residual-in_err-save.ensures.1 in
    let a : Course = course (g.S.Shelf.history c.args.shelf.now) (g.S.Shelf.images c.args.shelf.now) in
    let b : Course = course (g.S.Shelf.history c.read.new.shelf) (g.S.Shelf.images c.read.new.shelf) in
    let m : Course = course (g.S.Shelf.history c.act.new.shelf) (g.S.Shelf.images c.act.new.shelf) in
    let d : Course = course (g.S.Shelf.history c.save.new.shelf) (g.S.Shelf.images c.save.new.shelf) in
    let acts = c.in_ok-lines.ensures.acts in
    let passes = passes_trans a.history b.history m.history c.in_ok-loaded.ensures.passes acts.below in
    let loads = loads_upto a.history b.history m.history c.in_ok-loaded.loaded acts.below.past c.in_ok-loaded.ensures.found in
    let copy : Watched tree.History = record { old = g.T.Tree.history c.args.tree.now; new = g.T.Tree.history c.act.new.tree; before = g.T.Tree.faults c.args.tree.now; after = g.T.Tree.faults c.act.new.tree } in
    let part : Watched shelf.History = record { old = b.history; new = m.history; before = g.S.Shelf.faults c.read.new.shelf; after = g.S.Shelf.faults c.act.new.shelf } in
    let whole : Watched shelf.History = record { old = a.history; new = d.history; before = g.S.Shelf.faults c.args.shelf.now; after = g.S.Shelf.faults c.save.new.shelf } in
    let wider = makes_wide part whole c.in_ok-loaded.ensures.passes.past c.in_err-save.ensures.kept.past c.args.command.now copy in
    let Whole : Makes = makes_of c.args.command.now copy whole in
    let made : Made = record { table = table c.act.new.mixed; said = refusing c.in_ok-lines.lines.items; changed = c.act.new.mixed.changed } in
    let does : Whole.does (table c.in_ok-table.table) made.table made.said made.changed = wider.does _ _ _ _ (acts.does c.in_ok-table.ensures.2.unchanged) in
    let same = one_table (table c.in_ok-table.table) c.in_ok-table.ensures.0 c.in_ok-table.ensures.2.same in
    let come : Come Whole whole = record {
      read = Some c.in_ok-table.ensures.0;
      loaded = read_first a m d passes c.in_err-save.ensures.kept c.in_ok-loaded.loaded c.in_ok-loaded.loaded.whole.sound loads c.in_ok-table.ensures.0 c.in_ok-table.ensures.1;
      work = Some made;
      does = subst (λ (t : Table). Whole.does t made.table made.said made.changed) same does;
    } in
    let Does : Makes = come_so come in
    let acted : Does.does (table c.in_ok-table.table) made.table made.said made.changed = (ap Some (sym same), refl, does) in
    rw (p.1, p.2) (record {
      come = come;
      done = tt;
      met = met_writing a m d passes c.in_err-save.ensures.kept c.in_ok-loaded.loaded c.in_ok-loaded.loaded.whole.sound loads c.in_ok-table.ensures.0 c.in_ok-table.ensures.1
          Does c.in_ok-table.table c.act.new.mixed c.in_ok-table.ensures.2 acts.image acts.lent (refusing c.in_ok-lines.lines.items) acted copy
          (g.S.Shelf.faults c.args.shelf.now) (g.S.Shelf.faults c.act.new.shelf) (g.S.Shelf.faults c.save.new.shelf) c.in_err-save.field-0.0 (acts.shelf_cause.quiet ∙ c.in_ok-loaded.ensures.cause.quiet) c.in_err-save.ensures.lent c.in_err-save.ensures.met;
      safe = λ calm. safe_by a m d passes c.in_err-save.ensures.kept c.in_ok-loaded.loaded c.in_ok-loaded.loaded.whole.sound loads c.in_ok-table.ensures.0 c.in_ok-table.ensures.1
          Does c.in_ok-table.table c.act.new.mixed c.in_ok-table.ensures.2 acts.image acts.lent (refusing c.in_ok-lines.lines.items) acted
          c.requires calm c.in_err-save.ensures.lent (Some (of_change c.in_err-save.field-0.0))
          (c.in_err-save.ensures.safe (second_part a m d (goes_trans a b m c.in_ok-loaded.ensures.kept c.in_ok-lines.ensures.kept) calm));
      tree = changes_by a m d (passes_trans a.history b.history m.history c.in_ok-loaded.ensures.passes acts.below) c.in_err-save.ensures.kept c.in_ok-loaded.loaded c.in_ok-loaded.loaded.whole.sound
          (loads_upto a.history b.history m.history c.in_ok-loaded.loaded acts.below.past c.in_ok-loaded.ensures.found) c.in_ok-table.ensures.0 c.in_ok-table.ensures.1 c.args.command.now
          (record { old = g.T.Tree.history c.args.tree.now; new = g.T.Tree.history c.act.new.tree; before = g.T.Tree.faults c.args.tree.now; after = g.T.Tree.faults c.act.new.tree }) c.in_ok-table.table c.in_ok-table.ensures.2 acts.tree;
      asked = λ told. asks_by a m d passes c.in_err-save.ensures.kept c.in_ok-loaded.loaded c.in_ok-loaded.loaded.whole.sound loads c.in_ok-table.ensures.0 c.in_ok-table.ensures.1
          c.args.command.now _ c.in_ok-table.table c.in_ok-table.ensures.2 b.history acts.below.past c.in_err-save.ensures.unasked.asked c.in_ok-loaded.ensures.asked acts.asked c.in_ok-loaded.ensures.passes.past told;
    })

pub returns-in_err-save-clause-unwritten : goal.returns-in_err-save-clause-unwritten
returns-in_err-save-clause-unwritten g c =
    let p = err_from_is_err_and c.from_residual-in_err-save.result c.from_residual-in_err-save.ensures.1 in
    let a : Course = course (g.S.Shelf.history c.args.shelf.now) (g.S.Shelf.images c.args.shelf.now) in
    let b : Course = course (g.S.Shelf.history c.read.new.shelf) (g.S.Shelf.images c.read.new.shelf) in
    let m : Course = course (g.S.Shelf.history c.act.new.shelf) (g.S.Shelf.images c.act.new.shelf) in
    let d : Course = course (g.S.Shelf.history c.save.new.shelf) (g.S.Shelf.images c.save.new.shelf) in
    let acts = c.in_ok-lines.ensures.acts in
    let passes = passes_trans a.history b.history m.history c.in_ok-loaded.ensures.passes acts.below in
    let loads = loads_upto a.history b.history m.history c.in_ok-loaded.loaded acts.below.past c.in_ok-loaded.ensures.found in
    rw (p.1, p.2) (unwritten_unless a m d passes c.in_err-save.ensures.kept c.in_err-save.field-0.0 c.in_err-save.ensures.unwritten)

pub returns-in_err-save-clause-kept : goal.returns-in_err-save-clause-kept
returns-in_err-save-clause-kept g c =
    goes_trans _ _ _ (goes_trans _ _ _ c.in_ok-loaded.ensures.kept c.in_ok-lines.ensures.kept) c.in_err-save.ensures.kept

pub returns-in_err-save-clause-lock : goal.returns-in_err-save-clause-lock
returns-in_err-save-clause-lock g c = λ told.
    let a : Course = course (g.S.Shelf.history c.args.shelf.now) (g.S.Shelf.images c.args.shelf.now) in
    let b : Course = course (g.S.Shelf.history c.read.new.shelf) (g.S.Shelf.images c.read.new.shelf) in
    let m : Course = course (g.S.Shelf.history c.act.new.shelf) (g.S.Shelf.images c.act.new.shelf) in
    let d : Course = course (g.S.Shelf.history c.save.new.shelf) (g.S.Shelf.images c.save.new.shelf) in
    let acts = c.in_ok-lines.ensures.acts in
    let passes = passes_trans a.history b.history m.history c.in_ok-loaded.ensures.passes acts.below in
    let loads = loads_upto a.history b.history m.history c.in_ok-loaded.loaded acts.below.past c.in_ok-loaded.ensures.found in
    held_then a.history m.history d.history c.in_err-save.ensures.kept.past (held_passes a.history m.history c.requires passes) (c.in_err-save.ensures.lock (passes.past.told ∙ told))

-- ---- the table stands over what was loaded

pub save-requires-clause-docket : goal.save-requires-clause-docket
save-requires-clause-docket g c = c.in_ok-lines.ensures.acts.image.docket ∙ c.in_ok-table.ensures.2.contents

pub save-requires-clause-nodes : goal.save-requires-clause-nodes
save-requires-clause-nodes g c = c.in_ok-lines.ensures.acts.image.bytes ∙ c.in_ok-table.ensures.2.nodes

-- ---- it was done

pub returns-clause-came : goal.returns-clause-came
returns-clause-came g c =
    let a : Course = course (g.S.Shelf.history c.args.shelf.now) (g.S.Shelf.images c.args.shelf.now) in
    let b : Course = course (g.S.Shelf.history c.read.new.shelf) (g.S.Shelf.images c.read.new.shelf) in
    let m : Course = course (g.S.Shelf.history c.act.new.shelf) (g.S.Shelf.images c.act.new.shelf) in
    let d : Course = course (g.S.Shelf.history c.save.new.shelf) (g.S.Shelf.images c.save.new.shelf) in
    let acts = c.in_ok-lines.ensures.acts in
    let passes = passes_trans a.history b.history m.history c.in_ok-loaded.ensures.passes acts.below in
    let loads = loads_upto a.history b.history m.history c.in_ok-loaded.loaded acts.below.past c.in_ok-loaded.ensures.found in
    let copy : Watched tree.History = record { old = g.T.Tree.history c.args.tree.now; new = g.T.Tree.history c.act.new.tree; before = g.T.Tree.faults c.args.tree.now; after = g.T.Tree.faults c.act.new.tree } in
    let part : Watched shelf.History = record { old = b.history; new = m.history; before = g.S.Shelf.faults c.read.new.shelf; after = g.S.Shelf.faults c.act.new.shelf } in
    let whole : Watched shelf.History = record { old = a.history; new = d.history; before = g.S.Shelf.faults c.args.shelf.now; after = g.S.Shelf.faults c.save.new.shelf } in
    let wider = makes_wide part whole c.in_ok-loaded.ensures.passes.past c.in_ok-save.ensures.kept.past c.args.command.now copy in
    let Whole : Makes = makes_of c.args.command.now copy whole in
    let made : Made = record { table = table c.act.new.mixed; said = refusing c.in_ok-lines.lines.items; changed = c.act.new.mixed.changed } in
    let does : Whole.does (table c.in_ok-table.table) made.table made.said made.changed = wider.does _ _ _ _ (acts.does c.in_ok-table.ensures.2.unchanged) in
    let same = one_table (table c.in_ok-table.table) c.in_ok-table.ensures.0 c.in_ok-table.ensures.2.same in
    let come : Come Whole whole = record {
      read = Some c.in_ok-table.ensures.0;
      loaded = read_first a m d passes c.in_ok-save.ensures.kept c.in_ok-loaded.loaded c.in_ok-loaded.loaded.whole.sound loads c.in_ok-table.ensures.0 c.in_ok-table.ensures.1;
      work = Some made;
      does = subst (λ (t : Table). Whole.does t made.table made.said made.changed) same does;
    } in
    let Does : Makes = come_so come in
    let acted : Does.does (table c.in_ok-table.table) made.table made.said made.changed = (ap Some (sym same), refl, does) in
    record {
      come = come;
      done = done_by a m d passes c.in_ok-save.ensures.kept c.in_ok-loaded.loaded c.in_ok-loaded.loaded.whole.sound loads c.in_ok-table.ensures.0 c.in_ok-table.ensures.1
          Does c.in_ok-table.table c.act.new.mixed c.in_ok-table.ensures.2 acts.image acts.lent (refusing c.in_ok-lines.lines.items) acted
          (g.S.Shelf.faults c.args.shelf.now) (g.S.Shelf.faults c.save.new.shelf) c.requires (acts.same c.in_ok-table.ensures.2.unchanged) c.in_ok-save.ensures.fits c.in_ok-save.ensures.lent
          (λ none. ap (λ s. course (g.S.Shelf.history s) (g.S.Shelf.images s)) (c.in_ok-save.ensures.still none))
          (λ calm. c.in_ok-save.ensures.recorded (second_part a m d (goes_trans a b m c.in_ok-loaded.ensures.kept c.in_ok-lines.ensures.kept) calm)
          (λ way.
          used_there a m d passes c.in_ok-save.ensures.kept c.in_ok-loaded.loaded c.in_ok-loaded.loaded.whole.sound loads c.in_ok-table.ensures.0 c.in_ok-table.ensures.1
          Does c.in_ok-table.table c.act.new.mixed c.in_ok-table.ensures.2 acts.image acts.lent (refusing c.in_ok-lines.lines.items) acted
          c.requires calm));
      met = tt;
      safe = λ calm. safe_by a m d passes c.in_ok-save.ensures.kept c.in_ok-loaded.loaded c.in_ok-loaded.loaded.whole.sound loads c.in_ok-table.ensures.0 c.in_ok-table.ensures.1
          Does c.in_ok-table.table c.act.new.mixed c.in_ok-table.ensures.2 acts.image acts.lent (refusing c.in_ok-lines.lines.items) acted
          c.requires calm c.in_ok-save.ensures.lent None
          (c.in_ok-save.ensures.safe (second_part a m d (goes_trans a b m c.in_ok-loaded.ensures.kept c.in_ok-lines.ensures.kept) calm));
      tree = changes_by a m d (passes_trans a.history b.history m.history c.in_ok-loaded.ensures.passes acts.below) c.in_ok-save.ensures.kept c.in_ok-loaded.loaded c.in_ok-loaded.loaded.whole.sound
          (loads_upto a.history b.history m.history c.in_ok-loaded.loaded acts.below.past c.in_ok-loaded.ensures.found) c.in_ok-table.ensures.0 c.in_ok-table.ensures.1 c.args.command.now
          (record { old = g.T.Tree.history c.args.tree.now; new = g.T.Tree.history c.act.new.tree; before = g.T.Tree.faults c.args.tree.now; after = g.T.Tree.faults c.act.new.tree }) c.in_ok-table.table c.in_ok-table.ensures.2 acts.tree;
      asked = λ told. asks_by a m d passes c.in_ok-save.ensures.kept c.in_ok-loaded.loaded c.in_ok-loaded.loaded.whole.sound loads c.in_ok-table.ensures.0 c.in_ok-table.ensures.1
          c.args.command.now _ c.in_ok-table.table c.in_ok-table.ensures.2 b.history acts.below.past c.in_ok-save.ensures.unasked.asked c.in_ok-loaded.ensures.asked acts.asked c.in_ok-loaded.ensures.passes.past told;
    }

pub returns-clause-kept : goal.returns-clause-kept
returns-clause-kept g c =
    goes_trans _ _ _ (goes_trans _ _ _ c.in_ok-loaded.ensures.kept c.in_ok-lines.ensures.kept) c.in_ok-save.ensures.kept

pub returns-clause-lock : goal.returns-clause-lock
returns-clause-lock g c = λ told.
    let a : Course = course (g.S.Shelf.history c.args.shelf.now) (g.S.Shelf.images c.args.shelf.now) in
    let b : Course = course (g.S.Shelf.history c.read.new.shelf) (g.S.Shelf.images c.read.new.shelf) in
    let m : Course = course (g.S.Shelf.history c.act.new.shelf) (g.S.Shelf.images c.act.new.shelf) in
    let d : Course = course (g.S.Shelf.history c.save.new.shelf) (g.S.Shelf.images c.save.new.shelf) in
    let acts = c.in_ok-lines.ensures.acts in
    let passes = passes_trans a.history b.history m.history c.in_ok-loaded.ensures.passes acts.below in
    let loads = loads_upto a.history b.history m.history c.in_ok-loaded.loaded acts.below.past c.in_ok-loaded.ensures.found in
    held_then a.history m.history d.history c.in_ok-save.ensures.kept.past (held_passes a.history m.history c.requires passes) (c.in_ok-save.ensures.lock (passes.past.told ∙ told))
