use Rattle.std.proofs.Common.{ℕ, List, Option, sym, ap}
use Rattle.hg_entry.specs.Entry.{EntryData}
use Rattle.hg_tree.specs.History as trees
use Rattle.hg_flat.specs.Listing.{IsLeftRow}
use Rattle.std.proofs.lemmas.Result.{err_from_is_err_and}
use Rattle.hg_flat.proofs.Going.{goes_store}
use Rattle.hg_flat.proofs.Tracking.{tracked_one}
use Rattle.hg_flat.proofs.letter.add_tracked.Goals as goal

pub returns-clause-row : goal.returns-clause-row
returns-clause-row g c = λ s store goes.
    tracked_one
    (IsLeftRow store c.args.wanted s.id (g.T.Tree.history c.find_letter.new.tree) (g.T.Tree.history c.args.tree.now).last (g.S.Shelf.history c.find_letter.new.shelf) s.shelf_old.last)
    store s.id (trees.now (g.T.Tree.history c.args.tree.now)) c.args.wanted c.args.kept.now c.in_ok-letter.letter c.args.rows.now.items c.put_wanted.new.rows.items
    (c.in_ok-letter.ensures.found s store goes) (c.in_ok-put_wanted.ensures c.args.kept.now (sym c.as_ref.ensures) (sym (ap (λ (p : EntryData × Option (List ℕ)). p.1) c.item_of.ensures)))

pub returns-in_err-put_wanted-clause-store : goal.returns-in_err-put_wanted-clause-store
returns-in_err-put_wanted-clause-store g c =
    let p = err_from_is_err_and c.from_residual-in_err-put_wanted.result c.from_residual-in_err-put_wanted.ensures.1 in
    rw p.1
    (λ s goes agrees told.
    goes_store s (g.T.Tree.history c.find_letter.new.tree) (g.S.Shelf.history c.find_letter.new.shelf) c.find_letter.new.parent (c.in_ok-letter.ensures.goes s goes agrees) told)

pub returns-in_err-letter-clause-reads : goal.returns-in_err-letter-clause-reads
returns-in_err-letter-clause-reads g c = c.find_letter.ensures.reads

pub returns-in_err-put_wanted-clause-reads : goal.returns-in_err-put_wanted-clause-reads
returns-in_err-put_wanted-clause-reads g c = c.find_letter.ensures.reads

pub returns-clause-reads : goal.returns-clause-reads
returns-clause-reads g c = c.find_letter.ensures.reads
