-- What a listing behind a load says of the call up to where it ended.
use Rattle.std.proofs.Common.{ℕ, List, [], ◌∷◌, Option, Some, IsTrue, refl, sym, ◌∙◌, inl, inr, arith}
use Rattle.std.proofs.lemmas.List.{append-nil}
use Rattle.hg_entry.specs.Table.{Table, flat_of}
use Rattle.hg_flat.specs.Patterns.{ignored_at}
use Rattle.hg_listing.specs.declared.fault.StatusFault.{StatusFault}
use Rattle.hg_listing.specs.declared.fault.StatusFault.TheVariants as a_status
use Rattle.hg_listing.specs.declared.row.Row.{Row}
use Rattle.hg_listing.specs.declared.row.Wanted.{Wanted}
use Rattle.hg_report.specs.declared.fault.Fault.{Fault}
use Rattle.hg_shelf.proofs.Histories.{extends_same, extends_trans}
use Rattle.hg_save.specs.Asked.{docket_ask}
use Rattle.hg_shelf.specs.Asks.{AsksFrontOf}
use Rattle.hg_shelf.specs.History as shelf
use Rattle.hg_shelf.specs.Polite.{StaysPlain}
use Rattle.hg_tree.specs.History as tree
use Rattle.hg_session.proofs.Causes.{first_longer, met_longer}
use Rattle.hg_session.proofs.Parents.{full_moved, left_behind, plain_later, row_later}
use Rattle.hg_session.specs.Call.{Count, Fails, Looked, Saved, Sink}
use Rattle.hg_session.specs.Flags.{wanted_of}
use Rattle.hg_session.specs.Listed.{AsksBelow, AsksLittle, AsksOver, AsksPlain, IsListable, IsListedFor, StatusCause, StatusMet, asking, first_parent}
use Rattle.hg_session.specs.Loaded.{AsksRecord}
use Rattle.hg_session.specs.Look.{IsShown, LeavesAt, OnlyReads, Stage, at_first, at_printing, at_saving, at_telling}
use Rattle.hg_session.specs.Looking.{IsUntold, listed_to, show_look}
use Rattle.hg_session.specs.Status.{IsWorked, SaysRows, status_look}
use Rattle.hg_session.specs.Told.{Told}
use Rattle.hg_walk.specs.Notes.{NotesData}
use Rattle.hg_walk.specs.Walking.{rows_in}
use Rattle.hg_words.specs.declared.flags.StatusFlags.{StatusFlags}

-- where the record alone was asked for
pub asks_load : (looked : Looked) (wanted : Wanted) (table : Option Table) → (IsTrue looked.shelf.old.told → AsksRecord looked.shelf.old looked.shelf.new) → IsTrue looked.shelf.old.told
    → AsksBelow looked wanted table
asks_load looked wanted table load told = record {
  behind = looked.shelf.new;
  past = extends_same looked.shelf.new;
  load = load told;
  listed = looked.shelf.new;
  later = extends_same looked.shelf.new;
  store = inl refl;
  saving = record { some = 0; made = sym (append-nil looked.shelf.new.asked) };
}

-- the part of a call behind a history of the files below `.hg`, at which their count of failures was this, up to one at which it was that
abbrev pub part_of : shelf.History → ℕ → ℕ → Looked → Looked
part_of behind before after looked = record looked { shelf = record { old = behind; new = looked.shelf.new; before = before; after = after } }

module _ (flags : StatusFlags) (looked : Looked) (behind : shelf.History) (n m : ℕ) (table : Table)
    (copy : tree.Passes looked.tree.old looked.tree.new) (before : shelf.Passes looked.shelf.old behind) (after : shelf.Passes behind looked.shelf.new) where
  abbrev wanted : Wanted
  wanted = wanted_of flags

  abbrev part : Looked
  part = part_of behind n m looked

  listed_for : (rows : List Row) → IsListedFor part wanted rows table → IsListedFor looked wanted rows table
  listed_for rows is store right =
      full_moved wanted table store looked.tree.old looked.tree.new looked.shelf.old behind looked.shelf.new before.past (flat_of table) (tree.now looked.tree.old) (rows_in table store) (ignored_at (tree.now looked.tree.old)) rows (is store right)

  listable_by : IsListable part wanted table → IsListable looked wanted table
  listable_by is = record {
    patterns = is.patterns;
    served = λ store path left. is.served store path (left_behind wanted table store looked.tree.old looked.tree.new looked.shelf.old behind looked.shelf.new before.past path left);
  }

  met_by : (fault : StatusFault) → StatusMet part wanted table fault → StatusMet looked wanted table fault
  met_by fault met = record {
    behind = met.behind;
    met = met_longer wanted (asking wanted table) (first_parent table) looked.tree.old looked.tree.new looked.shelf.old behind looked.shelf.new before.past fault met.met;
    first =
        first_longer wanted (asking wanted table) (first_parent table) looked.tree.old looked.tree.new looked.shelf.old behind looked.shelf.new before.past
        (λ path served store other earlier left asked.
        served store other earlier
        (record { own = left.own; row = λ is. row_later store looked.shelf.new looked.shelf.old.last behind.last (first_parent table) other before.past.later (left.row is) }) asked)
        fault met.first;
  }

  cause_by : (Fails part.shelf → Fails looked.shelf) → (fault : StatusFault) → StatusCause part wanted table fault → StatusCause looked wanted table fault
  cause_by failed a_status.OutOfMemory cause = tt
  cause_by failed a_status.TreeFailed cause = cause
  cause_by failed a_status.ShelfFailed cause = failed cause
  cause_by failed (a_status.RegexpTooBig line) cause = (met_by (a_status.RegexpTooBig line) cause.0, cause.1)
  cause_by failed fault cause = met_by fault cause

  says_by : (said : Told) → SaysRows flags part (Some table) said → SaysRows flags looked (Some table) said
  says_by said is = record { rows = is.rows; listing = listed_for is.rows is.listing; printed = is.printed; warnings = is.warnings; are = is.are; warned = is.warned; unrefused = is.unrefused }

  -- what the plain store is over the call it is behind the load
  pub plain_by : (store : shelf.Files) → StaysPlain store looked.shelf.new looked.shelf.old.last → StaysPlain store looked.shelf.new behind.last
  plain_by store keeps = plain_later store looked.shelf.new looked.shelf.old.last behind.last before.past.later keeps

  worked_by : (notes : NotesData) → IsWorked part wanted table notes → IsWorked looked wanted table notes
  worked_by notes is = record {
    listable = listable_by is.listable;
    asked_own = is.asked_own;
    recorded = λ store own keeps. is.recorded store own (plain_by store keeps);
    noted_by = λ wants. let by = is.noted_by wants in record { since = by.since; from = omega (arith, before.past.later, by.from); to = by.to; by = by.by };
  }

  module _ (saved : Saved) (locks : Count) (out err : Sink) (notes : NotesData) where
    pub shown_by : IsShown (show_look flags part table notes) out err → IsShown (status_look flags looked saved locks (Some table) notes) out err
    shown_by is = record { ready = worked_by notes is.ready; said = is.said; says = says_by is.said is.says; printed = is.printed; told = is.told }

    pub left_by : OnlyReads saved locks → (Fails part.shelf → Fails looked.shelf) → (fault : Fault) → (stage : Stage) × LeavesAt (show_look flags part table notes) out err IsUntold stage fault
        → (stage : Stage) × LeavesAt (status_look flags looked saved locks (Some table) notes) out err IsUntold stage fault
    left_by only failed fault (at_first, ((f, is, cause), silent, line)) = (at_first, ((only, inr (f, is, cause_by failed f cause)), silent, line))
    left_by only failed fault (at_printing, (printing, ready, front, kind, line)) = (
      at_printing,
      (
        only,
        worked_by notes ready,
        record { text = front.text; is = record { said = front.is.said; says = says_by front.is.said front.is.says; is = front.is.is }; put = front.put; failed = front.failed },
        kind,
        line,
      ),
    )
    left_by only failed fault (at_telling, (telling, ready, all, is)) =
        (at_telling, (only, worked_by notes ready, record { said = all.said; says = says_by all.said all.says; printed = all.printed; behind = all.behind }, is))
    left_by only failed fault (at_saving, (never, left)) = absurd never

  -- what was asked for below `.hg`, up to a history behind the listing
  pub asks_below : (new : shelf.History) → shelf.Extends looked.shelf.new new → (IsTrue looked.shelf.new.told → AsksFrontOf (docket_ask ∷ []) looked.shelf.new new) → (IsTrue looked.shelf.old.told → AsksRecord looked.shelf.old behind)
      → (IsTrue behind.told → AsksPlain looked wanted table behind looked.shelf.new) → IsTrue looked.shelf.old.told → AsksBelow (listed_to new looked) wanted (Some table)
  asks_below new past saving load store told = record {
    behind = behind;
    past = extends_trans behind looked.shelf.new new after.past past;
    load = load told;
    listed = looked.shelf.new;
    later = past;
    store = inr (store (before.past.told ∙ told));
    saving = saving (after.past.told ∙ before.past.told ∙ told);
  }

pub asks_little : (looked : Looked) (wanted : Wanted) (table : Table) → (IsTrue looked.tree.old.told → AsksOver table wanted looked.tree) → AsksLittle looked wanted (Some table)
asks_little looked _ table asks told = inr (asks told)
