-- What a listing over a table, its printing and its telling do, from what their parts do.
use Rattle.std.proofs.Common.{ℕ, ◌≡◌, ◌<◌, ◌⊎◌, Bool, true, false, List, [], Option, Some, None, Result, Ok, Err, IfErr, IfOk, IsTrue, OnOk, refl, sym, ap, ◌∙◌, subst, inl, inr, arith, true≢false}
use Rattle.std.proofs.lemmas.List.{append-nil}
use Rattle.std.specs.Prelude.{MatchBool}
use Rattle.hg_compare.specs.Tracked.{ParentRow}
use Rattle.hg_entry.specs.Table.{Table}
use Rattle.hg_flat.specs.Met.{Met}
use Rattle.hg_flat.specs.Patterns.{CountsOversize, HadPatterns, Warns, is_of_parent}
use Rattle.hg_flat.specs.First.{MetFirst}
use Rattle.hg_flat.specs.Needed.{AsksNeeded}
use Rattle.hg_ignore.specs.Patterns.{WereRead}
use Rattle.hg_ignore.specs.declared.warnings.Warning.{Warning}
use Rattle.hg_listing.specs.declared.fault.StatusFault.{StatusFault}
use Rattle.hg_listing.specs.declared.fault.StatusFault.TheVariants as a_status
use Rattle.hg_listing.specs.declared.row.Row.{Row}
use Rattle.hg_listing.specs.declared.row.Wanted.{Wanted}
use Rattle.hg_report.specs.Cause.{of_status}
use Rattle.hg_report.specs.Fault.{has_line}
use Rattle.hg_report.specs.Status.{text_of}
use Rattle.hg_report.specs.Warnings.{warnings_text}
use Rattle.hg_report.specs.declared.fault.Fault.TheVariants as a_fault
use Rattle.hg_report.specs.declared.status.Style.{Style}
use Rattle.hg_shelf.specs.History as shelf
use Rattle.hg_stream.specs.Stream.{Grown, GrownByFront}
use Rattle.hg_tree.specs.History as tree
use Rattle.hg_tree.specs.Moment.{zero_time}
use Rattle.hg_session.specs.Call.{Fails, Looked, Sink}
use Rattle.hg_session.specs.Flags.{style_of, wanted_of}
use Rattle.hg_session.specs.Listed.{AsksOver, AsksOwn, AsksPlain, IsListedFor, IsServedFor, StatusCause, StatusMet, status_over}
use Rattle.hg_session.specs.Look.{at_first, at_printing, at_telling}
use Rattle.hg_session.specs.Put.{IsSilent, is_stream}
use Rattle.hg_session.specs.Status.{IsNotedBy, IsNotedByFor, IsRecordedFor, IsWorked, SaysRows}
use Rattle.hg_session.specs.Looking.{IsNotedFor, ShowsTable}
use Rattle.hg_session.specs.Told.{Told, errors_of}
use Rattle.hg_walk.specs.Notes.{AreEarned, NotesData}
use Rattle.hg_walk.specs.Walking.{AreNeeded, AreNoted, AreNotedBy, rows_in}
use Rattle.hg_walk.specs.declared.walked.Walked.{Walked}
use Rattle.hg_words.specs.declared.flags.StatusFlags.{StatusFlags}

-- what a walk noted path by path, from its start on
pub noted_at : (looked : Looked) (wanted : Wanted) (t : Table) (notes : NotesData) → shelf.Passes looked.shelf.old looked.shelf.new
    → AreNotedBy wanted t looked.tree.old looked.tree.new looked.shelf.new looked.shelf.old.last notes → IsNotedBy looked wanted t notes
noted_at looked wanted t notes files by = record {
  since = looked.shelf.old.last;
  from = omega arith;
  to = files.past.later;
  by = by;
}

-- warnings that were read say that the patterns were
pub had_patterns : (wanted : Wanted) (old new : tree.History) (warnings : List Warning) → Warns wanted old new warnings → HadPatterns wanted old new
had_patterns wanted old new warnings warns needs = (warnings, subst (λ (b : Bool). MatchBool b (WereRead old new warnings) (warnings ≡ [])) needs warns)

-- ---- nothing is noted

abbrev pub no_notes : NotesData
no_notes = record { clean = []; seen = []; gone = []; hash = None }

pub none_needed : (t : Table) → AreNeeded t no_notes
none_needed t = record { clean = λ note never. absurd (omega (arith, never.1)); seen = refl; gone = refl; hash = refl }

pub none_noted : (old new : tree.History) → AreNoted old new no_notes
none_noted old new = record {
  boundary = zero_time;
  clock = λ told note never. absurd (omega (arith, never.1));
  stamp = λ note never. absurd (omega (arith, never.1));
  shown = λ told note never. absurd (omega (arith, never.1));
  order = λ told note never. absurd (omega (arith, never.1));
}

pub none_earned : (rows : List ℕ → Option ParentRow) (t : Table) (h : tree.History) → AreEarned rows t h no_notes
none_earned rows t h = record { clean = λ note never. absurd (omega (arith, never.1)); seen = λ note never. absurd (omega (arith, never.1)); renewed = λ never. absurd (cc never) }

none_noted_for : (looked : Looked) (t : Table) → IsNotedFor looked t no_notes
none_noted_for looked t = record {
  needed = none_needed t;
  noted = none_noted looked.tree.old looked.tree.new;
  earned = λ store honest told keeps. none_earned (rows_in t store) t looked.tree.new;
}

-- ---- a walk over a table

-- what it answers and asks
pub record Walks (looked : Looked) (wanted : Wanted) (table : Table) (result : Result Walked StatusFault) : Type 0 where
  pub tree : tree.Passes looked.tree.old looked.tree.new
  pub still : IfOk result (λ walked. IsListedFor looked wanted walked.rows table)
  pub warns : IfOk result (λ walked. Warns wanted looked.tree.old looked.tree.new walked.warnings)
  pub worked : IfOk result (λ walked. IsWorked looked wanted table walked.notes)
  pub cause : IfErr result (StatusCause looked wanted table)
  pub asked : IsTrue looked.tree.old.told → AsksOver table wanted looked.tree
  pub store : IsTrue looked.shelf.old.told → AsksPlain looked wanted table looked.shelf.old looked.shelf.new
  pub reads : IsTrue looked.tree.old.told → AsksNeeded (status_over looked wanted table)
  pub calm_tree : OnOk result (looked.tree.after ≡ looked.tree.before)
  pub calm_shelf : OnOk result (looked.shelf.after ≡ looked.shelf.before)
  pub calm_regexps : OnOk result (looked.oversize.after ≡ looked.oversize.before)
  pub stayed : IfErr result (λ e. (e ≡ a_status.TreeFailed) ⊎ (looked.tree.after ≡ looked.tree.before))
  pub noted : IfOk result (λ walked. IsNotedFor looked table walked.notes)

module _ (looked : Looked) (wanted : Wanted) (table : Table) where
  -- a fault of the first parent was met behind patterns that were fine
  abbrev Behind : StatusFault → Type 0
  Behind fault = is_of_parent fault ≡ true → HadPatterns wanted looked.tree.old looked.tree.new

  met_here : (fault : StatusFault) → Behind fault → Met (status_over looked wanted table) fault → MetFirst (status_over looked wanted table) fault → StatusMet looked wanted table fault
  met_here fault patterns met first = record { behind = patterns; met = met; first = first }

  pub cause_of : (fault : StatusFault) → Behind fault → (fault ≡ a_status.TreeFailed → Fails looked.tree) → (fault ≡ a_status.ShelfFailed → Fails looked.shelf)
      → CountsOversize {T = Walked} looked.oversize.before looked.oversize.after (Err fault) → Met (status_over looked wanted table) fault → MetFirst (status_over looked wanted table) fault → StatusCause looked wanted table fault
  cause_of a_status.OutOfMemory patterns tree_failed shelf_failed counts met first = tt
  cause_of a_status.TreeFailed patterns tree_failed shelf_failed counts met first = tree_failed refl
  cause_of a_status.ShelfFailed patterns tree_failed shelf_failed counts met first = shelf_failed refl
  cause_of (a_status.RegexpTooBig line) patterns tree_failed shelf_failed counts met first = (met_here (a_status.RegexpTooBig line) patterns met first, counts.1)
  cause_of fault patterns tree_failed shelf_failed counts met first = met_here fault patterns met first

  module _ (copy : tree.Passes looked.tree.old looked.tree.new) (files : shelf.Passes looked.shelf.old looked.shelf.new) (asked : IsTrue looked.tree.old.told → AsksOver table wanted looked.tree)
      (store : IsTrue looked.shelf.old.told → AsksPlain looked wanted table looked.shelf.old looked.shelf.new) (reads : IsTrue looked.tree.old.told → AsksNeeded (status_over looked wanted table)) where
    pub walks_err : (fault : StatusFault) → StatusCause looked wanted table fault → (fault ≡ a_status.TreeFailed) ⊎ (looked.tree.after ≡ looked.tree.before) → Walks looked wanted table (Err fault)
    walks_err fault cause stayed = record {
      tree = copy;
      still = tt;
      warns = tt;
      worked = tt;
      cause = cause;
      asked = asked;
      store = store;
      reads = reads;
      calm_tree = tt;
      calm_shelf = tt;
      calm_regexps = tt;
      stayed = stayed;
      noted = tt;
    }

    pub walks_ok : (walked : Walked)
        → IsListedFor looked wanted walked.rows table → Warns wanted looked.tree.old looked.tree.new walked.warnings → IsServedFor looked wanted table → AsksOwn looked wanted table → looked.tree.after ≡ looked.tree.before → looked.shelf.after ≡ looked.shelf.before
        → looked.oversize.after ≡ looked.oversize.before → IsNotedFor looked table walked.notes → IsRecordedFor looked wanted table walked.notes → IsNotedByFor looked wanted table walked.notes
        → Walks looked wanted table (Ok walked)
    walks_ok walked still warns served asked_own calm_tree calm_shelf calm_regexps noted recorded noted_by = record {
      tree = copy;
      still = still;
      warns = warns;
      worked = record {
        listable = record { patterns = had_patterns wanted looked.tree.old looked.tree.new walked.warnings warns; served = served };
        asked_own = asked_own;
        recorded = recorded;
        noted_by = noted_by;
      };
      cause = tt;
      asked = asked;
      store = store;
      reads = reads;
      calm_tree = calm_tree;
      calm_shelf = calm_shelf;
      calm_regexps = calm_regexps;
      stayed = tt;
      noted = noted;
    }

pub walks_as : (looked : Looked) (flags : StatusFlags) (wanted : Wanted) (table : Table) (result : Result Walked StatusFault) → wanted ≡ wanted_of flags → Walks looked wanted table result
    → Walks looked (wanted_of flags) table result
walks_as looked flags wanted table result is walks = subst (λ (w : Wanted). Walks looked w table result) is walks

-- ---- the texts

-- a fault of a walk has a line
walk_told : (fault : StatusFault) → has_line (of_status fault) ≡ true
walk_told a_status.OutOfMemory = refl
walk_told fault = refl

-- nor is it one of a stream
no_stream : (fault : StatusFault) → is_stream (of_status fault) ≡ false
no_stream a_status.OutOfMemory = refl
no_stream a_status.TreeFailed = refl
no_stream a_status.ShelfFailed = refl
no_stream (a_status.NoManifest id) = refl
no_stream (a_status.ManifestTooLarge size) = refl
no_stream (a_status.ManifestLine line) = refl
no_stream (a_status.ManifestOrder line) = refl
no_stream (a_status.NoContents id) = refl
no_stream (a_status.IgnoreTooLarge size) = refl
no_stream (a_status.IgnoreText at) = refl
no_stream (a_status.BadGlob line) = refl
no_stream (a_status.BadRegexp line) = refl
no_stream (a_status.RegexpTooBig line) = refl
no_stream (a_status.BadInclude line) = refl

-- a count that stands didn't rise
pub never_rose : (before after : ℕ) → after ≡ before → before < after → ⊥
never_rose before after same rose = omega (arith, same, rose)

pub text_as : (rows : List Row) (text : List ℕ) (style : Style) (flags : StatusFlags) → style ≡ style_of flags → text ≡ text_of style rows → text ≡ text_of (style_of flags) rows
text_as rows text style flags is same = same ∙ ap (λ (s : Style). text_of s rows) is

-- ---- what is done over a table, exit by exit

module _ (flags : StatusFlags) (looked : Looked) (table : Table) (out err : Sink) where
  abbrev wanted : Wanted
  wanted = wanted_of flags

  pub met_walking : (fault : StatusFault) → Walks looked wanted table (Err fault) → IsSilent out → IsSilent err → ShowsTable flags looked table out err (Err (of_status fault))
  met_walking fault walks still silent = record {
    tree = walks.tree;
    notes = no_notes;
    noted = none_noted_for looked table;
    answered = tt;
    shows = record { done = tt; left = (at_first, ((fault, refl, walks.cause), still, record { told = walk_told fault; silent = silent })) };
    asked = walks.asked;
    store = walks.store;
    reads = walks.reads;
    calm = tt;
    streams = λ is. absurd (true≢false (sym is ∙ no_stream fault));
    tree_failed = λ rose. elim walks.stayed [
      | inl is ↦ ap (λ (f : StatusFault). Some (of_status f)) is
      | inr same ↦ absurd (never_rose looked.tree.before looked.tree.after same rose)
    ];
  }

  module _ (walked : Walked) (walks : Walks looked wanted table (Ok walked)) where
    -- there was no memory for a text
    pub met_memory : IsSilent out → IsSilent err → ShowsTable flags looked table out err (Err a_fault.OutOfMemory)
    met_memory still silent = record {
      tree = walks.tree;
      notes = no_notes;
      noted = none_noted_for looked table;
      answered = tt;
      shows = record { done = tt; left = (at_first, ((a_status.OutOfMemory, refl, tt), still, record { told = refl; silent = silent })) };
      asked = walks.asked;
      store = walks.store;
      reads = walks.reads;
      calm = tt;
      streams = λ is. absurd (true≢false (sym is));
      tree_failed = λ rose. absurd (never_rose looked.tree.before looked.tree.after walks.calm_tree rose);
    }

    module _ (text : List ℕ) (is : text ≡ text_of (style_of flags) walked.rows) where
      abbrev said : Told
      said = record { printed = text; warned = warnings_text walked.warnings; refused = [] }

      said_by : SaysRows flags looked (Some table) said
      said_by = record { rows = walked.rows; listing = walks.still; printed = is; warnings = walked.warnings; are = walks.warns; warned = refl; unrefused = refl }

      pub met_printing : GrownByFront out.old out.new text → Fails out → IsSilent err → ShowsTable flags looked table out err (Err a_fault.OutFailed)
      met_printing grown failed silent = record {
        tree = walks.tree;
        notes = walked.notes;
        noted = walks.noted;
        answered = tt;
        shows = record {
          done = tt;
          left = (
            at_printing,
            (
              tt,
              walks.worked,
              record { text = text; is = record { said = said; says = said_by; is = refl }; put = grown; failed = failed },
              inl refl,
              record { told = refl; silent = silent },
            ),
          );
        };
        asked = walks.asked;
        store = walks.store;
        reads = walks.reads;
        calm = tt;
        streams = λ is. walks.calm_shelf;
        tree_failed = λ rose. absurd (never_rose looked.tree.before looked.tree.after walks.calm_tree rose);
      }

      module _ (lines : List ℕ) (warns : lines ≡ warnings_text walked.warnings) (printed : Grown out.old out.new text) (calm_out : out.after ≡ out.before) where
        -- the warnings are all that is told
        all_errors : lines ≡ errors_of said
        all_errors = warns ∙ sym (append-nil (warnings_text walked.warnings))

        pub met_warning : GrownByFront err.old err.new lines → Fails err → ShowsTable flags looked table out err (Err a_fault.ErrFailed)
        met_warning begun failed = record {
          tree = walks.tree;
          notes = walked.notes;
          noted = walks.noted;
          answered = tt;
          shows = record {
            done = tt;
            left = (
              at_telling,
              (
                tt,
                walks.worked,
                record {
                  said = said;
                  says = said_by;
                  printed = record { text = text; is = refl; put = printed; calm = calm_out };
                  behind = record { text = lines; is = all_errors; put = begun; failed = failed };
                },
                refl,
              ),
            );
          };
          asked = walks.asked;
          store = walks.store;
          reads = walks.reads;
          calm = tt;
          streams = λ is. walks.calm_shelf;
          tree_failed = λ rose. absurd (never_rose looked.tree.before looked.tree.after walks.calm_tree rose);
        }

        pub did_show : Grown err.old err.new lines → err.after ≡ err.before → ShowsTable flags looked table out err (Ok walked.notes)
        did_show told calm_err = record {
          tree = walks.tree;
          notes = walked.notes;
          noted = walks.noted;
          answered = refl;
          shows = record {
            done = record {
              ready = walks.worked;
              said = said;
              says = said_by;
              printed = record { text = text; is = refl; put = printed; calm = calm_out };
              told = record { text = lines; is = all_errors; put = told; calm = calm_err };
            };
            left = tt;
          };
          asked = walks.asked;
          store = walks.store;
          reads = walks.reads;
          calm = record { tree = walks.calm_tree; shelf = walks.calm_shelf; regexps = walks.calm_regexps; out = calm_out; err = calm_err };
          streams = tt;
          tree_failed = λ rose. absurd (never_rose looked.tree.before looked.tree.after walks.calm_tree rose);
        }
