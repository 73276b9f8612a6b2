-- What is expected of a status where nobody else steps, from how it ended and what was listed.
use Rattle.std.proofs.Common.{ℕ, ◌≡◌, ◌≤◌, length, true, List, [], Option, Some, None, Ok, Err, IsTrue, IfSome, refl, sym, ◌∙◌, subst, inl, inr, arith}
use Rattle.std.proofs.lemmas.List.{append-nil}
use Rattle.std.specs.Prelude.{IsSomeAnd}
use Rattle.std.specs.Str.{IsUtf8, IsValidUpTo}
use Rattle.hg_base.proofs.Faults.{steady_not_rose}
use Rattle.hg_base.specs.declared.id.Id20.{Id20}
use Rattle.hg_base.specs.declared.stat.Stat.{Stat}
use Rattle.hg_compare.specs.Alike.{contents_name, is_alike}
use Rattle.hg_entry.specs.Table.{Table, flat_of}
use Rattle.hg_flat.specs.First.{LacksFirst}
use Rattle.hg_flat.specs.Met as flat_met
use Rattle.hg_flat.specs.Parent.{manifest_at}
use Rattle.hg_flat.specs.Patterns.{HadPatterns, ignored_at, needs_patterns}
use Rattle.hg_listing.specs.declared.fault.StatusFault.{StatusFault}
use Rattle.hg_listing.specs.declared.fault.StatusFault.TheVariants as a_status
use Rattle.hg_listing.specs.declared.row.Row.{Row}
use Rattle.hg_listing.specs.declared.row.Wanted.{Wanted}
use Rattle.hg_flat.proofs.Fullness.{full_of}
use Rattle.hg_ignore.specs.Line.{lines_of}
use Rattle.hg_ignore.specs.Patterns.{HasBadLine, HasBytes, HasFile, ReadSo, RefusesLines, RefusesPatterns, most_text}
use Rattle.hg_ignore.specs.State.{ignore_file}
use Rattle.hg_ignore.specs.Taking.{HasLineCause}
use Rattle.hg_ignore.specs.declared.fault.IgnoreFault.{IgnoreFault}
use Rattle.hg_ignore.specs.declared.fault.IgnoreFault.TheVariants as an_ignore
use Rattle.hg_manifest.specs.declared.fault.ManifestFault.{ManifestFault}
use Rattle.hg_manifest.specs.declared.fault.ManifestFault.TheVariants as a_manifest
use Rattle.hg_report.specs.Cause.{of_status}
use Rattle.hg_report.specs.declared.fault.Fault.{Fault}
use Rattle.hg_shelf.specs.History as shelf
use Rattle.hg_shelf.proofs.Histories as shelves
use Rattle.hg_stream.specs.Stream.{Grown, GrownByFront}
use Rattle.hg_tree.specs.History as tree
use Rattle.hg_tree.specs.Moment.{stat_at}
use Rattle.hg_tree.proofs.Spans.{ours_unstepped}
use Rattle.hg_tree.proofs.Stillness.{ours_untouched}
use Rattle.hg_save.specs.Record.{record_in}
use Rattle.hg_session.specs.Call.{Count, Looked, Saved, Serves, Sink}
use Rattle.hg_session.specs.Flags.{wanted_of}
use Rattle.hg_session.specs.Listed.{IsAskedAt, IsListed, IsListedFor, IsOwn, IsRightFor, IsUntouched, StatusCause, first_parent, status_over}
use Rattle.hg_session.specs.Load.{of_read}
use Rattle.hg_session.specs.Loaded.{IsLoaded, IsUnreadable}
use Rattle.hg_session.specs.Look.{LeavesAt, LeftBySaving, Look, Concludes, Order, Stage, at_first, at_printing, at_saving, at_telling, saves_first, saves_last}
use Rattle.hg_session.specs.Put.{LeavesFront, Puts, Tells}
use Rattle.hg_session.specs.Status.{HasBadManifest, HasBadPatterns, IsExpected, IsFullText, IsReady, IsWorked, LacksContents, ListingCause, SaysRows, status_look}
use Rattle.hg_session.specs.Told.{Told}
use Rattle.hg_session.specs.declared.read_fault.ReadFault.{ReadFault}
use Rattle.hg_session.specs.declared.read_fault.ReadFault.TheVariants as a_read
use Rattle.hg_session.proofs.Causes.{asked_now, gone_now, holds_now, large_now, read_now, shows_now}
use Rattle.hg_session.proofs.Readings as readings
use Rattle.hg_session.proofs.Refusals.{fine_now, over_now, so_now}
use Rattle.hg_session.proofs.Parents.{row_kept}
use Rattle.hg_walk.specs.Notes.{NotesData}
use Rattle.hg_walk.specs.Right.{AreRight}
use Rattle.hg_walk.specs.Walking.{rows_in}
use Rattle.hg_words.specs.declared.flags.StatusFlags.{StatusFlags}

-- ---- texts

-- the whole is a front of itself
pub grown_whole : (old new : Option (List ℕ)) (text : List ℕ) → Grown old new text → GrownByFront old new text
grown_whole old new text grown = ([], record { front = text; parts = sym (append-nil text); grown = grown })

-- what stands in a sink after a fault, as a front of a text
pub front_by : (Own : List ℕ → Type 0) (look : Look) → ((said : Told) → look.Says said → Own said.printed) → (out err : Sink) (fault : Fault) → (stage : Stage) × LeavesAt look out err Tells stage fault → LeavesFront Own out
front_by Own look own out err fault (at_first, (before, silent, line)) = inl silent.bytes
front_by Own look own out err fault (at_printing, (printing, ready, front, kind, line)) = inr (front.text, subst Own (sym front.is.is) (own front.is.said front.is.says), front.put)
front_by Own look own out err fault (at_telling, (telling, ready, all, kind)) =
    inr (all.printed.text, subst Own (sym all.printed.is) (own all.said all.says), grown_whole out.old out.new all.printed.text all.printed.put)
front_by Own look own out err fault (at_saving, (saving, left)) = by_order look.order left
  where
    by_order : (order : Order) → LeftBySaving order look out err Tells fault → LeavesFront Own out
    by_order saves_first (silent, line) = inl silent.bytes
    by_order saves_last (ready, all) = inr (all.printed.text, subst Own (sym all.printed.is) (own all.said all.says), grown_whole out.old out.new all.printed.text all.printed.put)

-- ---- where nobody else steps

module _ (looked : Looked) (copy : tree.Passes looked.tree.old looked.tree.new) (files : shelf.Passes looked.shelf.old looked.shelf.new) (own : IsOwn looked) where
  abbrev still_shelf : looked.shelf.new.last ≡ looked.shelf.old.last
  still_shelf = shelves.ours_unstepped looked.shelf.old looked.shelf.new files own.shelf

  abbrev still_tree : looked.tree.new.last ≡ looked.tree.old.last
  still_tree = ours_unstepped looked.tree.old looked.tree.new copy own.tree

  abbrev there : shelf.Files
  there = (shelf.now looked.shelf.old).files

  -- the table that was loaded stands there
  recorded_now : (table : Table) → IsLoaded looked.shelf table → record_in there there ≡ Some (Ok table)
  recorded_now table loaded = readings.read_now looked.shelf files.past still_shelf own.shelf.told table (loaded own.shelf.told)

  -- where times are right over the call, they are by the rows at its start
  right_now : (table : Table) → IsRightFor looked table → AreRight (rows_in table there) table looked.tree.old looked.tree.new
  right_now table right =
      subst (λ (f : shelf.Files). AreRight (rows_in table f) table looked.tree.old looked.tree.new) (files.past.stay looked.shelf.old.last (omega arith)).shown
      (right looked.shelf.old.last (omega arith) files.past.later)

  module _ (wanted : Wanted) where
    -- each path is left alone
    ours_left : (table : Table) (path : List ℕ) → IsUntouched there looked wanted table path
    ours_left table path = record {
      own = ours_untouched looked.tree.old looked.tree.new copy own.tree path;
      patterns = λ needs free. record {
        told = copy.past.told ∙ own.tree.told;
        file = (ours_untouched looked.tree.old looked.tree.new copy own.tree ignore_file).own;
      };
      row = λ is. row_kept looked.shelf.old looked.shelf.new (first_parent table) path files.past still_shelf own.shelf.told;
    }

    -- and the listing is the whole
    listed_own : (table : Table) → IsLoaded looked.shelf table → IsRightFor looked table → (rows : List Row) → IsListedFor looked wanted rows table → IsListed there (tree.now looked.tree.old) wanted rows
    listed_own table loaded right rows is = record {
      table = table;
      recorded = recorded_now table loaded;
      full =
          full_of (IsUntouched there looked wanted table) (flat_of table) (tree.now looked.tree.old) (rows_in table there) (ignored_at (tree.now looked.tree.old)) wanted rows
          (ours_left table) (is there (right_now table right));
    }

    abbrev Expects : Option Fault → Type 0
    Expects fault = IsExpected wanted there (tree.now looked.tree.old) fault

    ready_now : (table : Table) → IsLoaded looked.shelf table → HadPatterns wanted looked.tree.old looked.tree.new → IsReady wanted there (tree.now looked.tree.old) table
    ready_now table loaded had = record {
      recorded = recorded_now table loaded;
      patterns = fine_now looked.tree.old looked.tree.new copy own.tree wanted had;
    }

    abbrev over : Table → flat_met.Status
    over table = status_over looked wanted table

    bad_manifest : (table : Table) → IsLoaded looked.shelf table → HadPatterns wanted looked.tree.old looked.tree.new → flat_met.NeedsManifest (over table) → (fault : ManifestFault)
        → manifest_at there (first_parent table) ≡ Err fault → HasBadManifest wanted there (tree.now looked.tree.old) fault
    bad_manifest table loaded had needs fault is = record {
      table = table;
      ready = ready_now table loaded had;
      path = needs.path;
      asked = asked_now (over table) copy.past files.past still_tree still_shelf own.tree.told own.shelf.told needs.path needs.asked;
      is = is;
    }

    lacks_contents : (table : Table) → IsLoaded looked.shelf table → HadPatterns wanted looked.tree.old looked.tree.new → (gone : Id20) → LacksFirst (over table) gone
        → LacksContents wanted there (tree.now looked.tree.old) gone
    lacks_contents table loaded had gone first =
        let met = first.lacks in
        let alike = shows_now (over table) copy.past files.past still_tree still_shelf own.tree.told own.shelf.told
        (λ moment. IsAskedAt wanted table moment met.path × (stat : Stat) × (stat_at moment met.path ≡ Some stat) × IsTrue (is_alike met.row stat)) met.alike in record {
          table = table;
          ready = ready_now table loaded had;
          path = met.path;
          asked = alike.0;
          rows = met.rows;
          formed = read_now (over table) copy.past files.past still_tree still_shelf own.tree.told own.shelf.told (Ok met.rows) met.committed met.read;
          row = met.row;
          is = met.is;
          names = met.names;
          alike = (alike.1, alike.2, alike.3);
          absent = holds_now (over table) copy.past files.past still_tree still_shelf own.tree.told own.shelf.told (contents_name gone.0) (λ file. file ≡ None) met.absent;
          before = λ other earlier asked. let left = ours_left table other in first.before there other earlier (record { own = left.own; row = left.row }) asked;
        }

    bad_patterns : (table : Table) → IsLoaded looked.shelf table → needs_patterns wanted ≡ true → (fault : IgnoreFault) → RefusesPatterns (tree.now looked.tree.old) fault
        → HasBadPatterns wanted there (tree.now looked.tree.old) fault
    bad_patterns table loaded needs fault refused = record { needed = needs; table = table; recorded = recorded_now table loaded; refused = refused }

    -- the bytes that were read stand in the file
    read_so : (P : List ℕ → Type 0) → ReadSo looked.tree.old looked.tree.new HasFile P → HasBytes P (tree.now looked.tree.old)
    read_so P read = so_now looked.tree.old looked.tree.new copy own.tree HasFile P read

    lines_so : (fault : IgnoreFault) → HasBadLine looked.tree.old looked.tree.new fault → RefusesLines (tree.now looked.tree.old) fault
    lines_so fault bad = read_so (λ text. (length text ≤ most_text) × IsUtf8 text × HasLineCause (lines_of text) fault) bad

    -- a record that can't be read is as good an answer of a status
    reading_expected : (fault : ReadFault) → IsUnreadable there (of_read fault) → Expects (Some (of_read fault))
    reading_expected a_read.OutOfMemory is = tt
    reading_expected (a_read.Docket fault) is = is
    reading_expected (a_read.Node fault) is = is
    reading_expected (a_read.DataGone ids) is = is
    reading_expected a_read.Failed is = is

    status_expected : (table : Table) → IsLoaded looked.shelf table → (fault : StatusFault) → StatusCause looked wanted table fault → Serves looked.tree → Serves looked.shelf
        → Expects (Some (of_status fault))
    status_expected table loaded a_status.OutOfMemory cause p q = tt
    status_expected table loaded a_status.TreeFailed cause p q = absurd (steady_not_rose looked.tree.before looked.tree.after p cause)
    status_expected table loaded a_status.ShelfFailed cause p q = absurd (steady_not_rose looked.shelf.before looked.shelf.after q cause)
    status_expected table loaded (a_status.NoManifest gone) cause p q =
        bad_manifest table loaded (cause.behind refl) cause.met.0 (a_manifest.NoManifest gone)
        (gone_now (over table) copy.past files.past still_tree still_shelf own.tree.told own.shelf.told gone cause.met.0.committed cause.met.1 cause.met.2)
    status_expected table loaded (a_status.ManifestTooLarge size) cause p q =
        bad_manifest table loaded (cause.behind refl) cause.met.0 (a_manifest.ManifestTooLarge size)
        (large_now (over table) copy.past files.past still_tree still_shelf own.tree.told own.shelf.told size cause.met.0.committed cause.met.1 cause.met.2)
    status_expected table loaded (a_status.ManifestLine line) cause p q =
        bad_manifest table loaded (cause.behind refl) cause.met.0 (a_manifest.ManifestLine line)
        (read_now (over table) copy.past files.past still_tree still_shelf own.tree.told own.shelf.told (Err (a_manifest.ManifestLine line)) cause.met.0.committed cause.met.1)
    status_expected table loaded (a_status.ManifestOrder line) cause p q =
        bad_manifest table loaded (cause.behind refl) cause.met.0 (a_manifest.ManifestOrder line)
        (read_now (over table) copy.past files.past still_tree still_shelf own.tree.told own.shelf.told (Err (a_manifest.ManifestOrder line)) cause.met.0.committed cause.met.1)
    status_expected table loaded (a_status.NoContents gone) cause p q = lacks_contents table loaded (cause.behind refl) gone cause.first
    status_expected table loaded (a_status.IgnoreTooLarge size) cause p q =
        bad_patterns table loaded cause.met.0 (an_ignore.IgnoreTooLarge size) (over_now looked.tree.old looked.tree.new copy own.tree size cause.met.1)
    status_expected table loaded (a_status.IgnoreText at) cause p q =
        bad_patterns table loaded cause.met.0 (an_ignore.IgnoreText at) (read_so (λ text. (length text ≤ most_text) × IsValidUpTo text at) cause.met.1)
    status_expected table loaded (a_status.BadGlob line) cause p q = bad_patterns table loaded cause.met.0 (an_ignore.BadGlob line) (lines_so (an_ignore.BadGlob line) cause.met.1)
    status_expected table loaded (a_status.BadRegexp line) cause p q = bad_patterns table loaded cause.met.0 (an_ignore.BadRegexp line) (lines_so (an_ignore.BadRegexp line) cause.met.1)
    status_expected table loaded (a_status.RegexpTooBig line) cause p q =
        bad_patterns table loaded cause.0.met.0 (an_ignore.RegexpTooBig line) (lines_so (an_ignore.RegexpTooBig line) cause.0.met.1)
    status_expected table loaded (a_status.BadInclude line) cause p q = bad_patterns table loaded cause.met.0 (an_ignore.BadInclude line) (lines_so (an_ignore.BadInclude line) cause.met.1)

    some_expected : (table : Option Table) → IfSome table (IsLoaded looked.shelf) → (fault : StatusFault) → IsSomeAnd table (λ t. StatusCause looked wanted t fault) → Serves looked.tree → Serves looked.shelf
        → Expects (Some (of_status fault))
    some_expected None loaded fault cause p q = absurd cause
    some_expected (Some table) loaded fault cause p q = status_expected table loaded fault cause p q

    listing_expected : (table : Option Table) → IfSome table (IsLoaded looked.shelf) → (fault : Fault) → ListingCause looked wanted table fault → Serves looked.tree → Serves looked.shelf
        → Expects (Some fault)
    listing_expected table loaded fault (inl (f, is, cause)) p q =
        subst (λ (f : Fault). Expects (Some f)) (sym is) (reading_expected f (readings.unreadable_now looked.shelf files.past still_shelf own.shelf.told f cause q))
    listing_expected table loaded fault (inr (f, is, cause)) p q = subst (λ (f : Fault). Expects (Some f)) (sym is) (some_expected table loaded f cause p q)

    none_expected : (notes : NotesData) (table : Option Table) → IfSome table (IsLoaded looked.shelf) → IsSomeAnd table (λ t. IsWorked looked wanted t notes) → Expects None
    none_expected notes None loaded worked = absurd worked
    none_expected notes (Some table) loaded worked = record {
      table = table;
      ready = ready_now table loaded worked.listable.patterns;
      served = λ path asked. worked.listable.served there path (ours_left table path) asked;
    }

    rows_own : (table : Option Table) → IfSome table (IsLoaded looked.shelf) → IfSome table (IsRightFor looked) → (rows : List Row) → IsSomeAnd table (IsListedFor looked wanted rows)
        → IsListed there (tree.now looked.tree.old) wanted rows
    rows_own None loaded right rows is = absurd is
    rows_own (Some table) loaded right rows is = listed_own table loaded right rows is

  text_own : (flags : StatusFlags) (table : Option Table) → IfSome table (IsLoaded looked.shelf) → IfSome table (IsRightFor looked) → (said : Told) → SaysRows flags looked table said
      → IsFullText flags there (tree.now looked.tree.old) said.printed
  text_own flags table loaded right said is = record { rows = is.rows; listing = rows_own (wanted_of flags) table loaded right is.rows is.listing; is = is.printed }

-- ---- the command

module _ (flags : StatusFlags) (looked : Looked) (saved : Saved) (locks : Count) (out err : Sink) (notes : NotesData) (copy : tree.Passes looked.tree.old looked.tree.new) (files : shelf.Passes looked.shelf.old looked.shelf.new)
    (table : Option Table) (loaded : IfSome table (IsLoaded looked.shelf)) where
  abbrev Expected : Option Fault → Type 0
  Expected fault = IsExpected (wanted_of flags) (shelf.now looked.shelf.old).files (tree.now looked.tree.old) fault

  abbrev Full : List ℕ → Type 0
  Full = IsFullText flags (shelf.now looked.shelf.old).files (tree.now looked.tree.old)

  left_expected : IsOwn looked → (fault : Fault) → (stage : Stage) × LeavesAt (status_look flags looked saved locks table notes) out err Tells stage fault
      → Serves looked.tree → Serves looked.shelf → Serves out → Serves err → Expected (Some fault)
  left_expected own fault (at_first, ((only, why), silent, line)) p q r w = listing_expected looked copy files own (wanted_of flags) table loaded fault why p q
  left_expected own fault (at_printing, (printing, ready, front, kind, line)) p q r w = absurd (steady_not_rose out.before out.after r front.failed)
  left_expected own fault (at_telling, (telling, ready, all, is)) p q r w = absurd (steady_not_rose err.before err.after w all.behind.failed)
  left_expected own fault (at_saving, (inl (failed, is), left)) p q r w = absurd (steady_not_rose looked.shelf.before looked.shelf.after q failed)
  left_expected own fault (at_saving, (inr (is, none), left)) p q r w = subst (λ (f : Fault). Expected (Some f)) (sym is) tt

  pub expected_by : (fault : Option Fault) → Concludes (status_look flags looked saved locks table notes) out err fault
      → IsOwn looked → Serves looked.tree → Serves looked.shelf → Serves out → Serves err → Expected fault
  expected_by None looks own p q r w = none_expected looked copy files own (wanted_of flags) notes table loaded (looks.done refl).ready
  expected_by (Some fault) looks own p q r w = left_expected own fault looks.left p q r w

  pub whole_own : (fault : Option Fault) → Concludes (status_look flags looked saved locks table notes) out err fault → fault ≡ None → IsOwn looked → IfSome table (IsRightFor looked) → Puts Full out
  whole_own fault looks none own right =
      let shown = looks.done none in
      let printed = shown.printed in
      record { text = printed.text; is = subst Full (sym printed.is) (text_own looked copy files own flags table loaded right shown.said shown.says); put = printed.put; calm = printed.calm }

  pub front_own : (fault : Option Fault) → Concludes (status_look flags looked saved locks table notes) out err fault → IsOwn looked → IfSome table (IsRightFor looked) → IfSome fault (λ _. LeavesFront Full out)
  front_own None looks own right = tt
  front_own (Some fault) looks own right =
      front_by Full (status_look flags looked saved locks table notes) (text_own looked copy files own flags table loaded right) out err fault looks.left
