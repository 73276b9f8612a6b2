-- What a listing did up to where it ended is so over the whole call, behind which times are saved.
use Rattle.std.proofs.Common.{ℕ, ◌≡◌, ◌≤◌, List, map, Option, Some, None, Result, Ok, Err, IsTrue, IfSome, refl, sym, ap, ◌∙◌, subst, inl, inr, arith}
use Rattle.std.specs.Prelude.{IsSomeAnd}
use Rattle.hg_base.specs.declared.id.Id20.{Id20}
use Rattle.hg_base.specs.declared.stat.Stat.{Stat}
use Rattle.hg_compare.specs.Alike.{contents_name, is_alike}
use Rattle.hg_compare.specs.Tracked.{ParentRow}
use Rattle.hg_entry.specs.Table.{Table}
use Rattle.hg_flat.specs.First.{AreServedBefore, LacksAt, MetFirst}
use Rattle.hg_flat.specs.Met.{LacksContents, Met, Shows, Status, WasRead}
use Rattle.hg_flat.proofs.Tracking.{row_earlier, stays_earlier}
use Rattle.hg_flat.specs.Parent.{IsAsked}
use Rattle.hg_listing.specs.declared.fault.StatusFault.{StatusFault}
use Rattle.hg_listing.specs.declared.fault.StatusFault.TheVariants as a_status
use Rattle.hg_listing.specs.declared.row.Row.{Row}
use Rattle.hg_listing.specs.declared.row.Wanted.{Wanted}
use Rattle.hg_manifest.specs.Load.{IsFrontOf, Was}
use Rattle.hg_manifest.specs.Plain.{plain_name}
use Rattle.hg_manifest.specs.Rows.{Rows}
use Rattle.hg_manifest.specs.declared.fault.ManifestFault.{ManifestFault}
use Rattle.hg_manifest.specs.declared.fault.ManifestFault.TheVariants as a_manifest
use Rattle.hg_report.specs.declared.fault.Fault.{Fault}
use Rattle.hg_save.proofs.Loads.{found_longer, tries_longer}
use Rattle.hg_save.specs.Loads.{Try, found_by, id_by}
use Rattle.hg_shelf.specs.History as shelf
use Rattle.hg_shelf.specs.History.{Extends, Files, History, IsOurs}
use Rattle.hg_shelf.specs.Polite.{KeepsPlain, StaysPlain}
use Rattle.hg_shelf.specs.Reads.{size_of}
use Rattle.hg_tree.specs.History as tree
use Rattle.hg_tree.specs.Moment.{Moment, stat_at}
use Rattle.hg_session.proofs.Parents.{rows_alike}
use Rattle.hg_session.proofs.Readings.{read_longer}
use Rattle.hg_session.proofs.Widening.{ids_longer}
use Rattle.hg_session.proofs.Locked.{unwritten}
use Rattle.hg_session.specs.Call.{Count, Looked, Saved, Sink}
use Rattle.hg_session.specs.Change.{up_to, IsLoadedFirst}
use Rattle.hg_session.specs.Flags.{wanted_of}
use Rattle.hg_session.specs.Listed.{IsListable, IsListedFor, IsOwn, IsRightFor, IsUntouched, StatusCause, StatusMet, status_over}
use Rattle.hg_session.specs.Loaded.{IsLoaded, IsRefused, LoadMet, MetReading}
use Rattle.hg_session.specs.Look.{Concludes, IsShown, LeavesAt, Stage, at_first, at_printing, at_saving, at_telling}
use Rattle.hg_session.specs.Put.{Tells}
use Rattle.hg_session.specs.Status.{ByLoadedFirst, IsWorked, ListingCause, SaysRows, status_look}
use Rattle.hg_session.specs.Looking.{ByLoaded, listed_to}
use Rattle.hg_session.specs.Told.{Told}
use Rattle.hg_session.specs.declared.read_fault.ReadFault.{ReadFault}
use Rattle.hg_session.specs.declared.read_fault.ReadFault.TheVariants as a_read
use Rattle.hg_walk.specs.Right.{AreRight}
use Rattle.hg_walk.specs.Notes.{NotesData}
use Rattle.hg_walk.specs.Walking.{AreNotedBy, first_id, rows_in}
use Rattle.hg_words.specs.declared.flags.StatusFlags.{StatusFlags}

-- ---- files that are a store's over a call are so over its first part

module _ (mid new : History) (later : Extends mid new) where
  pub plain_shorter : (store : Files) (from : ℕ) → StaysPlain store new from → StaysPlain store mid from
  plain_shorter store from keeps = record { told = sym later.told ∙ keeps.told; each = λ name plain. stays_earlier store mid new from name later (keeps.each name plain) }

  pub ours_shorter : (old : History) → IsOurs old new → IsOurs old mid
  ours_shorter old own = record { told = own.told; ours = λ k from to. sym (later.who k to) ∙ own.ours k from (omega (arith, to, later.later)) }

-- ---- where the plain store stays, what the first parent has of each path does

pub rows_stay : (table : Table) (h : History) (since k : ℕ) → since ≤ k → k ≤ h.last → KeepsPlain h since → rows_in table (h.at k).files ≡ rows_in table (h.at since).files
rows_stay table h since k from upto keeps = λ i path. rows_alike (h.at k).files (h.at since).files (first_id table) path (λ name plain. keeps.each name plain k from upto) i

-- where recorded times are right by the rows of the call's start and the plain store stays, they are right over the call
pub right_by_start : (looked : Looked) (table : Table) → Extends looked.shelf.old looked.shelf.new → KeepsPlain looked.shelf.new looked.shelf.old.last
    → AreRight (rows_in table (looked.shelf.old.at looked.shelf.old.last).files) table looked.tree.old looked.tree.new → IsRightFor looked table
right_by_start looked table past keeps right k from upto =
    subst (λ (rows : List ℕ → Option ParentRow). AreRight rows table looked.tree.old looked.tree.new)
    (ap (rows_in table) (sym (past.stay looked.shelf.old.last (omega arith)).shown) ∙ sym (rows_stay table looked.shelf.new looked.shelf.old.last k from upto keeps)) right

-- so they are where they are right by the rows of its end
pub right_by_end : (looked : Looked) (table : Table) → looked.shelf.old.last ≤ looked.shelf.new.last → KeepsPlain looked.shelf.new looked.shelf.old.last
    → AreRight (rows_in table (looked.shelf.new.at looked.shelf.new.last).files) table looked.tree.old looked.tree.new → IsRightFor looked table
right_by_end looked table order keeps right k from upto =
    subst (λ (rows : List ℕ → Option ParentRow). AreRight rows table looked.tree.old looked.tree.new)
    (rows_stay table looked.shelf.new looked.shelf.old.last looked.shelf.new.last order (omega arith) keeps ∙ sym (rows_stay table looked.shelf.new looked.shelf.old.last k from upto keeps)) right

-- ---- what was noted path by path

-- over a longer history of the files below `.hg`
module _ (wanted : Wanted) (table : Table) (notes : NotesData) (tree_old tree_new : tree.History) (end new : History) (later : Extends end new) (since : ℕ) where
  pub noted_later : AreNotedBy wanted table tree_old tree_new end since notes → AreNotedBy wanted table tree_old tree_new new since notes
  noted_later by = record {
    boundary = by.boundary;
    at = by.at;
    from = by.from;
    to = by.to;
    clock = by.clock;
    stamp = by.stamp;
    shown = by.shown;
    vouched = λ store told path entry stat left.
        by.vouched store told path entry stat
        (record { own = left.own; row = λ asked. row_earlier store end new since (first_id table) path later (left.row asked); patterns = left.patterns });
  }

-- ---- faults

module _ (wanted : Wanted) (table : Table) (looked : Looked) (end : History) (later : Extends end looked.shelf.new) where
  abbrev listed : Looked
  listed = listed_to end looked

  abbrev part : Status
  part = status_over listed wanted table

  abbrev whole : Status
  whole = status_over looked wanted table

  was_longer : (name : List ℕ) (P : Option (List ℕ) → Type 0) → Was looked.shelf.old end name P → Was looked.shelf.old looked.shelf.new name P
  was_longer name P was = record {
    at = was.at;
    during = λ told. let during = was.during told in record { from = during.from; to = omega (arith, during.to, later.later) };
    so = λ told. subst (λ (f : Files). P (f name)) (sym (later.stay was.at (was.during told).to).shown) (was.so told);
  }

  read_whole : (answer : Result Rows ManifestFault) → WasRead part answer → WasRead whole answer
  read_whole answer read = record {
    size = read.size;
    bytes = read.bytes;
    few = read.few;
    short = read.short;
    sized = was_longer (plain_name part.id.0) (λ file. size_of file ≡ Some read.size) read.sized;
    front = was_longer (plain_name part.id.0) (IsFrontOf read.size read.bytes) read.front;
    found = read.found;
  }

  shows_whole : (P : Moment → Type 0) → Shows part P → Shows whole P
  shows_whole P shows = record { at = shows.at; from = shows.from; to = shows.to; so = shows.so }

  lacks_whole : (gone : Id20) (lacks : LacksContents part gone) → LacksAt whole lacks.path gone
  lacks_whole gone lacks = (
    record {
      path = lacks.path;
      asked = lacks.asked;
      rows = lacks.rows;
      read = read_whole (Ok lacks.rows) lacks.read;
      row = lacks.row;
      is = lacks.is;
      names = lacks.names;
      alike = shows_whole (λ moment. IsAsked part.asks moment lacks.path × (stat : Stat) × (stat_at moment lacks.path ≡ Some stat) × IsTrue (is_alike lacks.row stat)) lacks.alike;
      absent = was_longer (contents_name gone.0) (λ file. file ≡ None) lacks.absent;
      committed = lacks.committed;
    },
    refl,
  )

  met_whole : (fault : StatusFault) → Met part fault → Met whole fault
  met_whole a_status.OutOfMemory met = tt
  met_whole a_status.TreeFailed met = tt
  met_whole a_status.ShelfFailed met = tt
  met_whole (a_status.NoManifest gone) met =
      (record { path = met.0.path; asked = met.0.asked; committed = met.0.committed }, met.1, was_longer (plain_name part.id.0) (λ file. file ≡ None) met.2)
  met_whole (a_status.ManifestTooLarge size) met =
      (record { path = met.0.path; asked = met.0.asked; committed = met.0.committed }, met.1, was_longer (plain_name part.id.0) (λ file. size_of file ≡ Some size) met.2)
  met_whole (a_status.ManifestLine line) met =
      (record { path = met.0.path; asked = met.0.asked; committed = met.0.committed }, read_whole (Err (a_manifest.ManifestLine line)) met.1)
  met_whole (a_status.ManifestOrder line) met =
      (record { path = met.0.path; asked = met.0.asked; committed = met.0.committed }, read_whole (Err (a_manifest.ManifestOrder line)) met.1)
  met_whole (a_status.NoContents gone) met = (lacks_whole gone met).0
  met_whole (a_status.IgnoreTooLarge size) met = met
  met_whole (a_status.IgnoreText at) met = met
  met_whole (a_status.BadGlob line) met = met
  met_whole (a_status.BadRegexp line) met = met
  met_whole (a_status.RegexpTooBig line) met = met
  met_whole (a_status.BadInclude line) met = met

  before_whole : (path : List ℕ) → AreServedBefore part path → AreServedBefore whole path
  before_whole path served store other earlier left asked =
      served store other earlier (record { own = left.own; row = λ is. row_earlier store end looked.shelf.new looked.shelf.old.last part.id other later (left.row is) }) asked

  met_first : (fault : StatusFault) → MetFirst part fault → MetFirst whole fault
  met_first a_status.OutOfMemory met = tt
  met_first a_status.TreeFailed met = tt
  met_first a_status.ShelfFailed met = tt
  met_first (a_status.NoManifest gone) met = tt
  met_first (a_status.ManifestTooLarge size) met = tt
  met_first (a_status.ManifestLine line) met = tt
  met_first (a_status.ManifestOrder line) met = tt
  met_first (a_status.NoContents gone) met = let at = lacks_whole gone met.lacks in record { lacks = at.0; before = subst (AreServedBefore whole) (sym at.1) (before_whole met.lacks.path met.before) }
  met_first (a_status.IgnoreTooLarge size) met = tt
  met_first (a_status.IgnoreText at) met = tt
  met_first (a_status.BadGlob line) met = tt
  met_first (a_status.BadRegexp line) met = tt
  met_first (a_status.RegexpTooBig line) met = tt
  met_first (a_status.BadInclude line) met = tt

  status_whole : (fault : StatusFault) → StatusMet listed wanted table fault → StatusMet looked wanted table fault
  status_whole fault met = record { behind = met.behind; met = met_whole fault met.met; first = met_first fault met.first }

  cause_whole : (fault : StatusFault) → StatusCause listed wanted table fault → StatusCause looked wanted table fault
  cause_whole a_status.OutOfMemory cause = tt
  cause_whole a_status.TreeFailed cause = cause
  cause_whole a_status.ShelfFailed cause = cause
  cause_whole (a_status.RegexpTooBig line) cause = (status_whole (a_status.RegexpTooBig line) cause.0, cause.1)
  cause_whole fault cause = status_whole fault cause

  -- ---- the rows

  right_listed : IsRightFor looked table → IsRightFor listed table
  right_listed right k from upto =
      subst (λ (f : Files). AreRight (rows_in table f) table looked.tree.old looked.tree.new) (later.stay k upto).shown (right k from (omega (arith, upto, later.later)))

  module _ (first : Extends looked.shelf.old end) where
    untouched_listed : (store : Files) (path : List ℕ) → IsUntouched store looked wanted table path → IsUntouched store listed wanted table path
    untouched_listed store path left = record {
      own = left.own;
      row = λ asked. row_earlier store end looked.shelf.new looked.shelf.old.last part.id path later (left.row asked);
      patterns = left.patterns;
    }

    listed_whole : (rows : List Row) → IsListedFor listed wanted rows table → IsListedFor looked wanted rows table
    listed_whole rows is store right =
        let full = is store right in
        record {
          sound = λ row has left. full.sound row has (untouched_listed store row.path left);
          all = λ row left. full.all row (untouched_listed store row.path left);
          once = full.once;
          ascending = full.ascending;
        }

    listable_whole : IsListable listed wanted table → IsListable looked wanted table
    listable_whole is = record { patterns = is.patterns; served = λ store path left. is.served store path (untouched_listed store path left) }

-- ---- all of it

module _ (flags : StatusFlags) (looked : Looked) (saved : Saved) (locks : Count) (table : Option Table) (end : History) (first : Extends looked.shelf.old end) (later : Extends end looked.shelf.new) where
  -- what was read up to where the listing ended was read before the caller made a step
  abbrev first_whole : shelf.Passes looked.shelf.old end → (t : Table) → IsLoaded (listed_to end looked).shelf t → IsLoadedFirst looked.shelf t
  first_whole passes t is told = record {
    upto = end.last;
    later = first.later;
    within = later.later;
    none = λ k from to us. (unwritten looked.shelf.old end passes).none k from to (sym (later.who k to) ∙ us);
    read = read_longer looked.shelf.old end (up_to end.last looked.shelf.new) t (record { told = later.told; later = omega arith; who = later.who; stay = later.stay }) (is told);
  }

  abbrev first_some : shelf.Passes looked.shelf.old end → (o : Option Table) → IfSome o (IsLoaded (listed_to end looked).shelf) → IfSome o (IsLoadedFirst looked.shelf)
  first_some passes None is = tt
  first_some passes (Some t) is = first_whole passes t is

  abbrev pub loaded_whole : shelf.Passes looked.shelf.old end → IfSome table (IsLoaded (listed_to end looked).shelf) → IfSome table (IsLoadedFirst looked.shelf)
  loaded_whole passes = first_some passes table

  -- by the same try
  pub own_whole : (passes : shelf.Passes looked.shelf.old end) (loaded : IfSome table (IsLoaded (listed_to end looked).shelf)) (tried : Try) → ByLoaded (listed_to end looked).shelf table loaded tried
      → ByLoadedFirst looked.shelf table (loaded_whole passes loaded) tried
  own_whole passes = by_table table
    where
      by_table : (o : Option Table) (loaded : IfSome o (IsLoaded (listed_to end looked).shelf)) (tried : Try) → ByLoaded (listed_to end looked).shelf o loaded tried
          → ByLoadedFirst looked.shelf o (first_some passes o loaded) tried
      by_table None loaded tried never = absurd never
      by_table (Some t) loaded tried same = same

  refused_whole : (fault : ReadFault) → LoadMet fault (listed_to end looked).shelf → LoadMet fault looked.shelf
  refused_whole fault met told =
      let m = met told in
      let tries = m.0 in
      let is = m.1 in (
        tries,
        record {
          tried = tries_longer looked.shelf.old end looked.shelf.new tries later is.tried;
          answer =
              subst (λ (ids : List (List ℕ)). IsRefused fault ids (found_by looked.shelf.new is.tried.last)) (sym (ids_longer looked.shelf.old end looked.shelf.new tries later is.tried.within))
              (subst (IsRefused fault (map (id_by end) tries)) (sym (found_longer looked.shelf.old end looked.shelf.new tries later is.tried)) is.answer);
        },
      )

  reading_whole : (fault : ReadFault) → MetReading (listed_to end looked).shelf fault → MetReading looked.shelf fault
  reading_whole a_read.OutOfMemory met = tt
  reading_whole (a_read.Docket fault) met = refused_whole (a_read.Docket fault) met
  reading_whole (a_read.Node fault) met = refused_whole (a_read.Node fault) met
  reading_whole (a_read.DataGone ids) met = refused_whole (a_read.DataGone ids) met
  reading_whole a_read.Failed met = met

  some_whole : {P Q : Table → Type 0} → ((t : Table) → P t → Q t) → (o : Option Table) → IsSomeAnd o P → IsSomeAnd o Q
  some_whole each None is = absurd is
  some_whole each (Some t) is = each t is

  why_whole : (fault : Fault) → ListingCause (listed_to end looked) (wanted_of flags) table fault → ListingCause looked (wanted_of flags) table fault
  why_whole fault (inl (f, is, met)) = inl (f, is, reading_whole f met)
  why_whole fault (inr (f, is, cause)) = inr (f, is, some_whole (λ t. cause_whole (wanted_of flags) t looked end later f) table cause)

  says_whole : (said : Told) → SaysRows flags (listed_to end looked) table said → SaysRows flags looked table said
  says_whole said is = record {
    rows = is.rows;
    listing = some_whole (λ t. listed_whole (wanted_of flags) t looked end later first is.rows) table is.listing;
    printed = is.printed;
    warnings = is.warnings;
    are = is.are;
    warned = is.warned;
    unrefused = is.unrefused;
  }

  worked_whole : (notes : NotesData) (t : Table) → IsWorked (listed_to end looked) (wanted_of flags) t notes → IsWorked looked (wanted_of flags) t notes
  worked_whole notes t is = record {
    listable = listable_whole (wanted_of flags) t looked end later first is.listable;
    asked_own = is.asked_own;
    recorded = λ store own keeps. is.recorded store own (plain_shorter end looked.shelf.new later store looked.shelf.old.last keeps);
    noted_by = λ wants.
        let by = is.noted_by wants in
        record {
          since = by.since;
          from = by.from;
          to = omega (arith, by.to, later.later);
          by = noted_later (wanted_of flags) t notes looked.tree.old looked.tree.new end looked.shelf.new later by.since by.by;
        };
  }

  module _ (out err : Sink) (notes : NotesData) where
    ready_whole : IsSomeAnd table (λ t. IsWorked (listed_to end looked) (wanted_of flags) t notes) → IsSomeAnd table (λ t. IsWorked looked (wanted_of flags) t notes)
    ready_whole = some_whole (worked_whole notes) table

    left_whole : (fault : Fault) → (stage : Stage) × LeavesAt (status_look flags (listed_to end looked) saved locks table notes) out err Tells stage fault
        → (stage : Stage) × LeavesAt (status_look flags looked saved locks table notes) out err Tells stage fault
    left_whole fault (at_first, ((only, why), silent, line)) = (at_first, ((only, why_whole fault why), silent, line))
    left_whole fault (at_printing, (only, ready, front, kind, line)) = (
      at_printing,
      (
        only,
        ready_whole ready,
        record { text = front.text; is = record { said = front.is.said; says = says_whole front.is.said front.is.says; is = front.is.is }; put = front.put; failed = front.failed },
        kind,
        line,
      ),
    )
    left_whole fault (at_telling, (only, ready, all, is)) = (at_telling, (only, ready_whole ready, record { said = all.said; says = says_whole all.said all.says; printed = all.printed; behind = all.behind }, is))
    left_whole fault (at_saving, (saving, (ready, all))) = (at_saving, (saving, (ready_whole ready, record { said = all.said; says = says_whole all.said all.says; printed = all.printed; behind = all.behind })))

    shown_whole : IsShown (status_look flags (listed_to end looked) saved locks table notes) out err → IsShown (status_look flags looked saved locks table notes) out err
    shown_whole is = record { ready = ready_whole is.ready; said = is.said; says = says_whole is.said is.says; printed = is.printed; told = is.told }

    pub concludes_whole : (fault : Option Fault) → Concludes (status_look flags (listed_to end looked) saved locks table notes) out err fault → Concludes (status_look flags looked saved locks table notes) out err fault
    concludes_whole None is = record { done = λ none. shown_whole (is.done none); left = tt }
    concludes_whole (Some fault) is = record { done = λ none. absurd (cc none); left = left_whole fault is.left }

pub own_listed : (looked : Looked) (end : History) → Extends end looked.shelf.new → IsOwn looked → IsOwn (listed_to end looked)
own_listed looked end later own = record { tree = own.tree; shelf = ours_shorter end looked.shelf.new later looked.shelf.old own.shelf }

pub right_some : (looked : Looked) (end : History) → Extends end looked.shelf.new → (wanted : Wanted) (table : Option Table) → IfSome table (IsRightFor looked) → IfSome table (IsRightFor (listed_to end looked))
right_some looked end later wanted None right = tt
right_some looked end later wanted (Some t) right = right_listed wanted t looked end later right
