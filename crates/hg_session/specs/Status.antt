-- What a status prints, tells and answers.
use Rattle.std.specs.Prelude.{ℕ, ◌≡◌, ◌≤◌, ◌⊎◌, true, List, [], Option, Some, None, Ok, Err, IfSome, IsSomeAnd, IsTrue}
use Rattle.hg_base.specs.Fault.{Rose}
use Rattle.hg_base.specs.declared.id.Id20.{Id20}
use Rattle.hg_base.specs.declared.stat.Stat.{Stat}
use Rattle.hg_compare.specs.Alike.{contents_name, is_alike}
use Rattle.hg_entry.specs.Table.{Table}
use Rattle.hg_flat.specs.First.{IsBefore}
use Rattle.hg_flat.specs.Listing.{wants_bytes}
use Rattle.hg_flat.specs.Parent.{IsServed, manifest_at, row_of}
use Rattle.hg_flat.specs.Patterns.{Warns, needs_patterns}
use Rattle.hg_listing.specs.declared.fault.StatusFault.{StatusFault}
use Rattle.hg_listing.specs.declared.row.Row.{Row}
use Rattle.hg_listing.specs.declared.row.Wanted.{Wanted}
use Rattle.hg_ignore.specs.Patterns.{AreFine, RefusesPatterns}
use Rattle.hg_ignore.specs.State.{Ignore}
use Rattle.hg_ignore.specs.declared.fault.IgnoreFault.{IgnoreFault}
use Rattle.hg_ignore.specs.declared.fault.IgnoreFault.TheVariants as an_ignore_fault
use Rattle.hg_ignore.specs.declared.warnings.Warning.{Warning}
use Rattle.hg_manifest.specs.Rows.{Rows}
use Rattle.hg_manifest.specs.declared.fault.ManifestFault.{ManifestFault}
use Rattle.hg_manifest.specs.declared.fault.ManifestFault.TheVariants as a_manifest_fault
use Rattle.hg_manifest.specs.declared.row.FileRow.{FileRow}
use Rattle.hg_report.specs.Cause.{of_status}
use Rattle.hg_report.specs.Status.{text_of}
use Rattle.hg_report.specs.Warnings.{warnings_text}
use Rattle.hg_report.specs.declared.fault.Fault.{Fault}
use Rattle.hg_report.specs.declared.fault.Fault.TheVariants as a_fault
use Rattle.hg_save.specs.Loads.{Try}
use Rattle.hg_save.specs.Others.{KeepsRecords}
use Rattle.hg_save.specs.Record.{record_in}
use Rattle.hg_session.specs.Acts.{Makes, makes_nothing}
use Rattle.hg_session.specs.Call.{Call, Count, Fails, Looked, Saved, Serves, Watched}
use Rattle.hg_session.specs.Change.{IsLoadedFirst, IsSafe, IsUnwritten}
use Rattle.hg_session.specs.Flags.{style_of, wanted_of}
use Rattle.hg_session.specs.Listed.{AsksBelow, AsksLittle, AsksOwn, IsAskedAt, IsListable, IsListed, IsListedFor, IsOwn, IsRightFor, ReadsLittle, StatusCause, first_parent}
use Rattle.hg_session.specs.Load.{of_read}
use Rattle.hg_session.specs.Loaded.{IsUnreadable, MetReading}
use Rattle.hg_session.specs.Look.{Look, Concludes, OnlyReads, saves_last}
use Rattle.hg_session.specs.Put.{IsFaultOrMemory, LeavesFront, Puts}
use Rattle.hg_session.specs.Told.{Told, status_of}
use Rattle.hg_session.specs.Saving.{IsLockedToSave, IsNotedHeld, LastsNoted, noted_makes}
use Rattle.hg_session.specs.declared.read_fault.ReadFault.{ReadFault}
use Rattle.hg_shelf.specs.History as shelf
use Rattle.hg_shelf.specs.Polite.{StaysPlain, Undisturbed}
use Rattle.hg_tree.specs.History as tree
use Rattle.hg_tree.specs.Honest.{IsHonest}
use Rattle.hg_tree.specs.Moment.{Moment, stat_at}
use Rattle.hg_walk.specs.Applying.{IsBlank}
use Rattle.hg_walk.specs.Notes.{AreEarned, NotesData, applied}
use Rattle.hg_walk.specs.Walking.{AreNeeded, AreNoted, AreNotedBy, IsRecorded, rows_in}
use Rattle.hg_words.specs.declared.flags.StatusFlags.{StatusFlags}

-- ---- what is noted of times, and saved

-- whatever others do in the working copy, each time that was noted was seen with what it stands for by each store whose bytes the files of the plain store have
-- wherever they are there, where times are honest
abbrev pub AreEarnedFor : Looked → Table → NotesData → Type 0
AreEarnedFor looked table notes =
    (store : shelf.Files) → IsHonest looked.tree.new → IsTrue looked.tree.old.told → StaysPlain store looked.shelf.new looked.shelf.old.last
    → AreEarned (rows_in table store) table looked.tree.new notes

-- where nobody else touches the working copy, all was noted that a second status needs to read no clean file again, by each such store
abbrev pub IsRecordedFor : Looked → Wanted → Table → NotesData → Type 0
IsRecordedFor looked wanted table notes =
    (store : shelf.Files) → tree.IsOurs looked.tree.old looked.tree.new → StaysPlain store looked.shelf.new looked.shelf.old.last
    → IsRecorded wanted (rows_in table store) table (tree.now looked.tree.old) (applied notes table)

-- whoever else steps, behind the notes the record vouches for each path that is left alone, what the first parent has of it being a store's from a moment of
-- the call on, that is clean at the start and has a time that may be recorded by one time that the clock showed in the call
pub record IsNotedBy (looked : Looked) (wanted : Wanted) (table : Table) (notes : NotesData) : Type 0 where
  pub since : ℕ
  pub from : looked.shelf.old.last ≤ since
  pub to : since ≤ looked.shelf.new.last
  pub by : AreNotedBy wanted table looked.tree.old looked.tree.new looked.shelf.new since notes

-- so it is where bytes decide letters that are wanted
abbrev pub IsNotedByFor : Looked → Wanted → Table → NotesData → Type 0
IsNotedByFor looked wanted table notes = wants_bytes wanted ≡ true → IsNotedBy looked wanted table notes

-- what a listing over a table came to once it met no fault: the patterns were read and what was compared was there; where nobody else steps, the patterns were
-- read exactly where they are needed and stand there; and all was noted that a second status needs, path by path whoever else steps
pub record IsWorked (looked : Looked) (wanted : Wanted) (table : Table) (notes : NotesData) : Type 0 where
  pub listable : IsListable looked wanted table
  pub asked_own : AsksOwn looked wanted table
  pub recorded : IsRecordedFor looked wanted table notes
  pub noted_by : IsNotedByFor looked wanted table notes

-- ---- what is printed

-- rows are printed that are the full listing for paths that are left alone, by the table that was read; what the listing warns of is told, and no word refused
pub record SaysRows (flags : StatusFlags) (looked : Looked) (table : Option Table) (said : Told) : Type 0 where
  pub rows : List Row
  pub listing : IsSomeAnd table (IsListedFor looked (wanted_of flags) rows)
  pub printed : said.printed ≡ text_of (style_of flags) rows
  pub warnings : List Warning
  pub are : Warns (wanted_of flags) looked.tree.old looked.tree.new warnings
  pub warned : said.warned ≡ warnings_text warnings
  pub unrefused : said.refused ≡ []

-- the text of the full listing that these flags ask for
pub record IsFullText (flags : StatusFlags) (files : shelf.Files) (moment : Moment) (text : List ℕ) : Type 0 where
  pub rows : List Row
  pub listing : IsListed files moment (wanted_of flags) rows
  pub is : text ≡ text_of (style_of flags) rows

-- two texts of the full listing of the same by the same flags are equal, so that one may speak of its text
abbrev pub OneText : Type 0
OneText = (flags : StatusFlags) (files : shelf.Files) (moment : Moment) (a b : List ℕ) → IsFullText flags files moment a → IsFullText flags files moment b → a ≡ b

-- why there is no listing, as a command tells it: the record wasn't read, or what the listing over the table met that was. Want of memory needs no reason
abbrev pub ListingCause : Looked → Wanted → Option Table → Fault → Type 0
ListingCause looked wanted table fault =
    ((f : ReadFault) × (fault ≡ of_read f) × MetReading looked.shelf f) ⊎ ((f : StatusFault) × (fault ≡ of_status f) × IsSomeAnd table (λ t. StatusCause looked wanted t f))

-- why saving met a fault: the shelf failed, for whose line there may be no memory, or there was none and nothing was written
abbrev pub MetSaving : Watched shelf.History → Saved → Fault → Type 0
MetSaving files saved fault =
    (Fails files × IsFaultOrMemory (Some fault) a_fault.ShelfFailed) ⊎ ((fault ≡ a_fault.OutOfMemory) × IsUnwritten saved.old.history saved.new.history)

-- a status lists by the table that was read, where one was, prints the rows, then tells the warnings, and saves the times that it noted last: where it meets
-- a fault before that, it has only asked below `.hg`, and called for no lock; once it listed, what that came to holds whatever it meets behind it
abbrev pub status_look : StatusFlags → Looked → Saved → Count → Option Table → NotesData → Look
status_look flags looked saved locks table notes = record {
  Before = λ fault. OnlyReads saved locks × ListingCause looked (wanted_of flags) table fault;
  Ready = IsSomeAnd table (λ t. IsWorked looked (wanted_of flags) t notes);
  Says = SaysRows flags looked table;
  Printing = OnlyReads saved locks;
  Telling = OnlyReads saved locks;
  Saving = MetSaving looked.shelf saved;
  order = saves_last;
}

-- ---- what has to be answered

-- the files record a table, and nothing is wrong with the ignore patterns where they are needed
pub record IsReady (wanted : Wanted) (files : shelf.Files) (moment : Moment) (table : Table) : Type 0 where
  pub recorded : record_in files files ≡ Some (Ok table)
  pub patterns : needs_patterns wanted ≡ true → AreFine (Ignore moment)

-- a status finds all that it asks for: the manifest where a path is compared, and the contents of each such path
pub record FindsAll (wanted : Wanted) (files : shelf.Files) (moment : Moment) : Type 0 where
  pub table : Table
  pub ready : IsReady wanted files moment table
  pub served : (path : List ℕ) → IsAskedAt wanted table moment path → IsServed files (first_parent table) moment path

-- a path is compared, and the manifest of the first parent has this fault
pub record HasBadManifest (wanted : Wanted) (files : shelf.Files) (moment : Moment) (fault : ManifestFault) : Type 0 where
  pub table : Table
  pub ready : IsReady wanted files moment table
  pub path : List ℕ
  pub asked : IsAskedAt wanted table moment path
  pub is : manifest_at files (first_parent table) ≡ Err fault

-- a path is compared whose row in the manifest names contents that aren't there, and a thing of the row's kind and executable bit stands there; each path before
-- it that is compared has its own
pub record LacksContents (wanted : Wanted) (files : shelf.Files) (moment : Moment) (gone : Id20) : Type 0 where
  pub table : Table
  pub ready : IsReady wanted files moment table
  pub path : List ℕ
  pub asked : IsAskedAt wanted table moment path
  pub rows : Rows
  pub formed : manifest_at files (first_parent table) ≡ Ok rows
  pub row : FileRow
  pub is : row_of rows path ≡ Some row
  pub names : row.id ≡ gone
  pub alike : (stat : Stat) × (stat_at moment path ≡ Some stat) × IsTrue (is_alike row stat)
  pub absent : files (contents_name gone.0) ≡ None
  pub before : (other : List ℕ) → IsBefore other path → IsAskedAt wanted table moment other → IsServed files (first_parent table) moment other

-- the ignore patterns are needed, the files record a table, and the patterns are refused so
pub record HasBadPatterns (wanted : Wanted) (files : shelf.Files) (moment : Moment) (fault : IgnoreFault) : Type 0 where
  pub needed : needs_patterns wanted ≡ true
  pub table : Table
  pub recorded : record_in files files ≡ Some (Ok table)
  pub refused : RefusesPatterns moment fault

-- the answer where the files and the working copy stand so, nobody else steps and no device fails; want of memory may come at any time
abbrev pub IsExpected : Wanted → shelf.Files → Moment → Option Fault → Type 0
IsExpected wanted files moment None = FindsAll wanted files moment
IsExpected wanted files moment (Some (a_fault.NoManifest id)) = HasBadManifest wanted files moment (a_manifest_fault.NoManifest id)
IsExpected wanted files moment (Some (a_fault.ManifestTooLarge size)) = HasBadManifest wanted files moment (a_manifest_fault.ManifestTooLarge size)
IsExpected wanted files moment (Some (a_fault.ManifestLine line)) = HasBadManifest wanted files moment (a_manifest_fault.ManifestLine line)
IsExpected wanted files moment (Some (a_fault.ManifestOrder line)) = HasBadManifest wanted files moment (a_manifest_fault.ManifestOrder line)
IsExpected wanted files moment (Some (a_fault.NoContents id)) = LacksContents wanted files moment id
IsExpected wanted files moment (Some (a_fault.IgnoreTooLarge size)) = HasBadPatterns wanted files moment (an_ignore_fault.IgnoreTooLarge size)
IsExpected wanted files moment (Some (a_fault.IgnoreText at)) = HasBadPatterns wanted files moment (an_ignore_fault.IgnoreText at)
IsExpected wanted files moment (Some (a_fault.BadGlob line)) = HasBadPatterns wanted files moment (an_ignore_fault.BadGlob line)
IsExpected wanted files moment (Some (a_fault.BadRegexp line)) = HasBadPatterns wanted files moment (an_ignore_fault.BadRegexp line)
IsExpected wanted files moment (Some (a_fault.RegexpTooBig line)) = HasBadPatterns wanted files moment (an_ignore_fault.RegexpTooBig line)
IsExpected wanted files moment (Some (a_fault.BadInclude line)) = HasBadPatterns wanted files moment (an_ignore_fault.BadInclude line)
IsExpected wanted files moment (Some fault) = IsUnreadable files fault

-- ---- the command

-- what a status makes of the record: where a table was read, it with the notes
abbrev pub noted_in : Watched shelf.History → Option Table → NotesData → Makes
noted_in files None notes = makes_nothing
noted_in files (Some table) notes = noted_makes files table notes

-- what came of the lock: where no table was read it wasn't called for
abbrev pub IsLockedLast : (Try → Type 0) → Watched shelf.History → Saved → Count → Option Table → NotesData → Option Fault → Type 0
IsLockedLast Own files saved locks None notes fault = OnlyReads saved locks
IsLockedLast Own files saved locks (Some table) notes fault = IsLockedToSave Own files.old files saved locks table notes fault

-- what becomes of the notes of a status that ended with this fault or with none, over the record that was read by its own try
pub record SavesLast (Own : Try → Type 0) (files : Watched shelf.History) (saved : Saved) (locks : Count) (table : Option Table) (notes : NotesData) (fault : Option Fault) : Type 0 where
  -- whatever the answer, nothing was written, or the record that was read, with the notes, was published while the lock was held
  pub safe : Undisturbed saved.old saved.new → IsSafe (noted_in files table notes) saved fault
  -- where nothing is noted, or a fault was met before, the files below `.hg` were only asked, and no lock was called for
  pub idle : IsBlank notes → OnlyReads saved locks
  pub locked : IsLockedLast Own files saved locks table notes fault
  -- without a fault the record with the notes is what is recorded where the lock was given back, unless nothing was noted, the lock was refused, or another
  -- docket stood, or what would be written is too large, or no identifier is left
  pub saves : fault ≡ None → IsSomeAnd table (λ t. IsBlank notes ⊎ (Rose locks.before locks.after ⊎ IsNotedHeld Own files.old t notes saved))

-- the last try by which a table was read first
abbrev pub ByLoadedFirst : (files : Watched shelf.History) (table : Option Table) → IfSome table (IsLoadedFirst files) → Try → Type 0
ByLoadedFirst files None loaded tried = ⊥
ByLoadedFirst files (Some table) loaded tried = (told : IsTrue files.old.told) × (tried ≡ (loaded told).read.tried.last)

-- what a status did that ended with this status and this fault, or with none
pub record RanStatus (flags : StatusFlags) (call : Call) (code : ℕ) (fault : Option Fault) : Type 0 where
  -- the table that was read in the call, where one was, and what was noted over it: all that follows speaks of these
  pub table : Option Table
  pub loaded : IfSome table (IsLoadedFirst call.looked.shelf)
  pub notes : NotesData
  -- without a fault, where recorded times are right, the rows printed have each path that is left alone meanwhile exactly under its letter, and no two are of
  -- one path, and the warnings were told behind them; and with one, why, and what stands in both streams. Also with one that was met behind the listing
  -- (`IsWorked`): where nobody else steps, the patterns were read exactly where they are needed and stand there; and all is noted that a second status needs to
  -- read no clean file again, path by path whoever else steps
  pub looks : Concludes (status_look flags call.looked call.saved call.locks table notes) call.out call.err fault
  -- where nobody else made a step, the rows are the full listing, and with a fault a front of its text stands there, or nothing
  pub whole : fault ≡ None → IsOwn call.looked → IfSome table (IsRightFor call.looked)
      → Puts (IsFullText flags (shelf.now call.looked.shelf.old).files (tree.now call.looked.tree.old)) call.out
  pub front : IsOwn call.looked → IfSome table (IsRightFor call.looked)
      → IfSome fault (λ _. LeavesFront (IsFullText flags (shelf.now call.looked.shelf.old).files (tree.now call.looked.tree.old)) call.out)
  -- where nobody else steps and no count rises, the answer is the expected one, or there was no memory
  pub complete : IsOwn call.looked → Serves call.looked.tree → Serves call.looked.shelf → Serves call.out → Serves call.err
      → IsExpected (wanted_of flags) (shelf.now call.looked.shelf.old).files (tree.now call.looked.tree.old) fault
  -- nothing of the working copy is changed; it reads the ignore patterns and only paths whose bytes are compared, none of which the table vouches for, and
  -- lists directories only where `?` or I is wanted, each once at most; where nobody else steps visible ones alone, and without I none that is ignored
  pub tree : tree.Passes call.looked.tree.old call.looked.tree.new
  pub asked : AsksLittle call.looked (wanted_of flags) table
  -- of each path it reads the bytes in one comparison at most, and only where the manifest that it read has a row of the path whose kind, executable bit and size
  -- a look showed there
  pub reads : ReadsLittle call.looked (wanted_of flags) table
  -- below `.hg` it asks for the record, then for what its comparisons need, the manifest once at most, and for the docket once more before it saves times
  pub below : IsTrue call.looked.shelf.old.told → AsksBelow call.looked (wanted_of flags) table
  -- what it noted of times: only what is needed; each time is that of a look in the call, by one time that the clock showed in it no later than at the look;
  -- it was seen with what it stands for, whatever others do in the working copy
  pub needed : IfSome table (λ t. AreNeeded t notes)
  pub noted : AreNoted call.looked.tree.old call.looked.tree.new notes
  pub earned : IfSome table (λ t. AreEarnedFor call.looked t notes)
  -- what became of that
  pub saving : SavesLast (ByLoadedFirst call.looked.shelf table loaded) call.looked.shelf call.saved call.locks table notes fault
  -- and from where the lock was given back on, a crash leaves what was saved, or what others published since
  pub lasts : (calm : Undisturbed call.saved.old call.saved.new) → KeepsRecords shelf.others call.saved.new call.saved.old.history.last
      → IfSome table (λ t. (noted : IsNotedHeld (ByLoadedFirst call.looked.shelf table loaded) call.looked.shelf.old t notes call.saved)
      → LastsNoted (ByLoadedFirst call.looked.shelf table loaded) call.looked.shelf.old t notes call.saved (noted calm).0.from (noted calm).0.to (noted calm).1)
  -- without a fault the status is 0, as no word is refused
  pub ends : (none : fault ≡ None) → code ≡ status_of (looks.done none).said.refused
