-- The cause of a fault in the table of all commands, from the stage at which a command met it; and the whole answer of a call.
use Rattle.std.proofs.Common.{ℕ, ◌≡◌, true, false, Option, Some, None, Result, Ok, Err, IfSome, IsTrue, refl, sym, subst, inl, inr, true≢false}
use Rattle.std.specs.Option.{MatchOption}
use Rattle.std.specs.Prelude.{IsSomeAnd, ◌⊎◌}
use Rattle.hg_session.specs.Changing.{EndsChange}
use Rattle.hg_append.specs.declared.fault.EncodeFault.{EncodeFault}
use Rattle.hg_append.specs.declared.fault.EncodeFault.TheVariants as an_encode_fault
use Rattle.hg_base.specs.Fault.{Rose}
use Rattle.hg_entry.specs.Table.{Table}
use Rattle.hg_listing.specs.declared.fault.StatusFault.{StatusFault}
use Rattle.hg_listing.specs.declared.fault.StatusFault.TheVariants as a_status
use Rattle.hg_ops.specs.declared.refusal.OpFault.{OpFault}
use Rattle.hg_ops.specs.declared.refusal.OpFault.TheVariants as an_op_fault
use Rattle.hg_report.specs.Cause.{of_op, of_status}
use Rattle.hg_report.specs.declared.fault.Fault.{Fault}
use Rattle.hg_report.specs.declared.fault.Fault.TheVariants as a_fault
use Rattle.hg_session.proofs.Firm.{noted_upto}
use Rattle.hg_session.proofs.Makers.{asks_none, may_note_nothing, may_nothing}
use Rattle.hg_session.specs.Acts.{Makes, makes_nothing}
use Rattle.hg_session.specs.Answered.{IsAnswered, IsIdle, IsUnbuilt, Ran, made_by}
use Rattle.hg_session.specs.Call.{Call, Count, Fails, IsLeftAlone, Looked, Saved, Sink, Watched}
use Rattle.hg_session.specs.Cause.{CommandCause}
use Rattle.hg_session.specs.Change.{IsUnwritten, WroteOnly, MetChanging, MetDoing, MetLocking, makes_in, of_change, Made, MetStop, MetUnfit, come_so, only_so, IsLoadedFirst}
use Rattle.hg_session.specs.Changed.{RanChange, change_look}
use Rattle.hg_session.specs.Commands.{is_change, is_done}
use Rattle.hg_session.specs.Crash.{IsSafeFromCrashes}
use Rattle.hg_session.specs.Debug.{AnswersPrinting, Prints, ShowsRecord}
use Rattle.hg_session.specs.Flags.{wanted_of}
use Rattle.hg_session.specs.Listed.{StatusCause}
use Rattle.hg_session.specs.Load.{of_print, of_read}
use Rattle.hg_session.specs.Loaded.{AsksRecord, IsLoaded, MetReading}
use Rattle.hg_session.specs.Look.{IsCalm, IsOutFault, LeavesAt, Concludes, OnlyReads, Stage, at_first, at_printing, at_saving, at_telling}
use Rattle.hg_session.specs.Looking.{EndsAs, DoesStatus}
use Rattle.hg_session.specs.Put.{IsFaultOrMemory, OnStream, Tells}
use Rattle.hg_session.specs.Status.{ListingCause, RanStatus, noted_in, status_look}
use Rattle.hg_session.specs.declared.change_fault.ChangeFault.{ChangeFault}
use Rattle.hg_session.specs.declared.change_fault.ChangeFault.TheVariants as a_change_fault
use Rattle.hg_session.specs.declared.print_fault.PrintFault.{PrintFault}
use Rattle.hg_session.specs.declared.print_fault.PrintFault.TheVariants as a_print
use Rattle.hg_session.specs.declared.read_fault.ReadFault.{ReadFault}
use Rattle.hg_session.specs.declared.read_fault.ReadFault.TheVariants as a_read
use Rattle.hg_session.proofs.Crashes.{crash_safe, crash_unwritten, latest_safe}
use Rattle.hg_session.proofs.Locked.{unwritten}
use Rattle.hg_session.proofs.Looks.{joined, not_without, status_failed}
use Rattle.hg_session.proofs.Printing.{never_rose}
use Rattle.hg_session.proofs.Readings.{first_read, was_loaded}
use Rattle.hg_session.proofs.Records.{record_by}
use Rattle.hg_session.proofs.Statuses.{ran_status, status_calm, status_streams, status_tree, well}
use Rattle.hg_shelf.specs.History as shelf
use Rattle.hg_shelf.specs.Images.{Goes, Scene}
use Rattle.hg_walk.specs.Notes.{NotesData}
use Rattle.hg_words.specs.declared.flags.StatusFlags.{StatusFlags}
use Rattle.hg_words.specs.declared.given.Command.{Command}
use Rattle.hg_words.specs.declared.given.Command.TheVariants as a_command

-- ---- a command that only looks

by_reading : (call : Call) (fault : ReadFault) → MetReading call.looked.shelf fault → CommandCause call (of_read fault)
by_reading call a_read.OutOfMemory met = tt
by_reading call (a_read.Docket fault) met = met
by_reading call (a_read.Node fault) met = met
by_reading call (a_read.DataGone ids) met = met
by_reading call a_read.Failed met = met

by_printing : (call : Call) (fault : Fault) → IsOutFault fault → Rose call.out.before call.out.after → CommandCause call fault
by_printing call fault (inl is) failed = subst (CommandCause call) (sym is) failed
by_printing call fault (inr is) failed = subst (CommandCause call) (sym is) tt

-- nothing was written but what a command may, or the shelf failed
abbrev HadNoMemory : Makes → Call → Type 0
HadNoMemory Does call = WroteOnly Does.may call.saved ⊎ Fails call.looked.shelf

module _ (call : Call) (flags : StatusFlags) (is : call.command ≡ a_command.Status flags) where
  by_status : (table : Table) → IsLoaded call.looked.shelf table → (fault : StatusFault) → StatusCause call.looked (wanted_of flags) table fault → CommandCause call (of_status fault)
  by_status table loaded a_status.OutOfMemory cause = tt
  by_status table loaded a_status.TreeFailed cause = (cause, λ told. (table, loaded told))
  by_status table loaded a_status.ShelfFailed cause = cause
  by_status table loaded (a_status.NoManifest id) cause = inl (flags, is, table, loaded, cause)
  by_status table loaded (a_status.ManifestTooLarge size) cause = inl (flags, is, table, loaded, cause)
  by_status table loaded (a_status.ManifestLine line) cause = inl (flags, is, table, loaded, cause)
  by_status table loaded (a_status.ManifestOrder line) cause = inl (flags, is, table, loaded, cause)
  by_status table loaded (a_status.NoContents id) cause = inl (flags, is, table, loaded, cause)
  by_status table loaded (a_status.RegexpTooBig line) cause = ((flags, is, table, loaded, cause.0), cause.1)
  by_status table loaded fault cause = (flags, is, table, loaded, cause)

  by_some : (table : Option Table) → IfSome table (IsLoaded call.looked.shelf) → (fault : StatusFault) → IsSomeAnd table (λ t. StatusCause call.looked (wanted_of flags) t fault) → CommandCause call (of_status fault)
  by_some None loaded fault cause = absurd cause
  by_some (Some table) loaded fault cause = by_status table loaded fault cause

  by_listing : (table : Option Table) → IfSome table (IsLoaded call.looked.shelf) → (fault : Fault) → ListingCause call.looked (wanted_of flags) table fault → CommandCause call fault
  by_listing table loaded fault (inl (f, same, cause)) = subst (CommandCause call) (sym same) (by_reading call f cause)
  by_listing table loaded fault (inr (f, same, cause)) = subst (CommandCause call) (sym same) (by_some table loaded f cause)

  module _ (notes : NotesData) (table : Option Table) (loaded : IfSome table (IsLoaded call.looked.shelf)) where
    left_cause : (fault : Fault) → (stage : Stage) × LeavesAt (status_look flags call.looked call.saved call.locks table notes) call.out call.err Tells stage fault → CommandCause call fault
    left_cause fault (at_first, ((only, why), silent, line)) = by_listing table loaded fault why
    left_cause fault (at_printing, (printing, ready, front, kind, line)) = by_printing call fault kind front.failed
    left_cause fault (at_telling, (telling, ready, printed, same)) = subst (CommandCause call) (sym same) printed.behind.failed
    left_cause fault (at_saving, (inl (failed, inl same), left)) =
        let is : fault ≡ a_fault.ShelfFailed = cc same in
        subst (CommandCause call) (sym is) failed
    left_cause fault (at_saving, (inl (failed, inr memory), left)) =
        let is : fault ≡ a_fault.OutOfMemory = cc memory in
        subst (CommandCause call) (sym is) tt
    left_cause fault (at_saving, (inr (same, none), left)) = subst (CommandCause call) (sym same) tt

    -- want of memory comes where nothing was written, or where the shelf failed too
    status_left : (Does : Makes) (fault : Fault) → (stage : Stage) × LeavesAt (status_look flags call.looked call.saved call.locks table notes) call.out call.err Tells stage fault → fault ≡ a_fault.OutOfMemory → HadNoMemory Does call
    status_left Does fault (at_first, ((only, why), silent, line)) is = inl (inl (unwritten call.saved.old.history call.saved.new.history only.passes))
    status_left Does fault (at_printing, (only, ready, front, kind, line)) is = inl (inl (unwritten call.saved.old.history call.saved.new.history only.passes))
    status_left Does fault (at_telling, (only, ready, printed, same)) is = absurd (cc (same, is))
    status_left Does fault (at_saving, (inl (failed, kind), left)) is = inr failed
    status_left Does fault (at_saving, (inr (same, none), left)) is = inl (inl none)

    pub status_memory : (Does : Makes) (fault : Option Fault) → Concludes (status_look flags call.looked call.saved call.locks table notes) call.out call.err fault → fault ≡ Some a_fault.OutOfMemory → HadNoMemory Does call
    status_memory Does None looks is = absurd (cc is)
    status_memory Does (Some fault) looks is = status_left Does fault looks.left (cc is)

    pub status_cause : (fault : Option Fault) → Concludes (status_look flags call.looked call.saved call.locks table notes) call.out call.err fault → IfSome fault (CommandCause call)
    status_cause None looks = tt
    status_cause (Some fault) looks = left_cause fault looks.left

printed_cause : (call : Call) (fault : PrintFault) → Prints call.looked.shelf call.out (Err fault) → CommandCause call (of_print fault)
printed_cause call (a_print.Read fault) prints = by_reading call fault prints.0
printed_cause call a_print.OutFailed prints = prints.failed

record_cause : (call : Call) (fault : Option Fault) (came : Result Unit PrintFault) → Prints call.looked.shelf call.out came → AnswersPrinting call.err came fault → IfSome fault (CommandCause call)
record_cause call fault (Ok done) prints (none, silent) = subst (λ (f : Option Fault). IfSome f (CommandCause call)) (sym none) tt
record_cause call fault (Err met) prints (inl same, told) = subst (λ (f : Option Fault). IfSome f (CommandCause call)) (sym same) (printed_cause call met prints)
record_cause call fault (Err met) prints (inr memory, told) = subst (λ (f : Option Fault). IfSome f (CommandCause call)) (sym memory) tt

-- ---- a command that changes the record

module _ (call : Call) (is : is_change call.command ≡ true) (read : Option Table) (work : Option Made) where
  -- what the command makes, so far as it came
  abbrev So : Makes
  So = only_so (makes_in call) read work

  stop_plain : (fault : Fault) → MetStop So call.looked.shelf fault → MetStop (makes_in call) call.looked.shelf fault
  stop_plain fault met = record { loaded = met.loaded; read = met.read; stops = met.stops.1 }

  unfit_plain : (fault : EncodeFault) → MetUnfit So call.looked.shelf fault → MetUnfit (makes_in call) call.looked.shelf fault
  unfit_plain fault met = record { made = met.made; said = met.said; is = record { loaded = met.is.loaded; read = met.is.read; does = met.is.does.2 }; unfit = met.unfit }

  by_doing : (fault : OpFault) → MetDoing So call.looked.tree call.looked.shelf fault → CommandCause call (of_op fault)
  by_doing an_op_fault.OutOfMemory met = tt
  by_doing an_op_fault.TreeFailed met = (met.1, was_loaded call.looked.shelf (λ told. (met.0.loaded, met.0.read told)))
  by_doing an_op_fault.ShelfFailed met = met.1
  by_doing (an_op_fault.NoManifest id) met = inr (is, stop_plain (a_fault.NoManifest id) met.0)
  by_doing (an_op_fault.ManifestTooLarge size) met = inr (is, stop_plain (a_fault.ManifestTooLarge size) met.0)
  by_doing (an_op_fault.ManifestLine line) met = inr (is, stop_plain (a_fault.ManifestLine line) met.0)
  by_doing (an_op_fault.ManifestOrder line) met = inr (is, stop_plain (a_fault.ManifestOrder line) met.0)
  by_doing (an_op_fault.NoContents id) met = inr (is, stop_plain (a_fault.NoContents id) met.0)

  by_changing : (fault : ChangeFault) → MetChanging So call.looked.tree call.looked.shelf fault → CommandCause call (of_change fault)
  by_changing (a_change_fault.Read fault) met = by_reading call fault met.0
  by_changing (a_change_fault.Op fault) met = by_doing fault met
  by_changing (a_change_fault.Encode an_encode_fault.OutOfMemory) met = tt
  by_changing (a_change_fault.Encode (an_encode_fault.TooLarge size)) met = (is, unfit_plain (an_encode_fault.TooLarge size) met)
  by_changing (a_change_fault.Encode an_encode_fault.IdsSpent) met = (is, unfit_plain an_encode_fault.IdsSpent met)
  by_changing a_change_fault.Held met = absurd met
  by_changing a_change_fault.ShelfFailed met = met.0

  by_locking : (fault : ChangeFault) → MetLocking So call.looked.tree call.looked.shelf call.locks fault → CommandCause call (of_change fault)
  by_locking fault (inl met) = by_changing fault met
  by_locking fault (inr (held, rose, alone)) = subst (λ (f : ChangeFault). CommandCause call (of_change f)) (sym held) (is, rose)

  by_saving : (fault : Fault) → Fails call.looked.shelf → (fault ≡ a_fault.ShelfFailed) ⊎ (fault ≡ a_fault.OutOfMemory) → CommandCause call fault
  by_saving fault failed (inl same) = subst (CommandCause call) (sym same) failed
  by_saving fault failed (inr same) = subst (CommandCause call) (sym same) tt

  change_left : (fault : Fault) → (stage : Stage) × LeavesAt (change_look So call) call.out call.err Tells stage fault → CommandCause call fault
  change_left fault (at_first, ((none, f, inl same, met), silent, line)) =
      let is : fault ≡ of_change f = cc same in
      subst (CommandCause call) (sym is) (by_locking f met)
  change_left fault (at_first, ((none, f, inr memory, met), silent, line)) =
      let is : fault ≡ a_fault.OutOfMemory = cc memory in
      subst (CommandCause call) (sym is) tt
  change_left fault (at_printing, (never, ready, front, kind, line)) = absurd never
  change_left fault (at_telling, (telling, ready, printed, same)) = subst (CommandCause call) (sym same) printed.behind.failed
  change_left fault (at_saving, ((failed, kind), left)) = by_saving fault failed.0 kind

  -- want of memory comes where nothing was written, or where the shelf failed too
  change_memory_left : (fault : Fault) → (stage : Stage) × LeavesAt (change_look So call) call.out call.err Tells stage fault → fault ≡ a_fault.OutOfMemory → HadNoMemory So call
  change_memory_left fault (at_first, ((none, f, why, met), silent, line)) memory = inl none
  change_memory_left fault (at_printing, (never, ready, front, kind, line)) memory = absurd never
  change_memory_left fault (at_telling, (telling, ready, printed, same)) memory = absurd (cc (same, memory))
  change_memory_left fault (at_saving, ((failed, kind), left)) memory = inr failed.0

  changed_memory : (fault : Option Fault) → Concludes (change_look So call) call.out call.err fault → fault ≡ Some a_fault.OutOfMemory → HadNoMemory So call
  changed_memory None looks memory = absurd (cc memory)
  changed_memory (Some fault) looks memory = change_memory_left fault looks.left (cc memory)

  changed_cause : (fault : Option Fault) → Concludes (change_look So call) call.out call.err fault → IfSome fault (CommandCause call)
  changed_cause None looks = tt
  changed_cause (Some fault) looks = change_left fault looks.left

-- ---- the whole answer

looked_status : (code : ℕ) (fault : Option Fault) → MatchOption fault (code ≡ 0) (λ f. code ≡ 255) → MatchOption fault ((code ≡ 0) ⊎ (code ≡ 1)) (λ f. code ≡ 255)
looked_status code None is = inl is
looked_status code (Some fault) is = is

-- a command that makes nothing of the record
nothing_safe : (saved : Saved) (fault : Option Fault) → Goes saved.old saved.new → IsSafeFromCrashes makes_nothing saved fault
nothing_safe saved fault kept calm keep first = crash_safe saved.old saved.new kept calm keep makes_nothing (λ before behind may. may) first (λ keeps k later within none. tt) fault

pub answered_looked : (call : Call) (code : ℕ) (fault : Option Fault) (ran : Ran call.command call code fault) → OnlyReads call.saved call.locks → (fault ≡ None → IsCalm call.looked call.out call.err)
    → MatchOption fault (code ≡ 0) (λ f. code ≡ 255) → IsLeftAlone call.looked.tree → OnStream fault (call.looked.shelf.after ≡ call.looked.shelf.before) → IfSome fault (CommandCause call)
    → IsSafeFromCrashes (made_by call.command call code fault ran) call.saved fault → IsAnswered call code fault
answered_looked call code fault ran only calm status alone streams cause safe =
    let none : IsUnwritten call.saved.old.history call.saved.new.history = unwritten call.saved.old.history call.saved.new.history only.passes in
    record {
      ran = ran;
      cause = cause;
      calm = calm;
      streams = streams;
      tree = λ rose. absurd (never_rose call.looked.tree.before call.looked.tree.after alone.count rose);
      memory = λ is. inl (inl none);
      kept = only.kept;
      crash = safe;
      latest = λ calm keep first. (crash_unwritten call.saved.old call.saved.new only.kept calm keep none first).latest;
      status = looked_status code fault status;
    }

on_stream : {Is : Type 0} (fault : Option Fault) → Is → OnStream fault Is
on_stream None is = tt
on_stream (Some fault) is = λ stream. is

-- a command that changes the record
abbrev ran_changed : (call : Call) (code : ℕ) (fault : Option Fault) → RanChange call code fault → (command : Command) → is_change command ≡ true → Ran command call code fault
ran_changed call code fault changed (a_command.Status flags) is = absurd (true≢false (sym is))
ran_changed call code fault changed (a_command.Add files) is = changed
ran_changed call code fault changed (a_command.Forget files) is = changed
ran_changed call code fault changed (a_command.Remove after files) is = changed
ran_changed call code fault changed (a_command.Copy source target) is = changed
ran_changed call code fault changed (a_command.SetParents p1 p2) is = changed
ran_changed call code fault changed a_command.DebugDirstate is = absurd (true≢false (sym is))
ran_changed call code fault changed a_command.DebugScript is = absurd (true≢false (sym is))
ran_changed call code fault changed (a_command.DebugLoad n) is = absurd (true≢false (sym is))

-- what is said of what a command makes holds of what one did that changes the record
by_changed : (Of : Makes → Type 0) (call : Call) (code : ℕ) (fault : Option Fault) (changed : RanChange call code fault) (command : Command) (is : is_change command ≡ true)
    → Of (come_so changed.come) → Of (made_by command call code fault (ran_changed call code fault changed command is))
by_changed Of call code fault changed (a_command.Status flags) is by = absurd (true≢false (sym is))
by_changed Of call code fault changed (a_command.Add files) is by = by
by_changed Of call code fault changed (a_command.Forget files) is by = by
by_changed Of call code fault changed (a_command.Remove after files) is by = by
by_changed Of call code fault changed (a_command.Copy source target) is by = by
by_changed Of call code fault changed (a_command.SetParents p1 p2) is by = by
by_changed Of call code fault changed a_command.DebugDirstate is by = absurd (true≢false (sym is))
by_changed Of call code fault changed a_command.DebugScript is by = absurd (true≢false (sym is))
by_changed Of call code fault changed (a_command.DebugLoad n) is by = absurd (true≢false (sym is))

pub answered_changed : (call : Call) (code : ℕ) (fault : Option Fault) → is_change call.command ≡ true → EndsChange call code fault → MatchOption fault ((code ≡ 0) ⊎ (code ≡ 1)) (λ f. code ≡ 255)
    → IsAnswered call code fault
answered_changed call code fault is ends status =
    let changed = ends.ran in
    record {
      ran = ran_changed call code fault changed call.command is;
      cause = changed_cause call is changed.come.read changed.come.work fault changed.shows;
      calm = ends.calm;
      streams = ends.streams;
      tree = ends.tree;
      memory = λ none. by_changed (λ Does. HadNoMemory Does call) call code fault changed call.command is (changed_memory call is changed.come.read changed.come.work fault changed.shows none);
      kept = ends.kept;
      crash = by_changed (λ Does. IsSafeFromCrashes Does call.saved fault) call code fault changed call.command is
          (λ calm keep first. crash_safe call.saved.old call.saved.new ends.kept calm keep (come_so changed.come) nothing first
          (λ kept k later within none. asks_none call.command call.looked.tree call.looked.shelf call.saved.new.history k) fault);
      latest = λ calm keep first. latest_safe call.saved.old call.saved.new ends.kept calm keep (come_so changed.come) nothing first fault (changed.safe calm);
      status = status;
    }
  where
    nothing : (before behind : Scene) → (makes_in call).may before behind → ⊥
    nothing = may_nothing call.command call.looked.tree call.looked.shelf

-- a status, from what it did and what was told behind it
some_read : (files : Watched shelf.History) (table : Option Table) → IfSome table (IsLoadedFirst files) → IfSome table (IsLoaded files)
some_read files None is = tt
some_read files (Some t) is = first_read files t is

pub answered_status : (command : Command) (flags : StatusFlags) (looked : Looked) (saved : Saved) (locks : Count) (out mid tail : Sink) (bytes : tail.old ≡ mid.new) (count : tail.before ≡ mid.after)
    (done : Result Unit Fault) (code : ℕ) (fault : Option Fault) → looked.shelf.old.last ≡ saved.old.history.last → command ≡ a_command.Status flags → DoesStatus flags looked saved locks out mid done
    → EndsAs tail done code fault → IsAnswered (record { command = command; looked = looked; saved = saved; locks = locks; out = out; err = joined mid tail bytes count }) code fault
answered_status command flags looked saved locks out mid tail bytes count done code fault same is does ends =
    let at : Command → Call = λ c. record { command = c; looked = looked; saved = saved; locks = locks; out = out; err = joined mid tail bytes count } in
    let call : Call = at (a_command.Status flags) in
    let ran : RanStatus flags call code fault = ran_status (a_command.Status flags) flags looked saved locks out mid tail bytes count done code fault does ends in
    subst (λ (c : Command). IsAnswered (at c) code fault) (sym is) (record {
      ran = ran;
      cause = status_cause call flags refl ran.notes ran.table (some_read looked.shelf ran.table ran.loaded) fault ran.looks;
      calm = status_calm command flags looked saved locks out mid tail bytes count done code fault does ends;
      streams = status_streams command flags looked saved locks out mid tail bytes count done code fault does ends;
      tree = status_tree command flags looked saved locks out mid tail bytes count done code fault does ends;
      memory = status_memory call flags refl ran.notes ran.table (some_read looked.shelf ran.table ran.loaded) (noted_in looked.shelf ran.table ran.notes) fault ran.looks;
      kept = does.kept;
      crash = λ calm keep first. crash_safe saved.old saved.new does.kept calm keep (noted_in looked.shelf ran.table ran.notes) (may_note_nothing looked.shelf ran.table ran.notes) first
          (λ kept. noted_upto saved.old saved.new kept looked.shelf same ran.table ran.notes) fault;
      latest = λ calm keep first. latest_safe saved.old saved.new does.kept calm keep (noted_in looked.shelf ran.table ran.notes) (may_note_nothing looked.shelf ran.table ran.notes) first fault (ran.saving.safe calm);
      status = looked_status code fault ends.status;
    })

-- the command that prints the record
pub answered_record : (call : Call) (code : ℕ) (fault : Option Fault) → call.command ≡ a_command.DebugDirstate → ShowsRecord call.looked.shelf call.out call.err fault
    → (IsTrue call.looked.shelf.old.told → AsksRecord call.looked.shelf.old call.looked.shelf.new) → IsLeftAlone call.looked.tree → call.looked.oversize.after ≡ call.looked.oversize.before
    → (fault ≡ None → IsCalm call.looked call.out call.err) → OnlyReads call.saved call.locks → shelf.Passes call.looked.shelf.old call.looked.shelf.new
    → MatchOption fault (code ≡ 0) (λ f. code ≡ 255) → OnStream fault (call.looked.shelf.after ≡ call.looked.shelf.before) → IsAnswered call code fault
answered_record call code fault is shows below alone uncounted calm only passes status streams =
    let ran : Ran call.command call code fault =
    subst (λ (c : Command). Ran c call code fault) (sym is) (record_by call passes fault shows below alone uncounted code only (well code fault status)) in
    answered_looked call code fault ran only calm status alone streams (record_cause call fault shows.came shows.prints shows.tells)
    (subst (λ (c : Command). (ran : Ran c call code fault) → IsSafeFromCrashes (made_by c call code fault ran) call.saved fault) (sym is) (λ ran. nothing_safe call.saved fault only.kept) ran)

-- ---- a command that isn't built

ran_unbuilt : (call : Call) (code : ℕ) (fault : Option Fault) → IsUnbuilt call code fault → (command : Command) → is_done command ≡ false → Ran command call code fault
ran_unbuilt call code fault unbuilt (a_command.Status flags) is = absurd (true≢false is)
ran_unbuilt call code fault unbuilt (a_command.Add files) is = absurd (true≢false is)
ran_unbuilt call code fault unbuilt (a_command.Forget files) is = absurd (true≢false is)
ran_unbuilt call code fault unbuilt (a_command.Remove after files) is = absurd (true≢false is)
ran_unbuilt call code fault unbuilt (a_command.Copy source target) is = absurd (true≢false is)
ran_unbuilt call code fault unbuilt (a_command.SetParents p1 p2) is = absurd (true≢false is)
ran_unbuilt call code fault unbuilt a_command.DebugDirstate is = absurd (true≢false is)
ran_unbuilt call code fault unbuilt a_command.DebugScript is = unbuilt
ran_unbuilt call code fault unbuilt (a_command.DebugLoad n) is = unbuilt

-- what is said of what a command makes holds of nothing
by_unbuilt : (Of : Makes → Type 0) (call : Call) (code : ℕ) (fault : Option Fault) (command : Command) (ran : Ran command call code fault) → is_done command ≡ false → Of makes_nothing
    → Of (made_by command call code fault ran)
by_unbuilt Of call code fault (a_command.Status flags) ran is by = absurd (true≢false is)
by_unbuilt Of call code fault (a_command.Add files) ran is by = absurd (true≢false is)
by_unbuilt Of call code fault (a_command.Forget files) ran is by = absurd (true≢false is)
by_unbuilt Of call code fault (a_command.Remove after files) ran is by = absurd (true≢false is)
by_unbuilt Of call code fault (a_command.Copy source target) ran is by = absurd (true≢false is)
by_unbuilt Of call code fault (a_command.SetParents p1 p2) ran is by = absurd (true≢false is)
by_unbuilt Of call code fault a_command.DebugDirstate ran is by = absurd (true≢false is)
by_unbuilt Of call code fault a_command.DebugScript ran is by = by
by_unbuilt Of call code fault (a_command.DebugLoad n) ran is by = by

unbuilt_cause : (call : Call) (answered : Option Fault) → IsFaultOrMemory answered a_fault.NotBuilt → is_done call.command ≡ false → IfSome answered (CommandCause call)
unbuilt_cause call answered (inl same) is = subst (λ (f : Option Fault). IfSome f (CommandCause call)) (sym same) is
unbuilt_cause call answered (inr memory) is = subst (λ (f : Option Fault). IfSome f (CommandCause call)) (sym memory) tt

pub answered_unbuilt : (call : Call) (code : ℕ) (fault : Option Fault) → is_done call.command ≡ false → IsFaultOrMemory fault a_fault.NotBuilt → IfSome fault (Tells call.err)
    → IsIdle call.looked call.saved call.locks call.out → shelf.Passes call.saved.old.history call.saved.new.history → code ≡ 255 → IsAnswered call code fault
answered_unbuilt call code fault is answered told idle passes status =
    let ran : Ran call.command call code fault = ran_unbuilt call code fault (record { answered = answered; told = told; idle = idle; status = status }) call.command is in
    answered_looked call code fault ran
    (record { passes = passes; kept = idle.kept; held = idle.held }) (λ none. not_without fault a_fault.NotBuilt answered none) (status_failed code a_fault.NotBuilt fault answered status) idle.copy
    (on_stream fault idle.files_count) (unbuilt_cause call fault answered is)
    (by_unbuilt (λ Does. IsSafeFromCrashes Does call.saved fault) call code fault call.command ran is (nothing_safe call.saved fault idle.kept))
