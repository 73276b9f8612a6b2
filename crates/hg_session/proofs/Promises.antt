-- What a command that changes the record promises, from what was done under the lock and told behind it.
use Rattle.std.proofs.Common.{ℕ, ◌≡◌, ◌<◌, ◌≤◌, Bool, true, false, List, [], ◌∷◌, Option, Some, None, Ok, IfSome, IsTrue, refl, sym, ap, ◌∙◌, subst, arith, inl, inr, ◌⊎◌, true≢false}
use Rattle.std.proofs.lemmas.Bool.{cases_lt}
use Rattle.hg_base.proofs.Faults.{steady_not_rose}
use Rattle.hg_base.specs.Fault.{IsSteady}
use Rattle.hg_entry.specs.Table.{Table}
use Rattle.hg_report.specs.declared.fault.Fault.{Fault}
use Rattle.hg_report.specs.declared.fault.Fault.TheVariants as a_fault
use Rattle.hg_save.proofs.Loads.{last_within, unstepped_found}
use Rattle.hg_save.specs.Loads.{Try, files_at}
use Rattle.hg_save.specs.Others.{named_file}
use Rattle.hg_save.specs.Record.{shown_in, reading}
use Rattle.hg_session.proofs.Looks.{not_without}
use Rattle.hg_session.proofs.Crashes.{lasting}
use Rattle.hg_session.proofs.Locks.{ends_by}
use Rattle.hg_session.proofs.Makers.{may_nothing, unwritten_only}
use Rattle.hg_session.proofs.Readings.{unreadable_now}
use Rattle.hg_append.specs.declared.fault.EncodeFault.{EncodeFault}
use Rattle.hg_append.specs.declared.fault.EncodeFault.TheVariants as an_encode
use Rattle.hg_ops.specs.declared.refusal.OpFault.{OpFault}
use Rattle.hg_ops.specs.declared.refusal.OpFault.TheVariants as an_op
use Rattle.hg_report.specs.Cause.{of_op}
use Rattle.hg_session.specs.Acts.{Makes, makes_of}
use Rattle.hg_session.specs.Call.{Call, Count, Fails, Saved, Serves, Watched}
use Rattle.hg_session.specs.Change.{ChangesBehind, FailsBehind, IsDone, IsLocked, IsMade, IsReadFirst, IsSafe, MayFollowWriting, AsksChange, MetChanging, MetDoing, MetLocking, MetStop, MetUnfit, NoneOurs, OnlyAnswers, Stretch, makes_in, of_change, up_to, Come, Made, come_so, only_so}
use Rattle.hg_session.specs.Changing.{FailsOrUnwritten, EndsChange}
use Rattle.hg_session.specs.Changed.{IsExpectedChange, IsMadeOf, IsStoppedFor, IsUnfitFor, SaysChange, change_look, looks_at_copy}
use Rattle.hg_session.proofs.Records.{puts_none}
use Rattle.hg_session.specs.Look.{LeavesAt, Stage, at_first, at_saving, at_telling}
use Rattle.hg_session.specs.Put.{IsFaultOrMemory, IsSilent, Tells, TellsLine, is_stream}
use Rattle.hg_session.specs.Load.{of_read}
use Rattle.hg_session.specs.Manifests.{StopsParents}
use Rattle.hg_session.specs.Told.{Told, refusing, status_of}
use Rattle.hg_session.specs.Loaded.{MetReading}
use Rattle.hg_session.specs.Ways.{Fits, IsUnfit, Stood, stood_by, stood_in}
use Rattle.hg_session.specs.declared.change_fault.ChangeFault.{ChangeFault}
use Rattle.hg_session.specs.declared.change_fault.ChangeFault.TheVariants as a_change_fault
use Rattle.hg_session.specs.declared.read_fault.ReadFault.{ReadFault}
use Rattle.hg_session.specs.declared.read_fault.ReadFault.TheVariants as a_read
use Rattle.hg_shelf.specs.History.{Extends, Files, History, IsOurs, now, readers, us}
use Rattle.hg_shelf.specs.Images.{Course, Goes, Scene, scene}
use Rattle.hg_shelf.specs.Polite.{Undisturbed}
use Rattle.hg_stream.specs.Stream.{Grown, GrownByFront}
use Rattle.hg_tree.specs.History as tree
use Rattle.hg_words.specs.declared.given.Command.{Command}
use Rattle.hg_words.specs.declared.given.Command.TheVariants as a_command

-- ---- where nobody else steps

us_not_readers : us ≡ readers → ⊥
us_not_readers is = cc is

calm_own : (a b : Course) → IsOurs a.history b.history → Undisturbed a b
calm_own a b own = record {
  told = own.told;
  others = record { same = λ k from to is. absurd (us_not_readers (sym (own.ours k from to) ∙ is)) };
}

-- the caller's steps are all there are, and up to a moment there are none
none_own : (old new : History) (k : ℕ) → IsOurs old new → old.last ≤ k → k ≤ new.last → NoneOurs new old.last k → k ≡ old.last
none_own old new k own later within none = elim (cases_lt old.last k) [
  | inl less ↦ absurd (none old.last (omega arith) less (own.ours old.last (omega arith) (omega (arith, less, within))))
  | inr most ↦ (omega (arith, most, later))
]

extends_first : (old new : History) (k : ℕ) → Extends old new → old.last ≤ k → Extends old (up_to k new)
extends_first old new k past later = record { told = past.told; later = later; who = past.who; stay = past.stay }

-- the working copy serves where it may be to blame
abbrev ServesMet : Makes → Watched tree.History → Type 0
ServesMet Does copy = (loaded : Table) → Does.stops loaded a_fault.TreeFailed → Serves copy

module _ (Does : Makes) (nothing : (before behind : Scene) → Does.may before behind → ⊥) (copy : Watched tree.History) (a b : Course) (before after : ℕ) (past : Extends a.history b.history) (own : IsOurs a.history b.history) where
  abbrev files : Watched History
  files = record { old = a.history; new = b.history; before = before; after = after }

  abbrev saved : Saved
  saved = record { old = a; new = b }

  abbrev there : Files
  there = (now a.history).files

  read_own : (loaded : Table) → IsReadFirst a.history b.history loaded → reading there ≡ Some (Ok loaded)
  read_own loaded is =
      let first = none_own a.history b.history is.upto own is.later is.within is.none in
      sym (unstepped_found a.history (up_to is.upto b.history) is.read.tries (extends_first a.history b.history is.upto past is.later) first is.read.tried) ∙ is.read.found

  abbrev made_own : (made : Table) (said : Told) (changed : Bool) → IsMade Does files made said changed → IsMadeOf Does there made said changed
  made_own made said changed is = record { loaded = is.loaded; recorded = read_own is.loaded (is.read own.told); does = is.does }

  -- what a try read before a step stands there
  stood_own : (tried : Try) → a.history.last ≤ tried.docket → tried.docket ≤ tried.file → tried.file ≤ b.history.last → NoneOurs b.history a.history.last tried.file → stood_by b.history tried ≡ stood_in there
  stood_own tried from order to none =
      let later : a.history.last ≤ tried.file = omega (arith, from, order) in
      let last : tried.file ≡ a.history.last = none_own a.history b.history tried.file own later to none in
      let first : tried.docket ≡ a.history.last = omega (arith, from, order, last) in
      let same : files_at b.history a.history.last ≡ there = (past.stay a.history.last (omega arith)).shown in
      let docket : files_at b.history tried.docket ≡ there = ap (files_at b.history) first ∙ same in
      let file : files_at b.history tried.file ≡ there = ap (files_at b.history) last ∙ same in
      λ i. record { docket = shown_in (docket i); file = named_file (shown_in (docket i)) (file i) }

  -- the docket and the data file that were read stand there
  read_stood : (loaded : Table) (read : IsReadFirst a.history b.history loaded) → stood_by b.history read.read.tried.last ≡ stood_in there
  read_stood loaded read =
      let within = last_within a.history (up_to read.upto b.history) read.read.tries read.read.tried in
      stood_own read.read.tried.last within.docket.from within.order (omega (arith, within.file.to, read.within)) (λ k from to. read.none k from (omega (arith, to, within.file.to)))

  unfit_own : (fault : EncodeFault) → MetUnfit Does files fault → IsUnfitFor Does there fault
  unfit_own fault met =
      let read : IsReadFirst a.history b.history met.is.loaded = met.is.read own.told in
      record {
        made = met.made;
        said = met.said;
        is = made_own met.made met.said true met.is;
        unfit =
            subst (λ (stood : Stood). IsUnfit stood met.made fault) (read_stood met.is.loaded read) (met.unfit own.told);
      }

  pub done_own : (from to : ℕ) (said : Told) → IsDone Does files saved from to said → IsExpectedChange Does there None
  done_own from to said done = record {
    made = done.made;
    said = said;
    changed = done.changed;
    is = made_own done.made said done.changed done.is;
    fits = elim (done.fits own.told) [ inl same ↦ inl same | inr fits ↦ inr (subst (λ (stood : Stood). Fits stood done.made) (read_stood done.is.loaded (done.is.read own.told)) fits) ];
  }

  -- a fault that can't be met once something was written
  still_by : (fault : Fault) → (MayFollowWriting (Some fault) → ⊥) → IsSafe Does saved (Some fault) → b.history.last ≡ a.history.last
  still_by fault never (inl only) = none_own a.history b.history b.history.last own past.later (omega arith) (unwritten_only Does.may nothing saved only).none
  still_by fault never (inr (may, is)) = absurd (never may)

  apart : (fault : Fault) → (fault ≡ a_fault.ShelfFailed → ⊥) → (fault ≡ a_fault.ErrFailed → ⊥) → (fault ≡ a_fault.OutOfMemory → ⊥) → MayFollowWriting (Some fault) → ⊥
  apart fault shelf err memory (inl is) = shelf is
  apart fault shelf err memory (inr (inl is)) = err is
  apart fault shelf err memory (inr (inr is)) = memory is

  stop_own : (fault : Fault) → MetStop Does files fault → IsStoppedFor Does there fault
  stop_own fault met = record { loaded = met.loaded; recorded = read_own met.loaded (met.read own.told); stops = met.stops }

  reading_own : (fault : ReadFault) → IsSafe Does saved (Some (of_read fault)) → MetReading files fault → Serves files → IsExpectedChange Does there (Some (of_read fault))
  reading_own a_read.OutOfMemory safe met q = tt
  reading_own (a_read.Docket fault) safe met q =
      unreadable_now files past (still_by (a_fault.Docket fault) (apart (a_fault.Docket fault) (λ is. cc is) (λ is. cc is) (λ is. cc is)) safe) own.told (a_read.Docket fault) met q
  reading_own (a_read.Node fault) safe met q =
      unreadable_now files past (still_by (a_fault.Node fault) (apart (a_fault.Node fault) (λ is. cc is) (λ is. cc is) (λ is. cc is)) safe) own.told (a_read.Node fault) met q
  reading_own (a_read.DataGone ids) safe met q =
      unreadable_now files past (still_by (a_fault.DataGone ids) (apart (a_fault.DataGone ids) (λ is. cc is) (λ is. cc is) (λ is. cc is)) safe) own.told (a_read.DataGone ids) met q
  reading_own a_read.Failed safe met q = steady_not_rose before after q met

  doing_own : (fault : OpFault) → MetDoing Does copy files fault → ServesMet Does copy → Serves files → IsExpectedChange Does there (Some (of_op fault))
  doing_own an_op.OutOfMemory met p q = tt
  doing_own an_op.TreeFailed met p q = steady_not_rose copy.before copy.after (p met.0.loaded met.0.stops) met.1
  doing_own an_op.ShelfFailed met p q = steady_not_rose before after q met.1
  doing_own (an_op.NoManifest id) met p q = stop_own (a_fault.NoManifest id) met.0
  doing_own (an_op.ManifestTooLarge size) met p q = stop_own (a_fault.ManifestTooLarge size) met.0
  doing_own (an_op.ManifestLine line) met p q = stop_own (a_fault.ManifestLine line) met.0
  doing_own (an_op.ManifestOrder line) met p q = stop_own (a_fault.ManifestOrder line) met.0
  doing_own (an_op.NoContents id) met p q = stop_own (a_fault.NoContents id) met.0

  pub met_own : (fault : ChangeFault) → IsSafe Does saved (Some (of_change fault)) → MetChanging Does copy files fault → ServesMet Does copy → Serves files → IsExpectedChange Does there (Some (of_change fault))
  met_own (a_change_fault.Read fault) safe met p q = reading_own fault safe met.0 q
  met_own (a_change_fault.Op fault) safe met p q = doing_own fault met p q
  met_own (a_change_fault.Encode an_encode.OutOfMemory) safe met p q = tt
  met_own (a_change_fault.Encode (an_encode.TooLarge size)) safe met p q = unfit_own (an_encode.TooLarge size) met
  met_own (a_change_fault.Encode an_encode.IdsSpent) safe met p q = unfit_own an_encode.IdsSpent met
  met_own a_change_fault.Held safe met p q = absurd met
  met_own a_change_fault.ShelfFailed safe met p q = steady_not_rose before after q met.0

-- among the faults of an operation that are told so only one is this
op_tree : {Q : Type 0} (fault : OpFault) → a_fault.TreeFailed ≡ of_op fault → (fault ≡ an_op.TreeFailed → Q) → Q
op_tree an_op.OutOfMemory is so = absurd (cc is)
op_tree an_op.TreeFailed is so = so refl
op_tree an_op.ShelfFailed is so = absurd (cc is)
op_tree (an_op.NoManifest id) is so = absurd (cc is)
op_tree (an_op.ManifestTooLarge size) is so = absurd (cc is)
op_tree (an_op.ManifestLine line) is so = absurd (cc is)
op_tree (an_op.ManifestOrder line) is so = absurd (cc is)
op_tree (an_op.NoContents id) is so = absurd (cc is)

-- a command that doesn't look at the working copy has nothing to blame on it
serves_met : (command : Command) (copy : Watched tree.History) (files : Watched History) → (looks_at_copy command ≡ true → Serves copy) → (loaded : Table)
    → (makes_of command copy files).stops loaded a_fault.TreeFailed → Serves copy
serves_met (a_command.Add words) copy files serves loaded stops = serves refl
serves_met (a_command.Forget words) copy files serves loaded (met, is, stops) = op_tree met is (λ same. absurd (cc (same, stops)))
serves_met (a_command.Remove after words) copy files serves loaded stops = serves refl
serves_met (a_command.Copy source target) copy files serves loaded stops = serves refl
serves_met (a_command.SetParents p1 p2) copy files serves loaded (met, is, stops) = op_tree met is (λ same. absurd (subst (StopsParents p1 p2 files) same stops))
serves_met (a_command.Status flags) copy files serves loaded (met, is, stops) = absurd stops
serves_met a_command.DebugDirstate copy files serves loaded (met, is, stops) = absurd stops
serves_met a_command.DebugScript copy files serves loaded (met, is, stops) = absurd stops
serves_met (a_command.DebugLoad n) copy files serves loaded (met, is, stops) = absurd stops

-- what is made of the record so far as a command came is made of it
abbrev made_plain : (Does : Makes) (read : Option Table) (work : Option Made) (files : Files) (made : Table) (said : Told) (changed : Bool) → IsMadeOf (only_so Does read work) files made said changed → IsMadeOf Does files made said changed
made_plain Does read work files made said changed is = record { loaded = is.loaded; recorded = is.recorded; does = is.does.2 }

unfit_plain : (Does : Makes) (read : Option Table) (work : Option Made) (files : Files) (fault : EncodeFault) → IsUnfitFor (only_so Does read work) files fault → IsUnfitFor Does files fault
unfit_plain Does read work files fault is = record { made = is.made; said = is.said; is = made_plain Does read work files is.made is.said true is.is; unfit = is.unfit }

stop_plain : (Does : Makes) (read : Option Table) (work : Option Made) (files : Files) (fault : Fault) → IsStoppedFor (only_so Does read work) files fault → IsStoppedFor Does files fault
stop_plain Does read work files fault is = record { loaded = is.loaded; recorded = is.recorded; stops = is.stops.1 }

-- what is expected of a command so far as it came is expected of it
expected_plain : (Does : Makes) (read : Option Table) (work : Option Made) (files : Files) (fault : Option Fault) → IsExpectedChange (only_so Does read work) files fault → IsExpectedChange Does files fault
expected_plain Does read work files None is = record { made = is.made; said = is.said; changed = is.changed; is = made_plain Does read work files is.made is.said is.changed is.is; fits = is.fits }
expected_plain Does read work files (Some (a_fault.TooLarge size)) is = unfit_plain Does read work files (an_encode.TooLarge size) is
expected_plain Does read work files (Some a_fault.IdsSpent) is = unfit_plain Does read work files an_encode.IdsSpent is
expected_plain Does read work files (Some (a_fault.NoManifest id)) is = stop_plain Does read work files (a_fault.NoManifest id) is
expected_plain Does read work files (Some (a_fault.ManifestTooLarge size)) is = stop_plain Does read work files (a_fault.ManifestTooLarge size) is
expected_plain Does read work files (Some (a_fault.ManifestLine line)) is = stop_plain Does read work files (a_fault.ManifestLine line) is
expected_plain Does read work files (Some (a_fault.ManifestOrder line)) is = stop_plain Does read work files (a_fault.ManifestOrder line) is
expected_plain Does read work files (Some (a_fault.NoContents id)) is = stop_plain Does read work files (a_fault.NoContents id) is
expected_plain Does read work files (Some fault) is = is

-- a status of lines is 0 or 1
pub status_either : (n : ℕ) (lines : List ℕ) → n ≡ status_of lines → (n ≡ 0) ⊎ (n ≡ 1)
status_either n [] is = inl is
status_either n (byte ∷ lines) is = inr is

-- a fault of what the command met is told as another than those of the streams
no_stream : (fault : ChangeFault) → is_stream (of_change fault) ≡ false
no_stream (a_change_fault.Read a_read.OutOfMemory) = refl
no_stream (a_change_fault.Read (a_read.Docket fault)) = refl
no_stream (a_change_fault.Read (a_read.Node fault)) = refl
no_stream (a_change_fault.Read (a_read.DataGone ids)) = refl
no_stream (a_change_fault.Read a_read.Failed) = refl
no_stream (a_change_fault.Op an_op.OutOfMemory) = refl
no_stream (a_change_fault.Op an_op.TreeFailed) = refl
no_stream (a_change_fault.Op an_op.ShelfFailed) = refl
no_stream (a_change_fault.Op (an_op.NoManifest id)) = refl
no_stream (a_change_fault.Op (an_op.ManifestTooLarge size)) = refl
no_stream (a_change_fault.Op (an_op.ManifestLine line)) = refl
no_stream (a_change_fault.Op (an_op.ManifestOrder line)) = refl
no_stream (a_change_fault.Op (an_op.NoContents id)) = refl
no_stream (a_change_fault.Encode an_encode.OutOfMemory) = refl
no_stream (a_change_fault.Encode (an_encode.TooLarge size)) = refl
no_stream (a_change_fault.Encode an_encode.IdsSpent) = refl
no_stream a_change_fault.Held = refl
no_stream a_change_fault.ShelfFailed = refl

-- ---- the whole command

module _ (command : Command) (copy : Watched tree.History) (a b : Course) (before after : ℕ) (locks oversize : Count) (out err : Watched (Option (List ℕ)))
    (silent : IsSilent out) (uncounted : oversize.after ≡ oversize.before) (come : Come (makes_of command copy (record { old = a.history; new = b.history; before = before; after = after })) (record { old = a.history; new = b.history; before = before; after = after }))
    (changes : ChangesBehind command copy come.read) (asked : IsTrue a.history.told → AsksChange command copy come.read a.history b.history) (kept : Goes a b) where
  abbrev call : Call
  call = record {
    command = command;
    looked = record { tree = copy; shelf = record { old = a.history; new = b.history; before = before; after = after }; oversize = oversize };
    saved = record { old = a; new = b };
    locks = locks;
    out = out;
    err = err;
  }

  -- what the command makes, so far as it came
  abbrev Does : Makes
  Does = come_so come

  -- what came of the lock, where this is the fault
  abbrev pub LockedBy : Option Fault → Type 0
  LockedBy fault = IsLocked Does copy call.looked.shelf call.saved locks fault

  -- so it is where another fault is told, or none
  locked_as : (first told : Option Fault) → ((fault : Fault) → IsFaultOrMemory first fault → IsFaultOrMemory told fault) → LockedBy first → LockedBy told
  locked_as first told same = ends_by (answers_as a_fault.Held) (answers_as a_fault.ShelfFailed) behind_as call.looked.shelf locks
    where
      answers_as : (met : Fault) → OnlyAnswers copy call.looked.shelf first met → OnlyAnswers copy call.looked.shelf told met
      answers_as met is = record { unasked = is.unasked; unlooked = is.unlooked; answer = same met is.answer }

      behind_as : FailsBehind Does copy call.looked.shelf call.saved first → FailsBehind Does copy call.looked.shelf call.saved told
      behind_as (inl done) = inl (same a_fault.ShelfFailed done.0, done.1, done.2, done.3)
      behind_as (inr met) = inr (met.0, same (of_change met.0) met.1, met.2, met.3)

  -- where there is none there was none
  never_none : {Q : Type 0} (fault : Fault) → IsFaultOrMemory None fault → Q
  never_none fault is = not_without None fault is refl

  -- a command may write nothing but the record
  nothing : (from to : Scene) → Does.may from to → ⊥
  nothing = may_nothing command copy call.looked.shelf

  says_change : (stretch : Stretch a.history b.history) (said : Told) → IsDone Does call.looked.shelf call.saved stretch.from stretch.to said → SaysChange Does call said
  says_change stretch said done = record { stretch = stretch; done = done; lasts = λ calm keep. lasting a b kept calm keep (stood_in (scene b stretch.from).files) done.is.loaded done.made stretch (done.kept calm) }

  pub ran_done : LockedBy None → (status : ℕ) (stretch : Stretch a.history b.history) (lines : List ℕ) (done : IsDone Does call.looked.shelf call.saved stretch.from stretch.to (refusing lines)) → Grown err.old err.new lines → status ≡ status_of lines
      → (Undisturbed a b → IsSafe Does call.saved None) → copy.after ≡ copy.before → after ≡ before → err.after ≡ err.before → (locks.before < locks.after → ⊥) → (copy.before < copy.after → ⊥)
      → EndsChange call status None
  ran_done locked status stretch lines done grown is safe calm_tree calm_shelf calm_err unheld well = record {
    ran = record {
      come = come;
      shows = record {
        done = λ none. record {
          ready = tt;
          said = refusing lines;
          says = says_change stretch (refusing lines) done;
          printed = puts_none out silent;
          told = record { text = lines; is = refl; put = grown; calm = calm_err };
        };
        left = tt;
      };
      ends = λ none. is;
      safe = safe;
      held = λ rose. absurd (unheld rose);
      complete = λ quiet r steady.
          expected_plain (makes_in call) come.read come.work (now a.history).files None (done_own Does nothing copy a b before after kept.past quiet.shelf stretch.from stretch.to (refusing lines) done);
      silent = silent;
      uncounted = uncounted;
      copy = changes;
      asked = asked;
      locked = locked;
    };
    kept = kept;
    calm = λ none. record { tree = calm_tree; shelf = calm_shelf; regexps = uncounted; out = silent.count; err = calm_err };
    streams = tt;
    tree = λ rose. absurd (well rose);
  }

  safe_untold : IsSafe Does call.saved None → IsSafe Does call.saved (Some a_fault.ErrFailed)
  safe_untold (inl only) = inl only
  safe_untold (inr (may, is)) = inr (inr (inl refl), is)

  -- the error stream failed while the refused words were told
  pub ran_untold : LockedBy None → (stretch : Stretch a.history b.history) (lines : List ℕ) (done : IsDone Does call.looked.shelf call.saved stretch.from stretch.to (refusing lines)) → GrownByFront err.old err.new lines → Fails err → after ≡ before
      → (Undisturbed a b → IsSafe Does call.saved None) → (locks.before < locks.after → ⊥) → (copy.before < copy.after → ⊥) → (status : ℕ) → EndsChange call status (Some a_fault.ErrFailed)
  ran_untold locked stretch lines done grown failed calm_shelf safe unheld well status = record {
    ran = record {
      come = come;
      shows = record {
        done = λ none. absurd (cc none);
        left = (
          at_telling,
          (
            tt,
            tt,
            record {
              said = refusing lines;
              says = says_change stretch (refusing lines) done;
              printed = puts_none out silent;
              behind = record { text = lines; is = refl; put = grown; failed = failed };
            },
            refl,
          ),
        );
      };
      ends = λ none. absurd (cc none);
      safe = λ calm. safe_untold (safe calm);
      held = λ rose. absurd (unheld rose);
      complete = λ quiet r steady. steady_not_rose err.before err.after r failed;
      silent = silent;
      uncounted = uncounted;
      copy = changes;
      asked = asked;
      locked = locked_as None (Some a_fault.ErrFailed) (λ fault is. never_none fault is) locked;
    };
    kept = kept;
    calm = λ none. absurd (cc none);
    streams = λ is. calm_shelf;
    tree = λ rose. absurd (well rose);
  }

  safe_any : (fault : Fault) → IsSafe Does call.saved (Some fault) → IsSafe Does call.saved (Some a_fault.OutOfMemory)
  safe_any fault (inl only) = inl only
  safe_any fault (inr (may, is)) = inr (inr (inr refl), is)

  locked_own : (fault : ChangeFault) → IsSafe Does call.saved (Some (of_change fault)) → MetLocking Does copy call.looked.shelf locks fault → IsOurs a.history b.history → ServesMet Does copy → Serves call.looked.shelf
      → IsSteady locks.before locks.after → IsExpectedChange Does (now a.history).files (Some (of_change fault))
  locked_own fault safe (inl met) own p q steady = met_own Does nothing copy a b before after kept.past own fault safe met p q
  locked_own fault safe (inr (held, rose, alone)) own p q steady = absurd (steady_not_rose locks.before locks.after steady rose)

  shelf_met : MetLocking Does copy call.looked.shelf locks a_change_fault.ShelfFailed → MetChanging Does copy call.looked.shelf a_change_fault.ShelfFailed
  shelf_met (inl met) = met
  shelf_met (inr (held, rose, alone)) = absurd (cc held)

  shelf_fails : (fault : ChangeFault) → fault ≡ a_change_fault.ShelfFailed → MetLocking Does copy call.looked.shelf locks fault → MetChanging Does copy call.looked.shelf a_change_fault.ShelfFailed
  shelf_fails fault is met = shelf_met (subst (MetLocking Does copy call.looked.shelf locks) is met)

  -- where it was met, whether it is told, or want of memory for its line
  stage_same : (fault : ChangeFault) → MetLocking Does copy call.looked.shelf locks fault → FailsOrUnwritten a.history b.history fault → Tells err (of_change fault)
      → (stage : Stage) × LeavesAt (change_look Does call) out err Tells stage (of_change fault)
  stage_same fault met (inl is) line = (at_saving, ((shelf_fails fault is met, inl (ap of_change is)), (silent, line)))
  stage_same fault met (inr none) line = (at_first, ((inl none, fault, inl refl, met), silent, line))

  stage_memory : (fault : ChangeFault) → MetLocking Does copy call.looked.shelf locks fault → FailsOrUnwritten a.history b.history fault → Tells err a_fault.OutOfMemory
      → (stage : Stage) × LeavesAt (change_look Does call) out err Tells stage a_fault.OutOfMemory
  stage_memory fault met (inl is) line = (at_saving, ((shelf_fails fault is met, inr refl), (silent, line)))
  stage_memory fault met (inr none) line = (at_first, ((inl none, fault, inr refl, met), silent, line))

  ran_fault : (status : ℕ) (fault : ChangeFault) (answered : Fault) → LockedBy (Some (of_change fault)) → (answered ≡ of_change fault) ⊎ (answered ≡ a_fault.OutOfMemory) → MetLocking Does copy call.looked.shelf locks fault
      → (Undisturbed a b → IsSafe Does call.saved (Some (of_change fault))) → FailsOrUnwritten a.history b.history fault → (locks.before < locks.after → fault ≡ a_change_fault.Held)
      → (copy.before < copy.after → fault ≡ a_change_fault.Op an_op.TreeFailed)
      → TellsLine err.old err.new err.before err.after answered → EndsChange call status (Some answered)
  ran_fault status fault answered locked (inl same) met safe written held failed line =
      subst (λ (f : Fault). TellsLine err.old err.new err.before err.after f → EndsChange call status (Some f)) (sym same) (λ told. record {
        ran = record {
          come = come;
          shows = record { done = λ none. absurd (cc none); left = stage_same fault met written told };
          ends = λ none. absurd (cc none);
          safe = safe;
          held = λ rose. inl (ap (λ (f : ChangeFault). Some (of_change f)) (held rose));
          complete = λ quiet r steady.
              expected_plain (makes_in call) come.read come.work (now a.history).files (Some (of_change fault))
              (locked_own fault (safe (calm_own a b quiet.shelf)) met quiet.shelf (λ loaded stops. serves_met command copy call.looked.shelf (λ is. (quiet.copy is).1) loaded stops.1) quiet.serves steady);
          silent = silent;
          uncounted = uncounted;
          copy = changes;
          asked = asked;
          locked = locked;
        };
        kept = kept;
        calm = λ none. absurd (cc none);
        streams = λ is. absurd (true≢false (sym is ∙ no_stream fault));
        tree = λ rose. inl (ap (λ (f : ChangeFault). Some (of_change f)) (failed rose));
      }) line
  ran_fault status fault answered locked (inr memory) met safe written held failed line =
      subst (λ (f : Fault). TellsLine err.old err.new err.before err.after f → EndsChange call status (Some f)) (sym memory) (λ told. record {
        ran = record {
          come = come;
          shows = record { done = λ none. absurd (cc none); left = stage_memory fault met written told };
          ends = λ none. absurd (cc none);
          safe = λ calm. safe_any (of_change fault) (safe calm);
          held = λ rose. inr refl;
          complete = λ quiet r steady. tt;
          silent = silent;
          uncounted = uncounted;
          copy = changes;
          asked = asked;
          locked = locked_as (Some (of_change fault)) (Some a_fault.OutOfMemory) (λ met is. inr refl) locked;
        };
        kept = kept;
        calm = λ none. absurd (cc none);
        streams = λ is. absurd (true≢false (sym is));
        tree = λ rose. inr refl;
      }) line

  pub ran_failed : (status : ℕ) (fault : ChangeFault) (answered : Option Fault) → LockedBy (Some (of_change fault)) → IsFaultOrMemory answered (of_change fault) → MetLocking Does copy call.looked.shelf locks fault
      → (Undisturbed a b → IsSafe Does call.saved (Some (of_change fault))) → FailsOrUnwritten a.history b.history fault → (locks.before < locks.after → fault ≡ a_change_fault.Held)
      → (copy.before < copy.after → fault ≡ a_change_fault.Op an_op.TreeFailed)
      → IfSome answered (λ f. TellsLine err.old err.new err.before err.after f) → EndsChange call status answered
  ran_failed status fault None locked is met safe written held failed line = not_without None (of_change fault) is refl
  ran_failed status fault (Some f) locked (inl same) met safe written held failed line = ran_fault status fault f locked (inl (cc same)) met safe written held failed line
  ran_failed status fault (Some f) locked (inr memory) met safe written held failed line = ran_fault status fault f locked (inr (cc memory)) met safe written held failed line
