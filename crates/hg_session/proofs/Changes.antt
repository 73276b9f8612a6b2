-- What a command that changes the record did, from what its parts did.
use Rattle.std.proofs.Common.{ℕ, ◌≡◌, ◌<◌, Bool, true, false, List, [], ◌∷◌, Option, Some, None, Ok, Err, IsTrue, refl, sym, ap, ◌∙◌, subst, inl, inr, arith}
use Rattle.std.proofs.lemmas.Bool.{cases_Bool}
use Rattle.hg_append.specs.declared.fault.EncodeFault.{EncodeFault}
use Rattle.hg_append.specs.declared.fault.EncodeFault.TheVariants as an_encode
use Rattle.hg_append.specs.Either.{HasCauseBy}
use Rattle.hg_append.specs.Loss.{plan_of}
use Rattle.hg_base.specs.Fault.{Rose}
use Rattle.hg_docket.specs.Docket.{Contents, docket_of, docket_refusal}
use Rattle.hg_entry.specs.Table.{Table}
use Rattle.hg_image.specs.Reading.{data_reading, of_data}
use Rattle.hg_mixed.specs.Edits.{IsOfSameImage}
use Rattle.hg_nodes.specs.Edits.{IsSame}
use Rattle.hg_mixed.specs.Held.{Held, table}
use Rattle.hg_ops.proofs.Added.{same_table}
use Rattle.hg_save.specs.Over.{HasUsed, IsLentRight}
use Rattle.hg_ops.specs.declared.refusal.OpFault.{OpFault}
use Rattle.hg_ops.specs.declared.refusal.OpFault.TheVariants as an_op
use Rattle.hg_report.specs.Cause.{of_op}
use Rattle.hg_report.specs.declared.fault.Fault.{Fault}
use Rattle.hg_save.specs.Loads.{IsLoad, IsTry, Loads, Tries, Try, files_at, found_by}
use Rattle.hg_save.specs.Others.{IsFrontOf, named_file}
use Rattle.hg_save.specs.Record.{docket_in, shown_in, reading}
use Rattle.hg_save.specs.Saved.{Stands}
use Rattle.hg_save.specs.declared.load_fault.LoadFault.{LoadFault}
use Rattle.hg_save.specs.declared.loaded.Loaded.{Loaded}
use Rattle.hg_save.proofs.Loads.{found_longer, last_within, tries_longer}
use Rattle.hg_session.specs.Acts.{AsksBehind, ChangesTree, Makes}
use Rattle.hg_session.specs.Anew.{IsOverwritten, IsRecorded, MetWriting, WritesOnly}
use Rattle.hg_session.specs.Reading.{IsOpened, LoadsOrRefuses, by_load, NodesFind}
use Rattle.hg_session.specs.Call.{Fails, IsLeftAlone, Watched}
use Rattle.hg_session.specs.Change.{AsksChange, ChangesBehind, IsDone, IsKept, IsMade, IsPublished, IsReadFirst, IsToBlame, IsUnwritten, MetChanging, MetUnfit, stood_read, up_to, Come}
use Rattle.hg_session.specs.Changing.{IsSafeHeld}
use Rattle.hg_session.specs.Loaded.{AsksRecord, Refuses}
use Rattle.hg_session.specs.Kept.{KeepsLent}
use Rattle.hg_session.specs.Told.{Told}
use Rattle.hg_session.specs.Ways.{CanWrite, Fits, IsMadeOver, LendsUnchanged, stood_by, stood_in}
use Rattle.hg_session.specs.declared.change_fault.ChangeFault.{ChangeFault}
use Rattle.hg_session.specs.declared.change_fault.ChangeFault.TheVariants as a_change_fault
use Rattle.hg_session.specs.declared.read_fault.ReadFault.{ReadFault}
use Rattle.hg_session.specs.declared.read_fault.ReadFault.TheVariants as a_read
use Rattle.hg_session.proofs.Lending.{lends_by}
use Rattle.hg_session.proofs.Locked.{end_remains, front_docket, front_files, front_found, none_front, unwritten, unwritten_then}
use Rattle.hg_session.proofs.Publishing.{kept_over, over_there, published_over}
use Rattle.hg_session.proofs.ReadNodes.{nodes_by}
use Rattle.hg_session.proofs.Readings.{refused_by, sound_reading}
use Rattle.hg_session.proofs.SameTables.{one_table}
use Rattle.hg_shelf.specs.History as shelf
use Rattle.hg_shelf.specs.History.{Extends, Files, History, Passes}
use Rattle.hg_shelf.specs.Images.{Course, Goes, last_scene, scene}
use Rattle.hg_shelf.specs.Polite.{Undisturbed}
use Rattle.hg_tree.specs.History as tree
use Rattle.hg_words.specs.declared.given.Command.{Command}

-- ---- why it met a fault, before it wrote

-- a load that was refused
pub refused_load : (old new : History) (tries : List Try) (fault : LoadFault) → Loads old new tries (Err fault) → Refuses old new tries (by_load fault)
refused_load old new tries fault loads = record { tried = loads.tried; answer = refused_by fault old new tries loads }

module _ (Does : Makes) (copy : Watched tree.History) (files : Watched shelf.History) where
  -- the record could not be read
  pub met_read : (fault : ReadFault) → (IsTrue files.old.told → (tried : Try) × Refuses files.old files.new (tried ∷ []) fault) → (fault ≡ a_read.Failed → Fails files) → IsLeftAlone copy → MetChanging Does copy files (a_change_fault.Read fault)
  met_read a_read.OutOfMemory met failed alone = (tt, alone)
  met_read (a_read.Docket fault) met failed alone = (λ told. let m = met told in (m.0 ∷ [], m.1), alone)
  met_read (a_read.Node fault) met failed alone = (λ told. let m = met told in (m.0 ∷ [], m.1), alone)
  met_read (a_read.DataGone ids) met failed alone = (λ told. let m = met told in (m.0 ∷ [], m.1), alone)
  met_read a_read.Failed met failed alone = (failed refl, alone)

  -- its nodes could not
  pub met_opened : {X : Type 0} (IsOf : Table → X → Type 0) (loaded : Loaded) (fault : ReadFault) → docket_refusal loaded.shown.items ≡ None
      → (IsTrue files.old.told → (tried : Try) × LoadsOrRefuses files.old files.new (tried ∷ []) (Ok loaded))
      → NodesFind IsOf (Err fault) (data_reading (docket_of loaded.shown.items) loaded.nodes.items) → IsLeftAlone copy → MetChanging Does copy files (a_change_fault.Read fault)
  met_opened IsOf loaded a_read.OutOfMemory sound loads finds alone = (tt, alone)
  met_opened IsOf loaded (a_read.Node fault) sound loads finds alone = (
    λ told.
        let m = loads told in (
          m.0 ∷ [],
          record { tried = m.1.tried; answer = m.1.answer.reading ∙ ap (λ r. Some r) (sound_reading loaded.shown.items loaded.nodes.items sound ∙ ap (λ r. of_data r) finds) },
        ),
    alone,
  )
  met_opened IsOf loaded (a_read.Docket fault) sound loads finds alone = absurd finds
  met_opened IsOf loaded (a_read.DataGone ids) sound loads finds alone = absurd finds
  met_opened IsOf loaded a_read.Failed sound loads finds alone = absurd finds

-- it came to nothing
abbrev pub none_come : (Does : Makes) (files : Watched shelf.History) → Come Does files
none_come Does files = record { read = None; loaded = tt; work = None; does = tt }

-- ---- the record that was read first

-- a record was loaded by these tries
pub record HasLoaded (old new : History) (tries : List Try) (loaded : Loaded) : Type 0 where
  pub tried : Tries old new tries
  pub answer : IsLoad (docket_in (files_at new tried.last.docket)) (found_by new tried.last) loaded
  pub nodes : (recorded : Table) → docket_refusal loaded.shown.items ≡ None → data_reading (docket_of loaded.shown.items) loaded.nodes.items ≡ Ok recorded → 0 < (docket_of loaded.shown.items).used
      → IsFrontOf (named_file loaded.shown.items (files_at new tried.last.file)) (docket_of loaded.shown.items).used loaded.nodes.items

loaded_longer : (old mid new : History) (tries : List Try) (loaded : Loaded) → Extends mid new → Loads old mid tries (Ok loaded) → HasLoaded old new tries loaded
loaded_longer old mid new tries loaded past loads = record {
  tried = tries_longer old mid new tries past loads.tried;
  answer = record {
    docket = loads.answer.docket ∙ ap docket_in (sym (past.stay loads.tried.last.docket (last_within old mid tries loads.tried).docket.to).shown);
    shown = loads.answer.shown ∙ ap shown_in (sym (past.stay loads.tried.last.docket (last_within old mid tries loads.tried).docket.to).shown);
    reading = found_longer old mid new tries past loads.tried ∙ loads.answer.reading;
  };
  nodes = λ recorded sound nodes uses.
      subst (λ (f : Files). IsFrontOf (named_file loaded.shown.items f) (docket_of loaded.shown.items).used loaded.nodes.items)
      (sym (past.stay loads.tried.last.file (last_within old mid tries loads.tried).file.to).shown) (nodes_by old mid tries loaded recorded loads sound nodes uses);
}

-- so it was, seen from a later place
pub loads_upto : (old mid new : History) (loaded : Loaded) → Extends mid new → (IsTrue old.told → (tried : Try) × LoadsOrRefuses old mid (tried ∷ []) (Ok loaded))
    → IsTrue old.told → (tried : Try) × HasLoaded old new (tried ∷ []) loaded
loads_upto old mid new loaded past loads told = let l = loads told in (l.0, loaded_longer old mid new (l.0 ∷ []) loaded past l.1)

-- the shelf before the load, behind it and at the end; what was loaded, the table that it records, and the one that was made of it
module _ (a b c : Course) (passes : Passes a.history b.history) (goes : Goes b c) (loaded : Loaded) (sound : docket_refusal loaded.shown.items ≡ None)
    (loads : IsTrue a.history.told → (tried : Try) × HasLoaded a.history b.history (tried ∷ []) loaded)
    (recorded : Table) (nodes : data_reading (docket_of loaded.shown.items) loaded.nodes.items ≡ Ok recorded) where
  abbrev tried_within : (told : IsTrue a.history.told) → IsTry a.history b.history (loads told).1.tried.last
  tried_within told = last_within a.history b.history ((loads told).0 ∷ []) (loads told).1.tried

  pub found_is : (told : IsTrue a.history.told) → found_by b.history (loads told).1.tried.last ≡ Some (Ok recorded)
  found_is told = (loads told).1.answer.reading ∙ ap (λ r. Some r) (sound_reading loaded.shown.items loaded.nodes.items sound ∙ ap (λ r. of_data r) nodes)

  abbrev pub read_first : IsTrue a.history.told → IsReadFirst a.history c.history recorded
  read_first told =
      let m = loads told in
      let longer : Extends b.history (up_to b.history.last c.history) = record { told = goes.past.told; later = omega arith; who = goes.past.who; stay = goes.past.stay } in
      record {
        upto = b.history.last;
        later = passes.past.later;
        within = goes.past.later;
        none = none_front a b c passes goes;
        read = record {
          tries = m.0 ∷ [];
          tried = tries_longer a.history b.history (up_to b.history.last c.history) (m.0 ∷ []) longer m.1.tried;
          found = found_longer a.history b.history (up_to b.history.last c.history) (m.0 ∷ []) longer m.1.tried ∙ found_is told;
        };
      }

  -- the docket that was read
  docket_read : (told : IsTrue a.history.told) → shown_in (files_at c.history (loads told).1.tried.last.docket) ≡ loaded.shown.items
  docket_read told = ap shown_in (goes.past.stay (loads told).1.tried.last.docket (tried_within told).docket.to).shown ∙ sym (loads told).1.answer.shown

  -- a table in memory that was opened over what was loaded, whatever was changed in it
  module _ (held : Held) (is : held.docket ≡ docket_of loaded.shown.items) (bytes : held.bytes ≡ loaded.nodes.items) (lends : LendsUnchanged held) where
    pub over_read : (told : IsTrue a.history.told) → IsMadeOver (stood_by c.history (loads told).1.tried.last) (table held) held
    over_read told =
        let tried : Try = (loads told).1.tried.last in
        record {
          docket = is ∙ ap docket_of (sym (docket_read told));
          nodes =
              subst (λ (f : Files). 0 < held.docket.used → IsFrontOf (named_file (shown_in (files_at c.history tried.docket)) f) held.docket.used held.bytes)
              (sym (goes.past.stay tried.file (tried_within told).file.to).shown)
              (subst (λ (l : List ℕ). 0 < held.docket.used → IsFrontOf (named_file l (files_at b.history tried.file)) held.docket.used held.bytes) (sym (docket_read told))
              (subst (λ (l : List ℕ). 0 < held.docket.used → IsFrontOf (named_file loaded.shown.items (files_at b.history tried.file)) held.docket.used l) (sym bytes)
              (subst (λ (d : Contents). 0 < d.used → IsFrontOf (named_file loaded.shown.items (files_at b.history tried.file)) d.used loaded.nodes.items) (sym is)
              ((loads told).1.nodes recorded sound nodes))));
          same = same_table (table held);
          lends = lends;
        }

    -- what can be written could be over the record that was read
    pub fits_first : CanWrite held → (told : IsTrue a.history.told) → Fits (stood_read (read_first told)) (table held)
    fits_first can told = record { held = held; over = over_read told; can = can }

  -- ---- what the words made of it

  to_blame : (copy : Watched tree.History) (files : Watched shelf.History) (fault : OpFault) → (fault ≡ an_op.TreeFailed → Fails copy) → (fault ≡ an_op.ShelfFailed → Fails files) → IsToBlame copy files fault
  to_blame copy files an_op.TreeFailed tree_failed shelf_failed = tree_failed refl
  to_blame copy files an_op.ShelfFailed tree_failed shelf_failed = shelf_failed refl
  to_blame copy files fault tree_failed shelf_failed = tt

  -- what the command met behind it
  pub met_acting : (Does : Makes) (copy : Watched tree.History) (opened : Held) (begun : IsOpened loaded recorded opened) (before mid after : ℕ) (fault : OpFault)
      → mid ≡ before → Does.stops (table opened) (of_op fault) → (fault ≡ an_op.TreeFailed → Fails copy) → (fault ≡ an_op.ShelfFailed → Rose mid after)
      → MetChanging Does copy (record { old = a.history; new = c.history; before = before; after = after }) (a_change_fault.Op fault)
  met_acting Does copy opened begun before mid after fault still stops tree_failed shelf_failed = (
    record { loaded = recorded; read = read_first; stops = subst (λ (t : Table). Does.stops t (of_op fault)) (one_table (table opened) recorded begun.same) stops },
    to_blame copy (record { old = a.history; new = c.history; before = before; after = after }) fault tree_failed (λ is. subst (λ (n : ℕ). Rose n after) still (shelf_failed is)),
  )

  -- what becomes of the working copy behind it
  pub changes_by : (command : Command) (copy : Watched tree.History) (opened : Held) (begun : IsOpened loaded recorded opened) → ChangesTree command (table opened) copy
      → ChangesBehind command copy (Some recorded)
  changes_by command copy opened begun changes = inr (subst (λ (t : Table). ChangesTree command t copy) (one_table (table opened) recorded begun.same) changes)

  -- what was asked for, the record first
  pub asks_by : (command : Command) (copy : Watched tree.History) (opened : Held) (begun : IsOpened loaded recorded opened) (mid : History) → Extends mid b.history → c.history.asked ≡ b.history.asked
      → (IsTrue a.history.told → AsksRecord a.history mid) → (IsTrue mid.told → AsksBehind command copy (table opened) mid b.history) → Extends a.history mid → IsTrue a.history.told → AsksChange command copy (Some recorded) a.history c.history
  asks_by command copy opened begun mid past quiet load asks first told = record {
    mid = mid;
    end = b.history;
    past = past;
    later = goes.past;
    quiet = quiet;
    load = load told;
    behind = inr (subst (λ (t : Table). AsksBehind command copy t mid b.history) (one_table (table opened) recorded begun.same) (asks (first.told ∙ told)));
  }

  module _ (Does : Makes) (opened made : Held) (begun : IsOpened loaded recorded opened) (image : IsOfSameImage opened made) (keeps : KeepsLent opened made)
      (said : Told) (acted : Does.does (table opened) (table made) said made.changed) where
    does_from : Does.does recorded (table made) said made.changed
    does_from = subst (λ (t : Table). Does.does t (table made) said made.changed) (one_table (table opened) recorded begun.same) acted

    unwritten_still : c ≡ b → IsUnwritten a.history c.history
    unwritten_still none = subst (λ (x : Course). IsUnwritten a.history x.history) (sym none) (unwritten a.history b.history passes)

    docket_is : made.docket ≡ docket_of loaded.shown.items
    docket_is = image.docket ∙ begun.contents

    bytes_is : made.bytes ≡ loaded.nodes.items
    bytes_is = image.bytes ∙ begun.nodes

    lends_made : IsLentRight made → LendsUnchanged made
    lends_made = lends_by opened made image.docket image.bytes begun.image begun.lent begun.placed keeps

    abbrev made_by : (before after : ℕ) → IsMade Does (record { old = a.history; new = c.history; before = before; after = after }) (table made) said made.changed
    made_by before after = record { loaded = recorded; read = read_first; does = does_from }

    -- where something was changed
    abbrev made_anew : (before after : ℕ) → made.changed ≡ true → IsMade Does (record { old = a.history; new = c.history; before = before; after = after }) (table made) said true
    made_anew before after set = record { loaded = recorded; read = read_first; does = subst (λ (changed : Bool). Does.does recorded (table made) said changed) set does_from }

    by_unfit : (copy : Watched tree.History) (before after : ℕ) (fault : EncodeFault) → HasCauseBy made (plan_of made) fault → made.changed ≡ true → IsLentRight made
        → MetUnfit Does (record { old = a.history; new = c.history; before = before; after = after }) fault
    by_unfit copy before after fault cause set whole = record {
      made = table made;
      said = said;
      is = made_anew before after set;
      unfit = λ told. record { held = made; over = over_read made docket_is bytes_is (lends_made whole) told; cause = cause };
    }

    by_encode : (copy : Watched tree.History) (before after : ℕ) (fault : EncodeFault) → HasCauseBy made (plan_of made) fault → made.changed ≡ true → IsLentRight made
        → MetChanging Does copy (record { old = a.history; new = c.history; before = before; after = after }) (a_change_fault.Encode fault)
    by_encode copy before after an_encode.OutOfMemory cause set whole = record { made = table made; said = said; changed = true; is = made_anew before after set }
    by_encode copy before after (an_encode.TooLarge size) cause set whole = by_unfit copy before after (an_encode.TooLarge size) cause set whole
    by_encode copy before after an_encode.IdsSpent cause set whole = by_unfit copy before after an_encode.IdsSpent cause set whole

    -- it was not written
    pub met_writing : (copy : Watched tree.History) (before mid after : ℕ) (fault : ChangeFault) → mid ≡ before → (made.changed ≡ true → IsLentRight made) → MetWriting made mid after fault → MetChanging Does copy (record { old = a.history; new = c.history; before = before; after = after }) fault
    met_writing copy before mid after fault still whole (inl (e, is, cause, set)) = subst (MetChanging Does copy (record { old = a.history; new = c.history; before = before; after = after })) (sym is) (by_encode copy before after e cause set (whole set))
    met_writing copy before mid after fault still whole (inr (is, rose)) =
        subst (MetChanging Does copy (record { old = a.history; new = c.history; before = before; after = after })) (sym is) (subst (λ (n : ℕ). Rose n after) still rose, inr (record { made = table made; said = said; changed = made.changed; is = made_by before after }))

    -- ---- what is left of it

    module _ (ours : a.history.ours ≡ true) (calm : Undisturbed a c) where
      abbrev tried : Try
      tried = (loads calm.told).1.tried.last

      there : reading (scene c a.history.last).files ≡ Some (Ok recorded)
      there = sym (front_found a b c ours passes goes calm tried (tried_within calm.told)) ∙ found_is calm.told

      pub stands : Stands loaded.shown.items (last_scene b)
      stands = front_docket a b c ours passes goes calm tried (tried_within calm.told) ∙ sym (loads calm.told).1.answer.shown

      pub used_there : HasUsed loaded (last_scene b)
      used_there = λ uses.
          subst (λ (f : Files). IsFrontOf (named_file loaded.shown.items f) (docket_of loaded.shown.items).used loaded.nodes.items)
          (front_files a b c ours passes goes calm tried.file (tried_within calm.told).file ∙ sym (end_remains a b c ours passes goes calm).shown)
          ((loads calm.told).1.nodes recorded sound nodes uses)

      published_by : (made.changed ≡ true → IsLentRight made) → IsOverwritten made loaded b c → IsPublished Does c a.history.last c.history.last
      published_by whole over =
          published_over a b c ours passes goes calm loaded stands made docket_is bytes_is Does (λ fair. used_there) (lends_made (whole over.changed)) recorded said (λ fair. there)
          (subst (λ (changed : Bool). Does.does recorded (table made) said changed) over.changed does_from) over

      -- nothing was written, or the table was over the record that stood
      pub safe_by : (made.changed ≡ true → IsLentRight made) → (fault : Option Fault) → WritesOnly made loaded b c fault → IsSafeHeld Does (record { old = a; new = c }) fault
      safe_by whole fault (inl none) = inl (unwritten_then a b c passes goes none)
      safe_by whole fault (inr (follows, over)) = inr (follows, published_by whole over)

      kept_written : IsLentRight made → IsRecorded made b c → IsKept (stood_in (scene c a.history.last).files) recorded (table made) (record { old = a; new = c }) a.history.last c.history.last
      kept_written whole =
          kept_over a b c ours passes goes calm loaded stands made docket_is bytes_is (λ way. used_there) (stood_in (scene c a.history.last).files)
          (over_there a b c ours passes goes calm loaded stands made docket_is bytes_is used_there (lends_made whole)) recorded

      kept_still : c ≡ b → IsSame (table made) recorded → IsKept (stood_in (scene c a.history.last).files) recorded (table made) (record { old = a; new = c }) a.history.last c.history.last
      kept_still none same = record {
        found = recorded;
        is = subst (λ (t : Table). IsSame t (table made)) (one_table (table made) recorded same) (same_table (table made));
        shown = subst (λ (x : Course). reading (last_scene x).files ≡ Some (Ok recorded)) (sym none) (ap reading (end_remains a b c ours passes goes calm).shown ∙ there);
        left = inr (same, unwritten_still none);
        bytes = inr (unwritten_still none);
      }

    same_by : (made.changed ≡ false → IsSame (table made) (table opened)) → made.changed ≡ false → IsSame (table made) recorded
    same_by stays none = subst (IsSame (table made)) (one_table (table opened) recorded begun.same) (stays none)

    -- it was done, and what was made is recorded
    pub done_by : (before after : ℕ) → a.history.ours ≡ true → (made.changed ≡ false → IsSame (table made) (table opened))
        → (made.changed ≡ true → CanWrite made) → (made.changed ≡ true → IsLentRight made) → (made.changed ≡ false → c ≡ b) → (Undisturbed a c → made.changed ≡ true → IsRecorded made b c)
        → IsDone Does (record { old = a.history; new = c.history; before = before; after = after }) (record { old = a; new = c }) a.history.last c.history.last said
    done_by before after ours stays can whole none records = record {
      made = table made;
      changed = made.changed;
      is = made_by before after;
      fits = λ told. elim (cases_Bool made.changed) [
        | inl set ↦ inr (fits_first made docket_is bytes_is (lends_made (whole set)) (can set) told)
        | inr unset ↦ inl (unset, same_by stays unset)
      ];
      kept = λ calm. elim (cases_Bool made.changed) [
        | inl set ↦ kept_written ours calm (whole set) (records calm set)
        | inr unset ↦ kept_still ours calm (none unset) (same_by stays unset)
      ];
      idle = λ unset. unwritten_still (none unset);
    }
