-- What was noted is saved over a docket that still stands, while the lock is held.
use Rattle.std.proofs.Common.{ℕ, ◌≡◌, ◌≤◌, ◌⊎◌, true, false, List, [], ◌∷◌, ◌++◌, Some, None, ◌<◌, Result, Ok, Err, IfErr, OnOk, IsTrue, refl, sym, ap, ◌∙◌, subst, inl, inr, arith, true≢false}
use Rattle.std.proofs.lemmas.Bool.{cases_Bool}
use Rattle.hg_append.specs.declared.fault.EncodeFault.{EncodeFault}
use Rattle.hg_append.specs.declared.fault.EncodeFault.TheVariants as an_encode
use Rattle.hg_append.specs.declared.way.Way.TheVariants as a_way
use Rattle.hg_append.specs.Either.{HasCauseBy}
use Rattle.hg_append.specs.Loss.{plan_of}
use Rattle.hg_base.specs.Fault.{HasCause, Rose}
use Rattle.hg_docket.specs.Docket.{Contents, docket_of, docket_refusal}
use Rattle.hg_entry.specs.Table.{Table}
use Rattle.hg_image.specs.Reading.{RecordFault, of_data}
use Rattle.hg_image.specs.declared.fault.NodeFault.{NodeFault}
use Rattle.hg_mixed.specs.Edits.{ArePlacedAsBefore, IsOfSameImage}
use Rattle.hg_nodes.specs.Edits.{IsSame}
use Rattle.hg_mixed.specs.Held.{Held, table}
use Rattle.hg_ops.proofs.Added.{same_table}
use Rattle.hg_save.specs.Over.{HasUsed, IsLentRight}
use Rattle.hg_save.proofs.Loads.{found_longer, last_within}
use Rattle.hg_save.proofs.Others.{one_load}
use Rattle.hg_save.specs.Asked.{docket_ask}
use Rattle.hg_save.specs.Loads.{IsTry, Loads, Try, files_at, found_by}
use Rattle.hg_save.specs.Others.{IsFrontOf, KeepData, named_file}
use Rattle.hg_save.specs.Record.{docket_in, shown_in}
use Rattle.hg_save.specs.declared.loaded.Loaded.{Loaded}
use Rattle.hg_save.proofs.Bases.{nodes_at}
use Rattle.hg_session.proofs.Lending.{lends_by}
use Rattle.hg_session.proofs.Locked.{end_remains, unwritten_then}
use Rattle.hg_session.proofs.NotesKept.{news_change, notes_keep}
use Rattle.hg_session.proofs.Publishing.{kept_over, published_over}
use Rattle.hg_session.proofs.ReadNodes.{nodes_by}
use Rattle.hg_session.proofs.Readings.{sound_reading}
use Rattle.hg_session.proofs.SameTables.{one_table, table_stays}
use Rattle.hg_session.proofs.Standing.{keep_earlier, still_recorded}
use Rattle.hg_session.specs.Anew.{IsRecorded, MetWriting, WritesOnly}
use Rattle.hg_session.specs.Call.{Saved, Watched}
use Rattle.hg_session.specs.Acts.{StandsAt}
use Rattle.hg_session.specs.Change.{IsKept, IsUnwritten, MayFollowWriting, up_to}
use Rattle.hg_session.specs.Changing.{FailsOrUnwritten, IsSafeHeld, fault_of}
use Rattle.hg_session.specs.Saving.{AnotherStood, CannotWrite, IsNoted, noted_makes}
use Rattle.hg_session.specs.SavingNotes.{IsOpenedSince, IsTryOf, SavesHeld, save_fault, unless_full}
use Rattle.hg_session.specs.Kept.{AreNews}
use Rattle.hg_session.specs.Told.{refusing}
use Rattle.hg_session.specs.Ways.{IsMadeOver, LendsUnchanged, stood_by}
use Rattle.hg_session.specs.declared.change_fault.ChangeFault.{ChangeFault}
use Rattle.hg_session.specs.declared.change_fault.ChangeFault.TheVariants as a_change
use Rattle.hg_session.specs.declared.save_fault.SaveFault.{SaveFault}
use Rattle.hg_session.specs.declared.save_fault.SaveFault.TheVariants as a_save
use Rattle.hg_shelf.specs.Asks.{AsksFrontOf, AsksNothing}
use Rattle.hg_shelf.specs.History.{Extends, Files, History, Passes, now}
use Rattle.hg_shelf.specs.Images.{Course, Goes, last_scene, scene}
use Rattle.hg_shelf.specs.Polite.{Undisturbed}
use Rattle.hg_shelf.proofs.Histories.{extends_trans}
use Rattle.hg_shelf.proofs.Scenes.{second_part}
use Rattle.hg_walk.specs.Applying.{LendsNotes, IsBlank}
use Rattle.hg_walk.specs.Notes.{NotesData, applied}

-- ---- faults

never_none : {Q : Type 0} (fault : SaveFault) → save_fault (Err fault) ≡ None → Q
never_none fault is = absurd (cc is)

follows : (result : Result Unit ChangeFault) → MayFollowWriting (save_fault (unless_full result))
follows (Ok done) = tt
follows (Err (a_change.Encode an_encode.OutOfMemory)) = inr (inr refl)
follows (Err (a_change.Encode (an_encode.TooLarge size))) = tt
follows (Err (a_change.Encode an_encode.IdsSpent)) = tt
follows (Err (a_change.Read fault)) = inl refl
follows (Err (a_change.Op fault)) = inl refl
follows (Err a_change.Held) = inl refl
follows (Err a_change.ShelfFailed) = inl refl

-- a fault of encoding isn't one of the shelf
apart : {Q : Type 0} (fault : EncodeFault) → a_change.Encode fault ≡ a_change.ShelfFailed → Q
apart fault is = absurd (cc is)

none_in : (fault : EncodeFault) (old new : History) → FailsOrUnwritten old new (a_change.Encode fault) → IsUnwritten old new
none_in fault old new (inl is) = apart fault is
none_in fault old new (inr none) = none

-- why a table wasn't encoded
abbrev encode_of : ChangeFault → EncodeFault
encode_of (a_change.Encode fault) = fault
encode_of fault = an_encode.OutOfMemory

cause_in : (made : Held) (before after : ℕ) (fault : EncodeFault) → MetWriting made before after (a_change.Encode fault) → HasCauseBy made (plan_of made) fault
cause_in made before after fault (inl (met, is, cause, set)) = subst (λ (f : EncodeFault). HasCauseBy made (plan_of made) f) (sym (ap encode_of is)) cause
cause_in made before after fault (inr (is, rose)) = apart fault is

set_in : (made : Held) (before after : ℕ) (fault : EncodeFault) → MetWriting made before after (a_change.Encode fault) → made.changed ≡ true
set_in made before after fault (inl (met, is, cause, set)) = set
set_in made before after fault (inr (is, rose)) = apart fault is

-- ---- what is left where nothing was saved

-- a record that can't be written leaves all as it was, and so does want of memory
pub held_untouched : (b s c : Course) → Passes b.history s.history → Goes s c → (result : Result Unit ChangeFault) → IfErr result (FailsOrUnwritten s.history c.history)
    → IfErr (unless_full result) (λ e. (e ≡ a_save.ShelfFailed) ⊎ IsUnwritten b.history c.history)
held_untouched b s c passes goes (Ok done) failed = tt
held_untouched b s c passes goes (Err (a_change.Encode an_encode.OutOfMemory)) failed = inr (unwritten_then b s c passes goes (none_in an_encode.OutOfMemory s.history c.history failed))
held_untouched b s c passes goes (Err (a_change.Encode (an_encode.TooLarge size))) failed = tt
held_untouched b s c passes goes (Err (a_change.Encode an_encode.IdsSpent)) failed = tt
held_untouched b s c passes goes (Err (a_change.Read fault)) failed = inl refl
held_untouched b s c passes goes (Err (a_change.Op fault)) failed = inl refl
held_untouched b s c passes goes (Err a_change.Held) failed = inl refl
held_untouched b s c passes goes (Err a_change.ShelfFailed) failed = inl refl

-- a shelf that is as it was counts as it did
pub untouched_count : {S : Type 0} (faults : S → ℕ) (old new : S) (result : Result Unit ChangeFault) → IfErr result (λ e. (e ≡ a_change.ShelfFailed) ⊎ (new ≡ old))
    → IfErr result (λ e. (e ≡ a_change.ShelfFailed) ⊎ (faults new ≡ faults old))
untouched_count faults old new (Ok done) is = tt
untouched_count faults old new (Err fault) (inl failed) = inl failed
untouched_count faults old new (Err fault) (inr same) = inr (ap faults same)

-- the shelf's count rose where it is said to have failed, and else stands
module _ (first mid last : ℕ) (made : Held) (same : mid ≡ first) (later : mid ≤ last) where
  abbrev Causes : Result Unit ChangeFault → Type 0
  Causes result = HasCause first last (unless_full result) (λ e. e ≡ a_save.ShelfFailed)

  rose_by : (fault : ChangeFault) → ((e : EncodeFault) → fault ≡ a_change.Encode e → ⊥) → MetWriting made mid last fault → Rose first last
  rose_by fault other (inl (e, is, cause, set)) = absurd (other e is)
  rose_by fault other (inr (is, rose)) = subst (λ (n : ℕ). Rose n last) same rose

  still_by : (fault : EncodeFault) → (a_change.Encode fault ≡ a_change.ShelfFailed) ⊎ (last ≡ mid) → last ≡ first
  still_by fault (inl is) = apart fault is
  still_by fault (inr still) = still ∙ same

  pub held_cause : (result : Result Unit ChangeFault) → OnOk result (last ≡ mid) → IfErr result (λ e. (e ≡ a_change.ShelfFailed) ⊎ (last ≡ mid)) → IfErr result (MetWriting made mid last) → Causes result
  held_cause (Ok done) calm still why = record { later = omega (arith, same, later); quiet = calm ∙ same; rose = tt }
  held_cause (Err (a_change.Encode an_encode.OutOfMemory)) calm still why = record { later = omega (arith, same, later); quiet = tt; rose = λ is. absurd (cc is) }
  held_cause (Err (a_change.Encode (an_encode.TooLarge size))) calm still why = record { later = omega (arith, same, later); quiet = still_by (an_encode.TooLarge size) still; rose = tt }
  held_cause (Err (a_change.Encode an_encode.IdsSpent)) calm still why = record { later = omega (arith, same, later); quiet = still_by an_encode.IdsSpent still; rose = tt }
  held_cause (Err (a_change.Read fault)) calm still why = record { later = omega (arith, same, later); quiet = tt; rose = λ is. rose_by (a_change.Read fault) (λ e is. cc is) why }
  held_cause (Err (a_change.Op fault)) calm still why = record { later = omega (arith, same, later); quiet = tt; rose = λ is. rose_by (a_change.Op fault) (λ e is. cc is) why }
  held_cause (Err a_change.Held) calm still why = record { later = omega (arith, same, later); quiet = tt; rose = λ is. rose_by a_change.Held (λ e is. cc is) why }
  held_cause (Err a_change.ShelfFailed) calm still why = record { later = omega (arith, same, later); quiet = tt; rose = λ is. rose_by a_change.ShelfFailed (λ e is. cc is) why }

-- ---- the record, under the lock

-- the start of the call, where the lock was got, behind the look at the docket, and the end
module _ (start : History) (b s c : Course) (ours : b.history.ours ≡ true) (passes : Passes b.history s.history) (first : Goes b s) (goes : Goes s c) (loaded : Loaded) (sound : docket_refusal loaded.shown.items ≡ None)
    (recorded : Table) (opened : Held) (since : IsOpenedSince start b.history loaded recorded opened) (notes : NotesData) (before after : ℕ) where
  abbrev bytes : List ℕ
  bytes = loaded.shown.items

  abbrev files : Watched History
  files = record { old = b.history; new = c.history; before = before; after = after }

  abbrev saved : Saved
  saved = record { old = b; new = c }

  abbrev Own : Try → Type 0
  Own = IsTryOf start b.history loaded recorded opened since

  abbrev Holds : Result Unit SaveFault → Type 0
  Holds result = SavesHeld Own start files saved recorded notes (save_fault result)

  long : Extends since.mid c.history
  long = extends_trans since.mid b.history c.history since.past (extends_trans b.history s.history c.history passes.past goes.past)

  start_told : IsTrue c.history.told → IsTrue start.told
  start_told told = sym since.front.told ∙ sym long.told ∙ told

  -- nothing was written
  pub held_unwritten : IsUnwritten b.history c.history → (fault : SaveFault) → Holds (Err fault)
  held_unwritten none fault = record { safe = λ calm. inl none; ends = λ is. never_none fault is }

  -- ---- what was read

  module _ (told : IsTrue b.history.told) where
    abbrev loads : (tried : Try) × Loads start since.mid (tried ∷ []) (Ok loaded)
    loads = since.loads (start_told (goes.past.told ∙ passes.past.told ∙ told))

    abbrev tried : Try
    tried = loads.1.tried.last

    within_mid : IsTry start since.mid tried
    within_mid = last_within start since.mid (loads.0 ∷ []) loads.1.tried

    within_end : IsTry start c.history tried
    within_end = record {
      docket = record { from = within_mid.docket.from; to = omega (arith, within_mid.docket.to, long.later) };
      file = record { from = within_mid.file.from; to = omega (arith, within_mid.file.to, long.later) };
      order = within_mid.order;
    }

    found_end : found_by c.history tried ≡ Some (Ok recorded)
    found_end =
        found_longer start since.mid c.history (loads.0 ∷ []) long loads.1.tried ∙ loads.1.answer.reading
        ∙ ap (λ (r : Result Table RecordFault). Some r) (sound_reading bytes loaded.nodes.items sound ∙ ap (λ (r : Result Table NodeFault). of_data r) since.nodes)

    docket_read : shown_in (files_at c.history tried.docket) ≡ bytes
    docket_read = ap shown_in (long.stay tried.docket within_mid.docket.to).shown ∙ sym loads.1.answer.shown

    whole_read : docket_in (files_at c.history tried.docket) ≡ loaded.docket.items
    whole_read = ap docket_in (long.stay tried.docket within_mid.docket.to).shown ∙ sym loads.1.answer.docket

    -- a table in memory that was opened over it
    over_since : (made : Held) → made.docket ≡ docket_of bytes → made.bytes ≡ loaded.nodes.items → IsSame (table made) (applied notes recorded) → LendsUnchanged made
        → IsMadeOver (stood_by c.history tried) (applied notes recorded) made
    over_since made is nodes same lends = record {
      docket = is ∙ ap docket_of (sym docket_read);
      nodes =
          subst (λ (f : Files). 0 < made.docket.used → IsFrontOf (named_file (shown_in (files_at c.history tried.docket)) f) made.docket.used made.bytes) (sym (long.stay tried.file within_mid.file.to).shown)
          (subst (λ (l : List ℕ). 0 < made.docket.used → IsFrontOf (named_file l (files_at since.mid tried.file)) made.docket.used made.bytes) (sym docket_read)
          (subst (λ (l : List ℕ). 0 < made.docket.used → IsFrontOf (named_file bytes (files_at since.mid tried.file)) made.docket.used l) (sym nodes)
          (subst (λ (d : Contents). 0 < d.used → IsFrontOf (named_file bytes (files_at since.mid tried.file)) d.used loaded.nodes.items) (sym is)
          (nodes_by start since.mid (loads.0 ∷ []) loaded recorded loads.1 sound since.nodes))));
      same = same;
      lends = lends;
    }

  -- the history up to where the lock was got
  abbrev got : History
  got = up_to b.history.last c.history

  mid_got : Extends since.mid got
  mid_got = record { told = long.told; later = since.past.later; who = long.who; stay = long.stay }

  -- the docket stands
  module _ (is : IsTrue b.history.told → shown_in (now s.history).files ≡ bytes) where
    there : Undisturbed b c → shown_in (scene c b.history.last).files ≡ bytes
    there calm = ap shown_in (sym (end_remains b s c ours passes goes calm).shown) ∙ is calm.told

    noted_stands : Undisturbed b c → KeepData got start.last → StandsAt c b.history.last recorded
    noted_stands calm keep =
        let loads = loads calm.told in
        still_recorded start since.mid got mid_got loaded loads.0 recorded sound loads.1 since.nodes keep b.history.last since.past.later (omega (arith, since.front.later, since.past.later)) (omega arith) (there calm)

    -- and the nodes that it uses, where others keep them
    used_there : Undisturbed b c → KeepData got start.last → HasUsed loaded (last_scene s)
    used_there calm keep = λ uses.
        let loads = loads calm.told in
        subst (λ (f : Files). IsFrontOf (named_file bytes f) (docket_of bytes).used loaded.nodes.items) (sym (end_remains b s c ours passes goes calm).shown)
        (nodes_at start since.mid got loaded mid_got keep (record { sound = sound; uses = uses })
        (one_load start since.mid (loads.0 ∷ []) loaded (keep_earlier since.mid got start.last mid_got keep) loads.1 sound) b.history.last since.past.later (omega arith) (there calm))

    module _ (made : Held) (image : IsOfSameImage opened made) (begun : opened.docket ≡ docket_of bytes) (over : opened.bytes ≡ loaded.nodes.items) (writes : IsSame (table made) (applied notes (table opened)))
        (lends : LendsNotes notes opened made) (placed : ArePlacedAsBefore opened made) (news : AreNews recorded notes) (some : IsBlank notes → ⊥) (whole : made.changed ≡ true → IsLentRight made) where
      docket_is : made.docket ≡ docket_of bytes
      docket_is = image.docket ∙ begun

      nodes_is : made.bytes ≡ loaded.nodes.items
      nodes_is = image.bytes ∙ over

      lends_made : made.changed ≡ true → LendsUnchanged made
      lends_made set =
          lends_by opened made image.docket image.bytes since.image since.lent since.placed
          (notes_keep opened made notes (subst (λ (t : Table). AreNews t notes) (sym (one_table (table opened) recorded since.same)) news) writes lends placed) (whole set)

      made_is : table made ≡ applied notes recorded
      made_is = one_table (table made) (applied notes (table opened)) writes ∙ ap (applied notes) (one_table (table opened) recorded since.same)

      same_made : IsSame (table made) (applied notes recorded)
      same_made = subst (IsSame (table made)) made_is (same_table (table made))

      over_made : (told : IsTrue b.history.told) → made.changed ≡ true → IsMadeOver (stood_by c.history (tried told)) (table made) made
      over_made told set =
          let over = over_since told made docket_is nodes_is same_made (lends_made set) in
          record { docket = over.docket; nodes = over.nodes; same = same_table (table made); lends = over.lends }

      held_safe : (result : Result Unit ChangeFault) → (Undisturbed s c → WritesOnly made loaded s c (fault_of result)) → Undisturbed s c → Undisturbed b c → IsSafeHeld (noted_makes (record files { old = start }) recorded notes) saved (save_fault (unless_full result))
      held_safe result only inner calm = elim (only inner) [
        | inl none ↦ inl (unwritten_then b s c passes goes none)
        | inr over ↦ inr (
          follows result,
          published_over b s c ours passes goes calm loaded (is calm.told) made docket_is nodes_is (noted_makes (record files { old = start }) recorded notes) (used_there calm) (lends_made over.1.changed) recorded (refusing []) (noted_stands calm) (same_table recorded, same_made, refl) over.1,
        )
      ]

      unfit : Undisturbed b c → (fault : EncodeFault) → (fault ≡ an_encode.OutOfMemory → ⊥) → HasCauseBy made (plan_of made) fault → made.changed ≡ true → CannotWrite Own start c.history recorded notes
      unfit calm fault other cause set = record {
        tried = tried calm.told;
        own = (start_told (goes.past.told ∙ passes.past.told ∙ calm.told), refl);
        within = within_end calm.told;
        found = found_end calm.told;
        fault = fault;
        told = other;
        unfit = record { held = made; over = over_since calm.told made docket_is nodes_is same_made (lends_made set); cause = cause };
      }

      stays : ((IsSame (table made) (table opened) → ⊥) → made.changed ≡ true) → made.changed ≡ false → IsSame (applied notes recorded) recorded
      stays marked unset =
          let same = one_table (table made) (table opened) (table_stays (table made) (table opened) (λ differs. true≢false (sym (marked differs) ∙ unset))) in
          subst (IsSame (applied notes recorded)) (sym made_is ∙ same ∙ one_table (table opened) recorded since.same) (same_table (applied notes recorded))

      noted_unfit : (mid last : ℕ) (fault : EncodeFault) → (fault ≡ an_encode.OutOfMemory → ⊥) → MetWriting made mid last (a_change.Encode fault) → FailsOrUnwritten s.history c.history (a_change.Encode fault)
          → Undisturbed b c → IsNoted Own start recorded notes saved b.history.last c.history.last
      noted_unfit mid last fault other why failed calm =
          inl (inr (unfit calm fault other (cause_in made mid last fault why) (set_in made mid last fault why)), unwritten_then b s c passes goes (none_in fault s.history c.history failed))

      -- where the notes were written into the table, and that was published or couldn't be
      module _ (marked : (IsSame (table made) (table opened) → ⊥) → made.changed ≡ true) (none : made.changed ≡ false → c ≡ s) where
        noted_ok : ((plan_of made ≡ a_way.Append → HasUsed loaded (last_scene s)) → made.changed ≡ true → IsRecorded made s c) → Undisturbed b c → IsNoted Own start recorded notes saved b.history.last c.history.last
        noted_ok is_recorded calm = elim (cases_Bool made.changed) [
          | inl set ↦ inr (record {
            tried = tried calm.told;
            own = (start_told (goes.past.told ∙ passes.past.told ∙ calm.told), refl);
            within = within_end calm.told;
            found = found_end calm.told;
            held = made;
            over = over_since calm.told made docket_is nodes_is same_made (lends_made set);
            kept = λ keep.
                let used : plan_of made ≡ a_way.Append → HasUsed loaded (last_scene s) = λ way. used_there calm (keep way) in
                subst (λ (t : Table). IsKept (stood_by c.history (tried calm.told)) recorded t saved b.history.last c.history.last) made_is
                (kept_over b s c ours passes goes calm loaded (is calm.told) made docket_is nodes_is used (stood_by c.history (tried calm.told)) (over_made calm.told set) recorded (is_recorded used set));
          })
          | inr unset ↦ absurd (some (news_change recorded notes news (stays marked unset)))
        ]

        ends_by : (mid last : ℕ) (result : Result Unit ChangeFault) → ((plan_of made ≡ a_way.Append → HasUsed loaded (last_scene s)) → OnOk result (made.changed ≡ true → IsRecorded made s c)) → IfErr result (FailsOrUnwritten s.history c.history) → IfErr result (MetWriting made mid last)
            → save_fault (unless_full result) ≡ None → Undisturbed b c → IsNoted Own start recorded notes saved b.history.last c.history.last
        ends_by mid last (Ok done) is_recorded failed why well calm = noted_ok is_recorded calm
        ends_by mid last (Err (a_change.Encode an_encode.OutOfMemory)) is_recorded failed why well calm = never_none a_save.OutOfMemory well
        ends_by mid last (Err (a_change.Encode (an_encode.TooLarge size))) is_recorded failed why well calm = noted_unfit mid last (an_encode.TooLarge size) (λ same. absurd (cc same)) why failed calm
        ends_by mid last (Err (a_change.Encode an_encode.IdsSpent)) is_recorded failed why well calm = noted_unfit mid last an_encode.IdsSpent (λ same. absurd (cc same)) why failed calm
        ends_by mid last (Err (a_change.Read fault)) is_recorded failed why well calm = never_none a_save.ShelfFailed well
        ends_by mid last (Err (a_change.Op fault)) is_recorded failed why well calm = never_none a_save.ShelfFailed well
        ends_by mid last (Err a_change.Held) is_recorded failed why well calm = never_none a_save.ShelfFailed well
        ends_by mid last (Err a_change.ShelfFailed) is_recorded failed why well calm = never_none a_save.ShelfFailed well

        pub held_saved : (mid last : ℕ) (result : Result Unit ChangeFault) → (Undisturbed s c → WritesOnly made loaded s c (fault_of result))
            → (Undisturbed s c → (plan_of made ≡ a_way.Append → HasUsed loaded (last_scene s)) → OnOk result (made.changed ≡ true → IsRecorded made s c)) → IfErr result (FailsOrUnwritten s.history c.history) → IfErr result (MetWriting made mid last)
            → Holds (unless_full result)
        held_saved mid last result only records failed why = record {
          safe = λ calm. held_safe result only (second_part b s c first calm) calm;
          ends = λ well calm. ends_by mid last result (records (second_part b s c first calm)) failed why well calm;
        }

  -- another docket stands
  another : (IsTrue b.history.told → docket_in (now s.history).files ≡ loaded.docket.items → ⊥) → IsTrue b.history.told → AnotherStood Own start c.history recorded b.history.last c.history.last
  another differs told =
      record {
        tried = tried told;
        own = (start_told (goes.past.told ∙ passes.past.told ∙ told), refl);
        within = within_end told;
        found = found_end told;
        at = s.history.last;
        later = passes.past.later;
        upto = goes.past.later;
        other = λ same. differs told (sym (ap docket_in (goes.past.stay s.history.last (omega arith)).shown) ∙ same ∙ whole_read told);
      }

  -- so nothing was written
  pub held_other : (IsTrue b.history.told → docket_in (now s.history).files ≡ loaded.docket.items → ⊥) → IsUnwritten b.history c.history → Holds (Ok tt)
  held_other differs none = record { safe = λ calm. inl none; ends = λ well calm. inl (inl (another differs calm.told), none) }

-- ---- what was asked

pub asked_once : (b s c : History) → s.asked ≡ b.asked ++ docket_ask ∷ [] → AsksNothing s c → AsksFrontOf (docket_ask ∷ []) b c
asked_once b s c asked none = record { some = 1; made = none.asked ∙ asked }
