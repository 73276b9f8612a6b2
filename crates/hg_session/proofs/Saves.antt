-- What became of notes behind a part of a call in which the caller only asked, said of the whole call.
use Rattle.std.proofs.Common.{IsTrue, List, None, Option, Some, [], ℕ, ◌++◌, ◌∙◌, ◌∷◌, ◌≡◌, ◌⊎◌, ap, arith, inl, inr, subst, sym}
use Rattle.std.proofs.lemmas.Bool.{cases_lt}
use Rattle.std.specs.Prelude.{IsSomeAnd}
use Rattle.hg_walk.specs.Applying.{IsBlank}
use Rattle.hg_base.specs.Fault.{Rose}
use Rattle.hg_entry.specs.Table.{Table}
use Rattle.hg_report.specs.declared.fault.Fault.{Fault}
use Rattle.hg_save.specs.Loads.{Try}
use Rattle.hg_session.proofs.Locked.{unwritten_then}
use Rattle.hg_session.proofs.Locks.{ends_by}
use Rattle.hg_session.specs.Acts.{Makes}
use Rattle.hg_session.specs.Call.{Count, Fails, FailsTwice, Saved, Watched}
use Rattle.hg_session.specs.Change.{IsKept, IsSafe, IsUnwritten, NoneOurs, Stretch, WasNotReturned, WasNotTaken, WasRefused, WasReturned}
use Rattle.hg_session.specs.Locks.{NotReturned, NotTaken, came_to}
use Rattle.hg_session.specs.Look.{OnlyReads}
use Rattle.hg_session.specs.Saving.{FailsBehindNotes, IsLockedToSave, IsNoted, IsNotedHeld, noted_makes}
use Rattle.hg_session.specs.SavingNotes.{SavesNotes}
use Rattle.hg_session.specs.Status.{IsLockedLast, SavesLast}
use Rattle.hg_session.specs.Ways.{Stood, stood_by}
use Rattle.hg_shelf.proofs.Histories.{passes_trans, us_apart}
use Rattle.hg_shelf.proofs.Scenes.{goes_trans, second_part}
use Rattle.hg_shelf.specs.History.{History, Passes}
use Rattle.hg_shelf.specs.Images.{Course, Goes}
use Rattle.hg_shelf.specs.declared.asked.LockAnswer.TheVariants as an_answer
use Rattle.hg_shelf.specs.declared.asked.LockCall.{LockCall}
use Rattle.hg_walk.specs.Notes.{NotesData, applied}

module _ (a c d : Course) (only : Passes a.history c.history) (first : Goes a c) (goes : Goes c d) where
  none_earlier : (k : ℕ) → NoneOurs d.history c.history.last k → NoneOurs d.history a.history.last k
  none_earlier k none j from to is = elim (cases_lt j c.history.last) [
    | inl early ↦ us_apart a.history.ours (sym is ∙ goes.past.who j early ∙ only.by_others j from early)
    | inr late ↦ none j late to is
  ]

  told_part : IsTrue a.history.told → IsTrue c.history.told
  told_part told = first.past.told ∙ told

  -- what the lock was called for is what it was called for behind the part
  locks_earlier : (calls : List LockCall) → d.history.locks ≡ c.history.locks ++ calls → d.history.locks ≡ a.history.locks ++ calls
  locks_earlier calls is = is ∙ ap (λ (l : List LockCall). l ++ calls) only.locks

  abbrev stretch_earlier : Stretch c.history d.history → Stretch a.history d.history
  stretch_earlier is = record {
    from = is.from;
    to = is.to;
    start = omega (arith, first.past.later, is.start);
    order = is.order;
    end = is.end;
    before = none_earlier is.from is.before;
    behind = is.behind;
    taken = λ told.
        let taken = is.taken (told_part told) in
        record { behind = taken.behind; locks = locks_earlier (came_to an_answer.Taken is.from ∷ taken.behind) taken.locks; later = taken.later };
    held = λ told. is.held (told_part told);
  }

  unwritten_earlier : IsUnwritten c.history d.history → IsUnwritten a.history d.history
  unwritten_earlier is = unwritten_then a c d only goes is

  safe_earlier : (Does : Makes) (fault : Option Fault) → IsSafe Does (record { old = c; new = d }) fault → IsSafe Does (record { old = a; new = d }) fault
  safe_earlier Does fault (inl (inl none)) = inl (inl (unwritten_earlier none))
  safe_earlier Does fault (inl (inr (stretch, only))) = inl (inr (stretch_earlier stretch, only))
  safe_earlier Does fault (inr (may, is)) = inr (may, record { stretch = stretch_earlier is.stretch; since = is.since; from = is.from; upto = is.upto; may = is.may; is = is.is })

  kept_earlier : (stood : Stood) (loaded made : Table) (from to : ℕ) → IsKept stood loaded made (record { old = c; new = d }) from to → IsKept stood loaded made (record { old = a; new = d }) from to
  kept_earlier stood loaded made from to is = record {
    found = is.found;
    is = is.is;
    shown = is.shown;
    left =
        elim is.left [
          | inl each ↦ inl each
          | inr same ↦ inr (same.0, unwritten_earlier same.1)
        ];
    bytes =
        elim is.bytes [
          | inl written ↦ inl written
          | inr none ↦ inr (unwritten_earlier none)
        ];
  }

  module _ (Own : Try → Type 0) (t : Table) (notes : NotesData) where
    noted_earlier : (from to : ℕ) → IsNoted Own a.history t notes (record { old = c; new = d }) from to → IsNoted Own a.history t notes (record { old = a; new = d }) from to
    noted_earlier from to (inl (why, none)) = inl (why, unwritten_earlier none)
    noted_earlier from to (inr is) = inr (record {
      tried = is.tried;
      own = is.own;
      within = is.within;
      found = is.found;
      held = is.held;
      over = is.over;
      kept = λ keep. kept_earlier (stood_by d.history is.tried) t (applied notes t) from to (is.kept keep);
    })

    held_earlier : IsNotedHeld Own a.history t notes (record { old = c; new = d }) → IsNotedHeld Own a.history t notes (record { old = a; new = d })
    held_earlier is calm =
        let held = is (second_part a c d first calm) in
        (stretch_earlier held.0, noted_earlier held.0.from held.0.to held.1)

    module _ (before middle after held held_c refused : ℕ) (same : middle ≡ before) (uncounted : held_c ≡ held) (fault : Option Fault) where
      abbrev part : Watched History
      part = record { old = c.history; new = d.history; before = middle; after = after }

      abbrev whole : Watched History
      whole = record { old = a.history; new = d.history; before = before; after = after }

      abbrev locks_c : Count
      locks_c = record { before = held_c; after = refused }

      abbrev locks : Count
      locks = record { before = held; after = refused }

      fails_earlier : Fails part → Fails whole
      fails_earlier failed = subst (λ (n : ℕ). Rose n after) same failed

      twice_earlier : FailsTwice part → FailsTwice whole
      twice_earlier failed = subst (λ (n : ℕ). FailsTwice (record whole { before = n })) same failed

      rose_earlier : Rose held_c refused → Rose held refused
      rose_earlier rose = subst (λ (n : ℕ). Rose n refused) uncounted rose

      reads_earlier : OnlyReads (record { old = c; new = d }) locks_c → OnlyReads (record { old = a; new = d }) locks
      reads_earlier is = record { passes = passes_trans a.history c.history d.history only is.passes; kept = goes_trans a c d first is.kept; held = is.held ∙ uncounted }

      passed_earlier : {Besides : Type 0} → WasRefused Besides part locks_c → WasRefused Besides whole locks
      passed_earlier is = record {
        told = λ told. let was = is.told (told_part told) in record { at = was.at; locks = locks_earlier (came_to an_answer.Refused was.at ∷ []) was.locks };
        ours = is.ours ∙ only.ours;
        counted = rose_earlier is.counted;
        unwritten = unwritten_earlier is.unwritten;
        besides = is.besides;
      }

      not_taken_earlier : NotTaken c.history d.history → NotTaken a.history d.history
      not_taken_earlier was = record {
        at = was.at;
        locks =
            elim was.locks [
              | inl noted ↦ inl (locks_earlier (came_to an_answer.NotTaken was.at ∷ []) noted)
              | inr none ↦ inr (none ∙ only.locks)
            ];
      }

      not_got_earlier : {Besides : Type 0} → WasNotTaken Besides part locks_c → WasNotTaken Besides whole locks
      not_got_earlier is = record {
        told = λ told. not_taken_earlier (is.told (told_part told));
        ours = is.ours ∙ only.ours;
        uncounted = is.uncounted ∙ uncounted;
        failed = fails_earlier is.failed;
        unwritten = unwritten_earlier is.unwritten;
        besides = is.besides;
      }

      returned_earlier : WasReturned part locks_c → WasReturned whole locks
      returned_earlier is = record {
        told = λ told.
            let was = is.told (told_part told) in
            record { from = was.from; back = was.back; order = was.order; locks = locks_earlier (came_to an_answer.Taken was.from ∷ came_to an_answer.GivenBack was.back ∷ []) was.locks };
        ours = is.ours;
        uncounted = is.uncounted ∙ uncounted;
      }

      not_returned_earlier : NotReturned c.history d.history → NotReturned a.history d.history
      not_returned_earlier was = record {
        from = was.from;
        back = was.back;
        order = was.order;
        locks =
            elim was.locks [
              | inl noted ↦ inl (locks_earlier (came_to an_answer.Taken was.from ∷ came_to an_answer.NotGivenBack was.back ∷ []) noted)
              | inr alone ↦ inr (locks_earlier (came_to an_answer.Taken was.from ∷ []) alone)
            ];
      }

      not_given_earlier : WasNotReturned (FailsBehindNotes Own a.history part (record { old = c; new = d }) t notes fault) part locks_c
          → WasNotReturned (FailsBehindNotes Own a.history whole (record { old = a; new = d }) t notes fault) whole locks
      not_given_earlier is = record {
        told = λ told. not_returned_earlier (is.told (told_part told));
        uncounted = is.uncounted ∙ uncounted;
        failed = fails_earlier is.failed;
        besides =
            elim is.besides [
              | inl (answer, inl noted) ↦ inl (answer, inl (held_earlier noted))
              | inl (answer, inr twice) ↦ inl (answer, inr (twice_earlier twice))
              | inr memory ↦ inr memory
            ];
      }

      locked_earlier : IsLockedToSave Own a.history part (record { old = c; new = d }) locks_c t notes fault → IsLockedToSave Own a.history whole (record { old = a; new = d }) locks t notes fault
      locked_earlier (inl (blank, reads)) = inl (blank, reads_earlier reads)
      locked_earlier (inr (inl was)) = inr (inl (passed_earlier was))
      locked_earlier (inr (inr (inl was))) = inr (inr (inl (not_got_earlier was)))
      locked_earlier (inr (inr (inr (inl was)))) = inr (inr (inr (inl (returned_earlier was))))
      locked_earlier (inr (inr (inr (inr was)))) = inr (inr (inr (inr (not_given_earlier was))))

      pub saves_earlier : SavesNotes Own a.history part (record { old = c; new = d }) locks_c t notes fault → SavesLast Own whole (record { old = a; new = d }) locks (Some t) notes fault
      saves_earlier is = record {
        safe = λ calm. safe_earlier (noted_makes whole t notes) fault (is.safe (second_part a c d first calm));
        idle = λ blank. reads_earlier (is.idle blank).0;
        locked = locked_earlier is.locked;
        saves = λ none. elim (is.saves none) [
          | inl blank ↦ inl blank
          | inr (inl rose) ↦ inr (inl (rose_earlier rose))
          | inr (inr noted) ↦ inr (inr (held_earlier noted))
        ];
      }

-- ---- by which try

module _ (Own Other : Try → Type 0) (by : (tried : Try) → Own tried → Other tried) (files : Watched History) (saved : Saved) (locks : Count) where
  module _ (t : Table) (notes : NotesData) where
    noted_by : (from to : ℕ) → IsNoted Own files.old t notes saved from to → IsNoted Other files.old t notes saved from to
    noted_by from to (inl (inl is, none)) =
        inl (inl (record { tried = is.tried; own = by is.tried is.own; within = is.within; found = is.found; at = is.at; later = is.later; upto = is.upto; other = is.other }), none)
    noted_by from to (inl (inr is, none)) =
        inl (inr (record { tried = is.tried; own = by is.tried is.own; within = is.within; found = is.found; fault = is.fault; told = is.told; unfit = is.unfit }), none)
    noted_by from to (inr is) = inr (record { tried = is.tried; own = by is.tried is.own; within = is.within; found = is.found; held = is.held; over = is.over; kept = is.kept })

    held_by : IsNotedHeld Own files.old t notes saved → IsNotedHeld Other files.old t notes saved
    held_by is calm = let held = is calm in (held.0, noted_by held.0.from held.0.to held.1)

    behind_by : (fault : Option Fault) → FailsBehindNotes Own files.old files saved t notes fault → FailsBehindNotes Other files.old files saved t notes fault
    behind_by fault (inl (answer, inl noted)) = inl (answer, inl (held_by noted))
    behind_by fault (inl (answer, inr twice)) = inl (answer, inr twice)
    behind_by fault (inr memory) = inr memory

    locked_by : (fault : Option Fault) → IsLockedToSave Own files.old files saved locks t notes fault → IsLockedToSave Other files.old files saved locks t notes fault
    locked_by fault (inl is) = inl is
    locked_by fault (inr ends) = inr (ends_by (λ none. none) (λ answer. answer) (behind_by fault) files locks ends)

    left_by : IsBlank notes ⊎ (Rose locks.before locks.after ⊎ IsNotedHeld Own files.old t notes saved) → IsBlank notes ⊎ (Rose locks.before locks.after ⊎ IsNotedHeld Other files.old t notes saved)
    left_by (inl blank) = inl blank
    left_by (inr (inl rose)) = inr (inl rose)
    left_by (inr (inr noted)) = inr (inr (held_by noted))

  last_by : (o : Option Table) (notes : NotesData) (fault : Option Fault) → IsLockedLast Own files saved locks o notes fault → IsLockedLast Other files saved locks o notes fault
  last_by None notes fault is = is
  last_by (Some t) notes fault is = locked_by t notes fault is

  some_by : (o : Option Table) (notes : NotesData) → IsSomeAnd o (λ t. IsBlank notes ⊎ (Rose locks.before locks.after ⊎ IsNotedHeld Own files.old t notes saved))
      → IsSomeAnd o (λ t. IsBlank notes ⊎ (Rose locks.before locks.after ⊎ IsNotedHeld Other files.old t notes saved))
  some_by None notes is = is
  some_by (Some t) notes is = left_by t notes is

  pub saves_by : (table : Option Table) (notes : NotesData) (fault : Option Fault) → SavesLast Own files saved locks table notes fault → SavesLast Other files saved locks table notes fault
  saves_by table notes fault is = record {
    safe = is.safe;
    idle = is.idle;
    locked = last_by table notes fault is.locked;
    saves = λ none. some_by table notes (is.saves none);
  }
