-- A change of the record with the lock round it, from what was done under the lock.
use Rattle.std.proofs.Common.{ℕ, ◌≡◌, ◌+◌, ◌-◌, ◌^◌, ◌≤◌, min, Bool, false, true, IsTrue, Some, None, Result, Ok, Err, Vec, Global, IfErr, IfOk, refl, arith, inl, inr, ◌∙◌}
use Rattle.hg_base.specs.Fault.{HasCause, Rose}
use Rattle.hg_base.specs.declared.fault.Failed.{Failed}
use Rattle.hg_append.specs.declared.fault.EncodeFault.TheVariants as an_encode
use Rattle.hg_ops.specs.declared.refusal.OpFault.TheVariants as an_op
use Rattle.hg_report.specs.declared.fault.Fault.TheVariants as a_fault
use Rattle.hg_session.proofs.Makers.{IsWider}
use Rattle.hg_session.specs.declared.change_fault.ChangeFault.{ChangeFault}
use Rattle.hg_session.specs.declared.change_fault.ChangeFault.TheVariants as a_change_fault
use Rattle.hg_session.specs.declared.read_fault.ReadFault.TheVariants as a_read
use Rattle.hg_save.specs.Leads.{IsHeld}
use Rattle.hg_session.proofs.Widening.{calm_within, done_met, done_wide, held_stretch, met_wide, safe_wide, unwritten_wide}
use Rattle.hg_session.specs.Acts.{Makes}
use Rattle.hg_session.specs.Call.{Count, Saved, Watched}
use Rattle.hg_session.specs.Change.{IsDone, IsLocked, IsSafe, MetChanging, MetLocking, Stretch, of_change}
use Rattle.hg_session.specs.Changing.{FailsOrUnwritten, IsSafeHeld, fault_of, once_freed}
use Rattle.hg_shelf.specs.History.{History, Waits}
use Rattle.hg_shelf.specs.Images.{Course, Goes}
use Rattle.hg_session.specs.Locks.{TakenAt}
use Rattle.hg_session.specs.Told.{refusing}
use Rattle.hg_session.proofs.Locks.{not_returned_by, returned_by}
use Rattle.hg_shelf.specs.Lock.{IsNoted, Locks, NotesUnlock, Unlocks}
use Rattle.hg_shelf.specs.declared.asked.LockAnswer.TheVariants as an_answer
use Rattle.hg_shelf.specs.Polite.{Undisturbed}
use Rattle.hg_tree.specs.History as tree

-- a count that rose in the last part rose in the whole
pub rose_last : (start before after end : ℕ) → before ≡ start → before ≤ after → Rose after end → Rose start end
rose_last start before after end same later rose = omega (arith, same, later, rose)

rose_first : (start before after end : ℕ) → before ≡ start → after ≤ end → Rose before after → Rose start end
rose_first start before after end same later rose = omega (arith, same, later, rose)

-- a count that rose in a part, and then in the last one, rose twice in the whole
pub rose_twice : (start before after end : ℕ) → before ≡ start → Rose before after → Rose after end → min (start + 2) (2 ^ 64 - 1) ≤ end
rose_twice start before after end same rose again = omega (arith, same, rose, again)

-- who was refused a lock holds it as before
pub refused_same : (was is : Bool) (before now : ℕ) (ok : Bool) → ok ≡ false → Locks {E = Failed} was is before now (Ok ok) → (is ≡ was) × Rose before now
refused_same was is before now true same locks = absurd (cc same)
refused_same was is before now false same locks = locks

-- who took it counts no refusal
pub taken_same : (was is : Bool) (before now : ℕ) (ok : Bool) → ok ≡ true → Locks {E = Failed} was is before now (Ok ok) → now ≡ before
taken_same was is before now true same locks = locks.1
taken_same was is before now false same locks = absurd (cc same)

module _ (a b c d : Course) (lock : Waits a.history b.history) (unlock : Waits c.history d.history) (p : Goes a b) (q : Goes b c) (r : Goes c d)
    (noted : IsTrue a.history.told → IsNoted an_answer.Taken a.history b.history) (same : c.history.locks ≡ b.history.locks)
    (taken : IsTrue a.history.told → TakenAt a.history d.history b.history.last c.history.last) (held : IsTrue b.history.told → IsHeld b.history c.history)
    (Part Whole : Makes) (wide : IsWider Part Whole)
    (copy : Watched tree.History) (start before after end : ℕ) where
  abbrev part : Watched History
  part = record { old = b.history; new = c.history; before = before; after = after }

  abbrev whole : Watched History
  whole = record { old = a.history; new = d.history; before = start; after = end }

  abbrev inner : Saved
  inner = record { old = b; new = c }

  abbrev outer : Saved
  outer = record { old = a; new = d }

  pub once_done : (done : Result (Vec ℕ Global) ChangeFault) (freed : Result Unit Failed) → IfOk done (λ lines. IsDone Part part inner b.history.last c.history.last (refusing lines.items))
      → IfOk (once_freed done freed) (λ lines. (stretch : Stretch a.history d.history) × IsDone Whole whole outer stretch.from stretch.to (refusing lines.items))
  once_done (Err fault) freed is = tt
  once_done (Ok lines) (Err failed) is = tt
  once_done (Ok lines) (Ok unit) is = (held_stretch a b c d lock unlock p q r taken held, done_wide a b c d lock unlock p q r taken held Part Whole wide copy before after start end (refusing lines.items) is)

  pub once_met : (locks : Count) (done : Result (Vec ℕ Global) ChangeFault) (freed : Result Unit Failed) → before ≡ start → before ≤ after → IfOk done (λ lines. IsDone Part part inner b.history.last c.history.last (refusing lines.items))
      → IfErr done (MetChanging Part copy part) → HasCause after end freed (λ e. Unit {0}) → IfErr (once_freed done freed) (MetLocking Whole copy whole locks)
  once_met locks (Err fault) freed same later is met cause =
      inl (met_wide a b c d lock unlock p q r taken held Part Whole wide copy before after start end fault (λ rose. rose_first start before after end same cause.later rose) met)
  once_met locks (Ok lines) (Err failed) same later is met cause =
      inl (rose_last start before after end same later (cause.rose tt), inr (done_met a b c d lock unlock p q r taken held Part Whole wide copy before after start end (record { made = is.made; said = refusing lines.items; changed = is.changed; is = is.is })))
  once_met locks (Ok lines) (Ok unit) same later is met cause = tt

  pub once_unwritten : (done : Result (Vec ℕ Global) ChangeFault) (freed : Result Unit Failed) → IfErr done (FailsOrUnwritten b.history c.history) → IfErr (once_freed done freed) (FailsOrUnwritten a.history d.history)
  once_unwritten (Err fault) freed (inl is) = inl is
  once_unwritten (Err fault) freed (inr none) = inr (unwritten_wide a b c d lock unlock p q r taken held none)
  once_unwritten (Ok lines) (Err failed) is = inl refl
  once_unwritten (Ok lines) (Ok unit) is = tt

  once_safe_in : (done : Result (Vec ℕ Global) ChangeFault) (freed : Result Unit Failed) → IsSafeHeld Part inner (fault_of done) → IsSafe Whole outer (fault_of (once_freed done freed))
  once_safe_in (Err fault) freed safe = safe_wide a b c d lock unlock p q r taken held Part Whole wide copy before after start end (Some (of_change fault)) safe
  once_safe_in (Ok lines) (Err failed) safe = elim (safe_wide a b c d lock unlock p q r taken held Part Whole wide copy before after start end None safe) [
    | inl only ↦ inl only
    | inr is ↦ inr (inl refl, is.1)
  ]
  once_safe_in (Ok lines) (Ok unit) safe = safe_wide a b c d lock unlock p q r taken held Part Whole wide copy before after start end None safe

  -- a fault that is told as that of the shelf comes only where its count rose
  shelf_rose : (fault : ChangeFault) → of_change fault ≡ a_fault.ShelfFailed → MetChanging Part copy part fault → Rose before after
  shelf_rose (a_change_fault.Read a_read.OutOfMemory) is met = absurd (cc is)
  shelf_rose (a_change_fault.Read (a_read.Docket fault)) is met = absurd (cc is)
  shelf_rose (a_change_fault.Read (a_read.Node fault)) is met = absurd (cc is)
  shelf_rose (a_change_fault.Read (a_read.DataGone ids)) is met = absurd (cc is)
  shelf_rose (a_change_fault.Read a_read.Failed) is met = met.0
  shelf_rose (a_change_fault.Op an_op.OutOfMemory) is met = absurd (cc is)
  shelf_rose (a_change_fault.Op an_op.TreeFailed) is met = absurd (cc is)
  shelf_rose (a_change_fault.Op an_op.ShelfFailed) is met = met.1
  shelf_rose (a_change_fault.Op (an_op.NoManifest id)) is met = absurd (cc is)
  shelf_rose (a_change_fault.Op (an_op.ManifestTooLarge size)) is met = absurd (cc is)
  shelf_rose (a_change_fault.Op (an_op.ManifestLine line)) is met = absurd (cc is)
  shelf_rose (a_change_fault.Op (an_op.ManifestOrder line)) is met = absurd (cc is)
  shelf_rose (a_change_fault.Op (an_op.NoContents id)) is met = absurd (cc is)
  shelf_rose (a_change_fault.Encode an_encode.OutOfMemory) is met = absurd (cc is)
  shelf_rose (a_change_fault.Encode (an_encode.TooLarge size)) is met = absurd (cc is)
  shelf_rose (a_change_fault.Encode an_encode.IdsSpent) is met = absurd (cc is)
  shelf_rose a_change_fault.Held is met = absurd met
  shelf_rose a_change_fault.ShelfFailed is met = met.0

  pub once_locked : (locks : Count) (done : Result (Vec ℕ Global) ChangeFault) (freed : Result Unit Failed) → before ≡ start → before ≤ after → locks.after ≡ locks.before
      → IfOk done (λ lines. IsDone Part part inner b.history.last c.history.last (refusing lines.items))
      → IfErr done (MetChanging Part copy part) → HasCause after end freed (λ e. Unit {0}) → Unlocks c.history.ours d.history.ours freed → (IsTrue c.history.told → NotesUnlock c.history d.history freed)
      → IsLocked Whole copy whole outer locks (fault_of (once_freed done freed))
  once_locked locks done (Ok unit) counted later uncounted is met cause free unlocked = inr (inr (inl (record {
    told = λ told. returned_by a.history b.history c.history d.history p.past q.past r.past (noted told) same (unlocked (q.past.told ∙ p.past.told ∙ told));
    ours = free;
    uncounted = uncounted;
  })))
  once_locked locks (Err fault) (Err failed) counted later uncounted is met cause free unlocked = inr (inr (inr (record {
    told = λ told. not_returned_by a.history b.history c.history d.history p.past q.past r.past (noted told) same (unlocked (q.past.told ∙ p.past.told ∙ told));
    uncounted = uncounted;
    failed = rose_last start before after end counted later (cause.rose tt);
    besides = inr (
      fault,
      inl refl,
      met_wide a b c d lock unlock p q r taken held Part Whole wide copy before after start end fault (λ rose. rose_first start before after end counted cause.later rose) met,
      λ shelf. rose_twice start before after end counted (shelf_rose fault shelf met) (cause.rose tt),
    );
  })))
  once_locked locks (Ok lines) (Err failed) counted later uncounted is met cause free unlocked = inr (inr (inr (record {
    told = λ told. not_returned_by a.history b.history c.history d.history p.past q.past r.past (noted told) same (unlocked (q.past.told ∙ p.past.told ∙ told));
    uncounted = uncounted;
    failed = rose_last start before after end counted later (cause.rose tt);
    besides = inl (
      inl refl,
      held_stretch a b c d lock unlock p q r taken held,
      refusing lines.items,
      done_wide a b c d lock unlock p q r taken held Part Whole wide copy before after start end (refusing lines.items) is,
    );
  })))

  pub once_safe : (done : Result (Vec ℕ Global) ChangeFault) (freed : Result Unit Failed) → (Undisturbed b c → IsSafeHeld Part inner (fault_of done))
      → Undisturbed a d → IsSafe Whole outer (fault_of (once_freed done freed))
  once_safe done freed safe calm = once_safe_in done freed (safe (calm_within a b c d lock unlock p q r taken held calm))
