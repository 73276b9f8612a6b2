-- Saving what was noted with the lock round it, from what was done under the lock.
use Rattle.std.proofs.Common.{ℕ, ◌≡◌, ◌⊎◌, List, [], ◌∷◌, ◌++◌, take, None, Result, Ok, Err, IsTrue, refl, sym, ap, ◌∙◌, subst, inl, inr, arith}
use Rattle.std.specs.Prelude.{IfErr}
use Rattle.std.proofs.lemmas.Bool.{cases_lt}
use Rattle.std.proofs.lemmas.List.{append-nil}
use Rattle.hg_base.specs.Fault.{HasCause, Rose}
use Rattle.hg_base.specs.declared.fault.Failed.{Failed}
use Rattle.hg_entry.specs.Table.{Table}
use Rattle.hg_save.specs.Asked.{docket_ask}
use Rattle.hg_save.specs.Leads.{IsHeld}
use Rattle.hg_save.specs.Loads.{IsTry, Try, files_at, found_by}
use Rattle.hg_save.specs.Record.{docket_in, record_in}
use Rattle.hg_session.proofs.Freed.{rose_last, rose_twice}
use Rattle.hg_session.proofs.Locked.{unwritten_here}
use Rattle.hg_session.proofs.Locks.{not_returned_by, returned_by}
use Rattle.hg_session.proofs.Makers.{IsWider}
use Rattle.hg_session.proofs.Standing.{keep_earlier}
use Rattle.hg_session.proofs.Widening.{calm_within, extends_up_to, held_stretch, kept_wide, safe_wide, stood_wide, unwritten_wide}
use Rattle.hg_session.specs.Acts.{Makes}
use Rattle.hg_session.specs.Call.{Count, Saved, Watched}
use Rattle.hg_session.specs.Change.{IsKept, IsSafe, IsUnwritten, up_to}
use Rattle.hg_session.specs.Changing.{IsSafeHeld}
use Rattle.hg_session.specs.Locks.{NotTaken, Refused, TakenAt}
use Rattle.hg_session.specs.Look.{OnlyReads}
use Rattle.hg_session.specs.Saving.{AnotherStood, CannotWrite, IsLockedToSave, IsNoted, IsNotedHeld, IsUnsaved, noted_makes}
use Rattle.hg_session.specs.SavingNotes.{SavesHeld, SavesNotes, once_saved, save_fault}
use Rattle.hg_session.specs.Ways.{IsMadeOver, IsUnfit, Stood, stood_by}
use Rattle.hg_session.specs.declared.save_fault.SaveFault.{SaveFault}
use Rattle.hg_session.specs.declared.save_fault.SaveFault.TheVariants as a_save
use Rattle.hg_shelf.proofs.Histories.{passes_same}
use Rattle.hg_shelf.proofs.Scenes.{goes_same}
use Rattle.hg_shelf.specs.Asks.{AsksFrontOf}
use Rattle.hg_shelf.specs.History.{History, Waits}
use Rattle.hg_shelf.specs.Images.{Course, Goes}
use Rattle.hg_shelf.specs.Lock as locks_are
use Rattle.hg_shelf.specs.Lock.{NotesUnlock, Unlocks}
use Rattle.hg_shelf.specs.Polite.{Undisturbed}
use Rattle.hg_shelf.specs.declared.asked.Asked.{Asked}
use Rattle.hg_shelf.specs.declared.asked.LockAnswer.TheVariants as an_answer
use Rattle.hg_tree.specs.History as tree
use Rattle.hg_walk.specs.Applying.{IsBlank}
use Rattle.hg_walk.specs.Notes.{NotesData, applied}

never_none : {Q : Type 0} (fault : SaveFault) → save_fault (Err fault) ≡ None → Q
never_none fault is = absurd (cc is)

-- ---- where the lock wasn't had

-- nothing was noted, and nothing touched
pub saves_blank : (Own : Try → Type 0) (start : History) (c : Course) (count held : ℕ) (recorded : Table) (notes : NotesData) → IsBlank notes
    → SavesNotes Own start (record { old = c.history; new = c.history; before = count; after = count }) (record { old = c; new = c }) (record { before = held; after = held }) recorded notes None
saves_blank Own start c count held recorded notes blank =
    let only : OnlyReads (record { old = c; new = c }) (record { before = held; after = held }) =
    record { passes = passes_same c.history; kept = goes_same c; held = refl } in
    record { idle = λ none. (only, refl); safe = λ calm. inl (inl (unwritten_here c.history)); locked = inl (blank, only); saves = λ well. inl blank }

module _ (Own : Try → Type 0) (start : History) (a b : Course) (lock : Waits a.history b.history) (before after : ℕ) (locks : Count) (recorded : Table) (notes : NotesData) (some : IsBlank notes → ⊥) (ours : b.history.ours ≡ a.history.ours) where
  abbrev called : Watched History
  called = record { old = a.history; new = b.history; before = before; after = after }

  -- it was refused
  pub saves_refused : (IsTrue a.history.told → Refused a.history b.history) → Rose locks.before locks.after → SavesNotes Own start called (record { old = a; new = b }) locks recorded notes None
  saves_refused told rose = record {
    idle = λ blank. absurd (some blank);
    safe = λ calm. inl (inl (record { none = lock.none }));
    locked = inr (inl (record { told = told; ours = ours; counted = rose; unwritten = record { none = lock.none }; besides = refl }));
    saves = λ well. inr (inl rose);
  }

  -- taking it failed
  pub saves_not_taken : (IsTrue a.history.told → NotTaken a.history b.history) → locks.after ≡ locks.before → Rose before after
      → SavesNotes Own start called (record { old = a; new = b }) locks recorded notes (save_fault (Err a_save.ShelfFailed))
  saves_not_taken told uncounted failed = record {
    idle = λ blank. absurd (some blank);
    safe = λ calm. inl (inl (record { none = lock.none }));
    locked = inr (inr (inl (record { told = told; ours = ours; uncounted = uncounted; failed = failed; unwritten = record { none = lock.none }; besides = inl refl })));
    saves = λ well. never_none a_save.ShelfFailed well;
  }

-- ---- where it was

-- nothing was asked for
pub asked_none : (old new : History) → new.asked ≡ old.asked → AsksFrontOf (docket_ask ∷ []) old new
asked_none old new none = record { some = 0; made = none ∙ sym (append-nil old.asked) }

-- the docket is asked for under the lock alone
pub once_asked : (a b c d : History) → b.asked ≡ a.asked → AsksFrontOf (docket_ask ∷ []) b c → d.asked ≡ c.asked → AsksFrontOf (docket_ask ∷ []) a d
once_asked a b c d first front last = record { some = front.some; made = last ∙ front.made ∙ ap (λ (l : List Asked). l ++ take front.some (docket_ask ∷ [])) first }

-- nothing was written, where nothing was under the lock
pub unwritten_locked : (a b c d : Course) → Waits a.history b.history → Waits c.history d.history → Goes a b → Goes b c → Goes c d → IsUnwritten b.history c.history → IsUnwritten a.history d.history
unwritten_locked a b c d lock unlock p q r is = record {
  none = λ j from to is_us. elim (cases_lt j c.history.last) [
    | inl early ↦ elim (cases_lt j b.history.last) [
      | inl first ↦ lock.none j from first (sym (q.past.who j first) ∙ sym (r.past.who j early) ∙ is_us)
      | inr late ↦ is.none j late early (sym (r.past.who j early) ∙ is_us)
    ]
    | inr late ↦ unlock.none j late to is_us
  ];
}

-- what is so of a fault under the lock is so of the one that is answered
pub once_either : {U E : Type 0} (P Q : Type 0) (done : Result Unit SaveFault) (freed : Result U E) → (P → Q) → IfErr done (λ e. (e ≡ a_save.ShelfFailed) ⊎ P)
    → IfErr (once_saved done freed) (λ e. (e ≡ a_save.ShelfFailed) ⊎ Q)
once_either P Q (Err fault) freed weaker (inl same) = inl same
once_either P Q (Err fault) freed weaker (inr is) = inr (weaker is)
once_either P Q (Ok done) (Err failed) weaker is = inl refl
once_either P Q (Ok done) (Ok unit) weaker is = tt

pub once_cause : {U E : Type 0} (a b c d : ℕ) (done : Result Unit SaveFault) (freed : Result U E) → b ≡ a → HasCause b c done (λ e. e ≡ a_save.ShelfFailed) → HasCause c d freed (λ e. Unit {0})
    → HasCause a d (once_saved done freed) (λ e. e ≡ a_save.ShelfFailed)
once_cause a b c d (Err fault) freed same first second =
    let early = first.later in
    let late = second.later in
    record { later = omega (arith, same, early, late); quiet = tt; rose = λ is. let rose = first.rose is in omega (arith, same, rose, late) }
once_cause a b c d (Ok done) (Err failed) same first second =
    let quiet : c ≡ b = first.quiet in
    let late = second.later in
    record { later = omega (arith, same, quiet, late); quiet = tt; rose = λ is. let rose = second.rose tt in omega (arith, same, quiet, rose) }
once_cause a b c d (Ok done) (Ok unit) same first second =
    let quiet : c ≡ b = first.quiet in
    let last : d ≡ c = second.quiet in
    record { later = omega (arith, same, quiet, last); quiet = last ∙ quiet ∙ same; rose = tt }

module _ (Own : Try → Type 0) (start : History) (recorded : Table) (notes : NotesData) (a b c d : Course) (lock : Waits a.history b.history) (unlock : Waits c.history d.history) (p : Goes a b) (q : Goes b c) (r : Goes c d)
    (noted : IsTrue a.history.told → locks_are.IsNoted an_answer.Taken a.history b.history) (same : c.history.locks ≡ b.history.locks)
    (taken : IsTrue a.history.told → TakenAt a.history d.history b.history.last c.history.last) (held : IsTrue b.history.told → IsHeld b.history c.history) (first before after end : ℕ) where
  abbrev part : Watched History
  part = record { old = b.history; new = c.history; before = before; after = after }

  abbrev whole : Watched History
  whole = record { old = a.history; new = d.history; before = first; after = end }

  abbrev inner : Saved
  inner = record { old = b; new = c }

  abbrev outer : Saved
  outer = record { old = a; new = d }

  abbrev Part : Makes
  Part = noted_makes (record part { old = start }) recorded notes

  abbrev Whole : Makes
  Whole = noted_makes (record whole { old = start }) recorded notes

  abbrev alone : Watched tree.History
  alone = record { old = tree.untold; new = tree.untold; before = 0; after = 0 }

  wide : IsWider Part Whole
  wide = record {
    does = λ old new said changed is. is;
    stops = λ loaded fault is. is;
    may = λ before behind is. is;
    fair = λ x y past at within keep. keep_earlier (up_to at x) (up_to at y) start.last (extends_up_to at x y within past) keep;
  }

  -- ---- what became of the notes

  try_wide : (tried : Try) → IsTry start c.history tried → IsTry start d.history tried
  try_wide tried is = record {
    docket = record { from = is.docket.from; to = omega (arith, is.docket.to, r.past.later) };
    file = record { from = is.file.from; to = omega (arith, is.file.to, r.past.later) };
    order = is.order;
  }

  found_wide : (tried : Try) → IsTry start c.history tried → found_by d.history tried ≡ found_by c.history tried
  found_wide tried is =
      let docket : files_at d.history tried.docket ≡ files_at c.history tried.docket = (r.past.stay tried.docket is.docket.to).shown in
      let file : files_at d.history tried.file ≡ files_at c.history tried.file = (r.past.stay tried.file is.file.to).shown in
      λ i. record_in (docket i) (file i)

  stood_same : (tried : Try) → IsTry start c.history tried → stood_by d.history tried ≡ stood_by c.history tried
  stood_same tried is = stood_wide a b c d lock unlock p q r taken held tried is.docket.to is.file.to

  another_wide : AnotherStood Own start c.history recorded b.history.last c.history.last → AnotherStood Own start d.history recorded b.history.last c.history.last
  another_wide is =
      let docket : files_at d.history is.tried.docket ≡ files_at c.history is.tried.docket = (r.past.stay is.tried.docket is.within.docket.to).shown in
      record {
        tried = is.tried;
        own = is.own;
        within = try_wide is.tried is.within;
        found = found_wide is.tried is.within ∙ is.found;
        at = is.at;
        later = is.later;
        upto = is.upto;
        other = λ equal. is.other (sym (ap docket_in (r.past.stay is.at is.upto).shown) ∙ equal ∙ ap docket_in docket);
      }

  cannot_wide : CannotWrite Own start c.history recorded notes → CannotWrite Own start d.history recorded notes
  cannot_wide is = record {
    tried = is.tried;
    own = is.own;
    within = try_wide is.tried is.within;
    found = found_wide is.tried is.within ∙ is.found;
    fault = is.fault;
    told = is.told;
    unfit = subst (λ (stood : Stood). IsUnfit stood (applied notes recorded) is.fault) (sym (stood_same is.tried is.within)) is.unfit;
  }

  why_wide : IsUnsaved Own start recorded notes inner b.history.last c.history.last → IsUnsaved Own start recorded notes outer b.history.last c.history.last
  why_wide (inl other) = inl (another_wide other)
  why_wide (inr cannot) = inr (cannot_wide cannot)

  noted_wide : IsNoted Own start recorded notes inner b.history.last c.history.last → IsNoted Own start recorded notes outer b.history.last c.history.last
  noted_wide (inl (why, none)) = inl (why_wide why, unwritten_wide a b c d lock unlock p q r taken held none)
  noted_wide (inr is) = inr (record {
    tried = is.tried;
    own = is.own;
    within = try_wide is.tried is.within;
    found = found_wide is.tried is.within ∙ is.found;
    held = is.held;
    over = subst (λ (stood : Stood). IsMadeOver stood (applied notes recorded) is.held) (sym (stood_same is.tried is.within)) is.over;
    kept = λ keep.
        subst (λ (stood : Stood). IsKept stood recorded (applied notes recorded) outer b.history.last c.history.last) (sym (stood_same is.tried is.within))
        (kept_wide a b c d lock unlock p q r taken held Part Whole wide alone before after first end (stood_by c.history is.tried) recorded (applied notes recorded)
        (is.kept (λ way. wide.fair c.history d.history r.past b.history.last q.past.later (keep way))));
  })

  noted_held : (IsNotedIn : Undisturbed b c → IsNoted Own start recorded notes inner b.history.last c.history.last) → IsNotedHeld Own start recorded notes outer
  noted_held is = λ calm. (held_stretch a b c d lock unlock p q r taken held, noted_wide (is (calm_within a b c d lock unlock p q r taken held calm)))

  once_safe : (done : Result Unit SaveFault) (freed : Result Unit Failed) → IsSafeHeld Part inner (save_fault done) → IsSafe Whole outer (save_fault (once_saved done freed))
  once_safe (Err fault) freed safe = safe_wide a b c d lock unlock p q r taken held Part Whole wide alone before after first end (save_fault (Err fault)) safe
  once_safe (Ok done) (Ok unit) safe = safe_wide a b c d lock unlock p q r taken held Part Whole wide alone before after first end None safe
  once_safe (Ok done) (Err failed) safe = elim (safe_wide a b c d lock unlock p q r taken held Part Whole wide alone before after first end None safe) [
    | inl only ↦ inl only
    | inr is ↦ inr (inl refl, is.1)
  ]

  once_saves : (done : Result Unit SaveFault) (freed : Result Unit Failed) → SavesHeld Own start part inner recorded notes (save_fault done) → save_fault (once_saved done freed) ≡ None → IsNotedHeld Own start recorded notes outer
  once_saves (Err fault) freed is well = never_none fault well
  once_saves (Ok done) (Err failed) is well = never_none a_save.ShelfFailed well
  once_saves (Ok done) (Ok unit) is well = noted_held (is.ends refl)

  once_locked : (locks : Count) (done : Result Unit SaveFault) (freed : Result Unit Failed) → before ≡ first → locks.after ≡ locks.before → SavesHeld Own start part inner recorded notes (save_fault done)
      → HasCause before after done (λ e. e ≡ a_save.ShelfFailed) → HasCause after end freed (λ e. Unit {0}) → Unlocks c.history.ours d.history.ours freed → (IsTrue c.history.told → NotesUnlock c.history d.history freed)
      → IsLockedToSave Own start whole outer locks recorded notes (save_fault (once_saved done freed))
  once_locked locks done (Ok unit) counted uncounted is cause freed free unlocked = inr (inr (inr (inl (record {
    told = λ told. returned_by a.history b.history c.history d.history p.past q.past r.past (noted told) same (unlocked (q.past.told ∙ p.past.told ∙ told));
    ours = free;
    uncounted = uncounted;
  }))))
  once_locked locks (Err a_save.OutOfMemory) (Err failed) counted uncounted is cause freed free unlocked = inr (inr (inr (inr (record {
    told = λ told. not_returned_by a.history b.history c.history d.history p.past q.past r.past (noted told) same (unlocked (q.past.told ∙ p.past.told ∙ told));
    uncounted = uncounted;
    failed = rose_last first before after end counted cause.later (freed.rose tt);
    besides = inr refl;
  }))))
  once_locked locks (Err a_save.ShelfFailed) (Err failed) counted uncounted is cause freed free unlocked = inr (inr (inr (inr (record {
    told = λ told. not_returned_by a.history b.history c.history d.history p.past q.past r.past (noted told) same (unlocked (q.past.told ∙ p.past.told ∙ told));
    uncounted = uncounted;
    failed = rose_last first before after end counted cause.later (freed.rose tt);
    besides = inl (inl refl, inr (rose_twice first before after end counted (cause.rose refl) (freed.rose tt)));
  }))))
  once_locked locks (Ok done) (Err failed) counted uncounted is cause freed free unlocked = inr (inr (inr (inr (record {
    told = λ told. not_returned_by a.history b.history c.history d.history p.past q.past r.past (noted told) same (unlocked (q.past.told ∙ p.past.told ∙ told));
    uncounted = uncounted;
    failed = rose_last first before after end counted cause.later (freed.rose tt);
    besides = inl (inl refl, inl (noted_held (is.ends refl)));
  }))))

  pub saves_locked : (locks : Count) (some : IsBlank notes → ⊥) (done : Result Unit SaveFault) (freed : Result Unit Failed) → before ≡ first → locks.after ≡ locks.before
      → SavesHeld Own start part inner recorded notes (save_fault done) → HasCause before after done (λ e. e ≡ a_save.ShelfFailed) → HasCause after end freed (λ e. Unit {0}) → Unlocks c.history.ours d.history.ours freed
      → (IsTrue c.history.told → NotesUnlock c.history d.history freed) → SavesNotes Own start whole outer locks recorded notes (save_fault (once_saved done freed))
  saves_locked locks some done freed counted uncounted is cause freed_cause free unlocked = record {
    idle = λ blank. absurd (some blank);
    safe = λ calm. once_safe done freed (is.safe (calm_within a b c d lock unlock p q r taken held calm));
    locked = once_locked locks done freed counted uncounted is cause freed_cause free unlocked;
    saves = λ well. inr (inr (once_saves done freed is well));
  }
