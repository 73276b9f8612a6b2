-- A status over the copy that asks for all letters and meets no fault: what it prints, and what stands behind it.
use Rattle.std.proofs.Common.{ℕ, ◌≡◌, ◌*◌, ◌%◌, ◌<◌, ◌≤◌, ◌⊎◌, Bool, true, false, List, [], ◌++◌, Option, Some, None, Ok, inl, inr, refl, sym, ap, subst, ◌∙◌, arith, eqb}
use Rattle.std.specs.Prelude.{IfSome, IsTrue, codes, option_map}
use Rattle.hg_save.specs.Loads.{Try}
use Rattle.hg_append.specs.declared.way.Way.{Way}
use Rattle.hg_append.specs.declared.way.Way.TheVariants as a_way
use Rattle.hg_append.specs.Loss.{plan_of}
use Rattle.hg_base.specs.Fault.{Rose}
use Rattle.hg_compare.specs.Tracked.{ParentRow}
use Rattle.hg_docket.specs.Docket.{Contents}
use Rattle.hg_entry.specs.Entry.{CacheData}
use Rattle.hg_entry.specs.Table.{Table, flat_of}
use Rattle.hg_flat.specs.Patterns.{ignored_at}
use Rattle.hg_gen.specs.Copy.{AreFiles}
use Rattle.hg_save.proofs.Solid.{sound_data}
use Rattle.hg_report.specs.Status.{sign_of}
use Rattle.hg_save.specs.Others.{HasData, KeepData}
use Rattle.hg_save.specs.Record.{data_name, reading}
use Rattle.hg_save.specs.Saved.{new_docket}
use Rattle.hg_save.proofs.Spans.{keep_used}
use Rattle.hg_session.proofs.Longer.{right_by_start, rows_stay}
use Rattle.hg_session.proofs.Makers.{may_note_nothing, none_since, unwritten_only}
use Rattle.hg_session.proofs.Parents.{kept_stays}
use Rattle.hg_session.proofs.SameTables.{one_table}
use Rattle.hg_session.specs.Call.{Count, Looked, Saved, Sink}
use Rattle.hg_session.specs.Change.{IsSafe, IsUnwritten, NoneOurs, up_to, IsLoadedFirst}
use Rattle.hg_session.specs.Listed.{IsOwn, IsRightFor}
use Rattle.hg_session.specs.Saving.{IsLockedToSave, IsNotedHeld}
use Rattle.hg_session.specs.Ways.{KeepsBy}
use Rattle.hg_session.specs.Status.{AreEarnedFor, ByLoadedFirst, IsFullText, RanStatus, SavesLast, noted_in}
use Rattle.hg_shelf.specs.History as shelf
use Rattle.hg_shelf.specs.Images.{Images, course}
use Rattle.hg_shelf.specs.Polite.{KeepsPlain, Undisturbed, is_plain}
use Rattle.hg_tree.specs.History as tree
use Rattle.hg_tree.specs.Honest.{IsHonest}
use Rattle.hg_tree.specs.Moment.{Moment, is_among}
use Rattle.hg_walk.proofs.Growing.{notes_are_trusted, trust_stays}
use Rattle.hg_walk.proofs.Vouched.{vouched_is_clean}
use Rattle.hg_walk.specs.Notes.{DirNote, NotesData, applied, seen_at, with_seen}
use Rattle.hg_walk.specs.Trust.{IsTrusted}
use Rattle.hg_walk.specs.Walking.{AreNeeded, rows_in}
use Rattle.hg_words.specs.declared.given.Command.TheVariants as a_command
use Rattle.hg_cli.specs.Lines.{lines_with}
use Rattle.hg_cli.specs.Load.{all_letters}
use Rattle.hg_cli.proofs.Letters.{letter_of}
use Rattle.hg_cli.proofs.Numbering.{numbered}
use Rattle.hg_cli.proofs.Owning.{IsBetween, asked_still, none_late, not_plain, one_reading, parent_kept, plain_unwritten, read_there, is_not}
use Rattle.hg_cli.proofs.Standing.{IsMarked, noted_marked, stands}
use Rattle.hg_cli.proofs.Tallying.{tally}

-- ---- the text of a full listing of the copy

pub text_lines : (dirs : ℕ) → dirs ≤ 2000 → (files : shelf.Files) (moment : Moment) (h : tree.History) → AreFiles (16 * dirs) moment.things → IsBetween dirs files h
    → (text : List ℕ) → IsFullText all_letters files moment text → (sign each : ℕ) → tally (λ i. eqb (sign_of (letter_of (i % 16))) sign) 16 ≡ each → lines_with sign text ≡ each * dirs
text_lines dirs few files moment h copy between text full sign each is =
    let same : between.table ≡ full.listing.table = one_reading (reading files) between.table full.listing.table between.reads full.listing.recorded in
    ap (lines_with sign) full.is
    ∙ numbered dirs few (flat_of full.listing.table) moment (rows_in full.listing.table files) (ignored_at moment)
    (stands dirs full.listing.table files moment (subst (IsMarked dirs) same between.marked) between.parent copy) full.rows full.listing.full sign each is

-- ---- a status

abbrev text_in : List ℕ → Option (List ℕ) → List ℕ
text_in text None = text
text_in text (Some other) = other

us_not_readers : shelf.us ≡ shelf.readers → ⊥
us_not_readers same = cc same

none_seen : (seen : Option DirNote) (gone : Bool) (cache : Option CacheData) → seen ≡ None → cache ≡ None → with_seen seen gone cache ≡ None
none_seen None true cache is none = refl
none_seen None false cache is none = none
none_seen (Some note) gone cache is none = absurd (cc (is))

-- a publication keeps the plain store, by either way
pub plain_kept : (way : Way) (docket : Contents) (old new : shelf.Files) → KeepsBy way docket old new → (name : List ℕ) → is_plain name ≡ true → new name ≡ old name
plain_kept a_way.Rewrite docket old new kept name plain =
    kept.2.others name (not_plain name (codes "dirstate") refl plain) (not_plain name new_docket refl plain) (not_plain name (data_name docket.id) refl plain) (not_plain name (data_name kept.0) refl plain)
plain_kept a_way.Append docket old new kept name plain =
    kept.others name (not_plain name (codes "dirstate") refl plain) (not_plain name new_docket refl plain) (not_plain name (data_name docket.id) refl plain)

module _ (dirs : ℕ) (looked : Looked) (before after : ℕ → Images) (locks : Count) (out err : Sink) (tree_told : IsTrue looked.tree.old.told) (honest : IsHonest looked.tree.new)
    (tree_ours : (k : ℕ) → looked.tree.new.who k ≡ tree.us) (shelf_told : IsTrue looked.shelf.old.told)
    (shelf_ours : (k : ℕ) → k < looked.shelf.new.last → looked.shelf.new.who k ≡ shelf.us) (between : IsBetween dirs (shelf.now looked.shelf.old).files looked.tree.old) where
  abbrev saved : Saved
  saved = record { old = course looked.shelf.old before; new = course looked.shelf.new after }

  abbrev there : shelf.Files
  there = (shelf.now looked.shelf.old).files

  abbrev start : ℕ
  start = looked.shelf.old.last

  abbrev end : ℕ
  end = looked.shelf.new.last

  calm : Undisturbed saved.old saved.new
  calm = record { told = shelf_told; others = record { same = λ k from below is. absurd (us_not_readers (sym (shelf_ours k below) ∙ is)) } }

  own : IsOwn looked
  own = record {
    tree = record { told = tree_told; ours = λ k from below. tree_ours k };
    shelf = record { told = shelf_told; ours = λ k from below. shelf_ours k below };
  }

  module _ (past : shelf.Extends looked.shelf.old looked.shelf.new) (passes : tree.Passes looked.tree.old looked.tree.new) (notes : NotesData) where
    shown_first : (looked.shelf.new.at start).files ≡ there
    shown_first = (past.stay start (omega arith)).shown

    -- the plain store stays
    plain_by : (t : Table) → IsSafe (noted_in looked.shelf (Some t) notes) saved None → KeepsPlain looked.shelf.new start
    plain_by t (inl only) =
        let later : start ≤ end = past.later in
        let unwritten : IsUnwritten looked.shelf.old looked.shelf.new = unwritten_only (noted_in looked.shelf (Some t) notes).may (may_note_nothing looked.shelf (Some t) notes) saved only in
        plain_unwritten looked.shelf.old looked.shelf.new past shelf_told shelf_ours (none_late looked.shelf.new shelf_ours start end (omega arith) unwritten.none)
    plain_by t (inr both) =
        let published = both.1 in
        let order : published.since ≤ published.stretch.to = published.upto in
        let upto_end : published.stretch.to ≤ end = published.stretch.end in
        let from_start : start ≤ published.since = omega (arith, published.stretch.start, published.from) in
        let none : NoneOurs looked.shelf.new start published.since = none_since (noted_in looked.shelf (Some t) notes) (may_note_nothing looked.shelf (Some t) notes) saved published in
        let front : published.since ≤ start = none_late looked.shelf.new shelf_ours start published.since (omega (arith, order, upto_end)) none in
        let back : end ≤ published.stretch.to = none_late looked.shelf.new shelf_ours published.stretch.to end (omega arith) published.stretch.behind in
        record {
          told = past.told ∙ shelf_told;
          each = λ name plain k from upto.
              let kept = published.is.others k (omega (arith, front, from)) (omega (arith, back, upto)) in
              let first : published.since ≡ start = omega (arith, front, from_start) in
              plain_kept (plan_of published.is.held) published.is.held.docket (looked.shelf.new.at published.since).files (looked.shelf.new.at k).files kept name plain
              ∙ ap (λ (j : ℕ). (looked.shelf.new.at j).files name) first;
        }

    -- the data file that the docket names is there
    kept_here : KeepData (up_to start looked.shelf.new) start
    kept_here =
        keep_used (up_to start looked.shelf.new) start (past.told ∙ shelf_told) (subst HasData (sym shown_first) (sound_data there (between.table, between.reads)))
        (λ by. record { each = λ k after before who. absurd (omega (arith, after, before)) })

    -- nothing was written, or the record with the notes is what is recorded then
    locked_still : (Own : Try → Type 0) (t : Table) → locks.before ≡ 0 → Rose locks.before locks.after → IsLockedToSave Own looked.shelf.old looked.shelf saved locks t notes None → end ≤ start
    locked_still Own t none rose (inl (blank, only)) = asked_still looked.shelf.new shelf_ours looked.shelf.old only.passes
    locked_still Own t none rose (inr (inl over)) = none_late looked.shelf.new shelf_ours start end (omega arith) over.unwritten.none
    locked_still Own t none rose (inr (inr (inl not_got))) = none_late looked.shelf.new shelf_ours start end (omega arith) not_got.unwritten.none
    locked_still Own t none rose (inr (inr (inr (inl returned)))) = let same : locks.after ≡ locks.before = returned.uncounted in absurd (omega (arith, same, none, rose))
    locked_still Own t none rose (inr (inr (inr (inr not_back)))) = let same : locks.after ≡ locks.before = not_back.uncounted in absurd (omega (arith, same, none, rose))

    noted_ends : (Own : Try → Type 0) (t : Table) → IsNotedHeld Own looked.shelf.old t notes saved → (end ≤ start) ⊎ (reading (shelf.now looked.shelf.new).files ≡ Some (Ok (applied notes t)))
    noted_ends Own t noted =
        let made = noted calm in
        elim made.1 [
          | inl unsaved ↦ inl (none_late looked.shelf.new shelf_ours start end (omega arith) unsaved.1.none)
          | inr over ↦
              let from_start : start ≤ made.0.from = made.0.start in
              let front : made.0.from ≤ start = none_late looked.shelf.new shelf_ours start made.0.from (omega (arith, made.0.order, made.0.end)) made.0.before in
              let first : made.0.from ≡ start = omega (arith, front, from_start) in
              let kept = over.kept (λ way. subst (λ (k : ℕ). KeepData (up_to k looked.shelf.new) start) (sym first) kept_here) in
              let upto_end : made.0.to ≤ end = made.0.end in
              let back : end ≤ made.0.to = none_late looked.shelf.new shelf_ours made.0.to end (omega arith) made.0.behind in
              let last : end ≡ made.0.to = omega (arith, upto_end, back) in
              inr
              (ap (λ (k : ℕ). reading (looked.shelf.new.at k).files) last ∙ kept.shown
              ∙ ap (λ (table : Table). Some (Ok table)) (one_table kept.found (applied notes t) kept.is))
        ]

    ends : (Own : Try → Type 0) (t : Table) → locks.before ≡ 0 → SavesLast Own looked.shelf saved locks (Some t) notes None → (end ≤ start) ⊎ (reading (shelf.now looked.shelf.new).files ≡ Some (Ok (applied notes t)))
    ends Own t none saving = elim (saving.saves refl) [
      | inl blank ↦ inl (asked_still looked.shelf.new shelf_ours looked.shelf.old (saving.idle blank).passes)
      | inr more ↦ elim more [ inl rose ↦ inl (locked_still Own t none rose saving.locked) | inr noted ↦ noted_ends Own t noted ]
    ]

    -- over the table that was read
    module _ (Own : Try → Type 0) (t : Table) (loaded : IsLoadedFirst looked.shelf t) (saving : SavesLast Own looked.shelf saved locks (Some t) notes None) where
      same : between.table ≡ t
      same = one_reading (reading there) between.table t between.reads (read_there looked.shelf.new shelf_ours looked.shelf.old past t (loaded shelf_told))

      plain : KeepsPlain looked.shelf.new start
      plain = plain_by t (saving.safe calm)

      trusted : IsTrusted (rows_in t there) t looked.tree.old
      trusted = subst (λ (table : Table). IsTrusted (rows_in table there) table looked.tree.old) same between.trusted

      uncached : (dir : List ℕ) → t.caches dir ≡ None
      uncached = subst (λ (table : Table). (dir : List ℕ) → table.caches dir ≡ None) same between.uncached

      pub right : IsRightFor looked t
      right =
          right_by_start looked t past plain
          (record {
            clean = vouched_is_clean (rows_in t there) t looked.tree.old looked.tree.new passes.past honest trusted;
            listed = λ k dir cache stat state from upto cached shown kind fits texts hash name component stood. absurd (is_not (t.caches dir) cache (uncached dir) cached);
          })

      marked : IsMarked dirs t
      marked = subst (IsMarked dirs) same between.marked

      still_next : end ≤ start → IsBetween dirs (shelf.now looked.shelf.new).files looked.tree.new
      still_next none =
          let later : start ≤ end = past.later in
          let last : end ≡ start = omega (arith, later, none) in
          let files : (shelf.now looked.shelf.new).files ≡ there = ap (λ (k : ℕ). (looked.shelf.new.at k).files) last ∙ shown_first in
          subst (λ (f : shelf.Files). IsBetween dirs f looked.tree.new) (sym files)
          (record {
            table = between.table;
            reads = between.reads;
            marked = between.marked;
            uncached = between.uncached;
            trusted = trust_stays (rows_in between.table there) between.table looked.tree.old looked.tree.new passes.past between.trusted;
            parent = between.parent;
          })

      alike : (name : List ℕ) → is_plain name ≡ true → (shelf.now looked.shelf.new).files name ≡ there name
      alike name is = plain.each name is end past.later (omega arith) ∙ ap (λ (f : shelf.Files). f name) shown_first

      noted_next : AreNeeded t notes → AreEarnedFor looked t notes → reading (shelf.now looked.shelf.new).files ≡ Some (Ok (applied notes t)) → IsBetween dirs (shelf.now looked.shelf.new).files looked.tree.new
      noted_next needed earned reads = record {
        table = applied notes t;
        reads = reads;
        marked = noted_marked dirs notes t marked;
        uncached = λ dir. none_seen (seen_at notes.seen dir) (is_among dir notes.gone) (t.caches dir) (ap (λ (l : List DirNote). seen_at l dir) needed.seen) (uncached dir);
        trusted =
            subst (λ (rows : List ℕ → Option ParentRow). IsTrusted rows (applied notes t) looked.tree.new)
            (ap (rows_in t) (sym shown_first) ∙ sym (rows_stay t looked.shelf.new start end past.later (omega arith) plain))
            (notes_are_trusted (rows_in t there) t looked.tree.new notes (trust_stays (rows_in t there) t looked.tree.old looked.tree.new passes.past trusted) (earned there honest tree_told (kept_stays looked.shelf.old looked.shelf.new past plain)));
        parent = parent_kept dirs there (shelf.now looked.shelf.new).files alike between.parent;
      }

      pub next : locks.before ≡ 0 → AreNeeded t notes → AreEarnedFor looked t notes → IsBetween dirs (shelf.now looked.shelf.new).files looked.tree.new
      next none needed earned = elim (ends Own t none saving) [ inl still ↦ still_next still | inr reads ↦ noted_next needed earned reads ]

    right_some : (Own : Try → Type 0) (o : Option Table) → IfSome o (IsLoadedFirst looked.shelf) → SavesLast Own looked.shelf saved locks o notes None → IfSome o (IsRightFor looked)
    right_some Own None loaded saving = tt
    right_some Own (Some t) loaded saving = right Own t loaded saving

    next_some : (Own : Try → Type 0) (o : Option Table) → IfSome o (IsLoadedFirst looked.shelf) → IfSome o (λ t. AreNeeded t notes) → IfSome o (λ t. AreEarnedFor looked t notes) → SavesLast Own looked.shelf saved locks o notes None
        → locks.before ≡ 0 → IsBetween dirs (shelf.now looked.shelf.new).files looked.tree.new
    next_some Own None loaded needed earned saving none = absurd (saving.saves refl)
    next_some Own (Some t) loaded needed earned saving none = next Own t loaded saving none needed earned

  module _ (code : ℕ) (past : shelf.Extends looked.shelf.old looked.shelf.new) (ran : RanStatus all_letters (record { command = a_command.Status all_letters; looked = looked; saved = saved; locks = locks; out = out; err = err }) code None) where
    -- the files that it leaves record the copy, too, where no lock was refused before
    pub leaves : locks.before ≡ 0 → IsBetween dirs (shelf.now looked.shelf.new).files looked.tree.new
    leaves none = next_some past ran.tree ran.notes (ByLoadedFirst looked.shelf ran.table ran.loaded) ran.table ran.loaded ran.needed ran.earned ran.saving none

    -- what it prints is the text of the full listing
    pub prints : (text : List ℕ) → out.old ≡ Some [] → out.new ≡ Some text → IsFullText all_letters there (tree.now looked.tree.old) text
    prints text empty printed =
        let puts = ran.whole refl own (right_some past ran.tree ran.notes (ByLoadedFirst looked.shelf ran.table ran.loaded) ran.table ran.loaded ran.saving) in
        let grown : Some text ≡ Some puts.text = sym printed ∙ puts.put ∙ ap (option_map (λ bytes. bytes ++ puts.text)) empty in
        subst (IsFullText all_letters there (tree.now looked.tree.old)) (sym (ap (text_in text) grown)) puts.is
