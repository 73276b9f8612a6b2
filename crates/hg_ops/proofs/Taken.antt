-- What `remove` did with what was found.
use Rattle.std.proofs.Common.{ℕ, suc, cond, ◌≡◌, ◌⊎◌, Bool, true, false, List, [], ◌∷◌, Option, Some, None, Result, Ok, Err, inl, inr, refl, sym, ap, ◌∙◌, subst, arith}
use Rattle.std.proofs.lemmas.Bool.{cases_lt}
use Rattle.std.specs.Option.{option_and_then}
use Rattle.std.specs.Prelude.{IfErr, IfOk, IsTrue, MatchBool, OnOk}
use Rattle.hg_base.proofs.Within.{equal_bytes}
use Rattle.hg_base.specs.PathText.{is_path, is_same_dir, parent_of}
use Rattle.hg_base.specs.declared.stat.Stat.{Stat}
use Rattle.hg_entry.specs.Steps.{is_file}
use Rattle.hg_entry.specs.Table.{Table}
use Rattle.hg_manifest.specs.declared.row.FileRow.{FileRow}
use Rattle.hg_ops.specs.Finding.{Finds, FindsByRow, FindsIn, FindsShown, TakesFound, refusal_of}
use Rattle.hg_ops.specs.Parent.{Span, upto}
use Rattle.hg_ops.specs.Parents.{row_at}
use Rattle.hg_ops.specs.Look.{WasShown}
use Rattle.hg_ops.specs.Remove.{IsGone, IsUnlikeRow, MetRemoving, NeedsRow, RefusesBehind, RefusesByRow, RefusesShown, Removes, SeesClean, StopsRemoving, Takes, TakesClean, WasGone, early_refusal, entry_refusal, may_take, needs_row}
use Rattle.hg_ops.specs.Step.{IsForgotten}
use Rattle.hg_ops.specs.declared.finding.Found.{Found}
use Rattle.hg_ops.specs.declared.finding.Found.TheVariants as a_find
use Rattle.hg_ops.specs.declared.refusal.OpFault.{OpFault}
use Rattle.hg_ops.specs.declared.refusal.OpFault.TheVariants as a_fault
use Rattle.hg_ops.specs.declared.refusal.Refusal.{Refusal}
use Rattle.hg_ops.specs.declared.refusal.Refusal.TheVariants as a_refusal
use Rattle.hg_ops.proofs.Added.{same_table, shown_last}
use Rattle.hg_ops.proofs.FoundSpans.{match_map}
use Rattle.hg_shelf.specs.History as shelves
use Rattle.hg_tree.specs.Change.{dir_of}
use Rattle.hg_tree.specs.History.{Extends, History, Passes, now}
use Rattle.hg_tree.specs.Moment.{bytes_at, bytes_of, stat_at}
use Rattle.hg_tree.specs.Own.{Acts, IsUnlink, MayUnlink, Unlinks}
use Rattle.hg_tree.specs.Touched.{ChangesOnly}
use Rattle.hg_tree.specs.declared.thing.Placed.{Placed}
use Rattle.hg_tree.proofs.Histories.{extends_same, extends_trans}
use Rattle.hg_tree.proofs.Spans.{passes_same, passes_trans}
use Rattle.hg_tree.proofs.Touching.{changes_passes, changes_trans}

-- ---- why a word is refused

row_refuses : (path : List ℕ) (old new : History) (s : Span) (before : Stat) (found : Found) → FindsByRow path old new s before found → RefusesByRow path old new s before (refusal_of found)
row_refuses path old new s before found is = by found (row_at is.rows path) refl is.seen
  where
    unlike : (o : Option FileRow) → FindsIn path old new s.old s.new before o a_find.Changed → IsUnlikeRow path old new s before o
    unlike None seen = tt
    unlike (Some row) seen = seen

    by : (found : Found) (o : Option FileRow) → row_at is.rows path ≡ o → FindsIn path old new s.old s.new before o found → RefusesByRow path old new s before (refusal_of found)
    by a_find.StillThere None has seen = absurd (cc seen)
    by a_find.StillThere (Some row) has seen = absurd seen
    by a_find.Changed o has seen = record { rows = is.rows; read = is.read; seen = subst (IsUnlikeRow path old new s before) (sym has) (unlike o seen) }
    by a_find.Unchanged None has seen = absurd (cc seen)
    by a_find.Unchanged (Some row) has seen = record { rows = is.rows; read = is.read; row = row; has = has; seen = record { alike = seen.0; seen = inl seen.1 } }
    by a_find.Nothing None has seen = absurd (cc seen)
    by a_find.Nothing (Some row) has seen = record { rows = is.rows; read = is.read; row = row; has = has; seen = record { alike = seen.0; seen = inr seen.1 } }

shown_refuses : (after needs : Bool) (path : List ℕ) (old new : History) (s : Span) (shown : Option Stat) (found : Found) → FindsShown after needs path old new s shown found → RefusesShown after needs path old new s shown (refusal_of found)
shown_refuses after needs path old new s None found is = ap refusal_of is
shown_refuses after needs path old new s (Some before) found is =
    match_map (is_file before.kind) _ _ _ _
    (match_map after _ _ _ _ (λ still. ap refusal_of still) (match_map needs _ _ _ _ (row_refuses path old new s before found) (λ changed. ap refusal_of changed)))
    (λ nothing. ap refusal_of nothing) is

-- ---- what is taken away

acts_later : (path : List ℕ) (old mid new : History) → Passes old mid → Acts (IsUnlink path) mid new → Acts (IsUnlink path) old new
acts_later path old mid new looks acts = record {
  past = extends_trans old mid new looks.past acts.past;
  before = acts.before;
  last = acts.last;
  later = omega (arith, looks.past.later, acts.later);
  by_others = λ k from upto.
      elim (cases_lt k mid.last) [
        | inl below ↦ acts.past.who k below ∙ looks.by_others k from below
        | inr above ↦ acts.by_others k above upto
      ];
  by_us = acts.by_us;
  made = acts.made;
}

may_later : (path : List ℕ) (old mid new : History) → Passes old mid → MayUnlink path mid new → MayUnlink path old new
may_later path old mid new looks (inl passes) = inl (passes_trans old mid new looks passes)
may_later path old mid new looks (inr acts) = inr (acts_later path old mid new looks acts)

pub takes_passes : (may : Bool) (path : List ℕ) (old new : History) → Passes old new → Takes may path old new
takes_passes true path old new passes = (passes.past, λ told. inl passes)
takes_passes false path old new passes = passes

takes_later : (may : Bool) (path : List ℕ) (old mid new : History) → Passes old mid → Takes may path mid new → Takes may path old new
takes_later true path old mid new looks (past, may) = (extends_trans old mid new looks.past past, λ told. may_later path old mid new looks (may (looks.past.told ∙ told)))
takes_later false path old mid new looks passes = passes_trans old mid new looks passes

same_passes : (old new : History) → new ≡ old → Passes old new
same_passes old new same = subst (λ (h : History). Passes old h) (sym same) (passes_same old)

found_passes : (found : Found) (path : List ℕ) (old new : History) → (found ≡ a_find.Unchanged → ⊥) → TakesFound found path old new → Passes old new
found_passes a_find.StillThere path old new never is = same_passes old new is
found_passes a_find.Changed path old new never is = same_passes old new is
found_passes a_find.Unchanged path old new never is = absurd (never refl)
found_passes a_find.Nothing path old new never is = same_passes old new is

pub found_past : (found : Found) (path : List ℕ) (old new : History) → TakesFound found path old new → Extends old new
found_past a_find.StillThere path old new is = (same_passes old new is).past
found_past a_find.Changed path old new is = (same_passes old new is).past
found_past a_find.Unchanged path old new is = is.0
found_past a_find.Nothing path old new is = (same_passes old new is).past

found_takes : (found : Found) (path : List ℕ) (old new : History) → TakesFound found path old new → Takes true path old new
found_takes a_find.StillThere path old new is = takes_passes true path old new (same_passes old new is)
found_takes a_find.Changed path old new is = takes_passes true path old new (same_passes old new is)
found_takes a_find.Unchanged path old new is = is
found_takes a_find.Nothing path old new is = takes_passes true path old new (same_passes old new is)

takes_ok : (after : Bool) (found : Found) (path : List ℕ) (old new : History) → (after ≡ true → found ≡ a_find.Unchanged → ⊥) → TakesFound found path old new → Takes (may_take after (Ok (refusal_of found))) path old new
takes_ok true found path old new never is = found_passes found path old new (never refl) is
takes_ok false a_find.StillThere path old new never is = same_passes old new is
takes_ok false a_find.Changed path old new never is = same_passes old new is
takes_ok false a_find.Unchanged path old new never is = found_takes a_find.Unchanged path old new is
takes_ok false a_find.Nothing path old new never is = found_takes a_find.Nothing path old new is

takes_err : (after : Bool) (fault : OpFault) (found : Found) (path : List ℕ) (old new : History) → (after ≡ true → found ≡ a_find.Unchanged → ⊥) → (fault ≡ a_fault.OutOfMemory) ⊎ (fault ≡ a_fault.TreeFailed) → TakesFound found path old new
    → Takes (may_take after (Err fault)) path old new
takes_err true fault found path old new never kind is = found_passes found path old new (never refl) is
takes_err false fault found path old new never (inl memory) is = subst (λ (f : OpFault). Takes (may_take false (Err f)) path old new) (sym memory) (found_takes found path old new is)
takes_err false fault found path old new never (inr failed) is = subst (λ (f : OpFault). Takes (may_take false (Err f)) path old new) (sym failed) (found_takes found path old new is)

-- whatever is answered
pub takes_any : (after : Bool) (result : Result (Option Refusal) OpFault) (found : Found) (path : List ℕ) (old mid new : History) → Passes old mid → (after ≡ true → found ≡ a_find.Unchanged → ⊥)
    → IfOk result (λ refused. refused ≡ refusal_of found) → IfErr result (λ fault. (fault ≡ a_fault.OutOfMemory) ⊎ (fault ≡ a_fault.TreeFailed)) → TakesFound found path mid new → Takes (may_take after result) path old new
takes_any after (Ok refused) found path old mid new looks never same kind is =
    subst (λ (o : Option Refusal). Takes (may_take after (Ok o)) path old new) (sym same) (takes_later (may_take after (Ok (refusal_of found))) path old mid new looks (takes_ok after found path mid new never is))
takes_any after (Err fault) found path old mid new looks never same kind is = takes_later (may_take after (Err fault)) path old mid new looks (takes_err after fault found path mid new never kind is)

-- ---- that nothing is there any more

gone_last : (path : List ℕ) (old mid new : History) → Passes old mid → Extends mid new → bytes_at (now new) path ≡ None → WasGone old new path
gone_last path old mid new looks past none = record {
  moment = new.last;
  later = omega (arith, looks.past.later, past.later);
  upto = omega arith;
  gone_then = none;
  gone_last = λ ours. none;
}

is_gone : (found : Found) (path : List ℕ) (old mid new : History) → Passes old mid → (found ≡ a_find.Nothing → IsTrue old.told → WasGone old mid path) → (found ≡ a_find.Unchanged → IsTrue mid.told → bytes_at (now new) path ≡ None)
    → TakesFound found path mid new → IsGone path old new (refusal_of found)
is_gone a_find.StillThere path old mid new looks nothing taken is = tt
is_gone a_find.Changed path old mid new looks nothing taken is = tt
is_gone a_find.Unchanged path old mid new looks nothing taken is = λ told. gone_last path old mid new looks is.0 (taken refl (looks.past.told ∙ told))
is_gone a_find.Nothing path old mid new looks nothing taken is = λ told. subst (λ (h : History). WasGone old h path) (sym is) (nothing refl told)

-- ---- what was seen of a file that is taken away

clean_in : (needs : Bool) (path : List ℕ) (old new : History) (s : Span) (before : Stat) (is : FindsByRow path old new s before a_find.Unchanged) → NeedsRow needs path old new → (o : Option FileRow) → row_at is.rows path ≡ o
    → FindsIn path old new s.old s.new before o a_find.Unchanged → needs ≡ true → is_file before.kind ≡ true → (IsTrue old.told → WasShown old new path (Some before)) → SeesClean needs path old new s
clean_in needs path old new s before is need None has seen decides file was = absurd (cc seen)
clean_in needs path old new s before is need (Some row) has seen decides file was = record {
  need = record { decides = decides; stat = before; file = file; was = was };
  rows = is.rows;
  read = is.read;
  row = row;
  has = has;
  alike = seen.0;
  same = seen.1;
}

clean_there : (file after needs : Bool) (path : List ℕ) (old new : History) (s : Span) (before : Stat) (found : Found) → found ≡ a_find.Unchanged → is_file before.kind ≡ file → (IsTrue old.told → WasShown old new path (Some before))
    → MatchBool file (MatchBool after (found ≡ a_find.StillThere) (MatchBool needs (FindsByRow path old new s before found) (found ≡ a_find.Changed))) (found ≡ a_find.Nothing) → SeesClean needs path old new s
clean_there false after needs path old new s before found same file was is = absurd (cc (same, is))
clean_there true true needs path old new s before found same file was is = absurd (cc (same, is))
clean_there true false false path old new s before found same file was is = absurd (cc (same, is))
clean_there true false true path old new s before found same file was is =
    let by = subst (FindsByRow path old new s before) same is in
    clean_in true path old new s before by (record { decides = refl; stat = before; file = file; was = was }) (row_at by.rows path) refl by.seen refl file was

clean_shown : (after needs : Bool) (path : List ℕ) (old new : History) (s : Span) (shown : Option Stat) (found : Found) → found ≡ a_find.Unchanged → (IsTrue old.told → WasShown old new path shown)
    → FindsShown after needs path old new s shown found → SeesClean needs path old new s
clean_shown after needs path old new s None found same was is = absurd (cc (same, is))
clean_shown after needs path old new s (Some before) found same was is = clean_there (is_file before.kind) after needs path old new s before found same refl was is

takes_clean : (after : Bool) (path : List ℕ) (old mid new : History) (s : Span) (was : Table) (found : Found) → early_refusal after path was ≡ None → Finds after (needs_row after path was) path old mid s found → found ≡ a_find.Unchanged
    → TakesFound found path mid new → TakesClean after path was old mid new s
takes_clean after path old mid new s was found early finds same takes =
    let taken = subst (λ (f : Found). TakesFound f path mid new) same takes in
    record {
      early = early;
      clean = clean_shown after (needs_row after path was) path old mid s finds.shown found same finds.was_shown finds.seen;
      past = taken.0;
      taken = taken.1;
    }

took_by : (after : Bool) (path : List ℕ) (old mid new : History) (s : Span) (was : Table) (found : Found) → early_refusal after path was ≡ None → Finds after (needs_row after path was) path old mid s found → TakesFound found path mid new
    → Passes mid new ⊎ ((refusal_of found ≡ None) × TakesClean after path was old mid new s)
took_by after path old mid new s was a_find.StillThere early finds takes = inl (same_passes mid new takes)
took_by after path old mid new s was a_find.Changed early finds takes = inl (same_passes mid new takes)
took_by after path old mid new s was a_find.Unchanged early finds takes = inr (refl, takes_clean after path old mid new s was a_find.Unchanged early finds refl takes)
took_by after path old mid new s was a_find.Nothing early finds takes = inl (same_passes mid new takes)

-- ---- all of it

removes_found : (after : Bool) (path : List ℕ) (old mid new : History) (s : Span) (was : Table) (found : Found) (refused : Option Refusal) (made : Table) → early_refusal after path was ≡ None → Passes old mid → shelves.Passes s.old s.new
    → (after ≡ true → found ≡ a_find.Unchanged → ⊥) → Finds after (needs_row after path was) path old mid s found → refused ≡ refusal_of found → TakesFound found path mid new
    → (found ≡ a_find.Unchanged → IsTrue mid.told → bytes_at (now new) path ≡ None) → IsForgotten path refused was made → Removes after path old new s was refused made
removes_found after path old mid new s was found refused made early looks reads never finds same takes taken forgotten = record {
  mid = mid;
  looks = looks;
  reads = reads;
  past = found_past found path mid new takes;
  shown = finds.shown;
  was_shown = finds.was_shown;
  refusal =
      subst (λ (o : Option Refusal). RefusesBehind o after (needs_row after path was) path old mid s finds.shown refused) (sym early)
      (subst (RefusesShown after (needs_row after path was) path old mid s finds.shown) (sym same) (shown_refuses after (needs_row after path was) path old mid s finds.shown found finds.seen));
  takes = subst (λ (o : Option Refusal). Takes (may_take after (Ok o)) path mid new) (sym same) (takes_ok after found path mid new never takes);
  took =
      subst (λ (o : Option Refusal). Passes mid new ⊎ ((o ≡ None) × TakesClean after path was old mid new s)) (sym same)
      (took_by after path old mid new s was found early finds takes);
  gone = subst (IsGone path old new) (sym same) (is_gone found path old mid new looks finds.gone taken takes);
  table = forgotten;
}

module _ (after needs : Bool) (path : List ℕ) (old mid new : History) (was made : Table) (later : shelves.History) (found : Found) (result : Result (Option Refusal) OpFault) (P : Span → Type 0)
    (same_needs : needs ≡ needs_row after path was) (early : early_refusal after path was ≡ None) (looks : Passes old mid) (reads : (s : Span) → P s → shelves.Passes s.old later)
    (finds : (s : Span) → P s → Finds after needs path old mid (upto s later) found) (takes : TakesFound found path mid new) where
  finds_needed : (s : Span) → P s → Finds after (needs_row after path was) path old mid (upto s later) found
  finds_needed s keeps = subst (λ (b : Bool). Finds after b path old mid (upto s later) found) same_needs (finds s keeps)

  pub removes_ok : (after ≡ true → found ≡ a_find.Unchanged → ⊥) → IfOk result (λ refused. refused ≡ refusal_of found)
      → (found ≡ a_find.Unchanged → OnOk result (IsTrue mid.told → bytes_at (now new) path ≡ None)) → IfOk result (λ refused. IsForgotten path refused was made)
      → IfOk result (λ refused. (s : Span) → P s → Removes after path old new (upto s later) was refused made)
  removes_ok never same taken forgotten = by result same taken forgotten
    where
      by : (r : Result (Option Refusal) OpFault) → IfOk r (λ refused. refused ≡ refusal_of found) → (found ≡ a_find.Unchanged → OnOk r (IsTrue mid.told → bytes_at (now new) path ≡ None))
          → IfOk r (λ refused. IsForgotten path refused was made) → IfOk r (λ refused. (s : Span) → P s → Removes after path old new (upto s later) was refused made)
      by (Err fault) same taken forgotten = tt
      by (Ok refused) same taken forgotten = λ s keeps. removes_found after path old mid new (upto s later) was found refused made early looks (reads s keeps) never (finds_needed s keeps) same takes taken forgotten

  pub stops : IfErr result (λ fault. (s : Span) → P s → StopsRemoving after path was old new (upto s later))
  stops = by result
    where
      each : (s : Span) → P s → StopsRemoving after path was old new (upto s later)
      each s keeps = elim (took_by after path old mid new (upto s later) was found early (finds_needed s keeps) takes) as (λ _. StopsRemoving after path was old new (upto s later)) [
        | inl passes ↦ inl (passes_trans old mid new looks passes)
        | inr took ↦ inr (mid, looks, took.1)
      ]

      by : (r : Result (Option Refusal) OpFault) → IfErr r (λ fault. (s : Span) → P s → StopsRemoving after path was old new (upto s later))
      by (Ok refused) = tt
      by (Err fault) = each

pub early_no_path : (after : Bool) (word : List ℕ) (t : Table) → is_path word ≡ false → early_refusal after word t ≡ Some a_refusal.BadPath
early_no_path after word t bad = ap (λ (b : Bool). cond b (entry_refusal after (t.entries word)) (Some a_refusal.BadPath)) bad

-- a word that is refused by what is recorded
pub removes_early : (after : Bool) (path : List ℕ) (h : History) (s : Span) (t : Table) (refusal : Refusal) → early_refusal after path t ≡ Some refusal → shelves.Passes s.old s.new → Removes after path h h s t (Some refusal) t
removes_early after path h s t refusal early reads = record {
  mid = h;
  looks = passes_same h;
  reads = reads;
  past = extends_same h;
  shown = stat_at (now h) path;
  was_shown = λ told. shown_last h h path (stat_at (now h) path) (passes_same h) refl;
  refusal =
      subst (λ (o : Option Refusal). RefusesBehind o after (needs_row after path t) path h h s (stat_at (now h) path) (Some refusal)) (sym early) refl;
  takes = takes_passes (may_take after (Ok (Some refusal))) path h h (passes_same h);
  took = inl (passes_same h);
  gone = tt;
  table = same_table t;
}

-- ---- an `unlink`

pub unlink_may : (path : List ℕ) (done : Bool) (old new : History) → Unlinks path done old new → MayUnlink path old new
unlink_may path true old new is = inr is
unlink_may path false old new is = inl is.0

pub unlink_gone : (path : List ℕ) (done : Bool) (old new : History) → Unlinks path done old new → bytes_at (now new) path ≡ None
unlink_gone path true old new acts =
    ap (λ (n : ℕ). bytes_at (new.at n) path) acts.last
    ∙ ap (λ (o : Option Placed). option_and_then (λ placed. bytes_of placed.thing) o)
    (acts.made.things path ∙ ap (λ (b : Bool). cond b None (cond (is_same_dir (Some path) (parent_of path)) (Some (dir_of (new.at (suc acts.before)).clock)) ((new.at acts.before).things path))) (equal_bytes path))
unlink_gone path false old new is = is.1

-- ---- of all answers

pub touches_none : (path : List ℕ) (old new : History) → Passes old new → ChangesOnly (path ∷ []) old new
touches_none path old new passes = changes_passes (path ∷ []) old new passes

pub touches_behind : (path : List ℕ) (old mid new : History) → Passes old mid → Extends mid new → ChangesOnly (path ∷ []) mid new → ChangesOnly (path ∷ []) old new
touches_behind path old mid new looks past touches = changes_trans (path ∷ []) old mid new past (touches_none path old mid looks) touches

-- behind what was found nothing more is met
pub met_finish : (needs : Bool) (path : List ℕ) (old new : History) (P : Span → Type 0) (later : shelves.History) (result : Result (Option Refusal) OpFault)
    → IfErr result (λ fault. (fault ≡ a_fault.OutOfMemory) ⊎ (fault ≡ a_fault.TreeFailed)) → IfErr result (λ fault. (s : Span) → P s → MetRemoving needs path old new (upto s later) fault)
met_finish needs path old new P later (Ok refused) kind = tt
met_finish needs path old new P later (Err fault) (inl memory) = λ s keeps. subst (MetRemoving needs path old new (upto s later)) (sym memory) tt
met_finish needs path old new P later (Err fault) (inr failed) = λ s keeps. subst (MetRemoving needs path old new (upto s later)) (sym failed) tt
