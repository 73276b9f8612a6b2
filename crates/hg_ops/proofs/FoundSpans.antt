-- What was found in a part of a call was found in the call.
use Rattle.std.proofs.Common.{ℕ, ◌≡◌, ◌≤◌, ◌⊎◌, Bool, true, false, List, [], ◌++◌, append-nil, Option, Some, None, Result, Ok, Err, option_map, inl, inr, replicate, refl, sym, ap, ◌∙◌, subst, arith}
use Rattle.std.specs.Option.{option_and_then}
use Rattle.std.specs.Prelude.{IfErr, IfOk, IsTrue, MatchBool, OnErr}
use Rattle.hg_base.specs.declared.stat.Stat.{Stat}
use Rattle.hg_base.specs.declared.time.Time.{Time}
use Rattle.hg_compare.specs.Same.{IsOther, Reads}
use Rattle.hg_compare.specs.Seen.{HasPiece, HasSize, SeesOther, SeesPiece}
use Rattle.hg_compare.proofs.Counting.{pieces_none}
use Rattle.hg_compare.proofs.Spans.{Parts, bytes_first, bytes_second, first_of, held_first, held_second, nothing_second, other_second, parts_of, second_of, shown_first}
use Rattle.hg_entry.specs.Steps.{is_file}
use Rattle.hg_manifest.specs.declared.row.FileRow.{FileRow}
use Rattle.hg_ops.specs.Finding.{Finds, FindsBy, FindsByRow, FindsIn, FindsThere, MetBy}
use Rattle.hg_ops.specs.Look.{WasShown}
use Rattle.hg_ops.specs.Parent.{Span, upto}
use Rattle.hg_ops.specs.Parents.{row_at}
use Rattle.hg_ops.specs.Remove.{MetRemoving, NeedsRow, ReadsWord, WasGone, compared}
use Rattle.hg_ops.specs.declared.finding.Found.{Found}
use Rattle.hg_ops.specs.declared.finding.Found.TheVariants as a_find
use Rattle.hg_ops.specs.declared.refusal.OpFault.{OpFault}
use Rattle.hg_ops.specs.declared.refusal.OpFault.TheVariants as a_fault
use Rattle.hg_ops.proofs.Added.{shown_last}
use Rattle.hg_shelf.specs.History as shelves
use Rattle.hg_shelf.specs.Reads.{size_of}
use Rattle.hg_shelf.proofs.Histories as shelf
use Rattle.hg_tree.specs.History.{Asks, Extends, History, Passes, now}
use Rattle.hg_tree.specs.Moment.{Moment, bytes_at, bytes_of, stat_at, stat_of}
use Rattle.hg_tree.specs.declared.asked.Asked.TheVariants as an_ask
use Rattle.hg_tree.specs.declared.asked.Asked.{Asked}
use Rattle.hg_tree.specs.declared.thing.Placed.{Placed}
use Rattle.hg_tree.specs.declared.thing.Thing.{Thing}
use Rattle.hg_tree.specs.declared.thing.Thing.TheVariants as a_thing
use Rattle.hg_tree.proofs.Spans.{ours_first, ours_unstepped, passes_trans}

-- ---- a comparison with a row

pub size_first : (p : Parts) (size : ℕ) → HasSize (first_of p) size → HasSize p.whole size
size_first p size had = held_first p (λ file. size_of file ≡ Some size) had

size_second : (p : Parts) (size : ℕ) → HasSize (second_of p) size → HasSize p.whole size
size_second p size had = held_second p (λ file. size_of file ≡ Some size) had

piece_first : (p : Parts) (place width : ℕ) (mine theirs : List ℕ) → SeesPiece (first_of p) place width mine theirs → SeesPiece p.whole place width mine theirs
piece_first p place width mine theirs pieces = record {
  mine_was = shown_first p (λ moment. HasPiece place width mine (bytes_at moment p.whole.path)) pieces.mine_was;
  theirs_was = held_first p (HasPiece place width theirs) pieces.theirs_was;
}

other_first : (p : Parts) → SeesOther (first_of p) → SeesOther p.whole
other_first p other = record {
  place = other.place;
  width = other.width;
  mine = other.mine;
  theirs = other.theirs;
  pieces = piece_first p other.place other.width other.mine other.theirs other.pieces;
  differ = other.differ;
}

pub is_other_first : (p : Parts) (before : Stat) → IsOther (first_of p) before → IsOther p.whole before
is_other_first p before (inl size) = inl (record { number = size.number; had = size_first p size.number size.had; other = size.other })
is_other_first p before (inr bytes) = inr (other_first p bytes)

is_other_second : (p : Parts) (before : Stat) → IsOther (second_of p) before → IsOther p.whole before
is_other_second p before (inl size) = inl (record { number = size.number; had = size_second p size.number size.had; other = size.other })
is_other_second p before (inr bytes) = inr (other_second p bytes)

pub by_first : (p : Parts) (row : FileRow) (before : Stat) (found : Found) → FindsBy (first_of p) row before found → FindsBy p.whole row before found
by_first p row before a_find.StillThere is = is
by_first p row before a_find.Changed (inl unlike) = inl unlike
by_first p row before a_find.Changed (inr other) = inr (is_other_first p before other)
by_first p row before a_find.Unchanged is = (is.0, record { size = size_first p before.size is.1.size; bytes = bytes_first p before.size is.1.bytes })
by_first p row before a_find.Nothing is = (is.0, shown_first p (λ moment. bytes_at moment p.whole.path ≡ None) is.1)

by_second : (p : Parts) (row : FileRow) (before : Stat) (found : Found) → FindsBy (second_of p) row before found → FindsBy p.whole row before found
by_second p row before a_find.StillThere is = is
by_second p row before a_find.Changed (inl unlike) = inl unlike
by_second p row before a_find.Changed (inr other) = inr (is_other_second p before other)
by_second p row before a_find.Unchanged is = (is.0, record { size = size_second p before.size is.1.size; bytes = bytes_second p before.size is.1.bytes })
by_second p row before a_find.Nothing is = (is.0, nothing_second p is.1)

pub in_second : (path : List ℕ) (start old new : History) (files mid later : shelves.History) (before : Stat) (o : Option FileRow) (found : Found) → Passes start old → Passes old new → shelves.Passes files mid
    → shelves.Passes mid later → FindsIn path old new mid later before o found → FindsIn path start new files later before o found
in_second path start old new files mid later before None found first second third fourth is = is
in_second path start old new files mid later before (Some row) found first second third fourth is =
    by_second (parts_of path (compared path row start new files later).name start old new files mid later first second third fourth) row before found is

pub by_row_second : (path : List ℕ) (start old new : History) (s : Span) (before : Stat) (found : Found) → Passes start old → Passes old new → shelves.Passes s.old s.new → FindsByRow path old new s before found
    → FindsByRow path start new s before found
by_row_second path start old new s before found first second passes is = record {
  rows = is.rows;
  read = is.read;
  seen = in_second path start old new s.old s.old s.new before (row_at is.rows path) found first second (shelf.passes_same s.old) passes is.seen;
}

-- ---- behind a look

pub match_map : (b : Bool) (P Q R S : Type 0) → (P → R) → (Q → S) → MatchBool b P Q → MatchBool b R S
match_map true P Q R S p q is = p is
match_map false P Q R S p q is = q is

pub there_second : (after needs : Bool) (path : List ℕ) (start old new : History) (s : Span) (before : Stat) (found : Found) → Passes start old → Passes old new → shelves.Passes s.old s.new
    → FindsThere after needs path old new s before found → FindsThere after needs path start new s before found
there_second after needs path start old new s before found first second passes is =
    match_map (is_file before.kind) _ _ _ _
    (match_map after _ _ _ _ (λ still. still) (match_map needs _ _ _ _ (by_row_second path start old new s before found first second passes) (λ changed. changed)))
    (λ nothing. nothing) is

-- ---- that nothing is there

no_bytes : (thing : Thing) (mtime : Time) → is_file (stat_of thing mtime).kind ≡ false → bytes_of thing ≡ None
no_bytes (a_thing.File exec bytes) mtime is = absurd (cc is)
no_bytes (a_thing.Link target) mtime is = absurd (cc is)
no_bytes a_thing.Dir mtime is = refl
no_bytes a_thing.Other mtime is = refl

-- neither a file nor a link is shown
abbrev pub ShowsNoFile : Option Stat → Type 0
ShowsNoFile None = Unit {0}
ShowsNoFile (Some stat) = is_file stat.kind ≡ false

pub no_file : (moment : Moment) (path : List ℕ) (shown : Option Stat) → shown ≡ stat_at moment path → ShowsNoFile shown → bytes_at moment path ≡ None
no_file moment path shown is none = by (moment.things path) (subst ShowsNoFile is none)
  where
    by : (o : Option Placed) → ShowsNoFile (option_map (λ placed. stat_of placed.thing placed.mtime) o) → option_and_then (λ placed. bytes_of placed.thing) o ≡ None
    by None none = refl
    by (Some placed) none = no_bytes placed.thing placed.mtime none

pub gone_at : (old new : History) (path : List ℕ) (k : ℕ) → Passes old new → old.last ≤ k → k ≤ new.last → bytes_at (new.at k) path ≡ None → WasGone old new path
gone_at old new path k passes from to none = record {
  moment = k;
  later = from;
  upto = to;
  gone_then = none;
  gone_last = λ ours.
      let same : k ≡ new.last = let last = ours_unstepped old new passes ours in omega (arith, from, to, last) in
      subst (λ (n : ℕ). bytes_at (new.at n) path ≡ None) same none;
}

nothing_seen : (path : List ℕ) (old new : History) (files later : shelves.History) (before : Stat) (o : Option FileRow) → Passes old new → FindsIn path old new files later before o a_find.Nothing → IsTrue old.told
    → WasGone old new path
nothing_seen path old new files later before None passes is told = absurd (cc is)
nothing_seen path old new files later before (Some row) passes is told =
    gone_at old new path is.1.at passes (is.1.during told).from (is.1.during told).to (is.1.so told)

nothing_there : (file after needs : Bool) (path : List ℕ) (old new : History) (s : Span) (before : Stat) (found : Found) → found ≡ a_find.Nothing → Passes old new
    → (file ≡ false → IsTrue old.told → WasGone old new path)
    → MatchBool file (MatchBool after (found ≡ a_find.StillThere) (MatchBool needs (FindsByRow path old new s before found) (found ≡ a_find.Changed))) (found ≡ a_find.Nothing) → IsTrue old.told → WasGone old new path
nothing_there false after needs path old new s before found none passes look is told = look refl told
nothing_there true true needs path old new s before found none passes look is told = absurd (cc (none, is))
nothing_there true false true path old new s before found none passes look is told =
    nothing_seen path old new s.old s.new before (row_at is.rows path) passes (subst (FindsIn path old new s.old s.new before (row_at is.rows path)) none is.seen) told
nothing_there true false false path old new s before found none passes look is told = absurd (cc (none, is))

-- nothing was there where nothing was found behind a look at `mid`
pub nothing_found : (after needs : Bool) (path : List ℕ) (old mid new : History) (s : Span) (before : Stat) (found : Found) → Passes old mid → Passes mid new → (IsTrue mid.told → Some before ≡ stat_at (now mid) path)
    → FindsThere after needs path old new s before found → found ≡ a_find.Nothing → IsTrue old.told → WasGone old new path
nothing_found after needs path old mid new s before found first second shown is none told =
    nothing_there (is_file before.kind) after needs path old new s before found none (passes_trans old mid new first second)
    (λ never known.
    gone_at old new path mid.last (passes_trans old mid new first second) first.past.later second.past.later
    (ap (λ (m : Moment). bytes_at m path) (second.past.stay mid.last (omega arith)) ∙ no_file (now mid) path (Some before) (shown (first.past.told ∙ known)) never))
    is told

-- ---- that it was shown

pub shown_longer : (a b c : History) (path : List ℕ) (shown : Option Stat) → Extends b c → WasShown a b path shown → WasShown a c path shown
shown_longer a b c path shown second was = record {
  moment = was.moment;
  later = was.later;
  upto = omega (arith, was.upto, second.later);
  shown_then = was.shown_then ∙ ap (λ (m : Moment). stat_at m path) (sym (second.stay was.moment was.upto));
  shown_first = λ ours. was.shown_first (ours_first a b c second ours);
}

abbrev pub need_longer : (needs : Bool) (path : List ℕ) (a b c : History) → Extends b c → NeedsRow needs path a b → NeedsRow needs path a c
need_longer needs path a b c second need = record {
  decides = need.decides;
  stat = need.stat;
  file = need.file;
  was = λ told. shown_longer a b c path (Some need.stat) second (need.was told);
}

-- ---- what is asked

pub reads_none : (needs : Bool) (path : List ℕ) (old new : History) → (IsTrue old.told → new.asked ≡ old.asked) → ReadsWord needs path old new
reads_none needs path old new same = record {
  size = 0;
  asked = λ told. subst (λ (l : List Asked). Reads 0 path old (record new { asked = l })) (sym (same told)) (pieces_none (an_ask.Read path) old.asked);
  needed = inl refl;
}

pub reads_longer : (needs : Bool) (path : List ℕ) (a b c : History) → Extends a b → Extends b c → (IsTrue b.told → c.asked ≡ b.asked) → ReadsWord needs path a b → ReadsWord needs path a c
reads_longer needs path a b c first second same reads = record {
  size = reads.size;
  asked = λ told. let r = reads.asked told in record { pieces = r.pieces; few = r.few; asked = same (first.told ∙ told) ∙ r.asked };
  needed = needed reads.needed;
}
  where
    needed : (reads.size ≡ 0) ⊎ ((need : NeedsRow needs path a b) × (reads.size ≡ need.stat.size)) → (reads.size ≡ 0) ⊎ ((need : NeedsRow needs path a c) × (reads.size ≡ need.stat.size))
    needed (inl none) = inl none
    needed (inr (need, is)) = inr (need_longer needs path a b c second need, is)

-- ---- faults

pub met_longer : (needs : Bool) (path : List ℕ) (a b c : History) (s : Span) (fault : OpFault) → Extends b c → MetRemoving needs path a b s fault → MetRemoving needs path a c s fault
met_longer needs path a b c s a_fault.OutOfMemory second met = met
met_longer needs path a b c s a_fault.TreeFailed second met = met
met_longer needs path a b c s a_fault.ShelfFailed second met = need_longer needs path a b c second met
met_longer needs path a b c s (a_fault.NoManifest lost) second met = (need_longer needs path a b c second met.0, met.1)
met_longer needs path a b c s (a_fault.ManifestTooLarge size) second met = (need_longer needs path a b c second met.0, met.1)
met_longer needs path a b c s (a_fault.ManifestLine line) second met = (need_longer needs path a b c second met.0, met.1)
met_longer needs path a b c s (a_fault.ManifestOrder line) second met = (need_longer needs path a b c second met.0, met.1)
met_longer needs path a b c s (a_fault.NoContents lost) second met = record {
  need = need_longer needs path a b c second met.need;
  rows = met.rows;
  read = met.read;
  row = met.row;
  has = met.has;
  names = met.names;
  alike = met.alike;
  absent = met.absent;
}

-- a comparison met it behind a look
pub met_behind : (needs : Bool) (path : List ℕ) (old new : History) (s : Span) (before : Stat) (fault : OpFault) → needs ≡ true → is_file before.kind ≡ true → (IsTrue old.told → WasShown old new path (Some before))
    → MetBy s path before fault → MetRemoving needs path old new s fault
met_behind needs path old new s before a_fault.OutOfMemory decides file was met = tt
met_behind needs path old new s before a_fault.TreeFailed decides file was met = tt
met_behind needs path old new s before a_fault.ShelfFailed decides file was met = record { decides = decides; stat = before; file = file; was = was }
met_behind needs path old new s before (a_fault.NoManifest lost) decides file was met = (record { decides = decides; stat = before; file = file; was = was }, met)
met_behind needs path old new s before (a_fault.ManifestTooLarge size) decides file was met = (record { decides = decides; stat = before; file = file; was = was }, met)
met_behind needs path old new s before (a_fault.ManifestLine line) decides file was met = (record { decides = decides; stat = before; file = file; was = was }, met)
met_behind needs path old new s before (a_fault.ManifestOrder line) decides file was met = (record { decides = decides; stat = before; file = file; was = was }, met)
met_behind needs path old new s before (a_fault.NoContents lost) decides file was met = record {
  need = record { decides = decides; stat = before; file = file; was = was };
  rows = met.rows;
  read = met.read;
  row = met.row;
  has = met.has;
  names = met.file.names;
  alike = met.file.alike;
  absent = met.file.absent;
}

-- ---- behind a look

pub asked_nothing : (answered : Bool) (old new : History) → Asks answered [] old new → new.asked ≡ old.asked
asked_nothing answered old new (inl is) = is ∙ append-nil old.asked
asked_nothing answered old new (inr both) = both.1

module _ (after needs : Bool) (path : List ℕ) (old mid new : History) (later : shelves.History) (before : Stat) (P : Span → Type 0) (first : Passes old mid) (second : Passes mid new)
    (shown : IsTrue old.told → Some before ≡ stat_at (now mid) path) where
  was : IsTrue old.told → WasShown old new path (Some before)
  was told = shown_longer old mid new path (Some before) second.past (shown_last old mid path (Some before) first (shown told))

  pub find_found : (result : Result Found OpFault) → ((s : Span) → P s → shelves.Passes s.old later) → IfOk result (λ found. (s : Span) → P s → FindsThere after needs path mid new (upto s later) before found)
      → IfOk result (λ found. (s : Span) → P s → Finds after needs path old new (upto s later) found)
  find_found (Err fault) reads there = tt
  find_found (Ok found) reads there = λ s keeps.
      let seen = there_second after needs path old mid new (upto s later) before found first second (reads s keeps) (there s keeps) in
      record {
        shown = Some before;
        was_shown = was;
        seen = seen;
        gone = λ none told. nothing_found after needs path old mid new (upto s later) before found first second (λ known. shown (sym first.past.told ∙ known)) seen none told;
      }

  pub find_met : (result : Result Found OpFault) → IfErr result (λ fault. (s : Span) → P s → MetBy (upto s later) path before fault) → OnErr result ((needs ≡ true) × (is_file before.kind ≡ true))
      → IfErr result (λ fault. (s : Span) → P s → MetRemoving needs path old new (upto s later) fault)
  find_met (Ok found) met compared = tt
  find_met (Err fault) met compared = λ s keeps. met_behind needs path old new (upto s later) before fault compared.0 compared.1 was (met s keeps)

  pub find_need : needs ≡ true → is_file before.kind ≡ true → NeedsRow needs path old new
  find_need decides file = record { decides = decides; stat = before; file = file; was = was }

  pub find_reads : needs ≡ true → is_file before.kind ≡ true → (IsTrue old.told → mid.asked ≡ old.asked) → (IsTrue mid.told → Reads before.size path mid new) → ReadsWord needs path old new
  find_reads decides file same reads = record {
    size = before.size;
    asked = λ told. let r = reads (first.past.told ∙ told) in record { pieces = r.pieces; few = r.few; asked = subst (λ (l : List Asked). new.asked ≡ l ++ replicate r.pieces (an_ask.Read path)) (same told) r.asked };
    needed = inr (record { decides = decides; stat = before; file = file; was = was }, refl);
  }

-- a look that showed nothing
pub find_nothing : (after needs : Bool) (path : List ℕ) (old new : History) (s : Span) → Passes old new → (IsTrue old.told → None ≡ stat_at (now new) path) → Finds after needs path old new s a_find.Nothing
find_nothing after needs path old new s passes shown = record {
  shown = None;
  was_shown = λ told. shown_last old new path None passes (shown told);
  seen = refl;
  gone = λ none told. gone_at old new path new.last passes passes.past.later (omega arith) (no_file (now new) path None (shown told) tt);
}
