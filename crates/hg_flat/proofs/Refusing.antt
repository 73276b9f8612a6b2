-- What was read of the ignore patterns in a status, and what they were refused for.
use Rattle.std.proofs.Common.{ℕ, ◌≡◌, ◌≤◌, ◌<◌, Bool, true, false, cond, List, [], length, Option, Some, None, IsTrue, is_some, option_map, refl, sym, ap, ◌∙◌, subst, inl, inr, arith}
use Rattle.std.specs.Prelude.{IsSomeAnd, MatchBool}
use Rattle.hg_base.specs.declared.stat.Kind.{Kind}
use Rattle.hg_base.specs.declared.stat.Kind.TheVariants as a_kind
use Rattle.hg_ignore.specs.Patterns.{HasBytes, HasFile, IsGiven, IsOver, KeepsPatterns, ReadSo, Saw, WereRead, most_text, warnings_in}
use Rattle.hg_ignore.specs.Source.{FileDuring, HasTextCause, ReadDuring, has_file, text_at}
use Rattle.hg_ignore.specs.State.{Ignore, Piece, ignore_file, state_of}
use Rattle.hg_ignore.specs.declared.fault.IgnoreFault.{IgnoreFault}
use Rattle.hg_ignore.specs.declared.fault.IgnoreFault.TheVariants as an_ignore_fault
use Rattle.hg_tree.specs.History.{Extends, History, IsOurs, Passes, now}
use Rattle.hg_tree.specs.Honest.{face}
use Rattle.hg_tree.specs.Moment.{Moment, is_file, kind_of}
use Rattle.hg_tree.specs.declared.thing.Placed.{Placed}
use Rattle.hg_tree.specs.declared.thing.Thing.{Thing}
use Rattle.hg_tree.specs.declared.thing.Thing.TheVariants as a_thing
use Rattle.hg_tree.proofs.Stillness.{same_kind}
use Rattle.hg_listing.specs.Cause.{of_ignore}
use Rattle.hg_flat.specs.Course.{IsKeptState, IsState, LacksPatterns, pieces_of, warned_of}
use Rattle.hg_flat.specs.Patterns.{HadPatterns, Warns, needs_patterns}
use Rattle.hg_listing.specs.declared.row.Wanted.{Wanted}
use Rattle.hg_flat.proofs.Faces.{bytes_seen}

-- ---- the state is that of the file's face

file_by : Option Kind → Bool
file_by None = false
file_by (Some a_kind.File) = true
file_by (Some a_kind.Link) = false
file_by (Some a_kind.Dir) = false
file_by (Some a_kind.Other) = false

file_placed : (placed : Placed) (thing : Thing) → file_by (Some (kind_of thing)) ≡ is_file (Some (record placed { thing = thing }))
unfolding file_by
file_placed placed (a_thing.File exec bytes) = refl
file_placed placed (a_thing.Link target) = refl
file_placed placed a_thing.Dir = refl
file_placed placed a_thing.Other = refl

file_is : (o : Option Placed) → file_by (option_map (λ placed. kind_of placed.thing) o) ≡ is_file o
unfolding file_by
file_is None = refl
file_is (Some placed) = file_placed placed placed.thing

file_seen : (m n : Moment) (path : List ℕ) → face m path ≡ face n path → is_file (m.things path) ≡ is_file (n.things path)
file_seen m n path seen = sym (file_is (m.things path)) ∙ ap file_by (same_kind m n path seen) ∙ file_is (n.things path)

ignore_seen : (m n : Moment) → face m ignore_file ≡ face n ignore_file → Ignore m ≡ Ignore n
ignore_seen m n seen = λ i. cond (file_seen m n ignore_file seen i) (state_of (bytes_seen m n ignore_file seen i)) []

ignore_has : (m : Moment) → has_file m ≡ true → Ignore m ≡ state_of (text_at m)
ignore_has m has = ap (λ (b : Bool). cond b (state_of (text_at m)) []) has

-- ---- a state that was read is that of the start, where nobody touches the file

module _ (old mid new : History) (first : Passes old mid) (second : Extends mid new) where
  same_then : KeepsPatterns new old.last → (k : ℕ) → old.last ≤ k → k ≤ mid.last → face (mid.at k) ignore_file ≡ face (now old) ignore_file
  same_then keeps k from to =
      ap (λ (m : Moment). face m ignore_file) (sym (second.stay k to)) ∙ keeps.file.seen k from (omega (arith, to, second.later))
      ∙ ap (λ (m : Moment). face m ignore_file) (second.stay old.last first.past.later ∙ first.past.stay old.last (omega arith))

  same_last : KeepsPatterns new old.last → face (now mid) ignore_file ≡ face (now old) ignore_file
  same_last keeps = same_then keeps mid.last first.past.later (omega arith)

  kept_by : (state : List Piece) → KeepsPatterns new old.last → ReadDuring old mid state → state ≡ Ignore (now old)
  kept_by state keeps (inl is) = is ∙ ignore_seen (now mid) (now old) (same_last keeps)
  kept_by state keeps (inr ((k, from, to, has), is)) =
      let there : has_file (now mid) ≡ true =
      file_seen (now mid) (mid.at k) ignore_file (same_last keeps ∙ sym (same_then keeps k from to)) ∙ has in
      is ∙ sym (ignore_has (now mid) there) ∙ ignore_seen (now mid) (now old) (same_last keeps)

  told_then : KeepsPatterns new old.last → IsTrue old.told
  told_then keeps = sym (second.told ∙ first.past.told) ∙ keeps.told

  pub state_kept : (wanted : Wanted) (ignore : Option (List Piece)) → IsKeptState wanted old mid ignore → needs_patterns wanted ≡ true → KeepsPatterns new old.last → pieces_of ignore ≡ Ignore (now old)
  state_kept wanted None none needed keeps = absurd (cc (none, needed))
  state_kept wanted (Some state) is needed keeps = kept_by state keeps (is.1.given (told_then keeps))

  during_whole : FileDuring old mid → FileDuring old new
  during_whole (k, from, to, has) = (k, from, omega (arith, to, second.later), ap has_file (second.stay k to) ∙ has)

  last_is : new.at mid.last ≡ now mid
  last_is = second.stay mid.last (omega arith)

  given_whole : (state : List Piece) → ReadDuring old mid state → IsGiven old new state
  given_whole state (inl is) =
      record { at = mid.last; from = first.past.later; to = second.later; is = inl (is ∙ ap Ignore (sym last_is)) }
  given_whole state (inr (during, is)) = record {
    at = mid.last;
    from = first.past.later;
    to = second.later;
    is = inr (during_whole during, is ∙ ap (λ (m : Moment). state_of (text_at m)) (sym last_is));
  }

  -- a state that was read so was read in the whole call
  pub state_given : (wanted : Wanted) (ignore : Option (List Piece)) → IsKeptState wanted old mid ignore → needs_patterns wanted ≡ true → IsTrue old.told → IsGiven old new (pieces_of ignore)
  state_given wanted None none needed told = absurd (cc (none, needed))
  state_given wanted (Some state) is needed told = given_whole state (is.1.given told)

  were_read : (state : List Piece) → IsState old mid state → WereRead old new (warnings_in state)
  were_read state is = record {
    state = state;
    given = λ told. given_whole state (is.given told);
    kept = λ keeps. kept_by state keeps (is.given (told_then keeps));
    fine = is.fine;
    warned = refl;
  }

  pub warns : (wanted : Wanted) (ignore : Option (List Piece)) → IsKeptState wanted old mid ignore → Warns wanted old new (warned_of ignore)
  warns wanted None none = subst (λ (b : Bool). MatchBool b (WereRead old new (warned_of None)) (warned_of None ≡ [])) (sym none) refl
  warns wanted (Some state) is =
      subst (λ (b : Bool). MatchBool b (WereRead old new (warnings_in state)) (warnings_in state ≡ [])) (sym is.0) (were_read state is.1)

  pub had : (wanted : Wanted) (ignore : Option (List Piece)) → IsKeptState wanted old mid ignore → HadPatterns wanted old new
  had wanted None none needed = absurd (cc (none, needed))
  had wanted (Some state) is needed = (warnings_in state, were_read state is.1)

pub state_still : (wanted : Wanted) (old mid : History) (ignore : Option (List Piece)) → IsKeptState wanted old mid ignore → IsOurs old mid → needs_patterns wanted ≡ true → pieces_of ignore ≡ Ignore (now old)
state_still wanted old mid None none ours needed = absurd (cc (none, needed))
state_still wanted old mid (Some state) is ours needed = is.1.still ours

-- patterns were read exactly where they are needed
pub is_kept : (wanted : Wanted) (old mid : History) (ignore : Option (List Piece)) → IsKeptState wanted old mid ignore → is_some ignore ≡ needs_patterns wanted
is_kept wanted old mid None none = sym none
is_kept wanted old mid (Some state) is = sym is.0

-- ---- why they were refused

module _ (old new : History) (later : old.last ≤ new.last) where
  -- of a tree that tells nothing nothing is said
  unseen : (P : Moment → Type 0) → old.told ≡ false → Saw old new P
  unseen P none = record { at = 0; from = λ told. absurd (cc (told, none)); to = λ told. absurd (cc (told, none)); so = λ told. absurd (cc (told, none)) }

  abbrev seen_at : (P : Moment → Type 0) (k : ℕ) → old.last ≤ k → k ≤ new.last → P (new.at k) → Saw old new P
  seen_at P k from to so = record { at = k; from = λ told. from; to = λ told. to; so = λ told. so }

  read_by : (Seen : Moment → Type 0) (P : List ℕ → Type 0) (k : ℕ) → old.last ≤ k → k ≤ new.last → Seen (new.at k) → IsSomeAnd (text_at (now new)) P → ReadSo old new Seen P
  read_by Seen P k from to so read = record {
    seen = seen_at Seen k from to so;
    read = seen_at (λ moment. IsSomeAnd (text_at moment) P) new.last later (omega arith) read;
    order = λ told. to;
  }

  untold_read : (Seen : Moment → Type 0) (P : List ℕ → Type 0) → old.told ≡ false → ReadSo old new Seen P
  untold_read Seen P none = record { seen = unseen Seen none; read = unseen (λ moment. IsSomeAnd (text_at moment) P) none; order = λ told. absurd (cc (told, none)) }

  read_so : (P : List ℕ → Type 0) (b : Bool) → old.told ≡ b → (IsTrue old.told → FileDuring old new × IsSomeAnd (text_at (now new)) P) → ReadSo old new HasFile P
  read_so P false none cause = untold_read HasFile P none
  read_so P true told cause =
      let both = cause told in
      let during = both.0 in read_by HasFile P during.0 during.1 during.2 during.3 both.1

  over_by : (size : ℕ) (b : Bool) → old.told ≡ b → most_text < size → (IsTrue old.told → HasTextCause most_text old new (an_ignore_fault.IgnoreTooLarge size)) → IsOver old new size
  over_by size false none large cause = (large, inl (unseen (HasBytes (λ text. size ≡ length text)) none))
  over_by size true told large cause = (
    large,
    elim (cause told).1 [
      | inl (k, from, to, has, some) ↦ inl (seen_at (HasBytes (λ text. size ≡ length text)) k from to (has, some))
      | inr ((k, from, to, has, few), is, more) ↦
          inr (is, read_by (HasBytes (λ text. length text ≤ most_text)) (λ text. most_text < length text) k from to (has, few) more)
    ],
  )

  pub lacks : (fault : IgnoreFault) → (IsTrue old.told → HasTextCause most_text old new fault) → ((size : ℕ) → fault ≡ an_ignore_fault.IgnoreTooLarge size → most_text < size) → LacksPatterns old new (of_ignore fault)
  lacks an_ignore_fault.OutOfMemory cause over = tt
  lacks an_ignore_fault.Failed cause over = tt
  lacks (an_ignore_fault.IgnoreTooLarge size) cause over = over_by size old.told refl (over size refl) cause
  lacks (an_ignore_fault.IgnoreText at) cause over = read_so _ old.told refl cause
  lacks (an_ignore_fault.BadGlob line) cause over = read_so _ old.told refl cause
  lacks (an_ignore_fault.BadRegexp line) cause over = read_so _ old.told refl cause
  lacks (an_ignore_fault.RegexpTooBig line) cause over = read_so _ old.told refl cause
  lacks (an_ignore_fault.BadInclude line) cause over = read_so _ old.told refl cause
