-- What is read of the file of ignore patterns.
use Rattle.std.proofs.Common.{◌≡◌, ◌⊎◌, ℕ, ◌<◌, ◌≤◌, Bool, true, false, cond, IsTrue, inl, inr, List, [], ◌∷◌, ◌++◌, length, map, Option, Some, None, option_map, Result, Ok, Err, IfOk, IfErr, OnOk, refl, sym, subst, ap, ◌∙◌, arith, append-nil, IsUtf8}
use Rattle.std.specs.Option.{IsSomeAnd, option_and_then}
use Rattle.std.specs.Str.{IsValidUpTo}
use Rattle.hg_tree.specs.Moment.{Moment, stat_of, stat_at, bytes_of, is_file}
use Rattle.hg_tree.specs.History.{History, Passes, IsOurs, Asks, now}
use Rattle.hg_tree.specs.declared.thing.Placed.{Placed}
use Rattle.hg_tree.specs.declared.thing.Thing.{Thing}
use Rattle.hg_tree.specs.declared.thing.Thing.TheVariants as a_thing
use Rattle.hg_tree.specs.declared.asked.Asked.TheVariants as an_ask
use Rattle.hg_tree.proofs.Spans.{ours_unstepped, now_same}
use Rattle.hg_base.specs.declared.stat.Stat.{Stat}
use Rattle.hg_ignore.specs.Line.{lines_of}
use Rattle.hg_ignore.specs.State.{Piece, Ignore, ignore_file, items_of, state_of, Texts}
use Rattle.hg_ignore.specs.Taking.{Counted, HasLineCause, first_fault}
use Rattle.hg_ignore.specs.Source.{AreTexts, file_size, has_file, text_at, FileDuring, ReadDuring, the_read, AsksOnce, AsksRight, MayAsk, reads_of, IsTooLarge, SmallDuring, HasReadCause, HasSizeCause, HasBytesCause, HasTextCause, BytesDuring, IsOfReading}
use Rattle.hg_ignore.specs.declared.fault.IgnoreFault.{IgnoreFault}
use Rattle.hg_ignore.specs.declared.fault.IgnoreFault.TheVariants as a_fault

-- one call that asks a read
pub asks_may : (answered : Bool) (old new : History) → Asks answered the_read old new → MayAsk old new
asks_may answered old new (inl e) = inr e
asks_may answered old new (inr p) = inl p.1

pub asks_sure : (old new : History) → Asks true the_read old new → new.asked ≡ old.asked ++ the_read
asks_sure old new (inl e) = e
asks_sure old new (inr p) = absurd (cc p.0)

-- a count that stood, whatever is answered
pub stood : {A E : Type 0} (IsFailed : E → Type 0) (before now : ℕ) (r : Result A E) → now ≡ before → IfErr r (λ e. IsFailed e ⊎ (now ≡ before))
stood IsFailed before now (Ok x) same = tt
stood IsFailed before now (Err e) same = inr same

-- and one that stood before a call
pub stayed_behind : {A E : Type 0} (IsFailed : E → Type 0) (before mid now : ℕ) (r : Result A E) → mid ≡ before → IfErr r (λ e. IsFailed e ⊎ (now ≡ mid)) → IfErr r (λ e. IsFailed e ⊎ (now ≡ before))
stayed_behind IsFailed before mid now (Ok x) same stayed = tt
stayed_behind IsFailed before mid now (Err e) same (inl failed) = inl failed
stayed_behind IsFailed before mid now (Err e) same (inr stood) = inr (stood ∙ same)

-- a stat that shows a size shows a file of that size
sized : (o : Option Placed) (size : ℕ) → Some size ≡ file_size (option_map (λ placed. stat_of placed.thing placed.mtime) o) → (is_file o ≡ true) × IsSomeAnd (option_and_then (λ placed. bytes_of placed.thing) o) (λ text. size ≡ length text)
sized None size e = absurd (cc e)
sized (Some placed) size e = thing_sized placed.thing placed size refl e
  where
    thing_sized : (thing : Thing) (placed : Placed) (size : ℕ) → placed.thing ≡ thing → Some size ≡ file_size (Some (stat_of placed.thing placed.mtime)) → (is_file (Some placed) ≡ true) × IsSomeAnd (bytes_of placed.thing) (λ text. size ≡ length text)
    thing_sized (a_thing.File exec bytes) placed size same e = rw (same) (refl, cc (rw same at e))
    thing_sized (a_thing.Link target) placed size same e = absurd (cc (rw same at e))
    thing_sized a_thing.Dir placed size same e = absurd (cc (rw same at e))
    thing_sized a_thing.Other placed size same e = absurd (cc (rw same at e))

pub stat_sized : (moment : Moment) (found : Option Stat) (size : ℕ) → found ≡ stat_at moment ignore_file → Some size ≡ file_size found → (has_file moment ≡ true) × IsSomeAnd (text_at moment) (λ text. size ≡ length text)
stat_sized moment found size shown e = sized (moment.things ignore_file) size (e ∙ ap file_size shown)

-- a file that was seen in the middle of a call
pub seen_during : (old mid new : History) → Passes old mid → Passes mid new → has_file (now mid) ≡ true → FileDuring old new
seen_during old mid new first second there = (mid.last, first.past.later, second.past.later, ap has_file (second.past.stay mid.last (omega arith)) ∙ there)

-- and one that was seen with so few bytes
pub small_during : (most size : ℕ) (old mid new : History) → Passes old mid → Passes mid new → size ≤ most → (has_file (now mid) ≡ true) × IsSomeAnd (text_at (now mid)) (λ text. size ≡ length text) → SmallDuring most old new
small_during most size old mid new first second small shown =
    let Shows : Moment → Type 0 = λ m. (has_file m ≡ true) × IsSomeAnd (text_at m) (λ text. size ≡ length text) in
    let then = subst Shows (sym (second.past.stay mid.last (omega arith))) shown in
    (mid.last, first.past.later, second.past.later, then.0, fewer (text_at (new.at mid.last)) then.1)
  where
    fewer : (text : Option (List ℕ)) → IsSomeAnd text (λ text. size ≡ length text) → IsSomeAnd text (λ text. length text ≤ most)
    fewer None shown = absurd shown
    fewer (Some text) shown = omega (arith, small, shown)

pub large_stated : (most size : ℕ) (old new : History) → Passes old new → most < size → (has_file (now new) ≡ true) × IsSomeAnd (text_at (now new)) (λ text. size ≡ length text) → (most < size) × IsTooLarge most size old new
large_stated most size old new passes over shown = (over, inl (new.last, passes.past.later, (omega arith), shown.0, shown.1))

-- a read behind a stat that showed a file
pub asks_behind : (old mid new : History) → Asks true [] old mid → FileDuring old new → MayAsk mid new → AsksOnce old new
asks_behind old mid new (inl quiet) during (inl e) = inl (e ∙ quiet ∙ append-nil old.asked)
asks_behind old mid new (inl quiet) during (inr e) = inr (during, e ∙ ap (λ v. v ++ the_read) (quiet ∙ append-nil old.asked))
asks_behind old mid new (inr p) during may = absurd (cc p.0)

pub asks_right : (old mid new : History) → Asks true [] old mid → FileDuring old new → new.asked ≡ mid.asked ++ the_read → AsksRight old new
asks_right old mid new (inl quiet) during e = inr (during, e ∙ ap (λ v. v ++ the_read) (quiet ∙ append-nil old.asked))
asks_right old mid new (inr p) during e = absurd (cc p.0)

pub size_behind : (most : ℕ) (old new : History) (f : IgnoreFault) → SmallDuring most old new → HasReadCause most new f → HasSizeCause most old new f
size_behind most old new a_fault.OutOfMemory during cause = tt
size_behind most old new a_fault.Failed during cause = tt
size_behind most old new (a_fault.IgnoreTooLarge size) during cause = (cause.0, inr (during, cause.1, cause.2))
size_behind most old new (a_fault.IgnoreText at) during cause = cause
size_behind most old new (a_fault.BadGlob line) during cause = cause
size_behind most old new (a_fault.BadRegexp line) during cause = cause
size_behind most old new (a_fault.RegexpTooBig line) during cause = cause
size_behind most old new (a_fault.BadInclude line) during cause = cause

pub bytes_behind : {A : Type 0} (items : A → List ℕ) (old new : History) (r : Result (Option A) IgnoreFault) → FileDuring old new → IfOk r (λ bytes. option_map items bytes ≡ text_at (now new)) → IfOk r (λ bytes. BytesDuring old new (option_map items bytes))
bytes_behind items old new (Ok bytes) during e = inr (during, e)
bytes_behind items old new (Err f) during e = tt

pub sizes_behind : {A : Type 0} (most : ℕ) (old new : History) (r : Result A IgnoreFault) → SmallDuring most old new → IfErr r (HasReadCause most new) → IfErr r (HasSizeCause most old new)
sizes_behind most old new (Ok bytes) during cause = tt
sizes_behind most old new (Err f) during cause = size_behind most old new f during cause

-- why bytes aren't given, among the causes of the whole call
pub cause_of_size : (most : ℕ) (old new : History) (f : IgnoreFault) → HasSizeCause most old new f → HasTextCause most old new f
cause_of_size most old new a_fault.OutOfMemory cause = tt
cause_of_size most old new a_fault.Failed cause = tt
cause_of_size most old new (a_fault.IgnoreTooLarge size) cause = cause
cause_of_size most old new (a_fault.IgnoreText at) cause = absurd cause
cause_of_size most old new (a_fault.BadGlob line) cause = absurd cause
cause_of_size most old new (a_fault.BadRegexp line) cause = absurd cause
cause_of_size most old new (a_fault.RegexpTooBig line) cause = absurd cause
cause_of_size most old new (a_fault.BadInclude line) cause = absurd cause

text_there : (P : List ℕ → Type 0) (bytes : List ℕ) (text : Option (List ℕ)) → Some bytes ≡ text → P bytes → IsSomeAnd text P
text_there P bytes text e p = let Q : Option (List ℕ) → Type 0 = λ o. IsSomeAnd o P in subst Q e p

-- and why what was read isn't taken
cause_at : (most : ℕ) (old new : History) (bytes : List ℕ) (f : IgnoreFault) → FileDuring old new → Some bytes ≡ text_at (now new) → length bytes ≤ most → HasBytesCause bytes f → HasTextCause most old new f
cause_at most old new bytes a_fault.OutOfMemory during e small cause = tt
cause_at most old new bytes a_fault.Failed during e small cause = absurd cause
cause_at most old new bytes (a_fault.IgnoreTooLarge size) during e small cause = absurd cause
cause_at most old new bytes (a_fault.IgnoreText at) during e small cause = (during, text_there (λ text. (length text ≤ most) × IsValidUpTo text at) bytes (text_at (now new)) e (small, cause))
cause_at most old new bytes (a_fault.BadGlob line) during e small cause =
    (during, text_there (λ text. (length text ≤ most) × IsUtf8 text × HasLineCause (lines_of text) (a_fault.BadGlob line)) bytes (text_at (now new)) e (small, cause.0, cause.1))
cause_at most old new bytes (a_fault.BadRegexp line) during e small cause =
    (during, text_there (λ text. (length text ≤ most) × IsUtf8 text × HasLineCause (lines_of text) (a_fault.BadRegexp line)) bytes (text_at (now new)) e (small, cause.0, cause.1))
cause_at most old new bytes (a_fault.RegexpTooBig line) during e small cause =
    (during, text_there (λ text. (length text ≤ most) × IsUtf8 text × HasLineCause (lines_of text) (a_fault.RegexpTooBig line)) bytes (text_at (now new)) e (small, cause.0, cause.1))
cause_at most old new bytes (a_fault.BadInclude line) during e small cause =
    (during, text_there (λ text. (length text ≤ most) × IsUtf8 text × HasLineCause (lines_of text) (a_fault.BadInclude line)) bytes (text_at (now new)) e (small, cause.0, cause.1))

shown_text : (old new : History) (bytes : List ℕ) → BytesDuring old new (Some bytes) → FileDuring old new × (Some bytes ≡ text_at (now new))
shown_text old new bytes (inl p) = absurd (cc p.0)
shown_text old new bytes (inr p) = p

pub causes_of_bytes : {A : Type 0} (most : ℕ) (old new : History) (bytes : List ℕ) (r : Result A IgnoreFault) → BytesDuring old new (Some bytes) → length bytes ≤ most → IfErr r (HasBytesCause bytes) → IfErr r (HasTextCause most old new)
causes_of_bytes most old new bytes (Ok i) during small cause = tt
causes_of_bytes most old new bytes (Err f) during small cause = let there = shown_text old new bytes during in cause_at most old new bytes f there.0 there.1 small cause

-- the state of what was read
pub state_during : (old new : History) (bytes : List ℕ) (state : List Piece) → BytesDuring old new (Some bytes) → state ≡ state_of (Some bytes) → ReadDuring old new state
state_during old new bytes state during e = let (seen, there) = shown_text old new bytes during in inr (seen, e ∙ ap state_of there)

pub states_during : {A : Type 0} (view : A → List Piece) (old new : History) (bytes : List ℕ) (r : Result A IgnoreFault) → BytesDuring old new (Some bytes) → IfOk r (λ i. view i ≡ state_of (Some bytes)) → IfOk r (λ i. ReadDuring old new (view i))
states_during view old new bytes (Ok i) during e = state_during old new bytes (view i) during e
states_during view old new bytes (Err f) during e = tt

pub absent_during : (old new : History) (state : List Piece) → BytesDuring old new None → state ≡ [] → ReadDuring old new state
absent_during old new state (inl p) e = inl (e ∙ sym (ap (λ t. cond t (state_of (text_at (now new))) []) p.1))
absent_during old new state (inr p) e = inr (p.0, e ∙ ap state_of p.1)

-- where nobody else steps, the state is that of the moment
file_still : (old new : History) → Passes old new → IsOurs old new → FileDuring old new → has_file (now new) ≡ true
file_still old new passes ours (k, from, upto, there) =
    let last : new.last ≡ k = omega (arith, from, upto, ours_unstepped old new passes ours) in
    ap (λ k. has_file (new.at k)) last ∙ there

pub state_still : (old new : History) (state : List Piece) → Passes old new → IsOurs old new → ReadDuring old new state → state ≡ Ignore (now old)
state_still old new state passes ours (inl e) = e ∙ ap Ignore (now_same old new passes ours)
state_still old new state passes ours (inr (during, e)) =
    e ∙ sym (ap (λ t. cond t (state_of (text_at (now new))) []) (file_still old new passes ours during)) ∙ ap Ignore (now_same old new passes ours)

pub states_still : {A : Type 0} (view : A → List Piece) (old new : History) (r : Result A IgnoreFault) → Passes old new → (IsTrue old.told → IfOk r (λ i. ReadDuring old new (view i))) → IsOurs old new → IfOk r (λ i. view i ≡ Ignore (now old))
states_still view old new (Ok i) passes state ours = state_still old new (view i) passes ours (state ours.told)
states_still view old new (Err f) passes state ours = tt

-- and what is asked is the read of its files
pub asks_still : (old new : History) → Passes old new → IsOurs old new → AsksRight old new → new.asked ≡ old.asked ++ reads_of (now old)
asks_still old new passes ours (inl (quiet, none)) =
    quiet ∙ sym (append-nil old.asked) ∙ ap (λ t. old.asked ++ map an_ask.Read (cond t (ignore_file ∷ []) [])) (sym none) ∙ ap (λ m. old.asked ++ reads_of m) (now_same old new passes ours)
asks_still old new passes ours (inr (during, e)) =
    e ∙ ap (λ t. old.asked ++ map an_ask.Read (cond t (ignore_file ∷ []) [])) (sym (file_still old new passes ours during)) ∙ ap (λ m. old.asked ++ reads_of m) (now_same old new passes ours)

-- what was read is a state that the history can give
pub state_among : (old new : History) (state : List Piece) → ReadDuring old new state → Texts new state
state_among old new state (inl e) = by_file (has_file (now new)) refl
  where
    by_file : (t : Bool) → has_file (now new) ≡ t → Texts new state
    by_file true there = inr (new.last, (omega arith), e ∙ ap (λ t. cond t (state_of (text_at (now new))) []) there)
    by_file false none = inl (e ∙ ap (λ t. cond t (state_of (text_at (now new))) []) none)
state_among old new state (inr (during, e)) = inr (new.last, (omega arith), e)

pub states_among : {A : Type 0} (view : A → List Piece) (old new : History) (r : Result A IgnoreFault) → IfOk r (λ i. ReadDuring old new (view i)) → IfOk r (λ i. Texts new (view i))
states_among view old new (Ok i) h = state_among old new (view i) h
states_among view old new (Err f) h = tt

pub asked_behind : {A : Type 0} (old mid new : History) (r : Result A IgnoreFault) → Asks true [] old mid → FileDuring old new → OnOk r (new.asked ≡ mid.asked ++ the_read) → OnOk r (AsksRight old new)
asked_behind old mid new (Ok x) quiet during e = asks_right old mid new quiet during e
asked_behind old mid new (Err f) quiet during e = tt

pub asked_still : {A : Type 0} (old new : History) (r : Result A IgnoreFault) → Passes old new → (IsTrue old.told → OnOk r (AsksRight old new)) → IsOurs old new → OnOk r (new.asked ≡ old.asked ++ reads_of (now old))
asked_still old new (Ok x) passes asks ours = asks_still old new passes ours (asks ours.told)
asked_still old new (Err f) passes asks ours = tt

-- the state that was read has no line with a fault
pub faultless_of : (state : List Piece) (bytes : List ℕ) → state ≡ state_of (Some bytes) → first_fault (lines_of bytes) ≡ None → first_fault (items_of state) ≡ None
faultless_of state bytes e none = ap (λ s. first_fault (items_of s)) e ∙ ap first_fault (append-nil (lines_of bytes)) ∙ none

pub faultless_all : {A : Type 0} (view : A → List Piece) (bytes : List ℕ) (r : Result A IgnoreFault) → IfOk r (λ i. view i ≡ state_of (Some bytes)) → IfOk r (λ i. first_fault (lines_of bytes) ≡ None) → IfOk r (λ i. first_fault (items_of (view i)) ≡ None)
faultless_all view bytes (Ok i) e none = faultless_of (view i) bytes e none
faultless_all view bytes (Err f) e none = tt

-- and its text is within the size, and is text
pub texts_all : {A : Type 0} (view : A → List Piece) (bytes : List ℕ) (r : Result A IgnoreFault) → length bytes ≤ 1048576 → IfOk r (λ i. view i ≡ state_of (Some bytes)) → IfOk r (λ i. IsUtf8 bytes) → IfOk r (λ i. AreTexts (view i))
texts_all view bytes (Ok i) small e utf8 = subst AreTexts (sym e) (small, utf8, tt)
texts_all view bytes (Err f) small e utf8 = tt

-- no regexp was compiled where no bytes were given
pub counted_still : (A : Type 0) (most count : ℕ) (f : IgnoreFault) → IsOfReading most f → Counted {T = A} count count (Err f)
counted_still A most count a_fault.OutOfMemory kind = refl
counted_still A most count a_fault.Failed kind = refl
counted_still A most count (a_fault.IgnoreTooLarge size) kind = refl
counted_still A most count (a_fault.IgnoreText at) kind = absurd kind
counted_still A most count (a_fault.BadGlob line) kind = absurd kind
counted_still A most count (a_fault.BadRegexp line) kind = absurd kind
counted_still A most count (a_fault.RegexpTooBig line) kind = absurd kind
counted_still A most count (a_fault.BadInclude line) kind = absurd kind

pub over_of : (most size : ℕ) (f : IgnoreFault) → IsOfReading most f → f ≡ a_fault.IgnoreTooLarge size → most < size
over_of most size f kind e = let P : IgnoreFault → Type 0 = λ v. IsOfReading most v in subst P e kind

on_any : {A : Type 0} (r : Result A IgnoreFault) (X : Type 0) → X → OnOk r X
on_any (Ok i) X x = x
on_any (Err f) X x = tt

pub asked_for : {A : Type 0} (old new : History) (r : Result A IgnoreFault) → Passes old new → (IsTrue old.told → AsksRight old new) → IsOurs old new → OnOk r (new.asked ≡ old.asked ++ reads_of (now old))
asked_for old new r passes asks ours = on_any r (new.asked ≡ old.asked ++ reads_of (now old)) (asks_still old new passes ours (asks ours.told))
