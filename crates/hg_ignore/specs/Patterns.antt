-- What a layer above may say of ignore patterns, beside `Ignored`, `Hash`, `Texts`, `Ignore`, `IgnoreFiles` and the type `Piece` of `State`: where a
-- state was read, that nothing is wrong with it, its warnings, that nobody touches its files, which reads it takes, what patterns are refused
-- for, and that states are told apart by their hashes. What is promised above cites nothing else of this crate but its own types, and of the contracts of `Matcher` the names `state_asked` and
-- `DirIgnored`; so a text that names further files changes this module, and no word above it.
use Rattle.std.specs.Prelude.{ℕ, ◌≡◌, ◌⊎◌, ◌≤◌, ◌<◌, ◌+◌, true, List, length, None, IsTrue, IsSomeAnd}
use Rattle.std.specs.List.{Contains}
use Rattle.std.specs.Str.{IsUtf8, IsValidUpTo}
use Rattle.sha1.specs.Sha1.{sha1}
use Rattle.hg_tree.specs.History.{History, now}
use Rattle.hg_tree.specs.Moment.{Moment}
use Rattle.hg_tree.specs.Still.{KeepsFace}
use Rattle.hg_tree.specs.declared.asked.Asked.{Asked}
use Rattle.hg_ignore.specs.Line.{lines_of}
use Rattle.hg_ignore.specs.Source.{AreTexts, FileDuring, ReadDuring, has_file, reads_of, text_at, the_read}
use Rattle.hg_ignore.specs.State.{Hash, Ignore, Piece, Texts, ignore_file, items_of, state_of}
use Rattle.hg_ignore.specs.Taking.{HasLineCause, first_fault, warnings_of}
use Rattle.hg_ignore.specs.declared.fault.IgnoreFault.{IgnoreFault}
use Rattle.hg_ignore.specs.declared.fault.IgnoreFault.TheVariants as a_fault
use Rattle.hg_ignore.specs.declared.warnings.Warning.{Warning}

-- nobody touches the file of ignore patterns from a moment on
pub record KeepsPatterns (h : History) (from : ℕ) : Type 0 where
  pub told : IsTrue h.told
  pub file : KeepsFace h from ignore_file

-- ---- what was read

-- a state that was read in a call, as of one of its moments: that of the file there; or, where a file was seen and something else took its
-- place, what can be read there
pub record IsGiven (old new : History) (state : List Piece) : Type 0 where
  pub at : ℕ
  pub from : old.last ≤ at
  pub to : at ≤ new.last
  pub is : (state ≡ Ignore (new.at at)) ⊎ (FileDuring old new × (state ≡ state_of (text_at (new.at at))))

-- one that was read as of the last moment of a call
abbrev pub IsGivenLast : History → History → List Piece → Type 0
IsGivenLast old new state = ReadDuring old new state

-- nothing is wrong with a state: its texts are within their size and are text, and no line of them is refused
pub record AreFine (state : List Piece) : Type 0 where
  pub texts : AreTexts state
  pub lines : first_fault (items_of state) ≡ None

-- the warnings of a state
abbrev pub warnings_in : List Piece → List Warning
warnings_in state = warnings_of (items_of state)

-- patterns were read in a call and nothing was wrong with them, and these are their warnings; where nobody touched the file they are those of its start
pub record WereRead (old new : History) (warnings : List Warning) : Type 0 where
  pub state : List Piece
  pub given : IsTrue old.told → IsGiven old new state
  pub kept : KeepsPatterns new old.last → state ≡ Ignore (now old)
  pub fine : AreFine state
  pub warned : warnings ≡ warnings_in state

-- ---- which reads it takes

-- the reads of the patterns of a moment
abbrev pub reads_at : Moment → List Asked
reads_at moment = reads_of moment

-- a file of patterns was seen in a call, and these are the reads that this calls for
abbrev pub AreReads : History → History → List Asked → Type 0
AreReads old new asked = FileDuring old new × (asked ≡ the_read)

-- ---- why they were refused

-- the most bytes of a file of ignore patterns
abbrev pub most_text : ℕ
most_text = 1048576

-- at a moment of the call the working copy was so
pub record Saw (old new : History) (P : Moment → Type 0) : Type 0 where
  pub at : ℕ
  pub from : IsTrue old.told → old.last ≤ at
  pub to : IsTrue old.told → at ≤ new.last
  pub so : IsTrue old.told → P (new.at at)

-- a file of ignore patterns stands there
abbrev pub HasFile : Moment → Type 0
HasFile moment = has_file moment ≡ true

-- one whose bytes are so
abbrev pub HasBytes : (List ℕ → Type 0) → Moment → Type 0
HasBytes P moment = (has_file moment ≡ true) × IsSomeAnd (text_at moment) P

-- a file was seen, and at that or a later moment of the call bytes that are so were read there
pub record ReadSo (old new : History) (Seen : Moment → Type 0) (P : List ℕ → Type 0) : Type 0 where
  pub seen : Saw old new Seen
  pub read : Saw old new (λ moment. IsSomeAnd (text_at moment) P)
  pub order : IsTrue old.told → seen.at ≤ read.at

-- the file is over the limit: as a look stated its size, or, where a look stated less, as the one read gave a byte more than the limit
abbrev pub IsOver : History → History → ℕ → Type 0
IsOver old new size =
    (most_text < size)
    × (Saw old new (HasBytes (λ text. size ≡ length text))
    ⊎ ((size ≡ most_text + 1) × ReadSo old new (HasBytes (λ text. length text ≤ most_text)) (λ text. most_text < length text)))

-- its bytes are within the limit, and are no text from that one on
abbrev pub IsCutAt : History → History → ℕ → Type 0
IsCutAt old new at = ReadSo old new HasFile (λ text. (length text ≤ most_text) × IsValidUpTo text at)

-- its text is within the limit, and its lines are refused so
abbrev pub HasBadLine : History → History → IgnoreFault → Type 0
HasBadLine old new fault = ReadSo old new HasFile (λ text. (length text ≤ most_text) × IsUtf8 text × HasLineCause (lines_of text) fault)

-- ---- what the patterns of a moment are refused for

-- a text within the limit stands there, and its lines are refused so
abbrev pub RefusesLines : Moment → IgnoreFault → Type 0
RefusesLines moment fault = HasBytes (λ text. (length text ≤ most_text) × IsUtf8 text × HasLineCause (lines_of text) fault) moment

-- the file of ignore patterns stands there and is refused so: it is over the limit; or it is within it, and is no text from some byte on, or
-- a text whose lines are refused
abbrev pub RefusesPatterns : Moment → IgnoreFault → Type 0
RefusesPatterns moment a_fault.OutOfMemory = ⊥
RefusesPatterns moment a_fault.Failed = ⊥
RefusesPatterns moment (a_fault.IgnoreTooLarge size) = HasBytes (λ text. (most_text < length text) × (size ≡ length text)) moment
RefusesPatterns moment (a_fault.IgnoreText at) = HasBytes (λ text. (length text ≤ most_text) × IsValidUpTo text at) moment
RefusesPatterns moment (a_fault.BadGlob line) = RefusesLines moment (a_fault.BadGlob line)
RefusesPatterns moment (a_fault.BadRegexp line) = RefusesLines moment (a_fault.BadRegexp line)
RefusesPatterns moment (a_fault.RegexpTooBig line) = RefusesLines moment (a_fault.RegexpTooBig line)
RefusesPatterns moment (a_fault.BadInclude line) = RefusesLines moment (a_fault.BadInclude line)

-- ---- that states are told apart by their hashes

-- the text of a file in a state that reads of the history may give; a state without files has none
abbrev pub MayHold : History → List ℕ → Type 0
MayHold h text = (state : List Piece) × Texts h state × (piece : Piece) × Contains state piece × (text ≡ piece.text)

-- no two different texts that the history may give share a SHA-1, and no two different states that it may give share a hash
pub record Apart (h : History) : Type 0 where
  pub texts : (a b : List ℕ) → MayHold h a → MayHold h b → sha1 a ≡ sha1 b → a ≡ b
  pub states : (a b : List Piece) → Texts h a → Texts h b → Hash a ≡ Hash b → a ≡ b
