-- What is read of the file of ignore patterns, and at which moments.
use Rattle.std.specs.Prelude.{ℕ, ◌≡◌, ◌+◌, ◌≤◌, ◌<◌, ◌⊎◌, Bool, true, false, List, [], ◌∷◌, ◌++◌, length, Option, Some, None, IsSomeAnd, map}
use Rattle.std.specs.Str.{IsUtf8, IsValidUpTo}
use Rattle.hg_base.specs.declared.stat.Stat.{Stat}
use Rattle.hg_base.specs.declared.stat.Kind.{Kind}
use Rattle.hg_base.specs.declared.stat.Kind.TheVariants as a_kind
use Rattle.hg_tree.specs.declared.asked.Asked.{Asked}
use Rattle.hg_tree.specs.declared.asked.Asked.TheVariants as an_ask
use Rattle.hg_tree.specs.Moment.{Moment, is_file, bytes_at}
use Rattle.hg_tree.specs.History.{History, now}
use Rattle.hg_ignore.specs.Line.{lines_of}
use Rattle.hg_ignore.specs.State.{Piece, Ignore, IgnoreFiles, ignore_file, state_of}
use Rattle.hg_ignore.specs.Taking.{HasLineCause}
use Rattle.hg_ignore.specs.declared.fault.IgnoreFault.{IgnoreFault}
use Rattle.hg_ignore.specs.declared.fault.IgnoreFault.TheVariants as a_fault

-- the size that a stat shows of a file; anything else has none
abbrev pub size_of_kind : Kind → ℕ → Option ℕ
size_of_kind a_kind.File size = Some size
size_of_kind a_kind.Link size = None
size_of_kind a_kind.Dir size = None
size_of_kind a_kind.Other size = None

abbrev pub file_size : Option Stat → Option ℕ
file_size None = None
file_size (Some stat) = size_of_kind stat.kind stat.size

-- a file of ignore patterns stands there
abbrev pub has_file : Moment → Bool
has_file moment = is_file (moment.things ignore_file)

-- what can be read of it
abbrev pub text_at : Moment → Option (List ℕ)
text_at moment = bytes_at moment ignore_file

-- at some moment of the call a file stood there
abbrev pub FileDuring : History → History → Type 0
FileDuring old new = (k : ℕ) × (old.last ≤ k) × (k ≤ new.last) × (has_file (new.at k) ≡ true)

-- the state that a call gives: that of its last moment; or, where a file was seen and something else took its place before the read,
-- what can be read there at the last moment
abbrev pub ReadDuring : History → History → List Piece → Type 0
ReadDuring old new state = (state ≡ Ignore (now new)) ⊎ (FileDuring old new × (state ≡ state_of (text_at (now new))))

-- the one read that is asked
abbrev pub the_read : List Asked
the_read = an_ask.Read ignore_file ∷ []

-- nothing is asked, or one read, and that only where a file was seen
abbrev pub AsksOnce : History → History → Type 0
AsksOnce old new = (new.asked ≡ old.asked) ⊎ (FileDuring old new × (new.asked ≡ old.asked ++ the_read))

-- the reads of the files of a moment
abbrev pub reads_of : Moment → List Asked
reads_of moment = map an_ask.Read (IgnoreFiles moment)

-- at some moment of the call a file of at most so many bytes stood there
abbrev pub SmallDuring : ℕ → History → History → Type 0
SmallDuring most old new =
    (k : ℕ) × (old.last ≤ k) × (k ≤ new.last) × (has_file (new.at k) ≡ true) × IsSomeAnd (text_at (new.at k)) (λ text. length text ≤ most)

-- a file over that many bytes: as a stat stated its size; or, where a stat stated less, as the one read gave a byte more
abbrev pub IsTooLarge : ℕ → ℕ → History → History → Type 0
IsTooLarge most size old new =
    ((k : ℕ) × (old.last ≤ k) × (k ≤ new.last) × (has_file (new.at k) ≡ true) × IsSomeAnd (text_at (new.at k)) (λ text. size ≡ length text))
    ⊎ (SmallDuring most old new × (size ≡ most + 1) × IsSomeAnd (text_at (now new)) (λ text. most < length text))

-- what was read at the last moment is within the size, and is no text from that byte on
abbrev pub IsNoText : ℕ → ℕ → History → Type 0
IsNoText most at new = IsSomeAnd (text_at (now new)) (λ text. (length text ≤ most) × IsValidUpTo text at)

-- what was read at the last moment is a text within the size, and its lines are refused so
abbrev pub AreRefused : ℕ → IgnoreFault → History → Type 0
AreRefused most fault new = IsSomeAnd (text_at (now new)) (λ text. (length text ≤ most) × IsUtf8 text × HasLineCause (lines_of text) fault)

-- each text is within the size, and is text
abbrev pub AreTexts : List Piece → Type 0
AreTexts [] = Unit {0}
AreTexts (piece ∷ more) = (length piece.text ≤ 1048576) × IsUtf8 piece.text × AreTexts more

-- why no state is given, by the moments of the call
abbrev pub HasTextCause : ℕ → History → History → IgnoreFault → Type 0
HasTextCause most old new a_fault.OutOfMemory = Unit {0}
HasTextCause most old new a_fault.Failed = Unit {0}
HasTextCause most old new (a_fault.IgnoreTooLarge size) = (most < size) × IsTooLarge most size old new
HasTextCause most old new (a_fault.IgnoreText at) = FileDuring old new × IsNoText most at new
HasTextCause most old new (a_fault.BadGlob line) = FileDuring old new × AreRefused most (a_fault.BadGlob line) new
HasTextCause most old new (a_fault.BadRegexp line) = FileDuring old new × AreRefused most (a_fault.BadRegexp line) new
HasTextCause most old new (a_fault.RegexpTooBig line) = FileDuring old new × AreRefused most (a_fault.RegexpTooBig line) new
HasTextCause most old new (a_fault.BadInclude line) = FileDuring old new × AreRefused most (a_fault.BadInclude line) new

-- what was read of the file, before its text is looked at: nothing, where no file is or nothing can be read
abbrev pub BytesDuring : History → History → Option (List ℕ) → Type 0
BytesDuring old new bytes = ((bytes ≡ None) × (has_file (now new) ≡ false)) ⊎ (FileDuring old new × (bytes ≡ text_at (now new)))

-- why no bytes are given
abbrev pub HasSizeCause : ℕ → History → History → IgnoreFault → Type 0
HasSizeCause most old new a_fault.OutOfMemory = Unit {0}
HasSizeCause most old new a_fault.Failed = Unit {0}
HasSizeCause most old new (a_fault.IgnoreTooLarge size) = (most < size) × IsTooLarge most size old new
HasSizeCause most old new fault = ⊥

-- one read may be asked
abbrev pub MayAsk : History → History → Type 0
MayAsk old new = (new.asked ≡ old.asked) ⊎ (new.asked ≡ old.asked ++ the_read)

-- why a read of so many bytes and one more gives no text
abbrev pub HasReadCause : ℕ → History → IgnoreFault → Type 0
HasReadCause most new a_fault.OutOfMemory = Unit {0}
HasReadCause most new a_fault.Failed = Unit {0}
HasReadCause most new (a_fault.IgnoreTooLarge size) = (most < size) × (size ≡ most + 1) × IsSomeAnd (text_at (now new)) (λ text. most < length text)
HasReadCause most new fault = ⊥

-- a call that is answered asks one read where a file was seen, and nothing where none is at the last moment
abbrev pub AsksRight : History → History → Type 0
AsksRight old new = ((new.asked ≡ old.asked) × (has_file (now new) ≡ false)) ⊎ (FileDuring old new × (new.asked ≡ old.asked ++ the_read))

-- why bytes within the size aren't taken
abbrev pub HasBytesCause : List ℕ → IgnoreFault → Type 0
HasBytesCause bytes a_fault.OutOfMemory = Unit {0}
HasBytesCause bytes a_fault.Failed = ⊥
HasBytesCause bytes (a_fault.IgnoreTooLarge size) = ⊥
HasBytesCause bytes (a_fault.IgnoreText at) = IsValidUpTo bytes at
HasBytesCause bytes (a_fault.BadGlob line) = IsUtf8 bytes × HasLineCause (lines_of bytes) (a_fault.BadGlob line)
HasBytesCause bytes (a_fault.BadRegexp line) = IsUtf8 bytes × HasLineCause (lines_of bytes) (a_fault.BadRegexp line)
HasBytesCause bytes (a_fault.RegexpTooBig line) = IsUtf8 bytes × HasLineCause (lines_of bytes) (a_fault.RegexpTooBig line)
HasBytesCause bytes (a_fault.BadInclude line) = IsUtf8 bytes × HasLineCause (lines_of bytes) (a_fault.BadInclude line)

-- which faults a reading of bytes can have, over any tree
abbrev pub IsOfReading : ℕ → IgnoreFault → Type 0
IsOfReading most a_fault.OutOfMemory = Unit {0}
IsOfReading most a_fault.Failed = Unit {0}
IsOfReading most (a_fault.IgnoreTooLarge size) = most < size
IsOfReading most fault = ⊥
