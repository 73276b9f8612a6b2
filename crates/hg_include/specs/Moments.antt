-- What a call answers where nobody else changes the working copy.
use Rattle.std.specs.Prelude.{ℕ, zero, suc, ◌≡◌, ◌<◌, ◌≤◌, List, [], ◌∷◌, ◌++◌, length, Some, None, Result, Ok, Err}
use Rattle.std.specs.Str.{IsUtf8}
use Rattle.hg_tree.specs.History.{History}
use Rattle.hg_tree.specs.Moment.{Moment}
use Rattle.hg_tree.specs.declared.asked.Asked.{Asked}
use Rattle.hg_include.specs.declared.fault.Bad.{Bad}
use Rattle.hg_include.specs.declared.fault.Bad.TheVariants as a_bad
use Rattle.hg_include.specs.declared.fault.IncludeFault.{IncludeFault}
use Rattle.hg_include.specs.declared.fault.IncludeFault.TheVariants as a_fault
use Rattle.hg_include.specs.declared.piece.Piece.{Piece}
use Rattle.hg_include.specs.Answer.{Read}
use Rattle.hg_include.specs.Asking.{Agrees, reads_of}
use Rattle.hg_include.specs.Look.{Look, look_at}
use Rattle.hg_include.specs.Reading.{Ask, Ended, Know}

-- the way to know of one moment: each look shows what stands there then
abbrev pub known_at : Moment → Know
known_at moment n path = look_at moment path

-- a call answers what the reading gives; want of memory and a failure come at any time
abbrev pub IsAnswer : Ended → Result Read IncludeFault → Type 0
IsAnswer ended (Ok read) = (ended.so.pieces ≡ read.pieces) × (ended.so.warnings ≡ read.warnings) × (ended.fault ≡ None)
IsAnswer ended (Err (a_fault.Bad file what)) = ended.fault ≡ Some (record { file = file; what = what })
IsAnswer ended (Err a_fault.OutOfMemory) = Unit {0}
IsAnswer ended (Err a_fault.Failed) = Unit {0}

-- these are the first of those reads
abbrev pub Begins : List Asked → List Asked → Type 0
Begins some all = (more : List Asked) × (all ≡ some ++ more)

-- what is asked is the reads of the reading; the first of them where memory is short or the tree failed
abbrev pub AsksAll : ℕ → Ended → History → History → Result Read IncludeFault → Type 0
AsksAll most ended old new (Ok read) = new.asked ≡ old.asked ++ reads_of most ended.so.asks
AsksAll most ended old new (Err (a_fault.Bad file what)) = new.asked ≡ old.asked ++ reads_of most ended.so.asks
AsksAll most ended old new (Err a_fault.OutOfMemory) = (asked : List Asked) × (new.asked ≡ old.asked ++ asked) × Begins asked (reads_of most ended.so.asks)
AsksAll most ended old new (Err a_fault.Failed) = (asked : List Asked) × (new.asked ≡ old.asked ++ asked) × Begins asked (reads_of most ended.so.asks)

-- each text is within the size, and is text
abbrev pub AreTexts : ℕ → List Piece → Type 0
AreTexts most [] = Unit {0}
AreTexts most (piece ∷ pieces) = (length piece.text ≤ most) × IsUtf8 piece.text × AreTexts most pieces

-- what a reading refuses: a size over what is taken, bytes within it that aren't text, and a line that names no file
abbrev pub IsRefusable : ℕ → Bad → Type 0
IsRefusable most (a_bad.TooLarge size) = most < size
IsRefusable most (a_bad.Text at) = at ≤ most
IsRefusable most (a_bad.Include line) = Unit {0}
IsRefusable most bad = ⊥

abbrev pub IsOfReading : ℕ → IncludeFault → Type 0
IsOfReading most a_fault.OutOfMemory = Unit {0}
IsOfReading most a_fault.Failed = Unit {0}
IsOfReading most (a_fault.Bad file what) = IsRefusable most what

-- the look of that number, where there are so many
abbrev pub look_of : List Ask → ℕ → Look
look_of [] n = record { size = None; bytes = None }
look_of (ask ∷ asks) zero = ask.look
look_of (ask ∷ asks) (suc n) = look_of asks n

-- a way to know that gives what looks gave
abbrev pub known_by : List Ask → Know
known_by asks n path = look_of asks n

-- there is such a way for all looks, so what is said of each of them is said of one
abbrev pub SomeWayAgrees : Type 0
SomeWayAgrees = (asks : List Ask) → Agrees (known_by asks) 0 asks
