-- The steps in which a line is read.
use Rattle.std.specs.Prelude.{ℕ, ◌≡◌, ◌+◌, ◌≤◌, ◌<◌, min, Bool, true, false, List, [], ◌∷◌, ◌++◌, length, drop, Option, Some, None, Result, Ok, Err}
use Rattle.std.specs.Str.{is_utf8}
use Rattle.hg_lines.specs.Script.{Reading, ended, has_end, held, script_behind}
use Rattle.hg_lines.specs.declared.fault.LineFault.{LineFault}
use Rattle.hg_lines.specs.declared.fault.LineFault.TheVariants as a_fault

-- what a reading keeps: no line feed stands in what was taken of the next line, which is no more than a line and a script may have, and each line had a byte
pub record IsReading (number before : ℕ) (line : List ℕ) : Type 0 where
  pub whole : has_end line ≡ false
  pub short : length line ≤ 65536
  pub within : before + length line ≤ 67108864
  pub numbered : number ≤ before

-- a line ends at the front of a text
abbrev pub Ends : List ℕ → Type 0
Ends text = (rest : List ℕ) × (text ≡ 10 ∷ rest)

-- how many bytes of a line of this length were taken, with its line feed
abbrev pub size_of : ℕ → Bool → ℕ
size_of size true = size + 1
size_of size false = size

-- a line of which so many bytes were taken is too large, or too long, or neither
abbrev pub Refuses : ℕ → ℕ → ℕ → Bool → Option LineFault → Type 0
Refuses before number size ends None = (before + size_of size ends ≤ 67108864) × (size ≤ 65536)
Refuses before number size ends (Some (a_fault.TooLarge most)) = (most ≡ 67108865) × (67108864 < before + min (size_of size ends) 65537)
Refuses before number size ends (Some (a_fault.Line n)) = (n ≡ number) × (65536 < size) × (before + 65537 ≤ 67108864)
Refuses before number size ends (Some fault) = ⊥

-- a line ends behind what was taken of it, within what a script may have
abbrev pub HasEnd : Reading → Type 0
HasEnd reading = Ends reading.piece × (reading.before + length reading.line + 1 ≤ 67108864)

-- whatever stands behind what is held, the script ends with this fault
abbrev pub EndsWith : Reading → LineFault → Type 0
EndsWith reading fault = (rest : List ℕ) → script_behind reading (held reading ++ rest) ≡ ended (Some fault)

-- a fault names the next line and ends the script; want of memory and a failing source say nothing of it
abbrev pub IsRefused : Reading → LineFault → Type 0
IsRefused reading a_fault.OutOfMemory = Unit {0}
IsRefused reading a_fault.Failed = Unit {0}
IsRefused reading (a_fault.Line n) = (n ≡ reading.number + 1) × EndsWith reading (a_fault.Line n)
IsRefused reading (a_fault.Text n) = (n ≡ reading.number + 1) × EndsWith reading (a_fault.Text n)
IsRefused reading (a_fault.TooLarge size) = (size ≡ 67108865) × EndsWith reading (a_fault.TooLarge size)

-- the next line was handed out, whose end has so many bytes
abbrev pub passed : Reading → ℕ → Reading
passed reading end = record { number = reading.number + 1; before = reading.before + length reading.line + end; line = []; piece = drop end reading.piece }

-- the text of a line, or why it has none
abbrev pub IsText : ℕ → List ℕ → Result (List ℕ) LineFault → Type 0
IsText number line (Ok text) = (text ≡ line) × (is_utf8 line ≡ true)
IsText number line (Err a_fault.OutOfMemory) = Unit {0}
IsText number line (Err (a_fault.Text n)) = (n ≡ number) × (is_utf8 line ≡ false)
IsText number line (Err fault) = ⊥
