-- A script as text: its lines, one behind another, up to the first one that is refused.
use Rattle.std.specs.Prelude.{ℕ, ◌≡◌, ◌+◌, ◌≤◌, ◌<◌, ◌⊎◌, min, Bool, true, false, if◌then◌else◌, List, [], ◌∷◌, ◌++◌, length, Option, Some, None, option_map, Result, Ok, Err, ◌==◌, nat_lt}
use Rattle.std.specs.List.{list_any, slice_split}
use Rattle.std.specs.Str.{is_utf8}
use Rattle.hg_lines.specs.declared.fault.LineFault.{LineFault}
use Rattle.hg_lines.specs.declared.fault.LineFault.TheVariants as a_fault

-- ---- lines

-- a byte ends a line
abbrev pub is_end : ℕ → Bool
is_end byte = byte == 10

-- a line ends somewhere in a text
abbrev pub has_end : List ℕ → Bool
has_end text = list_any is_end text

-- the pieces between the line feeds of a text: its lines, and behind the last line feed what is a line where it isn't empty
abbrev pub pieces : List ℕ → List (List ℕ)
pieces text = slice_split is_end text

-- why a line is refused, if it is, by how many bytes stand before it, its number, and its length with its line feed. Of a line no byte is taken behind byte
-- 65,537; the script is too large as soon as its byte 67,108,865 is taken, and else the line is too long as soon as its byte 65,537 is
abbrev pub refusal : ℕ → ℕ → ℕ → List ℕ → Option LineFault
refusal before number size line =
    if nat_lt 67108864 (before + min size 65537)
    then Some (a_fault.TooLarge 67108865)
    else (
    if nat_lt 65536 (length line)
    then Some (a_fault.Line number)
    else (if is_utf8 line then None else Some (a_fault.Text number))
    )

-- the lines of a script up to its first fault, and that fault, where it has one
pub record Script : Type 0 where
  pub lines : List (List ℕ)
  pub fault : Option LineFault

-- nothing more is read, for this fault or for the end
abbrev pub ended : Option LineFault → Script
ended fault = record { lines = []; fault = fault }

-- a line before a script
abbrev pub onto : List ℕ → Script → Script
onto line script = record { lines = line ∷ script.lines; fault = script.fault }

-- a line where it isn't refused, and what comes behind it
abbrev pub judged : Option LineFault → List ℕ → Script → Script
judged None line rest = onto line rest
judged (Some fault) line rest = ended (Some fault)

-- the script that pieces make, where so many bytes stand before them, and the first has this number
abbrev pub script_from : ℕ → ℕ → List (List ℕ) → Script
script_from before number [] = ended None
script_from before number (last ∷ []) = if length last == 0 then ended None else judged (refusal before number (length last) last) last (ended None)
script_from before number (line ∷ next ∷ more) =
    judged (refusal before number (length line + 1) line) line (script_from (before + length line + 1) (number + 1) (next ∷ more))

-- the script of a whole text
abbrev pub script_of : List ℕ → Script
script_of text = script_from 0 1 (pieces text)

-- the words of a line, which are parted by single spaces; an empty line has none
abbrev pub words_of : List ℕ → List (List ℕ)
words_of line = if length line == 0 then [] else slice_split (λ b. b == 32) line

-- ---- reading line by line

-- a reading: how many lines were handed out, and how many bytes these had; what was taken of the next line, and what was taken behind that
pub record Reading : Type 0 where
  pub number : ℕ
  pub before : ℕ
  pub line : List ℕ
  pub piece : List ℕ

-- before anything is taken
abbrev pub start : Reading
start = record { number = 0; before = 0; line = []; piece = [] }

-- what was taken and isn't handed out yet
abbrev pub held : Reading → List ℕ
held reading = reading.line ++ reading.piece

-- all that is still to be handed out: what is held, and what a source has left, where it tells that
abbrev pub all_of : Reading → Option (List ℕ) → Option (List ℕ)
all_of reading left = option_map (λ rest. held reading ++ rest) left

-- the script that a text makes behind what was handed out
abbrev pub script_behind : Reading → List ℕ → Script
script_behind reading text = script_from reading.before (reading.number + 1) (pieces text)

-- the same lines were handed out
pub record IsStill (old new : Reading) : Type 0 where
  pub number : new.number ≡ old.number
  pub before : new.before ≡ old.before

-- a line as it's handed out, also where the source tells nothing: without its line feed, in UTF-8 and not too long
pub record IsLine (line : List ℕ) : Type 0 where
  pub whole : has_end line ≡ false
  pub short : length line ≤ 65536
  pub text : is_utf8 line ≡ true

-- a line was handed out: its bytes, and its line feed where it has one, are counted, of which a script has no more than 67,108,864
pub record IsHanded (old new : Reading) (line : List ℕ) : Type 0 where
  pub fine : IsLine line
  pub number : new.number ≡ old.number + 1
  pub before : (new.before ≡ old.before + length line + 1) ⊎ (new.before ≡ old.before + length line)
  pub more : old.before < new.before
  pub within : new.before ≤ 67108864

-- what an answer says over any source: after a fault the same lines were handed out, and a fault names the next one
abbrev pub Answers : Reading → Reading → Result (Option (List ℕ)) LineFault → Type 0
Answers old new (Ok None) = IsStill old new
Answers old new (Ok (Some line)) = IsHanded old new line
Answers old new (Err (a_fault.Line n)) = IsStill old new × (n ≡ old.number + 1)
Answers old new (Err (a_fault.Text n)) = IsStill old new × (n ≡ old.number + 1)
Answers old new (Err (a_fault.TooLarge size)) = IsStill old new × (size ≡ 67108865)
Answers old new (Err fault) = IsStill old new

-- the first line of a text, and what stands behind it: it ends at a line feed, or with the text, where it isn't empty
abbrev pub IsFirst : List ℕ → List ℕ → List ℕ → Type 0
IsFirst all line rest = (all ≡ line ++ 10 ∷ rest) ⊎ ((all ≡ line) × (rest ≡ []) × (0 < length line))

-- what an answer says of the bytes that were still to be handed out, and of those that are behind it: none exactly where there are no bytes, a line exactly
-- where the script's next line is that one, and then the script goes on with what is behind it; a fault of the script where it ends with that fault. After each
-- fault all bytes are still to be handed out
abbrev pub Reads : Reading → List ℕ → Reading → List ℕ → Result (Option (List ℕ)) LineFault → Type 0
Reads old all new rest (Ok None) = (all ≡ []) × (rest ≡ [])
Reads old all new rest (Ok (Some line)) = IsFirst all line rest × (script_behind old all ≡ onto line (script_behind new rest))
Reads old all new rest (Err a_fault.OutOfMemory) = rest ≡ all
Reads old all new rest (Err a_fault.Failed) = rest ≡ all
Reads old all new rest (Err fault) = (rest ≡ all) × (script_behind old all ≡ ended (Some fault))

-- the same where the source tells its bytes; one that doesn't goes on telling nothing
abbrev pub ReadsFrom : Reading → Option (List ℕ) → Reading → Option (List ℕ) → Result (Option (List ℕ)) LineFault → Type 0
ReadsFrom old None new None answer = Unit {0}
ReadsFrom old (Some all) new (Some rest) answer = Reads old all new rest answer
ReadsFrom old None new (Some rest) answer = ⊥
ReadsFrom old (Some all) new None answer = ⊥
