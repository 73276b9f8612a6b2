-- Why a text is refused as a glob.
use Rattle.std.specs.Prelude.{ℕ, ◌≡◌, ◌+◌, ◌-◌, if◌then◌else◌, List, [], ◌∷◌, length, take, Option, Some, None, chars, encode_utf8_all, ◌==◌, nat_lt}
use Rattle.hg_glob.specs.Part.{parts_of}
use Rattle.hg_glob.specs.declared.part.Part.{Part}
use Rattle.hg_glob.specs.declared.part.Part.TheVariants as a_part
use Rattle.hg_glob.specs.declared.fault.GlobFault.{GlobFault}
use Rattle.hg_glob.specs.declared.fault.GlobFault.TheVariants as a_fault

-- how many `}` stand for a `{` in front of the part, where so many stand for one behind it
abbrev pub closers_at : Part → ℕ → ℕ
closers_at (a_part.Open at) behind = behind - 1
closers_at a_part.Close behind = behind + 1
closers_at _ behind = behind

-- how many `}` stand in the parts for a `{` in front of them
abbrev pub closers : List Part → ℕ
closers [] = 0
closers (part ∷ parts) = closers_at part (closers parts)

-- the place of the part where it is a `{` and no `}` stands for it, and else the one behind it
abbrev pub unclosed_at : Part → ℕ → Option ℕ → Option ℕ
unclosed_at (a_part.Open at) closers behind = if closers == 0 then Some at else behind
unclosed_at _ closers behind = behind

-- the place of the first `{` without its `}`
abbrev pub unclosed : List Part → Option ℕ
unclosed [] = None
unclosed (part ∷ parts) = unclosed_at part (closers parts) (unclosed parts)

-- the place of a range whose end stands before its beginning
abbrev pub reversed_at : Part → Option ℕ
reversed_at (a_part.Range at low high) = if nat_lt high low then Some at else None
reversed_at _ = None

-- the first place, or the other where there is none
abbrev pub or_else : Option ℕ → Option ℕ → Option ℕ
or_else None other = other
or_else (Some at) other = Some at

-- the place of the first such range
abbrev pub reversed : List Part → Option ℕ
reversed [] = None
reversed (part ∷ parts) = or_else (reversed_at part) (reversed parts)

-- how many bytes stand before the place, which counts characters
abbrev pub bytes_before : ℕ → List ℕ → ℕ
bytes_before at text = length (encode_utf8_all (take at text))

-- the fault at the least place
abbrev pub first_fault : List ℕ → Option ℕ → Option ℕ → Option GlobFault
first_fault text None None = None
first_fault text (Some brace) None = Some (a_fault.Unbalanced (bytes_before brace text))
first_fault text None (Some range) = Some (a_fault.Range (bytes_before range text))
first_fault text (Some brace) (Some range) =
    if nat_lt brace range then Some (a_fault.Unbalanced (bytes_before brace text)) else Some (a_fault.Range (bytes_before range text))

-- why the bytes of a text are refused: their number, or else the fault at the least place
abbrev pub refusal : List ℕ → Option GlobFault
refusal text =
    if nat_lt 4095 (length text)
    then Some (a_fault.TooLong (length text))
    else first_fault (chars text) (unclosed (parts_of (chars text))) (reversed (parts_of (chars text)))

-- what a reading answers that refuses with that fault or none; want of memory comes in place of either
abbrev pub Refuses : Option GlobFault → Option GlobFault → Type 0
Refuses fault (Some a_fault.OutOfMemory) = Unit {0}
Refuses fault answer = answer ≡ fault
