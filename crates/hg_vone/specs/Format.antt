-- A dirstate of the first version (Mercurial wiki, DirState), as bytes: which files are of it, and what one entry says.
use Rattle.std.specs.Prelude.{ℕ, ◌+◌, Bool, true, false, not, ◌&&◌, ◌||◌, if◌then◌else◌, List, [], ◌∷◌, length, take, drop, codes, Option, Some, None, is_none, ◌==◌, nat_lt}
use Rattle.std.specs.List.{position}
use Rattle.std.specs.Str.{is_utf8}
use Rattle.std.specs.Prelude.{slice_index}
use Rattle.hg_base.specs.PathText.{is_path}
use Rattle.hg_docket.specs.Docket.{number_at}
use Rattle.hg_entry.specs.Table.{Marks}
use Rattle.hg_vone.specs.declared.fault.VoneFault.{VoneFault}
use Rattle.hg_vone.specs.declared.fault.VoneFault.TheVariants as a_fault

-- two texts differ at a place where both have a byte
abbrev pub differs : List ℕ → List ℕ → Bool
differs [] bytes = false
differs (m ∷ front) [] = false
differs (m ∷ front) (b ∷ bytes) = not (m == b) || differs front bytes

-- a dirstate is of the first version where it differs from what one of the second begins with
abbrev pub is_vone : List ℕ → Bool
is_vone bytes = differs (codes "dirstate-v2") bytes

-- ---- one entry, at the beginning of some bytes: its state in a byte, then mode, size, time and length in four bytes each, then its text

-- how many bytes the text has
abbrev pub text_len : List ℕ → ℕ
text_len bytes = number_at 13 bytes

-- how many bytes the entry has
abbrev pub size_in : List ℕ → ℕ
size_in bytes = 17 + text_len bytes

-- the bytes end before the entry does
unfoldable pub is_short : List ℕ → Bool
is_short bytes = nat_lt (length bytes) 17 || nat_lt (length bytes) (size_in bytes)

abbrev pub text_in : List ℕ → List ℕ
text_in bytes = take (text_len bytes) (drop 17 bytes)

-- where the first NUL stands in a text
abbrev pub nul_in : List ℕ → Option ℕ
nul_in text = position (λ b. b == 0) text

-- what is before that place, or all
abbrev pub before_place : Option ℕ → List ℕ → List ℕ
before_place None text = text
before_place (Some at) text = take at text

-- what is behind that place
abbrev pub behind_place : Option ℕ → List ℕ → Option (List ℕ)
behind_place None text = None
behind_place (Some at) text = Some (drop (at + 1) text)

-- a NUL in the text ends the path, and the copy source is behind it
unfoldable pub path_in : List ℕ → List ℕ
path_in bytes = before_place (nul_in (text_in bytes)) (text_in bytes)

unfoldable pub source_in : List ℕ → Option (List ℕ)
source_in bytes = behind_place (nul_in (text_in bytes)) (text_in bytes)

-- a text that is a path
unfoldable pub is_named : List ℕ → Bool
is_named text = is_utf8 text && is_path text

-- a copy source that is a path, where there is one
abbrev pub is_sourced : Option (List ℕ) → Bool
is_sourced None = true
is_sourced (Some source) = is_named source

-- tracked, in the first parent, marked for the second
abbrev pub marks : Bool → Bool → Bool → Marks
marks w p1 p2 = record { w = w; p1 = p1; p2 = p2 }

-- what a state and a size say of a file: `n` is tracked and in a parent, `a` is added, `r` removed, `m` merged; a size of -2 says that the second parent's
-- was taken, and one of -1, of a file that is removed, that it was merged
unfoldable pub marks_of : ℕ → ℕ → Option Marks
marks_of state size =
    if state == 110
    then Some (if size == 4294967294 then marks true false true else marks true true false)
    else (
    if state == 97
    then Some (marks true false false)
    else (
    if state == 114
    then Some (if size == 4294967295 then marks false true true else (if size == 4294967294 then marks false false true else marks false true false))
    else (if state == 109 then Some (marks true true true) else None)
    )
    )

-- the state and the size of an entry
unfoldable pub marks_in : List ℕ → Option Marks
marks_in bytes = marks_of (slice_index bytes 0) (number_at 5 bytes)

-- what is wrong with an entry at this place, by itself: it ends early, its state is none, or a text of it isn't a path
unfoldable pub own_fault : ℕ → List ℕ → Option VoneFault
own_fault at bytes =
    if is_short bytes
    then Some (a_fault.V1Short at)
    else (
    if is_none (marks_in bytes)
    then Some (a_fault.V1State at)
    else (if is_named (path_in bytes) && is_sourced (source_in bytes) then None else Some (a_fault.V1Path at))
    )
