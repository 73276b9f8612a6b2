-- Reading a request from its first byte on: how bytes that were taken for one are judged.
use Rattle.std.specs.Prelude.{ℕ, ◌≡◌, ◌+◌, ◌≤◌, ◌<◌, ◌⊎◌, min, Bool, not, ◌&&◌, if◌then◌else◌, List, [], ◌++◌, length, take, drop, Option, Some, None, option_map, IfSome, Result, Ok, Err, ◌==◌, nat_lt}
use Rattle.std.specs.Int.{w32, from_be_bytes}
use Rattle.std.specs.Str.{bytes_eq, is_utf8}
use Rattle.hg_server.specs.Protocol.{IsFit, line, request, words_of}
use Rattle.hg_server.specs.declared.fault.ServeFault.{ServeFault}
use Rattle.hg_server.specs.declared.fault.ServeFault.TheVariants as a_fault

-- bytes agree with the line that a request begins with, as far as both go
abbrev pub agrees : List ℕ → Bool
agrees part = bytes_eq (take (min (length part) 11) part) (take (min (length part) 11) line)

-- how many bytes a request says that its words have, behind the line
abbrev pub size_in : List ℕ → ℕ
size_in part = from_be_bytes w32 (take 4 (drop 11 part))

-- those bytes, as far as they are there
abbrev pub text_in : List ℕ → List ℕ
text_in part = take (size_in part) (drop 15 part)

-- why the words of request number n aren't taken, all of whose bytes are there
abbrev pub text_refusal : ℕ → List ℕ → Option ServeFault
text_refusal n part = if is_utf8 (text_in part) then None else Some (a_fault.ServerText n)

-- why bytes don't begin with request number n: the first reason in the order in which its bytes come. `ServerShort` is what is said where they may be the
-- beginning of one, and nothing comes behind them
abbrev pub refusal : ℕ → List ℕ → Option ServeFault
refusal n part =
    if nat_lt 4294967296 n && not (length part == 0) then Some a_fault.ServerLimit else (
    if not (agrees part) then Some (a_fault.ServerCommand n) else (
    if nat_lt (length part) 15 then Some (a_fault.ServerShort n) else (
    if nat_lt 1048576 (size_in part) then Some (a_fault.ServerTooLarge n (size_in part)) else (
    if nat_lt (length part) (15 + size_in part) then Some (a_fault.ServerShort n) else text_refusal n part
    ))))

-- how many bytes may be taken for a request: its line and its size, and where that size is allowed its words
abbrev pub room : List ℕ → ℕ
room part = if nat_lt 1048576 (size_in part) then 15 else 15 + size_in part

-- these bytes were taken from a source, where it tells what it has left
abbrev pub Took : Option (List ℕ) → Option (List ℕ) → List ℕ → Type 0
Took old new part = old ≡ option_map (λ rest. part ++ rest) new

-- a source has nothing left, where it tells that
abbrev pub IsAtEnd : Option (List ℕ) → Type 0
IsAtEnd left = IfSome left (λ rest. rest ≡ [])

-- what an answer says of the bytes that were taken for request number n. A failing source and want of memory are told of no bytes that are refused
abbrev pub Says : ℕ → List ℕ → Option (List ℕ) → Result (Option (List (List ℕ))) ServeFault → Type 0
Says n part left (Ok None) = (part ≡ []) × IsAtEnd left
Says n part left (Ok (Some words)) = (text : List ℕ) × (part ≡ request text) × IsFit text × (n ≤ 4294967296) × (words ≡ words_of text)
Says n part left (Err a_fault.OutOfMemory) = (refusal n part ≡ Some (a_fault.ServerShort n)) ⊎ (refusal n part ≡ None)
Says n part left (Err a_fault.InFailed) = refusal n part ≡ Some (a_fault.ServerShort n)
Says n part left (Err a_fault.OutFailed) = ⊥
Says n part left (Err (a_fault.ServerShort m)) = (refusal n part ≡ Some (a_fault.ServerShort m)) × (0 < length part) × IsAtEnd left
Says n part left (Err fault) = refusal n part ≡ Some fault

-- a request was read from a source, or it wasn't: what was taken for it, and what the answer says of that
pub record Reads (n : ℕ) (old new : Option (List ℕ)) (result : Result (Option (List (List ℕ))) ServeFault) : Type 0 where
  pub part : List ℕ
  pub took : Took old new part
  pub within : length part ≤ room part
  pub says : Says n part new result
