-- The steps in which a request is read.
use Rattle.std.specs.Prelude.{ℕ, ◌≡◌, ◌+◌, ◌≤◌, ◌<◌, ◌⊎◌, Bool, true, false, List, [], ◌++◌, length, drop, Option, Some, Result, Ok, Err, MatchBool, ◌==◌}
use Rattle.std.specs.Str.{is_utf8}
use Rattle.hg_server.specs.Protocol.{request, words_of}
use Rattle.hg_server.specs.Requests.{IsAtEnd, Took, refusal, size_in, text_in, text_refusal}
use Rattle.hg_server.specs.declared.fault.ServeFault.{ServeFault}
use Rattle.hg_server.specs.declared.fault.ServeFault.TheVariants as a_fault

-- some bytes more were taken, at most so many; none only at the end
pub record TakesSome (old new : List ℕ) (from to : Option (List ℕ)) (most : ℕ) (some : Bool) : Type 0 where
  pub more : List ℕ
  pub whole : new ≡ old ++ more
  pub took : Took from to more
  pub few : length more ≤ most
  pub end : MatchBool some (0 < length more) ((more ≡ []) × IsAtEnd to)

-- more was taken, or nothing was
abbrev pub Takes : List ℕ → List ℕ → Option (List ℕ) → Option (List ℕ) → ℕ → Result Bool ServeFault → Type 0
Takes old new from to most (Ok some) = TakesSome old new from to most some
Takes old new from to most (Err a_fault.OutOfMemory) = (new ≡ old) × (to ≡ from)
Takes old new from to most (Err a_fault.InFailed) = (new ≡ old) × (to ≡ from)
Takes old new from to most (Err fault) = ⊥

-- so many bytes more belong to a request of which these were taken: they are of its line and its size, or of its words where that size is allowed
pub record IsOpen (n : ℕ) (part : List ℕ) (most : ℕ) : Type 0 where
  pub judged : refusal n part ≡ Some (a_fault.ServerShort n)
  pub allowed : (length part + most ≤ 15) ⊎ ((15 ≤ length part) × (size_in part ≤ 1048576) × (length part + most ≤ 15 + size_in part))

-- all bytes of a request were taken, and none behind it; whether its words are text isn't known
pub record IsThere (n : ℕ) (part : List ℕ) : Type 0 where
  pub judged : refusal n part ≡ text_refusal n part
  pub text : text_in part ≡ drop 15 part
  pub whole : part ≡ request (drop 15 part)
  pub short : length (drop 15 part) ≤ 1048576
  pub number : n ≤ 4294967296

-- how many bytes a request still lacks of which these were taken, or why they are none of a request
abbrev pub Lacks : ℕ → List ℕ → Result ℕ ServeFault → Type 0
Lacks n part (Ok most) = MatchBool (most == 0) (IsThere n part) (IsOpen n part most)
Lacks n part (Err a_fault.OutOfMemory) = ⊥
Lacks n part (Err a_fault.InFailed) = ⊥
Lacks n part (Err a_fault.OutFailed) = ⊥
Lacks n part (Err (a_fault.ServerShort m)) = ⊥
Lacks n part (Err (a_fault.ServerText m)) = ⊥
Lacks n part (Err fault) = refusal n part ≡ Some fault

-- the words of a request by their bytes, or why they have none
abbrev pub AreWords : ℕ → List ℕ → Result (List (List ℕ)) ServeFault → Type 0
AreWords n text (Ok words) = (words ≡ words_of text) × (is_utf8 text ≡ true)
AreWords n text (Err a_fault.OutOfMemory) = is_utf8 text ≡ true
AreWords n text (Err (a_fault.ServerText m)) = (m ≡ n) × (is_utf8 text ≡ false)
AreWords n text (Err fault) = ⊥
