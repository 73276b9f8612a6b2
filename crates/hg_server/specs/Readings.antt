-- That a text of requests has one reading, and that what a client writes is read.
use Rattle.std.specs.Prelude.{ℕ, ◌≡◌, ◌+◌, ◌≤◌, ◌<◌, List, [], ◌∷◌, ◌++◌, length, Option, Some, None}
use Rattle.std.specs.List.{flat_map}
use Rattle.hg_server.specs.Protocol.{IsFit, request}
use Rattle.hg_server.specs.Requests.{refusal, text_in}
use Rattle.hg_server.specs.declared.fault.ServeFault.{ServeFault}
use Rattle.hg_server.specs.declared.fault.ServeFault.TheVariants as a_fault

-- a request that a client writes isn't refused, whatever stands behind it, and has the words that were written
abbrev pub IsTaken : Type 0
IsTaken = (n : ℕ) (text more : List ℕ) → n ≤ 4294967296 → IsFit text → (refusal n (request text ++ more) ≡ None) × (text_in (request text ++ more) ≡ text)

-- what such a request begins with is no other fault than that nothing came behind it
abbrev pub IsAwaited : Type 0
IsAwaited =
    (n : ℕ) (text front back : List ℕ) → n ≤ 4294967296 → IsFit text → request text ≡ front ++ back → 0 < length back → refusal n front ≡ Some (a_fault.ServerShort n)

-- all these are fit to be the words of requests
abbrev pub AreFit : List (List ℕ) → Type 0
AreFit [] = Unit {0}
AreFit (text ∷ texts) = IsFit text × AreFit texts

-- what stands behind the last request that is read, where the next one has this number: nothing, or what is refused
abbrev pub IsRest : ℕ → List ℕ → Option ServeFault → Type 0
IsRest n rest None = rest ≡ []
IsRest n rest (Some fault) = (0 < length rest) × (refusal n rest ≡ Some fault)

-- a reading of a text whose first request has this number: its requests, by the bytes of their words, and why it ends before the text does, if it does
pub record IsReading (n : ℕ) (text : List ℕ) (texts : List (List ℕ)) (fault : Option ServeFault) : Type 0 where
  pub rest : List ℕ
  pub whole : text ≡ flat_map request texts ++ rest
  pub fit : AreFit texts
  pub few : n + length texts ≤ 4294967297
  pub ends : IsRest (n + length texts) rest fault

-- a text has one reading
abbrev pub HasOneReading : Type 0
HasOneReading =
    (n : ℕ) (text : List ℕ) (first second : List (List ℕ)) (f g : Option ServeFault) → IsReading n text first f → IsReading n text second g → (first ≡ second) × (f ≡ g)
