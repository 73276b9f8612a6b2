-- What a server does from its first byte to its last.
use Rattle.std.specs.Prelude.{ℕ, ◌≡◌, ◌+◌, ◌≤◌, List, [], ◌∷◌, ◌++◌, length, Option, Some, Result, Ok, Err}
use Rattle.std.specs.List.{flat_map}
use Rattle.hg_base.specs.Runs.{RunsEach}
use Rattle.hg_stream.specs.Stream.{Grown, GrownByFront}
use Rattle.hg_server.specs.Protocol.{IsFit, answer, hello, request, words_of}
use Rattle.hg_server.specs.Replies.{Step}
use Rattle.hg_server.specs.Requests.{IsAtEnd, Says, Took, refusal, room}
use Rattle.hg_server.specs.declared.fault.ServeFault.{ServeFault}
use Rattle.hg_server.specs.declared.fault.ServeFault.TheVariants as a_fault

-- a request that was run: the bytes of its words, what its command printed and told on the error stream, and its status
pub record Exchange : Type 0 where
  pub text : List ℕ
  pub out : List ℕ
  pub err : List ℕ
  pub status : ℕ

-- the bytes of requests, one behind another
abbrev pub asked : List Exchange → List ℕ
asked exchanges = flat_map (λ e. request e.text) exchanges

-- the bytes of their answers
abbrev pub answered : List Exchange → List ℕ
answered exchanges = flat_map (λ e. answer e.out e.err e.status) exchanges

-- a request was fit to be run, and it was run by that step
pub record IsRun {R : Type 0} (step : Step R) (e : Exchange) (before after : R) : Type 0 where
  pub fit : IsFit e.text
  pub ran : step before (words_of e.text) e.out e.err e.status after

-- the sink failed while it took the hello, before any request was read, or while it took the answer to the last one: all before that was put whole
abbrev pub IsCutOff : List Exchange → Option (List ℕ) → Option (List ℕ) → Type 0
IsCutOff [] old new = GrownByFront old new hello
IsCutOff (e ∷ exchanges) old new =
    (front : List ℕ) × (rest : List ℕ) × (earlier : List Exchange) × (last : Exchange)
    × (e ∷ exchanges ≡ earlier ++ last ∷ []) × (answer last.out last.err last.status ≡ front ++ rest) × Grown old new (hello ++ answered earlier ++ front)

-- what was put: the hello and each answer, in order, whole unless the sink failed
abbrev pub Puts : List Exchange → Option (List ℕ) → Option (List ℕ) → Result ℕ ServeFault → Type 0
Puts exchanges old new (Err a_fault.OutFailed) = IsCutOff exchanges old new
Puts exchanges old new result = Grown old new (hello ++ answered exchanges)

-- how it ended, of the bytes that were taken behind the requests that were run, and of what the source has left: at the end of the input between two
-- requests, by the fault of the next one, or where the sink failed, before any more was taken
abbrev pub Ends : ℕ → List ℕ → Option (List ℕ) → Result ℕ ServeFault → Type 0
Ends served part left (Ok n) = (n ≡ served) × (part ≡ []) × IsAtEnd left
Ends served part left (Err a_fault.OutFailed) = part ≡ []
Ends served part left (Err fault) = Says (served + 1) part left (Err fault)

-- where the chain of runs ends: at the runner that is left, unless the next request was there and its run lacked memory
abbrev pub IsLeft : {R : Type 0} → ℕ → List ℕ → R → R → Result ℕ ServeFault → Type 0
IsLeft n part reached after (Err a_fault.OutOfMemory) = refusal n part ≡ Some (a_fault.ServerShort n) → after ≡ reached
IsLeft n part reached after result = after ≡ reached

-- a server ran: which requests were run, one after another, by steps of the runner; what was taken for them and behind them; and what was put
pub record Serves {R : Type 0} (step : Step R) (from to : Option (List ℕ)) (old new : Option (List ℕ)) (before after : R) (result : Result ℕ ServeFault) : Type 0 where
  pub exchanges : List Exchange
  pub reached : R
  pub part : List ℕ
  pub runs : RunsEach (IsRun step) exchanges before reached
  pub left : IsLeft (length exchanges + 1) part reached after result
  pub few : length exchanges ≤ 4294967296
  pub took : Took from to (asked exchanges ++ part)
  pub within : length part ≤ room part
  pub puts : Puts exchanges old new result
  pub ends : Ends (length exchanges) part to result
