-- What is put into a sink for a request.
use Rattle.std.specs.Prelude.{ℕ, ◌≡◌, List, Option, Result, Ok, Err}
use Rattle.hg_stream.specs.Stream.{Grown, GrownByFront}
use Rattle.hg_server.specs.Protocol.{answer}
use Rattle.hg_server.specs.declared.fault.ServeFault.{ServeFault}
use Rattle.hg_server.specs.declared.fault.ServeFault.TheVariants as a_fault

-- what a run of some words may be: the runner before, the words, what was printed, what was told on the error stream, the status, and the runner behind it
abbrev pub Step : Type 0 → Type 1
Step R = R → List (List ℕ) → List ℕ → List ℕ → ℕ → R → Type 0

-- words were run, and bytes were put that are the answer, or a front of it
pub record Replies {R : Type 0} (step : Step R) (words : List (List ℕ)) (before after : R) (Puts : List ℕ → Type 0) : Type 0 where
  pub out : List ℕ
  pub err : List ℕ
  pub status : ℕ
  pub run : step before words out err status after
  pub puts : Puts (answer out err status)

-- what is said of a request whose words are known: it was run and answered; or run, and the sink failed in its answer; or the run lacked memory
abbrev pub Responds : {R : Type 0} → Step R → List (List ℕ) → R → R → Option (List ℕ) → Option (List ℕ) → Result (Unit {0}) ServeFault → Type 0
Responds step words before after old new (Ok done) = Replies step words before after (Grown old new)
Responds step words before after old new (Err a_fault.OutFailed) = Replies step words before after (GrownByFront old new)
Responds step words before after old new (Err a_fault.OutOfMemory) = new ≡ old
Responds step words before after old new (Err fault) = ⊥
