-- How a run is said: plainly, as in the contract of `run`, or with what a crash leaves of it, as in the laws over lists of calls.
use Rattle.std.specs.Prelude.{ℕ, ◌≡◌, List, Option, None}
use Rattle.hg_cli.specs.Run.{IsRun, IsStopped, made_run}
use Rattle.hg_cli.specs.Seen.{Seen}
use Rattle.hg_report.specs.declared.fault.Fault.{Fault}
use Rattle.hg_session.specs.Acts.{makes_nothing}
use Rattle.hg_session.specs.Crash.{IsSafeBy}

-- what is said of the parts of which each kind of call is made, between two states of what it works on, with a status, and a fault or none
pub record Said (D : Type 0) : Type 1 where
  -- nothing is left to run
  pub Rests : D → D → ℕ → Option Fault → Type 0
  -- one command ran, by its words
  pub Runs : List (List ℕ) → D → D → ℕ → Option Fault → Type 0
  -- this was met, and nothing was begun
  pub Stops : Fault → D → D → ℕ → Option Fault → Type 0

-- as it was run, by what is seen between two states
abbrev pub plainly : {D : Type 0} → (D → D → Seen) → Said D
plainly seen = record {
  Rests = λ old new code fault. (new ≡ old) × (code ≡ 0) × (fault ≡ None);
  Runs = λ words old new code fault. IsRun words (seen old new) code fault;
  Stops = λ met old new code fault. IsStopped met (seen old new) code fault;
}

-- the same, and that it is safe: at each moment between the two a crash leaves a record of what it might have left at the first, of the one table that was
-- published between them of what the command made, or of what others published since
abbrev pub safely : {D : Type 0} → (D → D → Seen) → Said D
safely seen = record {
  Rests = λ old new code fault. ((new ≡ old) × (code ≡ 0) × (fault ≡ None)) × IsSafeBy makes_nothing (seen old new).saved;
  Runs = λ words old new code fault. (run : IsRun words (seen old new) code fault) × IsSafeBy (made_run words (seen old new) code fault run) (seen old new).saved;
  Stops = λ met old new code fault. IsStopped met (seen old new) code fault × IsSafeBy makes_nothing (seen old new).saved;
}
