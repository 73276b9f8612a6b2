-- A stream held in memory.
use Rattle.std.specs.Prelude.{ℕ, List}
use Rattle.hg_base.specs.Calls.{Counted, unmade}

-- the bytes that were put into a sink, or those that are left in a source; how many go at each call at most; and the calls
pub record Memory : Type 0 where
  pub bytes : List ℕ
  pub most : ℕ
  pub calls : Counted

-- a stream of which no call was made yet, and none is to fail
abbrev pub fresh : List ℕ → ℕ → Memory
fresh bytes most = record { bytes = bytes; most = most; calls = unmade }
