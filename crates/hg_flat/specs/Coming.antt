-- What may come to the plain store while a status runs.
use Rattle.std.specs.Prelude.{ℕ, zero, suc, true, false, [], Some, None}
use Rattle.hg_shelf.specs.History.{Files, History, now, others}
use Rattle.hg_shelf.specs.Polite.{KeepsPlain, KeepsThere, StaysPlain}

-- a worked case: at first no file is there, and then each is, with no bytes in it
abbrev pub files_at : ℕ → Files
files_at zero name = None
files_at (suc k) name = Some []

-- others put them there by one step
abbrev pub history : History
history = record { ours = false; told = true; last = 1; at = λ k. record { files = files_at k }; who = λ k. others; asked = []; locks = [] }

-- they keep what is there, so the plain store is that of the end wherever it is there; and it isn't what it was
pub record IsWorked : Type 0 where
  pub keeps : KeepsThere history 0
  pub stays : StaysPlain (now history).files history 0
  pub comes : KeepsPlain history 0 → ⊥
