-- What a load answers is of a docket that was read whole.
use Rattle.std.specs.Prelude.{ℕ, ◌≡◌, ◌≤◌, List, length, None}
use Rattle.hg_docket.specs.Docket.{docket_of, docket_refusal}

-- a docket of at most 512 bytes that isn't refused, which is what it shows, and no more bytes of its data file than it uses
pub record IsWhole (docket shown nodes : List ℕ) : Type 0 where
  pub same : shown ≡ docket
  pub few : length shown ≤ 512
  pub sound : docket_refusal shown ≡ None
  pub most : length nodes ≤ (docket_of shown).used
