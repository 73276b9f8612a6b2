-- When an answer says that a device failed.
use Rattle.std.specs.Prelude.{ℕ, ◌≡◌, Result, Err}
use Rattle.hg_base.specs.Fault.{Rose}
use Rattle.hg_server.specs.declared.fault.ServeFault.{ServeFault}

-- a device's count of failures rose where the answer is the fault of its own, and stands as it stood where it isn't
pub record FailsAs {T : Type 0} (before now : ℕ) (result : Result T ServeFault) (own : ServeFault) : Type 0 where
  pub rose : result ≡ Err own → Rose before now
  pub quiet : (result ≡ Err own → ⊥) → now ≡ before
