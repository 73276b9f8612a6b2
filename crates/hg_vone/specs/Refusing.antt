-- When a fault is answered.
use Rattle.std.specs.Prelude.{◌≡◌, Result, Err}
use Rattle.hg_vone.specs.declared.fault.VoneFault.{VoneFault}
use Rattle.hg_vone.specs.declared.fault.VoneFault.TheVariants as a_fault

-- a fault is the first of a reading, or there is no memory; that a file is too large is never answered
abbrev pub Refuses : {T : Type 0} → Result T VoneFault → VoneFault → Type 0
Refuses read a_fault.OutOfMemory = Unit {0}
Refuses read (a_fault.V1TooLarge size) = ⊥
Refuses read fault = read ≡ Err fault
