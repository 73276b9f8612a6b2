-- What is counted where regexps are compiled.
use Rattle.std.specs.Prelude.{ℕ, ◌≡◌, ◌≤◌, Result, Ok, Err}
use Rattle.hg_base.specs.Fault.{Rose}
use Rattle.hg_ignore.specs.declared.regexps.RegexpFault.{RegexpFault}
use Rattle.hg_ignore.specs.declared.regexps.RegexpFault.TheVariants as a_fault

-- the count rose
pub record CountsOne (before now : ℕ) (fault : RegexpFault) : Type 0 where
  pub fault_is : fault ≡ a_fault.TooBig
  pub later : before ≤ now
  pub rose : Rose before now

-- the count of regexps that were too big rises where one is answered to be that, and stands still at any other answer
abbrev pub Counts : {T : Type 0} → ℕ → ℕ → Result T RegexpFault → Type 0
Counts before now (Ok x) = now ≡ before
Counts before now (Err a_fault.TooBig) = (before ≤ now) × Rose before now
Counts before now (Err fault) = now ≡ before
