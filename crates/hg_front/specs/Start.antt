-- Whether a command begins where it is started.
use Rattle.std.specs.Prelude.{ℕ, ◌≡◌, Bool, true, false, if◌then◌else◌, List, [], Option, Some, None, codes, option_map, string_bytes}
use Rattle.hg_report.specs.Fault.{line_of}
use Rattle.hg_report.specs.declared.fault.Fault.TheVariants as a_fault
use Rattle.hg_front.specs.Further.{ArePut, IsQuiet, Says, TellsFault}
use Rattle.hg_front.specs.Guard.{Reason, refusal}
use Rattle.hg_front.specs.Placed.{changes, files}
use Rattle.hg_front.specs.Refusing.{TellsRefusal}
use Rattle.hg_front.specs.declared.guarding.Why.TheVariants as why
use Rattle.hg_front.specs.declared.placing.Placed.{Placed}
use Rattle.hg_front.specs.declared.reading.Requires.{Requires}
use Rattle.hg_front.specs.declared.reading.Unreadable.{Unreadable}
use Rattle.hg_front.specs.declared.reading.Unreadable.TheVariants as an_unreadable
use Rattle.hg_front.specs.declared.start.Here.{Here}
use Rattle.hg_front.specs.declared.start.Here.TheVariants as a_here

-- outside of each repository
abbrev pub outside : Here
outside = a_here.Outside

-- in one that requires this
abbrev pub inside : Requires → Here
inside requires = a_here.Inside requires

abbrev pub is_outside : Here → Bool
is_outside a_here.Outside = true
is_outside (a_here.Inside requires) = false
is_outside (a_here.Unread unreadable) = false

-- why a command is refused there: outside of a repository for what it changes, in one by the guard
abbrev pub refusal_at : Here → Placed → Option Reason
refusal_at a_here.Outside placed = if changes placed then Some (why.NoRepository, []) else None
refusal_at (a_here.Inside requires) placed = refusal (option_map string_bytes requires.own) (option_map string_bytes requires.store) (changes placed) (files placed)
refusal_at (a_here.Unread unreadable) placed = None

-- what is said before it is run: outside of a repository that there is none; where it can't be told what one requires, no command is
abbrev pub SaysFirst : Here → Option (List ℕ) → Option (List ℕ) → ℕ → ℕ → Type 0
SaysFirst a_here.Outside old new before after = Says old new before after (codes "no .hg here or above")
SaysFirst (a_here.Inside requires) old new before after = IsQuiet old new before after
SaysFirst (a_here.Unread unreadable) old new before after = ⊥

-- a command begins there: nothing refuses it
pub record BeginsAt (here : Here) (placed : Placed) (old new : Option (List ℕ)) (before after : ℕ) : Type 0 where
  pub free : refusal_at here placed ≡ None
  pub said : SaysFirst here old new before after

-- it was told for which reason a command is refused
abbrev pub TellsReason : Option Reason → Option (List ℕ) → Option (List ℕ) → ℕ → ℕ → Type 0
TellsReason None old new before after = ⊥
TellsReason (Some reason) old new before after = TellsRefusal old new before after reason

-- it was told why it can't be told what the repository requires
abbrev pub TellsUnread : Unreadable → Option (List ℕ) → Option (List ℕ) → ℕ → ℕ → Type 0
TellsUnread an_unreadable.OutOfMemory old new before after = ArePut old new before after (line_of a_fault.OutOfMemory)
TellsUnread (an_unreadable.Named text) old new before after = TellsFault old new before after a_fault.ShelfFailed (string_bytes text)

-- a command doesn't begin there, which was told
abbrev pub IsStopped : Here → Placed → Option (List ℕ) → Option (List ℕ) → ℕ → ℕ → Type 0
IsStopped a_here.Outside placed old new before after = TellsReason (refusal_at outside placed) old new before after
IsStopped (a_here.Inside requires) placed old new before after = TellsReason (refusal_at (inside requires) placed) old new before after
IsStopped (a_here.Unread unreadable) placed old new before after = TellsUnread unreadable old new before after
