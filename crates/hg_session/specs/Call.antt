-- What happened in a call: each device before and after it.
use Rattle.std.specs.Prelude.{ℕ, ◌≡◌, ◌+◌, ◌≤◌, ◌-◌, ◌^◌, min, List, Option}
use Rattle.hg_base.specs.Fault.{IsSteady, Rose}
use Rattle.hg_shelf.specs.History as shelf
use Rattle.hg_shelf.specs.Images.{Course, Images, course}
use Rattle.hg_tree.specs.History as tree
use Rattle.hg_words.specs.declared.given.Command.{Command}

-- a device before and after a call: what it tells, and how often it failed
pub record Watched {ℓ} (Told : Type ℓ) : Type ℓ where
  pub old : Told
  pub new : Told
  pub before : ℕ
  pub after : ℕ

-- it is so by what it tells and how often it failed
abbrev pub watched {ℓ} : {Device : Type 0} {Told : Type ℓ} → (Device → Told) → (Device → ℕ) → Device → Device → Watched Told
watched told faults old new = record { old = told old; new = told new; before = faults old; after = faults new }

-- its count of failures rose
abbrev pub Fails {ℓ} : {Told : Type ℓ} → Watched Told → Type 0
Fails device = Rose device.before device.after

-- it rose at least twice, or stands at its end
abbrev pub FailsTwice {ℓ} : {Told : Type ℓ} → Watched Told → Type 0
FailsTwice device = min (device.before + 2) (2 ^ 64 - 1) ≤ device.after

-- it never failed
abbrev pub Serves {ℓ} : {Told : Type ℓ} → Watched Told → Type 0
Serves device = IsSteady device.before device.after

-- a tree wasn't asked for anything, and is as it was
pub record IsLeftAlone (copy : Watched tree.History) : Type 0 where
  pub history : copy.new ≡ copy.old
  pub count : copy.after ≡ copy.before

-- a count before and after a call
pub record Count : Type 0 where
  pub before : ℕ
  pub after : ℕ

-- it is so by how often something happened
abbrev pub counted : {Device : Type 0} → (Device → ℕ) → Device → Device → Count
counted count old new = record { before = count old; after = count new }

-- what is looked at: the working copy, and the files below `.hg`; and how many regexps were too big
pub record Looked : Type 0 where
  pub tree : Watched tree.History
  pub shelf : Watched shelf.History
  pub oversize : Count

-- the files below `.hg` with what a crash may leave of them, before and after a call
pub record Saved : Type 1 where
  pub old : Course
  pub new : Course

-- they are so by what a shelf tells and what a crash may leave of it
abbrev pub saved_by : {Device : Type 0} → (Device → shelf.History) → (Device → ℕ → Images) → Device → Device → Saved
saved_by history images old new = record { old = course (history old) (images old); new = course (history new) (images new) }

-- a sink: the bytes that were put into it, where it tells them
abbrev pub Sink : Type 0
Sink = Watched (Option (List ℕ))

-- a call: its command, what is looked at, what is saved, how many locks were refused, standard output and the error stream
pub record Call : Type 1 where
  pub command : Command
  pub looked : Looked
  pub saved : Saved
  pub locks : Count
  pub out : Sink
  pub err : Sink
