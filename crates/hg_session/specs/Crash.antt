-- What a crash may leave at each moment of a call, also where others publish before or behind its change.
use Rattle.std.proofs.Common.{inl, inr}
use Rattle.std.specs.Prelude.{ℕ, ◌≡◌, ◌⊎◌, ◌≤◌, Option, Some, None, Result, Ok, IfSome, IsSomeAnd}
use Rattle.hg_append.specs.declared.way.Way.TheVariants as a_way
use Rattle.hg_append.specs.Loss.{plan_of}
use Rattle.hg_entry.specs.Table.{Table}
use Rattle.hg_image.specs.Reading.{RecordFault}
use Rattle.hg_nodes.specs.Edits.{IsSame}
use Rattle.hg_report.specs.declared.fault.Fault.{Fault}
use Rattle.hg_save.specs.Others.{KeepData, KeepsRecords, WasPublished}
use Rattle.hg_save.specs.Record.{IsReadable, reading}
use Rattle.hg_save.specs.Saved.{IsLatest}
use Rattle.hg_save.specs.Behind.{KeepsUsed}
use Rattle.hg_session.specs.Acts.{Makes}
use Rattle.hg_session.specs.Call.{Saved}
use Rattle.hg_session.specs.Change.{IsKept, IsSafe, IsUnwritten, NoneOurs, Publishes, up_to}
use Rattle.hg_session.specs.Ways.{Stood}
use Rattle.hg_shelf.specs.History.{Files, others, us}
use Rattle.hg_shelf.specs.Images.{Scene, last_scene, scene}
use Rattle.hg_shelf.specs.Polite.{Undisturbed}

-- a crash might have left this record
abbrev pub MightBeLeft : Scene → Option (Result Table RecordFault) → Type 0
MightBeLeft s recorded = (d : Files) × s.leaves d × (recorded ≡ reading d)

-- whatever a crash leaves is a sound record
abbrev pub LeavesSound : Scene → Type 0
LeavesSound s = (c : Files) → s.leaves c → IsReadable (reading c)

-- that is what is recorded
abbrev pub IsOwnRecord : Option Table → Option (Result Table RecordFault) → Type 0
IsOwnRecord own recorded = IsSomeAnd own (λ table. recorded ≡ Some (Ok table))

-- at each moment from the call's start to its end, whatever a crash leaves records what it might have left at the start, what the call published (own), or
-- what others published since the start; it is sound where that at the start was; each step of the call keeps to how a record is published, as those
-- of others do, and keeps the bytes that dockets use, so that this can be said beside another call; and no docket that a crash might leave at the end is ahead of the one that stands, so
-- that it can be said of the next one
pub record IsCrashSafe (own : Option Table) (saved : Saved) : Type 0 where
  pub each : (k : ℕ) (c : Files) → saved.old.history.last ≤ k → k ≤ saved.new.history.last → (scene saved.new k).leaves c
      → MightBeLeft (last_scene saved.old) (reading c) ⊎ (IsOwnRecord own (reading c) ⊎ WasPublished saved.new saved.old.history.last k (reading c))
  pub sound : LeavesSound (last_scene saved.old) → (k : ℕ) → saved.old.history.last ≤ k → k ≤ saved.new.history.last → LeavesSound (scene saved.new k)
  pub orderly : KeepsRecords us saved.new saved.old.history.last
  pub keeping : KeepsUsed us saved.new.history saved.old.history.last
  pub latest : IsLatest (last_scene saved.new)

-- others keep the data that dockets name as long as the call made no step
abbrev pub KeepToFirstStep : Saved → Type 0
KeepToFirstStep saved =
    (k : ℕ) → saved.old.history.last ≤ k → k ≤ saved.new.history.last → NoneOurs saved.new.history saved.old.history.last k
    → KeepData (up_to k saved.new.history) saved.old.history.last

-- a table, where there is one, was published in the call, of what a command made
abbrev pub IsOwnOf : Makes → Saved → Option Table → Type 0
IsOwnOf Does saved own = IfSome own (λ table. (is : Publishes Does saved) × (is.is.found ≡ table))

-- a crash leaves no record but what it might have left at the start, what was published in the call of what a command made, or what others published
abbrev pub IsSafeBy : Makes → Saved → Type 0
IsSafeBy Does saved = (own : Option Table) × IsOwnOf Does saved own × IsCrashSafe own saved

-- the table that a call published, by what it wrote, where it published one
abbrev pub published_in : (Does : Makes) (saved : Saved) (fault : Option Fault) → IsSafe Does saved fault → Option Table
published_in Does saved fault (inl only) = None
published_in Does saved fault (inr (may, is)) = Some is.is.found

-- firm ground, asked only of what was appended to the data file that stood: what a crash might have left at the start is sound, and others kept what was read
-- until then, which is nothing for a command that read it while it had the lock
abbrev pub IsFirmFor : (Does : Makes) (saved : Saved) (fault : Option Fault) → IsSafe Does saved fault → Type 0
IsFirmFor Does saved fault (inl only) = Unit {0}
IsFirmFor Does saved fault (inr (may, is)) =
    plan_of is.is.held ≡ a_way.Append → LeavesSound (last_scene saved.old) × (Does.fair saved.new.history is.since ⊎ KeepToFirstStep saved)

-- however a call is seen to have written, that is safe from crashes, where others keep to how a record is published, and no docket that a crash might have left
-- at the start was ahead of the one that stood; what it appended, upon firm ground
abbrev pub IsSafeFromCrashes : Makes → Saved → Option Fault → Type 0
IsSafeFromCrashes Does saved fault =
    Undisturbed saved.old saved.new → KeepsRecords others saved.new saved.old.history.last → IsLatest (last_scene saved.old)
    → (wrote : IsSafe Does saved fault) → IsFirmFor Does saved fault wrote → IsCrashSafe (published_in Does saved fault wrote) saved

-- from a moment to the call's end, whatever a crash leaves records what was made, or what others published since
pub record Lasts (saved : Saved) (to : ℕ) (found : Table) : Type 0 where
  pub each : (k : ℕ) (c : Files) → to ≤ k → k ≤ saved.new.history.last → (scene saved.new k).leaves c → (reading c ≡ Some (Ok found)) ⊎ WasPublished saved.new to k (reading c)

-- so it does, unless nothing was to be published
abbrev pub IsLasting : (stood : Stood) (loaded made : Table) (saved : Saved) (from to : ℕ) → IsKept stood loaded made saved from to → Type 0
IsLasting stood loaded made saved from to kept = Lasts saved to kept.found ⊎ (IsSame made loaded × IsUnwritten saved.old.history saved.new.history)
