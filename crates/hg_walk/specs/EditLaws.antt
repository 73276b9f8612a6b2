-- What edits keep of a record, so that its times stay trusted.
use Rattle.std.specs.Prelude.{ℕ, ◌≡◌, List, Option, None, Some, is_some}
use Rattle.hg_compare.specs.Tracked.{ParentRow}
use Rattle.hg_entry.specs.Entry.{EntryData, StampData}
use Rattle.hg_entry.specs.Table.{Table}
use Rattle.hg_nodes.specs.Drop.{IsPruned, after_clear}
use Rattle.hg_nodes.specs.Edits.{IsSame, after_cache, after_copy, after_no_caches, after_set}
use Rattle.hg_tree.specs.History.{History}
use Rattle.hg_walk.specs.Keeping.{IsEditAt, KeepsCaches, KeepsTimes, NoneCouldVouch}
use Rattle.hg_walk.specs.Trust.{CouldVouch, IsTrusted}

-- a record whose times were all in a trusted one is trusted
abbrev pub KeptIsTrusted : Type 0
KeptIsTrusted = (rows : List ℕ → Option ParentRow) (old new : Table) (h : History) → IsTrusted rows old h → KeepsTimes old new → IsTrusted rows new h

-- under other parents no entry may vouch; the caches stay as they are
abbrev pub OthersAreTrusted : Type 0
OthersAreTrusted =
    (rows others : List ℕ → Option ParentRow) (old new : Table) (h : History) → IsTrusted rows old h → KeepsCaches old new → NoneCouldVouch new → IsTrusted others new h

abbrev pub KeepsThrough : Type 0
KeepsThrough = (a b c : Table) → KeepsTimes a b → KeepsTimes b c → KeepsTimes a c

abbrev pub SameKeepsTimes : Type 0
SameKeepsTimes = (old new : Table) → IsSame new old → KeepsTimes old new

abbrev pub EditKeepsTimes : Type 0
EditKeepsTimes = (path : List ℕ) (old new : Table) → IsEditAt path old new → KeepsTimes old new

-- an entry that is set and couldn't vouch is such an edit
abbrev pub SetIsEdit : Type 0
SetIsEdit =
    (path : List ℕ) (entry : EntryData) (t : Table) → ((stamp : StampData) → CouldVouch entry (is_some (t.sources path)) stamp → ⊥) → IsEditAt path t (after_set path entry t)

-- a copy source that is put to an entry, or taken from one that couldn't vouch without it
abbrev pub CopyIsEdit : Type 0
CopyIsEdit =
    (path : List ℕ) (source : Option (List ℕ)) (t : Table)
    → ((entry : EntryData) (stamp : StampData) → t.entries path ≡ Some entry → CouldVouch entry (is_some source) stamp → ⊥) → IsEditAt path t (after_copy path source t)

-- an entry that is dropped takes the cache of each directory that loses a node
abbrev pub DropKeepsTimes : Type 0
DropKeepsTimes = (path : List ℕ) (t left : Table) → IsPruned path (after_clear path t) left → KeepsTimes t left

-- a cache that goes, or all
abbrev pub ForgetKeepsTimes : Type 0
ForgetKeepsTimes = (dir : List ℕ) (t : Table) → KeepsTimes t (after_cache dir None t)

abbrev pub UncachedKeepsTimes : Type 0
UncachedKeepsTimes = (t : Table) → KeepsTimes t (after_no_caches t)
