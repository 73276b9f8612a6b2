-- What goes where several entries are dropped, one after the other.
use Rattle.std.specs.Prelude.{ℕ, ◌≡◌, Bool, true, false, not, ◌&&◌, ◌||◌, ◌⊎◌, if◌then◌else◌, List, Option, Some, None, is_some}
use Rattle.hg_base.specs.PathText.{parent_of}
use Rattle.hg_base.specs.Within.{is_above, is_within}
use Rattle.hg_entry.specs.Entry.{EntryData}
use Rattle.hg_entry.specs.Table.{Table}
use Rattle.hg_mixed.specs.Drop.{PlacesDrop}
use Rattle.hg_nodes.specs.Drop.{IsPruned, after_clear}
use Rattle.hg_mixed.specs.Edits.{EndsAbove}
use Rattle.hg_mixed.specs.Held.{Held, is_lent, source_at, table, text_at}
use Rattle.hg_ops.specs.Setting.{Wanted}

-- a path lost its entry
pub record DropsOne (path : List ℕ) (old new : Held) : Type 0 where
  pub some : is_some ((table old).entries path) ≡ true
  pub pruned : IsPruned path (after_clear path (table old)) (table new)
  pub changed : new.changed ≡ true
  pub lent : EndsAbove path old new
  pub places : PlacesDrop path old new

-- a path lost its entry where none is wanted, and wasn't touched where it has none or one is wanted
abbrev pub Drops : List ℕ → Option EntryData → Held → Held → Type 0
Drops path wanted old new =
    ((new ≡ old) × (((table old).entries path ≡ None) ⊎ (is_some wanted ≡ true))) ⊎ (DropsOne path old new × (wanted ≡ None))

-- a path is on the way to one that is lost
abbrev pub LeadsTo : (List ℕ → Bool) → List ℕ → Type 0
LeadsTo lost at = (path : List ℕ) × (lost path ≡ true) × (is_within at path ≡ true)

-- a node goes with what is lost: it is on the way to it, and so is each node at or below it, and none of these has an entry that isn't lost
pub record GoesWith (lost : List ℕ → Bool) (t : Table) (at : List ℕ) : Type 0 where
  pub way : LeadsTo lost at
  pub alone : (other : List ℕ) → is_within at other ≡ true → t.nodes other ≡ true → LeadsTo lost other × ((lost other ≡ true) ⊎ (t.entries other ≡ None))

-- which lists and texts are lent still: no list of a directory above what is lost, and no text of a node that is gone or of a source that is lost
pub record IsLendingLess (lost gone : List ℕ → Bool) (old now : Held) : Type 0 where
  pub kept : (dir : Option (List ℕ)) → ((at : List ℕ) → lost at ≡ true → is_above dir at ≡ false) → is_lent now dir ≡ is_lent old dir
  pub ended : (dir : Option (List ℕ)) (at : List ℕ) → lost at ≡ true → is_above dir at ≡ true → is_lent now dir ≡ false
  pub over : (dir : Option (List ℕ)) → is_lent old dir ≡ false → is_lent now dir ≡ false
  pub texts : (at : List ℕ) → (table now).nodes at ≡ true → text_at now at ≡ text_at old at
  pub texts_gone : (at : List ℕ) → gone at ≡ true → text_at now at ≡ None
  pub sources : (at : List ℕ) → source_at now at ≡ (if lost at then None else source_at old at)

-- of some paths those were dropped whose entry isn't wanted, with what goes with them
pub record AreDropping (want : Wanted) (old now : Held) (done : List ℕ → Bool) : Type 0 where
  pub lost : List ℕ → Bool
  pub unwanted : (at : List ℕ) → lost at ≡ true → (is_some ((table old).entries at) ≡ true) × (want at ((table old).entries at) ≡ None)
  pub all_lost : (at : List ℕ) → done at ≡ true → is_some ((table old).entries at) ≡ true → want at ((table old).entries at) ≡ None → lost at ≡ true
  pub p1 : (table now).p1 ≡ (table old).p1
  pub p2 : (table now).p2 ≡ (table old).p2
  pub hash : (table now).hash ≡ (table old).hash
  pub entries : (at : List ℕ) → (table now).entries at ≡ (if lost at then None else (table old).entries at)
  pub sources : (at : List ℕ) → (table now).sources at ≡ (if lost at then None else (table old).sources at)
  pub gone : List ℕ → Bool
  pub stale : List ℕ → Bool
  pub goes : (at : List ℕ) → gone at ≡ true → GoesWith lost (table old) at
  pub all_go : (at : List ℕ) → GoesWith lost (table old) at → gone at ≡ true
  pub is_stale : (dir : List ℕ) → stale dir ≡ true → (at : List ℕ) × (gone at ≡ true) × (parent_of at ≡ Some dir)
  pub all_stale : (dir at : List ℕ) → gone at ≡ true → parent_of at ≡ Some dir → stale dir ≡ true
  pub nodes : (at : List ℕ) → (table now).nodes at ≡ ((table old).nodes at && not (gone at))
  pub caches : (at : List ℕ) → (table now).caches at ≡ (if gone at || stale at then None else (table old).caches at)
  pub marks : (((at : List ℕ) → lost at ≡ false) × (now.changed ≡ old.changed)) ⊎ ((now.changed ≡ true) × ((path : List ℕ) × (lost path ≡ true)))
  pub lends : IsLendingLess lost gone old now
