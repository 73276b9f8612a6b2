-- The course of new parents, path by path: all that stays is set first, and then the rest is dropped.
use Rattle.std.specs.Prelude.{ℕ, false, ◌≡◌, Bool, true, ◌⊎◌, List, take, Option, Some, None, is_some}
use Rattle.std.specs.List.{list_any}
use Rattle.std.specs.Map.{update}
use Rattle.std.specs.Str.{bytes_eq}
use Rattle.hg_base.specs.Within.{is_above, is_within}
use Rattle.hg_entry.specs.Entry.{EntryData}
use Rattle.hg_entry.specs.Table.{Table}
use Rattle.hg_mixed.specs.Edits.{ArePlacedAsBefore, EndsAbove}
use Rattle.hg_nodes.specs.Edits.{IsSame, after_copy, after_set}
use Rattle.hg_mixed.specs.Held.{Held, is_lent, source_at, table, text_at}

-- a path is among some
abbrev pub is_among : List (List ℕ) → List ℕ → Bool
is_among paths at = list_any (bytes_eq at) paths

-- a path is among the first so many
abbrev pub is_among_first : ℕ → List (List ℕ) → List ℕ → Bool
is_among_first i paths at = list_any (bytes_eq at) (take i paths)

-- each path with an entry is among some
abbrev pub AreAll : Table → List (List ℕ) → Type 0
AreAll t paths = (at : List ℕ) → is_some (t.entries at) ≡ true → is_among paths at ≡ true

-- a path got another entry
pub record SetsOther (path : List ℕ) (entry : EntryData) (old new : Held) : Type 0 where
  pub differs : (table old).entries path ≡ Some entry → ⊥
  pub made : IsSame (table new) (after_set path entry (table old))
  pub changed : new.changed ≡ true
  pub lent : EndsAbove path old new
  pub places : ArePlacedAsBefore old new

-- a path got an entry, or had it and wasn't touched
abbrev pub SetsTo : List ℕ → EntryData → Held → Held → Type 0
SetsTo path entry old new = ((new ≡ old) × ((table old).entries path ≡ Some entry)) ⊎ SetsOther path entry old new

-- a path lost its copy source
pub record LosesSource (path : List ℕ) (old new : Held) : Type 0 where
  pub differs : (table old).sources path ≡ None → ⊥
  pub made : IsSame (table new) (after_copy path None (table old))
  pub changed : new.changed ≡ true
  pub lent : EndsAbove path old new
  pub texts : (at : List ℕ) → text_at new at ≡ text_at old at
  pub places : (at : List ℕ) → source_at new at ≡ update bytes_eq (source_at old) path None at

-- a path has no copy source, and wasn't touched where it had none
abbrev pub ClearsSource : List ℕ → Held → Held → Type 0
ClearsSource path old new = ((new ≡ old) × ((table old).sources path ≡ None)) ⊎ LosesSource path old new

-- a path got the entry that is wanted, where one is, and lost its copy source
abbrev pub Settles : List ℕ → Option EntryData → Held → Held → Type 0
Settles path None old new = new ≡ old
Settles path (Some entry) old new = (mid : Held) × SetsTo path entry old mid × ClearsSource path mid new

-- what is wanted of each path, by its entry
abbrev pub Wanted : Type 0
Wanted = List ℕ → Option EntryData → Option EntryData

-- what became of a path's entry: it is as it was, or as it is wanted
abbrev pub IsSetOrLeft : Wanted → Table → Table → List ℕ → Type 0
IsSetOrLeft want old now at =
    ((now.entries at ≡ old.entries at) × (now.caches at ≡ old.caches at))
    ⊎ ((now.entries at ≡ want at (old.entries at)) × (is_some (want at (old.entries at)) ≡ true))

-- a path that stays is as it is wanted
abbrev pub IsSettled : Wanted → Table → Table → List ℕ → Type 0
IsSettled want old now at = is_some (want at (old.entries at)) ≡ true → (now.entries at ≡ want at (old.entries at)) × (now.sources at ≡ None)

-- nothing is wanted but what was
abbrev pub IsWantedAsIs : Wanted → Table → Type 0
IsWantedAsIs want old = (at : List ℕ) → (want at (old.entries at) ≡ old.entries at) × (old.sources at ≡ None)

-- nothing was touched, or something that is wanted otherwise
abbrev pub MarksSetting : Wanted → Held → Held → Type 0
MarksSetting want old now = (IsSame (table now) (table old) × (now.changed ≡ old.changed)) ⊎ ((now.changed ≡ true) × (IsWantedAsIs want (table old) → ⊥))

-- which lists and texts are lent still, so far: no list of a directory above a path that was touched, and all others
pub record IsLending (want : Wanted) (old now : Held) : Type 0 where
  pub kept : (dir : Option (List ℕ))
      → ((at : List ℕ) → is_above dir at ≡ true → (want at ((table old).entries at) ≡ (table old).entries at) × ((table old).sources at ≡ None))
      → is_lent now dir ≡ is_lent old dir
  pub ended : (dir : Option (List ℕ)) (at : List ℕ) → is_above dir at ≡ true
      → ((table now).entries at ≡ (table old).entries at → (table now).sources at ≡ (table old).sources at → ⊥)
      → is_lent now dir ≡ false
  pub texts : (at : List ℕ) → text_at now at ≡ text_at old at
  pub source_kept : (at : List ℕ) → (table old).sources at ≡ None → source_at now at ≡ source_at old at
  pub source_lost : (at : List ℕ) → ((table now).sources at ≡ (table old).sources at → ⊥) → source_at now at ≡ None

-- some paths that stay are as they are wanted, and each other is so or as it was
pub record AreSetting (want : Wanted) (old now : Held) (done : List ℕ → Bool) : Type 0 where
  pub p1 : (table now).p1 ≡ (table old).p1
  pub p2 : (table now).p2 ≡ (table old).p2
  pub hash : (table now).hash ≡ (table old).hash
  pub entries : (at : List ℕ) → IsSetOrLeft want (table old) (table now) at
  pub sources : (at : List ℕ) → ((table now).sources at ≡ (table old).sources at) ⊎ (((table now).sources at ≡ None) × (is_some (want at ((table old).entries at)) ≡ true))
  pub settled : (at : List ℕ) → done at ≡ true → IsSettled want (table old) (table now) at
  pub kept : (at : List ℕ) → (table old).nodes at ≡ true → (table now).nodes at ≡ true
  pub made : (at : List ℕ) → (table now).nodes at ≡ true
      → ((table old).nodes at ≡ true) ⊎ ((path : List ℕ) × (is_some ((table now).entries path) ≡ true) × (is_within at path ≡ true))
  pub marks : MarksSetting want old now
  pub lends : IsLending want old now
