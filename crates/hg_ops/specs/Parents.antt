-- What a table says of new parents: of each path whether the first has it, and whether the second has another file there.
use Rattle.std.specs.Prelude.{ℕ, ◌≡◌, Bool, true, false, not, ◌&&◌, ◌||◌, if◌then◌else◌, ◌⊎◌, List, Option, Some, None, is_some}
use Rattle.std.specs.Map.{lookup}
use Rattle.std.specs.Str.{bytes_eq}
use Rattle.hg_base.specs.PathText.{parent_of}
use Rattle.hg_base.specs.Within.{is_above, is_within}
use Rattle.hg_entry.specs.Entry.{EntryData}
use Rattle.hg_entry.specs.Table.{Table}
use Rattle.hg_manifest.specs.Plain.{is_null}
use Rattle.hg_manifest.specs.Rows.{Rows}
use Rattle.hg_manifest.specs.declared.row.FileRow.{FileRow}
use Rattle.hg_nodes.specs.Clash.{is_tracked_entry}
use Rattle.hg_mixed.specs.Held.{Held, is_lent, source_at, table, text_at}

-- what a manifest says of a path
abbrev pub row_at : Rows → List ℕ → Option FileRow
row_at rows path = lookup (bytes_eq path) rows

abbrev pub equal_bools : Bool → Bool → Bool
equal_bools true b = b
equal_bools false b = not b

-- two rows name the same contents with the same flag
abbrev pub is_same_file : FileRow → FileRow → Bool
is_same_file a b = bytes_eq a.id.0 b.id.0 && equal_bools a.exec b.exec && equal_bools a.link b.link

-- the second parent has a file that the first hasn't
abbrev pub is_other_file : Option FileRow → Option FileRow → Bool
is_other_file first None = false
is_other_file None (Some second) = true
is_other_file (Some first) (Some second) = not (is_same_file first second)

-- a path is marked for the second parent: that isn't null, and has a file there that the first hasn't
abbrev pub is_marked : List ℕ → Rows → Rows → List ℕ → Bool
is_marked p2 m1 m2 path = not (is_null p2) && is_other_file (row_at m1 path) (row_at m2 path)

-- the four bits that are carried
abbrev pub fallback_in : Option EntryData → ℕ
fallback_in None = 0
fallback_in (Some entry) = entry.fallback

-- the entry of a path that the parents have so, none where it then says nothing: it stays tracked, and nothing is known of its file
abbrev pub entry_of_parents : Bool → Bool → Option EntryData → Option EntryData
entry_of_parents first second was =
    if is_tracked_entry was || first || second
    then Some (
    record {
      w = is_tracked_entry was;
      p1 = first;
      p2 = second;
      exec = false;
      link = false;
      size = None;
      stamp = None;
      modified = false;
      fallback = fallback_in was;
    }
    )
    else None

-- the entry of a path by the manifests of both parents
abbrev pub entry_by : Bool → Rows → Rows → List ℕ → Option EntryData → Option EntryData
entry_by merged m1 m2 path was =
    entry_of_parents (is_some (row_at m1 path)) (merged && is_other_file (row_at m1 path) (row_at m2 path)) was

-- an entry at a path, or below it, is gone
abbrev pub LostWithin : Table → Table → List ℕ → Type 0
LostWithin old new at = (path : List ℕ) × (is_some (old.entries path) ≡ true) × (new.entries path ≡ None) × (is_within at path ≡ true)

-- a node goes: an entry at it or below it is gone, so it is with each node at it or below it, and no entry is left there
pub record IsEmptied (old new : Table) (at : List ℕ) : Type 0 where
  pub lost : LostWithin old new at
  pub alone : (other : List ℕ) → is_within at other ≡ true → old.nodes other ≡ true → LostWithin old new other
  pub empty : (other : List ℕ) → is_within at other ≡ true → new.entries other ≡ None

-- a table with these parents, by their manifests. The two tests are witnesses of which nodes are gone, and of which directories had one of these
-- right in them, and so have no cache; the conditions leave no choice of them
pub record HasParents (p1 p2 : List ℕ) (m1 m2 : Rows) (old new : Table) : Type 0 where
  pub p1_is : new.p1 ≡ p1
  pub p2_is : new.p2 ≡ p2
  pub hash : new.hash ≡ old.hash
  pub entries : (at : List ℕ) → new.entries at ≡ entry_by (not (is_null p2)) m1 m2 at (old.entries at)
  pub sources : (at : List ℕ) → new.sources at ≡ None
  pub gone : List ℕ → Bool
  pub stale : List ℕ → Bool
  pub goes : (at : List ℕ) → gone at ≡ true → IsEmptied old new at
  pub all_go : (at : List ℕ) → IsEmptied old new at → gone at ≡ true
  pub is_stale : (dir : List ℕ) → stale dir ≡ true → (at : List ℕ) × (gone at ≡ true) × (parent_of at ≡ Some dir)
  pub all_stale : (dir at : List ℕ) → gone at ≡ true → parent_of at ≡ Some dir → stale dir ≡ true
  pub nodes_left : (at : List ℕ) → old.nodes at ≡ true → new.nodes at ≡ not (gone at)
  pub nodes_made : (at : List ℕ) → new.nodes at ≡ true → (old.nodes at ≡ true) ⊎ ((path : List ℕ) × (is_some (new.entries path) ≡ true) × (is_within at path ≡ true))
  pub nodes_held : (at path : List ℕ) → is_some (new.entries path) ≡ true → is_within at path ≡ true → new.nodes at ≡ true
  pub caches : (at : List ℕ) → new.caches at ≡ (if gone at || stale at || is_some (new.entries at) then None else old.caches at)

-- which lists are lent still: none of a directory above a path whose entry or source is another, and all others
pub record LendsParents (old new : Held) : Type 0 where
  pub kept : (dir : Option (List ℕ))
      → ((at : List ℕ) → is_above dir at ≡ true → ((table new).entries at ≡ (table old).entries at) × ((table new).sources at ≡ (table old).sources at))
      → is_lent new dir ≡ is_lent old dir
  pub ended : (dir : Option (List ℕ)) (at : List ℕ) → is_above dir at ≡ true
      → ((table new).entries at ≡ (table old).entries at → (table new).sources at ≡ (table old).sources at → ⊥)
      → is_lent new dir ≡ false

-- the texts that are lent are where they were, but for those of nodes that are gone and of sources that are lost
pub record PlacesParents (old new : Held) : Type 0 where
  pub texts : (at : List ℕ) → (table new).nodes at ≡ true → text_at new at ≡ text_at old at
  pub texts_gone : (at : List ℕ) → (table old).nodes at ≡ true → (table new).nodes at ≡ false → text_at new at ≡ None
  pub sources : (at : List ℕ) → (table old).sources at ≡ None → ((table new).entries at ≡ None → (table old).entries at ≡ None) → source_at new at ≡ source_at old at
  pub sources_lost : (at : List ℕ) → ((table old).sources at ≡ None → ⊥) → source_at new at ≡ None
  pub sources_gone : (at : List ℕ) → is_some ((table old).entries at) ≡ true → (table new).entries at ≡ None → source_at new at ≡ None
