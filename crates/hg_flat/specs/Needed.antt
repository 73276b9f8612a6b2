-- Which bytes of the working copy a status needs: those of a path of which neither kind, executable bit nor size decide the letter.
use Rattle.std.specs.Prelude.{ℕ, ◌≡◌, ◌⊎◌, ◌+◌, ◌*◌, ◌<◌, true, false, List, [], ◌∷◌, ◌++◌, map, replicate, Option, Some, Ok}
use Rattle.std.specs.List.{AllByRecursion, IsDistinct}
use Rattle.std.specs.Str.{bytes_eq}
use Rattle.hg_base.specs.declared.stat.Stat.{Stat}
use Rattle.hg_compare.specs.Alike.{contents_name, is_alike}
use Rattle.hg_flat.specs.Asked.{IsPatternsRead}
use Rattle.hg_flat.specs.Met.{Shows, Status, WasRead}
use Rattle.hg_flat.specs.Parent.{IsAsked, row_of}
use Rattle.hg_manifest.specs.Load.{Was}
use Rattle.hg_manifest.specs.Plain.{is_null}
use Rattle.hg_manifest.specs.Rows.{Rows}
use Rattle.hg_manifest.specs.declared.row.FileRow.{FileRow}
use Rattle.hg_shelf.specs.History as shelves
use Rattle.hg_shelf.specs.Reads.{size_of}
use Rattle.hg_tree.specs.History as trees
use Rattle.hg_tree.specs.Moment.{stat_at}
use Rattle.hg_tree.specs.declared.asked.Asked.{Asked}
use Rattle.hg_tree.specs.declared.asked.Asked.TheVariants as an_ask

-- what a look showed has a row's kind and executable bit, and at a moment of a call the row's contents had the size that it showed
pub record NeedsFile (old new : shelves.History) (row : FileRow) (before : Stat) : Type 0 where
  pub alike : is_alike row before ≡ true
  pub sized : Was old new (contents_name row.id.0) (λ file. size_of file ≡ Some before.size)

-- so it is of the row that is found of a path
abbrev pub NeedsIn : shelves.History → shelves.History → Option FileRow → Stat → Type 0
NeedsIn old new found before = (row : FileRow) × (found ≡ Some row) × NeedsFile old new row before

-- so it is of the path's row in the first parent's manifest that was read
pub record NeedsBytes (s : Status) (path : List ℕ) (before : Stat) : Type 0 where
  pub committed : is_null s.id.0 ≡ false
  pub rows : Rows
  pub read : WasRead s (Ok rows)
  pub row : FileRow
  pub is : row_of rows path ≡ Some row
  pub file : NeedsFile s.shelf_old s.shelf_new row before

-- the bytes of a path were asked for in so many pieces, no more than there are of the size that a look showed at a moment of the call; the path was compared
-- there, and the bytes were needed
pub record IsNeededRead (s : Status) (path : List ℕ) (pieces : ℕ) : Type 0 where
  pub before : Stat
  pub shown : Shows s (λ moment. IsAsked s.asks moment path × (stat_at moment path ≡ Some before))
  pub needs : NeedsBytes s path before
  pub few : 65536 * pieces < before.size + 65536

-- since a state of the tree the bytes of a path were asked for, and nothing else; if at all, they were needed
pub record ReadsPath (s : Status) (copy : trees.History) (path : List ℕ) : Type 0 where
  pub pieces : ℕ
  pub asked : s.tree_new.asked ≡ copy.asked ++ replicate pieces (an_ask.Read path)
  pub needed : (pieces ≡ 0) ⊎ IsNeededRead s path pieces

-- a path, and in how many pieces its bytes were asked for
pub record Reading : Type 0 where
  pub path : List ℕ
  pub pieces : ℕ

-- the calls that did so, one path behind another
abbrev pub reads_in : List Reading → List Asked
reads_in [] = []
reads_in (reading ∷ rest) = replicate reading.pieces (an_ask.Read reading.path) ++ reads_in rest

abbrev pub paths_in : List Reading → List (List ℕ)
paths_in readings = map (λ reading. reading.path) readings

-- the bytes of a path were needed, if they were asked for
abbrev pub IsNeededReading : Status → Reading → Type 0
IsNeededReading s reading = (reading.pieces ≡ 0) ⊎ IsNeededRead s reading.path reading.pieces

-- the bytes of these paths were asked for, one path behind another, each only where they were needed, and nothing else
pub record ReadsPaths (s : Status) (paths : List (List ℕ)) : Type 0 where
  pub readings : List Reading
  pub of : paths_in readings ≡ paths
  pub asked : s.tree_new.asked ≡ s.tree_old.asked ++ reads_in readings
  pub each : AllByRecursion (IsNeededReading s) readings

-- the bytes of some paths were asked for, those of each path once and only where they were needed, and nothing else
pub record ReadsNeeded (s : Status) : Type 0 where
  pub readings : List Reading
  pub asked : s.tree_new.asked ≡ s.tree_old.asked ++ reads_in readings
  pub each : AllByRecursion (IsNeededReading s) readings
  pub once : IsDistinct bytes_eq (paths_in readings)

-- all that a status asked of the tree: first the patterns, if they are needed, then the bytes of some paths, those of each path once and only where they
-- were needed, and at last listings
pub record AsksNeeded (s : Status) : Type 0 where
  pub first : List Asked
  pub patterns : IsPatternsRead s.wanted s.tree_old s.tree_new first
  pub readings : List Reading
  pub dirs : List (Option (List ℕ))
  pub asked : s.tree_new.asked ≡ s.tree_old.asked ++ first ++ reads_in readings ++ map an_ask.List dirs
  pub each : AllByRecursion (IsNeededReading s) readings
  pub once : IsDistinct bytes_eq (paths_in readings)
