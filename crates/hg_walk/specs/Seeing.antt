-- What was seen of a path at a time that had passed: a moment showed the path with a recorded time, and its clock was beyond that time.
use Rattle.std.specs.Prelude.{ℕ, ◌≡◌, ◌≤◌, ◌⊎◌, Bool, false, if◌then◌else◌, IsTrue, List, Some, codes}
use Rattle.hg_base.specs.PathText.{joined}
use Rattle.hg_base.specs.Times.{IsBefore}
use Rattle.hg_base.specs.declared.stat.Kind.{Kind}
use Rattle.hg_base.specs.declared.stat.Kind.TheVariants as a_kind
use Rattle.hg_base.specs.declared.time.Time.{Time}
use Rattle.hg_compare.specs.Tracked.{ParentRow}
use Rattle.hg_entry.specs.Entry.{CacheData, StampData}
use Rattle.hg_ignore.specs.State.{Hash, Ignored, Piece, Texts}
use Rattle.hg_mtime.specs.Stamps.{HasTime}
use Rattle.hg_tree.specs.History.{History}
use Rattle.hg_tree.specs.Honest.{Face, Shows, face}

-- some moment so far showed the path with a recorded time that was below its clock, and the path's face was so
pub record WasSeen (IsSo : Face → Type 0) (h : History) (path : List ℕ) (stamp : StampData) : Type 0 where
  pub at : ℕ
  pub within : at ≤ h.last
  pub time : Time
  pub shown : Shows (h.at at) path time
  pub stamped : HasTime stamp time
  pub past : IsBefore time (h.at at).clock
  pub so : IsSo (face (h.at at) path)

-- ---- files

-- the kind of a file that a row of the first parent tells
abbrev pub row_kind : ParentRow → Kind
row_kind row = if row.link then a_kind.Link else a_kind.File

-- a face has the row's kind and bytes; a row whose contents are absent has no bytes, and no face is it
pub record IsFaceOf (row : ParentRow) (shown : Face) : Type 0 where
  pub kind : shown.kind ≡ Some (row_kind row)
  pub bytes : row.bytes ≡ Some shown.bytes

-- with that time a path was seen to be the row's file
abbrev pub SeenFile : History → List ℕ → StampData → ParentRow → Type 0
SeenFile h path stamp row = WasSeen (IsFaceOf row) h path stamp

-- ---- directories

-- a path is ignored under a state of patterns that the history may give and that has this hash
pub record IsIgnoredUnder (h : History) (hash path : List ℕ) : Type 0 where
  pub state : List Piece
  pub given : Texts h state
  pub hashed : Hash state ≡ hash
  pub ignored : Ignored state path

-- a path is known to a record: it is a node, or it is ignored; in a directory that was recorded whole, ignored paths are nodes too
abbrev pub IsAccounted : History → List ℕ → Bool → (List ℕ → Bool) → List ℕ → Type 0
IsAccounted h hash whole nodes path = IsTrue (nodes path) ⊎ ((whole ≡ false) × IsIgnoredUnder h hash path)

-- a face is that of a directory all of whose names are known to the record, and none of which is `.hg`
pub record IsAccountedDir (h : History) (hash : List ℕ) (whole : Bool) (nodes : List ℕ → Bool) (dir : List ℕ) (shown : Face) : Type 0 where
  pub kind : shown.kind ≡ Some a_kind.Dir
  pub plain : shown.names (codes ".hg") ≡ false
  pub each : (name : List ℕ) → IsTrue (shown.names name) → IsAccounted h hash whole nodes (joined (Some dir) name)

-- with the time of a cache a directory was seen to be such a one, whole where the cache is full
abbrev pub SeenDir : History → List ℕ → CacheData → List ℕ → (List ℕ → Bool) → Type 0
SeenDir h dir cache hash nodes = WasSeen (IsAccountedDir h hash cache.full nodes dir) h dir cache.stamp
