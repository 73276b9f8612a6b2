-- What a taking of lists of an image into memory does.
use Rattle.std.specs.Prelude.{ℕ, ◌≡◌, ◌+◌, ◌*◌, ◌<◌, ◌⊎◌, true, false, List, [], Option, Some, None, is_some}
use Rattle.std.specs.Str.{bytes_eq}
use Rattle.hg_base.specs.PathText.{is_below, is_path, parent_of}
use Rattle.hg_entry.specs.Entry.{CacheData, cache_of}
use Rattle.hg_image.specs.Node.{fields_of, path_of, record_at}
use Rattle.hg_image.specs.Reading.{row_at}
use Rattle.hg_image.specs.Rows.{Row}
use Rattle.hg_image.specs.View.{dir_of, row, rows_below, rows_in}
use Rattle.hg_image.specs.declared.opened.List.{List as NodeList}
use Rattle.hg_image.specs.declared.opened.NodeRef.{NodeRef}
use Rattle.hg_nodes.specs.Adding.{Adds, IsAsBefore}
use Rattle.hg_nodes.specs.Drop.{bare}
use Rattle.hg_nodes.specs.Edits.{IsFormed}
use Rattle.hg_mixed.specs.Lent.{as_dir, covers, lent_at}
use Rattle.hg_mixed.specs.Own.{InMemory}
use Rattle.hg_nodes.specs.Node.{NodeData, node_at}
use Rattle.hg_mixed.specs.Opened.{node_of}
use Rattle.hg_nodes.specs.Times.{time_at}

-- the path of one of a list's nodes
abbrev pub path_at : NodeList → ℕ → List ℕ
path_at list i = path_of list.bytes.now (record_at list.bytes.now (list.start + 44 * i))

-- a node of the image was taken, with its time
abbrev pub AddsOwn : Row → List (List ℕ × NodeData) → List (List ℕ × CacheData) → List (List ℕ × NodeData) → List (List ℕ × CacheData) → Type 0
AddsOwn own = Adds own.path (node_of own) (cache_of (fields_of own.rec))

-- a path right in a list's directory has what its row says
pub record HasRow (list : NodeList) (at : List ℕ) (new : List (List ℕ × NodeData)) (after : List (List ℕ × CacheData)) : Type 0 where
  pub row : Row
  pub there : row_at (rows_in list) at ≡ Some row
  pub dir : parent_of at ≡ dir_of list
  pub node : node_at new at ≡ Some (node_of row)
  pub time : time_at after at ≡ cache_of (fields_of row.rec)

-- a path has what it had, and none of so many nodes of a list stands at it
pub record IsNotOf (list : NodeList) (count : ℕ) (at : List ℕ) (old : List (List ℕ × NodeData)) (before : List (List ℕ × CacheData)) (new : List (List ℕ × NodeData)) (after : List (List ℕ × CacheData)) : Type 0 where
  pub stays : IsAsBefore at old before new after
  pub none : (i : ℕ) → i < count → bytes_eq (path_at list i) at ≡ false

-- so many nodes of a list were taken, without what stands below them
pub record AddsNodes (list : NodeList) (count : ℕ) (old : List (List ℕ × NodeData)) (before : List (List ℕ × CacheData)) (new : List (List ℕ × NodeData)) (after : List (List ℕ × CacheData)) : Type 0 where
  pub each : (at : List ℕ) → (IsNotOf list count at old before new after) ⊎ (HasRow list at new after)
  pub formed : IsFormed (bare new after)

-- nothing was taken but at paths of a list's nodes
pub record AddsSome (list : NodeList) (old : List (List ℕ × NodeData)) (before : List (List ℕ × CacheData)) (new : List (List ℕ × NodeData)) (after : List (List ℕ × CacheData)) : Type 0 where
  pub each : (at : List ℕ) → (IsAsBefore at old before new after) ⊎ ((parent_of at ≡ dir_of list) × (is_some (row_at (rows_in list) at) ≡ true))
  pub formed : IsFormed (bare new after)

-- the parents, the hash and the mark of an edit are as they were, and so are the lists that are kept
pub record AreOthersKept (old new : InMemory) : Type 0 where
  pub p1 : new.p1 ≡ old.p1
  pub p2 : new.p2 ≡ old.p2
  pub hash : new.hash ≡ old.hash
  pub changed : new.changed ≡ old.changed
  pub kept : new.kept ≡ old.kept

-- the list of a node's children was lent, or nothing was
abbrev pub LendsKid : NodeRef → List (List ℕ × List Row) → List (List ℕ × List Row) → Type 0
LendsKid node old new = (dir : List ℕ) → (lent_at new dir ≡ lent_at old dir) ⊎ ((dir ≡ (row node).path) × (lent_at new dir ≡ Some (rows_below node)))

-- it is lent, or nothing stands below the node
abbrev pub IsServedKid : NodeRef → List (List ℕ × List Row) → Type 0
IsServedKid node left = (is_some (lent_at left (row node).path) ≡ true) ⊎ (rows_below node ≡ [])

-- a directory right in that of a list has a list of its own, with what stands below it
pub record IsKid (list : NodeList) (left : List (List ℕ × List Row)) (dir : List ℕ) : Type 0 where
  pub rows : List Row
  pub there : lent_at left dir ≡ Some rows
  pub path : is_path dir ≡ true
  pub parent : parent_of dir ≡ dir_of list
  pub below : (at : List ℕ) → is_below dir at ≡ true → row_at rows at ≡ row_at (rows_in list) at

-- lists were lent, of directories right in that of a list
abbrev pub LendsKids : NodeList → List (List ℕ × List Row) → List (List ℕ × List Row) → Type 0
LendsKids list old new = (dir : List ℕ) → (lent_at new dir ≡ lent_at old dir) ⊎ (IsKid list new dir)

-- a directory has a list of its own, or nothing stands below it
abbrev pub IsServed : NodeList → List (List ℕ × List Row) → List ℕ → Type 0
IsServed list left dir = (is_some (lent_at left dir) ≡ true) ⊎ ((at : List ℕ) → is_below dir at ≡ true → row_at (rows_in list) at ≡ None)

-- so many nodes of a list have lists of their own, or nothing below them
abbrev pub AreServed : NodeList → ℕ → List (List ℕ × List Row) → Type 0
AreServed list count left = (i : ℕ) → i < count → IsServed list left (path_at list i)

-- no list that is lent stands above a directory, where it isn't the root
abbrev pub IsOpen : List (List ℕ × List Row) → Option (List ℕ) → Type 0
IsOpen left dir = (d : List ℕ) → dir ≡ Some d → covers left d ≡ false

-- nothing is covered that wasn't
abbrev pub CoversLess : List (List ℕ × List Row) → List (List ℕ × List Row) → Type 0
CoversLess old new = (at : List ℕ) → covers new at ≡ true → covers old at ≡ true

-- what stands right in a directory isn't covered
abbrev pub IsBare : List (List ℕ × List Row) → Option (List ℕ) → Type 0
IsBare left dir = (at : List ℕ) → is_path at ≡ true → parent_of at ≡ dir → covers left at ≡ false

-- a directory's list is lent no more, nor any list above it
pub record IsOut (dir : List ℕ) (old new : List (List ℕ × List Row)) : Type 0 where
  pub gone : lent_at new dir ≡ None
  pub less : CoversLess old new
  pub bare : IsBare new (as_dir dir)

-- nothing that a list has is covered
abbrev pub IsBared : NodeList → List (List ℕ × List Row) → Type 0
IsBared list left = (at : List ℕ) → is_some (row_at (rows_in list) at) ≡ true → covers left at ≡ false

-- what a list has below so many of its nodes isn't covered
abbrev pub AreBared : NodeList → ℕ → List (List ℕ × List Row) → Type 0
AreBared list count left =
    (i : ℕ) → i < count → (at : List ℕ) → is_below (path_at list i) at ≡ true → is_some (row_at (rows_in list) at) ≡ true → covers left at ≡ false
