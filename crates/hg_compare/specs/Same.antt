-- What a comparison of a path with a row of the first parent answers.
use Rattle.std.specs.Prelude.{ℕ, zero, suc, ◌≡◌, ◌+◌, ◌-◌, ◌*◌, ◌<◌, ◌≤◌, ◌⊎◌, min, Bool, true, false, List, [], ◌∷◌, ◌++◌, replicate, Option, Some, None, Result, Ok, Err, IsTrue}
use Rattle.hg_base.specs.declared.stat.Stat.{Stat}
use Rattle.hg_manifest.specs.declared.row.FileRow.{FileRow}
use Rattle.hg_tree.specs.History.{History, now}
use Rattle.hg_tree.specs.Moment.{bytes_at, stat_at}
use Rattle.hg_tree.specs.Still.{Keeps}
use Rattle.hg_tree.specs.declared.asked.Asked.TheVariants as an_ask
use Rattle.hg_shelf.specs.declared.asked.Asked.{Asked}
use Rattle.hg_shelf.specs.declared.asked.Asked.TheVariants as a_shelf_ask
use Rattle.hg_compare.specs.Alike.{Settles, is_alike}
use Rattle.hg_compare.specs.Seen.{Compared, HasOtherSize, HasSize, Holds, SeesNothing, SeesOther, SeesSame}
use Rattle.hg_compare.specs.Tracked.{ParentRow}
use Rattle.hg_compare.specs.declared.fault.CompareFault.{CompareFault}
use Rattle.hg_compare.specs.declared.fault.CompareFault.TheVariants as a_fault
use Rattle.hg_compare.specs.declared.looked.Looked.{Looked}
use Rattle.hg_compare.specs.declared.looked.Looked.TheVariants as a_look

-- the last moment shows what the first look showed, or something else
abbrev pub Ends : Compared → Stat → Bool → Type 0
Ends c before settled = IsTrue c.tree_old.told → (after : Stat) × (stat_at (now c.tree_new) c.path ≡ Some after) × Settles settled before after

-- all bytes were seen to be the same, of as many as the first look showed
pub record IsSame (c : Compared) (before : Stat) : Type 0 where
  pub size : HasSize c before.size
  pub bytes : SeesSame c before.size

-- why a thing of the same kind and executable bit differs: by its size or by its bytes
abbrev pub IsOther : Compared → Stat → Type 0
IsOther c before = HasOtherSize c before.size ⊎ SeesOther c

-- what a comparison saw, by its answer; a device that fails says nothing of the bytes
abbrev pub Compares : Compared → FileRow → Stat → Result Looked CompareFault → Type 0
Compares c row before (Ok (a_look.Same settled)) = (is_alike row before ≡ true) × IsSame c before × Ends c before settled
Compares c row before (Ok a_look.Differs) = (is_alike row before ≡ false) ⊎ ((is_alike row before ≡ true) × IsOther c before)
Compares c row before (Ok a_look.Gone) = (is_alike row before ≡ true) × SeesNothing c
Compares c row before (Err (a_fault.NoContents id)) = (is_alike row before ≡ true) × (id ≡ row.id) × Holds c (λ file. file ≡ None)
Compares c row before (Err a_fault.TreeFailed) = is_alike row before ≡ true
Compares c row before (Err a_fault.ShelfFailed) = is_alike row before ≡ true

-- the bytes have to be looked at: kind and executable bit are the row's, and the contents had the size of the first look
abbrev pub IsNeeded : Compared → FileRow → Stat → Type 0
IsNeeded c row before = (is_alike row before ≡ true) × HasSize c before.size

-- so many bytes were asked for piece by piece, in no more pieces than they have
pub record InPieces {A : Type 0} (size : ℕ) (ask : A) (old new : List A) : Type 0 where
  pub pieces : ℕ
  pub few : 65536 * pieces < size + 65536
  pub asked : new ≡ old ++ replicate pieces ask

-- the path was read so, and nothing else
abbrev pub Reads : ℕ → List ℕ → History → History → Type 0
Reads size path old new = InPieces size (an_ask.Read path) old.asked new.asked

-- a piece of contents of this size, by its number: at most 65,536 bytes, from a multiple of these on
abbrev pub piece_ask : ℕ → List ℕ → ℕ → Asked
piece_ask size name k = a_shelf_ask.Read name (65536 * k) (min (size - 65536 * k) 65536)

-- so many pieces, one behind another
abbrev pub pieces_from : ℕ → List ℕ → ℕ → ℕ → List Asked
pieces_from size name k zero = []
pieces_from size name k (suc n) = piece_ask size name k ∷ pieces_from size name (suc k) n

-- a read of a piece of contents, of whatever size
pub record IsPieceOf (name : List ℕ) (ask : Asked) : Type 0 where
  pub number : ℕ
  pub width : ℕ
  pub few : width ≤ 65536
  pub is : ask ≡ a_shelf_ask.Read name (65536 * number) width

-- the size of the contents was asked for, and behind it the contents piece by piece, where they had the size of the first look
pub record AsksContents (c : Compared) (size : ℕ) : Type 0 where
  pub pieces : ℕ
  pub few : 65536 * pieces < size + 65536
  pub sized : (pieces ≡ 0) ⊎ HasSize c size
  pub asked : c.shelf_new.asked ≡ c.shelf_old.asked ++ a_shelf_ask.Size c.name ∷ pieces_from size c.name 0 pieces

-- a shelf that failed may not have noted that it was asked
abbrev pub AsksOrFails : Compared → ℕ → Result Looked CompareFault → Type 0
AsksOrFails c size result = ((result ≡ Err a_fault.ShelfFailed) × (c.shelf_new.asked ≡ c.shelf_old.asked)) ⊎ AsksContents c size

-- what was asked of the shelf: nothing where kind or executable bit are others
abbrev pub AsksShelf : Compared → FileRow → Stat → Result Looked CompareFault → Type 0
AsksShelf c row before result =
    ((is_alike row before ≡ false) × (c.shelf_new.asked ≡ c.shelf_old.asked)) ⊎ ((is_alike row before ≡ true) × AsksOrFails c before.size result)

-- the row of the first parent with the contents that a file holds
abbrev pub parent_row : FileRow → Option (List ℕ) → ParentRow
parent_row row file = record { exec = row.exec; link = row.link; bytes = file }

-- what a look shows of a path, and what can be read of it, stay as they were
pub record StaysShown (old new : History) (path : List ℕ) : Type 0 where
  pub stat : Keeps (λ moment. stat_at moment path) new old.last
  pub bytes : Keeps (λ moment. bytes_at moment path) new old.last

-- what is answered where nothing changes meanwhile: whether the thing equals the row
abbrev pub Decides : Bool → Option (List ℕ) → Result Looked CompareFault → Type 0
Decides equal file (Ok (a_look.Same settled)) = (equal ≡ true) × (settled ≡ true)
Decides equal file (Ok a_look.Differs) = equal ≡ false
Decides equal file (Ok a_look.Gone) = ⊥
Decides equal file (Err (a_fault.NoContents id)) = file ≡ None
Decides equal file (Err a_fault.TreeFailed) = Unit {0}
Decides equal file (Err a_fault.ShelfFailed) = Unit {0}
