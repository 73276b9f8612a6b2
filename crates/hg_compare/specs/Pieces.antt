-- The steps of a comparison.
use Rattle.std.specs.Prelude.{ℕ, ◌≡◌, ◌≤◌, ◌<◌, ◌+◌, ◌*◌, Bool, true, false, ◌⊎◌, List, [], ◌∷◌, ◌++◌, length, replicate, take, Option, Some, None, Result, Ok, Err, IsTrue}
use Rattle.hg_base.specs.Fault.{Rose}
use Rattle.hg_base.specs.declared.id.Id20.{Id20}
use Rattle.hg_base.specs.declared.stat.Stat.{Stat}
use Rattle.hg_shelf.specs.History as shelf
use Rattle.hg_tree.specs.History as tree
use Rattle.hg_tree.specs.Moment.{bytes_at, stat_at}
use Rattle.hg_tree.specs.declared.asked.Asked.TheVariants as an_ask
use Rattle.hg_shelf.specs.declared.asked.Asked.TheVariants as a_shelf_ask
use Rattle.hg_compare.specs.Alike.{Settles}
use Rattle.hg_compare.specs.Same.{pieces_from}
use Rattle.hg_compare.specs.Seen.{Compared, HasOtherSize, HasPiece, HasSize, Holds, SeesNothing, SeesOther, SeesPiece, SeesSame}
use Rattle.hg_compare.specs.declared.fault.CompareFault.{CompareFault}
use Rattle.hg_compare.specs.declared.fault.CompareFault.TheVariants as a_fault
use Rattle.hg_compare.specs.declared.looked.Looked.{Looked}
use Rattle.hg_compare.specs.declared.looked.Looked.TheVariants as a_look
use Rattle.hg_compare.specs.declared.piece.Piece.{Piece}
use Rattle.hg_compare.specs.declared.piece.Piece.TheVariants as a_piece

-- the count of a device rose where it is named as what failed, and stands as it stood with every other answer
abbrev pub CountsTree : {A : Type 0} → ℕ → ℕ → Result A CompareFault → Type 0
CountsTree before now (Ok answer) = now ≡ before
CountsTree before now (Err (a_fault.NoContents id)) = now ≡ before
CountsTree before now (Err a_fault.TreeFailed) = (before ≤ now) × Rose before now
CountsTree before now (Err a_fault.ShelfFailed) = now ≡ before

abbrev pub CountsShelf : {A : Type 0} → ℕ → ℕ → Result A CompareFault → Type 0
CountsShelf before now (Ok answer) = now ≡ before
CountsShelf before now (Err (a_fault.NoContents id)) = now ≡ before
CountsShelf before now (Err a_fault.TreeFailed) = now ≡ before
CountsShelf before now (Err a_fault.ShelfFailed) = (before ≤ now) × Rose before now

-- the bytes that a read of the contents took, as the last moment has them
abbrev pub TakesTheirs : shelf.History → List ℕ → Id20 → ℕ → ℕ → List ℕ → Result ℕ CompareFault → Type 0
TakesTheirs h name id place width room (Ok n) = (n ≤ width) × (IsTrue h.told → HasPiece place width (take n room) ((shelf.now h).files name))
TakesTheirs h name id place width room (Err (a_fault.NoContents gone)) = (gone ≡ id) × (IsTrue h.told → (shelf.now h).files name ≡ None)
TakesTheirs h name id place width room (Err a_fault.TreeFailed) = ⊥
TakesTheirs h name id place width room (Err a_fault.ShelfFailed) = Unit {0}

-- the same of the path
abbrev pub TakesMine : tree.History → List ℕ → ℕ → ℕ → List ℕ → Result (Option ℕ) CompareFault → Type 0
TakesMine h path place width room (Ok None) = IsTrue h.told → bytes_at (tree.now h) path ≡ None
TakesMine h path place width room (Ok (Some n)) = (n ≤ width) × (IsTrue h.told → HasPiece place width (take n room) (bytes_at (tree.now h) path))
TakesMine h path place width room (Err (a_fault.NoContents gone)) = ⊥
TakesMine h path place width room (Err a_fault.TreeFailed) = Unit {0}
TakesMine h path place width room (Err a_fault.ShelfFailed) = ⊥

-- a fault that a comparison of bytes met
abbrev pub Meets : Compared → Id20 → CompareFault → Type 0
Meets c id (a_fault.NoContents gone) = (gone ≡ id) × Holds c (λ file. file ≡ None)
Meets c id a_fault.TreeFailed = Unit {0}
Meets c id a_fault.ShelfFailed = Unit {0}

-- what ends a comparison of bytes
abbrev pub EndsBy : Compared → Looked → Type 0
EndsBy c (a_look.Same settled) = ⊥
EndsBy c a_look.Differs = SeesOther c
EndsBy c a_look.Gone = SeesNothing c

-- one thing was asked once at most
pub record Once {A : Type 0} (ask : A) (old new : List A) : Type 0 where
  pub times : ℕ
  pub few : times ≤ 1
  pub asked : new ≡ old ++ replicate times ask

-- the path was read once at most
abbrev pub ReadsOnce : List ℕ → tree.History → tree.History → Type 0
ReadsOnce path old new = Once (an_ask.Read path) old.asked new.asked

-- the contents of this size were read piece by piece, in no more pieces than they have
pub record ReadsTheirs (size : ℕ) (name : List ℕ) (old new : shelf.History) : Type 0 where
  pub pieces : ℕ
  pub few : 65536 * pieces < size + 65536
  pub asked : new.asked ≡ old.asked ++ pieces_from size name 0 pieces

-- the size of the contents was asked for
abbrev pub AsksSize : List ℕ → shelf.History → shelf.History → Result Bool CompareFault → Type 0
AsksSize name old new result = ((result ≡ Err a_fault.ShelfFailed) × (new.asked ≡ old.asked)) ⊎ (new.asked ≡ old.asked ++ a_shelf_ask.Size name ∷ [])

-- one piece
abbrev pub ComparesPiece : Compared → Id20 → ℕ → ℕ → Result Piece CompareFault → Type 0
ComparesPiece c id place width (Ok a_piece.More) = (piece : List ℕ) × SeesPiece c place width piece piece
ComparesPiece c id place width (Ok a_piece.End) = (piece : List ℕ) × SeesPiece c place width piece piece × (length piece < width)
ComparesPiece c id place width (Ok (a_piece.Over looked)) = EndsBy c looked
ComparesPiece c id place width (Err fault) = Meets c id fault

-- all bytes
abbrev pub ComparesBytes : Compared → Id20 → ℕ → Result (Option Looked) CompareFault → Type 0
ComparesBytes c id size (Ok None) = SeesSame c size
ComparesBytes c id size (Ok (Some looked)) = EndsBy c looked
ComparesBytes c id size (Err fault) = Meets c id fault

-- whether the contents have so many bytes
abbrev pub Sizes : Compared → Id20 → ℕ → Result Bool CompareFault → Type 0
Sizes c id size (Ok true) = HasSize c size
Sizes c id size (Ok false) = HasOtherSize c size
Sizes c id size (Err fault) = Meets c id fault

-- the look behind the bytes
abbrev pub LooksAgain : tree.History → List ℕ → Stat → Result Looked CompareFault → Type 0
LooksAgain h path before (Ok (a_look.Same settled)) = IsTrue h.told → (after : Stat) × (stat_at (tree.now h) path ≡ Some after) × Settles settled before after
LooksAgain h path before (Ok a_look.Differs) = ⊥
LooksAgain h path before (Ok a_look.Gone) = IsTrue h.told → bytes_at (tree.now h) path ≡ None
LooksAgain h path before (Err (a_fault.NoContents gone)) = ⊥
LooksAgain h path before (Err a_fault.TreeFailed) = Unit {0}
LooksAgain h path before (Err a_fault.ShelfFailed) = ⊥
