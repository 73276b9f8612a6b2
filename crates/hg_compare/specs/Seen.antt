-- What a comparison sees, each at a moment of the call. Of a device that tells no moments nothing is said.
use Rattle.std.specs.Prelude.{ℕ, ◌≡◌, ◌≤◌, ◌<◌, List, take, drop, slice_get, Option, Some, None, IsTrue}
use Rattle.hg_shelf.specs.History as shelf
use Rattle.hg_shelf.specs.Reads.{size_of}
use Rattle.hg_tree.specs.History as tree
use Rattle.hg_tree.specs.Moment.{Moment, bytes_at}
use Rattle.hg_manifest.specs.Load.{Was}

-- a path and the name of a file below `.hg`, and what both devices tell before and after a call
pub record Compared : Type 0 where
  pub path : List ℕ
  pub name : List ℕ
  pub tree_old : tree.History
  pub tree_new : tree.History
  pub shelf_old : shelf.History
  pub shelf_new : shelf.History

-- a moment of a call
pub record During (old new : tree.History) (k : ℕ) : Type 0 where
  pub from : old.last ≤ k
  pub to : k ≤ new.last

-- at a moment of the call the working copy was so
pub record Shows (c : Compared) (P : Moment → Type 0) : Type 0 where
  pub at : ℕ
  pub during : IsTrue c.tree_old.told → During c.tree_old c.tree_new at
  pub so : IsTrue c.tree_old.told → P (c.tree_new.at at)

-- at a moment of the call the file below `.hg` was so
abbrev pub Holds : Compared → (Option (List ℕ) → Type 0) → Type 0
Holds c P = Was c.shelf_old c.shelf_new c.name P

-- bytes have this one at a place, or end before it
abbrev pub HasByte : ℕ → Option ℕ → Option (List ℕ) → Type 0
HasByte k byte None = ⊥
HasByte k byte (Some bytes) = slice_get bytes k ≡ byte

-- the path and the file had the same byte at a place, or ended before it
pub record SeesByte (c : Compared) (k : ℕ) : Type 0 where
  pub byte : Option ℕ
  pub mine : Shows c (λ moment. HasByte k byte (bytes_at moment c.path))
  pub theirs : Holds c (HasByte k byte)

-- so at each place below a size
abbrev pub SeesSame : Compared → ℕ → Type 0
SeesSame c size = (k : ℕ) → k < size → SeesByte c k

-- so many bytes from a place on, or fewer where they end
abbrev pub HasPiece : ℕ → ℕ → List ℕ → Option (List ℕ) → Type 0
HasPiece place width piece None = ⊥
HasPiece place width piece (Some bytes) = piece ≡ take width (drop place bytes)

-- the path and the file had this piece
pub record SeesPiece (c : Compared) (place width : ℕ) (mine theirs : List ℕ) : Type 0 where
  pub mine_was : Shows c (λ moment. HasPiece place width mine (bytes_at moment c.path))
  pub theirs_was : Holds c (HasPiece place width theirs)

-- somewhere they had other bytes
pub record SeesOther (c : Compared) : Type 0 where
  pub place : ℕ
  pub width : ℕ
  pub mine : List ℕ
  pub theirs : List ℕ
  pub pieces : SeesPiece c place width mine theirs
  pub differ : mine ≡ theirs → ⊥

-- the file had so many bytes
abbrev pub HasSize : Compared → ℕ → Type 0
HasSize c size = Holds c (λ file. size_of file ≡ Some size)

-- it had another number of bytes
pub record HasOtherSize (c : Compared) (size : ℕ) : Type 0 where
  pub number : ℕ
  pub had : HasSize c number
  pub other : number ≡ size → ⊥

-- neither a file nor a link stood at the path
abbrev pub SeesNothing : Compared → Type 0
SeesNothing c = Shows c (λ moment. bytes_at moment c.path ≡ None)
