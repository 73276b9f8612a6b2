-- What others keep to below `.hg`.
use Rattle.std.specs.Prelude.{ℕ, ◌≡◌, ◌≤◌, ◌<◌, ◌+◌, Bool, List, take, codes, Some, IsTrue}
use Rattle.std.specs.Str.{bytes_eq}
use Rattle.hg_shelf.specs.History.{Files, History, readers}
use Rattle.hg_shelf.specs.Images.{Course, Remains, scene}

-- a file of the plain store: a manifest, or the contents of a file
abbrev pub is_plain : List ℕ → Bool
is_plain name = bytes_eq (take 6 name) (codes "plain/")

-- a file is the same at every moment from one on, an absent one staying absent
abbrev pub KeepsFile : History → ℕ → List ℕ → Type 0
KeepsFile h from name = (k : ℕ) → from ≤ k → k ≤ h.last → (h.at k).files name ≡ (h.at from).files name

-- the files of the plain store never change from a moment on
pub record KeepsPlain (h : History) (from : ℕ) : Type 0 where
  pub told : IsTrue h.told
  pub each : (name : List ℕ) → IsTrue (is_plain name) → KeepsFile h from name

-- a file, wherever it is there from a moment on, has the bytes that it has in a store; where it is absent, nothing is said of it, so it may come
abbrev pub StaysIn : Files → History → ℕ → List ℕ → Type 0
StaysIn store h from name = (k : ℕ) → from ≤ k → k ≤ h.last → (bytes : List ℕ) → (h.at k).files name ≡ Some bytes → store name ≡ Some bytes

-- so has each file of the plain store
pub record StaysPlain (store : Files) (h : History) (from : ℕ) : Type 0 where
  pub told : IsTrue h.told
  pub each : (name : List ℕ) → IsTrue (is_plain name) → StaysIn store h from name

-- others keep what is there of the plain store: a file that is there at a moment from one on has the same bytes at each later one; an absent one may come
pub record KeepsThere (h : History) (from : ℕ) : Type 0 where
  pub told : IsTrue h.told
  pub each : (name : List ℕ) → IsTrue (is_plain name) → (k l : ℕ) → from ≤ k → k ≤ l → l ≤ h.last → (bytes : List ℕ)
      → (h.at k).files name ≡ Some bytes → (h.at l).files name ≡ Some bytes

-- while the caller holds the lock, others only read: from a moment on, no step of theirs shows or leaves anything new
pub record OthersOnlyRead (c : Course) (from : ℕ) : Type 0 where
  pub same : (k : ℕ) → from ≤ k → k < c.history.last → c.history.who k ≡ readers → Remains (scene c k) (scene c (k + 1))

-- the moments of a call are told, and others only read from its start on
pub record Undisturbed (old new : Course) : Type 0 where
  pub told : IsTrue old.history.told
  pub others : OthersOnlyRead new old.history.last
