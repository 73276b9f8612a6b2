-- What each call that writes changes: of what reads show, and of what a crash may leave.
use Rattle.std.specs.Prelude.{ℕ, ◌≡◌, ◌≤◌, ◌+◌, ◌-◌, ◌⊎◌, List, [], ◌++◌, length, take, drop, replicate, max, if◌then◌else◌, Option, None, Some, bytes_eq, IsSome}
use Rattle.hg_shelf.specs.History.{Files}
use Rattle.hg_shelf.specs.Images.{Scene, Remains}

-- the bytes of a file, none of one that is absent
abbrev pub content : Option (List ℕ) → List ℕ
content None = []
content (Some bytes) = bytes

-- the bytes after a write at a place; a place past the end has zeros before it
abbrev pub overwritten : List ℕ → ℕ → List ℕ → List ℕ
overwritten old place bytes = take place old ++ replicate (place - length old) 0 ++ bytes ++ drop (place + length bytes) old

-- reads show a change; what a crash leaves, and what of it has all names done, comes from what it left before
pub record Changes (shows leaves names : Files → Files → Type 0) (old new : Scene) : Type 0 where
  pub shown : shows old.files new.files
  pub left : (c : Files) → new.leaves c → (d : Files) × old.leaves d × leaves d c
  pub done : (c : Files) → new.named c → (d : Files) × old.named d × names d c

-- so many bytes from a place on, and what lies past the old end, may be any bytes; the others stay
pub record Torn (place n : ℕ) (old new : List ℕ) : Type 0 where
  pub before : (m : ℕ) → m ≤ place → m ≤ length old → take m new ≡ take m old
  pub after : drop (place + n) new ≡ drop (place + n) old
  pub no_shorter : length old ≤ length new
  pub no_longer : length new ≤ max (length old) (place + n)

-- a file that was made may be absent
abbrev pub TornFile : ℕ → ℕ → Option (List ℕ) → Option (List ℕ) → Type 0
TornFile place n old None = old ≡ None
TornFile place n old (Some new) = Torn place n (content old) new

pub record TornAt (name : List ℕ) (place n : ℕ) (old new : Files) : Type 0 where
  pub elsewhere : (m : List ℕ) → (m ≡ name → ⊥) → new m ≡ old m
  pub here : TornFile place n (old name) (new name)

pub record Written (name : List ℕ) (place : ℕ) (bytes : List ℕ) (old new : Files) : Type 0 where
  pub elsewhere : (m : List ℕ) → (m ≡ name → ⊥) → new m ≡ old m
  pub here : new name ≡ Some (overwritten (content (old name)) place bytes)

-- a write that succeeded, and one that failed after some of it may have come through
abbrev pub Writes : List ℕ → ℕ → List ℕ → Scene → Scene → Type 0
Writes name place bytes = Changes (Written name place bytes) (TornAt name place (length bytes)) (TornAt name place (length bytes))

abbrev pub Tears : List ℕ → ℕ → List ℕ → Scene → Scene → Type 0
Tears name place bytes = Changes (TornAt name place (length bytes)) (TornAt name place (length bytes)) (TornAt name place (length bytes))

-- a file is sure: a crash leaves what a read gives
pub record Syncs (name : List ℕ) (old new : Scene) : Type 0 where
  pub same : Remains old new
  pub sure : (bytes : List ℕ) (c : Files) → old.files name ≡ Some bytes → new.leaves c → c name ≡ Some bytes

-- all names are sure: a crash leaves each rename and each removal so far done
pub record SyncsNames (old new : Scene) : Type 0 where
  pub same : Remains old new
  pub sure : (c : Files) → new.leaves c → old.named c

abbrev pub moved : List ℕ → List ℕ → Files → Files
moved from to files = λ name. if bytes_eq to name then files from else (if bytes_eq from name then None else files name)

abbrev pub without : List ℕ → Files → Files
without gone files = λ name. if bytes_eq gone name then None else files name

abbrev pub Surely : (Files → Files) → Files → Files → Type 0
Surely change old new = (name : List ℕ) → new name ≡ change old name

abbrev pub Perhaps : (Files → Files) → Files → Files → Type 0
Perhaps change old new = ((name : List ℕ) → new name ≡ old name) ⊎ ((name : List ℕ) → new name ≡ change old name)

-- of an absent file a rename changes nothing
pub record Renames (from to : List ℕ) (old new : Scene) : Type 0 where
  pub there : IsSome (old.files from) → Changes (Surely (moved from to)) (Perhaps (moved from to)) (Surely (moved from to)) old new
  pub absent : old.files from ≡ None → Remains old new

abbrev pub Removes : List ℕ → Scene → Scene → Type 0
Removes name = Changes (Surely (without name)) (Perhaps (without name)) (Surely (without name))
