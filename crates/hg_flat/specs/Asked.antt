-- What a status asks the tree: which directories it lists, and what it reads.
use Rattle.std.specs.Prelude.{ℕ, ◌≡◌, ◌≤◌, ◌⊎◌, true, false, if◌then◌else◌, List, [], map, ◌++◌, Option, Some, None, IsTrue}
use Rattle.std.specs.List.{Contains, IsDistinct}
use Rattle.hg_base.specs.PathText.{is_below, is_same_dir, joined}
use Rattle.hg_ignore.specs.Patterns.{AreReads, IsGiven, reads_at}
use Rattle.hg_ignore.specs.State.{Ignore, Ignored, Piece}
use Rattle.hg_tree.specs.Moment.{Moment, is_among, is_dir}
use Rattle.hg_tree.specs.History.{History, IsOurs, now}
use Rattle.hg_tree.specs.Still.{hg_in}
use Rattle.hg_tree.specs.declared.asked.Asked.{Asked}
use Rattle.hg_tree.specs.declared.asked.Asked.TheVariants as an_ask
use Rattle.hg_listing.specs.Full.{IsVisible}
use Rattle.hg_flat.specs.Listing.{IsEntered, IsVisibleFrom, is_from, is_inside}
use Rattle.hg_flat.specs.Parent.{Asking, WasAsked}
use Rattle.hg_flat.specs.Passed.{Known, WasDir, WasNoDir}
use Rattle.hg_flat.specs.Patterns.{ignored_at, needs_patterns}
use Rattle.hg_listing.specs.declared.row.Wanted.{Wanted}

-- the tree was asked for these directories besides, for each once, and nothing was read; no directory is the root
pub record AsksFor (Within : Option (List ℕ) → Type 0) (old new : History) : Type 0 where
  pub dirs : List (Option (List ℕ))
  pub asked : new.asked ≡ old.asked ++ map an_ask.List dirs
  pub once : IsDistinct is_same_dir dirs
  pub within : (dir : Option (List ℕ)) → Contains dirs dir → Within dir

-- the root, or a directory that stands there and is in no repository of its own
abbrev pub IsVisibleDir : Moment → Option (List ℕ) → Type 0
IsVisibleDir moment None = Unit {0}
IsVisibleDir moment (Some dir) = IsTrue (is_dir (moment.things dir)) × IsVisible moment dir

-- a directory at a path or below it that meets E. Since a state of the tree it stood there once, and in each directory between there was once no directory
-- `.hg`. Where nobody else makes a step since that state it stood there then, with no repository between
pub record IsDirFrom (E : List ℕ → Type 0) (since new : History) (from : List ℕ) (asked : Option (List ℕ)) : Type 0 where
  pub path : List ℕ
  pub is : asked ≡ Some path
  pub entered : E path
  pub inside : IsTrue (is_from (Some from) path)
  pub was : WasDir new since.last path
  pub apart : (d : List ℕ) → IsTrue (is_from (Some from) d) → IsTrue (is_below d path) → WasNoDir new since.last (hg_in d)
  pub stands : IsOurs since new → IsTrue (is_dir ((now since).things path))
  pub visible : IsOurs since new → IsVisibleFrom (now since) (Some from) path

-- a listing lists a directory: it goes into it, and its nodes don't serve as its names
abbrev pub IsAskedDir : Known → Wanted → List Piece → List ℕ → Type 0
IsAskedDir known wanted state dir = IsEntered wanted state dir × (known.served dir ≡ false)

-- the same at one of some names of a directory, or below it
abbrev pub IsDirAmong : (List ℕ → Type 0) → History → History → Option (List ℕ) → List (List ℕ) → Option (List ℕ) → Type 0
IsDirAmong E since new dir names asked = (name : List ℕ) × IsTrue (is_among name names) × IsDirFrom E since new (joined dir name) asked

-- a directory that meets E in a directory, at any depth. Since a state of the tree it stood there once, and in each directory between there was once no
-- directory `.hg`. Where nobody else makes a step since that state it stood there then, with no repository between
pub record IsDirBelow (E : List ℕ → Type 0) (since new : History) (dir asked : Option (List ℕ)) : Type 0 where
  pub path : List ℕ
  pub is : asked ≡ Some path
  pub entered : E path
  pub inside : IsTrue (is_inside dir path)
  pub was : WasDir new since.last path
  pub apart : (d : List ℕ) → IsTrue (is_from dir d) → IsTrue (is_below d path) → WasNoDir new since.last (hg_in d)
  pub stands : IsOurs since new → IsTrue (is_dir ((now since).things path))
  pub visible : IsOurs since new → IsVisibleFrom (now since) dir path

-- the directory itself, or one in it
abbrev pub IsDirIn : (List ℕ → Type 0) → History → History → Option (List ℕ) → Option (List ℕ) → Type 0
IsDirIn E since new dir asked = (asked ≡ dir) ⊎ IsDirBelow E since new dir asked

-- nothing more was asked
abbrev pub AsksNothing : History → History → Type 0
AsksNothing old new = new.asked ≡ old.asked

-- these paths were read besides
pub record AsksReads (Compared : List ℕ → Type 0) (old new : History) : Type 0 where
  pub paths : List (List ℕ)
  pub asked : new.asked ≡ old.asked ++ map an_ask.Read paths
  pub compared : (path : List ℕ) → Contains paths path → Compared path

-- a directory that a listing goes into: the root, or one that isn't ignored
abbrev pub IsTaken : Moment → Option (List ℕ) → Type 0
IsTaken moment None = Unit {0}
IsTaken moment (Some dir) = ¬ (ignored_at moment dir)

-- the root, or a directory that stood there at a moment of a call, and in each directory above it no directory `.hg` at one
abbrev pub WasVisible : History → ℕ → Option (List ℕ) → Type 0
WasVisible h start None = Unit {0}
WasVisible h start (Some dir) = WasDir h start dir × ((above : List ℕ) → IsTrue (is_below above dir) → WasNoDir h start (hg_in above))

-- a state of the patterns that was read in a call doesn't ignore a path
pub record IsPassed (old new : History) (path : List ℕ) : Type 0 where
  pub state : List Piece
  pub given : IsTrue old.told → IsGiven old new state
  pub passed : ¬ (Ignored state path)

-- the root, or a directory that such a state doesn't ignore
abbrev pub WasTaken : History → History → Option (List ℕ) → Type 0
WasTaken old new None = Unit {0}
WasTaken old new (Some dir) = IsPassed old new dir

-- what holds for a directory at a moment, by a state of the patterns, so that a status doesn't list it there
abbrev pub Holding : Type 1
Holding = List Piece → Moment → List ℕ → Type 0

-- nothing holds for any directory
abbrev pub nothing_holds : Holding
nothing_holds state moment dir = ⊥

-- by a state of the patterns that was read in a call it didn't hold for a directory at a moment of the call
pub record IsUnheld (holds : Holding) (old new : History) (dir : List ℕ) : Type 0 where
  pub state : List Piece
  pub given : IsTrue old.told → IsGiven old new state
  pub at : ℕ
  pub from : old.last ≤ at
  pub upto : at ≤ new.last
  pub none : ¬ (holds state (new.at at) dir)

-- the root, or such a directory
abbrev pub WasUnheld : Holding → History → History → Option (List ℕ) → Type 0
WasUnheld holds old new None = Unit {0}
WasUnheld holds old new (Some dir) = IsUnheld holds old new dir

-- the root, or a directory for which it doesn't hold by the patterns of a moment
abbrev pub IsUnheldThen : Holding → Moment → Option (List ℕ) → Type 0
IsUnheldThen holds moment None = Unit {0}
IsUnheldThen holds moment (Some dir) = ¬ (holds (Ignore moment) moment dir)

-- a directory that a status may list, where letters of paths without an entry are wanted: whoever else steps it was visible at moments of the call, it
-- wasn't held at one, and, unless ignored files are wanted, it was not ignored by what was read; where nobody else steps it is all that at the start
pub record IsListedDir (holds : Holding) (wanted : Wanted) (old new : History) (dir : Option (List ℕ)) : Type 0 where
  pub needed : needs_patterns wanted ≡ true
  pub was : WasVisible new old.last dir
  pub entered : wanted.i ≡ false → WasTaken old new dir
  pub unheld : WasUnheld holds old new dir
  pub own : IsOurs old new → IsVisibleDir (now old) dir × (wanted.i ≡ false → IsTaken (now old) dir)
  pub own_unheld : IsOurs old new → IsUnheldThen holds (now old) dir

-- the patterns weren't read, or, where they are needed and a file of them was seen, they were
abbrev pub IsPatternsRead : Wanted → History → History → List Asked → Type 0
IsPatternsRead wanted old new first = (first ≡ []) ⊎ ((needs_patterns wanted ≡ true) × AreReads old new first)

-- the reads of patterns at a moment
abbrev pub pattern_reads : Wanted → Moment → List Asked
pattern_reads wanted moment = if needs_patterns wanted then reads_at moment else []

-- these calls were made besides, then these paths were read, each compared at a moment of the call, and then these directories listed, each once; no
-- directory is the root
pub record AsksBehind (first : List Asked) (asks : Asking) (Within : Option (List ℕ) → Type 0) (old new : History) : Type 0 where
  pub paths : List (List ℕ)
  pub dirs : List (Option (List ℕ))
  pub asked : new.asked ≡ old.asked ++ first ++ map an_ask.Read paths ++ map an_ask.List dirs
  pub compared : (path : List ℕ) → Contains paths path → WasAsked asks old new path
  pub once : IsDistinct is_same_dir dirs
  pub within : (dir : Option (List ℕ)) → Contains dirs dir → Within dir

-- the patterns were read first, if at all
abbrev pub AsksAll : Wanted → Asking → (Option (List ℕ) → Type 0) → History → History → Type 0
AsksAll wanted asks Within old new = (first : List Asked) × IsPatternsRead wanted old new first × AsksBehind first asks Within old new
