-- The rows of a plain status while it is made: those of tracked paths, and those of what else stands below a directory.
use Rattle.std.specs.Prelude.{ℕ, ◌≡◌, ◌⊎◌, Bool, true, false, ◌||◌, ◌&&◌, not, if◌then◌else◌, List, [], ◌∷◌, ◌++◌, Option, Some, None, IsTrue, MatchBool, is_some}
use Rattle.std.specs.List.{Contains}
use Rattle.std.specs.Str.{bytes_eq}
use Rattle.hg_base.specs.PathText.{is_below, joined}
use Rattle.hg_base.specs.declared.stat.Stat.{Stat}
use Rattle.hg_base.specs.declared.stat.Kind.{Kind}
use Rattle.hg_base.specs.declared.stat.Kind.TheVariants as a_kind
use Rattle.hg_base.specs.declared.id.Id20.{Id20}
use Rattle.hg_entry.specs.Entry.{view}
use Rattle.hg_entry.specs.Table.{marks_of}
use Rattle.hg_tree.specs.History as trees
use Rattle.hg_tree.specs.Moment.{Moment, is_among}
use Rattle.hg_tree.specs.Still.{Untouched}
use Rattle.hg_shelf.specs.History as shelves
use Rattle.hg_ignore.specs.State.{Ignored, Piece}
use Rattle.hg_compare.specs.Tracked.{is_file_or_link, tracked_letter}
use Rattle.hg_compare.specs.declared.letter.Letter.{Letter}
use Rattle.hg_compare.specs.declared.letter.Letter.TheVariants as a_letter
use Rattle.hg_listing.specs.Full.{is_repository, wants}
use Rattle.hg_flat.specs.Kept.{Kept}
use Rattle.hg_flat.specs.Parent.{Asking, IsServed, KeepsRow, is_plain_entry, parent_rows}
use Rattle.hg_listing.specs.declared.row.Row.{Row}
use Rattle.hg_listing.specs.declared.row.Wanted.{Wanted}
use Rattle.hg_flat.specs.declared.kept.FlatRow.{FlatRow}

abbrev pub is_file_or_link_kind : Kind → Bool
is_file_or_link_kind a_kind.File = true
is_file_or_link_kind a_kind.Link = true
is_file_or_link_kind a_kind.Dir = false
is_file_or_link_kind a_kind.Other = false

abbrev pub is_dir_kind : Kind → Bool
is_dir_kind a_kind.File = false
is_dir_kind a_kind.Link = false
is_dir_kind a_kind.Dir = true
is_dir_kind a_kind.Other = false

-- the letter of an entry at a moment, by what the first parent has of its path
abbrev pub letter_at : shelves.Files → Id20 → Moment → FlatRow → Option Letter
letter_at files id moment kept = tracked_letter (parent_rows files id kept.path) (marks_of (view kept.entry)) (is_some kept.source) (moment.things kept.path)

-- the row of an entry under a letter
abbrev pub row_under : FlatRow → Letter → Row
row_under kept letter = record { letter = letter; path = kept.path; source = kept.source }

abbrev pub rows_if : Bool → Row → List Row
rows_if true row = row ∷ []
rows_if false row = []

-- the row of an entry, where it has a letter and that is wanted
abbrev pub rows_under : Wanted → FlatRow → Option Letter → List Row
rows_under wanted kept None = []
rows_under wanted kept (Some letter) = rows_if (wants wanted letter) (row_under kept letter)

-- whether the bytes of an entry's path are compared where a file or a link stands there
abbrev pub is_compared_row : Wanted → FlatRow → Bool
is_compared_row wanted kept = (wanted.m || wanted.c) && is_plain_entry (Some (marks_of (view kept.entry))) (is_some kept.source)

-- a letter is asked for that takes a look at a tracked path, or a comparison of its bytes
abbrev pub wants_tracked : Wanted → Bool
wants_tracked wanted = wanted.m || wanted.a || wanted.d || wanted.c

abbrev pub wants_bytes : Wanted → Bool
wants_bytes wanted = wanted.m || wanted.c

-- the letter of a tracked path where a look shows this, unless its bytes decide
abbrev pub marked_letter : FlatRow → Stat → Option Letter
marked_letter kept there =
    if not (is_file_or_link_kind there.kind) then Some a_letter.Gone else (
    if kept.entry.p2 then Some a_letter.M else (
    if not kept.entry.p1 then Some a_letter.A else (
    if is_some kept.source then Some a_letter.M else None)))

-- a test of which paths are compared says of an entry's path what its marks say
abbrev pub AsksRow : Wanted → FlatRow → Asking → Type 0
AsksRow wanted kept asks = (moment : Moment) → asks moment kept.path ≡ (is_compared_row wanted kept && is_file_or_link (moment.things kept.path))

-- an entry whose bytes are compared at a moment
pub record IsAskedRow (wanted : Wanted) (moment : Moment) (kept : FlatRow) : Type 0 where
  pub compared : IsTrue (is_compared_row wanted kept)
  pub there : IsTrue (is_file_or_link (moment.things kept.path))

-- nobody touches an entry's path, and what the first parent has of it where its bytes are compared at first is a store's
pub record IsLeftRow (store : shelves.Files) (wanted : Wanted) (id : Id20) (copy : trees.History) (from : ℕ) (files : shelves.History) (since : ℕ) (kept : FlatRow) : Type 0 where
  pub own : Untouched copy from kept.path
  pub row : IsAskedRow wanted (copy.at from) kept → KeepsRow store files since id kept.path

-- a letter that is found of an entry, or none: where the entry meets S the letter at a moment, as far as it is wanted, and what a
-- comparison asks for is there
pub record IsLetterFor (S : FlatRow → Type 0) (files : shelves.Files) (id : Id20) (moment : Moment) (wanted : Wanted) (kept : FlatRow) (letter : Option Letter) : Type 0 where
  pub right : S kept → rows_under wanted kept letter ≡ rows_under wanted kept (letter_at files id moment kept)
  pub served : S kept → IsAskedRow wanted moment kept → IsServed files id moment kept.path

-- the rows that are put for an entry: those of a letter that is found of it
pub record IsPutFor (S : FlatRow → Type 0) (files : shelves.Files) (id : Id20) (moment : Moment) (wanted : Wanted) (kept : FlatRow) (rows : List Row) : Type 0 where
  pub letter : Option Letter
  pub one : rows ≡ rows_under wanted kept letter
  pub found : IsLetterFor S files id moment wanted kept letter

-- the rows that are put for some entries, one entry behind another
abbrev pub ArePutFor : (FlatRow → List Row → Type 0) → List FlatRow → List Row → Type 0
ArePutFor Put [] rows = rows ≡ []
ArePutFor Put (kept ∷ all) rows = (own : List Row) × (rest : List Row) × (rows ≡ own ++ rest) × Put kept own × ArePutFor Put all rest

-- they were put behind the rows so far
abbrev pub AddsTracked : (FlatRow → Type 0) → shelves.Files → Id20 → Moment → Wanted → List FlatRow → List Row → List Row → Type 0
AddsTracked S files id moment wanted all old new = (more : List Row) × (new ≡ old ++ more) × ArePutFor (IsPutFor S files id moment wanted) all more

-- the row of a path without an entry, under a letter
abbrev pub untracked_row : Letter → List ℕ → Row
untracked_row letter path = record { letter = letter; path = path; source = None }

-- the letter that a state of ignore patterns gives a path without an entry
abbrev pub GivesLetter : List Piece → List ℕ → Letter → Type 0
GivesLetter state path letter = ((letter ≡ a_letter.I) × Ignored state path) ⊎ ((letter ≡ a_letter.Unknown) × (¬ (Ignored state path)))

-- the same, and the letter is asked for
abbrev pub Gives : Wanted → List Piece → List ℕ → Letter → Type 0
Gives wanted state path letter = IsTrue (wants wanted letter) × GivesLetter state path letter

-- the row of the letter that a state gives a path was put behind the rows so far, if the letter is asked for
pub record PutsLetter (wanted : Wanted) (state : List Piece) (path : List ℕ) (old new : List Row) : Type 0 where
  pub letter : Letter
  pub given : GivesLetter state path letter
  pub put : new ≡ old ++ rows_if (wants wanted letter) (untracked_row letter path)

-- so it was, unless the path has an entry
abbrev pub PutsUntracked : Bool → Wanted → List Piece → List ℕ → List Row → List Row → Type 0
PutsUntracked has wanted state path old new = MatchBool has (new ≡ old) (PutsLetter wanted state path old new)

-- a listing goes into a directory: it isn't ignored, or ignored paths are wanted
abbrev pub IsEntered : Wanted → List Piece → List ℕ → Type 0
IsEntered wanted state dir = wanted.i ≡ false → ¬ (Ignored state dir)

-- a stat shows a directory
abbrev pub shows_dir : Option Stat → Bool
shows_dir None = false
shows_dir (Some stat) = is_dir_kind stat.kind

-- a directory below the root is a repository of its own; the root isn't asked
abbrev pub holds_repository : Moment → Option (List ℕ) → Bool
holds_repository moment None = false
holds_repository moment (Some dir) = is_repository moment dir

-- a path stands in a directory at any depth, where no directory is the root
abbrev pub is_inside : Option (List ℕ) → List ℕ → Bool
is_inside None path = true
is_inside (Some dir) path = is_below dir path

-- a path is a directory or stands in it at any depth
abbrev pub is_from : Option (List ℕ) → List ℕ → Bool
is_from None path = true
is_from (Some dir) path = bytes_eq dir path || is_below dir path

-- no repository stands between a directory and a path, the directory included
abbrev pub IsVisibleFrom : Moment → Option (List ℕ) → List ℕ → Type 0
IsVisibleFrom moment dir path = (d : List ℕ) → IsTrue (is_from dir d) → IsTrue (is_below d path) → is_repository moment d ≡ false

-- a file or link without an entry
abbrev pub IsUntracked : Kept → Moment → List ℕ → Type 0
IsUntracked kept moment path = IsTrue (is_file_or_link (moment.things path)) × (kept path ≡ false)

-- a file or link without an entry in a directory, with no repository between
pub record IsUnknownIn (kept : Kept) (moment : Moment) (dir : Option (List ℕ)) (path : List ℕ) : Type 0 where
  pub inside : IsTrue (is_inside dir path)
  pub untracked : IsUntracked kept moment path
  pub visible : IsVisibleFrom moment dir path

-- the same at a path itself or below it
pub record IsUnknownFrom (kept : Kept) (moment : Moment) (from path : List ℕ) : Type 0 where
  pub inside : IsTrue (is_from (Some from) path)
  pub untracked : IsUntracked kept moment path
  pub visible : IsVisibleFrom moment (Some from) path

-- the same at one of some names of a directory, or below it
abbrev pub IsUnknownAmong : Kept → Moment → Option (List ℕ) → List (List ℕ) → List ℕ → Type 0
IsUnknownAmong kept moment dir names path =
    (name : List ℕ) × IsTrue (is_among name names) × IsUnknownFrom kept moment (joined dir name) path

-- a row of a path without an entry, under a letter that its path has by L
pub record IsUntrackedRow (kept : Kept) (L : List ℕ → Letter → Type 0) (row : Row) : Type 0 where
  pub is : row ≡ untracked_row row.letter row.path
  pub none : kept row.path ≡ false
  pub given : L row.path row.letter

-- rows of paths without an entry, under letters that they have by L; of the paths that meet S, just those that meet P, with each letter
pub record AreUnknown (kept : Kept) (L : List ℕ → Letter → Type 0) (S P : List ℕ → Type 0) (rows : List Row) : Type 0 where
  pub each : (row : Row) → Contains rows row → IsUntrackedRow kept L row
  pub sound : (row : Row) → Contains rows row → S row.path → P row.path
  pub all : (path : List ℕ) (letter : Letter) → S path → P path → L path letter → Contains rows (untracked_row letter path)

-- such rows were put behind the rows so far
abbrev pub ListsUnknown : Kept → (List ℕ → Letter → Type 0) → (List ℕ → Type 0) → (List ℕ → Type 0) → List Row → List Row → Type 0
ListsUnknown kept L S P old new = (more : List Row) × (new ≡ old ++ more) × AreUnknown kept L S P more

-- whether the directory is a repository of its own is as it was at the moment, for each path in it that meets S
abbrev pub HoldsFor : (List ℕ → Type 0) → Moment → Option (List ℕ) → Bool → Type 0
HoldsFor S moment dir holds = (path : List ℕ) → S path → IsTrue (is_inside dir path) → holds ≡ holds_repository moment dir
