-- The full listing of a status: every path with its letter, by looking at every tracked path and at everything that stands in the
-- working copy (help topic `status`). No recorded times, no directories passed over.
use Rattle.std.specs.Prelude.{ℕ, ◌≡◌, ◌⊎◌, Bool, true, false, List, map, Option, Some, None, IsTrue, is_some}
use Rattle.std.specs.List.{Contains, IsDistinct}
use Rattle.std.specs.Str.{bytes_eq}
use Rattle.std.specs.List.Sorted.{IsStrictlySortedBy}
use Rattle.hg_base.specs.PathText.{is_below}
use Rattle.hg_entry.specs.Table.{Flat, Marks}
use Rattle.hg_tree.specs.Moment.{Moment, is_dir}
use Rattle.hg_tree.specs.Still.{hg_in}
use Rattle.hg_compare.specs.Tracked.{ParentRow, tracked_letter, is_file_or_link}
use Rattle.hg_compare.specs.declared.letter.Letter.{Letter}
use Rattle.hg_compare.specs.declared.letter.Letter.TheVariants as a_letter
use Rattle.hg_listing.specs.Order.{row_order}
use Rattle.hg_listing.specs.declared.row.Row.{Row}
use Rattle.hg_listing.specs.declared.row.Wanted.{Wanted}

-- the directory is a repository of its own: a directory `.hg` stands in it
abbrev pub is_repository : Moment → List ℕ → Bool
is_repository moment dir = is_dir (moment.things (hg_in dir))

-- no proper ancestor below the root is a repository of its own
abbrev pub IsVisible : Moment → List ℕ → Type 0
IsVisible moment path = (dir : List ℕ) → IsTrue (is_below dir path) → is_repository moment dir ≡ false

-- the letter of a path without an entry: a visible file or link is ignored or unknown
abbrev pub HasUntrackedLetter : Moment → (List ℕ → Type 0) → List ℕ → Letter → Type 0
HasUntrackedLetter moment Ignored path letter =
    IsTrue (is_file_or_link (moment.things path)) × IsVisible moment path
    × (((letter ≡ a_letter.I) × Ignored path) ⊎ ((letter ≡ a_letter.Unknown) × (¬ (Ignored path))))

-- the letter of a path, by the marks of its entry where it has one
abbrev pub HasLetterBy : Option Marks → Flat → Moment → (List ℕ → Option ParentRow) → (List ℕ → Type 0) → List ℕ → Letter → Type 0
HasLetterBy None flat moment rows Ignored path letter = HasUntrackedLetter moment Ignored path letter
HasLetterBy (Some marks) flat moment rows Ignored path letter =
    tracked_letter (rows path) marks (is_some (flat.sources path)) (moment.things path) ≡ Some letter

-- the letter of a path: `rows` is what the first parent has of each path, `Ignored` which paths the ignore patterns match
abbrev pub HasLetter : Flat → Moment → (List ℕ → Option ParentRow) → (List ℕ → Type 0) → List ℕ → Letter → Type 0
HasLetter flat moment rows Ignored path letter = HasLetterBy (flat.marks path) flat moment rows Ignored path letter

-- the letter is asked for
abbrev pub wants : Wanted → Letter → Bool
wants wanted a_letter.M = wanted.m
wants wanted a_letter.A = wanted.a
wants wanted a_letter.R = wanted.r
wants wanted a_letter.Gone = wanted.d
wants wanted a_letter.Unknown = wanted.u
wants wanted a_letter.I = wanted.i
wants wanted a_letter.C = wanted.c

-- what a status without options wants
abbrev pub default_wanted : Wanted
default_wanted = record { m = true; a = true; r = true; d = true; u = true; i = false; c = false }

-- where there is no ignore pattern, no path is ignored
abbrev pub nothing_ignored : List ℕ → Type 0
nothing_ignored path = ⊥

-- a row tells a wanted letter of its path, and what the path was copied from
abbrev pub IsTold : Flat → Moment → (List ℕ → Option ParentRow) → (List ℕ → Type 0) → Wanted → Row → Type 0
IsTold flat moment rows Ignored wanted row =
    IsTrue (wants wanted row.letter) × HasLetter flat moment rows Ignored row.path row.letter × (row.source ≡ flat.sources row.path)

-- the full listing: a row for each path and wanted letter that it has, and no other, in order and no two alike
pub record IsFull (flat : Flat) (moment : Moment) (rows : List ℕ → Option ParentRow) (Ignored : List ℕ → Type 0) (wanted : Wanted) (listing : List Row) : Type 0 where
  pub sound : (row : Row) → Contains listing row → IsTold flat moment rows Ignored wanted row
  pub all : (row : Row) → IsTold flat moment rows Ignored wanted row → Contains listing row
  pub ascending : IsStrictlySortedBy row_order listing

-- the full listing, as far as it speaks of paths that meet S: each such path has exactly its rows. Whatever the others are, no two rows
-- are of one path, and they are in order
pub record IsFullFor (S : List ℕ → Type 0) (flat : Flat) (moment : Moment) (rows : List ℕ → Option ParentRow) (Ignored : List ℕ → Type 0) (wanted : Wanted) (listing : List Row) : Type 0 where
  pub sound : (row : Row) → Contains listing row → S row.path → IsTold flat moment rows Ignored wanted row
  pub all : (row : Row) → S row.path → IsTold flat moment rows Ignored wanted row → Contains listing row
  pub once : IsDistinct bytes_eq (map (λ row. row.path) listing)
  pub ascending : IsStrictlySortedBy row_order listing

-- two full listings of the same that ignore the same paths are equal, so that one may speak of the full listing
abbrev pub OneListing : (List ℕ → Type 0) → Type 0
OneListing Ignored = (flat : Flat) (moment : Moment) (rows : List ℕ → Option ParentRow) (wanted : Wanted) (a b : List Row)
    → IsFull flat moment rows Ignored wanted a → IsFull flat moment rows Ignored wanted b → a ≡ b
