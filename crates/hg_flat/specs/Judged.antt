-- The rows of tracked paths while a status is made, by any test of which paths are compared.
use Rattle.std.specs.Prelude.{ℕ, ◌≡◌, List, ◌++◌, Option}
use Rattle.hg_base.specs.declared.id.Id20.{Id20}
use Rattle.hg_tree.specs.History as trees
use Rattle.hg_tree.specs.Moment.{Moment}
use Rattle.hg_tree.specs.Still.{Untouched}
use Rattle.hg_shelf.specs.History as shelves
use Rattle.hg_flat.specs.Listing.{ArePutFor, letter_at, rows_under}
use Rattle.hg_flat.specs.Parent.{Asking, IsAsked, IsServed, KeepsRow}
use Rattle.hg_compare.specs.declared.letter.Letter.{Letter}
use Rattle.hg_listing.specs.declared.row.Row.{Row}
use Rattle.hg_listing.specs.declared.row.Wanted.{Wanted}
use Rattle.hg_flat.specs.declared.kept.FlatRow.{FlatRow}

-- nobody touches a path, and what the first parent has of it where it is compared at first is a store's
pub record IsLeftAsked (store : shelves.Files) (asks : Asking) (id : Id20) (copy : trees.History) (from : ℕ) (files : shelves.History) (since : ℕ) (path : List ℕ) : Type 0 where
  pub own : Untouched copy from path
  pub row : IsAsked asks (copy.at from) path → KeepsRow store files since id path

-- a letter that is found of an entry, or none: where its path meets S, what a comparison asks for is there, and under a premise it is the
-- letter at a moment, as far as that is wanted
pub record IsLetterBy (asks : Asking) (Premise : Type 0) (S : List ℕ → Type 0) (files : shelves.Files) (id : Id20) (moment : Moment) (wanted : Wanted) (kept : FlatRow) (letter : Option Letter) : Type 0 where
  pub right : Premise → S kept.path → rows_under wanted kept letter ≡ rows_under wanted kept (letter_at files id moment kept)
  pub served : S kept.path → IsAsked asks moment kept.path → IsServed files id moment kept.path

-- the rows that are put for an entry: those of a letter that is found of it
pub record IsPutBy (asks : Asking) (Premise : Type 0) (S : List ℕ → Type 0) (files : shelves.Files) (id : Id20) (moment : Moment) (wanted : Wanted) (kept : FlatRow) (rows : List Row) : Type 0 where
  pub letter : Option Letter
  pub one : rows ≡ rows_under wanted kept letter
  pub found : IsLetterBy asks Premise S files id moment wanted kept letter

-- such rows were put behind the rows so far, one entry behind another
abbrev pub AddsBy : Asking → Type 0 → (List ℕ → Type 0) → shelves.Files → Id20 → Moment → Wanted → List FlatRow → List Row → List Row → Type 0
AddsBy asks Premise S files id moment wanted all old new =
    (more : List Row) × (new ≡ old ++ more) × ArePutFor (IsPutBy asks Premise S files id moment wanted) all more
