-- What a status asks below `.hg`: the manifest of the first parent once at most, and behind it contents that its rows name.
use Rattle.std.specs.Prelude.{ℕ, ◌≡◌, ◌⊎◌, List, [], ◌++◌, length, take, Option, Some, Ok}
use Rattle.std.specs.List.{AllByRecursion}
use Rattle.hg_compare.specs.Alike.{contents_name}
use Rattle.hg_compare.specs.Same.{IsPieceOf}
use Rattle.hg_flat.specs.Met.{Holds, Status, WasRead}
use Rattle.hg_flat.specs.Parent.{WasAsked, row_of}
use Rattle.hg_manifest.specs.Load.{asks_of}
use Rattle.hg_manifest.specs.Plain.{plain_name}
use Rattle.hg_manifest.specs.Rows.{Rows}
use Rattle.hg_manifest.specs.declared.row.FileRow.{FileRow}
use Rattle.hg_shelf.specs.declared.asked.Asked.{Asked}
use Rattle.hg_shelf.specs.declared.asked.Asked.TheVariants as an_ask

-- the size of the contents that a row names, or a piece of their bytes
abbrev pub IsContents : Option FileRow → Asked → Type 0
IsContents found ask =
    (row : FileRow) × (found ≡ Some row) × ((ask ≡ an_ask.Size (contents_name row.id.0)) ⊎ IsPieceOf (contents_name row.id.0) ask)

-- the same of the row that a path which was compared has in the manifest that was read
pub record IsOfRow (s : Status) (ask : Asked) : Type 0 where
  pub path : List ℕ
  pub asked : WasAsked s.asks s.tree_old s.tree_new path
  pub rows : Rows
  pub read : WasRead s (Ok rows)
  pub contents : IsContents (row_of rows path) ask

-- the manifest's size and then its bytes were asked for, of as many as its file had at a moment, or a front of that, if a path was compared; and behind the
-- whole of it nothing but such contents
pub record AsksStore (s : Status) : Type 0 where
  pub file : Option (List ℕ)
  pub was : Holds s (plain_name s.id.0) (λ f. f ≡ file)
  pub some : ℕ
  pub contents : List Asked
  pub asked : s.shelf_new.asked ≡ s.shelf_old.asked ++ take some (asks_of s.id file) ++ contents
  pub needed : (some ≡ 0) ⊎ ((path : List ℕ) × WasAsked s.asks s.tree_old s.tree_new path)
  pub whole : (contents ≡ []) ⊎ (some ≡ length (asks_of s.id file))
  pub each : AllByRecursion (IsOfRow s) contents
