-- What a listing says of the first parent, begun behind a load, is so from the start of the call.
use Rattle.std.proofs.Common.{ℕ, ◌≡◌, ◌≤◌, List, Option, Some, None, option_map, Result, IsTrue, IfSome, refl, sym, ap, ◌∙◌, arith}
use Rattle.hg_base.specs.declared.id.Id20.{Id20}
use Rattle.hg_compare.specs.Alike.{contents_name}
use Rattle.hg_compare.specs.Same.{parent_row}
use Rattle.hg_compare.specs.Tracked.{ParentRow}
use Rattle.hg_entry.specs.Table.{Flat, Table}
use Rattle.hg_listing.specs.Full.{IsFullFor}
use Rattle.hg_flat.specs.Parent.{KeepsRow, manifest_at, parent_rows, row_among}
use Rattle.hg_listing.specs.declared.row.Row.{Row}
use Rattle.hg_listing.specs.declared.row.Wanted.{Wanted}
use Rattle.hg_manifest.specs.Load.{manifest_in}
use Rattle.hg_manifest.specs.Plain.{plain_name}
use Rattle.hg_manifest.specs.Rows.{Rows}
use Rattle.hg_manifest.specs.declared.fault.ManifestFault.{ManifestFault}
use Rattle.hg_manifest.specs.declared.row.FileRow.{FileRow}
use Rattle.hg_shelf.specs.History as shelf
use Rattle.hg_shelf.specs.Polite.{KeepsPlain, StaysIn, StaysPlain, is_plain}
use Rattle.hg_tree.specs.History as tree
use Rattle.hg_tree.specs.Moment.{Moment}
use Rattle.hg_walk.specs.Walking.{IsLeftBy, first_id}

-- ---- files that are a store's

-- from a moment on, and from a later one
stays_later : (store : shelf.Files) (h : shelf.History) (since behind : ℕ) (name : List ℕ) → since ≤ behind → StaysIn store h since name → StaysIn store h behind name
stays_later store h since behind name order stays k from upto bytes is = stays k (omega (arith, order, from)) upto bytes is

pub plain_later : (store : shelf.Files) (h : shelf.History) (since behind : ℕ) → since ≤ behind → StaysPlain store h since → StaysPlain store h behind
plain_later store h since behind order keeps = record { told = keeps.told; each = λ name plain. stays_later store h since behind name order (keeps.each name plain) }

pub row_later : (store : shelf.Files) (h : shelf.History) (since behind : ℕ) (id : Id20) (path : List ℕ) → since ≤ behind → KeepsRow store h since id path → KeepsRow store h behind id path
row_later store h since behind id path order kept = record {
  told = kept.told;
  manifest = λ committed. stays_later store h since behind (plain_name id.0) order (kept.manifest committed);
  contents = each (row_among (manifest_at store id) path) kept.contents;
}
  where
    each : (o : Option FileRow) → IfSome o (λ row. StaysIn store h since (contents_name row.id.0)) → IfSome o (λ row. StaysIn store h behind (contents_name row.id.0))
    each None keeps = tt
    each (Some row) keeps = stays_later store h since behind (contents_name row.id.0) order keeps

-- where the shelf made no step each file is what it was
stays_last : (old new : shelf.History) → shelf.Extends old new → new.last ≡ old.last → (name : List ℕ) → StaysIn (shelf.now old).files new old.last name
stays_last old new past none name k from upto bytes is =
    let at : old.last ≡ k = omega (arith, from, upto, none) in
    sym (ap (λ (f : shelf.Files). f name) (past.stay old.last (omega arith)).shown) ∙ ap (λ (n : ℕ). (new.at n).files name) at ∙ is

pub row_kept : (old new : shelf.History) (id : Id20) (path : List ℕ) → shelf.Extends old new → new.last ≡ old.last → IsTrue old.told → KeepsRow (shelf.now old).files new old.last id path
row_kept old new id path past none told = record {
  told = past.told ∙ told;
  manifest = λ committed. stays_last old new past none (plain_name id.0);
  contents = each (row_among (manifest_at (shelf.now old).files id) path);
}
  where
    each : (o : Option FileRow) → IfSome o (λ row. StaysIn (shelf.now old).files new old.last (contents_name row.id.0))
    each None = tt
    each (Some row) = stays_last old new past none (contents_name row.id.0)

-- where the plain store stays, it is that of the start
pub kept_stays : (old new : shelf.History) → shelf.Extends old new → KeepsPlain new old.last → StaysPlain (shelf.now old).files new old.last
kept_stays old new past keeps = record {
  told = keeps.told;
  each = λ name plain k from upto bytes is. sym (ap (λ (f : shelf.Files). f name) (past.stay old.last (omega arith)).shown) ∙ sym (keeps.each name plain k from upto) ∙ is;
}

-- ---- the rows of the first parent

-- files of which the plain store is the same have the same of each path
pub rows_alike : (a b : shelf.Files) (id : Id20) (path : List ℕ) → ((name : List ℕ) → IsTrue (is_plain name) → a name ≡ b name) → parent_rows a id path ≡ parent_rows b id path
rows_alike a b id path same =
    ap (λ (r : Result Rows ManifestFault). option_map (λ row. parent_row row (a (contents_name row.id.0))) (row_among r path)) (ap (manifest_in id) (same (plain_name id.0) refl))
    ∙ by (row_among (manifest_at b id) path)
  where
    by : (o : Option FileRow) → option_map (λ row. parent_row row (a (contents_name row.id.0))) o ≡ option_map (λ row. parent_row row (b (contents_name row.id.0))) o
    by None = refl
    by (Some row) = ap (λ (file : Option (List ℕ)). Some (parent_row row file)) (same (contents_name row.id.0) refl)

-- ---- over a load

module _ (wanted : Wanted) (table : Table) (store : shelf.Files) (old new : tree.History) (start behind end : shelf.History) (before : shelf.Extends start behind) where
  abbrev Left : List ℕ → Type 0
  Left = IsLeftBy store wanted table new old.last end start.last

  abbrev LeftBehind : List ℕ → Type 0
  LeftBehind = IsLeftBy store wanted table new old.last end behind.last

  -- who touches nothing over the call touches nothing behind the load
  pub left_behind : (path : List ℕ) → Left path → LeftBehind path
  left_behind path left = record {
    own = left.own;
    row = λ is. row_later store end start.last behind.last (first_id table) path before.later (left.row is);
    patterns = left.patterns;
  }

  pub full_moved : (flat : Flat) (moment : Moment) (has : List ℕ → Option ParentRow) (Ignored : List ℕ → Type 0) (rows : List Row) → IsFullFor LeftBehind flat moment has Ignored wanted rows → IsFullFor Left flat moment has Ignored wanted rows
  full_moved flat moment has Ignored rows is = record {
    sound = λ row there left. is.sound row there (left_behind row.path left);
    all = λ row left. is.all row (left_behind row.path left);
    once = is.once;
    ascending = is.ascending;
  }
