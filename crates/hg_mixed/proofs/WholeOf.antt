-- What the table as a whole has at a path: what is in memory, or what the image has.
use Rattle.std.proofs.Common.{ℕ, ◌≡◌, true, false, List, Option, Some, None, refl, sym, ap, ◌∙◌}
use Rattle.std.specs.Prelude.{is_some}
use Rattle.std.specs.Option.{option_and_then, option_map}
use Rattle.std.proofs.lemmas.Bool.{cond-true, cond-false}
use Rattle.hg_docket.specs.Docket.{Contents}
use Rattle.hg_entry.specs.Entry.{EntryData, cache_of, entry_of}
use Rattle.hg_entry.specs.Table.{Table}
use Rattle.hg_image.specs.Node.{fields_of}
use Rattle.hg_image.specs.Reading as reading
use Rattle.hg_image.specs.Reading.{row_at}
use Rattle.hg_image.specs.Rows.{Row, rows_of}
use Rattle.hg_image.specs.View.{row}
use Rattle.hg_image.specs.declared.opened.NodeRef.{NodeRef}
use Rattle.hg_mixed.specs.Held.{Held, merged, node_in}
use Rattle.hg_mixed.specs.Lent.{IsInImage, covers}
use Rattle.hg_nodes.specs.Node.{node_at}
use Rattle.hg_mixed.specs.Opened.{node_of}
use Rattle.hg_mixed.specs.Parted.{IsParted, whole}
use Rattle.hg_nodes.specs.Shown.{shown_in}

pub mapped_some : {X Y : Type 0} (f : X → Y) (o : Option X) → is_some (option_map f o) ≡ is_some o
mapped_some f None = refl
mapped_some f (Some x) = refl

module _ (left : List (List ℕ × List Row)) (image own : Table) (at : List ℕ) where
  module _ (free : covers left at ≡ false) where
    pub own_entry : (merged (covers left) image own).entries at ≡ own.entries at
    own_entry = cond-false (covers left at) (image.entries at) (own.entries at) free

    pub own_source : (merged (covers left) image own).sources at ≡ own.sources at
    own_source = cond-false (covers left at) (image.sources at) (own.sources at) free

    pub own_node : (merged (covers left) image own).nodes at ≡ own.nodes at
    own_node = cond-false (covers left at) (image.nodes at) (own.nodes at) free

    pub own_cache : (merged (covers left) image own).caches at ≡ own.caches at
    own_cache = cond-false (covers left at) (image.caches at) (own.caches at) free

    pub own_shown : shown_in (merged (covers left) image own) at ≡ shown_in own at
    own_shown =
        ap (λ (s : Option (List ℕ)). option_map {U = EntryData × Option (List ℕ)} (λ entry. (entry, s)) ((merged (covers left) image own).entries at)) own_source
        ∙ ap (option_map {U = EntryData × Option (List ℕ)} (λ entry. (entry, own.sources at))) own_entry

  module _ (covered : covers left at ≡ true) where
    pub image_entry : (merged (covers left) image own).entries at ≡ image.entries at
    image_entry = cond-true (covers left at) (image.entries at) (own.entries at) covered

    pub image_source : (merged (covers left) image own).sources at ≡ image.sources at
    image_source = cond-true (covers left at) (image.sources at) (own.sources at) covered

    pub image_node : (merged (covers left) image own).nodes at ≡ image.nodes at
    image_node = cond-true (covers left at) (image.nodes at) (own.nodes at) covered

    pub image_cache : (merged (covers left) image own).caches at ≡ image.caches at
    image_cache = cond-true (covers left at) (image.caches at) (own.caches at) covered

    pub image_shown : shown_in (merged (covers left) image own) at ≡ shown_in image at
    image_shown =
        ap (λ (s : Option (List ℕ)). option_map {U = EntryData × Option (List ℕ)} (λ entry. (entry, s)) ((merged (covers left) image own).entries at)) image_source
        ∙ ap (option_map {U = EntryData × Option (List ℕ)} (λ entry. (entry, image.sources at))) image_entry

-- the node of the table with the places of its texts
module _ (held : Held) (at : List ℕ) where
  pub node_own : covers held.left at ≡ false → node_in held at ≡ node_at held.rows at
  node_own free = cond-false (covers held.left at) (option_map node_of (row_at (rows_of held.docket held.bytes) at)) (node_at held.rows at) free

  pub node_image : covers held.left at ≡ true → node_in held at ≡ option_map node_of (row_at (rows_of held.docket held.bytes) at)
  node_image covered = cond-true (covers held.left at) (option_map node_of (row_at (rows_of held.docket held.bytes) at)) (node_at held.rows at) covered

-- what a row of the image shows, none where there is none
shown_of : (o : Option Row) → option_map {U = EntryData × Option (List ℕ)} (λ entry. (entry, option_and_then (λ r. r.source) o)) (option_and_then (λ r. entry_of (fields_of r.rec)) o)
    ≡ option_and_then (λ r. option_map {U = EntryData × Option (List ℕ)} (λ entry. (entry, r.source)) (entry_of (fields_of r.rec))) o
shown_of None = refl
shown_of (Some r) = refl

module _ (docket : Contents) (rows : List Row) (left : List (List ℕ × List Row)) (own : Table) (parted : IsParted docket rows left own) (at : List ℕ) (node : Option NodeRef) (there : IsInImage left at node) where
  -- the row that a look into the image found
  pub row_found : row_at rows at ≡ option_map row node
  row_found = sym (there.found ∙ parted.lists there.dir there.rows there.there at there.above)

  pub found_shown : shown_in (whole docket rows left own) at ≡ option_and_then (λ r. option_map {U = EntryData × Option (List ℕ)} (λ entry. (entry, r.source)) (entry_of (fields_of r.rec))) (option_map row node)
  found_shown =
      image_shown left (reading.table_of docket rows) own at there.covered
      ∙ shown_of (row_at rows at)
      ∙ ap (option_and_then (λ r. option_map {U = EntryData × Option (List ℕ)} (λ entry. (entry, r.source)) (entry_of (fields_of r.rec)))) row_found

  pub found_cache : (whole docket rows left own).caches at ≡ option_and_then (λ r. cache_of (fields_of r.rec)) (option_map row node)
  found_cache = image_cache left (reading.table_of docket rows) own at there.covered ∙ ap (option_and_then (λ r. cache_of (fields_of r.rec))) row_found

  pub found_node : (whole docket rows left own).nodes at ≡ is_some node
  found_node = image_node left (reading.table_of docket rows) own at there.covered ∙ ap is_some row_found ∙ mapped_some row node
