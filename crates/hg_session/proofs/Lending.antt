-- Which lists are lent of a table that was opened, and once it was changed.
use Rattle.std.proofs.Common.{ℕ, ◌≡◌, ◌≤◌, true, List, length, take, Option, sym, ap, ◌∙◌, subst, arith}
use Rattle.std.specs.Prelude.{option_map}
use Rattle.std.specs.Option.{option_and_then}
use Rattle.std.proofs.lemmas.List.{take_all}
use Rattle.hg_docket.specs.Docket.{Contents, view}
use Rattle.hg_entry.specs.Table.{Table}
use Rattle.hg_image.specs.Reading.{row_at, table_of}
use Rattle.hg_image.specs.Rows.{Row, list_rows, rows_of}
use Rattle.hg_image.specs.View.{rows}
use Rattle.hg_image.specs.Walk.{levels}
use Rattle.hg_image.specs.declared.opened.Image.{Image}
use Rattle.hg_nodes.specs.Edits.{IsSame}
use Rattle.hg_mixed.specs.Held.{Held, has_list, image_table, is_lent, table}
use Rattle.hg_mixed.specs.Opened.{source_place}
use Rattle.hg_mixed.specs.Shown.{AreLentWhole, ArePlacesOf}
use Rattle.hg_save.specs.Over.{IsLentRight}
use Rattle.hg_session.proofs.SameTables.{one_table}
use Rattle.hg_session.specs.Kept.{IsSameBelow, KeepsLent}
use Rattle.hg_session.specs.Ways.{LendsUnchanged}

-- ---- a table that was opened over an image

-- the image has no more bytes than its docket uses
pub few_bytes : (image : Image) (docket : Contents) (nodes : List ℕ) → view image.docket ≡ docket → image.bytes.now ≡ take docket.used nodes → length nodes ≤ docket.used → length image.bytes.now ≤ (view image.docket).used
few_bytes image docket nodes is bytes most =
    let all : length image.bytes.now ≡ length nodes = ap length (bytes ∙ take_all docket.used nodes most) in
    let used : (view image.docket).used ≡ docket.used = ap (λ (c : Contents). c.used) is in
    omega (arith, all, used, most)

module _ (image : Image) (opened : Held) (docket : opened.docket ≡ view image.docket) (bytes : opened.bytes ≡ image.bytes.now) (few : length image.bytes.now ≤ (view image.docket).used) where
  rows_same : rows_of opened.docket opened.bytes ≡ rows image
  rows_same = (λ i. rows_of (docket i) (bytes i)) ∙ ap (λ (l : List ℕ). list_rows levels l image.docket.root_start image.docket.root_count) (take_all (view image.docket).used image.bytes.now few)

  pub image_same : IsSame (table opened) (table_of (view image.docket) (rows image)) → IsSame (table opened) (image_table opened)
  image_same same = subst (IsSame (table opened)) (λ i. table_of (sym docket i) (sym rows_same i)) same

  pub lists_same : ((dir : Option (List ℕ)) → is_lent opened dir ≡ has_list (rows image) dir) → (dir : Option (List ℕ)) → is_lent opened dir ≡ has_list (rows_of opened.docket opened.bytes) dir
  lists_same lent dir = lent dir ∙ ap (λ (l : List Row). has_list l dir) (sym rows_same)

  pub places_same : ArePlacesOf (rows image) opened → ArePlacesOf (rows_of opened.docket opened.bytes) opened
  places_same placed = subst (λ (l : List Row). ArePlacesOf l opened) (sym rows_same) placed

-- ---- and one that was changed since

-- what is lent below is as the image has it
ended_by : (held : Held) → AreLentWhole held → (dir : Option (List ℕ)) → is_lent held dir ≡ true → IsSameBelow dir (image_table held) (table held)
ended_by held whole dir lent = record {
  nodes = λ at above. ((whole dir lent).each at above).node;
  entries = λ at above. ((whole dir lent).each at above).entry;
  sources = λ at above. ((whole dir lent).each at above).source;
  caches = λ at above. ((whole dir lent).each at above).cache;
}

module _ (opened made : Held) (docket : made.docket ≡ opened.docket) (bytes : made.bytes ≡ opened.bytes) (image : IsSame (table opened) (image_table opened))
    (lent : (dir : Option (List ℕ)) → is_lent opened dir ≡ has_list (rows_of opened.docket opened.bytes) dir) (placed : ArePlacesOf (rows_of opened.docket opened.bytes) opened) (keeps : KeepsLent opened made) where
  rows_kept : rows_of made.docket made.bytes ≡ rows_of opened.docket opened.bytes
  rows_kept = λ i. rows_of (docket i) (bytes i)

  opened_is : image_table made ≡ table opened
  opened_is = (λ i. table_of (docket i) (rows_kept i)) ∙ sym (one_table (table opened) (image_table opened) image)

  pub lends_by : IsLentRight made → LendsUnchanged made
  lends_by whole = record {
    kept = λ dir same.
        keeps.lists dir (subst (λ (t : Table). IsSameBelow dir t (table made)) opened_is same) ∙ lent dir ∙ ap (λ (l : List Row). has_list l dir) (sym rows_kept);
    ended = ended_by made whole.lists;
    places = whole.places;
    texts = λ at had has.
        keeps.texts.texts at (sym (ap (λ (t : Table). t.nodes at) opened_is) ∙ had) has ∙ placed.texts at ∙ ap (λ (l : List Row). option_map (λ row. row.rec.path_start) (row_at l at)) (sym rows_kept);
    sources = λ at source had has.
        keeps.texts.sources at source (sym (ap (λ (t : Table). t.sources at) opened_is) ∙ had) has ∙ placed.sources at ∙ ap (λ (l : List Row). option_and_then source_place (row_at l at)) (sym rows_kept);
  }
