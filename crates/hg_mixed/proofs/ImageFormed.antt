-- The table of an image is formed, and so is one over the image of which nothing is in memory.
use Rattle.std.proofs.Common.{ℕ, ◌≡◌, Bool, true, false, List, [], Option, Some, None, inl, inr, refl, sym, ap, ◌∙◌, subst, arith, true≢false}
use Rattle.std.specs.Prelude.{is_some}
use Rattle.std.specs.Option.{option_and_then, option_map}
use Rattle.std.specs.Str.{bytes_eq}
use Rattle.std.proofs.lemmas.Bool.{cases_Bool, cond-true, cond-false}
use Rattle.std.proofs.lemmas.List.{take_all}
use Rattle.hg_base.specs.Within.{is_above}
use Rattle.hg_base.proofs.Within.{equal_bytes}
use Rattle.hg_docket.specs.Docket.{Contents}
use Rattle.hg_docket.specs.Docket as docket
use Rattle.hg_entry.specs.Entry.{cache_of, entry_of, has_entry}
use Rattle.hg_entry.specs.Table.{Table}
use Rattle.hg_image.specs.Node.{fields_of}
use Rattle.hg_image.specs.Reading as reading
use Rattle.hg_image.specs.Reading.{row_at}
use Rattle.hg_image.specs.Rows.{Row, list_rows}
use Rattle.hg_image.specs.View.{dir_of, rows, rows_in}
use Rattle.hg_image.specs.Walk.{levels}
use Rattle.hg_image.specs.declared.opened.Image.{Image}
use Rattle.hg_image.specs.declared.opened.List.{List as NodeList}
use Rattle.hg_image.proofs.Sourced.{IsSourcedByEntry, list_sourced}
use Rattle.hg_nodes.specs.Edits.{IsFormed, IsSame}
use Rattle.hg_mixed.specs.Held.{merged, node_here}
use Rattle.hg_mixed.specs.Lent.{IsLentPut, IsNoneLent, covers, lent_at}
use Rattle.hg_mixed.specs.Own.{InMemory, memory_table}
use Rattle.hg_nodes.specs.Node.{node_at, source_in, source_text_in, text_in}
use Rattle.hg_mixed.specs.Opened.{node_of, source_place}
use Rattle.hg_mixed.specs.Parted.{ArePlaced, IsParted, image_rows, whole}
use Rattle.hg_mixed.proofs.Adding.{apart}
use Rattle.hg_image.proofs.Found.{row_each, row_is_path, row_rooted}
use Rattle.hg_mixed.proofs.Lents.{covered_by}
use Rattle.hg_mixed.proofs.WholeOf.{image_cache, image_entry, image_node, image_source}

-- ---- what rows say

no_entry : (o : Option Row) → is_some o ≡ false → option_and_then (λ r. entry_of (fields_of r.rec)) o ≡ None
no_entry None h = refl
no_entry (Some r) h = absurd (true≢false h)

no_source : (o : Option Row) → ((r : Row) → o ≡ Some r → IsSourcedByEntry r) → option_and_then (λ r. entry_of (fields_of r.rec)) o ≡ None → option_and_then (λ r. r.source) o ≡ None
no_source None sourced none = refl
no_source (Some r) sourced none = sourced r refl none

no_cache : (o : Option Row) → is_some (option_and_then (λ r. cache_of (fields_of r.rec)) o) ≡ true → (is_some o ≡ true) × (option_and_then (λ r. entry_of (fields_of r.rec)) o ≡ None)
no_cache None h = absurd (true≢false (sym h))
no_cache (Some r) h = (refl, apart (has_entry r.rec.flags) _ _ _ _ _ h)

-- the table of a list of the root is formed
pub image_formed : (docket : Contents) (list : NodeList) → dir_of list ≡ None → IsFormed (reading.table_of docket (rows_in list))
image_formed docket list root = record {
  paths = λ at h. row_is_path list at h;
  rooted = λ dir at below h. row_rooted list dir at (ap (λ (d : Option (List ℕ)). is_above d dir) root) below h;
  entries = λ at h. no_entry (row_at (rows_in list) at) h;
  sources = λ at h.
      no_source (row_at (rows_in list) at)
      (λ r is. row_each IsSourcedByEntry (rows_in list) at r (list_sourced list.depth list.bytes.now list.start list.count) is) h;
  caches = λ at h. no_cache (row_at (rows_in list) at) h;
}

-- ---- an image that is opened

-- all its bytes are used
pub used_rows : (image : Image) → image_rows image ≡ rows image
used_rows image = ap (λ (bytes : List ℕ). list_rows levels bytes image.docket.root_start image.docket.root_count) (take_all image.docket.used image.bytes.now (omega (arith, image.is_used)))

some_same : (a b : List Row) → Some a ≡ Some b → a ≡ b
some_same a b e = cc

module _ (docket : Contents) (all : List Row) (own : Table) where
  -- where all is the image's, the table is formed as that of the image
  every_formed : IsFormed (reading.table_of docket all) → IsFormed (merged (λ at. true) (reading.table_of docket all) own)
  every_formed formed = record {
    paths = formed.paths;
    rooted = formed.rooted;
    entries = formed.entries;
    sources = formed.sources;
    caches = formed.caches;
  }

  whole_formed : (left : List (List ℕ × List Row)) → ((at : List ℕ) → covers left at ≡ true) → IsFormed (reading.table_of docket all) → IsFormed (whole docket all left own)
  whole_formed left every formed =
      let same : covers left ≡ (λ (at : List ℕ). true) = λ k at. every at k in
      subst (λ (test : List ℕ → Bool). IsFormed (merged test (reading.table_of docket all) own)) (sym same) (every_formed formed)

module _ (image : Image) (root : NodeList) (is_root : dir_of root ≡ None) (all : rows_in root ≡ rows image) (before left : List (List ℕ × List Row)) (none : IsNoneLent before)
    (put : IsLentPut [] (Some (rows_in root)) before left) where
  -- all is the image's
  pub every : (at : List ℕ) → covers left at ≡ true
  every at = covered_by left [] at (ap is_some (put []) ∙ ap is_some (cond-true (bytes_eq [] []) (Some (rows_in root)) (lent_at before []) (equal_bytes []))) refl

  module _ (own : InMemory) (bare : (at : List ℕ) → node_at own.rows at ≡ None) where
    pub opened_parted : IsParted (docket.view image.docket) (image_rows image) left (memory_table own)
    opened_parted = record {
      lists = λ dir lent there at above. elim (cases_Bool (bytes_eq [] dir)) [
        | inl same ↦
            let is : lent ≡ rows_in root = some_same lent (rows_in root) (sym there ∙ put dir ∙ cond-true (bytes_eq [] dir) (Some (rows_in root)) (lent_at before dir) same) in
            ap (λ (r : List Row). row_at r at) (is ∙ all ∙ sym (used_rows image))
        | inr other ↦
            absurd (true≢false (ap is_some (sym there ∙ put dir ∙ cond-false (bytes_eq [] dir) (Some (rows_in root)) (lent_at before dir) other ∙ none dir)))
      ];
      placed = λ at dir node parent. absurd (true≢false (sym node ∙ ap is_some (bare at)));
      known = λ at node covered. absurd (true≢false (sym node ∙ ap is_some (bare at)));
      paths = λ at some. row_is_path root at (ap (λ (r : List Row). is_some (row_at r at)) (all ∙ sym (used_rows image)) ∙ some);
      formed = whole_formed (docket.view image.docket) (image_rows image) (memory_table own) left every
          (subst (λ (r : List Row). IsFormed (reading.table_of (docket.view image.docket) r)) (all ∙ sym (used_rows image)) (image_formed (docket.view image.docket) root is_root));
    }

    -- and the table is that of the image
    pub opened_same : own.p1 ≡ image.docket.p1.0 → own.p2 ≡ image.docket.p2.0 → own.hash ≡ image.docket.hash
        → IsSame (whole (docket.view image.docket) (image_rows image) left (memory_table own)) (reading.table_of (docket.view image.docket) (rows image))
    opened_same p1 p2 hash =
        let d : Contents = docket.view image.docket in
        let image_table : Table = reading.table_of d (image_rows image) in record {
          p1 = p1;
          p2 = p2;
          hash = hash;
          entries = λ at. image_entry left image_table (memory_table own) at (every at) ∙ ap (λ (r : List Row). (reading.table_of d r).entries at) (used_rows image);
          sources = λ at. image_source left image_table (memory_table own) at (every at) ∙ ap (λ (r : List Row). (reading.table_of d r).sources at) (used_rows image);
          nodes = λ at. image_node left image_table (memory_table own) at (every at) ∙ ap (λ (r : List Row). (reading.table_of d r).nodes at) (used_rows image);
          caches = λ at. image_cache left image_table (memory_table own) at (every at) ∙ ap (λ (r : List Row). (reading.table_of d r).caches at) (used_rows image);
        }

  -- each text lies where the image has it
  here_image : (own : InMemory) (at : List ℕ) → node_here (image_rows image) left own.rows at ≡ option_map node_of (row_at (image_rows image) at)
  here_image own at = cond-true (covers left at) (option_map node_of (row_at (image_rows image) at)) (node_at own.rows at) (every at)

  pub opened_placed : (own : InMemory) → ArePlaced (image_rows image) left own.rows
  opened_placed own at = record {
    text = λ some. ap text_in (here_image own at);
    source = λ some. (ap source_text_in (here_image own at), ap source_in (here_image own at));
  }

  text_of : (o : Option Row) → text_in (option_map node_of o) ≡ option_map (λ row. row.rec.path_start) o
  text_of None = refl
  text_of (Some row) = refl

  source_of : (o : Option Row) → source_text_in (option_map node_of o) ≡ option_and_then source_place o
  source_of None = refl
  source_of (Some row) = refl

  pub opened_text : (own : InMemory) (at : List ℕ) → text_in (node_here (image_rows image) left own.rows at) ≡ option_map (λ row. row.rec.path_start) (row_at (rows image) at)
  opened_text own at =
      ap text_in (here_image own at) ∙ text_of (row_at (image_rows image) at) ∙ ap (λ (r : List Row). option_map (λ row. row.rec.path_start) (row_at r at)) (used_rows image)

  pub opened_source : (own : InMemory) (at : List ℕ) → source_text_in (node_here (image_rows image) left own.rows at) ≡ option_and_then source_place (row_at (rows image) at)
  opened_source own at =
      ap source_text_in (here_image own at) ∙ source_of (row_at (image_rows image) at) ∙ ap (λ (r : List Row). option_and_then source_place (row_at r at)) (used_rows image)
