-- The places of the texts that are lent, through what is taken and edited.
use Rattle.std.proofs.Common.{ℕ, ◌≡◌, Bool, true, false, cond, not, inl, inr, List, Option, Some, None, refl, sym, ap, ◌∙◌, subst, true≢false}
use Rattle.std.specs.Prelude.{is_some}
use Rattle.std.specs.Option.{option_and_then, option_map}
use Rattle.std.specs.Map.{update}
use Rattle.std.specs.Str.{bytes_eq}
use Rattle.std.proofs.lemmas.Bool.{and_from, both_ways, cases_Bool, cond-false, cond-true, false_from_ne_true, not_from_false}
use Rattle.hg_base.specs.PathText.{is_below}
use Rattle.hg_base.proofs.Within.{same_bytes, within_itself}
use Rattle.hg_docket.specs.Docket.{Contents}
use Rattle.hg_entry.specs.Entry.{EntryData}
use Rattle.hg_image.specs.Reading.{row_at}
use Rattle.hg_image.specs.Reading as reading
use Rattle.hg_image.specs.Rows.{Row, rows_of}
use Rattle.hg_mixed.specs.Drop.{PlacesDrop}
use Rattle.hg_nodes.specs.Drop.{IsPruned, after_clear}
use Rattle.hg_mixed.specs.Edits.{ArePlacedAsBefore, PlacesCopy}
use Rattle.hg_nodes.specs.Edits.{IsSame, after_copy}
use Rattle.hg_mixed.specs.Held.{Held, node_here, node_in, table}
use Rattle.hg_mixed.specs.Lent.{covers}
use Rattle.hg_mixed.specs.Own.{InMemory, memory_table}
use Rattle.hg_nodes.specs.Memory.{AreCleared, IsSourceWritten}
use Rattle.hg_nodes.specs.Node.{AreSame, IsPut, NodeData, cleared, node_at, or_blank, planted, source_in, source_text_in, text_in, with_entry, with_source}
use Rattle.hg_mixed.specs.Opened.{node_of, source_place}
use Rattle.hg_mixed.specs.Parted.{ArePlaced, IsMoved, IsPlaced, whole}
use Rattle.hg_mixed.specs.Shown.{ArePlacesOfImage}
use Rattle.hg_nodes.proofs.Edited.{copy_stays, copy_was, same_trans}
use Rattle.hg_mixed.proofs.Covered.{way_free}
use Rattle.hg_mixed.proofs.Lifted.{copy_left, kept_table, own_entry, own_source, same_back, same_own}

-- ---- nodes with the same texts and the same source

pub record KeepsTexts (a b : Option NodeData) : Type 0 where
  pub text : text_in a ≡ text_in b
  pub source_text : source_text_in a ≡ source_text_in b
  pub source : source_in a ≡ source_in b

same_node : (a b : Option NodeData) → a ≡ b → KeepsTexts a b
same_node a b same = record { text = ap text_in same; source_text = ap source_text_in same; source = ap source_in same }

keeps_trans : (a b c : Option NodeData) → KeepsTexts a b → KeepsTexts b c → KeepsTexts a c
keeps_trans a b c p q = record { text = p.text ∙ q.text; source_text = p.source_text ∙ q.source_text; source = p.source ∙ q.source }

alike_placed : (image a b : Option NodeData) → KeepsTexts a b → IsPlaced image b → IsPlaced image a
alike_placed image a b keeps placed = record {
  text = λ some. keeps.text ∙ placed.text (sym (ap is_some keeps.text) ∙ some);
  source = λ some.
      let had = placed.source (sym (ap is_some keeps.source_text) ∙ some) in (keeps.source_text ∙ had.0, keeps.source ∙ had.1);
}

-- where no source is, none is lent
placed_none : (row : Option Row) (now : Option NodeData) → IsPlaced (option_map node_of row) now → source_in now ≡ None → source_text_in now ≡ None
placed_none row now placed none = by_text (source_text_in now) refl
  where
    of_image : (r : Option Row) → source_in (option_map node_of r) ≡ None → source_text_in (option_map node_of r) ≡ None
    of_image None h = refl
    of_image (Some r) h = ap (option_map (λ source. r.rec.copy_start)) h

    by_text : (o : Option ℕ) → source_text_in now ≡ o → o ≡ None
    by_text None is = refl
    by_text (Some place) is =
        let had = placed.source (ap is_some is) in
        sym is ∙ had.0 ∙ of_image row (sym had.1 ∙ none)

here_keeps : (covered : Bool) (image a b : Option NodeData) → KeepsTexts a b → KeepsTexts (cond covered image a) (cond covered image b)
here_keeps true image a b keeps = same_node image image refl
here_keeps false image a b keeps = keeps

blank_keeps : (o : Option NodeData) → KeepsTexts (Some (or_blank o)) o
blank_keeps None = record { text = refl; source_text = refl; source = refl }
blank_keeps (Some node) = same_node (Some node) (Some node) refl

planted_keeps : (b c : Bool) (entry : EntryData) (first o : Option NodeData) → (b ≡ true → first ≡ o) → KeepsTexts (cond b (Some (with_entry entry first)) (cond c (Some (or_blank o)) o)) o
planted_keeps true c entry first o is = record { text = ap text_in (is refl); source_text = ap source_text_in (is refl); source = ap source_in (is refl) }
planted_keeps false true entry first o is = blank_keeps o
planted_keeps false false entry first o is = same_node o o refl

-- ---- of a table that is opened

pub places_of : (old was : Held) → was ≡ old → (new : Held) → ((at : List ℕ) → KeepsTexts (node_in new at) (node_in was at)) → ArePlacedAsBefore old new
places_of old was same new keeps = subst (λ (h : Held). ArePlacedAsBefore h new) same (record { texts = λ at. (keeps at).text; sources = λ at. (keeps at).source_text })

-- what is known of the nodes, of the table
module _ (held : Held) (placed : ArePlaced (rows_of held.docket held.bytes) held.left held.rows) where
  text_of : (o : Option Row) → text_in (option_map node_of o) ≡ option_map (λ row. row.rec.path_start) o
  text_of None = refl
  text_of (Some row) = refl

  source_text_of : (o : Option Row) → source_text_in (option_map node_of o) ≡ option_and_then source_place o
  source_text_of None = refl
  source_text_of (Some row) = refl

  source_of : (o : Option Row) → source_in (option_map node_of o) ≡ option_and_then (λ row. row.source) o
  source_of None = refl
  source_of (Some row) = refl

  of_node : (covered : Bool) (r : Option Row) (o : Option NodeData) → cond covered (option_and_then (λ row. row.source) r) (source_in o) ≡ source_in (cond covered (option_map node_of r) o)
  of_node true r o = sym (source_of r)
  of_node false r o = refl

  held_places : ArePlacesOfImage held
  held_places = record {
    texts = λ at some. (placed at).text some ∙ text_of (row_at (rows_of held.docket held.bytes) at);
    sources = λ at some.
        let had = (placed at).source some in
        let row = row_at (rows_of held.docket held.bytes) at in
        (had.0 ∙ source_text_of row, of_node (covers held.left at) row (node_at held.rows at) ∙ had.1 ∙ source_of row);
  }

pub places_image : (old was : Held) → was ≡ old → ArePlaced (rows_of was.docket was.bytes) was.left was.rows → ArePlacesOfImage old
places_image old was same placed = subst ArePlacesOfImage same (held_places was placed)

-- ---- an edit after lists were taken

module _ (docket : Contents) (rows : List Row) (first left : List (List ℕ × List Row)) (was own new : InMemory) (moved : IsMoved docket rows first was left own) where
  abbrev image : List ℕ → Option NodeData
  image at = option_map node_of (row_at rows at)

  pub placed_moved : ArePlaced rows first was.rows → ArePlaced rows left own.rows
  placed_moved placed at = subst (IsPlaced (image at)) (sym (moved.nodes at)) (placed at)

  -- nodes that keep their texts
  keeps_after : ((at : List ℕ) → KeepsTexts (node_at new.rows at) (node_at own.rows at)) → (at : List ℕ) → KeepsTexts (node_here rows left new.rows at) (node_here rows first was.rows at)
  keeps_after keeps at =
      keeps_trans (node_here rows left new.rows at) (node_here rows left own.rows at) (node_here rows first was.rows at)
      (here_keeps (covers left at) (image at) (node_at new.rows at) (node_at own.rows at) (keeps at))
      (same_node (node_here rows left own.rows at) (node_here rows first was.rows at) (moved.nodes at))

  placed_after : ((at : List ℕ) → KeepsTexts (node_here rows left new.rows at) (node_here rows first was.rows at)) → ArePlaced rows first was.rows → ArePlaced rows left new.rows
  placed_after keeps placed at = alike_placed (image at) (node_here rows left new.rows at) (node_here rows first was.rows at) (keeps at) (placed at)

  -- the same nodes
  pub same_keeps : AreSame own.rows new.rows → (at : List ℕ) → KeepsTexts (node_here rows left new.rows at) (node_here rows first was.rows at)
  same_keeps same = keeps_after (λ at. same_node (node_at new.rows at) (node_at own.rows at) (same at))

  pub same_nodes : AreSame own.rows new.rows → (at : List ℕ) → node_here rows left new.rows at ≡ node_here rows first was.rows at
  same_nodes same at = ap (cond (covers left at) (image at)) (same at) ∙ moved.nodes at

  pub same_placed : AreSame own.rows new.rows → ArePlaced rows first was.rows → ArePlaced rows left new.rows
  same_placed same = placed_after (same_keeps same)

  -- an entry that was set
  module _ (path : List ℕ) (entry : EntryData) (nodes : (at : List ℕ) → node_at new.rows at ≡ planted path (with_entry entry (node_at own.rows path)) (node_at own.rows) at) where
    pub set_keeps : (at : List ℕ) → KeepsTexts (node_here rows left new.rows at) (node_here rows first was.rows at)
    set_keeps = keeps_after (λ at.
        subst (λ (n : Option NodeData). KeepsTexts n (node_at own.rows at)) (sym (nodes at))
        (planted_keeps (bytes_eq path at) (is_below at path) entry (node_at own.rows path) (node_at own.rows at) (λ h. ap (node_at own.rows) (same_bytes path at h))))

    pub set_placed : ArePlaced rows first was.rows → ArePlaced rows left new.rows
    set_placed = placed_after set_keeps

  module _ (path : List ℕ) (free : covers left path ≡ false) where
    here_own : node_here rows left new.rows path ≡ node_at new.rows path
    here_own = cond-false (covers left path) (image path) (node_at new.rows path) free

    not_path : (at : List ℕ) → covers left at ≡ true → bytes_eq path at ≡ false
    not_path at covered = false_from_ne_true (bytes_eq path at) (λ here. both_ways (covers left at) (sym (ap (covers left) (same_bytes path at here)) ∙ free) covered)

    -- a copy source that was written
    module _ (source : Option (List ℕ)) (written : IsSourceWritten path source own.rows new.rows) where
      put_text : (b : Bool) (o : Option NodeData) → (b ≡ true → node_at own.rows path ≡ o) → text_in (cond b (Some (with_source source (node_at own.rows path))) o) ≡ text_in o
      put_text true o is = ap text_in (is refl)
      put_text false o is = refl

      put_source_text : (b : Bool) (o : Option NodeData) → source_text_in (cond b (Some (with_source source (node_at own.rows path))) o) ≡ cond b None (source_text_in o)
      put_source_text true o = refl
      put_source_text false o = refl

      own_text : (at : List ℕ) → text_in (node_at new.rows at) ≡ text_in (node_at own.rows at)
      own_text at = elim written [
        | inl kept ↦ ap text_in (kept.1 at)
        | inr put ↦ ap text_in (put.1 at) ∙ put_text (bytes_eq path at) (node_at own.rows at) (λ h. ap (node_at own.rows) (same_bytes path at h))
      ]

      text_step : (covered : Bool) (i a b : Option NodeData) → text_in a ≡ text_in b → text_in (cond covered i a) ≡ text_in (cond covered i b)
      text_step true i a b e = refl
      text_step false i a b e = e

      copy_text : (at : List ℕ) → text_in (node_here rows left new.rows at) ≡ text_in (node_here rows first was.rows at)
      copy_text at = text_step (covers left at) (image at) (node_at new.rows at) (node_at own.rows at) (own_text at) ∙ ap text_in (moved.nodes at)

      source_step : (covered here : Bool) (i a b : Option NodeData) → (covered ≡ true → here ≡ false) → source_text_in a ≡ cond here None (source_text_in b)
          → source_text_in (cond covered i a) ≡ cond here None (source_text_in (cond covered i b))
      source_step true here i a b apart e = sym (cond-false here None (source_text_in i) (apart refl))
      source_step false here i a b apart e = e

      copy_source : IsPut path (Some (with_source source (node_at own.rows path))) own.rows new.rows → (at : List ℕ)
          → source_text_in (node_here rows left new.rows at) ≡ update bytes_eq (λ (p : List ℕ). source_text_in (node_here rows first was.rows p)) path None at
      copy_source put at =
          source_step (covers left at) (bytes_eq path at) (image at) (node_at new.rows at) (node_at own.rows at) (not_path at)
          (ap source_text_in (put at) ∙ put_source_text (bytes_eq path at) (node_at own.rows at))
          ∙ ap (λ (n : Option NodeData). cond (bytes_eq path at) None (source_text_in n)) (moved.nodes at)

      pub copy_placed : ArePlaced rows first was.rows → ArePlaced rows left new.rows
      copy_placed placed at = elim written [
        | inl kept ↦ same_placed kept.1 placed at
        | inr put ↦ record {
          text = λ some. copy_text at ∙ (placed at).text (sym (ap is_some (copy_text at)) ∙ some);
          source = λ some. put_case put.1 (bytes_eq path at) refl some;
        }
      ]
        where
          none_some : (o : Option ℕ) → o ≡ None → is_some o ≡ true → ⊥
          none_some o none some = true≢false (sym some ∙ ap is_some none)

          put_case : IsPut path (Some (with_source source (node_at own.rows path))) own.rows new.rows → (b : Bool) → bytes_eq path at ≡ b → is_some (source_text_in (node_here rows left new.rows at)) ≡ true
              → (source_text_in (node_here rows left new.rows at) ≡ source_text_in (image at)) × (source_in (node_here rows left new.rows at) ≡ source_in (image at))
          put_case put true here some =
              absurd (none_some (source_text_in (node_here rows left new.rows at))
              (copy_source put at ∙ cond-true (bytes_eq path at) None (source_text_in (node_here rows first was.rows at)) here) some)
          put_case put false other some =
              let node : node_here rows left new.rows at ≡ node_here rows first was.rows at =
              ap (cond (covers left at) (image at)) (put at ∙ cond-false (bytes_eq path at) (Some (with_source source (node_at own.rows path))) (node_at own.rows at) other) ∙ moved.nodes at in
              let had = (placed at).source (sym (ap (λ (n : Option NodeData). is_some (source_text_in n)) node) ∙ some) in
              (ap source_text_in node ∙ had.0, ap source_in node ∙ had.1)

      module _ (same : IsSame (memory_table new) (after_copy path source (memory_table own))) where
        -- the table is as it was exactly where the source is
        same_source : IsSame (whole docket rows left (memory_table new)) (whole docket rows first (memory_table was)) → source_in (node_at own.rows path) ≡ source
        same_source tables =
            copy_was path source (memory_table own) (memory_table new) same
            (same_own (covers left) (reading.table_of docket rows) (memory_table own) (memory_table new)
            (copy_left (covers left) (reading.table_of docket rows) (memory_table own) (memory_table new) path (λ at way. way_free left path free at way) source same)
            (same_trans (whole docket rows left (memory_table new)) (whole docket rows first (memory_table was)) (whole docket rows left (memory_table own)) tables
            (same_back (whole docket rows left (memory_table own)) (whole docket rows first (memory_table was)) moved.same)))

        table_same : source_in (node_at own.rows path) ≡ source → IsSame (whole docket rows left (memory_table new)) (whole docket rows first (memory_table was))
        table_same is = kept_table docket rows first left was own new moved (copy_stays path source (memory_table own) (memory_table new) same is)

        pub copy_places : (old held : Held) → held ≡ old → (now : Held) → ((at : List ℕ) → node_in now at ≡ node_here rows left new.rows at) → ((at : List ℕ) → node_in held at ≡ node_here rows first was.rows at)
            → (IsSame (table now) (table held) → IsSame (whole docket rows left (memory_table new)) (whole docket rows first (memory_table was)))
            → (IsSame (whole docket rows left (memory_table new)) (whole docket rows first (memory_table was)) → IsSame (table now) (table held))
            → PlacesCopy path (IsSame (table now) (table old)) old now
        copy_places old held is now as_new as_was there back = subst (λ (h : Held). PlacesCopy path (IsSame (table now) (table h)) h now) is (record {
          texts = λ at. ap text_in (as_new at) ∙ copy_text at ∙ sym (ap text_in (as_was at));
          kept = λ p at. elim written [
            | inl kept ↦ ap source_text_in (as_new at) ∙ ap source_text_in (same_nodes kept.1 at) ∙ sym (ap source_text_in (as_was at))
            | inr put ↦ absurd (put.0 (same_source (there p)))
          ];
          changed = λ not_same at. elim written [
            | inl kept ↦ absurd (not_same (back (table_same kept.0)))
            | inr put ↦
                ap source_text_in (as_new at) ∙ copy_source put.1 at ∙ sym (ap (λ (n : Option NodeData). cond (bytes_eq path at) None (source_text_in n)) (as_was at))
          ];
        })

    -- an entry that was dropped
    module _ (placed : ArePlaced rows first was.rows) (gone : AreCleared path own.rows new.rows) where
      cleared_text : (b : Bool) (o : Option NodeData) → (b ≡ true → node_at own.rows path ≡ o) → text_in (cond b (Some (cleared (node_at own.rows path))) o) ≡ text_in o
      cleared_text true o is = ap text_in (is refl)
      cleared_text false o is = refl

      cleared_source : (b : Bool) (o : Option NodeData) → source_text_in (cond b (Some (cleared (node_at own.rows path))) o) ≡ cond b None (source_text_in o)
      cleared_source true o = refl
      cleared_source false o = refl

      text_by : (n : Option NodeData) (at : List ℕ) → node_at new.rows at ≡ n → text_in n ≡ cond (is_some n) (text_in (node_at own.rows at)) None
      text_by None at is = refl
      text_by (Some node) at is =
          ap text_in (sym is ∙ gone at (ap is_some is)) ∙ cleared_text (bytes_eq path at) (node_at own.rows at) (λ h. ap (node_at own.rows) (same_bytes path at h))

      image_text : (r : Option Row) → text_in (option_map node_of r) ≡ cond (is_some r) (text_in (option_map node_of r)) None
      image_text None = refl
      image_text (Some r) = refl

      row_step : (covered : Bool) (r : Option Row) (a b : Option NodeData) → text_in a ≡ cond (is_some a) (text_in b) None
          → text_in (cond covered (option_map node_of r) a) ≡ cond (cond covered (is_some r) (is_some a)) (text_in (cond covered (option_map node_of r) b)) None
      row_step true r a b e = image_text r
      row_step false r a b e = e

      drop_text : (at : List ℕ)
          → text_in (node_here rows left new.rows at) ≡ cond ((whole docket rows left (memory_table new)).nodes at) (text_in (node_here rows first was.rows at)) None
      drop_text at =
          row_step (covers left at) (row_at rows at) (node_at new.rows at) (node_at own.rows at) (text_by (node_at new.rows at) at refl)
          ∙ ap (λ (n : Option NodeData). cond ((whole docket rows left (memory_table new)).nodes at) (text_in n) None) (moved.nodes at)

      pub drop_placed : ArePlaced rows left new.rows
      drop_placed at = elim (cases_Bool (covers left at)) [
        | inl covered ↦
            subst (IsPlaced (image at)) (sym (cond-true (covers left at) (image at) (node_at new.rows at) covered ∙ sym (cond-true (covers left at) (image at) (node_at own.rows at) covered) ∙ moved.nodes at)) (placed at)
        | inr bare ↦
            subst (IsPlaced (image at)) (sym (cond-false (covers left at) (image at) (node_at new.rows at) bare))
            (by_node (node_at new.rows at) refl
            (subst (IsPlaced (image at)) (cond-false (covers left at) (image at) (node_at own.rows at) bare) (placed_moved placed at)))
      ]
        where
          of_cleared : (b : Bool) (node : NodeData) → (b ≡ true → node_at own.rows path ≡ node_at own.rows at) → Some node ≡ cond b (Some (cleared (node_at own.rows path))) (node_at own.rows at)
              → IsPlaced (image at) (node_at own.rows at) → IsPlaced (image at) (Some node)
          of_cleared true node here is had = subst (IsPlaced (image at)) (sym is) (record {
            text = λ some. ap text_in (here refl) ∙ had.text (sym (ap (λ (n : Option NodeData). is_some (text_in n)) (here refl)) ∙ some);
            source = λ some. absurd (true≢false (sym some));
          })
          of_cleared false node here is had = subst (IsPlaced (image at)) (sym is) had

          by_node : (n : Option NodeData) → node_at new.rows at ≡ n → IsPlaced (image at) (node_at own.rows at) → IsPlaced (image at) n
          by_node None is had = record { text = λ some. absurd (true≢false (sym some)); source = λ some. absurd (true≢false (sym some)) }
          by_node (Some node) is had =
              of_cleared (bytes_eq path at) node (λ h. ap (node_at own.rows) (same_bytes path at h)) (sym is ∙ gone at (ap is_some is)) had

      module _ (p : IsPruned path (after_clear path (memory_table own)) (memory_table new)) where
        -- a node that went had no source
        gone_none : (at : List ℕ) → covers left at ≡ false → bytes_eq path at ≡ false → node_at new.rows at ≡ None → source_text_in (node_at own.rows at) ≡ None
        gone_none at bare other none = by_node (node_at own.rows at) refl
          where
            was_gone : is_some (node_at own.rows at) ≡ true → p.gone at ≡ true
            was_gone node = by_test (p.gone at) refl
              where
                by_test : (b : Bool) → p.gone at ≡ b → p.gone at ≡ true
                by_test true is = is
                by_test false is =
                    absurd (true≢false (sym (p.nodes at ∙ and_from (is_some (node_at own.rows at)) (not (p.gone at)) node (not_from_false (p.gone at) is)) ∙ ap is_some none))

            no_entry : is_some (node_at own.rows at) ≡ true → (memory_table own).entries at ≡ None
            no_entry node =
                sym (cond-false (bytes_eq path at) None ((memory_table own).entries at) other) ∙ ((p.goes at (was_gone node)).alone at (within_itself at) node).1

            here : node_here rows left own.rows at ≡ node_at own.rows at
            here = cond-false (covers left at) (image at) (node_at own.rows at) bare

            no_source : is_some (node_at own.rows at) ≡ true → source_in (node_at own.rows at) ≡ None
            no_source node =
                sym (own_source docket rows left (memory_table own) at bare) ∙ moved.parted.formed.sources at (own_entry docket rows left (memory_table own) at bare ∙ no_entry node)

            by_node : (n : Option NodeData) → node_at own.rows at ≡ n → source_text_in n ≡ None
            by_node None is = refl
            by_node (Some node) is =
                ap source_text_in (sym is)
                ∙ placed_none (row_at rows at) (node_at own.rows at) (subst (IsPlaced (image at)) here (placed_moved placed at)) (no_source (ap is_some is))

        source_by : (n : Option NodeData) (at : List ℕ) → covers left at ≡ false → node_at new.rows at ≡ n → source_text_in n ≡ cond (bytes_eq path at) None (source_text_in (node_at own.rows at))
        source_by None at bare is = elim (cases_Bool (bytes_eq path at)) [
          | inl here ↦ sym (cond-true (bytes_eq path at) None (source_text_in (node_at own.rows at)) here)
          | inr other ↦ sym (cond-false (bytes_eq path at) None (source_text_in (node_at own.rows at)) other ∙ gone_none at bare other is)
        ]
        source_by (Some node) at bare is = ap source_text_in (sym is ∙ gone at (ap is_some is)) ∙ cleared_source (bytes_eq path at) (node_at own.rows at)

        drop_source : (at : List ℕ) → source_text_in (node_here rows left new.rows at) ≡ update bytes_eq (λ (q : List ℕ). source_text_in (node_here rows first was.rows q)) path None at
        drop_source at = elim (cases_Bool (covers left at)) [
          | inl covered ↦
              ap source_text_in (cond-true (covers left at) (image at) (node_at new.rows at) covered ∙ sym (cond-true (covers left at) (image at) (node_at own.rows at) covered) ∙ moved.nodes at)
              ∙ sym (cond-false (bytes_eq path at) None (source_text_in (node_here rows first was.rows at)) (not_path at covered))
          | inr bare ↦
              ap source_text_in (cond-false (covers left at) (image at) (node_at new.rows at) bare)
              ∙ source_by (node_at new.rows at) at bare refl
              ∙ ap (λ (n : Option NodeData). cond (bytes_eq path at) None (source_text_in n)) (sym (cond-false (covers left at) (image at) (node_at own.rows at) bare) ∙ moved.nodes at)
        ]

        pub drop_places : (old held : Held) → held ≡ old → (now : Held) → ((at : List ℕ) → node_in now at ≡ node_here rows left new.rows at) → ((at : List ℕ) → node_in held at ≡ node_here rows first was.rows at)
            → ((at : List ℕ) → (table now).nodes at ≡ (whole docket rows left (memory_table new)).nodes at) → PlacesDrop path old now
        drop_places old held is now as_new as_was nodes = subst (λ (h : Held). PlacesDrop path h now) is (record {
          texts = λ at.
              ap text_in (as_new at)
              ∙ drop_text at
              ∙ ap (λ (b : Bool). cond b (text_in (node_here rows first was.rows at)) None) (sym (nodes at))
              ∙ ap (λ (n : Option NodeData). cond ((table now).nodes at) (text_in n) None) (sym (as_was at));
          sources = λ at.
              ap source_text_in (as_new at) ∙ drop_source at ∙ sym (ap (λ (n : Option NodeData). cond (bytes_eq path at) None (source_text_in n)) (as_was at));
        })
