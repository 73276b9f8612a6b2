-- The children of a directory in the table as a whole.
use Rattle.std.proofs.Common.{ℕ, ◌≡◌, Bool, true, false, cond, ◌||◌, List, [], ◌∷◌, map, inl, inr, Option, Some, None, refl, sym, ap, ◌∙◌, subst, true≢false, nat_cmp}
use Rattle.std.specs.Prelude.{is_some, MatchBool}
use Rattle.std.specs.List.{AllByRecursion, list_any}
use Rattle.std.specs.List.Sorted.{IsStrictlySortedBy}
use Rattle.std.specs.Cmp.Lexicographic.{slice_cmp}
use Rattle.std.specs.Str.{bytes_eq}
use Rattle.std.proofs.lemmas.Bool.{cases_Bool, both_ways, false_from_ne_true, or_parts}
use Rattle.hg_base.specs.PathText.{is_below, is_path, joined, parent_of}
use Rattle.hg_base.specs.Within.{is_above}
use Rattle.hg_base.proofs.Children.{below_parent, below_through}
use Rattle.hg_base.proofs.Components.{parent_joined}
use Rattle.hg_base.proofs.Within.{above_is, above_none, equal_bytes, same_bytes, within_split}
use Rattle.hg_entry.specs.Table.{Table}
use Rattle.hg_image.specs.Reading.{row_at}
use Rattle.hg_image.specs.Rows.{Row, rows_of}
use Rattle.hg_mixed.specs.ChildOf.{has_below, lends, with_lent}
use Rattle.hg_mixed.specs.Children.{AreChildren, IsChild}
use Rattle.hg_nodes.specs.Children.{AreNodesIn, ChildData, IsNodeIn}
use Rattle.hg_mixed.specs.Held.{Held, image_table, table}
use Rattle.hg_nodes.specs.Memory.{table_of}
use Rattle.hg_mixed.specs.Lent.{as_dir, covers, lent_at}
use Rattle.hg_nodes.specs.Node.{source_text_in, text_in}
use Rattle.hg_mixed.specs.Parted.{IsOwn, IsParted}
use Rattle.hg_mixed.proofs.Lents.{covered_by, covers_some}
use Rattle.hg_mixed.proofs.WholeOf.{image_node, node_own, own_cache, own_entry, own_node, own_source}

above_of : (dir at : List ℕ) → is_below dir at ≡ true → is_above (as_dir dir) at ≡ true
above_of [] at h = refl
above_of (b ∷ dir) at h = h

-- what stands right in a directory whose list is in memory isn't covered
pub own_kid : (left : List (List ℕ × List Row)) (dir : Option (List ℕ)) → IsOwn left dir → (at : List ℕ) → is_path at ≡ true → parent_of at ≡ dir → covers left at ≡ false
own_kid left dir own at good parent = false_from_ne_true (covers left at) (λ h. let x = covers_some left at h in not_over dir own parent x.0 x.1.0 x.1.1)
  where
    not_over : (dir : Option (List ℕ)) → IsOwn left dir → parent_of at ≡ dir → (x : List ℕ) → is_some (lent_at left x) ≡ true → is_above (as_dir x) at ≡ true → ⊥
    not_over None own parent [] some above = true≢false (sym some ∙ ap is_some own)
    not_over None own parent (b ∷ x) some above = both_ways (is_below (b ∷ x) at) (above_none at good parent (b ∷ x)) above
    not_over (Some d) own parent [] some above = both_ways (covers left d) own.0 (covered_by left [] d some refl)
    not_over (Some d) own parent (b ∷ x) some above = elim (within_split (b ∷ x) d (sym (above_is d at good parent (b ∷ x)) ∙ above)) [
      | inl e ↦ true≢false (sym some ∙ ap is_some (ap (lent_at left) (sym e) ∙ own.1))
      | inr more ↦ both_ways (covers left d) own.0 (covered_by left (b ∷ x) d some more)
    ]

-- a row of a list that stands below a path
any_row : (path : List ℕ) (rows : List Row) → list_any (λ row. is_below path row.path) rows ≡ true → (at : List ℕ) × ((is_below path at ≡ true) × (is_some (row_at rows at) ≡ true))
any_row path [] h = absurd (true≢false (sym h))
any_row path (r ∷ rows) h = elim (cases_Bool (is_below path r.path)) [
  | inl here ↦ (r.path, (here, one_there (bytes_eq r.path r.path) (equal_bytes r.path)))
  | inr other ↦ let found = any_row path rows (sym (ap (λ (b : Bool). b || list_any (λ row. is_below path row.path) rows) other) ∙ h) in (found.0, (found.1.0, still (bytes_eq r.path found.0) (row_at rows found.0) found.1.1))
]
  where
    one_there : (b : Bool) → b ≡ true → is_some (cond b (Some r) (row_at rows r.path)) ≡ true
    one_there true h = refl
    one_there false h = absurd (true≢false (sym h))

    still : (b : Bool) (o : Option Row) → is_some o ≡ true → is_some (cond b (Some r) o) ≡ true
    still true o h = refl
    still false o h = h

no_row : (path : List ℕ) (rows : List Row) → list_any (λ row. is_below path row.path) rows ≡ false → (at : List ℕ) → is_below path at ≡ true → row_at rows at ≡ None
no_row path [] h at below = refl
no_row path (r ∷ rows) h at below =
    let parts = or_parts (is_below path r.path) (list_any (λ row. is_below path row.path) rows) h in
    skip (bytes_eq r.path at) refl (no_row path rows parts.1 at below) parts.0
  where
    skip : (b : Bool) → bytes_eq r.path at ≡ b → row_at rows at ≡ None → is_below path r.path ≡ false → cond b (Some r) (row_at rows at) ≡ None
    skip true e none apart = absurd (both_ways (is_below path r.path) apart (ap (is_below path) (same_bytes r.path at e) ∙ below))
    skip false e none apart = none

module _ (held : Held) (own_good : (at : List ℕ) → (table_of held.p1 held.p2 held.hash held.rows held.times).nodes at ≡ true → is_path at ≡ true) (parted : IsParted held.docket (rows_of held.docket held.bytes) held.left (table_of held.p1 held.p2 held.hash held.rows held.times)) where
  abbrev own : Table
  own = table_of held.p1 held.p2 held.hash held.rows held.times

  -- the child of a path on the way to what stands below it
  pub kid_on_way : (path at : List ℕ) → is_path path ≡ true → is_below path at ≡ true → (table held).nodes at ≡ true → (kid : List ℕ) × ((table held).nodes kid ≡ true) × (parent_of kid ≡ Some path)
  kid_on_way path at good below there =
      let through = below_through path at below in
      let kid : List ℕ = joined (Some path) through.0 in
      let node : (table held).nodes kid ≡ true = elim through.2 [
        | inl e ↦ ap (table held).nodes (sym e) ∙ there
        | inr more ↦ parted.formed.rooted kid at more there
      ] in
      (kid, node, parent_joined (Some path) through.0 through.1)

  module _ (dir : Option (List ℕ)) (in_memory : IsOwn held.left dir) where
    -- whether a child has children, in memory or in the image
    kids_of : (path : List ℕ) → is_path path ≡ true → covers held.left path ≡ false → (b : Bool)
        → MatchBool b ((kid : List ℕ) × (own.nodes kid ≡ true) × (parent_of kid ≡ Some path)) ((kid : List ℕ) → parent_of kid ≡ Some path → own.nodes kid ≡ false)
        → (c : Bool) → lends held.left path ≡ c
        → MatchBool (b || c) ((kid : List ℕ) × ((table held).nodes kid ≡ true) × (parent_of kid ≡ Some path)) ((kid : List ℕ) → parent_of kid ≡ Some path → (table held).nodes kid ≡ false)
    kids_of path good bare true kid c is = (kid.0, known kid.0 kid.1 (covers held.left kid.0) refl, kid.2)
      where
        known : (at : List ℕ) → own.nodes at ≡ true → (b : Bool) → covers held.left at ≡ b → (table held).nodes at ≡ true
        known at node true covered = image_node held.left (image_table held) own at covered ∙ parted.known at node covered
        known at node false bare = own_node held.left (image_table held) own at bare ∙ node
    kids_of path good bare false none true is = in_image (lent_at held.left path) refl is
      where
        in_image : (o : Option (List Row)) → lent_at held.left path ≡ o → has_below path (lent_at held.left path) ≡ true → (kid : List ℕ) × ((table held).nodes kid ≡ true) × (parent_of kid ≡ Some path)
        in_image None e h = absurd (true≢false (sym h ∙ ap (has_below path) e))
        in_image (Some rows) e h =
            let found = any_row path rows (sym (ap (has_below path) e) ∙ h) in
            let above : is_above (as_dir path) found.0 ≡ true = above_of path found.0 found.1.0 in
            let covered = covered_by held.left path found.0 (ap is_some e) above in
            kid_on_way path found.0 good found.1.0
            (image_node held.left (image_table held) own found.0 covered ∙ ap is_some (sym (parted.lists path rows e found.0 above)) ∙ found.1.1)
    kids_of path good bare false none false is = λ kid parent. false_from_ne_true ((table held).nodes kid) (λ node. not_there kid parent node (covers held.left kid) refl)
      where
        not_there : (kid : List ℕ) → parent_of kid ≡ Some path → (table held).nodes kid ≡ true → (b : Bool) → covers held.left kid ≡ b → ⊥
        not_there kid parent node true covered = let x = covers_some held.left kid covered in over x.0 x.1.0 x.1.1
          where
            here : (o : Option (List Row)) → lent_at held.left path ≡ o → is_some o ≡ true → ⊥
            here None e some = true≢false (sym some)
            here (Some rows) e some =
                let below = below_parent path kid parent in
                let none : row_at rows kid ≡ None = no_row path rows (sym (ap (has_below path) e) ∙ is) kid below in
                true≢false (sym node ∙ image_node held.left (image_table held) own kid covered ∙ ap is_some (sym (parted.lists path rows e kid (above_of path kid below)) ∙ none))

            over : (x : List ℕ) → is_some (lent_at held.left x) ≡ true → is_above (as_dir x) kid ≡ true → ⊥
            over [] some above = both_ways (covers held.left path) bare (covered_by held.left [] path some refl)
            over (b ∷ x) some above = elim (within_split (b ∷ x) path (sym (above_is path kid (parted.formed.paths kid node) parent (b ∷ x)) ∙ above)) [
              | inl e ↦ here (lent_at held.left path) refl (ap (λ (d : List ℕ). is_some (lent_at held.left d)) e ∙ some)
              | inr more ↦ both_ways (covers held.left path) bare (covered_by held.left (b ∷ x) path some more)
            ]
        not_there kid parent node false bare_kid = true≢false (sym node ∙ own_node held.left (image_table held) own kid bare_kid ∙ none kid parent)

    child_is : (child : ChildData) → IsNodeIn own held.rows dir child → IsChild held dir (with_lent held.left child)
    child_is child is =
        let good = own_good child.path is.node in
        let bare = own_kid held.left dir in_memory child.path good is.parent in
        record {
          parent = is.parent;
          node = own_node held.left (image_table held) own child.path bare ∙ is.node;
          entry = is.entry ∙ sym (own_entry held.left (image_table held) own child.path bare);
          source = is.source ∙ sym (own_source held.left (image_table held) own child.path bare);
          cache = is.cache ∙ sym (own_cache held.left (image_table held) own child.path bare);
          kids = kids_of child.path good bare child.has_kids is.kids (lends held.left child.path) refl;
          text = is.text ∙ sym (ap text_in (node_own held child.path bare));
          source_text = is.source_text ∙ sym (ap source_text_in (node_own held child.path bare));
        }

    paths_kept : (kids : List ChildData) → map (λ child. child.path) (map (with_lent held.left) kids) ≡ map (λ child. child.path) kids
    paths_kept [] = refl
    paths_kept (kid ∷ kids) = ap (λ (l : List (List ℕ)). kid.path ∷ l) (paths_kept kids)

    any_kept : (at : List ℕ) (kids : List ChildData) → list_any (λ child. bytes_eq at child.path) (map (with_lent held.left) kids) ≡ list_any (λ child. bytes_eq at child.path) kids
    any_kept at [] = refl
    any_kept at (kid ∷ kids) = ap (λ (b : Bool). bytes_eq at kid.path || b) (any_kept at kids)

    each_child : (kids : List ChildData) → AllByRecursion (IsNodeIn own held.rows dir) kids → AllByRecursion (IsChild held dir) (map (with_lent held.left) kids)
    each_child [] all = tt
    each_child (kid ∷ kids) all = (child_is kid all.0, each_child kids all.1)

    -- all nodes of a directory in memory, with what the image has below them, are its children
    pub own_children : (kids : List ChildData) → AreNodesIn own held.rows dir kids → AreChildren held dir (map (with_lent held.left) kids)
    own_children kids are = record {
      ascending = subst (IsStrictlySortedBy (slice_cmp nat_cmp)) (sym (paths_kept kids)) are.ascending;
      each = each_child kids are.each;
      all = λ path node parent.
          any_kept path kids
          ∙ are.all path (sym (own_node held.left (image_table held) own path (own_kid held.left dir in_memory path (parted.formed.paths path node) parent)) ∙ node) parent;
    }
