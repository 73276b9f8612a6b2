-- The children of a directory that a list of the image has.
use Rattle.std.proofs.Common.{ℕ, zero, suc, ◌≡◌, ◌+◌, ◌-◌, ◌*◌, ◌<◌, ◌≤◌, Bool, true, false, cond, not, ◌==◌, List, [], ◌∷◌, map, Option, Some, None, Less, refl, sym, ap, ◌∙◌, subst, arith, true≢false, nat_cmp, eqb-true}
use Rattle.std.specs.Prelude.{is_some, MatchBool}
use Rattle.std.specs.Option.{option_and_then, option_map}
use Rattle.std.specs.List.{AllByRecursion, list_any}
use Rattle.std.specs.List.Sorted.{IsStrictlySortedBy}
use Rattle.std.specs.Cmp.Lexicographic.{slice_cmp}
use Rattle.std.specs.Str.{bytes_eq}
use Rattle.std.proofs.lemmas.Bool.{or_left, or_right}
use Rattle.hg_base.specs.PathText.{is_below, is_path, joined, parent_of}
use Rattle.hg_base.specs.Within.{is_above}
use Rattle.hg_base.specs.declared.path.PathRef.{PathRef}
use Rattle.hg_base.proofs.Below.{below_trans}
use Rattle.hg_base.proofs.Children.{below_parent}
use Rattle.hg_base.proofs.Compared.{cmp_joined}
use Rattle.hg_base.proofs.Within.{equal_bytes, same_bytes}
use Rattle.hg_entry.specs.Entry.{cache_of, entry_of}
use Rattle.hg_entry.specs.Table.{Table}
use Rattle.hg_image.specs.Node.{fields_of, path_of, record_at}
use Rattle.hg_image.specs.Reading.{row_at}
use Rattle.hg_image.specs.Rows.{Row, list_rows, row_of}
use Rattle.hg_image.specs.View.{dir_of, row, rows_below, rows_in}
use Rattle.hg_image.specs.Walk.{list_fault}
use Rattle.hg_image.specs.declared.opened.List.{List as NodeList}
use Rattle.hg_image.specs.declared.opened.NodeRef.{NodeRef}
use Rattle.hg_image.proofs.Names.{name_in, names_rise}
use Rattle.hg_image.proofs.RowsOf.{rows_end, rows_whole}
use Rattle.hg_image.proofs.Sound.{list_at}
use Rattle.hg_mixed.specs.ChildOf.{has_below, row_child}
use Rattle.hg_mixed.specs.Children.{AreChildren, IsChild}
use Rattle.hg_nodes.specs.Children.{ChildData}
use Rattle.hg_mixed.specs.Held.{Held, image_table, table}
use Rattle.hg_nodes.specs.Memory.{table_of}
use Rattle.hg_mixed.specs.Lent.{IsInImage, as_dir, covers, lent_at}
use Rattle.hg_image.specs.Found.{level, own_rows}
use Rattle.hg_nodes.specs.Lists.{or_root}
use Rattle.hg_nodes.specs.Node.{source_text_in, text_in}
use Rattle.hg_mixed.specs.Opened.{node_of}
use Rattle.hg_mixed.specs.Parted.{IsLentIn, IsParted, image_of}
use Rattle.hg_mixed.specs.Rest.{children_from, children_in}
use Rattle.hg_mixed.specs.Walk.{Fills}
use Rattle.hg_image.proofs.Found.{at_below, at_node, level_end, level_got, level_row, none_is, own_end, own_next, parent_below, rec_in, row_above, row_path, whole}
use Rattle.hg_mixed.proofs.Lents.{covered_by}
use Rattle.hg_mixed.proofs.Nearest.{dir_again, list_dir, path_as_dir}
use Rattle.hg_mixed.proofs.WholeOf.{image_cache, image_entry, image_node, image_source, node_image}

-- ---- the order of the paths

-- names in a directory, and their paths
joined_rise : (dir : Option (List ℕ)) (a b : List ℕ) → slice_cmp nat_cmp a b ≡ Less → slice_cmp nat_cmp (joined dir a) (joined dir b) ≡ Less
joined_rise None a b h = h
joined_rise (Some dir) a b h = cmp_joined dir a b ∙ h

module _ (depth : ℕ) (bytes : List ℕ) (dir : Option (List ℕ)) (start count : ℕ) (sound : list_fault depth bytes dir start count ≡ None) where
  abbrev paths_from : ℕ → ℕ → List (List ℕ)
  paths_from i n = map (λ child. child.path) (map row_child (own_rows bytes (start + 44 * i) n))

  paths_rise : (i j : ℕ) → i < j → j < count → slice_cmp nat_cmp (path_of bytes (rec_in bytes start i)) (path_of bytes (rec_in bytes start j)) ≡ Less
  paths_rise i j less inside =
      (λ k. slice_cmp nat_cmp (whole depth bytes dir start count sound i (omega (arith, less, inside)) k) (whole depth bytes dir start count sound j inside k))
      ∙ joined_rise dir (name_in bytes start i) (name_in bytes start j) (names_rise depth bytes dir start count sound i j less inside)

  first_least : (i n j : ℕ) → n + j ≡ count → i < j → AllByRecursion (λ path. slice_cmp nat_cmp (path_of bytes (rec_in bytes start i)) path ≡ Less) (paths_from j (count - j))
  first_least i zero j e less = subst (λ (rows : List Row). AllByRecursion (λ path. slice_cmp nat_cmp (path_of bytes (rec_in bytes start i)) path ≡ Less) (map (λ child. child.path) (map row_child rows))) (sym (own_end bytes (start + 44 * j) (count - j) (omega arith))) tt
  first_least i (suc n) j e less =
      subst (λ (rows : List Row). AllByRecursion (λ path. slice_cmp nat_cmp (path_of bytes (rec_in bytes start i)) path ≡ Less) (map (λ child. child.path) (map row_child rows))) (sym (own_next bytes start count j (omega arith)))
      (paths_rise i j less (omega arith), first_least i n (suc j) (omega arith) (omega arith))

  all_rise : (n i : ℕ) → n + i ≡ count → IsStrictlySortedBy (slice_cmp nat_cmp) (paths_from i (count - i))
  unfolding IsStrictlySortedBy
  all_rise zero i e = subst (λ (rows : List Row). IsStrictlySortedBy (slice_cmp nat_cmp) (map (λ child. child.path) (map row_child rows))) (sym (own_end bytes (start + 44 * i) (count - i) (omega arith))) tt
  all_rise (suc n) i e =
      subst (λ (rows : List Row). IsStrictlySortedBy (slice_cmp nat_cmp) (map (λ child. child.path) (map row_child rows))) (sym (own_next bytes start count i (omega arith)))
      (first_least i n (suc i) (omega arith) (omega arith), all_rise n (suc i) (omega arith))

  each_own : (P : ChildData → Type 0) → ((i : ℕ) → i < count → P (row_child (row_of bytes (rec_in bytes start i)))) → (n i : ℕ) → n + i ≡ count
      → AllByRecursion P (map row_child (own_rows bytes (start + 44 * i) (count - i)))
  each_own P own zero i e = subst (λ (rows : List Row). AllByRecursion P (map row_child rows)) (sym (own_end bytes (start + 44 * i) (count - i) (omega arith))) tt
  each_own P own (suc n) i e =
      subst (λ (rows : List Row). AllByRecursion P (map row_child rows)) (sym (own_next bytes start count i (omega arith))) (own i (omega arith), each_own P own n (suc i) (omega arith))

-- a row of a path is a child with it
any_child : (rows : List Row) (at : List ℕ) → is_some (row_at rows at) ≡ true → list_any (λ child. bytes_eq at child.path) (map row_child rows) ≡ true
any_child [] at h = absurd (true≢false (sym h))
any_child (r ∷ rows) at h = step (bytes_eq r.path at) refl (any_child rows at) h
  where
    step : (b : Bool) → bytes_eq r.path at ≡ b → (is_some (row_at rows at) ≡ true → list_any (λ child. bytes_eq at child.path) (map row_child rows) ≡ true) → is_some (cond b (Some r) (row_at rows at)) ≡ true
        → list_any (λ child. bytes_eq at child.path) (map row_child (r ∷ rows)) ≡ true
    step true same more some = or_left (bytes_eq at r.path) (list_any (λ child. bytes_eq at child.path) (map row_child rows)) (ap (bytes_eq at) (same_bytes r.path at same) ∙ equal_bytes at)
    step false other more some = or_right (bytes_eq at r.path) (list_any (λ child. bytes_eq at child.path) (map row_child rows)) (more some)

-- what stands right in a directory, or further down, is below it
stands_above : (dir : Option (List ℕ)) (at : List ℕ) → is_path at ≡ true → parent_of at ≡ dir → is_above dir at ≡ true
stands_above None at good is = refl
stands_above (Some d) at good is = parent_below at d good is

pub above_further : (dir : Option (List ℕ)) (path at : List ℕ) → is_above dir path ≡ true → is_below path at ≡ true → is_above dir at ≡ true
above_further None path at above h = refl
above_further (Some d) path at above h = below_trans d path at above h

-- what is in memory
abbrev own_of : Held → Table
own_of held = table_of held.p1 held.p2 held.hash held.rows held.times

module _ (held : Held) (parted : IsParted held.docket (image_of held) held.left (own_of held)) where
  module _ (list : NodeList) (covered : (at : List ℕ) → is_above (dir_of list) at ≡ true → covers held.left at ≡ true)
      (says : (at : List ℕ) → is_above (dir_of list) at ≡ true → row_at (rows_in list) at ≡ row_at (image_of held) at) where
    node_by : (at : List ℕ) → is_above (dir_of list) at ≡ true → (table held).nodes at ≡ is_some (row_at (rows_in list) at)
    node_by at above = image_node held.left (image_table held) (own_of held) at (covered at above) ∙ ap is_some (sym (says at above))

    -- whether something stands below a node
    kids_by : (i : ℕ) → i < list.count → is_above (dir_of list) (path_of list.bytes.now (rec_in list.bytes.now list.start i)) ≡ true
        → (b : Bool) → ((rec_in list.bytes.now list.start i).kids_count == 0) ≡ b
        → MatchBool (not b) ((kid : List ℕ) × ((table held).nodes kid ≡ true) × (parent_of kid ≡ Some (path_of list.bytes.now (rec_in list.bytes.now list.start i))))
        ((kid : List ℕ) → parent_of kid ≡ Some (path_of list.bytes.now (rec_in list.bytes.now list.start i)) → (table held).nodes kid ≡ false)
    kids_by i inside above true none = λ kid parent.
        let bytes = list.bytes.now in
        let rec = rec_in bytes list.start i in
        let path = path_of bytes rec in
        let below = below_parent path kid parent in
        let under = (list_at list.depth bytes (dir_of list) list.start list.count i inside list.is_sound).under in
        let zero_kids : rec.kids_count ≡ 0 = eqb-true rec.kids_count 0 none in
        let empty : list_rows (list.depth - 1) bytes rec.kids_start rec.kids_count ≡ [] =
        rows_whole (list.depth - 1) bytes (Some path) rec.kids_start rec.kids_count under ∙ rows_end (list_rows (list.depth - 1 - 1) bytes) bytes rec.kids_start rec.kids_count zero_kids in
        node_by kid (above_further (dir_of list) path kid above below)
        ∙ ap is_some (at_below list.depth bytes (dir_of list) list.start list.count list.is_sound i inside kid below ∙ ap (λ (rows : List Row). row_at rows kid) empty)
    kids_by i inside above false some =
        let bytes = list.bytes.now in
        let rec = rec_in bytes list.start i in
        let path = path_of bytes rec in
        let under = (list_at list.depth bytes (dir_of list) list.start list.count i inside list.is_sound).under in
        let first : 0 < rec.kids_count = some_kids rec.kids_count some in
        let kid = path_of bytes (rec_in bytes rec.kids_start 0) in
        let parent : parent_of kid ≡ Some path = (list_at (list.depth - 1) bytes (Some path) rec.kids_start rec.kids_count 0 first under).node.parent in
        let below = below_parent path kid parent in (
          kid,
          node_by kid (above_further (dir_of list) path kid above below)
              ∙ ap is_some
              (at_below list.depth bytes (dir_of list) list.start list.count list.is_sound i inside kid below
              ∙ at_node (list.depth - 1) bytes (Some path) rec.kids_start rec.kids_count under 0 first),
          parent,
        )
      where
        some_kids : (n : ℕ) → (n == 0) ≡ false → 0 < n
        some_kids zero h = absurd (true≢false h)
        some_kids (suc n) h = omega arith

    child_by : (i : ℕ) → i < list.count → IsChild held (dir_of list) (row_child (row_of list.bytes.now (rec_in list.bytes.now list.start i)))
    child_by i inside =
        let bytes = list.bytes.now in
        let rec = rec_in bytes list.start i in
        let path = path_of bytes rec in
        let member = list_at list.depth bytes (dir_of list) list.start list.count i inside list.is_sound in
        let here = at_node list.depth bytes (dir_of list) list.start list.count list.is_sound i inside in
        let above = row_above list path (ap is_some here) in
        let is : row_at (image_of held) path ≡ Some (row_of bytes rec) = sym (says path above) ∙ here in
        let cover = covered path above in
        record {
          parent = member.node.parent;
          node = image_node held.left (image_table held) (own_of held) path cover ∙ ap is_some is;
          entry = sym (image_entry held.left (image_table held) (own_of held) path cover ∙ ap (option_and_then (λ r. entry_of (fields_of r.rec))) is);
          source = sym (image_source held.left (image_table held) (own_of held) path cover ∙ ap (option_and_then (λ r. r.source)) is);
          cache = sym (image_cache held.left (image_table held) (own_of held) path cover ∙ ap (option_and_then (λ r. cache_of (fields_of r.rec))) is);
          kids = kids_by i inside above (rec.kids_count == 0) refl;
          text = sym (ap text_in (node_image held path cover ∙ ap (option_map node_of) is));
          source_text = sym (ap source_text_in (node_image held path cover ∙ ap (option_map node_of) is));
        }

    list_children : AreChildren held (dir_of list) (map row_child (level list 0))
    list_children = record {
      ascending = all_rise list.depth list.bytes.now (dir_of list) list.start list.count list.is_sound list.count 0 (omega arith);
      each = each_own list.depth list.bytes.now (dir_of list) list.start list.count list.is_sound (IsChild held (dir_of list)) child_by list.count 0 (omega arith);
      all = λ path node parent.
          let above = stands_above (dir_of list) path (parted.formed.paths path node) parent in
          any_child (level list 0) path (sym (ap is_some (level_row list path parent)) ∙ sym (node_by path above) ∙ node);
    }

  -- the nodes of a list of the image, none where there is no list, are the children of its directory
  lent_children : (dir : Option (List ℕ)) (list : Option NodeList) → IsLentIn held.left (image_of held) dir list → AreChildren held dir (children_from list 0)
  unfolding IsStrictlySortedBy
  lent_children dir None lent = record {
    ascending = tt;
    each = tt;
    all = λ path node parent.
        let above = stands_above dir path (parted.formed.paths path node) parent in
        absurd (true≢false (sym node ∙ image_node held.left (image_table held) (own_of held) path (lent.0 path above) ∙ ap is_some (lent.1 path parent)));
  }
  lent_children dir (Some list) lent =
      subst (λ (d : Option (List ℕ)). AreChildren held d (map row_child (level list 0))) lent.0
      (list_children list (λ at above. lent.1 at (ap (λ (d : Option (List ℕ)). is_above d at) (sym lent.0) ∙ above)) (λ at above. lent.2 at (ap (λ (d : Option (List ℕ)). is_above d at) (sym lent.0) ∙ above)))

-- the same of a table that is opened
pub children_lent : (now held : Held) → held ≡ now → IsParted held.docket (image_of held) held.left (own_of held) → (dir : Option (List ℕ)) (list : Option NodeList) → IsLentIn now.left (image_of now) dir list → AreChildren now dir (children_from list 0)
children_lent now held same parted dir list lent =
    subst (λ (h : Held). IsLentIn h.left (image_of h) dir list → AreChildren h dir (children_from list 0)) same (lent_children held parted dir list) lent

-- ---- a list that is lent

-- where it has a node, it has something below its directory
pub fills_first : (list : NodeList) (first : Row) (more : List Row) → rows_in list ≡ first ∷ more → parent_of first.path ≡ dir_of list → Fills (Some list) true
fills_first list first more rows placed = λ path good at_dir.
    let is : dir_of list ≡ Some path = sym (list_dir list) ∙ ap as_dir at_dir ∙ path_as_dir path good in
    sym (ap (λ (r : List Row). has_below path (Some r)) rows ∙ or_left (is_below path first.path) (list_any (λ row. is_below path row.path) more) (below_parent path first.path (placed ∙ is)))

-- ---- one child after the other

module _ (kids : Option (List ChildData)) (left : List (List ℕ × List Row)) (list : Option NodeList) (at : ℕ) (l : NodeList) (n : ℕ) (none : kids ≡ None) (is : list ≡ Some l)
    (len : n ≡ l.count) where
  all_left : children_in kids left list at ≡ map row_child (level l at)
  all_left = λ k. children_in (none k) left (is k) at

  -- behind the last one
  pub lent_none : n ≤ at → children_in kids left list at ≡ []
  lent_none end = all_left ∙ ap (map row_child) (level_end l at (omega (arith, end, len)))

  -- one more
  pub lent_next : (node : NodeRef) (shown : ChildData) → at < n → node.rec ≡ record_at l.bytes.now (l.start + 44 * at) → node.bytes.now ≡ l.bytes.now → shown ≡ row_child (row node)
      → children_in kids left list at ≡ shown ∷ children_in kids left list (at + 1)
  lent_next node shown less rec bytes is_shown =
      all_left
      ∙ ap (map row_child) (level_got l at node (omega (arith, less, len)) rec bytes)
      ∙ (λ k. sym is_shown k ∷ children_in (sym none k) left (sym is k) (at + 1))

-- ---- where the list of a directory is the image's

module _ (held : Held) (parted : IsParted held.docket (image_of held) held.left (own_of held)) where
  module _ (dir : List ℕ) (node : Option NodeRef) (there : IsInImage held.left dir node) where
    covered_below : (at : List ℕ) → is_below dir at ≡ true → covers held.left at ≡ true
    covered_below at h = covered_by held.left there.dir at (ap is_some there.there) (above_further (as_dir there.dir) dir at there.above h)

    says_below : (at : List ℕ) → is_below dir at ≡ true → row_at there.rows at ≡ row_at (image_of held) at
    says_below at h = parted.lists there.dir there.rows there.there at (above_further (as_dir there.dir) dir at there.above h)

    says_here : option_map row node ≡ row_at (image_of held) dir
    says_here = there.found ∙ parted.lists there.dir there.rows there.there dir there.above

  -- at a directory where the image has no node it has nothing below either
  none_below : (dir : List ℕ) → IsInImage held.left dir None → IsLentIn held.left (image_of held) (Some dir) None
  none_below dir there = (
    covered_below dir None there,
    λ at parent.
        let below = below_parent dir at parent in
        none_is (row_at (image_of held) at) (λ some.
        let node : (table held).nodes at ≡ true = image_node held.left (image_table held) (own_of held) at (covered_below dir None there at below) ∙ some in
        let above : (table held).nodes dir ≡ true = parted.formed.rooted dir at below node in
        true≢false (sym above ∙ image_node held.left (image_table held) (own_of held) dir there.covered ∙ ap is_some (sym (says_here dir None there)))),
  )

  -- and else the list of the node's children
  list_below : (dir : List ℕ) (node : NodeRef) (kids : NodeList) → IsInImage held.left dir (Some node) → rows_in kids ≡ rows_below node → dir_of kids ≡ Some (row node).path
      → IsLentIn held.left (image_of held) (Some dir) (Some kids)
  list_below dir node kids there rows at_dir =
      let is : (row node).path ≡ dir = row_path there.rows dir (row node) (sym there.found) in (
        at_dir ∙ ap Some is,
        covered_below dir (Some node) there,
        λ at h. ap (λ (r : List Row). row_at r at) rows ∙ there.below at (ap (λ (d : List ℕ). is_below d at) is ∙ h) ∙ says_below dir (Some node) there at h,
      )

  -- a list that is lent
  list_lent : (dir : Option PathRef) (list : NodeList) (text : List ℕ) → text ≡ or_root (option_map (λ d. d.text.now) dir) → Some (rows_in list) ≡ lent_at held.left text → or_root (dir_of list) ≡ text
      → IsLentIn held.left (image_of held) (option_map (λ d. d.text.now) dir) (Some list)
  list_lent dir list text is there at_dir =
      let same : as_dir text ≡ option_map (λ d. d.text.now) dir = ap as_dir is ∙ dir_again dir in (
        sym (list_dir list) ∙ ap as_dir at_dir ∙ same,
        λ at above. covered_by held.left text at (ap is_some (sym there)) (ap (λ (d : Option (List ℕ)). is_above d at) same ∙ above),
        λ at above. parted.lists text (rows_in list) (sym there) at (ap (λ (d : Option (List ℕ)). is_above d at) same ∙ above),
      )

-- the same of a table that is opened
module _ (now held : Held) (same : held ≡ now) (parted : IsParted held.docket (image_of held) held.left (own_of held)) where
  pub children_none : (dir : List ℕ) (found : Option NodeRef) → IsInImage held.left dir found → found ≡ None → IsLentIn now.left (image_of now) (Some dir) None
  children_none dir found there is =
      subst (λ (h : Held). IsLentIn h.left (image_of h) (Some dir) None) same (none_below held parted dir (subst (IsInImage held.left dir) is there))

  pub children_found : (dir : List ℕ) (found : Option NodeRef) (node : NodeRef) (kids : NodeList) → IsInImage held.left dir found → found ≡ Some node → rows_in kids ≡ rows_below node
      → dir_of kids ≡ Some (row node).path → IsLentIn now.left (image_of now) (Some dir) (Some kids)
  children_found dir found node kids there is rows at_dir =
      subst (λ (h : Held). IsLentIn h.left (image_of h) (Some dir) (Some kids)) same (list_below held parted dir node kids (subst (IsInImage held.left dir) is there) rows at_dir)

  pub children_listed : (dir : Option PathRef) (list : NodeList) (text : List ℕ) → text ≡ or_root (option_map (λ d. d.text.now) dir) → Some (rows_in list) ≡ lent_at held.left text → or_root (dir_of list) ≡ text
      → IsLentIn now.left (image_of now) (option_map (λ d. d.text.now) dir) (Some list)
  children_listed dir list text is there at_dir =
      subst (λ (h : Held). IsLentIn h.left (image_of h) (option_map (λ d. d.text.now) dir) (Some list)) same (list_lent held parted dir list text is there at_dir)
