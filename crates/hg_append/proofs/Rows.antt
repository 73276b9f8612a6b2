-- The rows of a table that was appended: each node that was put has its own, and a list that is kept has the image's.
use Rattle.std.proofs.Common.{◌≡◌, ℕ, ◌+◌, ◌*◌, ◌<◌, ◌≤◌, Bool, true, false, cond, ◌⊎◌, inl, inr, List, [], ◌∷◌, ◌++◌, length, Option, Some, None, refl, sym, ap, subst, ◌∙◌, arith, eqb, true≢false}
use Rattle.std.specs.Prelude.{MatchBool, is_some}
use Rattle.std.specs.Option.{option_and_then, option_map}
use Rattle.std.specs.List.{AllByRecursion, sum_by}
use Rattle.std.proofs.lemmas.Bool.{and_parts, both_ways, cases_Bool, cond-true, ne_eqb}
use Rattle.std.proofs.lemmas.List.Sums.{sum_by-append, sum_by-cons}
use Rattle.hg_base.specs.PathText.{is_below, is_path, parent_of}
use Rattle.hg_base.proofs.Children.{below_by_parent, below_has_parent, below_parent}
use Rattle.hg_base.proofs.Paths.{path_some}
use Rattle.hg_image.specs.Counts.{is_counted}
use Rattle.hg_image.specs.Reading.{row_at}
use Rattle.hg_image.specs.Rows.{Row, rows_of}
use Rattle.hg_image.specs.Walk.{levels, list_fault}
use Rattle.hg_image.proofs.Apart.{each_then}
use Rattle.hg_mixed.specs.Children.{AreChildren, IsChild}
use Rattle.hg_nodes.specs.Children.{ChildData}
use Rattle.hg_nodes.specs.Edits.{IsFormed}
use Rattle.hg_mixed.specs.Held.{Held, has_list, image_table, is_lent, node_in, source_at, table, text_at}
use Rattle.hg_nodes.specs.Memory.{table_of}
use Rattle.hg_mixed.specs.Lent.{covers}
use Rattle.hg_nodes.specs.Node.{NodeData, source_text_in, text_in}
use Rattle.hg_mixed.specs.Opened.{node_of, source_place}
use Rattle.hg_mixed.specs.Shown.{AreLentWhole, ArePlacesOfImage, IsAsImage, list_place}
use Rattle.hg_mixed.proofs.Kept.{IsListed, has_by, listed_by}
use Rattle.hg_mixed.proofs.Moving.{right_above}
use Rattle.hg_mixed.proofs.WholeOf.{image_node, mapped_some, node_image, node_own, own_node}
use Rattle.hg_append.specs.declared.kept.Kept.{Kept}
use Rattle.hg_append.specs.Keeps.{Keeps, keeps_lent, kept_list, list_lent, number_unless, only_if, size_unless}
use Rattle.hg_append.specs.Tree.{AreBelowIn, AreKids, Nothing, Node, Tree, heads, kept_of, number_in}
use Rattle.hg_append.specs.Tree as tree
use Rattle.hg_append.specs.Layout.{behind_in, copy_start, front_size_in, path_put, size_in, source_put, source_text, start_in, under_count, under_start}
use Rattle.hg_append.specs.Lost.{named_length}
use Rattle.hg_append.specs.Put.{AreFew, AreSoundIn, IsWritable, nodes_in, nodes_unless}
use Rattle.hg_append.proofs.Node.{AreStarted, copy_named, copy_place, kept_is, lower_rows, row_in, rows_in_at, rows_unless}
use Rattle.hg_append.proofs.KeptIn.{AreKeptIn}
use Rattle.hg_append.proofs.Right.{each_both}
use Rattle.hg_append.proofs.Snoc.{sound_behind_in, sound_under}

-- the rows of the image
abbrev pub old_rows : Held → List Row
old_rows held = rows_of held.docket held.bytes

-- rows of an image are at paths, with those of the directories above them; the texts that they name lie in it, and are as long as they say
pub record AreImageRows (bytes : List ℕ) (rows : List Row) : Type 0 where
  pub paths : (path : List ℕ) → is_some (row_at rows path) ≡ true → is_path path ≡ true
  pub rooted : (dir path : List ℕ) → is_below dir path ≡ true → is_some (row_at rows path) ≡ true → is_some (row_at rows dir) ≡ true
  pub long : (path : List ℕ) (row : Row) → row_at rows path ≡ Some row → row.rec.path_len ≡ length path
  pub room : (path : List ℕ) (row : Row) → row_at rows path ≡ Some row → row.rec.path_start + row.rec.path_len ≤ length bytes
  pub source : (path : List ℕ) (row : Row) (s : List ℕ) → row_at rows path ≡ Some row → row.source ≡ Some s → row.rec.copy_len ≡ length s
  pub start : (path : List ℕ) (row : Row) (s : List ℕ) → row_at rows path ≡ Some row → row.source ≡ Some s → 0 < row.rec.copy_start

-- a table and the image that it was opened as, of which the lists that are lent lie in a file
pub record IsOnImage (held : Held) (file : List ℕ) (kept_rows : List ℕ → List Row) : Type 0 where
  pub formed : IsFormed (table held)
  pub used : length held.bytes ≡ held.docket.used
  pub sound : list_fault levels held.bytes None held.docket.root_start held.docket.root_count ≡ None
  pub counted : is_counted held.docket (old_rows held) ≡ true
  pub whole : AreLentWhole held
  pub places : ArePlacesOfImage held
  pub image : AreImageRows held.bytes (old_rows held)
  pub kept : AreKeptIn held (keeps_lent held) file kept_rows
  pub rows : (path : List ℕ) (list : Kept) → is_path path ≡ true → list_lent held path ≡ Some list → AllByRecursion (λ row. row_at (old_rows held) row.path ≡ Some row) (kept_rows path)
  pub few : AreFew held (keeps_lent held) held.docket.used

-- a row of a list that is lent still: the image's
pub record IsKeptRow (held : Held) (row : Row) : Type 0 where
  pub image : row_at (old_rows held) row.path ≡ Some row
  pub lent : is_lent held (parent_of row.path) ≡ true

-- a row of a node that was put: where the list of its children is lent, that list lies where it lay
pub record IsOwnRow (held : Held) (row : Row) : Type 0 where
  pub own : is_lent held (parent_of row.path) ≡ false
  pub kids : is_lent held (Some row.path) ≡ true → list_place held.docket (old_rows held) (Some row.path) ≡ Some (row.rec.kids_start, row.rec.kids_count)
  pub long : row.rec.path_len ≡ length row.path
  pub named : named_length row ≡ length (source_text row.source)

abbrev pub IsNewRow : Held → Row → Type 0
IsNewRow held row = IsOwnRow held row ⊎ IsKeptRow held row

-- the text of a path or of its source is the image's
pub record HasText (held : Held) (path : List ℕ) (place : ℕ) : Type 0 where
  pub row : Row
  pub there : row_at (old_rows held) path ≡ Some row
  pub start : row.rec.path_start ≡ place

pub record HasSource (held : Held) (path : List ℕ) (place : ℕ) : Type 0 where
  pub row : Row
  pub source : List ℕ
  pub there : row_at (old_rows held) path ≡ Some row
  pub named : row.source ≡ Some source
  pub start : row.rec.copy_start ≡ place
  pub same : (table held).sources path ≡ Some source

-- a node of which the list is lent has its row in the image
pub record HasKept (held : Held) (child : ChildData) : Type 0 where
  pub row : Row
  pub there : row_at (old_rows held) child.path ≡ Some row
  pub kept : kept_of (keeps_lent held) child ≡ Some (kept_list row)

same_some : (a b : ℕ) → Some a ≡ Some b → a ≡ b
same_some a b e = cc

some_one : {X : Type 0} (o : Option X) → is_some o ≡ true → (x : X) × (o ≡ Some x)
some_one None some = absurd (true≢false (sym some))
some_one (Some x) some = (x, refl)

some_text : (o : Option NodeData) → is_some (text_in o) ≡ true → is_some o ≡ true
some_text None some = absurd (true≢false (sym some))
some_text (Some node) some = refl

some_source : (o : Option NodeData) → is_some (source_text_in o) ≡ true → is_some o ≡ true
some_source None some = absurd (true≢false (sym some))
some_source (Some node) some = refl

cond_some : {X : Type 0} (b : Bool) (o : Option X) (x : X) → cond b o None ≡ Some x → b ≡ true
cond_some true o x e = refl
cond_some false o x e = absurd (cc)

named_is : (o : Option (List ℕ)) (place : ℕ) → ((s : List ℕ) → o ≡ Some s → 0 < place) → cond (eqb (copy_start o place) 0) 0 (length (source_text o)) ≡ length (source_text o)
named_is None place some = refl
named_is (Some s) place some =
    let more : 0 < place = some s refl in
    let test : eqb place 0 ≡ false = ne_eqb place 0 (λ z. absurd (omega (arith, z, more))) in
    ap (λ (t : Bool). cond t 0 (length s)) test

module _ (held : Held) (file : List ℕ) (kept_rows : List ℕ → List Row) (on : IsOnImage held file kept_rows) where
  -- a node stands where a node is found
  node_there : (path : List ℕ) → is_some (node_in held path) ≡ (table held).nodes path
  node_there path = elim (cases_Bool (covers held.left path)) [
    | inl covered ↦
        ap is_some (node_image held path covered) ∙ mapped_some node_of (row_at (old_rows held) path)
        ∙ sym (image_node held.left (image_table held) (table_of held.p1 held.p2 held.hash held.rows held.times) path covered)
    | inr free ↦ ap is_some (node_own held path free) ∙ sym (own_node held.left (image_table held) (table_of held.p1 held.p2 held.hash held.rows held.times) path free)
  ]

  pub text_node : (path : List ℕ) (place : ℕ) → text_at held path ≡ Some place → (table held).nodes path ≡ true
  text_node path place e = sym (node_there path) ∙ some_text (node_in held path) (ap is_some e)

  pub source_node : (path : List ℕ) (place : ℕ) → source_at held path ≡ Some place → (table held).nodes path ≡ true
  source_node path place e = sym (node_there path) ∙ some_source (node_in held path) (ap is_some e)

  pub text_row : (path : List ℕ) (place : ℕ) → text_at held path ≡ Some place → HasText held path place
  text_row path place e = found (row_at (old_rows held) path) refl
    where
      found : (o : Option Row) → row_at (old_rows held) path ≡ o → HasText held path place
      found None none =
          let is : text_at held path ≡ None = on.places.texts path (ap is_some e) ∙ ap (option_map (λ row. row.rec.path_start)) none in
          absurd (true≢false (sym (ap is_some e) ∙ ap is_some is))
      found (Some row) here =
          let is : text_at held path ≡ Some row.rec.path_start = on.places.texts path (ap is_some e) ∙ ap (option_map (λ row. row.rec.path_start)) here in
          record { row = row; there = here; start = same_some row.rec.path_start place (sym is ∙ e) }

  pub source_row : (path : List ℕ) (place : ℕ) → source_at held path ≡ Some place → HasSource held path place
  source_row path place e = found (row_at (old_rows held) path) refl
    where
      named : (row : Row) → row_at (old_rows held) path ≡ Some row → (o : Option (List ℕ)) → row.source ≡ o → HasSource held path place
      named row here None none =
          let is : source_at held path ≡ None = (on.places.sources path (ap is_some e)).0 ∙ ap (option_and_then source_place) here ∙ ap (option_map (λ source. row.rec.copy_start)) none in
          absurd (true≢false (sym (ap is_some e) ∙ ap is_some is))
      named row here (Some s) some =
          let is : source_at held path ≡ Some row.rec.copy_start = (on.places.sources path (ap is_some e)).0 ∙ ap (option_and_then source_place) here ∙ ap (option_map (λ source. row.rec.copy_start)) some in
          let same : (table held).sources path ≡ row.source = (on.places.sources path (ap is_some e)).1 ∙ ap (option_and_then (λ row. row.source)) here in
          record { row = row; source = s; there = here; named = some; start = same_some row.rec.copy_start place (sym is ∙ e); same = same ∙ some }

      found : (o : Option Row) → row_at (old_rows held) path ≡ o → HasSource held path place
      found None none =
          let is : source_at held path ≡ None = (on.places.sources path (ap is_some e)).0 ∙ ap (option_and_then source_place) none in
          absurd (true≢false (sym (ap is_some e) ∙ ap is_some is))
      found (Some row) here = named row here row.source refl

  -- where a text is lent there are used bytes, and a source doesn't lie at the start
  pub started : AreStarted held (keeps_lent held) held.docket.used
  started = record {
    texts = λ dir child place is e.
        let has : HasText held child.path place = text_row child.path place (sym is.text ∙ e) in
        let long : has.row.rec.path_len ≡ length child.path = on.image.long child.path has.row has.there in
        let room : has.row.rec.path_start + has.row.rec.path_len ≤ length held.bytes = on.image.room child.path has.row has.there in
        let some : 0 < length child.path = path_some child.path (on.formed.paths child.path is.node) in
        let used : length held.bytes ≡ held.docket.used = on.used in
        omega (arith, long, room, some, used);
    sources = λ dir child place s is source e.
        let has : HasSource held child.path place = source_row child.path place (sym is.source_text ∙ e) in
        let start : has.row.rec.copy_start ≡ place = has.start in
        let some : 0 < has.row.rec.copy_start = on.image.start child.path has.row has.source has.there has.named in
        omega (arith, start, some);
  }

  -- what stands right in a directory of which the list is lent
  pub lent_nodes : (dir : Option (List ℕ)) (path : List ℕ) → is_lent held dir ≡ true → parent_of path ≡ dir → IsAsImage held path
  lent_nodes dir path lent parent = (on.whole dir lent).each path (right_above dir path parent)

  -- a directory of which the list is lent has a node in it
  pub lent_kid : (dir : Option (List ℕ)) → is_lent held dir ≡ true → IsListed (old_rows held) dir
  lent_kid dir lent = listed_by (old_rows held) dir (and_parts (has_list (old_rows held) dir) _ lent).0

  pub lent_kid_node : (dir : Option (List ℕ)) (lent : is_lent held dir ≡ true) → (table held).nodes (lent_kid dir lent).at ≡ true
  lent_kid_node dir lent = let kid = lent_kid dir lent in (lent_nodes dir kid.at lent kid.parent).node ∙ kid.some

  -- and is a node itself
  pub lent_node : (dir : List ℕ) → is_lent held (Some dir) ≡ true → (table held).nodes dir ≡ true
  lent_node dir lent = let kid = lent_kid (Some dir) lent in on.formed.rooted dir kid.at (below_parent dir kid.at kid.parent) (lent_kid_node (Some dir) lent)

  pub lent_kept : (dir : Option (List ℕ)) (child : ChildData) → IsChild held dir child → is_lent held (Some child.path) ≡ true → HasKept held child
  lent_kept dir child is lent =
      let kid = lent_kid (Some child.path) lent in
      let below : is_below child.path kid.at ≡ true = below_parent child.path kid.at kid.parent in
      let found = some_one (row_at (old_rows held) child.path) (on.image.rooted child.path kid.at below kid.some) in
      let kids : child.has_kids ≡ true = has_them child.has_kids is.kids kid.at kid.parent (lent_kid_node (Some child.path) lent) in
      let list : list_lent held child.path ≡ Some (kept_list found.0) =
      cond-true (is_lent held (Some child.path)) (option_map kept_list (row_at (old_rows held) child.path)) None lent ∙ ap (option_map kept_list) found.1 in
      record {
        row = found.0;
        there = found.1;
        kept = ap (only_if child.has_kids) list ∙ ap (λ (b : Bool). only_if b (Some (kept_list found.0))) kids;
      }
    where
      has_them : (b : Bool) → MatchBool b ((kid : List ℕ) × ((table held).nodes kid ≡ true) × (parent_of kid ≡ Some child.path)) ((kid : List ℕ) → parent_of kid ≡ Some child.path → (table held).nodes kid ≡ false)
          → (at : List ℕ) → parent_of at ≡ Some child.path → (table held).nodes at ≡ true → b ≡ true
      has_them true kids at parent node = refl
      has_them false kids at parent node = absurd (both_ways ((table held).nodes at) (kids at parent) node)

  -- a row of a list that is kept stands in one that is lent
  kept_lent : (path : List ℕ) (row : Row) → is_lent held (Some path) ≡ true → is_below path row.path ≡ true → row_at (old_rows held) row.path ≡ Some row → is_lent held (parent_of row.path) ≡ true
  kept_lent path row lent below there =
      let good : is_path row.path ≡ true = on.image.paths row.path (ap is_some there) in
      let parent = below_has_parent path row.path good below in
      elim (below_by_parent path parent.0 row.path good parent.1 below) [
        | inl same ↦ ap (is_lent held) (parent.1 ∙ ap Some (sym same)) ∙ lent
        | inr deeper ↦ ap (is_lent held) parent.1 ∙ (on.whole (Some path) lent).lists parent.0 deeper (has_by (old_rows held) (Some parent.0) row.path (ap is_some there) parent.1)
      ]

  pub lent_list : (path : List ℕ) (list : Kept) → list_lent held path ≡ Some list → is_lent held (Some path) ≡ true
  lent_list path list e = cond_some (is_lent held (Some path)) (option_map kept_list (row_at (old_rows held) path)) list e

  -- each row of it is a kept one
  pub kept_are : (path : List ℕ) (list : Kept) → is_path path ≡ true → list_lent held path ≡ Some list → AllByRecursion (IsKeptRow held) (kept_rows path)
  kept_are path list good e = both (kept_rows path) (on.kept.lists path list good e).below (on.rows path list good e)
    where
      both : (rows : List Row) → AllByRecursion (λ row. is_below path row.path ≡ true) rows → AllByRecursion (λ row. row_at (old_rows held) row.path ≡ Some row) rows → AllByRecursion (IsKeptRow held) rows
      both [] below there = tt
      both (row ∷ rows) below there = (record { image = there.0; lent = kept_lent path row (lent_list path list e) below.0 there.0 }, both rows below.1 there.1)

  -- the list of a directory isn't lent where it isn't kept
  not_lent : (dir : Option (List ℕ)) (child : ChildData) → IsChild held dir child → kept_of (keeps_lent held) child ≡ None → is_lent held (Some child.path) ≡ false
  not_lent dir child is none = elim (cases_Bool (is_lent held (Some child.path))) [
    | inl lent ↦
        let kept : kept_of (keeps_lent held) child ≡ Some (kept_list (lent_kept dir child is lent).row) = (lent_kept dir child is lent).kept in
        absurd (true≢false (sym (ap is_some kept) ∙ ap is_some none))
    | inr other ↦ other
  ]

  own_one : (dir : Option (List ℕ)) (at place : ℕ) (child : ChildData) (under : Tree) → is_lent held dir ≡ false → IsChild held dir child → held.docket.used ≤ at → IsOwnRow held (row_in (keeps_lent held) at place child under)
  own_one dir at place child under free is behind = record {
    own = ap (is_lent held) is.parent ∙ free;
    kids = λ lent.
        let has : HasKept held child = lent_kept dir child is lent in
        let start : under_start (keeps_lent held) at child under ≡ has.row.rec.kids_start = ap (λ (o : Option Kept). number_unless o (λ list. list.start) (start_in (keeps_lent held) at under)) has.kept in
        let count : under_count (keeps_lent held) child under ≡ has.row.rec.kids_count = ap (λ (o : Option Kept). number_unless o (λ list. list.count) (length (heads under))) has.kept in
        ap (option_map {U = ℕ × ℕ} (λ row. (row.rec.kids_start, row.rec.kids_count))) has.there ∙ (λ i. Some (sym start i, sym count i));
    long = refl;
    named = named_is child.source (copy_place (keeps_lent held) at child under) (copy_named held (keeps_lent held) held.docket.used started dir at child under is (on.formed.paths child.path is.node) behind);
  }

  lower_new : (child : ChildData) (o : Option Kept) (own : List Row) → kept_of (keeps_lent held) child ≡ o → is_path child.path ≡ true → (o ≡ None → AllByRecursion (IsNewRow held) own)
      → AllByRecursion (IsNewRow held) (rows_unless o (kept_rows child.path) own)
  lower_new child None own e good more = more refl
  lower_new child (Some list) own e good more =
      each_then (IsKeptRow held) (IsNewRow held) (λ row kept. inr kept) (kept_rows child.path) (kept_are child.path list good (kept_is child.has_kids (list_lent held child.path) list e))

  pub each_new : (dir : Option (List ℕ)) (at place : ℕ) (t : Tree) → is_lent held dir ≡ false → AllByRecursion (IsChild held dir) (heads t) → AreBelowIn held (keeps_lent held) t → AreSoundIn (keeps_lent held) t → held.docket.used ≤ at
      → AllByRecursion (IsNewRow held) (rows_in_at (keeps_lent held) kept_rows at place t)
  each_new dir at place Nothing free are under_are sound behind_used = tt
  each_new dir at place (Node child under behind) free are under_are sound behind_used =
      let keeps = keeps_lent held in
      let own = rows_in_at keeps kept_rows at (at + front_size_in keeps under) under in
      let parts = under_are in (
        inl (own_one dir at place child under free are.0 behind_used),
        each_both (IsNewRow held) (lower_rows keeps kept_rows at child under) (rows_in_at keeps kept_rows (behind_in keeps at child under) (place + 44) behind)
            (lower_new child (kept_of keeps child) own refl sound.0.path
            (λ none.
            let kids : AreChildren held (Some child.path) (heads under) = subst (λ (o : Option Kept). AreKids held o child.path (heads under)) none parts.0 in
            let under_sound : AreSoundIn keeps under = subst (λ (o : Option Kept). AllByRecursion IsWritable (nodes_unless o (nodes_in keeps under))) none (sound_under keeps child under behind sound) in
            each_new (Some child.path) at (at + front_size_in keeps under) under (not_lent dir child are.0 none) kids.each parts.1.0 under_sound behind_used))
            (each_new dir (behind_in keeps at child under) (place + 44) behind free are.1 parts.1.1 (sound_behind_in keeps child under behind sound) (omega (arith, behind_used))),
      )

  -- ---- sums over all rows

  -- what each row adds to a sum: a node that is put a part of its own beside what the row adds to another, and a kept row what it adds to that
  abbrev pub Adds : (Row → ℕ) → (Row → ℕ) → (ChildData → ℕ) → Type 0
  Adds h g cost = (dir : Option (List ℕ)) (at place : ℕ) (child : ChildData) (under : Tree) → IsChild held dir child → IsWritable child → IsOwnRow held (row_in (keeps_lent held) at place child under)
      → h (row_in (keeps_lent held) at place child under) ≡ cost child + g (row_in (keeps_lent held) at place child under)

  pub same_kept : (h g : Row → ℕ) → ((row : Row) → IsKeptRow held row → h row ≡ g row) → (rows : List Row) → AllByRecursion (IsKeptRow held) rows → sum_by h rows ≡ sum_by g rows
  same_kept h g same [] are = refl
  same_kept h g same (r ∷ rows) are =
      let rest : sum_by h rows ≡ sum_by g rows = same_kept h g same rows are.1 in
      let first : h r ≡ g r = same r are.0 in
      let one : sum_by h (r ∷ rows) ≡ h r + sum_by h rows = sum_by-cons h r rows in
      let two : sum_by g (r ∷ rows) ≡ g r + sum_by g rows = sum_by-cons g r rows in
      omega (arith, rest, first, one, two)

  module _ (h g : Row → ℕ) (cost : ChildData → ℕ) (adds : Adds h g cost) (same : (row : Row) → IsKeptRow held row → h row ≡ g row) where
    sum_lower : (child : ChildData) (o : Option Kept) (own : List Row) (xs : List ChildData) → kept_of (keeps_lent held) child ≡ o → is_path child.path ≡ true → (o ≡ None → sum_by h own ≡ sum_by cost xs + sum_by g own)
        → sum_by h (rows_unless o (kept_rows child.path) own) ≡ sum_by cost (nodes_unless o xs) + sum_by g (rows_unless o (kept_rows child.path) own)
    sum_lower child None own xs e good more = more refl
    sum_lower child (Some list) own xs e good more =
        let all : sum_by h (kept_rows child.path) ≡ sum_by g (kept_rows child.path) = same_kept h g same (kept_rows child.path) (kept_are child.path list good (kept_is child.has_kids (list_lent held child.path) list e)) in
        omega (arith, all)

    pub sums_in : (dir : Option (List ℕ)) (at place : ℕ) (t : Tree) → is_lent held dir ≡ false → AllByRecursion (IsChild held dir) (heads t) → AreBelowIn held (keeps_lent held) t → AreSoundIn (keeps_lent held) t → held.docket.used ≤ at
        → sum_by h (rows_in_at (keeps_lent held) kept_rows at place t) ≡ sum_by cost (nodes_in (keeps_lent held) t) + sum_by g (rows_in_at (keeps_lent held) kept_rows at place t)
    sums_in dir at place Nothing free are under_are sound behind_used = refl
    sums_in dir at place (Node child under behind) free are under_are sound behind_used =
        let keeps = keeps_lent held in
        let head = row_in keeps at place child under in
        let own = rows_in_at keeps kept_rows at (at + front_size_in keeps under) under in
        let lower = lower_rows keeps kept_rows at child under in
        let later = rows_in_at keeps kept_rows (behind_in keeps at child under) (place + 44) behind in
        let xs = nodes_unless (kept_of keeps child) (nodes_in keeps under) in
        let ys = nodes_in keeps behind in
        let parts = under_are in
        let first : h head ≡ cost child + g head = adds dir at place child under are.0 sound.0 (own_one dir at place child under free are.0 behind_used) in
        let below : sum_by h lower ≡ sum_by cost xs + sum_by g lower =
        sum_lower child (kept_of keeps child) own (nodes_in keeps under) refl sound.0.path
        (λ none.
        let kids : AreChildren held (Some child.path) (heads under) = subst (λ (o : Option Kept). AreKids held o child.path (heads under)) none parts.0 in
        let under_sound : AreSoundIn keeps under = subst (λ (o : Option Kept). AllByRecursion IsWritable (nodes_unless o (nodes_in keeps under))) none (sound_under keeps child under behind sound) in
        sums_in (Some child.path) at (at + front_size_in keeps under) under (not_lent dir child are.0 none) kids.each parts.1.0 under_sound behind_used) in
        let rest : sum_by h later ≡ sum_by cost ys + sum_by g later = sums_in dir (behind_in keeps at child under) (place + 44) behind free are.1 parts.1.1 (sound_behind_in keeps child under behind sound) (omega (arith, behind_used)) in
        let h1 : sum_by h (head ∷ (lower ++ later)) ≡ h head + sum_by h (lower ++ later) = sum_by-cons h head (lower ++ later) in
        let h2 : sum_by h (lower ++ later) ≡ sum_by h lower + sum_by h later = sum_by-append h lower later in
        let g1 : sum_by g (head ∷ (lower ++ later)) ≡ g head + sum_by g (lower ++ later) = sum_by-cons g head (lower ++ later) in
        let g2 : sum_by g (lower ++ later) ≡ sum_by g lower + sum_by g later = sum_by-append g lower later in
        let c1 : sum_by cost (child ∷ (xs ++ ys)) ≡ cost child + sum_by cost (xs ++ ys) = sum_by-cons cost child (xs ++ ys) in
        let c2 : sum_by cost (xs ++ ys) ≡ sum_by cost xs + sum_by cost ys = sum_by-append cost xs ys in
        omega (arith, first, below, rest, h1, h2, g1, g2, c1, c2)

-- ---- what is put of a tree, by its nodes

-- how many bytes are put of a node
abbrev pub put_size : Keeps → ChildData → ℕ
put_size keeps child = 44 + length (path_put keeps child) + length (source_put keeps child)

unless_sum : (cost : ChildData → ℕ) (o : Option Kept) (xs : List ChildData) → sum_by cost (nodes_unless o xs) ≡ size_unless o (sum_by cost xs)
unless_sum cost None xs = refl
unless_sum cost (Some list) xs = refl

pub size_sum : (keeps : Keeps) (t : Tree) → size_in keeps t ≡ sum_by (put_size keeps) (nodes_in keeps t)
size_sum keeps Nothing = refl
size_sum keeps (Node child below behind) =
    let cost = put_size keeps in
    let xs = nodes_unless (kept_of keeps child) (nodes_in keeps below) in
    let ys = nodes_in keeps behind in
    let lower : size_unless (kept_of keeps child) (size_in keeps below) ≡ size_unless (kept_of keeps child) (sum_by cost (nodes_in keeps below)) = ap (size_unless (kept_of keeps child)) (size_sum keeps below) in
    let same : sum_by cost xs ≡ size_unless (kept_of keeps child) (sum_by cost (nodes_in keeps below)) = unless_sum cost (kept_of keeps child) (nodes_in keeps below) in
    let rest : size_in keeps behind ≡ sum_by cost ys = size_sum keeps behind in
    let one : sum_by cost (child ∷ (xs ++ ys)) ≡ cost child + sum_by cost (xs ++ ys) = sum_by-cons cost child (xs ++ ys) in
    let two : sum_by cost (xs ++ ys) ≡ sum_by cost xs + sum_by cost ys = sum_by-append cost xs ys in
    omega (arith, lower, same, rest, one, two)

-- one for each that has a copy source
abbrev pub source_one : ChildData → ℕ
source_one child = cond (is_some child.source) 1 0

pub sources_sum : (keeps : Keeps) (t : Tree) → number_in keeps tree.has_source t ≡ sum_by source_one (nodes_in keeps t)
sources_sum keeps Nothing = refl
sources_sum keeps (Node child below behind) =
    let xs = nodes_unless (kept_of keeps child) (nodes_in keeps below) in
    let ys = nodes_in keeps behind in
    let lower : number_unless (kept_of keeps child) (λ list. 0) (number_in keeps tree.has_source below) ≡ number_unless (kept_of keeps child) (λ list. 0) (sum_by source_one (nodes_in keeps below)) =
    ap (number_unless (kept_of keeps child) (λ list. 0)) (sources_sum keeps below) in
    let same : sum_by source_one xs ≡ number_unless (kept_of keeps child) (λ list. 0) (sum_by source_one (nodes_in keeps below)) = unless_sum source_one (kept_of keeps child) (nodes_in keeps below) in
    let rest : number_in keeps tree.has_source behind ≡ sum_by source_one ys = sources_sum keeps behind in
    let one : sum_by source_one (child ∷ (xs ++ ys)) ≡ source_one child + sum_by source_one (xs ++ ys) = sum_by-cons source_one child (xs ++ ys) in
    let two : sum_by source_one (xs ++ ys) ≡ sum_by source_one xs + sum_by source_one ys = sum_by-append source_one xs ys in
    omega (arith, lower, same, rest, one, two)

pub nodes_few : (keeps : Keeps) (xs : List ChildData) → 44 * sum_by (λ child. 1) xs ≤ sum_by (put_size keeps) xs
nodes_few keeps [] = omega arith
nodes_few keeps (x ∷ xs) =
    let rest : 44 * sum_by (λ child. 1) xs ≤ sum_by (put_size keeps) xs = nodes_few keeps xs in
    let one : sum_by (λ (child : ChildData). 1) (x ∷ xs) ≡ 1 + sum_by (λ child. 1) xs = sum_by-cons (λ child. 1) x xs in
    let two : sum_by (put_size keeps) (x ∷ xs) ≡ put_size keeps x + sum_by (put_size keeps) xs = sum_by-cons (put_size keeps) x xs in
    omega (arith, rest, one, two)
