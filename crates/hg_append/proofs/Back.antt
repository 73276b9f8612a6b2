-- What is read of a file behind whose used bytes a tree was put: the rows of lists that are lent are those of the image.
use Rattle.std.proofs.Common.{◌≡◌, ℕ, ◌+◌, ◌*◌, ◌<◌, ◌≤◌, ◌^◌, Bool, true, false, not, ◌&&◌, cond, inl, inr, List, [], ◌∷◌, ◌++◌, length, Option, Some, None, refl, sym, ap, subst, ◌∙◌, arith, eqb-true, leb-true, true≢false, append-nil}
use Rattle.std.specs.Prelude.{count_by, is_some}
use Rattle.std.specs.Option.{option_and_then, option_map}
use Rattle.std.specs.List.{AllByRecursion, sum_by}
use Rattle.std.proofs.lemmas.Bool.{and_parts, both_ways, cases_Bool, cond-false, cond-true}
use Rattle.std.proofs.lemmas.List.{length-append, take_all}
use Rattle.std.proofs.lemmas.List.Sums.{sum_by-cons}
use Rattle.hg_base.specs.PathText.{parent_of}
use Rattle.hg_docket.specs.Docket.{Contents}
use Rattle.hg_entry.specs.Entry.{cache_of, entry_of}
use Rattle.hg_image.specs.Counts.{are_counted, is_copy, is_entry}
use Rattle.hg_image.specs.Node.{fields_of}
use Rattle.hg_image.specs.Reading.{row_at}
use Rattle.hg_image.specs.Rows.{AreDistinct, Row, list_rows}
use Rattle.hg_image.specs.Walk.{levels, list_fault}
use Rattle.hg_image.proofs.Apart.{each_then, list_dist}
use Rattle.hg_nodes.specs.Children.{ChildData}
use Rattle.hg_mixed.specs.Held.{Held, is_lent, table}
use Rattle.hg_mixed.specs.Shown.{IsAsImage, list_place}
use Rattle.hg_image.proofs.Found.{row_path}
use Rattle.hg_mixed.proofs.Kept.{has_by}
use Rattle.hg_append.specs.Appended.{copies_with, end_with, lost_copies}
use Rattle.hg_append.specs.Keeps.{keeps_lent}
use Rattle.hg_append.specs.Layout.{front_size_in, put_in, size_in, start_in}
use Rattle.hg_append.specs.Put.{AreSoundIn, nodes_in}
use Rattle.hg_append.specs.Tree.{IsTreeIn, Nothing, Tree, heads, number_in}
use Rattle.hg_append.specs.Tree as tree
use Rattle.hg_append.proofs.Rows.{Adds, IsKeptRow, IsNewRow, IsOnImage, IsOwnRow, each_new, lent_node, lent_nodes, nodes_few, old_rows, put_size, same_kept, size_sum, source_one, sources_sum, started, sums_in}
use Rattle.hg_append.proofs.Node.{row_in, rows_in_at}
use Rattle.hg_append.proofs.Walk.{entries_in, whole_in}
use Rattle.hg_append.proofs.Has.{Has}
use Rattle.hg_append.proofs.KeptIn.{IsRight}
use Rattle.hg_append.proofs.Right.{reached_all_in, right_in, row_found, rows_nodes}
use Rattle.hg_append.proofs.RowSums.{found_each, same_sums, sum_both, weight}
use Rattle.hg_append.proofs.Sizes.{put_length_in}

-- what is read of the file with a docket's root, and what its rows are
pub record IsReadBack (held : Held) (file : List ℕ) (kept_rows : List ℕ → List Row) (on : IsOnImage held file kept_rows) (root : Contents) (t : Tree) (rows : List Row) : Type 0 where
  pub none : list_fault levels file None root.root_start root.root_count ≡ None
  pub is : list_rows levels file root.root_start root.root_count ≡ rows
  pub counted : are_counted rows ≡ true
  pub entries : count_by is_entry rows ≡ root.entries
  pub new : AllByRecursion (IsNewRow held) rows
  pub right : AllByRecursion (IsRight (table held)) rows
  pub all : (path : List ℕ) → (table held).nodes path ≡ true → is_some (row_at rows path) ≡ true
  pub sums : (h g : Row → ℕ) (cost : ChildData → ℕ) → Adds held file kept_rows on h g cost → ((row : Row) → IsKeptRow held row → h row ≡ g row) → sum_by h rows ≡ sum_by cost (nodes_in (keeps_lent held) t) + sum_by g rows

-- what a docket says of its root and its entries, where the root's list is lent and where it isn't
abbrev pub root_with : Bool → Held → Tree → Contents → Contents
root_with lent held t c =
    record c {
      root_start = cond lent held.docket.root_start (start_in (keeps_lent held) held.docket.used t);
      root_count = cond lent held.docket.root_count (length (heads t));
      entries = cond lent held.docket.entries (number_in (keeps_lent held) tree.has_entry t);
    }

module _ (held : Held) (file : List ℕ) (kept_rows : List ℕ → List Row) (on : IsOnImage held file kept_rows) where
  pub old_read : list_rows levels held.bytes held.docket.root_start held.docket.root_count ≡ old_rows held
  old_read = let used : length held.bytes ≡ held.docket.used = on.used in ap (λ (b : List ℕ). list_rows levels b held.docket.root_start held.docket.root_count) (sym (take_all held.docket.used held.bytes (omega (arith, used))))

  pub old_dist : AreDistinct (old_rows held)
  old_dist = subst AreDistinct old_read (list_dist levels held.bytes None held.docket.root_start held.docket.root_count on.sound)

  -- the parts of the counts of the image
  old_parts : ((held.docket.entries ≡ count_by is_entry (old_rows held)) × (held.docket.copies ≡ count_by is_copy (old_rows held))) × ((are_counted (old_rows held) ≡ true) × (44 * length (old_rows held) ≤ held.docket.used))
  old_parts =
      let a = and_parts _ _ on.counted in
      let b = and_parts _ _ a.0 in
      let c = and_parts _ _ b.0 in
      ((eqb-true _ _ c.0, eqb-true _ _ c.1), (b.1, leb-true _ _ a.1))

  -- ---- the root's list is lent: all is the image's

  module _ (lent : is_lent held None ≡ true) (whole : file ≡ held.bytes) (c : Contents) where
    all_kept : (rows : List Row) → AllByRecursion (λ row. row_at (old_rows held) row.path ≡ Some row) rows → AllByRecursion (IsKeptRow held) rows
    all_kept [] there = tt
    all_kept (row ∷ rows) there = (record { image = there.0; lent = in_lent (parent_of row.path) refl }, all_kept rows there.1)
      where
        in_lent : (dir : Option (List ℕ)) → parent_of row.path ≡ dir → is_lent held dir ≡ true
        in_lent None parent = lent
        in_lent (Some dir) parent = (on.whole None lent).lists dir refl (has_by (old_rows held) (Some dir) row.path (ap is_some there.0) parent)

    all_right : (rows : List Row) → AllByRecursion (λ row. row_at (old_rows held) row.path ≡ Some row) rows → AllByRecursion (IsRight (table held)) rows
    all_right [] there = tt
    all_right (row ∷ rows) there =
        let same : IsAsImage held row.path = (on.whole None lent).each row.path refl in (
          record {
            node = same.node ∙ ap is_some there.0;
            entry = sym (same.entry ∙ ap (option_and_then (λ r. entry_of (fields_of r.rec))) there.0);
            source = sym (same.source ∙ ap (option_and_then (λ r. r.source)) there.0);
            cache = sym (same.cache ∙ ap (option_and_then (λ r. cache_of (fields_of r.rec))) there.0);
          },
          all_right rows there.1,
        )

    pub lent_back : IsReadBack held file kept_rows on (root_with true held Nothing c) Nothing (old_rows held)
    lent_back =
        let found : AllByRecursion (λ row. row_at (old_rows held) row.path ≡ Some row) (old_rows held) = found_each (old_rows held) old_dist in
        let kept : AllByRecursion (IsKeptRow held) (old_rows held) = all_kept (old_rows held) found in
        record {
          none = ap (λ (b : List ℕ). list_fault levels b None held.docket.root_start held.docket.root_count) whole ∙ on.sound;
          is = ap (λ (b : List ℕ). list_rows levels b held.docket.root_start held.docket.root_count) whole ∙ old_read;
          counted = old_parts.1.0;
          entries = sym old_parts.0.0;
          new = each_then (IsKeptRow held) (IsNewRow held) (λ row k. inr k) (old_rows held) kept;
          right = all_right (old_rows held) found;
          all = λ path node. sym ((on.whole None lent).each path refl).node ∙ node;
          sums = λ h g cost adds same. let all : sum_by h (old_rows held) ≡ sum_by g (old_rows held) = same_kept held file kept_rows on h g same (old_rows held) kept in omega (arith, all);
        }

  -- ---- it isn't: the tree was put behind the used bytes

  module _ (t : Tree) (free : is_lent held None ≡ false) (is : IsTreeIn held (keeps_lent held) None t) (sound : AreSoundIn (keeps_lent held) t) (whole : file ≡ held.bytes ++ put_in (keeps_lent held) held.docket.used t)
      (small : held.docket.used + size_in (keeps_lent held) t < 2 ^ 32) (c : Contents) where
    pub own_back : IsReadBack held file kept_rows on (root_with false held t c) t (rows_in_at (keeps_lent held) kept_rows held.docket.used (held.docket.used + front_size_in (keeps_lent held) t) t)
    own_back =
        let keeps = keeps_lent held in
        let used = held.docket.used in
        let has : Has file used (put_in keeps used t) =
        record { before = held.bytes; after = []; whole = whole ∙ ap (λ (l : List ℕ). held.bytes ++ l) (sym (append-nil (put_in keeps used t))); place = on.used } in
        let long : length (put_in keeps used t) ≡ size_in keeps t = put_length_in keeps used t in
        let first : length held.bytes ≡ used = on.used in
        let all : length file ≡ length held.bytes + length (put_in keeps used t) = ap length whole ∙ length-append held.bytes (put_in keeps used t) in
        let entries : 44 * number_in keeps tree.has_entry t ≤ used + size_in keeps t = on.few.entries None t is in
        let tracked : 44 * number_in keeps tree.is_tracked t ≤ used + size_in keeps t = on.few.tracked None t is in
        let walked = whole_in held keeps file kept_rows on.kept on.formed (omega (arith, long, first, all, small)) used (started held file kept_rows on) used t is sound (omega arith)
        (omega (arith, entries, small)) (omega (arith, tracked, small)) has in
        record {
          none = walked.0;
          is = walked.1.0;
          counted = walked.1.1;
          entries = entries_in held keeps file kept_rows on.kept used (used + front_size_in keeps t) t sound;
          new = each_new held file kept_rows on None used (used + front_size_in keeps t) t free is.children.each is.below sound (omega arith);
          right = right_in held on.formed keeps file kept_rows on.kept None used (used + front_size_in keeps t) t is.children.each is.below sound;
          all = λ path node. reached_all_in held on.formed keeps file kept_rows on.kept used (used + front_size_in keeps t) t is sound path node;
          sums = λ h g cost adds same. sums_in held file kept_rows on h g cost adds same None used (used + front_size_in keeps t) t free is.children.each is.below sound (omega arith);
        }

  -- ---- what follows of what is read

  module _ (root : Contents) (t : Tree) (rows : List Row) (back : IsReadBack held file kept_rows on root t rows) where
    pub new_dist : AreDistinct rows
    new_dist = subst AreDistinct back.is (list_dist levels file None root.root_start root.root_count back.none)

    pub found_new : (path : List ℕ) (r : Row) → row_at rows path ≡ Some r → IsNewRow held r × (r.path ≡ path)
    found_new path r h = row_found (IsNewRow held) rows path r back.new h

    pub new_nodes : (path : List ℕ) → is_some (row_at rows path) ≡ (table held).nodes path
    new_nodes = rows_nodes held on.formed rows back.right back.all

    -- a row of a list that is lent still is the image's
    pub lent_same : (path : List ℕ) → is_lent held (parent_of path) ≡ true → row_at rows path ≡ row_at (old_rows held) path
    lent_same path lent = by_row (row_at rows path) refl
      where
        image_none : (o : Option Row) → is_some o ≡ false → o ≡ None
        image_none None h = refl
        image_none (Some r) h = absurd (true≢false h)

        by_row : (o : Option Row) → row_at rows path ≡ o → row_at rows path ≡ row_at (old_rows held) path
        by_row None none =
            let gone : (table held).nodes path ≡ false = sym (new_nodes path) ∙ ap is_some none in
            let same : IsAsImage held path = lent_nodes held file kept_rows on (parent_of path) path lent refl in
            none ∙ sym (image_none (row_at (old_rows held) path) (sym same.node ∙ gone))
        by_row (Some r) here = let found = found_new path r here in elim found.0 [
          | inl own ↦ absurd (both_ways (is_lent held (parent_of path)) (ap (λ (p : List ℕ). is_lent held (parent_of p)) (sym found.1) ∙ own.own) lent)
          | inr kept ↦ here ∙ sym (ap (row_at (old_rows held)) (sym found.1) ∙ kept.image)
        ]

    -- what the rows of lists that are lent add is the same before and now
    abbrev if_lent : (Row → ℕ) → Row → ℕ
    if_lent h row = cond (is_lent held (parent_of row.path)) (h row) 0

    no_weight : (h : Row → ℕ) (some : List Row) (path : List ℕ) → is_lent held (parent_of path) ≡ false → weight (if_lent h) (row_at some path) ≡ 0
    no_weight h some path free = by_row (row_at some path) refl
      where
        by_row : (o : Option Row) → row_at some path ≡ o → weight (if_lent h) o ≡ 0
        by_row None here = refl
        by_row (Some r) here = cond-false (is_lent held (parent_of r.path)) (h r) 0 (ap (λ (p : List ℕ). is_lent held (parent_of p)) (row_path some path r here) ∙ free)

    lent_sums : (h : Row → ℕ) → sum_by (if_lent h) (old_rows held) ≡ sum_by (if_lent h) rows
    lent_sums h = same_sums (if_lent h) (if_lent h) (old_rows held) rows old_dist new_dist (λ path. elim (cases_Bool (is_lent held (parent_of path))) [
      | inl lent ↦ ap (weight (if_lent h)) (sym (lent_same path lent))
      | inr free ↦ no_weight h (old_rows held) path free ∙ sym (no_weight h rows path free)
    ])

    kept_lent_same : (h : Row → ℕ) (row : Row) → IsKeptRow held row → h row ≡ if_lent h row
    kept_lent_same h row kept = sym (cond-true (is_lent held (parent_of row.path)) (h row) 0 kept.lent)

    own_lent_none : (h : Row → ℕ) (row : Row) → IsOwnRow held row → if_lent h row ≡ 0
    own_lent_none h row own = cond-false (is_lent held (parent_of row.path)) (h row) 0 own.own

    -- what is added by all rows, where each node that is put adds something of its own
    parted_sum : (h : Row → ℕ) (cost : ChildData → ℕ) → ((at place : ℕ) (child : ChildData) (under : Tree) → h (row_in (keeps_lent held) at place child under) ≡ cost child)
        → sum_by h rows ≡ sum_by cost (nodes_in (keeps_lent held) t) + sum_by (if_lent h) (old_rows held)
    parted_sum h cost each =
        let all : sum_by h rows ≡ sum_by cost (nodes_in (keeps_lent held) t) + sum_by (if_lent h) rows =
        back.sums h (if_lent h) cost
        (λ dir at place child under is sound own.
        let row = row_in (keeps_lent held) at place child under in
        let here : h row ≡ cost child = each at place child under in
        let nothing : if_lent h row ≡ 0 = own_lent_none h row own in
        omega (arith, here, nothing))
        (kept_lent_same h) in
        let same : sum_by (if_lent h) (old_rows held) ≡ sum_by (if_lent h) rows = lent_sums h in
        omega (arith, all, same)

    -- ---- the copies

    abbrev copy_one : Row → ℕ
    copy_one row = cond (is_copy row) 1 0

    copies_are : count_by is_copy rows ≡ number_in (keeps_lent held) tree.has_source t + sum_by (if_lent copy_one) (old_rows held)
    copies_are = parted_sum copy_one source_one (λ at place child under. refl) ∙ ap (λ (n : ℕ). n + sum_by (if_lent copy_one) (old_rows held)) (sym (sources_sum (keeps_lent held) t))

    copy_parts : (row : Row) → copy_one row ≡ cond (not (is_lent held (parent_of row.path)) && is_copy row) 1 0 + if_lent copy_one row
    copy_parts row = parts (is_lent held (parent_of row.path)) (is_copy row)
      where
        parts : (a b : Bool) → cond {A = ℕ} b 1 0 ≡ cond {A = ℕ} (not a && b) 1 0 + cond {A = ℕ} a (cond {A = ℕ} b 1 0) 0
        parts true true = refl
        parts true false = refl
        parts false true = refl
        parts false false = refl

    pub copies_told : copies_with held t ≡ count_by is_copy rows
    copies_told =
        let old : count_by is_copy (old_rows held) ≡ lost_copies held + sum_by (if_lent copy_one) (old_rows held) =
        sum_both copy_one (λ row. cond (not (is_lent held (parent_of row.path)) && is_copy row) 1 0) (if_lent copy_one) copy_parts (old_rows held) in
        let told : held.docket.copies ≡ count_by is_copy (old_rows held) = old_parts.0.1 in
        let now : count_by is_copy rows ≡ number_in (keeps_lent held) tree.has_source t + sum_by (if_lent copy_one) (old_rows held) = copies_are in
        omega (arith, old, told, now)

    -- ---- there is room for all rows

    ones : (some : List Row) → sum_by (λ row. 1) some ≡ length some
    ones [] = refl
    ones (r ∷ some) =
        let rest : sum_by (λ (row : Row). 1) some ≡ length some = ones some in
        let one : sum_by (λ (row : Row). 1) (r ∷ some) ≡ 1 + sum_by (λ row. 1) some = sum_by-cons (λ row. 1) r some in
        omega (arith, rest, one)

    part_few : (some : List Row) → sum_by (if_lent (λ row. 1)) some ≤ length some
    part_few [] = omega arith
    part_few (r ∷ some) =
        let rest : sum_by (if_lent (λ row. 1)) some ≤ length some = part_few some in
        let one : sum_by (if_lent (λ row. 1)) (r ∷ some) ≡ if_lent (λ row. 1) r + sum_by (if_lent (λ row. 1)) some = sum_by-cons (if_lent (λ row. 1)) r some in
        let most : if_lent (λ row. 1) r ≤ 1 = at_most (is_lent held (parent_of r.path)) in
        omega (arith, rest, one, most)
      where
        at_most : (b : Bool) → cond {A = ℕ} b 1 0 ≤ 1
        at_most true = omega arith
        at_most false = omega arith

    pub rows_fit : 44 * length rows ≤ end_with held t
    rows_fit =
        let all : sum_by (λ (row : Row). 1) rows ≡ sum_by (λ child. 1) (nodes_in (keeps_lent held) t) + sum_by (if_lent (λ row. 1)) (old_rows held) = parted_sum (λ row. 1) (λ child. 1) (λ at place child under. refl) in
        let count : sum_by (λ (row : Row). 1) rows ≡ length rows = ones rows in
        let few : 44 * sum_by (λ (child : ChildData). 1) (nodes_in (keeps_lent held) t) ≤ sum_by (put_size (keeps_lent held)) (nodes_in (keeps_lent held) t) = nodes_few (keeps_lent held) (nodes_in (keeps_lent held) t) in
        let size : size_in (keeps_lent held) t ≡ sum_by (put_size (keeps_lent held)) (nodes_in (keeps_lent held) t) = size_sum (keeps_lent held) t in
        let part : sum_by (if_lent (λ row. 1)) (old_rows held) ≤ length (old_rows held) = part_few (old_rows held) in
        let room : 44 * length (old_rows held) ≤ held.docket.used = old_parts.1.1 in
        omega (arith, all, count, few, size, part, room)

    -- ---- a list that is lent stays

    pub list_stays : (dir : List ℕ) → is_lent held (Some dir) ≡ true → list_place root rows (Some dir) ≡ list_place held.docket (old_rows held) (Some dir)
    list_stays dir lent = elim (cases_Bool (is_lent held (parent_of dir))) [
      | inl above ↦ ap (option_map {U = ℕ × ℕ} (λ row. (row.rec.kids_start, row.rec.kids_count))) (lent_same dir above)
      | inr free ↦ by_row free (row_at rows dir) refl
    ]
      where
        by_row : is_lent held (parent_of dir) ≡ false → (o : Option Row) → row_at rows dir ≡ o → list_place root rows (Some dir) ≡ list_place held.docket (old_rows held) (Some dir)
        by_row free None none = absurd (true≢false (sym (lent_node held file kept_rows on dir lent) ∙ sym (new_nodes dir) ∙ ap is_some none))
        by_row free (Some r) here = let found = found_new dir r here in elim found.0 [
          | inl own ↦
              ap (option_map {U = ℕ × ℕ} (λ row. (row.rec.kids_start, row.rec.kids_count))) here
              ∙ sym (subst (λ (p : List ℕ). list_place held.docket (old_rows held) (Some p) ≡ Some (r.rec.kids_start, r.rec.kids_count)) found.1 (own.kids (ap (λ (p : List ℕ). is_lent held (Some p)) found.1 ∙ lent)))
          | inr kept ↦ absurd (both_ways (is_lent held (parent_of dir)) free (ap (λ (p : List ℕ). is_lent held (parent_of p)) (sym found.1) ∙ kept.lent))
        ]
