-- What is known of a row of a data file without fault: the texts that it names, and the list that it names, of what stands below it.
use Rattle.std.proofs.Common.{◌≡◌, ℕ, zero, suc, ◌+◌, ◌-◌, ◌<◌, ◌≤◌, Bool, true, false, not, ◌&&◌, cond, List, [], ◌∷◌, ◌++◌, length, drop, map, Option, Some, None, ◌⊎◌, inl, inr, refl, sym, ap, subst, ◌∙◌, arith, eqb, eqb-true}
use Rattle.std.specs.Prelude.{count_by, is_some}
use Rattle.std.specs.List.{AllByRecursion}
use Rattle.std.specs.Str.{bytes_eq}
use Rattle.std.proofs.lemmas.Bool.{and_parts, both_ways, cond-false, cond-true, false_from_ne_true}
use Rattle.std.proofs.lemmas.List.{length-drop, length-take-le}
use Rattle.std.proofs.lemmas.Map.Keys.{IsDistinct-head, IsDistinct-tail}
use Rattle.hg_base.specs.PathText.{components, is_below, is_path, parent_of}
use Rattle.hg_base.proofs.Below.{below_itself, below_length, below_not_back}
use Rattle.hg_base.proofs.Children.{below_by_parent, below_has_parent, below_parent}
use Rattle.hg_base.proofs.Within.{equal_bytes, same_bytes}
use Rattle.hg_node.specs.declared.record.Rec.{Rec}
use Rattle.hg_image.specs.Counts.{are_counted, is_entry, is_tracked}
use Rattle.hg_image.specs.Node.{is_sourced, is_text, name_of, node_fault, part_at, path_of, record_at, source_of}
use Rattle.hg_image.specs.Reading.{row_at}
use Rattle.hg_image.specs.Rows.{AreApart, AreParted, Row, list_rows, nodes_rows, row_of}
use Rattle.hg_image.specs.Walk.{depth_of, levels, list_fault, nodes_fault}
use Rattle.hg_image.proofs.Apart.{Dist, each_then, kids_of, list_dist, list_later}
use Rattle.hg_append.proofs.Parts.{each_append, each_both, each_flip, list_nodes, node_more}
use Rattle.hg_image.proofs.Counted.{agrees, counted_parts}
use Rattle.hg_append.proofs.Longer.{IsLonger, list_stays, source_named}
use Rattle.hg_image.proofs.Parted.{parted}
use Rattle.hg_image.proofs.Sound.{both_none, node_sound}
use Rattle.hg_image.proofs.Texts.{text_room}
use Rattle.hg_image.proofs.Walk.{below}

-- ---- rows by path

pub row_none : (rows : List Row) (at : List ℕ) → AllByRecursion (λ r. bytes_eq r.path at ≡ false) rows → row_at rows at ≡ None
row_none [] at h = refl
row_none (r ∷ rows) at h = cond-false (bytes_eq r.path at) (Some r) (row_at rows at) h.0 ∙ row_none rows at h.1

-- some rows before which, or behind which, none is of a path
pub row_front : (xs ys : List Row) (at : List ℕ) → row_at ys at ≡ None → row_at (xs ++ ys) at ≡ row_at xs at
row_front [] ys at none = none
row_front (x ∷ xs) ys at none = ap (cond (bytes_eq x.path at) (Some x)) (row_front xs ys at none)

pub row_back : (xs ys : List Row) (at : List ℕ) → AllByRecursion (λ r. bytes_eq r.path at ≡ false) xs → row_at (xs ++ ys) at ≡ row_at ys at
row_back [] ys at h = refl
row_back (x ∷ xs) ys at h = cond-false (bytes_eq x.path at) (Some x) (row_at (xs ++ ys) at) h.0 ∙ row_back xs ys at h.1

-- the row of a path is one of the rows, and of that path
pub row_found : (P : Row → Type 0) (rows : List Row) (at : List ℕ) (r : Row) → AllByRecursion P rows → row_at rows at ≡ Some r → P r × (r.path ≡ at)
row_found P [] at r all h = absurd (cc)
row_found P (x ∷ rows) at r all h = step (bytes_eq x.path at) refl h (row_found P rows at r all.1)
  where
    step : (t : Bool) → bytes_eq x.path at ≡ t → cond t (Some x) (row_at rows at) ≡ Some r → (row_at rows at ≡ Some r → P r × (r.path ≡ at)) → P r × (r.path ≡ at)
    step true is h more = let same : x ≡ r = cc in (subst P same all.0, sym (ap (λ (y : Row). y.path) same) ∙ same_bytes x.path at is)
    step false is h more = more h

unmapped : (P : List ℕ → Type 0) (rows : List Row) → AllByRecursion P (map (λ r. r.path) rows) → AllByRecursion (λ r. P r.path) rows
unmapped P [] h = tt
unmapped P (r ∷ rows) h = (h.0, unmapped P rows h.1)

-- where no two have one path, each is the row of its own
pub each_own : (rows : List Row) → Dist rows → AllByRecursion (λ r. row_at rows r.path ≡ Some r) rows
each_own [] dist = tt
each_own (x ∷ rows) dist = (
  cond-true (bytes_eq x.path x.path) (Some x) (row_at rows x.path) (equal_bytes x.path),
  each_then (λ r. (bytes_eq x.path r.path ≡ false) × (row_at rows r.path ≡ Some r)) (λ r. row_at (x ∷ rows) r.path ≡ Some r)
      (λ r h. cond-false (bytes_eq x.path r.path) (Some x) (row_at rows r.path) h.0 ∙ h.1) rows
      (each_both (λ r. bytes_eq x.path r.path ≡ false) (λ r. row_at rows r.path ≡ Some r) rows
      (unmapped (λ p. bytes_eq x.path p ≡ false) rows (IsDistinct-head bytes_eq x.path (map (λ r. r.path) rows) dist))
      (each_own rows (IsDistinct-tail bytes_eq x.path (map (λ r. r.path) rows) dist))),
)

-- what isn't below a directory isn't what is
elsewhere : (dir a at : List ℕ) → is_below dir a ≡ false → is_below dir at ≡ true → bytes_eq a at ≡ false
elsewhere dir a at out inside = false_from_ne_true (bytes_eq a at) (λ t. both_ways (is_below dir a) out (ap (is_below dir) (same_bytes a at t) ∙ inside))

-- ---- what a row tells of the rows below it

-- a row records the counts of some rows, each of which does so itself
pub record AreTold (row : Row) (rows : List Row) : Type 0 where
  pub counted : are_counted rows ≡ true
  pub entries : count_by is_entry rows ≡ row.rec.entries_below
  pub tracked : count_by is_tracked rows ≡ row.rec.tracked_below

-- a row of some rows, and the list that it names, from which a level is left: its rows are those that stand below the row
pub record Under (bytes : List ℕ) (total : ℕ) (all : List Row) (row : Row) : Type 0 where
  pub is : row ≡ row_of bytes row.rec
  pub text : is_text bytes row.rec.path_start row.rec.path_len ≡ true
  pub sourced : is_sourced bytes row.rec ≡ true
  pub path : is_path row.path ≡ true
  pub level : ℕ
  pub depth : level + length (components row.path) ≡ total
  pub sound : list_fault level bytes (Some row.path) row.rec.kids_start row.rec.kids_count ≡ None
  pub same : (at : List ℕ) → is_below row.path at ≡ true → row_at (list_rows level bytes row.rec.kids_start row.rec.kids_count) at ≡ row_at all at
  pub told : are_counted all ≡ true → AreTold row (list_rows level bytes row.rec.kids_start row.rec.kids_count)

-- the same among more rows
among : (bytes : List ℕ) (total : ℕ) (some all : List Row) (row : Row)
    → ((at : List ℕ) → is_below row.path at ≡ true → row_at some at ≡ row_at all at)
    → (are_counted all ≡ true → are_counted some ≡ true) → Under bytes total some row → Under bytes total all row
among bytes total some all row same counted u = record {
  is = u.is;
  text = u.text;
  sourced = u.sourced;
  path = u.path;
  level = u.level;
  depth = u.depth;
  sound = u.sound;
  same = λ at h. u.same at h ∙ same at h;
  told = λ h. u.told (counted h);
}

module _ (head : Row) (under rest : List Row) (parts : AreParted head.path under rest) where
  -- each part is counted by itself
  parts_counted : are_counted (head ∷ (under ++ rest)) ≡ true → (agrees head (count_by is_entry under) (count_by is_tracked under) ≡ true) × ((are_counted under ≡ true) × (are_counted rest ≡ true))
  parts_counted h =
      let both = and_parts (agrees head (count_by is_entry under) (count_by is_tracked under)) (are_counted under && are_counted rest) (sym (counted_parts head under rest parts) ∙ h) in
      (both.0, and_parts (are_counted under) (are_counted rest) both.1)

  -- what stands below the first, below one of those under it, and below one of the rest
  at_head : (at : List ℕ) → is_below head.path at ≡ true → row_at under at ≡ row_at (head ∷ (under ++ rest)) at
  at_head at h =
      sym (cond-false (bytes_eq head.path at) (Some head) (row_at (under ++ rest) at) (elsewhere head.path head.path at (below_itself head.path) h)
      ∙ row_front under rest at
      (row_none rest at (each_then (λ o. AreApart head.path o.path) (λ o. bytes_eq o.path at ≡ false) (λ o apart. elsewhere head.path o.path at apart.0 h) rest parts.apart)))

  at_under : (row : Row) → is_below head.path row.path ≡ true → AllByRecursion (λ o. AreApart row.path o.path) rest
      → (at : List ℕ) → is_below row.path at ≡ true → row_at under at ≡ row_at (head ∷ (under ++ rest)) at
  at_under row inside apart at h =
      sym (cond-false (bytes_eq head.path at) (Some head) (row_at (under ++ rest) at) (elsewhere row.path head.path at (below_not_back head.path row.path inside) h)
      ∙ row_front under rest at
      (row_none rest at (each_then (λ o. AreApart row.path o.path) (λ o. bytes_eq o.path at ≡ false) (λ o a. elsewhere row.path o.path at a.0 h) rest apart)))

  at_rest : (row : Row) → AreApart head.path row.path → AllByRecursion (λ u. AreApart u.path row.path) under
      → (at : List ℕ) → is_below row.path at ≡ true → row_at rest at ≡ row_at (head ∷ (under ++ rest)) at
  at_rest row here apart at h =
      sym (cond-false (bytes_eq head.path at) (Some head) (row_at (under ++ rest) at) (elsewhere row.path head.path at here.1 h)
      ∙ row_back under rest at
      (each_then (λ u. AreApart u.path row.path) (λ u. bytes_eq u.path at ≡ false) (λ u a. elsewhere row.path u.path at a.1 h) under apart))

  module _ (bytes : List ℕ) (total : ℕ) where
    under_among : AllByRecursion (Under bytes total under) under → AllByRecursion (Under bytes total (head ∷ (under ++ rest))) under
    under_among each =
        each_then (λ r. Under bytes total under r × ((is_below head.path r.path ≡ true) × AllByRecursion (λ o. AreApart r.path o.path) rest)) (Under bytes total (head ∷ (under ++ rest)))
        (λ r h. among bytes total under (head ∷ (under ++ rest)) r (at_under r h.1.0 h.1.1) (λ c. (parts_counted c).1.0) h.0) under
        (each_both (Under bytes total under) (λ r. (is_below head.path r.path ≡ true) × AllByRecursion (λ o. AreApart r.path o.path) rest) under each
        (each_both (λ r. is_below head.path r.path ≡ true) (λ r. AllByRecursion (λ o. AreApart r.path o.path) rest) under parts.below parts.crossed))

    rest_among : AllByRecursion (Under bytes total rest) rest → AllByRecursion (Under bytes total (head ∷ (under ++ rest))) rest
    rest_among each =
        each_then (λ r. Under bytes total rest r × (AreApart head.path r.path × AllByRecursion (λ u. AreApart u.path r.path) under)) (Under bytes total (head ∷ (under ++ rest)))
        (λ r h. among bytes total rest (head ∷ (under ++ rest)) r (at_rest r h.1.0 h.1.1) (λ c. (parts_counted c).1.1) h.0) rest
        (each_both (Under bytes total rest) (λ r. AreApart head.path r.path × AllByRecursion (λ u. AreApart u.path r.path) under) rest each
        (each_both (λ r. AreApart head.path r.path) (λ r. AllByRecursion (λ u. AreApart u.path r.path) under) rest parts.apart
        (each_flip (λ r o. AreApart r.path o.path) under rest parts.crossed)))

-- the first of some rows
head_under : (bytes : List ℕ) (total level : ℕ) (rec : Rec) (rest : List Row) → AreParted (path_of bytes rec) (list_rows level bytes rec.kids_start rec.kids_count) rest
    → is_text bytes rec.path_start rec.path_len ≡ true → is_sourced bytes rec ≡ true → is_path (path_of bytes rec) ≡ true
    → level + length (components (path_of bytes rec)) ≡ total → list_fault level bytes (Some (path_of bytes rec)) rec.kids_start rec.kids_count ≡ None
    → Under bytes total (row_of bytes rec ∷ (list_rows level bytes rec.kids_start rec.kids_count ++ rest)) (row_of bytes rec)
head_under bytes total level rec rest parts text sourced path depth sound =
    let head : Row = row_of bytes rec in
    let under = list_rows level bytes rec.kids_start rec.kids_count in record {
      is = refl;
      text = text;
      sourced = sourced;
      path = path;
      level = level;
      depth = depth;
      sound = sound;
      same = at_head (row_of bytes rec) under rest parts;
      told = λ h.
          let all = parts_counted (row_of bytes rec) under rest parts h in
          let here = and_parts (eqb rec.entries_below (count_by is_entry under)) (eqb rec.tracked_below (count_by is_tracked under)) all.0 in
          record { counted = all.1.0; entries = sym (eqb-true rec.entries_below (count_by is_entry under) here.0); tracked = sym (eqb-true rec.tracked_below (count_by is_tracked under) here.1) };
    }

-- ---- each row of a list without fault

module _ (depth : ℕ) (bytes : List ℕ) (dir : Option (List ℕ))
    (kids : (path : List ℕ) (start count : ℕ) → list_fault depth bytes (Some path) start count ≡ None
    → AllByRecursion (Under bytes (depth + length (components path)) (list_rows depth bytes start count)) (list_rows depth bytes start count)) where
  nodes_under : (before : Option (List ℕ)) (at n : ℕ) → nodes_fault (below depth bytes) bytes dir before at n ≡ None
      → AllByRecursion (Under bytes (suc depth + depth_of dir) (nodes_rows (list_rows depth bytes) bytes at n)) (nodes_rows (list_rows depth bytes) bytes at n)
  unfolding nodes_fault nodes_rows
  nodes_under before at zero h = tt
  nodes_under before at (suc n) h =
      let rec = record_at bytes at in
      let path = path_of bytes rec in
      let under = list_rows depth bytes rec.kids_start rec.kids_count in
      let rest = nodes_rows (list_rows depth bytes) bytes (at + 44) n in
      let total = suc depth + depth_of dir in
      let first = both_none (node_fault bytes dir before rec) _ h in
      let second = both_none (list_fault depth bytes (Some path) rec.kids_start rec.kids_count) _ first.1 in
      let node = node_sound bytes dir before rec first.0 in
      let one : suc n - 1 ≡ n = omega arith in
      let parts : AreParted path under rest =
      subst (λ (m : ℕ). AreParted path under (nodes_rows (list_rows depth bytes) bytes (at + 44) m)) one
      (parted (below depth bytes) (list_rows depth bytes) (kids_of depth bytes (list_later depth bytes)) bytes dir before at (suc n) (omega arith) h) in
      let deeper : length (components path) ≡ depth_of dir + 1 = node_more bytes dir before rec node in
      let here : depth + length (components path) ≡ suc depth + depth_of dir = omega (arith, deeper) in
      let in_under : AllByRecursion (Under bytes total under) under = subst (λ (t : ℕ). AllByRecursion (Under bytes t under) under) here (kids path rec.kids_start rec.kids_count second.0) in (
        head_under bytes total depth rec rest parts node.text node.source node.path here second.0,
        each_append (Under bytes total (row_of bytes rec ∷ (under ++ rest))) under rest
            (under_among (row_of bytes rec) under rest parts bytes total in_under)
            (rest_among (row_of bytes rec) under rest parts bytes total (nodes_under (Some (name_of bytes rec)) (at + 44) n second.1)),
      )

pub list_under : (depth : ℕ) (bytes : List ℕ) (dir : Option (List ℕ)) (start count : ℕ) → list_fault depth bytes dir start count ≡ None
    → AllByRecursion (Under bytes (depth + depth_of dir) (list_rows depth bytes start count)) (list_rows depth bytes start count)
unfolding list_rows
list_under zero bytes dir start count h = tt
list_under (suc depth) bytes dir start count h =
    nodes_under depth bytes dir (λ path first n none. list_under depth bytes (Some path) first n none) None start count (list_nodes depth bytes dir start count h)

-- ---- the directory of a row

-- the directory of a path has a row
pub record HasParent (rows : List Row) (path : List ℕ) : Type 0 where
  pub dir : List ℕ
  pub is : parent_of path ≡ Some dir
  pub row : is_some (row_at rows dir) ≡ true

row_more : (xs ys : List Row) (at : List ℕ) → is_some (row_at xs at) ≡ true → is_some (row_at (xs ++ ys) at) ≡ true
row_more [] ys at h = absurd (cc)
row_more (x ∷ xs) ys at h = step (bytes_eq x.path at) h (row_more xs ys at)
  where
    step : (t : Bool) → is_some (cond t (Some x) (row_at xs at)) ≡ true → (is_some (row_at xs at) ≡ true → is_some (row_at (xs ++ ys) at) ≡ true) → is_some (cond t (Some x) (row_at (xs ++ ys) at)) ≡ true
    step true h more = refl
    step false h more = more h

row_behind : (xs ys : List Row) (at : List ℕ) → is_some (row_at ys at) ≡ true → is_some (row_at (xs ++ ys) at) ≡ true
row_behind [] ys at h = h
row_behind (x ∷ xs) ys at h = step (bytes_eq x.path at) (row_behind xs ys at h)
  where
    step : (t : Bool) → is_some (row_at (xs ++ ys) at) ≡ true → is_some (cond t (Some x) (row_at (xs ++ ys) at)) ≡ true
    step true more = refl
    step false more = more

module _ (depth : ℕ) (bytes : List ℕ) (dir : Option (List ℕ))
    (kids : (path : List ℕ) (start count : ℕ) → list_fault depth bytes (Some path) start count ≡ None
    → AllByRecursion (λ r. (parent_of r.path ≡ Some path) ⊎ HasParent (list_rows depth bytes start count) r.path) (list_rows depth bytes start count)) where
  nodes_rooted : (before : Option (List ℕ)) (at n : ℕ) → nodes_fault (below depth bytes) bytes dir before at n ≡ None
      → AllByRecursion (λ r. (parent_of r.path ≡ dir) ⊎ HasParent (nodes_rows (list_rows depth bytes) bytes at n) r.path) (nodes_rows (list_rows depth bytes) bytes at n)
  unfolding nodes_fault nodes_rows
  nodes_rooted before at zero h = tt
  nodes_rooted before at (suc n) h =
      let rec = record_at bytes at in
      let path = path_of bytes rec in
      let head : Row = row_of bytes rec in
      let under = list_rows depth bytes rec.kids_start rec.kids_count in
      let rest = nodes_rows (list_rows depth bytes) bytes (at + 44) n in
      let first = both_none (node_fault bytes dir before rec) _ h in
      let second = both_none (list_fault depth bytes (Some path) rec.kids_start rec.kids_count) _ first.1 in
      let node = node_sound bytes dir before rec first.0 in (
        inl node.parent,
        each_append (λ r. (parent_of r.path ≡ dir) ⊎ HasParent (row_of bytes rec ∷ (under ++ rest)) r.path) under rest
            (each_then (λ r. (parent_of r.path ≡ Some path) ⊎ HasParent under r.path) (λ r. (parent_of r.path ≡ dir) ⊎ HasParent (row_of bytes rec ∷ (under ++ rest)) r.path)
            (λ r h. inr (in_under (row_of bytes rec) under rest r.path h)) under (kids path rec.kids_start rec.kids_count second.0))
            (each_then (λ r. (parent_of r.path ≡ dir) ⊎ HasParent rest r.path) (λ r. (parent_of r.path ≡ dir) ⊎ HasParent (row_of bytes rec ∷ (under ++ rest)) r.path)
            (λ r h. in_rest (row_of bytes rec) under rest r.path h) rest (nodes_rooted (Some (name_of bytes rec)) (at + 44) n second.1)),
      )
    where
      in_under : (head : Row) (under rest : List Row) (p : List ℕ) → (parent_of p ≡ Some head.path) ⊎ HasParent under p → HasParent (head ∷ (under ++ rest)) p
      in_under head under rest p (inl e) = record {
        dir = head.path;
        is = e;
        row = ap is_some (cond-true (bytes_eq head.path head.path) (Some head) (row_at (under ++ rest) head.path) (equal_bytes head.path));
      }
      in_under head under rest p (inr has) = record { dir = has.dir; is = has.is; row = row_behind (head ∷ []) (under ++ rest) has.dir (row_more under rest has.dir has.row) }

      in_rest : (head : Row) (under rest : List Row) (p : List ℕ) → (parent_of p ≡ dir) ⊎ HasParent rest p → (parent_of p ≡ dir) ⊎ HasParent (head ∷ (under ++ rest)) p
      in_rest head under rest p (inl e) = inl e
      in_rest head under rest p (inr has) = inr (record { dir = has.dir; is = has.is; row = row_behind (head ∷ []) (under ++ rest) has.dir (row_behind under rest has.dir has.row) })

pub list_parents : (depth : ℕ) (bytes : List ℕ) (dir : Option (List ℕ)) (start count : ℕ) → list_fault depth bytes dir start count ≡ None
    → AllByRecursion (λ r. (parent_of r.path ≡ dir) ⊎ HasParent (list_rows depth bytes start count) r.path) (list_rows depth bytes start count)
unfolding list_rows
list_parents zero bytes dir start count h = tt
list_parents (suc depth) bytes dir start count h =
    nodes_rooted depth bytes dir (λ path first n none. list_parents depth bytes (Some path) first n none) None start count (list_nodes depth bytes dir start count h)

-- ---- the row of a path in a data file without fault

pub row_under : (bytes : List ℕ) (start count : ℕ) → list_fault levels bytes None start count ≡ None → (dir : List ℕ) (row : Row) → row_at (list_rows levels bytes start count) dir ≡ Some row
    → Under bytes 2049 (list_rows levels bytes start count) row × (row.path ≡ dir)
unfolding levels
row_under bytes start count sound dir row found =
    let total : 2049 + 0 ≡ 2049 = omega arith in
    row_found (Under bytes 2049 (list_rows 2049 bytes start count)) (list_rows 2049 bytes start count) dir row
    (subst (λ (t : ℕ). AllByRecursion (Under bytes t (list_rows 2049 bytes start count)) (list_rows 2049 bytes start count)) total (list_under 2049 bytes None start count sound)) found

-- what stands above a row is a row too
module _ (bytes : List ℕ) (start count : ℕ) (sound : list_fault levels bytes None start count ≡ None) where
  parent_row : (at : List ℕ) (row : Row) → row_at (list_rows levels bytes start count) at ≡ Some row
      → ((parent_of at ≡ None) ⊎ HasParent (list_rows levels bytes start count) at) × (is_path at ≡ true)
  parent_row at row found =
      let has = row_found (λ r. (parent_of r.path ≡ None) ⊎ HasParent (list_rows levels bytes start count) r.path) (list_rows levels bytes start count) at row (list_parents levels bytes None start count sound) found in
      let under = row_under bytes start count sound at row found in (
        subst (λ (p : List ℕ). (parent_of p ≡ None) ⊎ HasParent (list_rows levels bytes start count) p) has.1 has.0,
        sym (ap is_path under.1) ∙ under.0.path,
      )

  rooted_by : (n : ℕ) (dir at : List ℕ) → length at ≤ n → is_below dir at ≡ true → is_some (row_at (list_rows levels bytes start count) at) ≡ true
      → is_some (row_at (list_rows levels bytes start count) dir) ≡ true
  rooted_by zero dir at short h some = let longer : length dir < length at = below_length dir at h in absurd (omega (arith, longer, short))
  rooted_by (suc n) dir at short h some = by_row (row_at (list_rows levels bytes start count) at) refl some (λ d less over there. rooted_by n dir d less over there)
    where
      by_row : (o : Option Row) → row_at (list_rows levels bytes start count) at ≡ o → is_some o ≡ true
          → ((d : List ℕ) → length d ≤ n → is_below dir d ≡ true → is_some (row_at (list_rows levels bytes start count) d) ≡ true → is_some (row_at (list_rows levels bytes start count) dir) ≡ true)
          → is_some (row_at (list_rows levels bytes start count) dir) ≡ true
      by_row None found some more = absurd (cc)
      by_row (Some row) found some more =
          let parent = parent_row at row found in
          let above = below_has_parent dir at parent.1 h in
          elim parent.0 [
            | inl none ↦ let bad : Some above.0 ≡ None = sym above.1 ∙ none in absurd (cc)
            | inr has ↦
                let less : length has.dir < length at = below_length has.dir at (below_parent has.dir at has.is) in
                elim (below_by_parent dir has.dir at parent.1 has.is h) [
                  | inl e ↦ ap (λ (p : List ℕ). is_some (row_at (list_rows levels bytes start count) p)) e ∙ has.row
                  | inr over ↦ more has.dir (omega (arith, less, short)) over has.row
                ]
          ]

  pub rows_rooted : (dir at : List ℕ) → is_below dir at ≡ true → is_some (row_at (list_rows levels bytes start count) at) ≡ true → is_some (row_at (list_rows levels bytes start count) dir) ≡ true
  rows_rooted dir at h some = rooted_by (length at) dir at (omega arith) h some

-- a text that lies within the bytes
pub record IsPart (bytes : List ℕ) (start len : ℕ) (text : List ℕ) : Type 0 where
  pub is : text ≡ part_at bytes start len
  pub room : start + len ≤ length bytes

pub part_length : (bytes : List ℕ) (start len : ℕ) (text : List ℕ) → IsPart bytes start len text → length text ≡ len
part_length bytes start len text part =
    let left : length (drop start bytes) ≡ length bytes - start = length-drop start bytes in
    let room : start + len ≤ length bytes = part.room in
    ap length part.is ∙ length-take-le len (drop start bytes) (omega (arith, left, room))

source_taken : (bytes : List ℕ) (rec : Rec) (s : List ℕ) → source_of bytes rec ≡ Some s → (eqb rec.copy_start 0 ≡ false) × (s ≡ part_at bytes rec.copy_start rec.copy_len)
source_taken bytes rec s h = taken _ (eqb rec.copy_start 0) (part_at bytes rec.copy_start rec.copy_len) h
  where
    taken : (has none : Bool) (text : List ℕ) → cond (has && not none) (Some text) None ≡ Some s → (none ≡ false) × (s ≡ text)
    taken true true text h = absurd (cc)
    taken true false text h = (refl, cc)
    taken false none text h = absurd (cc)

module _ (bytes : List ℕ) (all : List Row) (row : Row) (u : Under bytes 2049 all row) where
  -- its path, and its copy source, where it has one
  pub under_path : IsPart bytes row.rec.path_start row.rec.path_len row.path
  under_path = record { is = ap (λ (r : Row). r.path) u.is; room = text_room bytes row.rec.path_start row.rec.path_len u.text }

  pub under_source : (s : List ℕ) → row.source ≡ Some s → (eqb row.rec.copy_start 0 ≡ false) × IsPart bytes row.rec.copy_start row.rec.copy_len s
  under_source s named =
      let taken = source_taken bytes row.rec s (sym (ap (λ (r : Row). r.source) u.is) ∙ named) in
      (taken.0, record { is = taken.1; room = text_room bytes row.rec.copy_start row.rec.copy_len (source_named bytes row.rec u.sourced taken.0).0 })

  -- each of the rows of its list stands below it, and is the row of its path
  pub under_below : AllByRecursion (λ r. is_below row.path r.path ≡ true) (list_rows u.level bytes row.rec.kids_start row.rec.kids_count)
  under_below = kids_of u.level bytes (list_later u.level bytes) row.path row.rec.kids_start row.rec.kids_count u.sound

  pub under_own : AllByRecursion (λ r. row_at all r.path ≡ Some r) (list_rows u.level bytes row.rec.kids_start row.rec.kids_count)
  under_own =
      let rows = list_rows u.level bytes row.rec.kids_start row.rec.kids_count in
      each_then (λ r. (is_below row.path r.path ≡ true) × (row_at rows r.path ≡ Some r)) (λ r. row_at all r.path ≡ Some r) (λ r h. sym (u.same r.path h.0) ∙ h.1) rows
      (each_both (λ r. is_below row.path r.path ≡ true) (λ r. row_at rows r.path ≡ Some r) rows under_below
      (each_own rows (list_dist u.level bytes (Some row.path) row.rec.kids_start row.rec.kids_count u.sound)))

  -- with as many levels, and in a longer file, its list has no fault, and the same rows
  module _ (longer : List ℕ) (is : IsLonger bytes longer) (fuel : ℕ) (enough : 2049 ≤ fuel + length (components row.path)) where
    stays : (list_fault fuel longer (Some row.path) row.rec.kids_start row.rec.kids_count ≡ None)
        × (list_rows fuel longer row.rec.kids_start row.rec.kids_count ≡ list_rows u.level bytes row.rec.kids_start row.rec.kids_count)
    stays =
        let depth : u.level + length (components row.path) ≡ 2049 = u.depth in
        list_stays bytes longer is u.level fuel (Some row.path) row.rec.kids_start row.rec.kids_count (omega (arith, depth, enough)) u.sound

    pub under_sound : list_fault fuel longer (Some row.path) row.rec.kids_start row.rec.kids_count ≡ None
    under_sound = stays.0

    pub under_rows : list_rows fuel longer row.rec.kids_start row.rec.kids_count ≡ list_rows u.level bytes row.rec.kids_start row.rec.kids_count
    under_rows = stays.1
