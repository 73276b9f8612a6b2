-- A list without fault has none in a longer file either, nor where more levels are left, and it has the same rows there.
use Rattle.std.proofs.Common.{◌≡◌, ℕ, zero, suc, ◌+◌, ◌-◌, ◌*◌, ◌≤◌, Bool, true, false, not, ◌&&◌, ◌||◌, cond, List, [], ◌∷◌, ◌++◌, length, take, drop, Option, Some, None, inl, inr, refl, sym, ap, subst, ◌∙◌, arith, eqb, leb, le-leb}
use Rattle.std.specs.Str.{is_utf8}
use Rattle.std.proofs.lemmas.Bool.{and_from, and_parts, cases_Bool, or_left, or_right}
use Rattle.std.proofs.lemmas.List.{drop-append-le, length-append, length-drop, take-append-le}
use Rattle.hg_base.specs.PathText.{base_of, is_path, is_same_dir, parent_of}
use Rattle.hg_base.specs.PathRefusal.{refusal}
use Rattle.hg_entry.specs.Entry.{has_entry, is_timely}
use Rattle.hg_node.specs.declared.record.Rec.{Rec}
use Rattle.hg_node.specs.Node.{rec_of}
use Rattle.hg_image.specs.declared.fault.NodeFault.{NodeFault}
use Rattle.hg_image.specs.declared.fault.NodeFault.TheVariants as a_fault
use Rattle.hg_image.specs.Node.{breaks_rule, fields_of, first_of, is_after, is_sourced, is_text, is_too_deep, name_of, node_fault, part_at, path_of, record_at, source_of}
use Rattle.hg_image.specs.Rows.{Row, list_rows, nodes_rows, row_of}
use Rattle.hg_image.specs.Walk.{list_fault, nodes_fault}
use Rattle.hg_image.proofs.Sound.{both_none, list_sound, node_sound}
use Rattle.hg_image.proofs.Texts.{text_room}
use Rattle.hg_image.proofs.Walk.{below, list_empty, list_inside}

-- a file is as long as another, and has at each place within that one the same
pub record IsLonger (bytes longer : List ℕ) : Type 0 where
  pub part : (start len : ℕ) → start + len ≤ length bytes → part_at longer start len ≡ part_at bytes start len
  pub room : length bytes ≤ length longer

pub longer_itself : (bytes : List ℕ) → IsLonger bytes bytes
longer_itself bytes = record { part = λ start len room. refl; room = omega arith }

pub longer_by : (bytes more : List ℕ) → IsLonger bytes (bytes ++ more)
longer_by bytes more = record {
  part = λ start len room.
      let left : length (drop start bytes) ≡ length bytes - start = length-drop start bytes in
      ap (take len) (drop-append-le start bytes more (omega arith)) ∙ take-append-le len (drop start bytes) more (omega (arith, left, room));
  room = omega (arith, length-append bytes more);
}

-- a copy source that a node names is a path within the bytes
pub source_named : (bytes : List ℕ) (rec : Rec) → is_sourced bytes rec ≡ true → eqb rec.copy_start 0 ≡ false
    → (is_text bytes rec.copy_start rec.copy_len ≡ true) × (is_path (part_at bytes rec.copy_start rec.copy_len) ≡ true)
source_named bytes rec h named = told (eqb rec.copy_start 0) (is_text bytes rec.copy_start rec.copy_len) (is_path (part_at bytes rec.copy_start rec.copy_len)) named h
  where
    told : (none text path : Bool) → none ≡ false → (none || (text && path)) ≡ true → (text ≡ true) × (path ≡ true)
    told true text path e h = absurd (cc)
    told false text path e h = and_parts text path h

-- where none is named, none is taken
none_taken : (has none : Bool) (a b : List ℕ) → none ≡ true → cond (has && not none) (Some a) None ≡ cond (has && not none) (Some b) None
none_taken true true a b e = refl
none_taken true false a b e = absurd (cc)
none_taken false none a b e = refl

-- the fault of a node, by what is read of its texts
abbrev fault_by : Rec → Option (List ℕ) → Option (List ℕ) → Bool → List ℕ → Bool → Option NodeFault
fault_by rec dir before text path sourced =
    first_of
    (cond (not text) (Some (a_fault.Text rec.place)) (cond (breaks_rule (refusal path)) (Some (a_fault.Name rec.place)) (cond (is_too_deep (refusal path)) (Some (a_fault.Deep rec.place)) None)))
    (cond (not (eqb (rec.base_at + length (base_of path)) (length path))) (Some (a_fault.Base rec.place))
    (cond (not (is_same_dir dir (parent_of path))) (Some (a_fault.Parent rec.place))
    (cond (not (is_after before (base_of path))) (Some (a_fault.Order rec.place))
    (cond (not sourced) (Some (a_fault.Copy rec.place)) (cond (not (is_timely (fields_of rec))) (Some (a_fault.Times rec.place)) None)))))

by_texts : (bytes : List ℕ) (dir before : Option (List ℕ)) (rec : Rec)
    → node_fault bytes dir before rec ≡ fault_by rec dir before (is_text bytes rec.path_start rec.path_len) (path_of bytes rec) (is_sourced bytes rec)
unfolding node_fault
by_texts bytes dir before rec = refl

three_none : (a b c : Option NodeFault) → a ≡ None → b ≡ None → c ≡ None → first_of a (first_of b c) ≡ None
three_none a b c p q r = ap (λ (o : Option NodeFault). first_of o (first_of b c)) p ∙ ap (λ (o : Option NodeFault). first_of o c) q ∙ r

-- a list of no nodes has no rows
pub rows_empty : (depth : ℕ) (bytes : List ℕ) (start : ℕ) → list_rows depth bytes start 0 ≡ []
unfolding list_rows nodes_rows
rows_empty zero bytes start = refl
rows_empty (suc depth) bytes start = refl

module _ (bytes longer : List ℕ) (is : IsLonger bytes longer) where
  record_stays : (at : ℕ) → at + 44 ≤ length bytes → record_at longer at ≡ record_at bytes at
  unfolding record_at
  record_stays at room = ap (λ (b : List ℕ). record (rec_of b) { place = at }) (is.part at 44 room)

  text_stays : (start len : ℕ) → is_text bytes start len ≡ true → is_text longer start len ≡ true
  unfolding is_text
  text_stays start len h =
      let room : start + len ≤ length bytes = text_room bytes start len h in
      let more : length bytes ≤ length longer = is.room in
      let utf8 : is_utf8 (part_at bytes start len) ≡ true = (and_parts (leb (start + len) (length bytes)) (is_utf8 (part_at bytes start len)) h).1 in
      and_from (leb (start + len) (length longer)) (is_utf8 (part_at longer start len)) (le-leb (start + len) (length longer) (omega (arith, room, more))) (ap is_utf8 (is.part start len room) ∙ utf8)

  sourced_stays : (rec : Rec) → is_sourced bytes rec ≡ true → is_sourced longer rec ≡ true
  sourced_stays rec h = elim (cases_Bool (eqb rec.copy_start 0)) [
    | inl none ↦ or_left (eqb rec.copy_start 0) _ none
    | inr named ↦
        let source = source_named bytes rec h named in
        or_right (eqb rec.copy_start 0) _
        (and_from (is_text longer rec.copy_start rec.copy_len) (is_path (part_at longer rec.copy_start rec.copy_len)) (text_stays rec.copy_start rec.copy_len source.0)
        (ap is_path (is.part rec.copy_start rec.copy_len (text_room bytes rec.copy_start rec.copy_len source.0)) ∙ source.1))
  ]

  source_stays : (rec : Rec) → is_sourced bytes rec ≡ true → source_of longer rec ≡ source_of bytes rec
  source_stays rec h = elim (cases_Bool (eqb rec.copy_start 0)) [
    | inl none ↦ none_taken (has_entry rec.flags) (eqb rec.copy_start 0) (part_at longer rec.copy_start rec.copy_len) (part_at bytes rec.copy_start rec.copy_len) none
    | inr named ↦
        let source = source_named bytes rec h named in
        ap (λ (s : List ℕ). cond (has_entry rec.flags && not (eqb rec.copy_start 0)) (Some s) None) (is.part rec.copy_start rec.copy_len (text_room bytes rec.copy_start rec.copy_len source.0))
  ]

  path_stays : (rec : Rec) → is_text bytes rec.path_start rec.path_len ≡ true → path_of longer rec ≡ path_of bytes rec
  path_stays rec h = is.part rec.path_start rec.path_len (text_room bytes rec.path_start rec.path_len h)

  node_stays : (dir before : Option (List ℕ)) (rec : Rec) → node_fault bytes dir before rec ≡ None → node_fault longer dir before rec ≡ None
  node_stays dir before rec h =
      let node = node_sound bytes dir before rec h in
      let text : is_text longer rec.path_start rec.path_len ≡ is_text bytes rec.path_start rec.path_len = text_stays rec.path_start rec.path_len node.text ∙ sym node.text in
      let path : path_of longer rec ≡ path_of bytes rec = path_stays rec node.text in
      let sourced : is_sourced longer rec ≡ is_sourced bytes rec = sourced_stays rec node.source ∙ sym node.source in
      by_texts longer dir before rec ∙ (λ k. fault_by rec dir before (text k) (path k) (sourced k)) ∙ sym (by_texts bytes dir before rec) ∙ h

  module _ (faults others : List ℕ → ℕ → ℕ → Option NodeFault) (rows others_rows : ℕ → ℕ → List Row)
      (stay : (path : List ℕ) (start count : ℕ) → faults path start count ≡ None → (others path start count ≡ None) × (others_rows start count ≡ rows start count)) where
    nodes_stay : (dir before : Option (List ℕ)) (at n : ℕ) → at + 44 * n ≤ length bytes → nodes_fault faults bytes dir before at n ≡ None
        → (nodes_fault others longer dir before at n ≡ None) × (nodes_rows others_rows longer at n ≡ nodes_rows rows bytes at n)
    unfolding nodes_fault nodes_rows
    nodes_stay dir before at zero room h = (refl, refl)
    nodes_stay dir before at (suc n) room h =
        let rec = record_at bytes at in
        let same : record_at longer at ≡ rec = record_stays at (omega arith) in
        let first = both_none (node_fault bytes dir before rec) _ h in
        let second = both_none (faults (path_of bytes rec) rec.kids_start rec.kids_count) _ first.1 in
        let node = node_sound bytes dir before rec first.0 in
        let path : path_of longer rec ≡ path_of bytes rec = path_stays rec node.text in
        let source : source_of longer rec ≡ source_of bytes rec = source_stays rec node.source in
        let under = stay (path_of bytes rec) rec.kids_start rec.kids_count second.0 in
        let behind = nodes_stay dir (Some (name_of bytes rec)) (at + 44) n (omega arith) second.1 in (
          subst
              (λ (r : Rec).
              first_of (node_fault longer dir before r)
              (first_of (others (path_of longer r) r.kids_start r.kids_count) (nodes_fault others longer dir (Some (name_of longer r)) (at + 44) n))
              ≡ None)
              (sym same)
              (three_none (node_fault longer dir before rec) (others (path_of longer rec) rec.kids_start rec.kids_count) (nodes_fault others longer dir (Some (name_of longer rec)) (at + 44) n)
              (node_stays dir before rec first.0)
              (ap (λ (p : List ℕ). others p rec.kids_start rec.kids_count) path ∙ under.0)
              (ap (λ (p : List ℕ). nodes_fault others longer dir (Some (base_of p)) (at + 44) n) path ∙ behind.0)),
          ap (λ (r : Rec). row_of longer r ∷ (others_rows r.kids_start r.kids_count ++ nodes_rows others_rows longer (at + 44) n)) same
              ∙ (λ k. record { path = path k; source = source k; rec = rec } ∷ (under.1 k ++ behind.1 k)),
        )

  pub list_stays : (depth fuel : ℕ) (dir : Option (List ℕ)) (start count : ℕ) → depth ≤ fuel → list_fault depth bytes dir start count ≡ None
      → (list_fault fuel longer dir start count ≡ None) × (list_rows fuel longer start count ≡ list_rows depth bytes start count)
  unfolding list_rows
  list_stays depth fuel dir start zero deep h = (list_empty fuel longer dir start 0 refl, rows_empty fuel longer start ∙ sym (rows_empty depth bytes start))
  list_stays zero fuel dir start (suc n) deep h =
      let list = list_sound zero bytes dir start (suc n) (omega arith) h in absurd (omega (arith, list.deep))
  list_stays (suc d) zero dir start (suc n) deep h = absurd (omega arith)
  list_stays (suc d) (suc f) dir start (suc n) deep h =
      let list = list_sound (suc d) bytes dir start (suc n) (omega arith) h in
      let less : suc d - 1 ≡ d = omega arith in
      let one : suc f - 1 ≡ f = omega arith in
      let room : start + 44 * suc n ≤ length bytes = list.room in
      let more : length bytes ≤ length longer = is.room in
      let nodes : nodes_fault (below d bytes) bytes dir None start (suc n) ≡ None = subst (λ (k : ℕ). nodes_fault (below k bytes) bytes dir None start (suc n) ≡ None) less list.nodes in
      let found = nodes_stay (below d bytes) (below f longer) (list_rows d bytes) (list_rows f longer) (λ path first m none. list_stays d f (Some path) first m (omega arith) none) dir None start (suc n) room nodes in (
        list_inside (suc f) longer dir start (suc n) (omega arith) (omega arith) (omega (arith, room, more))
            ∙ ap (λ (k : ℕ). nodes_fault (below k longer) longer dir None start (suc n)) one
            ∙ found.0,
        found.1,
      )

-- a list without fault has none in a longer file
pub list_longer : (fuel : ℕ) (bytes more : List ℕ) (dir : Option (List ℕ)) (start count : ℕ) → list_fault fuel bytes dir start count ≡ None → list_fault fuel (bytes ++ more) dir start count ≡ None
list_longer fuel bytes more dir start count h = (list_stays bytes (bytes ++ more) (longer_by bytes more) fuel fuel dir start count (omega arith) h).0

-- and the same rows
pub rows_longer : (fuel : ℕ) (bytes more : List ℕ) (dir : Option (List ℕ)) (start count : ℕ) → list_fault fuel bytes dir start count ≡ None → list_rows fuel (bytes ++ more) start count ≡ list_rows fuel bytes start count
rows_longer fuel bytes more dir start count h = (list_stays bytes (bytes ++ more) (longer_by bytes more) fuel fuel dir start count (omega arith) h).1
