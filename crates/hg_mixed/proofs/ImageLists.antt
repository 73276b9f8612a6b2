-- The image's own lists: where they lie, and which are lent.
use Rattle.std.proofs.Common.{ℕ, ◌≡◌, ◌<◌, Bool, true, false, cond, ◌&&◌, ◌||◌, List, [], Option, Some, None, refl, sym, ap, ◌∙◌, subst, true≢false}
use Rattle.std.specs.Prelude.{is_some}
use Rattle.std.specs.Option.{option_and_then, option_map}
use Rattle.std.proofs.lemmas.Bool.{both_ways, false_from_ne_true, or_left, or_right}
use Rattle.hg_base.specs.PathText.{is_below, parent_of}
use Rattle.hg_base.specs.Within.{is_above}
use Rattle.hg_base.specs.declared.path.PathRef.{PathRef}
use Rattle.hg_docket.specs.Docket.{Contents}
use Rattle.hg_docket.specs.Docket as docket
use Rattle.hg_entry.specs.Entry.{entry_of}
use Rattle.hg_image.specs.Node.{fields_of}
use Rattle.hg_image.specs.Reading.{row_at}
use Rattle.hg_image.specs.Rows.{Row, rows_of}
use Rattle.hg_image.specs.View.{dir_of, row, rows, rows_below, rows_in}
use Rattle.hg_image.specs.declared.opened.Image.{Image}
use Rattle.hg_image.specs.declared.opened.List.{List as NodeList}
use Rattle.hg_image.specs.declared.opened.NodeRef.{NodeRef}
use Rattle.hg_mixed.specs.Held.{Held, has_list, image_table, is_left_in, is_lent, is_lent_in, node_here, table}
use Rattle.hg_mixed.specs.Lent.{covers, lent_at}
use Rattle.hg_image.specs.Found.{HasBelow}
use Rattle.hg_nodes.specs.Lists.{or_root}
use Rattle.hg_mixed.specs.Own.{InMemory}
use Rattle.hg_nodes.specs.Node.{NodeData, entry_in, node_at, source_in, source_text_in, text_in}
use Rattle.hg_mixed.specs.Opened.{node_of, source_place}
use Rattle.hg_mixed.specs.Parted.{AreWhole, image_rows}
use Rattle.hg_mixed.specs.Shown.{AnswersLent, AnswersList, AreLentWhole, IsAsImage, IsListAt}
use Rattle.hg_mixed.proofs.ImageFormed.{used_rows}
use Rattle.hg_image.proofs.Found.{row_is_path, row_missing, row_path}
use Rattle.hg_mixed.proofs.Kept.{has_by, listed_by, root_covered}
use Rattle.hg_mixed.proofs.LentWhole.{held_of}
use Rattle.hg_mixed.proofs.Moving.{first_row, none_is, right_above}

-- ---- the list of a directory

module _ (image : Image) (root : NodeList) (is_root : dir_of root ≡ None) (all : rows_in root ≡ rows image) where
  root_rows : (at : List ℕ) → row_at (rows_in root) at ≡ row_at (image_rows image) at
  root_rows at = ap (λ (r : List Row). row_at r at) (all ∙ sym (used_rows image))

  pub root_list : root.start ≡ image.docket.root_start → root.count ≡ image.docket.root_count → root.bytes.now ≡ image.bytes.now → IsListAt (docket.view image.docket) image.bytes.now (image_rows image) None root
  root_list start count bytes = record {
    in_dir = is_root;
    bytes = bytes;
    place = λ k. Some (sym start k, sym count k);
    rows = λ at above. root_rows at;
  }

  module _ (dir : List ℕ) where
    -- no node is at the directory
    pub none_list : None ≡ row_at (rows_in root) dir → (at : List ℕ) → parent_of at ≡ Some dir → row_at (image_rows image) at ≡ None
    none_list none at is =
        none_is (row_at (image_rows image) at) (λ some.
        let here : is_some (row_at (rows_in root) at) ≡ true = ap is_some (root_rows at) ∙ some in
        true≢false (sym here ∙ ap is_some (row_missing root at dir (row_is_path root at here) (ap (λ (d : Option (List ℕ)). is_above d dir) is_root) is (sym none))))

    -- a node is
    module _ (node : NodeRef) (found : Some (row node) ≡ row_at (rows_in root) dir) (below : HasBelow root node) where
      own_path : (row node).path ≡ dir
      own_path = row_path (rows_in root) dir (row node) (sym found)

      pub node_list : (kids : NodeList) → rows_in kids ≡ rows_below node → dir_of kids ≡ Some (row node).path → kids.start ≡ node.rec.kids_start → kids.count ≡ node.rec.kids_count → kids.bytes.now ≡ image.bytes.now
          → IsListAt (docket.view image.docket) image.bytes.now (image_rows image) (Some dir) kids
      node_list kids is in_dir start count bytes = record {
        in_dir = in_dir ∙ ap Some own_path;
        bytes = bytes;
        place =
            ap (option_map {U = ℕ × ℕ} (λ (r : Row). (r.rec.kids_start, r.rec.kids_count))) (sym (root_rows dir) ∙ sym found) ∙ (λ k. Some (sym start k, sym count k));
        rows = λ at above.
            ap (λ (r : List Row). row_at r at) is ∙ below at (ap (λ (p : List ℕ). is_below p at) own_path ∙ above) ∙ root_rows at;
      }

-- where nothing stands right in a directory, it has no list
pub no_list : (rows : List Row) (dir : Option (List ℕ)) → ((at : List ℕ) → parent_of at ≡ dir → row_at rows at ≡ None) → has_list rows dir ≡ false
no_list rows dir none = false_from_ne_true (has_list rows dir) (λ h.
    let row = listed_by rows dir h in true≢false (sym row.some ∙ ap is_some (none row.at row.parent)))

module _ (docket : Contents) (bytes : List ℕ) (rows : List Row) (dir : Option (List ℕ)) (list : NodeList) (is : IsListAt docket bytes rows dir list) where
  pub list_empty : rows_in list ≡ [] → has_list rows dir ≡ false
  list_empty none = no_list rows dir (λ at parent.
      sym (is.rows at (right_above dir at parent)) ∙ ap (λ (r : List Row). row_at r at) none)

  pub list_filled : 0 < list.count → AnswersList docket bytes rows dir (Some list)
  list_filled some =
      let first = first_row list some in
      let parent : parent_of first.0 ≡ dir = first.1 ∙ is.in_dir in
      (has_by rows dir first.0 (sym (ap is_some (is.rows first.0 (right_above dir first.0 parent))) ∙ first.2) parent, some, is)

-- ---- which lists are lent

module _ (left kept : List (List ℕ × List Row)) (dir text : List ℕ) (is : text ≡ dir) where
  pub asked_left : is_some (lent_at left text) ≡ true → true ≡ (is_left_in left dir || is_some (lent_at kept dir))
  asked_left own =
      sym (or_left (is_left_in left dir) (is_some (lent_at kept dir)) (or_left (is_some (lent_at left dir)) (covers left dir) (ap (λ (d : List ℕ). is_some (lent_at left d)) (sym is) ∙ own)))

  pub asked_kept : is_some (lent_at kept text) ≡ true → true ≡ (is_left_in left dir || is_some (lent_at kept dir))
  asked_kept own = sym (or_right (is_left_in left dir) (is_some (lent_at kept dir)) (ap (λ (d : List ℕ). is_some (lent_at kept d)) (sym is) ∙ own))

  pub asked_over : is_some (lent_at left text) ≡ false → is_some (lent_at kept text) ≡ false → covers left dir ≡ (is_left_in left dir || is_some (lent_at kept dir))
  asked_over no_own no_kept =
      sym (or_none (is_some (lent_at left dir)) (covers left dir) (is_some (lent_at kept dir))
      (ap (λ (d : List ℕ). is_some (lent_at left d)) (sym is) ∙ no_own) (ap (λ (d : List ℕ). is_some (lent_at kept d)) (sym is) ∙ no_kept))
    where
      or_none : (a b c : Bool) → a ≡ false → c ≡ false → ((a || b) || c) ≡ b
      or_none true b c p q = absurd (true≢false p)
      or_none false true c p q = refl
      or_none false false c p q = q

-- the root's list is by itself or not at all
pub asked_root : (left kept : List (List ℕ × List Row)) (text : List ℕ) → text ≡ [] → is_some (lent_at left text) ≡ false → is_some (lent_at kept text) ≡ false → false ≡ (is_left_in left [] || is_some (lent_at kept []))
asked_root left kept text is no_own no_kept =
    sym (false_from_ne_true (covers left []) (λ h. both_ways (is_some (lent_at left [])) (ap (λ (d : List ℕ). is_some (lent_at left d)) (sym is) ∙ no_own) (root_covered left h)))
    ∙ asked_over left kept [] text is no_own no_kept

pub asked_none : (left kept : List (List ℕ × List Row)) (dir : Option PathRef) → dir ≡ None → (text : List ℕ) → text ≡ or_root (option_map (λ d. d.text.now) dir) → is_some (lent_at left text) ≡ false
    → is_some (lent_at kept text) ≡ false → false ≡ (is_left_in left (or_root (option_map (λ d. d.text.now) dir)) || is_some (lent_at kept (or_root (option_map (λ d. d.text.now) dir))))
asked_none left kept None none text is no_own no_kept = asked_root left kept text is no_own no_kept
asked_none left kept (Some dir) none text is no_own no_kept = absurd (cc none)

module _ (held : Held) (dir : Option (List ℕ)) where
  and_off : (b : Bool) → (b && false) ≡ false
  and_off true = refl
  and_off false = refl

  pub not_lent : (is_left_in held.left (or_root dir) || is_some (lent_at held.kept (or_root dir))) ≡ false → is_lent held dir ≡ false
  not_lent none = ap (λ (b : Bool). has_list (rows_of held.docket held.bytes) dir && b) none ∙ and_off (has_list (rows_of held.docket held.bytes) dir)

  pub lent_answer : (is_left_in held.left (or_root dir) || is_some (lent_at held.kept (or_root dir))) ≡ true → (found : Option NodeList)
      → AnswersList held.docket held.bytes (rows_of held.docket held.bytes) dir found → AnswersLent held dir found
  lent_answer stands None none = ap (λ (b : Bool). b && (is_left_in held.left (or_root dir) || is_some (lent_at held.kept (or_root dir)))) none
  lent_answer stands (Some list) (has, some, is) = (
    ap (λ (b : Bool). b && (is_left_in held.left (or_root dir) || is_some (lent_at held.kept (or_root dir)))) has ∙ stands,
    record { in_dir = is.in_dir; bytes = is.bytes; place = is.place; some = some; rows = is.rows },
  )

  pub lent_some : (found : Option NodeList) → AnswersLent held dir found → is_some found ≡ is_lent held dir
  lent_some None none = sym none
  lent_some (Some list) lent = sym lent.0

-- ---- an image that is opened

module _ (docket : Contents) (all : List Row) (left : List (List ℕ × List Row)) (own : InMemory) (every : (at : List ℕ) → covers left at ≡ true) where
  and_on : (b : Bool) → (b && true) ≡ b
  and_on true = refl
  and_on false = refl

  pub all_lent : (dir : Option (List ℕ)) → is_lent_in all left own.kept dir ≡ has_list all dir
  all_lent dir =
      ap (λ (b : Bool). has_list all dir && b)
      (or_left (is_left_in left (or_root dir)) (is_some (lent_at own.kept (or_root dir))) (or_right (is_some (lent_at left (or_root dir))) (covers left (or_root dir)) (every (or_root dir))))
      ∙ and_on (has_list all dir)

  here : {X : Type 0} (at : List ℕ) (i o : X) → cond (covers left at) i o ≡ i
  here at i o = ap (λ (b : Bool). cond b i o) (every at)

  pub opened_whole : AreWhole docket all left own
  opened_whole dir lent = record {
    nodes = λ at above. here at (option_map node_of (row_at all at)) (node_at own.rows at);
    caches = λ at above. here at _ _;
    lists = λ sub above has. all_lent (Some sub) ∙ has;
  }

-- ---- what the image's own is

module _ (docket : Contents) (bytes : List ℕ) (left : List (List ℕ × List Row)) (own : InMemory) (are : AreWhole docket (rows_of docket bytes) left own) where
  entry_part : (b : Bool) (r : Option Row) (o : Option NodeData) → cond b (option_and_then (λ row. entry_of (fields_of row.rec)) r) (entry_in o) ≡ entry_in (cond b (option_map node_of r) o)
  entry_part true None o = refl
  entry_part true (Some r) o = refl
  entry_part false r o = refl

  source_part : (b : Bool) (r : Option Row) (o : Option NodeData) → cond b (option_and_then (λ row. row.source) r) (source_in o) ≡ source_in (cond b (option_map node_of r) o)
  source_part true None o = refl
  source_part true (Some r) o = refl
  source_part false r o = refl

  node_part : (b : Bool) (r : Option Row) (o : Option NodeData) → cond b (is_some r) (is_some o) ≡ is_some (cond b (option_map node_of r) o)
  node_part true None o = refl
  node_part true (Some r) o = refl
  node_part false r o = refl

  entry_row : (r : Option Row) → entry_in (option_map node_of r) ≡ option_and_then (λ row. entry_of (fields_of row.rec)) r
  entry_row None = refl
  entry_row (Some r) = refl

  source_row : (r : Option Row) → source_in (option_map node_of r) ≡ option_and_then (λ row. row.source) r
  source_row None = refl
  source_row (Some r) = refl

  node_row : (r : Option Row) → is_some (option_map node_of r) ≡ is_some r
  node_row None = refl
  node_row (Some r) = refl

  text_row : (r : Option Row) → text_in (option_map node_of r) ≡ option_map (λ row. row.rec.path_start) r
  text_row None = refl
  text_row (Some r) = refl

  source_text_row : (r : Option Row) → source_text_in (option_map node_of r) ≡ option_and_then source_place r
  source_text_row None = refl
  source_text_row (Some r) = refl

  as_image : (at : List ℕ) → node_here (rows_of docket bytes) left own.rows at ≡ option_map node_of (row_at (rows_of docket bytes) at)
      → (table (held_of docket bytes left own)).caches at ≡ (image_table (held_of docket bytes left own)).caches at → IsAsImage (held_of docket bytes left own) at
  as_image at node cache =
      let r = row_at (rows_of docket bytes) at in record {
        entry = entry_part (covers left at) r (node_at own.rows at) ∙ ap entry_in node ∙ entry_row r;
        source = source_part (covers left at) r (node_at own.rows at) ∙ ap source_in node ∙ source_row r;
        node = node_part (covers left at) r (node_at own.rows at) ∙ ap is_some node ∙ node_row r;
        cache = cache;
        text = ap text_in node ∙ text_row r;
        source_text = ap source_text_in node ∙ source_text_row r;
      }

  lent_whole : AreLentWhole (held_of docket bytes left own)
  lent_whole dir lent =
      let had = are dir lent in
      record { each = λ at above. as_image at (had.nodes at above) (had.caches at above); lists = had.lists }

  pub lent_image : (old : Held) → held_of docket bytes left own ≡ old → AreLentWhole old
  lent_image old same = subst AreLentWhole same lent_whole
