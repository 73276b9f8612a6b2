-- A table that was appended is read again: from the data file with what was put behind it.
use Rattle.std.proofs.Common.{◌≡◌, ℕ, ◌+◌, ◌≤◌, Bool, true, false, List, ◌++◌, length, take, Option, Some, None, refl, sym, ap, subst, ◌∙◌, arith, ltb, eq-eqb, le-leb, append-nil}
use Rattle.std.specs.Prelude.{MatchBool}
use Rattle.std.specs.List.{sum_by}
use Rattle.std.proofs.lemmas.Bool.{and_from, cond-false, cond-true}
use Rattle.std.proofs.lemmas.Bool.Decides.{nat_tests}
use Rattle.std.proofs.lemmas.List.{length-append, take_all}
use Rattle.hg_docket.specs.Docket.{Contents, docket_of}
use Rattle.hg_docket.specs.declared.fault.DocketFault.{DocketFault}
use Rattle.hg_image.specs.Counts.{is_counted}
use Rattle.hg_image.specs.Reading.{data_reading, docket_reading, of_data, reading_of, sound_reading, table_of}
use Rattle.hg_image.specs.Rows.{Row, list_rows, rows_of}
use Rattle.hg_image.specs.Walk.{image_fault, levels, list_fault}
use Rattle.hg_image.specs.declared.fault.NodeFault.{NodeFault}
use Rattle.hg_image.specs.declared.fault.NodeFault.TheVariants as a_fault
use Rattle.hg_mixed.specs.Held.{Held, is_lent, table}
use Rattle.hg_nodes.specs.Edits.{IsSame}
use Rattle.hg_mixed.specs.Shown.{list_place}
use Rattle.hg_append.specs.declared.encoding.Encoded.{Encoded}
use Rattle.hg_append.specs.Appended.{IsExact, IsSoundlyAppended, StaysAt, contents_behind, end_with, file_with}
use Rattle.hg_append.specs.Encoded.{ReadsAs}
use Rattle.hg_append.specs.Keeps.{keeps_lent}
use Rattle.hg_append.specs.Layout.{front_size_in, put_in, size_in, start_in}
use Rattle.hg_append.specs.Lost.{lost, lost_of, reached, waste}
use Rattle.hg_append.specs.Tree.{IsTreeIn, Nothing, Tree, heads}
use Rattle.hg_append.proofs.Rows.{IsOnImage, old_rows}
use Rattle.hg_append.proofs.Node.{rows_in_at}
use Rattle.hg_append.proofs.Right.{rows_same}
use Rattle.hg_append.proofs.Sizes.{put_length_in}
use Rattle.hg_append.proofs.Back.{IsReadBack, copies_told, lent_back, list_stays, own_back, root_with, rows_fit}
use Rattle.hg_append.proofs.Lost.{reached_told}

module _ (held : Held) (e : Encoded) (s : IsSoundlyAppended held e) (kept_rows : List ℕ → List Row) (on : IsOnImage held (file_with held e) kept_rows) where
  -- the rows that are read
  pub record HasRows : Type 0 where
    pub rows : List Row
    pub back : IsReadBack held (file_with held e) kept_rows on (contents_behind held s.appended.tree) s.appended.tree rows

  pub found : HasRows
  found = by_root (is_lent held None) refl s.appended.tree refl s.appended.is
    where
      by_root : (lent : Bool) → is_lent held None ≡ lent → (t : Tree) → s.appended.tree ≡ t → MatchBool lent (t ≡ Nothing) (IsTreeIn held (keeps_lent held) None t) → HasRows
      by_root true lent t same none =
          let nothing : s.appended.tree ≡ Nothing = same ∙ none in
          let whole : file_with held e ≡ held.bytes = ap (λ (l : List ℕ). held.bytes ++ l) (s.appended.bytes ∙ ap (put_in (keeps_lent held) held.docket.used) nothing) ∙ append-nil held.bytes in
          let back : IsReadBack held (file_with held e) kept_rows on (root_with true held Nothing (contents_behind held Nothing)) Nothing (old_rows held) = lent_back held (file_with held e) kept_rows on lent whole (contents_behind held Nothing) in
          let right : root_with true held Nothing (contents_behind held Nothing) ≡ contents_behind held Nothing = ap (λ (b : Bool). root_with b held Nothing (contents_behind held Nothing)) (sym lent) in
          record {
            rows = old_rows held;
            back = subst (λ (t : Tree). IsReadBack held (file_with held e) kept_rows on (contents_behind held t) t (old_rows held)) (sym nothing)
                (subst (λ (c : Contents). IsReadBack held (file_with held e) kept_rows on c Nothing (old_rows held)) right back);
          }
      by_root false free t same is =
          let tree = s.appended.tree in
          let rows = rows_in_at (keeps_lent held) kept_rows held.docket.used (held.docket.used + front_size_in (keeps_lent held) tree) tree in
          let whole : file_with held e ≡ held.bytes ++ put_in (keeps_lent held) held.docket.used tree = ap (λ (l : List ℕ). held.bytes ++ l) s.appended.bytes in
          let is_tree : IsTreeIn held (keeps_lent held) None tree = subst (IsTreeIn held (keeps_lent held) None) (sym same) is in
          let back : IsReadBack held (file_with held e) kept_rows on (root_with false held tree (contents_behind held tree)) tree rows =
          own_back held (file_with held e) kept_rows on tree free is_tree s.sound whole s.appended.small (contents_behind held tree) in
          let right : root_with false held tree (contents_behind held tree) ≡ contents_behind held tree = ap (λ (b : Bool). root_with b held tree (contents_behind held tree)) (sym free) in
          record { rows = rows; back = subst (λ (c : Contents). IsReadBack held (file_with held e) kept_rows on c tree rows) right back }

  size : length (file_with held e) ≡ end_with held s.appended.tree
  size =
      let both : length (held.bytes ++ e.bytes.items) ≡ length held.bytes + length e.bytes.items = length-append held.bytes e.bytes.items in
      let long : length e.bytes.items ≡ size_in (keeps_lent held) s.appended.tree = ap length s.appended.bytes ∙ put_length_in (keeps_lent held) held.docket.used s.appended.tree in
      let used : length held.bytes ≡ held.docket.used = on.used in
      omega (arith, both, long, used)

  used_all : take (end_with held s.appended.tree) (file_with held e) ≡ file_with held e
  used_all = let same : length (file_with held e) ≡ end_with held s.appended.tree = size in take_all (end_with held s.appended.tree) (file_with held e) (omega (arith, same))

  no_fault : image_fault (docket_of e.docket.items) (file_with held e) ≡ None
  no_fault =
      let c = contents_behind held s.appended.tree in
      let same : length (file_with held e) ≡ end_with held s.appended.tree = size in
      let long : ltb (length (file_with held e)) (end_with held s.appended.tree) ≡ false = grind (arith, nat_tests, same) in
      ap (λ (c : Contents). image_fault c (file_with held e)) s.back.same
      ∙ cond-false (ltb (length (file_with held e)) (end_with held s.appended.tree)) (Some (a_fault.DataShort (length (file_with held e)) (end_with held s.appended.tree)))
      (list_fault levels (take (end_with held s.appended.tree) (file_with held e)) None c.root_start c.root_count) long
      ∙ ap (λ (b : List ℕ). list_fault levels b None c.root_start c.root_count) used_all
      ∙ found.back.none

  rows_read : rows_of (docket_of e.docket.items) (file_with held e) ≡ found.rows
  rows_read =
      let c = contents_behind held s.appended.tree in
      ap (λ (c : Contents). rows_of c (file_with held e)) s.back.same
      ∙ ap (λ (b : List ℕ). list_rows levels b c.root_start c.root_count) used_all
      ∙ found.back.is

  pub reads : ReadsAs (table held) (reading_of e.docket.items (file_with held e))
  reads = record {
    found = table_of (docket_of e.docket.items) (rows_of (docket_of e.docket.items) (file_with held e));
    is = ap (λ (o : Option DocketFault). docket_reading o (data_reading (docket_of e.docket.items) (file_with held e))) s.back.whole
        ∙ ap (λ (o : Option NodeFault). of_data (sound_reading o (table_of (docket_of e.docket.items) (rows_of (docket_of e.docket.items) (file_with held e))))) no_fault;
    same = subst (λ (rows : List Row). IsSame (table_of (docket_of e.docket.items) rows) (table held)) (sym rows_read)
        (rows_same held on.formed found.rows found.back.right found.back.all (docket_of e.docket.items) (ap (λ (c : Contents). c.p1) s.back.same) (ap (λ (c : Contents). c.p2) s.back.same) (ap (λ (c : Contents). c.hash) s.back.same));
  }

  pub counted : is_counted (docket_of e.docket.items) (rows_of (docket_of e.docket.items) (file_with held e)) ≡ true
  counted =
      let c = contents_behind held s.appended.tree in
      ap (λ (c : Contents). is_counted c (rows_of c (file_with held e))) s.back.same
      ∙ ap (λ (c : Contents). is_counted (contents_behind held s.appended.tree) (rows_of c (file_with held e))) (sym s.back.same)
      ∙ ap (is_counted c) rows_read
      ∙ and_from _ _
      (and_from _ _ (and_from _ _ (eq-eqb _ _ (sym found.back.entries)) (eq-eqb _ _ (copies_told held (file_with held e) kept_rows on c s.appended.tree found.rows found.back))) found.back.counted)
      (le-leb _ _ (rows_fit held (file_with held e) kept_rows on c s.appended.tree found.rows found.back))

  list_at : (dir : List ℕ) → is_lent held (Some dir) ≡ true → StaysAt held e (Some dir)
  list_at dir lent =
      ap (λ (rows : List Row). list_place (docket_of e.docket.items) rows (Some dir)) rows_read
      ∙ list_stays held (file_with held e) kept_rows on (contents_behind held s.appended.tree) s.appended.tree found.rows found.back dir lent

  root_at : is_lent held None ≡ true → StaysAt held e None
  root_at lent =
      let c = contents_behind held s.appended.tree in
      let start : c.root_start ≡ held.docket.root_start = cond-true (is_lent held None) held.docket.root_start (start_in (keeps_lent held) held.docket.used s.appended.tree) lent in
      let count : c.root_count ≡ held.docket.root_count = cond-true (is_lent held None) held.docket.root_count (length (heads s.appended.tree)) lent in
      ap (λ (c : Contents). list_place c (rows_of (docket_of e.docket.items) (file_with held e)) None) s.back.same ∙ (λ i. Some (start i, count i))

  pub stays : (dir : Option (List ℕ)) → is_lent held dir ≡ true → StaysAt held e dir
  stays None lent = root_at lent
  stays (Some dir) lent = list_at dir lent

  -- what is told as unreachable is what nothing reaches, and is exact again
  pub exactly : IsExact held → (docket_of e.docket.items).unreachable + sum_by reached (rows_of (docket_of e.docket.items) (file_with held e)) ≡ (docket_of e.docket.items).used
  exactly exact =
      let t = s.appended.tree in
      let told : sum_by reached found.rows + sum_by (lost_of held) (old_rows held) ≡ size_in (keeps_lent held) t + sum_by reached (old_rows held) =
      reached_told held (file_with held e) kept_rows on (contents_behind held t) t found.rows found.back in
      let was : held.docket.unreachable + sum_by reached (old_rows held) ≡ held.docket.used = exact in
      let most : lost held ≤ end_with held t = omega (arith, told, was) in
      let test : ltb (end_with held t) (lost held) ≡ false = grind (arith, nat_tests, most) in
      let now : (docket_of e.docket.items).unreachable ≡ lost held = ap (λ (c : Contents). c.unreachable) s.back.same ∙ cond-false (ltb (end_with held t) (lost held)) (end_with held t) (lost held) test in
      let rows : sum_by reached (rows_of (docket_of e.docket.items) (file_with held e)) ≡ sum_by reached found.rows = ap (sum_by reached) rows_read in
      let used : (docket_of e.docket.items).used ≡ end_with held t = ap (λ (c : Contents). c.used) s.back.same in
      omega (arith, told, was, now, rows, used)

  pub wasted : IsExact held → (docket_of e.docket.items).unreachable ≡ waste (docket_of e.docket.items) (rows_of (docket_of e.docket.items) (file_with held e))
  wasted exact =
      let all : (docket_of e.docket.items).unreachable + sum_by reached (rows_of (docket_of e.docket.items) (file_with held e)) ≡ (docket_of e.docket.items).used = exactly exact in
      omega (arith, all)
