-- What of the old bytes the rows of a table that was appended still reach.
use Rattle.std.proofs.Common.{◌≡◌, ℕ, ◌+◌, ◌-◌, ◌<◌, Bool, true, false, ◌&&◌, cond, inl, inr, List, length, Option, Some, None, refl, sym, ap, subst, ◌∙◌, arith, eqb, eq-eqb, true≢false}
use Rattle.std.specs.Prelude.{is_some}
use Rattle.std.specs.List.{AllByRecursion, sum_by}
use Rattle.std.proofs.lemmas.Bool.{and_from, both_ways, cases_Bool, cond-false, cond-true, ne_eqb}
use Rattle.hg_base.specs.PathText.{parent_of}
use Rattle.hg_docket.specs.Docket.{Contents}
use Rattle.hg_entry.specs.Entry.{EntryData, has_entry}
use Rattle.hg_image.specs.Reading.{row_at}
use Rattle.hg_image.specs.Rows.{Row}
use Rattle.hg_image.specs.Walk.{levels}
use Rattle.hg_image.proofs.Sourced.{IsSourcedByEntry, list_sourced}
use Rattle.hg_mixed.specs.Held.{Held, is_lent, source_at, table, text_at}
use Rattle.hg_image.proofs.Found.{row_each, row_path}
use Rattle.hg_append.specs.Keeps.{keeps_lent, new_text}
use Rattle.hg_append.specs.Layout.{path_put, size_in, source_put, source_text}
use Rattle.hg_append.specs.Lost.{is_at, lost_of, named_length, reached}
use Rattle.hg_append.specs.Put.{nodes_in}
use Rattle.hg_append.specs.Tree.{Tree}
use Rattle.hg_append.proofs.Rows.{Adds, HasSource, HasText, IsNewRow, IsOnImage, IsOwnRow, old_rows, put_size, size_sum, source_node, source_row, text_node, text_row}
use Rattle.hg_append.proofs.Node.{row_in}
use Rattle.hg_append.proofs.KeptIn.{IsRight}
use Rattle.hg_append.proofs.RowSums.{same_sums, sum_both, weight}
use Rattle.hg_append.proofs.Back.{IsReadBack, found_new, lent_same, new_dist, new_nodes, old_dist, old_read}

module _ (held : Held) (file : List ℕ) (kept_rows : List ℕ → List Row) (on : IsOnImage held file kept_rows) (root : Contents) (t : Tree) (rows : List Row) (back : IsReadBack held file kept_rows on root t rows) where
  -- how many bytes of texts that are used again a row reaches
  abbrev again : Row → ℕ
  again row = cond (is_some (text_at held row.path)) row.rec.path_len 0 + cond (is_some (source_at held row.path)) (named_length row) 0

  -- how many old bytes a row of the new file reaches, and how many of those that a row of the image reaches aren't lost
  abbrev reused : Row → ℕ
  reused row = cond (is_lent held (parent_of row.path)) (reached row) (again row)

  abbrev saved : Row → ℕ
  saved row = reached row - lost_of held row

  reached_parts : (row : Row) → reached row ≡ lost_of held row + saved row
  reached_parts row = parts (is_lent held (parent_of row.path)) (is_at (text_at held row.path) row.rec.path_start) (has_entry row.rec.flags && is_at (source_at held row.path) row.rec.copy_start) row.rec.path_len (named_length row)
    where
      parts : (a b c : Bool) (m n : ℕ) → 44 + m + n ≡ cond a 0 (44 + cond b 0 m + cond c 0 n) + (44 + m + n - cond a 0 (44 + cond b 0 m + cond c 0 n))
      parts true b c m n = omega arith
      parts false true true m n = omega arith
      parts false true false m n = omega arith
      parts false false true m n = omega arith
      parts false false false m n = omega arith

  saved_free : (row : Row) → is_lent held (parent_of row.path) ≡ false
      → saved row ≡ cond (is_at (text_at held row.path) row.rec.path_start) row.rec.path_len 0 + cond (has_entry row.rec.flags && is_at (source_at held row.path) row.rec.copy_start) (named_length row) 0
  saved_free row free =
      ap (λ (a : Bool). reached row - cond a 0 (44 + cond (is_at (text_at held row.path) row.rec.path_start) 0 row.rec.path_len + cond (has_entry row.rec.flags && is_at (source_at held row.path) row.rec.copy_start) 0 (named_length row))) free
      ∙ parts (is_at (text_at held row.path) row.rec.path_start) (has_entry row.rec.flags && is_at (source_at held row.path) row.rec.copy_start) row.rec.path_len (named_length row)
    where
      parts : (b c : Bool) (m n : ℕ) → 44 + m + n - (44 + cond b 0 m + cond c 0 n) ≡ cond b m 0 + cond c n 0
      parts true true m n = omega arith
      parts true false m n = omega arith
      parts false true m n = omega arith
      parts false false m n = omega arith

  saved_lent : (row : Row) → is_lent held (parent_of row.path) ≡ true → saved row ≡ reached row
  saved_lent row lent =
      ap (λ (a : Bool). reached row - cond a 0 (44 + cond (is_at (text_at held row.path) row.rec.path_start) 0 row.rec.path_len + cond (has_entry row.rec.flags && is_at (source_at held row.path) row.rec.copy_start) 0 (named_length row))) lent
      ∙ omega arith

  -- each row of the new file reaches what was put of its node, and old bytes
  own_reached : Adds held file kept_rows on reached reused (put_size (keeps_lent held))
  own_reached dir at place child under is sound own =
      let row = row_in (keeps_lent held) at place child under in
      let free : reused row ≡ again row = cond-false (is_lent held (parent_of row.path)) (reached row) (again row) own.own in
      let named : named_length row ≡ length (source_text child.source) = own.named in
      let text : length child.path ≡ length (path_put (keeps_lent held) child) + cond (is_some (text_at held child.path)) (length child.path) 0 =
      text_parts child.text_at child.path ∙ ap (λ (o : Option ℕ). length (path_put (keeps_lent held) child) + cond (is_some o) (length child.path) 0) is.text in
      let source : length (source_text child.source) ≡ length (source_put (keeps_lent held) child) + cond (is_some (source_at held child.path)) (length (source_text child.source)) 0 =
      text_parts child.source_at (source_text child.source) ∙ ap (λ (o : Option ℕ). length (source_put (keeps_lent held) child) + cond (is_some o) (length (source_text child.source)) 0) is.source_text in
      let same : cond {A = ℕ} (is_some (source_at held child.path)) (named_length row) 0 ≡ cond {A = ℕ} (is_some (source_at held child.path)) (length (source_text child.source)) 0 = ap (λ (n : ℕ). cond {A = ℕ} (is_some (source_at held child.path)) n 0) named in
      omega (arith, free, named, text, source, same)
    where
      text_parts : (o : Option ℕ) (text : List ℕ) → length text ≡ length (new_text o text) + cond {A = ℕ} (is_some o) (length text) 0
      text_parts None text = omega arith
      text_parts (Some place) text = omega arith

  old_sourced : (path : List ℕ) (r : Row) → row_at (old_rows held) path ≡ Some r → IsSourcedByEntry r
  old_sourced path r here = row_each IsSourcedByEntry (old_rows held) path r (subst (AllByRecursion IsSourcedByEntry) (old_read held file kept_rows on) (list_sourced levels held.bytes held.docket.root_start held.docket.root_count)) here

  -- at a path of which the list isn't lent, what is used again of its texts is what isn't lost
  module _ (path : List ℕ) (free : is_lent held (parent_of path) ≡ false) where
    no_again : (r : Row) → r.path ≡ path → text_at held path ≡ None → source_at held path ≡ None → again r ≡ 0
    no_again r e text source =
        ap (λ (p : List ℕ). cond (is_some (text_at held p)) r.rec.path_len 0 + cond (is_some (source_at held p)) (named_length r) 0) e
        ∙ ap (λ (o : Option ℕ). cond (is_some o) r.rec.path_len 0 + cond (is_some (source_at held path)) (named_length r) 0) text
        ∙ ap (λ (o : Option ℕ). 0 + cond (is_some o) (named_length r) 0) source

    off : (t : Bool) → (t && false) ≡ false
    off true = refl
    off false = refl

    no_saved : (r : Row) → r.path ≡ path → text_at held path ≡ None → source_at held path ≡ None → saved r ≡ 0
    no_saved r e text source =
        saved_free r (ap (λ (p : List ℕ). is_lent held (parent_of p)) e ∙ free)
        ∙ ap (λ (p : List ℕ). cond (is_at (text_at held p) r.rec.path_start) r.rec.path_len 0 + cond (has_entry r.rec.flags && is_at (source_at held p) r.rec.copy_start) (named_length r) 0) e
        ∙ ap (λ (o : Option ℕ). cond (is_at o r.rec.path_start) r.rec.path_len 0 + cond (has_entry r.rec.flags && is_at (source_at held path) r.rec.copy_start) (named_length r) 0) text
        ∙ ap (λ (o : Option ℕ). 0 + cond (has_entry r.rec.flags && is_at o r.rec.copy_start) (named_length r) 0) source
        ∙ ap (λ (b : Bool). 0 + cond b (named_length r) 0) (off (has_entry r.rec.flags))

    -- a place of a text that isn't there
    no_place : (o : Option ℕ) → ((place : ℕ) → o ≡ Some place → ⊥) → o ≡ None
    no_place None none = refl
    no_place (Some place) none = absurd (none place refl)

    same_row : (a b : Row) → Some a ≡ Some b → a ≡ b
    same_row a b e = cc

    -- both have a row
    texts_same : (r n : Row) → row_at (old_rows held) path ≡ Some r → row_at rows path ≡ Some n → n.rec.path_len ≡ length path → (o : Option ℕ) → text_at held path ≡ o
        → cond (is_at o r.rec.path_start) r.rec.path_len 0 ≡ cond (is_some o) n.rec.path_len 0
    texts_same r n old new long None e = refl
    texts_same r n old new long (Some place) e =
        let has : HasText held path place = text_row held file kept_rows on path place e in
        let is : has.row ≡ r = same_row has.row r (sym has.there ∙ old) in
        let start : r.rec.path_start ≡ place = ap (λ (x : Row). x.rec.path_start) (sym is) ∙ has.start in
        cond-true (eqb place r.rec.path_start) r.rec.path_len 0 (eq-eqb place r.rec.path_start (sym start)) ∙ on.image.long path r old ∙ sym long

    sources_same : (r n : Row) → row_at (old_rows held) path ≡ Some r → n.source ≡ (table held).sources path → named_length n ≡ length (source_text n.source) → (o : Option ℕ) → source_at held path ≡ o
        → cond (has_entry r.rec.flags && is_at o r.rec.copy_start) (named_length r) 0 ≡ cond (is_some o) (named_length n) 0
    sources_same r n old says named None e = ap (λ (b : Bool). cond b (named_length r) 0) (off (has_entry r.rec.flags))
    sources_same r n old says named (Some place) e =
        let has : HasSource held path place = source_row held file kept_rows on path place e in
        let is : has.row ≡ r = same_row has.row r (sym has.there ∙ old) in
        let start : r.rec.copy_start ≡ place = ap (λ (x : Row). x.rec.copy_start) (sym is) ∙ has.start in
        let source : r.source ≡ Some has.source = ap (λ (x : Row). x.source) (sym is) ∙ has.named in
        let some : 0 < r.rec.copy_start = on.image.start path r has.source old source in
        let test : eqb r.rec.copy_start 0 ≡ false = ne_eqb r.rec.copy_start 0 (λ z. absurd (omega (arith, z, some))) in
        let long : named_length r ≡ length has.source = ap (λ (b : Bool). cond b 0 r.rec.copy_len) test ∙ on.image.source path r has.source old source in
        let entry : has_entry r.rec.flags ≡ true = sourced_entry (has_entry r.rec.flags) _ r.source has.source source (old_sourced path r old) in
        cond-true (has_entry r.rec.flags && eqb place r.rec.copy_start) (named_length r) 0 (and_from _ _ entry (eq-eqb place r.rec.copy_start (sym start)))
        ∙ long ∙ sym (named ∙ ap (λ (o : Option (List ℕ)). length (source_text o)) (says ∙ has.same))
      where
        sourced_entry : (b : Bool) (x : EntryData) (o : Option (List ℕ)) (s : List ℕ) → o ≡ Some s → (cond b (Some x) None ≡ None → o ≡ None) → b ≡ true
        sourced_entry true x o s some none = refl
        sourced_entry false x o s some none = absurd (true≢false (sym (ap is_some some) ∙ ap is_some (none refl)))

    same_weight : (a b : Option Row) → row_at (old_rows held) path ≡ a → row_at rows path ≡ b → weight saved a ≡ weight reused b
    same_weight None None old new = refl
    same_weight (Some r) None old new =
        let gone : (table held).nodes path ≡ false = sym (new_nodes held file kept_rows on root t rows back path) ∙ ap is_some new in
        no_saved r (row_path (old_rows held) path r old)
        (no_place (text_at held path) (λ place e. both_ways ((table held).nodes path) gone (text_node held file kept_rows on path place e)))
        (no_place (source_at held path) (λ place e. both_ways ((table held).nodes path) gone (source_node held file kept_rows on path place e)))
    same_weight None (Some n) old new =
        let e : n.path ≡ path = row_path rows path n new in
        sym (cond-false (is_lent held (parent_of n.path)) (reached n) (again n) (ap (λ (p : List ℕ). is_lent held (parent_of p)) e ∙ free)
        ∙ no_again n e
        (no_place (text_at held path) (λ place is. let has : HasText held path place = text_row held file kept_rows on path place is in true≢false (sym (ap is_some has.there) ∙ ap is_some old)))
        (no_place (source_at held path) (λ place is. let has : HasSource held path place = source_row held file kept_rows on path place is in true≢false (sym (ap is_some has.there) ∙ ap is_some old))))
    same_weight (Some r) (Some n) old new =
        let e : n.path ≡ path = row_path rows path n new in
        let d : r.path ≡ path = row_path (old_rows held) path r old in
        let right : IsRight (table held) n = row_each (IsRight (table held)) rows path n back.right new in
        let own : IsOwnRow held n = own_of (found_new held file kept_rows on root t rows back path n new).0 e in
        let texts : cond (is_at (text_at held path) r.rec.path_start) r.rec.path_len 0 ≡ cond (is_some (text_at held path)) n.rec.path_len 0 =
        texts_same r n old new (own.long ∙ ap length e) (text_at held path) refl in
        let sources : cond (has_entry r.rec.flags && is_at (source_at held path) r.rec.copy_start) (named_length r) 0 ≡ cond (is_some (source_at held path)) (named_length n) 0 =
        sources_same r n old (right.source ∙ ap (table held).sources e) own.named (source_at held path) refl in
        saved_free r (ap (λ (p : List ℕ). is_lent held (parent_of p)) d ∙ free)
        ∙ ap (λ (p : List ℕ). cond (is_at (text_at held p) r.rec.path_start) r.rec.path_len 0 + cond (has_entry r.rec.flags && is_at (source_at held p) r.rec.copy_start) (named_length r) 0) d
        ∙ (λ i. texts i + sources i)
        ∙ sym (cond-false (is_lent held (parent_of n.path)) (reached n) (again n) (ap (λ (p : List ℕ). is_lent held (parent_of p)) e ∙ free)
        ∙ ap (λ (p : List ℕ). cond (is_some (text_at held p)) n.rec.path_len 0 + cond (is_some (source_at held p)) (named_length n) 0) e)
      where
        own_of : IsNewRow held n → n.path ≡ path → IsOwnRow held n
        own_of (inl own) e = own
        own_of (inr kept) e = absurd (both_ways (is_lent held (parent_of n.path)) (ap (λ (p : List ℕ). is_lent held (parent_of p)) e ∙ free) kept.lent)

  -- at a path of which the list is lent both rows are one
  lent_weight : (path : List ℕ) → is_lent held (parent_of path) ≡ true → weight saved (row_at (old_rows held) path) ≡ weight reused (row_at rows path)
  lent_weight path lent = by_row (row_at (old_rows held) path) refl ∙ ap (weight reused) (sym (lent_same held file kept_rows on root t rows back path lent))
    where
      by_row : (o : Option Row) → row_at (old_rows held) path ≡ o → weight saved o ≡ weight reused o
      by_row None here = refl
      by_row (Some r) here =
          let in_lent : is_lent held (parent_of r.path) ≡ true = ap (λ (p : List ℕ). is_lent held (parent_of p)) (row_path (old_rows held) path r here) ∙ lent in
          saved_lent r in_lent ∙ sym (cond-true (is_lent held (parent_of r.path)) (reached r) (again r) in_lent)

  pub reached_told : sum_by reached rows + sum_by (lost_of held) (old_rows held) ≡ size_in (keeps_lent held) t + sum_by reached (old_rows held)
  reached_told =
      let all : sum_by reached rows ≡ sum_by (put_size (keeps_lent held)) (nodes_in (keeps_lent held) t) + sum_by reused rows =
      back.sums reached reused (put_size (keeps_lent held)) own_reached (λ row kept. sym (cond-true (is_lent held (parent_of row.path)) (reached row) (again row) kept.lent)) in
      let size : size_in (keeps_lent held) t ≡ sum_by (put_size (keeps_lent held)) (nodes_in (keeps_lent held) t) = size_sum (keeps_lent held) t in
      let same : sum_by saved (old_rows held) ≡ sum_by reused rows =
      same_sums saved reused (old_rows held) rows (old_dist held file kept_rows on) (new_dist held file kept_rows on root t rows back) (λ path. elim (cases_Bool (is_lent held (parent_of path))) [
        | inl lent ↦ lent_weight path lent
        | inr free ↦ same_weight path free (row_at (old_rows held) path) (row_at rows path) refl refl
      ]) in
      let parts : sum_by reached (old_rows held) ≡ sum_by (lost_of held) (old_rows held) + sum_by saved (old_rows held) = sum_both reached (lost_of held) saved reached_parts (old_rows held) in
      omega (arith, all, size, same, parts)
