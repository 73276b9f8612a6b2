-- One entry more in a table.
use Rattle.std.proofs.Common.{◌≡◌, ℕ, zero, suc, ◌+◌, ◌^◌, ◌<◌, Bool, true, false, cond, List, [], inl, inr, Option, Some, None, refl, sym, ap, subst, ◌∙◌, arith, true≢false}
use Rattle.std.specs.Prelude.{◌*◌, codes, is_some, replicate}
use Rattle.std.specs.Str.{bytes_eq}
use Rattle.std.proofs.lemmas.Bool.{cases_Bool, cases_lt, cond-true, cond-false}
use Rattle.hg_docket.specs.Docket.{Contents, empty_docket}
use Rattle.hg_docket.specs.Number.{hex_text, next_name}
use Rattle.hg_entry.specs.Entry.{EntryData}
use Rattle.hg_entry.specs.Table.{Table}
use Rattle.hg_gen.specs.Copy.{path_of}
use Rattle.hg_gen.specs.Recorded.{AreEntries, IsTable, entry_of, parent}
use Rattle.hg_gen.proofs.Naming.{files_differ, other_bytes}
use Rattle.hg_image.specs.Reading.{table_of}
use Rattle.hg_image.specs.Rows.{Row, list_rows, nodes_rows, rows_of}
use Rattle.hg_image.specs.Walk.{image_fault, levels, list_fault}
use Rattle.hg_nodes.specs.Edits.{IsSame, after_ids, after_set}
use Rattle.hg_tree.proofs.Planting.{equal_bytes, same_bytes}

-- an empty table
pub none_entered : (docket : Contents) (rows : List Row) (t : Table) → rows ≡ [] → IsSame t (table_of docket rows) → AreEntries 0 t
none_entered docket rows t none same = record {
  entry = λ i below. absurd (omega (arith, below));
  only = λ at there. absurd (true≢false (sym there ∙ ap is_some (same.entries at ∙ ap (λ (r : List Row). (table_of docket r).entries at) none)));
  sources = λ at. same.sources at ∙ ap (λ (r : List Row). (table_of docket r).sources at) none;
  caches = λ at. same.caches at ∙ ap (λ (r : List Row). (table_of docket r).caches at) none;
}

-- the same by another table
pub entered_as : (i : ℕ) (a b : Table) → IsSame a b → AreEntries i b → AreEntries i a
entered_as i a b same upto = record {
  entry = λ j below. same.entries (path_of j) ∙ upto.entry j below;
  only = λ at there. upto.only at (ap is_some (sym (same.entries at)) ∙ there);
  sources = λ at. same.sources at ∙ upto.sources at;
  caches = λ at. same.caches at ∙ upto.caches at;
}

module _ (i : ℕ) (t : Table) (upto : AreEntries i t) (small : i < 2 ^ 32) where
  -- the next file had no entry
  free : is_some (t.entries (path_of i)) ≡ true → ⊥
  free there =
      let at = upto.only (path_of i) there in
      let less : at.0 < i = at.1 in
      let same : i ≡ at.0 = files_differ i at.0 (omega arith) (omega arith) at.2 in
      absurd (omega (arith, same, less))

  none_free : (o : Option EntryData) → (is_some o ≡ true → ⊥) → o ≡ None
  none_free None gone = refl
  none_free (Some entry) gone = absurd (gone refl)

  -- it gets none
  pub none_more : None ≡ entry_of i → AreEntries (i + 1) t
  none_more none = record {
    entry = more;
    only = λ at there. let h = upto.only at there in let less : h.0 < i = h.1 in (h.0, omega arith, h.2);
    sources = upto.sources;
    caches = upto.caches;
  }
    where
      more : (j : ℕ) → j < i + 1 → t.entries (path_of j) ≡ entry_of j
      more j below = elim (cases_lt j i) [
        | inl less ↦ upto.entry j less
        | inr last ↦
            let same : j ≡ i = omega arith in
            subst (λ (k : ℕ). t.entries (path_of k) ≡ entry_of k) (sym same) (none_free (t.entries (path_of i)) free ∙ none)
      ]

  -- or one
  pub one_more : (new : Table) (entry : EntryData) → Some entry ≡ entry_of i → IsSame new (after_set (path_of i) entry t) → AreEntries (i + 1) new
  one_more new entry is same = record { entry = more; only = only; sources = λ at. same.sources at ∙ upto.sources at; caches = λ at. same.caches at ∙ no_cache at }
    where
      no_cache : (at : List ℕ) → cond (bytes_eq (path_of i) at) None (t.caches at) ≡ None
      no_cache at = by (bytes_eq (path_of i) at)
        where
          by : (b : Bool) → cond b None (t.caches at) ≡ None
          by true = refl
          by false = upto.caches at

      more : (j : ℕ) → j < i + 1 → new.entries (path_of j) ≡ entry_of j
      more j below = elim (cases_lt j i) [
        | inl less ↦
            same.entries (path_of j)
            ∙ cond-false (bytes_eq (path_of i) (path_of j)) (Some entry) (t.entries (path_of j))
            (other_bytes (path_of i) (path_of j) (λ e. let one : i ≡ j = files_differ i j (omega arith) (omega arith) e in absurd (omega (arith, one, less))))
            ∙ upto.entry j less
        | inr last ↦
            let one : j ≡ i = omega arith in
            subst (λ (k : ℕ). new.entries (path_of k) ≡ entry_of k) (sym one)
            (same.entries (path_of i) ∙ cond-true (bytes_eq (path_of i) (path_of i)) (Some entry) (t.entries (path_of i)) (equal_bytes (path_of i)) ∙ is)
      ]

      only : (at : List ℕ) → is_some (new.entries at) ≡ true → (j : ℕ) × (j < i + 1) × (at ≡ path_of j)
      only at there = elim (cases_Bool (bytes_eq (path_of i) at)) [
        | inl one ↦ (i, omega arith, sym (same_bytes (path_of i) at one))
        | inr apart ↦
            let h = upto.only at (ap is_some (sym (same.entries at ∙ cond-false (bytes_eq (path_of i) at) (Some entry) (t.entries at) apart)) ∙ there) in
            let less : h.0 < i = h.1 in
            (h.0, omega arith, h.2)
      ]

-- the entries of a table are those of the same with other parents
under_ids : (i : ℕ) (p1 p2 : List ℕ) (t : Table) → AreEntries i t → AreEntries i (after_ids p1 p2 t)
under_ids i p1 p2 t are = record { entry = are.entry; only = are.only; sources = are.sources; caches = are.caches }

-- an empty image, its parents set, its entries set, and read again
pub recorded : (dirs : ℕ) (docket : Contents) (rows : List Row) (opened given filled found : Table) → docket ≡ empty_docket → rows ≡ [] → IsSame opened (table_of docket rows)
    → IsSame given (after_ids parent (replicate 20 0) opened) → filled.p1 ≡ given.p1 → filled.p2 ≡ given.p2 → filled.hash ≡ given.hash
    → (AreEntries 0 given → AreEntries (16 * dirs) filled) → IsSame found filled → IsTable dirs found
recorded dirs docket rows opened given filled found empty none start set p1 p2 hash fill read = record {
  p1 = read.p1 ∙ p1 ∙ set.p1;
  p2 = read.p2 ∙ p2 ∙ set.p2;
  hash = read.hash ∙ hash ∙ set.hash ∙ start.hash ∙ ap (λ (d : Contents). d.hash) empty;
  entries = entered_as (16 * dirs) found filled read
      (fill (entered_as 0 given (after_ids parent (replicate 20 0) opened) set (under_ids 0 parent (replicate 20 0) opened (none_entered docket rows opened none start))));
}

-- nothing is wrong with an empty image, which has no rows, and behind it comes the first identifier
none_listed : (depth : ℕ) (bytes : List ℕ) → list_fault depth bytes None 0 0 ≡ None
unfolding list_fault
none_listed zero bytes = refl
none_listed (suc depth) bytes = refl

none_below : (depth : ℕ) (bytes : List ℕ) → list_rows depth bytes 0 0 ≡ []
unfolding list_rows nodes_rows
none_below zero bytes = refl
none_below (suc depth) bytes = refl

pub no_fault : image_fault empty_docket [] ≡ None
no_fault = none_listed levels []

pub no_rows : rows_of empty_docket [] ≡ []
no_rows = none_below levels []

pub first_name : next_name [] ≡ Some (codes "0000000000000000")
unfolding hex_text
first_name = refl
