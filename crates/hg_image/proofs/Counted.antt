-- The counts of a node, of what is below it and of what stands apart are counted apart.
use Rattle.std.proofs.Common.{◌≡◌, ℕ, ◌+◌, Bool, true, false, ◌&&◌, cond, List, [], ◌∷◌, ◌++◌, refl, sym, ap, ◌∙◌, arith, eqb}
use Rattle.std.specs.Prelude.{count_by}
use Rattle.std.specs.List.{AllByRecursion, list_all}
use Rattle.std.proofs.lemmas.List.Sums.{sum_by-append, sum_by-cons}
use Rattle.std.proofs.lemmas.List.Folds.{list_all-append}
use Rattle.hg_base.specs.PathText.{is_below}
use Rattle.hg_base.proofs.Below.{below_itself, below_not_back}
use Rattle.hg_image.specs.Rows.{Row, AreApart, AreParted}
use Rattle.hg_image.proofs.Apart.{each_then}
use Rattle.hg_image.specs.Counts.{is_entry, is_tracked, count_below, is_row_counted, are_counted}

pub count_append : (test : Row → Bool) (a b : List Row) → count_by test (a ++ b) ≡ count_by test a + count_by test b
count_append test a b = sum_by-append (λ r. cond (test r) 1 0) a b

pub count_cons : (test : Row → Bool) (r : Row) (rows : List Row) → count_by test (r ∷ rows) ≡ cond (test r) 1 0 + count_by test rows
count_cons test r rows = sum_by-cons (λ s. cond (test s) 1 0) r rows

-- nothing is below a path, or all is
count_none : (test : Row → Bool) (path : List ℕ) (rows : List Row) → AllByRecursion (λ r. is_below path r.path ≡ false) rows → count_below test path rows ≡ 0
count_none test path [] h = refl
count_none test path (r ∷ rows) h =
    let here : ◌≡◌ {A = ℕ} (cond {A = ℕ} (is_below path r.path && test r) 1 0) 0 = ap (λ (t : Bool). cond {A = ℕ} (t && test r) 1 0) h.0 in
    let more : count_below test path rows ≡ 0 = count_none test path rows h.1 in
    count_cons (λ s. is_below path s.path && test s) r rows ∙ omega (arith, here, more)

count_all : (test : Row → Bool) (path : List ℕ) (rows : List Row) → AllByRecursion (λ r. is_below path r.path ≡ true) rows → count_below test path rows ≡ count_by test rows
count_all test path [] h = refl
count_all test path (r ∷ rows) h =
    count_cons (λ s. is_below path s.path && test s) r rows
    ∙ ap (λ (t : Bool). cond (t && test r) 1 0 + count_below test path rows) h.0
    ∙ ap (λ (n : ℕ). cond (test r) 1 0 + n) (count_all test path rows h.1)
    ∙ sym (count_cons test r rows)

-- two tests of rows that agree
all_same : (f g : Row → Bool) (rows : List Row) → AllByRecursion (λ r. f r ≡ g r) rows → list_all f rows ≡ list_all g rows
all_same f g [] h = refl
all_same f g (r ∷ rows) h = ap (λ (t : Bool). t && list_all f rows) h.0 ∙ ap (λ (t : Bool). g r && t) (all_same f g rows h.1)

each_both : (P Q : Row → Type 0) (rows : List Row) → AllByRecursion P rows → AllByRecursion Q rows → AllByRecursion (λ r. P r × Q r) rows
each_both P Q [] p q = tt
each_both P Q (r ∷ rows) p q = ((p.0, q.0), each_both P Q rows p.1 q.1)

-- what holds of each pair, seen from the other side
each_flip : (R : Row → Row → Type 0) (rows others : List Row) → AllByRecursion (λ r. AllByRecursion (λ o. R r o) others) rows → AllByRecursion (λ o. AllByRecursion (λ r. R r o) rows) others
each_flip R [] others h = none others
  where
    none : (os : List Row) → AllByRecursion (λ o. AllByRecursion (λ r. R r o) []) os
    none [] = tt
    none (o ∷ os) = (tt, none os)
each_flip R (r ∷ rows) others h =
    each_then (λ o. R r o × AllByRecursion (λ s. R s o) rows) (λ o. AllByRecursion (λ s. R s o) (r ∷ rows)) (λ o both. (both.0, both.1)) others
    (each_both (λ o. R r o) (λ o. AllByRecursion (λ s. R s o) rows) others h.0 (each_flip R rows others h.1))

-- what a node has to record
abbrev pub agrees : Row → ℕ → ℕ → Bool
agrees row entries tracked = eqb row.rec.entries_below entries && eqb row.rec.tracked_below tracked

module _ (head : Row) (under rest : List Row) (parts : AreParted head.path under rest) where
  three : (test : Row → Bool) (path : List ℕ) → is_below path head.path ≡ false → count_below test path (head ∷ (under ++ rest)) ≡ count_below test path under + count_below test path rest
  three test path h =
      let here : ◌≡◌ {A = ℕ} (cond {A = ℕ} (is_below path head.path && test head) 1 0) 0 = ap (λ (t : Bool). cond {A = ℕ} (t && test head) 1 0) h in
      count_cons (λ r. is_below path r.path && test r) head (under ++ rest)
      ∙ omega (arith, here, count_append (λ r. is_below path r.path && test r) under rest)

  at_head : (test : Row → Bool) → count_below test head.path (head ∷ (under ++ rest)) ≡ count_by test under
  at_head test =
      let nothing : count_below test head.path rest ≡ 0 =
      count_none test head.path rest (each_then (λ r. AreApart head.path r.path) (λ r. is_below head.path r.path ≡ false) (λ r h. h.0) rest parts.apart) in
      three test head.path (below_itself head.path) ∙ omega (arith, nothing, count_all test head.path under parts.below)

  at_under : (test : Row → Bool) (row : Row) → is_below head.path row.path ≡ true → AllByRecursion (λ other. AreApart row.path other.path) rest
      → count_below test row.path (head ∷ (under ++ rest)) ≡ count_below test row.path under
  at_under test row below apart =
      let nothing : count_below test row.path rest ≡ 0 =
      count_none test row.path rest (each_then (λ r. AreApart row.path r.path) (λ r. is_below row.path r.path ≡ false) (λ r h. h.0) rest apart) in
      three test row.path (below_not_back head.path row.path below) ∙ omega (arith, nothing)

  at_rest : (test : Row → Bool) (row : Row) → AreApart head.path row.path → AllByRecursion (λ other. AreApart other.path row.path) under
      → count_below test row.path (head ∷ (under ++ rest)) ≡ count_below test row.path rest
  at_rest test row here apart =
      let nothing : count_below test row.path under ≡ 0 =
      count_none test row.path under (each_then (λ r. AreApart r.path row.path) (λ r. is_below row.path r.path ≡ false) (λ r h. h.1) under apart) in
      three test row.path here.1 ∙ omega (arith, nothing)

  -- each part is counted by itself
  pub counted_parts : are_counted (head ∷ (under ++ rest)) ≡ (agrees head (count_by is_entry under) (count_by is_tracked under) && (are_counted under && are_counted rest))
  counted_parts =
      let whole = head ∷ (under ++ rest) in
      let first : is_row_counted whole head ≡ agrees head (count_by is_entry under) (count_by is_tracked under) =
      ap (λ (n : ℕ). agrees head n (count_below is_tracked head.path whole)) (at_head is_entry) ∙ ap (λ (n : ℕ). agrees head (count_by is_entry under) n) (at_head is_tracked) in
      let second : list_all (is_row_counted whole) under ≡ are_counted under =
      all_same (is_row_counted whole) (is_row_counted under) under
      (each_then (λ r. (is_below head.path r.path ≡ true) × AllByRecursion (λ o. AreApart r.path o.path) rest) (λ r. is_row_counted whole r ≡ is_row_counted under r)
      (λ r h. ap (λ (n : ℕ). agrees r n (count_below is_tracked r.path whole)) (at_under is_entry r h.0 h.1) ∙ ap (λ (n : ℕ). agrees r (count_below is_entry r.path under) n) (at_under is_tracked r h.0 h.1))
      under (each_both (λ r. is_below head.path r.path ≡ true) (λ r. AllByRecursion (λ o. AreApart r.path o.path) rest) under parts.below parts.crossed)) in
      let third : list_all (is_row_counted whole) rest ≡ are_counted rest =
      all_same (is_row_counted whole) (is_row_counted rest) rest
      (each_then (λ r. AreApart head.path r.path × AllByRecursion (λ o. AreApart o.path r.path) under) (λ r. is_row_counted whole r ≡ is_row_counted rest r)
      (λ r h. ap (λ (n : ℕ). agrees r n (count_below is_tracked r.path whole)) (at_rest is_entry r h.0 h.1) ∙ ap (λ (n : ℕ). agrees r (count_below is_entry r.path rest) n) (at_rest is_tracked r h.0 h.1))
      rest (each_both (λ r. AreApart head.path r.path) (λ r. AllByRecursion (λ o. AreApart o.path r.path) under) rest parts.apart
      (each_flip (λ r o. AreApart r.path o.path) under rest parts.crossed))) in
      ap (λ (t : Bool). t && list_all (is_row_counted whole) (under ++ rest)) first
      ∙ ap (λ (t : Bool). agrees head (count_by is_entry under) (count_by is_tracked under) && t)
      (list_all-append (is_row_counted whole) under rest ∙ ap (λ (t : Bool). t && list_all (is_row_counted whole) rest) second ∙ ap (λ (t : Bool). are_counted under && t) third)
