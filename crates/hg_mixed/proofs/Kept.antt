-- Which lists are lent: those that are left in the image, and those in memory that are unchanged.
use Rattle.std.proofs.Common.{ℕ, ◌≡◌, Bool, true, false, cond, not, ◌&&◌, ◌||◌, ◌⊎◌, inl, inr, List, [], ◌∷◌, Option, Some, None, refl, sym, ap, ◌∙◌, true≢false}
use Rattle.std.specs.Prelude.{is_some}
use Rattle.std.specs.Str.{bytes_eq}
use Rattle.std.proofs.lemmas.Bool.{cases_Bool, cond-false, cond-true, or_left, or_right, both_ways, false_from_ne_true}
use Rattle.hg_base.specs.PathText.{is_below, is_path, is_same_dir, parent_of}
use Rattle.hg_base.specs.Within.{is_above}
use Rattle.hg_base.proofs.Children.{below_parent, same_dir, same_dir_itself}
use Rattle.hg_base.proofs.Within.{above_none, equal_bytes, same_bytes, within_below, within_path}
use Rattle.hg_image.specs.Reading.{row_at}
use Rattle.hg_image.specs.Rows.{Row}
use Rattle.hg_mixed.specs.Held.{has_list, is_left_in, is_lent_in}
use Rattle.hg_mixed.specs.Lent.{AreEnded, as_dir, covers, lent_at}
use Rattle.hg_nodes.specs.Lists.{dir_text, or_root}
use Rattle.hg_mixed.proofs.Covered.{covers_below, covers_listed, kid_covered}
use Rattle.hg_mixed.proofs.Lents.{covered_by, covers_some, same_bools}

-- ---- a directory has a list where a row stands right in it

-- something stands right in a directory
pub record IsListed (rows : List Row) (dir : Option (List ℕ)) : Type 0 where
  pub at : List ℕ
  pub some : is_some (row_at rows at) ≡ true
  pub parent : parent_of at ≡ dir

pub some_more : {X : Type 0} (b : Bool) (x : X) (o : Option X) → is_some o ≡ true → is_some (cond b (Some x) o) ≡ true
some_more true x o h = refl
some_more false x o h = h

pub listed_by : (rows : List Row) (dir : Option (List ℕ)) → has_list rows dir ≡ true → IsListed rows dir
listed_by [] dir h = absurd (true≢false (sym h))
listed_by (row ∷ rows) dir h = elim (cases_Bool (is_same_dir dir (parent_of row.path))) [
  | inl here ↦ record {
    at = row.path;
    some = ap is_some (cond-true (bytes_eq row.path row.path) (Some row) (row_at rows row.path) (equal_bytes row.path));
    parent = sym (same_dir dir (parent_of row.path) here);
  }
  | inr other ↦
      let more = listed_by rows dir (sym (ap (λ (b : Bool). b || has_list rows dir) other) ∙ h) in
      record { at = more.at; some = some_more (bytes_eq row.path more.at) row (row_at rows more.at) more.some; parent = more.parent }
]

pub has_by : (rows : List Row) (dir : Option (List ℕ)) (at : List ℕ) → is_some (row_at rows at) ≡ true → parent_of at ≡ dir → has_list rows dir ≡ true
has_by [] dir at some is = absurd (true≢false (sym some))
has_by (row ∷ rows) dir at some is = elim (cases_Bool (bytes_eq row.path at)) [
  | inl here ↦
      or_left (is_same_dir dir (parent_of row.path)) (has_list rows dir)
      (ap (is_same_dir dir) (ap parent_of (same_bytes row.path at here) ∙ is) ∙ same_dir_itself dir)
  | inr other ↦
      or_right (is_same_dir dir (parent_of row.path)) (has_list rows dir)
      (has_by rows dir at (sym (ap is_some (cond-false (bytes_eq row.path at) (Some row) (row_at rows at) other)) ∙ some) is)
]

-- ---- a list is left where what stands right in its directory is covered

left_root : (left : List (List ℕ × List Row)) (at : List ℕ) → is_path at ≡ true → parent_of at ≡ None → covers left at ≡ true → is_some (lent_at left []) ≡ true
left_root left at good is h = let found = covers_some left at h in of_root found.0 found.1.0 found.1.1
  where
    of_root : (d : List ℕ) → is_some (lent_at left d) ≡ true → is_above (as_dir d) at ≡ true → is_some (lent_at left []) ≡ true
    of_root [] some above = some
    of_root (b ∷ d) some above = absurd (both_ways (is_below (b ∷ d) at) (above_none at good is (b ∷ d)) above)

left_split : (a b : Bool) → (a || b) ≡ true → (a ≡ true) ⊎ (b ≡ true)
left_split true b h = inl refl
left_split false b h = inr h

-- the text of the root stands below the root alone
pub root_covered : (left : List (List ℕ × List Row)) → covers left [] ≡ true → is_some (lent_at left []) ≡ true
root_covered left h = let found = covers_some left [] h in of_root found.0 found.1.0 found.1.1
  where
    of_root : (d : List ℕ) → is_some (lent_at left d) ≡ true → is_above (as_dir d) [] ≡ true → is_some (lent_at left []) ≡ true
    of_root [] some above = some
    of_root (b ∷ d) some above = absurd (true≢false (sym above))

pub left_is : (left : List (List ℕ × List Row)) (dir : Option (List ℕ)) (at : List ℕ) → is_path at ≡ true → parent_of at ≡ dir → is_left_in left (or_root dir) ≡ covers left at
left_is left None at good is = same_bools (is_left_in left []) (covers left at) there (λ h. or_left (is_some (lent_at left [])) (covers left []) (left_root left at good is h))
  where
    there : is_left_in left [] ≡ true → covers left at ≡ true
    there h = elim (left_split (is_some (lent_at left [])) (covers left []) h) [
      | inl own ↦ covered_by left [] at own refl
      | inr over ↦ covered_by left [] at (root_covered left over) refl
    ]
left_is left (Some d) at good is = same_bools (is_left_in left d) (covers left at) there back
  where
    below : is_below d at ≡ true
    below = below_parent d at is

    there : is_left_in left d ≡ true → covers left at ≡ true
    there h = elim (left_split (is_some (lent_at left d)) (covers left d) h) [
      | inl own ↦ covers_listed left d at own below
      | inr over ↦ covers_below left d at below over
    ]

    back : covers left at ≡ true → is_left_in left d ≡ true
    back h = elim (kid_covered left d at good is h) [
      | inl over ↦ or_right (is_some (lent_at left d)) (covers left d) over
      | inr own ↦ or_left (is_some (lent_at left d)) (covers left d) own
    ]

-- ---- the same lists are lent

module _ (rows : List Row) (paths : (at : List ℕ) → is_some (row_at rows at) ≡ true → is_path at ≡ true) where
  -- where each row is covered, or its directory's list kept, as before
  pub lent_same : (left now kept kept_now : List (List ℕ × List Row))
      → ((at : List ℕ) → is_some (row_at rows at) ≡ true → (covers now at || is_some (lent_at kept_now (dir_text at))) ≡ (covers left at || is_some (lent_at kept (dir_text at))))
      → (dir : Option (List ℕ)) → is_lent_in rows now kept_now dir ≡ is_lent_in rows left kept dir
  lent_same left now kept kept_now both dir = by_list (has_list rows dir) refl
    where
      of_row : IsListed rows dir → (is_left_in now (or_root dir) || is_some (lent_at kept_now (or_root dir))) ≡ (is_left_in left (or_root dir) || is_some (lent_at kept (or_root dir)))
      of_row row =
          let good = paths row.at row.some in
          let text : dir_text row.at ≡ or_root dir = ap or_root row.parent in
          ap (λ (b : Bool). b || is_some (lent_at kept_now (or_root dir))) (left_is now dir row.at good row.parent)
          ∙ ap (λ (t : List ℕ). covers now row.at || is_some (lent_at kept_now t)) (sym text)
          ∙ both row.at row.some
          ∙ ap (λ (t : List ℕ). covers left row.at || is_some (lent_at kept t)) text
          ∙ ap (λ (b : Bool). b || is_some (lent_at kept (or_root dir))) (sym (left_is left dir row.at good row.parent))

      by_list : (b : Bool) → has_list rows dir ≡ b
          → (has_list rows dir && (is_left_in now (or_root dir) || is_some (lent_at kept_now (or_root dir)))) ≡ (has_list rows dir && (is_left_in left (or_root dir) || is_some (lent_at kept (or_root dir))))
      by_list false none =
          ap (λ (b : Bool). b && (is_left_in now (or_root dir) || is_some (lent_at kept_now (or_root dir)))) none
          ∙ sym (ap (λ (b : Bool). b && (is_left_in left (or_root dir) || is_some (lent_at kept (or_root dir)))) none)
      by_list true has = ap (λ (b : Bool). has_list rows dir && b) (of_row (listed_by rows dir has))

  -- ---- an edit ends the lending above its path

  pub no_root : has_list rows (Some []) ≡ false
  no_root = false_from_ne_true (has_list rows (Some [])) (λ h.
      let row = listed_by rows (Some []) h in
      true≢false (sym (within_path [] row.at (within_below [] row.at (below_parent [] row.at row.parent)) (paths row.at row.some))))

  and_true : (b : Bool) → (b && true) ≡ b
  and_true true = refl
  and_true false = refl

  and_false : (b : Bool) → (b && false) ≡ false
  and_false true = refl
  and_false false = refl

  module _ (left kept kept_now : List (List ℕ × List Row)) (path : List ℕ) (good : is_path path ≡ true) (free : covers left path ≡ false) (ended : AreEnded path kept kept_now) where
    -- nothing above the path is left
    not_left : (dir : List ℕ) → is_above (as_dir dir) path ≡ true → is_left_in left dir ≡ false
    not_left dir above = false_from_ne_true (is_left_in left dir) (λ h. elim (left_split (is_some (lent_at left dir)) (covers left dir) h) [
      | inl own ↦ both_ways (covers left path) free (covered_by left dir path own above)
      | inr over ↦ both_ways (covers left path) free (by_dir dir above over)
    ])
      where
        by_dir : (d : List ℕ) → is_above (as_dir d) path ≡ true → covers left d ≡ true → covers left path ≡ true
        by_dir [] up over = covered_by left [] path (root_covered left over) refl
        by_dir (b ∷ d) up over = covers_below left (b ∷ d) path up over

    off : (dir : List ℕ) → is_above (as_dir dir) path ≡ true → (is_left_in left dir || is_some (lent_at kept_now dir)) ≡ false
    off dir above =
        ap (λ (b : Bool). b || is_some (lent_at kept_now dir)) (not_left dir above)
        ∙ ap is_some (ended dir ∙ cond-true (is_above (as_dir dir) path) None (lent_at kept dir) above)

    ended_above : (dir : Option (List ℕ)) → is_above (as_dir (or_root dir)) path ≡ true → is_above dir path ≡ true → is_lent_in rows left kept_now dir ≡ (is_lent_in rows left kept dir && not (is_above dir path))
    ended_above dir text above =
        ap (λ (b : Bool). has_list rows dir && b) (off (or_root dir) text)
        ∙ and_false (has_list rows dir)
        ∙ sym (ap (λ (b : Bool). is_lent_in rows left kept dir && not b) above ∙ and_false (is_lent_in rows left kept dir))

    ended_beside : (dir : List ℕ) → is_above (as_dir dir) path ≡ false → is_above (Some dir) path ≡ false → is_lent_in rows left kept_now (Some dir) ≡ (is_lent_in rows left kept (Some dir) && not (is_above (Some dir) path))
    ended_beside dir text beside =
        ap (λ (o : Option (List Row)). has_list rows (Some dir) && (is_left_in left dir || is_some o)) (ended dir ∙ cond-false (is_above (as_dir dir) path) None (lent_at kept dir) text)
        ∙ sym (ap (λ (b : Bool). is_lent_in rows left kept (Some dir) && not b) beside ∙ and_true (is_lent_in rows left kept (Some dir)))

    pub lent_ended : (dir : Option (List ℕ)) → is_lent_in rows left kept_now dir ≡ (is_lent_in rows left kept dir && not (is_above dir path))
    lent_ended None = ended_above None refl refl
    lent_ended (Some []) =
        ap (λ (b : Bool). b && (is_left_in left [] || is_some (lent_at kept_now []))) no_root
        ∙ sym (ap (λ (b : Bool). (b && (is_left_in left [] || is_some (lent_at kept []))) && not (is_above (Some []) path)) no_root)
    lent_ended (Some (b ∷ dir)) = elim (cases_Bool (is_below (b ∷ dir) path)) [
      | inl above ↦ ended_above (Some (b ∷ dir)) above above
      | inr beside ↦ ended_beside (b ∷ dir) beside beside
    ]
