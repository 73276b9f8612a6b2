-- What is lost of a list of the image, node by node.
use Rattle.std.proofs.Common.{◌≡◌, ℕ, ◌+◌, ◌<◌, ◌^◌, Bool, true, false, not, ◌&&◌, cond, List, [], ◌∷◌, ◌++◌, length, Option, Some, None, inl, inr, refl, sym, ap, subst, ◌∙◌, arith}
use Rattle.std.specs.Prelude.{count_by, is_some, option_map}
use Rattle.std.specs.List.{AllByRecursion, sum_by}
use Rattle.std.specs.Str.{bytes_eq}
use Rattle.std.proofs.lemmas.Bool.{cases_Bool, cond-false, cond-true}
use Rattle.std.proofs.lemmas.List.{take_all}
use Rattle.std.proofs.lemmas.List.Sums.{sum_by-append, sum_by-cons}
use Rattle.hg_base.specs.PathText.{is_below, is_path, parent_of}
use Rattle.hg_base.proofs.Children.{below_by_parent}
use Rattle.hg_base.proofs.Within.{above_none, equal_bytes}
use Rattle.hg_docket.specs.Docket.{Contents}
use Rattle.hg_docket.specs.Docket as docket
use Rattle.hg_image.specs.Counts.{is_copy}
use Rattle.hg_image.specs.Reading.{row_at}
use Rattle.hg_image.specs.Rows.{Row, list_rows, rows_of}
use Rattle.hg_image.specs.View.{rows, rows_in}
use Rattle.hg_image.specs.Walk.{levels, list_fault}
use Rattle.hg_image.specs.declared.opened.Image.{Image}
use Rattle.hg_image.specs.declared.opened.List.{List as NodeList}
use Rattle.hg_mixed.specs.Held.{Held, is_lent}
use Rattle.hg_mixed.specs.Shown.{AreLentWhole, IsLentWhole}
use Rattle.hg_mixed.proofs.Kept.{has_by}
use Rattle.hg_append.specs.Lost.{lost, lost_of}
use Rattle.hg_append.specs.Put.{kept}
use Rattle.hg_append.specs.Loss.{IsImageRow, IsOfImage, is_lost_copy, loss_of, plus}
use Rattle.hg_append.specs.declared.loss.Loss.{Loss}
use Rattle.hg_append.proofs.Under.{Under, row_under}

each_front : (P : Row → Type 0) (a b : List Row) → AllByRecursion P (a ++ b) → AllByRecursion P a
each_front P [] b h = tt
each_front P (r ∷ a) b h = (h.0, each_front P a b h.1)

each_back : (P : Row → Type 0) (a b : List Row) → AllByRecursion P (a ++ b) → AllByRecursion P b
each_back P [] b h = h
each_back P (r ∷ a) b h = each_back P a b h.1

-- ---- what was summed of some rows, where some are left

abbrev one : Bool → ℕ
one b = cond b 1 0

pub record Summed (held : Held) (dir : Option (List ℕ)) (whole rest : List Row) (sum : Loss) : Type 0 where
  pub bytes : kept (sum_by (lost_of held) whole) ≡ kept (sum.bytes + sum_by (lost_of held) rest)
  pub copies : kept (count_by (is_lost_copy held) whole) ≡ kept (sum.copies + count_by (is_lost_copy held) rest)
  pub small : sum.bytes < 2 ^ 64
  pub few : sum.copies < 2 ^ 64
  pub image : AllByRecursion (IsImageRow held dir) rest

module _ (held : Held) (dir : Option (List ℕ)) (whole : List Row) where
  pub summed_none : (sum : Loss) → sum.bytes ≡ 0 → sum.copies ≡ 0 → AllByRecursion (IsImageRow held dir) whole → Summed held dir whole whole sum
  summed_none sum bytes copies image = record {
    bytes = omega (arith, bytes);
    copies = omega (arith, copies);
    small = omega (arith, bytes);
    few = omega (arith, copies);
    image = image;
  }

  pub summed_more : (row : Row) (under rest : List Row) (sum here below now : Loss) → Summed held dir whole (row ∷ (under ++ rest)) sum
      → here ≡ loss_of held (row ∷ []) → below ≡ loss_of held under → now ≡ plus sum (plus here below) → Summed held dir whole rest now
  summed_more row under rest sum here below now far h b n =
      let f = lost_of held in
      let g : Row → ℕ = λ r. cond (is_lost_copy held r) 1 0 in
      let f1 : sum_by f (row ∷ (under ++ rest)) ≡ f row + sum_by f (under ++ rest) = sum_by-cons f row (under ++ rest) in
      let f2 : sum_by f (under ++ rest) ≡ sum_by f under + sum_by f rest = sum_by-append f under rest in
      let f3 : sum_by f (row ∷ []) ≡ f row + sum_by f [] = sum_by-cons f row [] in
      let f4 : sum_by f [] ≡ 0 = refl in
      let g1 : sum_by g (row ∷ (under ++ rest)) ≡ g row + sum_by g (under ++ rest) = sum_by-cons g row (under ++ rest) in
      let g2 : sum_by g (under ++ rest) ≡ sum_by g under + sum_by g rest = sum_by-append g under rest in
      let g3 : sum_by g (row ∷ []) ≡ g row + sum_by g [] = sum_by-cons g row [] in
      let g4 : sum_by g [] ≡ 0 = refl in
      let hb : here.bytes ≡ kept (sum_by f (row ∷ [])) = ap (λ (l : Loss). l.bytes) h in
      let bb : below.bytes ≡ kept (sum_by f under) = ap (λ (l : Loss). l.bytes) b in
      let nb : now.bytes ≡ kept (sum.bytes + kept (here.bytes + below.bytes)) = ap (λ (l : Loss). l.bytes) n in
      let hc : here.copies ≡ kept (sum_by g (row ∷ [])) = ap (λ (l : Loss). l.copies) h in
      let bc : below.copies ≡ kept (sum_by g under) = ap (λ (l : Loss). l.copies) b in
      let nc : now.copies ≡ kept (sum.copies + kept (here.copies + below.copies)) = ap (λ (l : Loss). l.copies) n in
      let fb : kept (sum_by f whole) ≡ kept (sum.bytes + sum_by f (row ∷ (under ++ rest))) = far.bytes in
      let fc : kept (sum_by g whole) ≡ kept (sum.copies + sum_by g (row ∷ (under ++ rest))) = far.copies in record {
        bytes = omega (arith, f1, f2, f3, f4, hb, bb, nb, fb);
        copies = omega (arith, g1, g2, g3, g4, hc, bc, nc, fc);
        small = omega (arith, nb);
        few = omega (arith, nc);
        image = each_back (IsImageRow held dir) under rest far.image.1;
      }

  pub summed_all : (rest : List Row) (sum : Loss) → Summed held dir whole rest sum → rest ≡ [] → sum ≡ loss_of held whole
  summed_all rest sum far none =
      let g : Row → ℕ = λ r. cond (is_lost_copy held r) 1 0 in
      let nothing : sum_by (lost_of held) rest ≡ 0 = ap (sum_by (lost_of held)) none in
      let no_copy : sum_by g rest ≡ 0 = ap (sum_by g) none in
      let fb : kept (sum_by (lost_of held) whole) ≡ kept (sum.bytes + sum_by (lost_of held) rest) = far.bytes in
      let fc : kept (sum_by g whole) ≡ kept (sum.copies + sum_by g rest) = far.copies in
      let bytes : sum.bytes ≡ kept (sum_by (lost_of held) whole) = omega (arith, fb, nothing, far.small) in
      let copies : sum.copies ≡ kept (sum_by g whole) = omega (arith, fc, no_copy, far.few) in
      λ i. record { bytes = bytes i; copies = copies i }

-- ---- a list that is lent loses nothing

row_lent : (held : Held) (dir : Option (List ℕ)) → is_lent held dir ≡ true → IsLentWhole held dir → (row : Row) → IsImageRow held dir row → is_lent held (parent_of row.path) ≡ true
row_lent held dir lent whole row is = by_parent dir lent whole is (parent_of row.path) refl
  where
    by_parent : (dir : Option (List ℕ)) → is_lent held dir ≡ true → IsLentWhole held dir → IsImageRow held dir row → (o : Option (List ℕ)) → parent_of row.path ≡ o → is_lent held o ≡ true
    by_parent None lent whole is None e = lent
    by_parent None lent whole is (Some sub) e = whole.lists sub refl (has_by (rows_of held.docket held.bytes) (Some sub) row.path is.there e)
    by_parent (Some d) lent whole is None e = absurd (both d is)
      where
        both : (d : List ℕ) → IsImageRow held (Some d) row → ⊥
        both d is = let above : is_below d row.path ≡ true = is.above in let none : is_below d row.path ≡ false = above_none row.path is.path e d in absurd (cc (above, none))
    by_parent (Some d) lent whole is (Some sub) e =
        elim (below_by_parent d sub row.path is.path e is.above) [
          | inl same ↦ ap (λ (s : List ℕ). is_lent held (Some s)) (sym same) ∙ lent
          | inr above ↦ whole.lists sub above (has_by (rows_of held.docket held.bytes) (Some sub) row.path is.there e)
        ]

lent_bytes : (held : Held) (row : Row) → is_lent held (parent_of row.path) ≡ true → lost_of held row ≡ 0
lent_bytes held row h = cond-true (is_lent held (parent_of row.path)) 0 _ h

lent_copy : (held : Held) (row : Row) → is_lent held (parent_of row.path) ≡ true → cond {A = ℕ} (is_lost_copy held row) 1 0 ≡ 0
lent_copy held row h = ap (λ (t : Bool). cond {A = ℕ} (not t && is_copy row) 1 0) h

nothing_in : (f : Row → ℕ) (rows : List Row) → AllByRecursion (λ r. f r ≡ 0) rows → sum_by f rows ≡ 0
nothing_in f [] h = refl
nothing_in f (r ∷ rows) h =
    let here : f r ≡ 0 = h.0 in
    let rest : sum_by f rows ≡ 0 = nothing_in f rows h.1 in
    let both : sum_by f (r ∷ rows) ≡ f r + sum_by f rows = sum_by-cons f r rows in
    omega (arith, here, rest, both)

each_then : (P Q : Row → Type 0) → ((r : Row) → P r → Q r) → (rows : List Row) → AllByRecursion P rows → AllByRecursion Q rows
each_then P Q f [] h = tt
each_then P Q f (r ∷ rows) h = (f r h.0, each_then P Q f rows h.1)

pub lent_lost : (held : Held) (dir : Option (List ℕ)) (rows : List Row) (sum : Loss) → sum.bytes ≡ 0 → sum.copies ≡ 0 → is_lent held dir ≡ true → AreLentWhole held → AllByRecursion (IsImageRow held dir) rows → sum ≡ loss_of held rows
lent_lost held dir rows sum zero_bytes none lent whole image =
    let g : Row → ℕ = λ r. cond (is_lost_copy held r) 1 0 in
    let f0 : sum_by (lost_of held) rows ≡ 0 =
    nothing_in (lost_of held) rows (each_then (IsImageRow held dir) (λ r. lost_of held r ≡ 0) (λ r is. lent_bytes held r (row_lent held dir lent (whole dir lent) r is)) rows image) in
    let g0 : sum_by g rows ≡ 0 =
    nothing_in g rows (each_then (IsImageRow held dir) (λ r. g r ≡ 0) (λ r is. lent_copy held r (row_lent held dir lent (whole dir lent) r is)) rows image) in
    let bytes : sum.bytes ≡ kept (sum_by (lost_of held) rows) = omega (arith, zero_bytes, f0) in
    let copies : sum.copies ≡ kept (sum_by g rows) = omega (arith, none, g0) in
    λ i. record { bytes = bytes i; copies = copies i }

pub empty_lost : (held : Held) (rows : List Row) (sum : Loss) → sum.bytes ≡ 0 → sum.copies ≡ 0 → rows ≡ [] → sum ≡ loss_of held rows
empty_lost held rows sum zero_bytes none empty =
    let g : Row → ℕ = λ r. cond (is_lost_copy held r) 1 0 in
    let f0 : sum_by (lost_of held) rows ≡ 0 = ap (sum_by (lost_of held)) empty in
    let g0 : sum_by g rows ≡ 0 = ap (sum_by g) empty in
    let bytes : sum.bytes ≡ kept (sum_by (lost_of held) rows) = omega (arith, zero_bytes, f0) in
    let copies : sum.copies ≡ kept (sum_by g rows) = omega (arith, none, g0) in
    λ i. record { bytes = bytes i; copies = copies i }

-- ---- the rows of an image and of what is below its nodes

-- what is below a node, of a list whose rows are the image's
pub below_image : (held : Held) (dir : Option (List ℕ)) (row : Row) (under rest : List Row) → AllByRecursion (IsImageRow held dir) (row ∷ (under ++ rest)) → AllByRecursion (λ r. is_below row.path r.path ≡ true) under
    → AllByRecursion (IsImageRow held (Some row.path)) under
below_image held dir row under rest image below = go under (each_front (IsImageRow held dir) under rest image.1) below
  where
    go : (rows : List Row) → AllByRecursion (IsImageRow held dir) rows → AllByRecursion (λ r. is_below row.path r.path ≡ true) rows → AllByRecursion (IsImageRow held (Some row.path)) rows
    go [] a b = tt
    go (r ∷ rows) a b = (record { above = b.0; path = a.0.path; there = a.0.there }, go rows a.1 b.1)

found_each : (rows all : List Row) → ((at : List ℕ) → is_some (row_at rows at) ≡ true → is_some (row_at all at) ≡ true) → AllByRecursion (λ r. is_some (row_at all r.path) ≡ true) rows
found_each [] all more = tt
found_each (r ∷ rows) all more =
    (more r.path (ap is_some (cond-true (bytes_eq r.path r.path) (Some r) (row_at rows r.path) (equal_bytes r.path))), found_each rows all (λ at some. more at (either at some)))
  where
    either : (at : List ℕ) → is_some (row_at rows at) ≡ true → is_some (row_at (r ∷ rows) at) ≡ true
    either at some = elim (cases_Bool (bytes_eq r.path at)) [
      | inl same ↦ ap is_some (cond-true (bytes_eq r.path at) (Some r) (row_at rows at) same)
      | inr other ↦ ap is_some (cond-false (bytes_eq r.path at) (Some r) (row_at rows at) other) ∙ some
    ]

image_used : (held : Held) (image : Image) → docket.view image.docket ≡ held.docket → image.bytes.now ≡ held.bytes → length held.bytes ≡ held.docket.used
image_used held image said bytes = ap length (sym bytes) ∙ image.is_used ∙ ap (λ (d : Contents). d.used) said

image_sound : (held : Held) (image : Image) → docket.view image.docket ≡ held.docket → image.bytes.now ≡ held.bytes → list_fault levels held.bytes None held.docket.root_start held.docket.root_count ≡ None
image_sound held image said bytes = (λ k. list_fault levels (sym bytes k) None (sym said k).root_start (sym said k).root_count) ∙ image.is_sound

module _ (held : Held) (used : length held.bytes ≡ held.docket.used) (sound : list_fault levels held.bytes None held.docket.root_start held.docket.root_count ≡ None) where
  pub rows_are : rows_of held.docket held.bytes ≡ list_rows levels held.bytes held.docket.root_start held.docket.root_count
  rows_are = ap (λ (bytes : List ℕ). list_rows levels bytes held.docket.root_start held.docket.root_count) (take_all held.docket.used held.bytes (omega (arith, used)))

  path_at : (at : List ℕ) → is_some (row_at (rows_of held.docket held.bytes) at) ≡ true → is_path at ≡ true
  path_at at some = by_row (row_at (rows_of held.docket held.bytes) at) refl some
    where
      under : (path : List ℕ) (row : Row) → row_at (rows_of held.docket held.bytes) path ≡ Some row → Under held.bytes 2049 (rows_of held.docket held.bytes) row × (row.path ≡ path)
      under =
          subst (λ (all : List Row). (path : List ℕ) (row : Row) → row_at all path ≡ Some row → Under held.bytes 2049 all row × (row.path ≡ path)) (sym rows_are)
          (row_under held.bytes held.docket.root_start held.docket.root_count sound)

      by_row : (o : Option Row) → row_at (rows_of held.docket held.bytes) at ≡ o → is_some o ≡ true → is_path at ≡ true
      by_row None found some = absurd (cc)
      by_row (Some row) found some = let u = under at row found in sym (ap is_path u.1) ∙ u.0.path

  pub root_image : AllByRecursion (IsImageRow held None) (rows_of held.docket held.bytes)
  root_image =
      each_then (λ r. is_some (row_at (rows_of held.docket held.bytes) r.path) ≡ true) (IsImageRow held None)
      (λ r some. record { above = refl; path = path_at r.path some; there = some }) (rows_of held.docket held.bytes)
      (found_each (rows_of held.docket held.bytes) (rows_of held.docket held.bytes) (λ at some. some))

-- the list of the root
pub root_rows : (held : Held) (image : Image) → docket.view image.docket ≡ held.docket → image.bytes.now ≡ held.bytes → rows image ≡ rows_of held.docket held.bytes
root_rows held image said bytes =
    (λ k. list_rows levels (bytes k) (said k).root_start (said k).root_count) ∙ sym (rows_are held (image_used held image said bytes) (image_sound held image said bytes))

pub root_of_image : (held : Held) (image : Image) (list : NodeList) → docket.view image.docket ≡ held.docket → image.bytes.now ≡ held.bytes → rows_in list ≡ rows image → list.dir ≡ None → IsOfImage held list
root_of_image held image list said bytes is dir =
    let all : AllByRecursion (IsImageRow held None) (rows_of held.docket held.bytes) = root_image held (image_used held image said bytes) (image_sound held image said bytes) in
    let here : AllByRecursion (IsImageRow held None) (rows_in list) = subst (AllByRecursion (IsImageRow held None)) (sym (is ∙ root_rows held image said bytes)) all in
    subst (λ (d : Option (List ℕ)). AllByRecursion (IsImageRow held d) (rows_in list)) (sym (ap (option_map (λ d. d.text.now)) dir)) here

-- ---- what is lost of all

pub lost_all : (held : Held) (now : Loss) → now ≡ loss_of held (rows_of held.docket held.bytes) → (n : ℕ) → n ≡ kept (now.bytes + held.docket.unreachable) → n ≡ kept (lost held)
lost_all held now is n e =
    let bytes : now.bytes ≡ kept (sum_by (lost_of held) (rows_of held.docket held.bytes)) = ap (λ (l : Loss). l.bytes) is in
    omega (arith, bytes, e)
