-- Rows of which no two are of one path: each is found at its own path, in whatever order they stand.
use Rattle.std.proofs.Common.{ℕ, zero, suc, is_some, ◌≡◌, ◌<◌, Bool, true, false, cond, List, [], ◌∷◌, map, length, get_or, Option, Some, None, option_map, Ok, Err, refl, sym, ap, ◌∙◌, subst, inl, inr, ◌⊎◌, arith}
use Rattle.std.specs.List.{Contains, IsDistinct}
use Rattle.std.specs.List.Sorted.{IsBinarySearchResult, IsPermutation}
use Rattle.std.specs.Cmp.{tied_itself}
use Rattle.std.specs.Cmp.Lexicographic.{nat_list_cmp_total, nat_list_eq_equiv, slice_cmp}
use Rattle.std.specs.Ordering.{nat_cmp}
use Rattle.std.specs.declared.cmp.Ordering.TheVariants.{Equal}
use Rattle.std.specs.Set.{is_member}
use Rattle.std.specs.Str.{bytes_eq}
use Rattle.std.proofs.lemmas.Bool.{cases_lt}
use Rattle.std.proofs.lemmas.List.Elements.{Contains-append_cases, Contains-append_left, Contains-append_right, Contains-push_cases, Contains-push}
use Rattle.std.proofs.lemmas.List.Sorted.{Contains-permutation, IsPermutation-map, IsPermutation-sym, length_permutation, searchable_from_sorted}
use Rattle.std.proofs.lemmas.Map.Lookups.{exact_bytes}
use Rattle.std.proofs.lemmas.Map.Made.{IsDistinct-from_count, is_member-Decides, length-from_keys}
use Rattle.std.proofs.lemmas.Slice.Eq.{bytes_eq-Decides}
use Rattle.hg_flat.specs.Kept.{AreAscending, AreNamed, HaveOwnPaths, row_at}
use Rattle.hg_flat.specs.declared.kept.FlatRow.{FlatRow}
use Rattle.hg_flat.proofs.Fullness.{Holds, each_of}

-- ---- what is found at a path

has_step : (row : FlatRow) (rows : List FlatRow) (path : List ℕ) (r : FlatRow) (b : Bool) → bytes_eq row.path path ≡ b → (row_at rows path ≡ Some r → Contains rows r × (r.path ≡ path))
    → cond b (Some row) (row_at rows path) ≡ Some r → Contains (row ∷ rows) r × (r.path ≡ path)
has_step row rows path r true at later is =
    let same : row ≡ r = cc (is) in
    subst (λ (q : FlatRow). Contains (row ∷ rows) q × (q.path ≡ path)) same
    (Contains-append_left (row ∷ []) rows row (Contains-push [] row), (bytes_eq-Decides row.path path).0 at)
has_step row rows path r false at later is = let l = later is in (Contains-append_right (row ∷ []) rows r l.0, l.1)

-- it is one of the rows, and of that path
pub found_has : (rows : List FlatRow) (path : List ℕ) (r : FlatRow) → row_at rows path ≡ Some r → Contains rows r × (r.path ≡ path)
found_has [] path r is = absurd (cc (is))
found_has (row ∷ rows) path r is = has_step row rows path r (bytes_eq row.path path) refl (found_has rows path r) is

either : (row : FlatRow) (rows : List FlatRow) (r : FlatRow) → Contains (row ∷ rows) r → (row ≡ r) ⊎ Contains rows r
either row rows r has =
    elim (Contains-append_cases (row ∷ []) rows r has) [
      | inl first ↦ elim (Contains-push_cases [] row r first) [ inl (k, below, is) ↦ absurd (omega (arith, below)) | inr same ↦ inl same ]
      | inr later ↦ inr later
    ]

-- a row is found at its path
pub found_at : (rows : List FlatRow) → HaveOwnPaths rows → (r : FlatRow) → Contains rows r → row_at rows r.path ≡ Some r
unfolding IsDistinct
found_at [] own r (k, below, is) = absurd (omega (arith, below))
found_at (row ∷ rows) own r has =
    elim (either row rows r has) [
      | inl same ↦
          ap (λ (b : Bool). cond b (Some row) (row_at rows r.path)) ((bytes_eq-Decides row.path r.path).1 (ap (λ (q : FlatRow). q.path) same))
          ∙ ap Some same
      | inr later ↦
          ap (λ (b : Bool). cond b (Some row) (row_at rows r.path)) (each_of (λ path. bytes_eq row.path path ≡ false) rows own.0 r later)
          ∙ found_at rows own.1 r later
    ]

named_by : (path : List ℕ) (o : Option FlatRow) → ((r : FlatRow) → o ≡ Some r → r.path ≡ path) → option_map (λ r. r.path) o ≡ option_map (λ r. path) o
named_by path None at = refl
named_by path (Some r) at = ap Some (at r refl)

pub named : (rows : List FlatRow) → AreNamed (row_at rows)
named rows path = named_by path (row_at rows path) (λ r is. (found_has rows path r is).1)

pub holds_rows : (rows : List FlatRow) → HaveOwnPaths rows → Holds (row_at rows) rows
holds_rows rows own = record { found = found_at rows own; all = λ path row is. (found_has rows path row is).0 }

-- ---- in another order

same_bool : (a b : Bool) → (a ≡ true → b ≡ true) → (b ≡ true → a ≡ true) → a ≡ b
same_bool true b there back = sym (there refl)
same_bool false true there back = back refl
same_bool false false there back = refl

-- no two rows are of one path there either
pub own_moved : (xs ys : List FlatRow) → IsPermutation xs ys → HaveOwnPaths xs → HaveOwnPaths ys
own_moved xs ys moved own =
    let before : List (List ℕ) = map (λ row. row.path) xs in
    let after : List (List ℕ) = map (λ row. row.path) ys in
    let paths : IsPermutation before after = IsPermutation-map (λ (row : FlatRow). row.path) xs ys moved in
    let members : (q : List ℕ) → is_member bytes_eq before q ≡ is_member bytes_eq after q =
    λ q.
    same_bool (is_member bytes_eq before q) (is_member bytes_eq after q)
    (λ is. (is_member-Decides bytes_eq-Decides after q).1 (Contains-permutation before after q paths ((is_member-Decides bytes_eq-Decides before q).0 is)))
    (λ is.
    (is_member-Decides bytes_eq-Decides before q).1 (Contains-permutation after before q (IsPermutation-sym before after paths) ((is_member-Decides bytes_eq-Decides after q).0 is)))
    in IsDistinct-from_count nat_list_eq_equiv after (sym (length-from_keys nat_list_eq_equiv before after own members) ∙ sym (length_permutation before after paths))

moved_by : (xs ys : List FlatRow) → IsPermutation xs ys → HaveOwnPaths xs → HaveOwnPaths ys → (path : List ℕ) (x y : Option FlatRow) → row_at xs path ≡ x → row_at ys path ≡ y → y ≡ x
moved_by xs ys moved own_x own_y path (Some r) y at_x at_y =
    let has = found_has xs path r at_x in
    let there : row_at ys r.path ≡ Some r = found_at ys own_y r (Contains-permutation xs ys r moved has.0) in
    sym at_y ∙ ap (row_at ys) (sym has.1) ∙ there
moved_by xs ys moved own_x own_y path None None at_x at_y = refl
moved_by xs ys moved own_x own_y path None (Some r) at_x at_y =
    let has = found_has ys path r at_y in
    let there : row_at xs r.path ≡ Some r = found_at xs own_x r (Contains-permutation ys xs r (IsPermutation-sym xs ys moved) has.0) in
    sym there ∙ ap (row_at xs) has.1 ∙ at_x

-- the same row is found
pub moved_same : (xs ys : List FlatRow) → IsPermutation xs ys → HaveOwnPaths xs → (path : List ℕ) → row_at ys path ≡ row_at xs path
moved_same xs ys moved own path = moved_by xs ys moved own (own_moved xs ys moved own) path (row_at xs path) (row_at ys path) refl refl

-- ---- by halving

absent_by : (rows : List FlatRow) (path : List ℕ) (at : ℕ) → IsBinarySearchResult (λ row. slice_cmp nat_cmp row.path path) rows (Err at) → AreAscending rows → (o : Option FlatRow) → row_at rows path ≡ o → o ≡ None
absent_by rows path at parted ascending None is = refl
absent_by rows path at parted ascending (Some r) is =
    let has = found_has rows path r is in
    let sides = parted (searchable_from_sorted nat_list_cmp_total (λ (row : FlatRow). row.path) rows path ascending) in
    let equal : slice_cmp nat_cmp r.path path ≡ Equal = ap (λ (p : List ℕ). slice_cmp nat_cmp p path) has.1 ∙ tied_itself nat_list_cmp_total path in
    elim (cases_lt has.0.0 at) [
      | inl before ↦
          let less = sides.0 has.0.0 r (omega arith) before in
          let same = ap (λ (q : FlatRow). slice_cmp nat_cmp q.path path) has.0.2 in absurd (cc (less, same, equal))
      | inr behind ↦
          let greater = sides.1 has.0.0 r behind has.0.1 in
          let same = ap (λ (q : FlatRow). slice_cmp nat_cmp q.path path) has.0.2 in absurd (cc (greater, same, equal))
    ]

-- what isn't found stands nowhere
pub searched_absent : (lent rows : List FlatRow) (path : List ℕ) (at : ℕ) → lent ≡ rows → AreAscending rows → IsBinarySearchResult (λ row. slice_cmp nat_cmp row.path path) lent (Err at) → None ≡ row_at rows path
searched_absent lent rows path at same ascending parted =
    sym
    (absent_by rows path at
    (subst (λ (l : List FlatRow). IsBinarySearchResult (λ row. slice_cmp nat_cmp row.path path) l (Err at)) same parted)
    ascending (row_at rows path) refl)

found_in : (rows : List FlatRow) (path : List ℕ) (at : ℕ) (r : FlatRow) → HaveOwnPaths rows → at < length rows → r ≡ get_or rows at r → IsBinarySearchResult (λ row. slice_cmp nat_cmp row.path path) rows (Ok at) → Some r ≡ row_at rows path
found_in rows path at r own below is equal =
    let there : row_at rows r.path ≡ Some r = found_at rows own r (at, below, sym is) in
    let same : r.path ≡ path = exact_bytes r.path path (ap (λ (q : FlatRow). slice_cmp nat_cmp q.path path) is ∙ equal r) in
    sym there ∙ ap (row_at rows) same

-- what is found stands there
pub searched_found : (lent rows : List FlatRow) (path : List ℕ) (at : ℕ) (r : FlatRow) → lent ≡ rows → HaveOwnPaths rows → at < length lent → r ≡ get_or rows at r
    → IsBinarySearchResult (λ row. slice_cmp nat_cmp row.path path) lent (Ok at) → Some r ≡ row_at rows path
searched_found lent rows path at r same own below is equal =
    found_in rows path at r own (subst (λ (l : List FlatRow). at < length l) same below) is
    (subst (λ (l : List FlatRow). IsBinarySearchResult (λ row. slice_cmp nat_cmp row.path path) l (Ok at)) same equal)

-- ---- a row that is known to be of a path

shown : (b : Bool) (row : FlatRow) (rest : Option FlatRow) → (b ≡ true) ⊎ (is_some rest ≡ true) → is_some (cond b (Some row) rest) ≡ true
shown true row rest either = refl
shown false row rest (inl never) = cc (never)
shown false row rest (inr later) = later

pub stands_at : (rows : List FlatRow) (path : List ℕ) (at : ℕ) (r : FlatRow) → at < length rows → r ≡ get_or rows at r → bytes_eq r.path path ≡ true → is_some (row_at rows path) ≡ true
stands_at [] path at r below is same = absurd (omega (arith, below))
stands_at (row ∷ rows) path zero r below is same =
    shown (bytes_eq row.path path) row (row_at rows path) (inl (ap (λ (q : FlatRow). bytes_eq q.path path) (sym is) ∙ same))
stands_at (row ∷ rows) path (suc at) r below is same =
    shown (bytes_eq row.path path) row (row_at rows path) (inr (stands_at rows path at r (omega (arith, below)) is same))
