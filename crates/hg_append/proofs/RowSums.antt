-- Sums over rows of which no two are of one path: they go by what is found at each path.
use Rattle.std.proofs.Common.{◌≡◌, ℕ, ◌+◌, Bool, true, false, cond, List, [], ◌∷◌, map, Option, Some, None, inl, inr, refl, sym, ap, ◌∙◌, arith}
use Rattle.std.specs.List.{AllByRecursion, sum_by}
use Rattle.std.specs.Str.{bytes_eq}
use Rattle.std.proofs.lemmas.Bool.{both_ways, cases_Bool, cond-false, cond-true}
use Rattle.std.proofs.lemmas.List.Sums.{sum_by-cons}
use Rattle.std.proofs.lemmas.Map.Keys.{IsDistinct-cons, IsDistinct-head, IsDistinct-tail}
use Rattle.hg_base.proofs.Within.{equal_bytes, same_bytes}
use Rattle.hg_image.specs.Reading.{row_at}
use Rattle.hg_image.specs.Rows.{AreDistinct, Row}

-- what the row of a path adds, nothing where there is none
abbrev pub weight : (Row → ℕ) → Option Row → ℕ
weight f None = 0
weight f (Some row) = f row

-- the rows of other paths
abbrev without : List ℕ → List Row → List Row
without path [] = []
without path (row ∷ rows) = cond (bytes_eq row.path path) (without path rows) (row ∷ without path rows)

abbrev Paths : List Row → List (List ℕ)
Paths rows = map (λ row. row.path) rows

-- a path that none has
gone : (rows : List Row) (path : List ℕ) → AllByRecursion (λ p. bytes_eq path p ≡ false) (Paths rows) → row_at rows path ≡ None
gone [] path apart = refl
gone (r ∷ rows) path apart = cond-false (bytes_eq r.path path) (Some r) (row_at rows path) (turned r.path path apart.0) ∙ gone rows path apart.1
  where
    turned : (a b : List ℕ) → bytes_eq b a ≡ false → bytes_eq a b ≡ false
    turned a b h = elim (cases_Bool (bytes_eq a b)) [
      | inl same ↦ absurd (both_ways (bytes_eq b a) h (ap (bytes_eq b) (same_bytes a b same) ∙ equal_bytes b))
      | inr other ↦ other
    ]

here : (r : Row) (rows : List Row) → row_at (r ∷ rows) r.path ≡ Some r
here r rows = cond-true (bytes_eq r.path r.path) (Some r) (row_at rows r.path) (equal_bytes r.path)

first_gone : (r : Row) (rows : List Row) → AreDistinct (r ∷ rows) → row_at rows r.path ≡ None
first_gone r rows dist = gone rows r.path (IsDistinct-head bytes_eq r.path (Paths rows) dist)

rest_dist : (r : Row) (rows : List Row) → AreDistinct (r ∷ rows) → AreDistinct rows
rest_dist r rows dist = IsDistinct-tail bytes_eq r.path (Paths rows) dist

-- the sum without a path
parted_sum : (f : Row → ℕ) (path : List ℕ) (rows : List Row) → AreDistinct rows → sum_by f rows ≡ weight f (row_at rows path) + sum_by f (without path rows)
parted_sum f path [] dist = refl
parted_sum f path (r ∷ rows) dist = step (bytes_eq r.path path) refl (parted_sum f path rows (rest_dist r rows dist))
  where
    step : (t : Bool) → bytes_eq r.path path ≡ t → sum_by f rows ≡ weight f (row_at rows path) + sum_by f (without path rows)
        → sum_by f (r ∷ rows) ≡ weight f (cond t (Some r) (row_at rows path)) + sum_by f (cond t (without path rows) (r ∷ without path rows))
    step true is more =
        let none : row_at rows path ≡ None = ap (row_at rows) (sym (same_bytes r.path path is)) ∙ first_gone r rows dist in
        let nothing : weight f (row_at rows path) ≡ 0 = ap (weight f) none in
        let one : sum_by f (r ∷ rows) ≡ f r + sum_by f rows = sum_by-cons f r rows in
        omega (arith, more, nothing, one)
    step false is more =
        let one : sum_by f (r ∷ rows) ≡ f r + sum_by f rows = sum_by-cons f r rows in
        let two : sum_by f (r ∷ without path rows) ≡ f r + sum_by f (without path rows) = sum_by-cons f r (without path rows) in
        omega (arith, more, one, two)

gone_without : (path : List ℕ) (rows : List Row) → row_at (without path rows) path ≡ None
gone_without path [] = refl
gone_without path (r ∷ rows) = step (bytes_eq r.path path) refl (gone_without path rows)
  where
    step : (t : Bool) → bytes_eq r.path path ≡ t → row_at (without path rows) path ≡ None → row_at (cond t (without path rows) (r ∷ without path rows)) path ≡ None
    step true is more = more
    step false is more = cond-false (bytes_eq r.path path) (Some r) (row_at (without path rows) path) is ∙ more

others_without : (path at : List ℕ) (rows : List Row) → bytes_eq path at ≡ false → row_at (without path rows) at ≡ row_at rows at
others_without path at [] other = refl
others_without path at (r ∷ rows) other = step (bytes_eq r.path path) refl (others_without path at rows other)
  where
    step : (t : Bool) → bytes_eq r.path path ≡ t → row_at (without path rows) at ≡ row_at rows at → row_at (cond t (without path rows) (r ∷ without path rows)) at ≡ cond (bytes_eq r.path at) (Some r) (row_at rows at)
    step true is more = more ∙ sym (cond-false (bytes_eq r.path at) (Some r) (row_at rows at) (ap (λ (p : List ℕ). bytes_eq p at) (same_bytes r.path path is) ∙ other))
    step false is more = ap (cond (bytes_eq r.path at) (Some r)) more

apart_without : (path at : List ℕ) (rows : List Row) → AllByRecursion (λ p. bytes_eq at p ≡ false) (Paths rows) → AllByRecursion (λ p. bytes_eq at p ≡ false) (Paths (without path rows))
apart_without path at [] apart = tt
apart_without path at (r ∷ rows) apart = step (bytes_eq r.path path) (apart_without path at rows apart.1)
  where
    step : (t : Bool) → AllByRecursion (λ p. bytes_eq at p ≡ false) (Paths (without path rows)) → AllByRecursion (λ p. bytes_eq at p ≡ false) (Paths (cond t (without path rows) (r ∷ without path rows)))
    step true more = more
    step false more = (apart.0, more)

dist_without : (path : List ℕ) (rows : List Row) → AreDistinct rows → AreDistinct (without path rows)
dist_without path [] dist = dist
dist_without path (r ∷ rows) dist = step (bytes_eq r.path path) (dist_without path rows (rest_dist r rows dist))
  where
    step : (t : Bool) → AreDistinct (without path rows) → AreDistinct (cond t (without path rows) (r ∷ without path rows))
    step true more = more
    step false more = IsDistinct-cons bytes_eq r.path (Paths (without path rows)) (apart_without path r.path rows (IsDistinct-head bytes_eq r.path (Paths rows) dist)) more

-- nothing is added at any path
none_sum : (f : Row → ℕ) (rows : List Row) → AreDistinct rows → ((path : List ℕ) → weight f (row_at rows path) ≡ 0) → sum_by f rows ≡ 0
none_sum f [] dist none = refl
none_sum f (r ∷ rows) dist none =
    let first : f r ≡ 0 = sym (ap (weight f) (here r rows)) ∙ none r.path in
    let rest : sum_by f rows ≡ 0 = none_sum f rows (rest_dist r rows dist) rest_none in
    let one : sum_by f (r ∷ rows) ≡ f r + sum_by f rows = sum_by-cons f r rows in
    omega (arith, first, rest, one)
  where
    rest_none : (path : List ℕ) → weight f (row_at rows path) ≡ 0
    rest_none path = elim (cases_Bool (bytes_eq r.path path)) [
      | inl same ↦ ap (weight f) (ap (row_at rows) (sym (same_bytes r.path path same)) ∙ first_gone r rows dist)
      | inr other ↦ ap (weight f) (sym (cond-false (bytes_eq r.path path) (Some r) (row_at rows path) other)) ∙ none path
    ]

-- the same is added at each path
pub same_sums : (f g : Row → ℕ) (xs ys : List Row) → AreDistinct xs → AreDistinct ys → ((path : List ℕ) → weight f (row_at xs path) ≡ weight g (row_at ys path)) → sum_by f xs ≡ sum_by g ys
same_sums f g [] ys dist_x dist_y same = sym (none_sum g ys dist_y (λ path. sym (same path)))
same_sums f g (r ∷ xs) ys dist_x dist_y same =
    let rest : sum_by f xs ≡ sum_by g (without r.path ys) = same_sums f g xs (without r.path ys) (rest_dist r xs dist_x) (dist_without r.path ys dist_y) rest_same in
    let first : f r ≡ weight g (row_at ys r.path) = sym (ap (weight f) (here r xs)) ∙ same r.path in
    let one : sum_by f (r ∷ xs) ≡ f r + sum_by f xs = sum_by-cons f r xs in
    let two : sum_by g ys ≡ weight g (row_at ys r.path) + sum_by g (without r.path ys) = parted_sum g r.path ys dist_y in
    omega (arith, rest, first, one, two)
  where
    rest_same : (path : List ℕ) → weight f (row_at xs path) ≡ weight g (row_at (without r.path ys) path)
    rest_same path = elim (cases_Bool (bytes_eq r.path path)) [
      | inl is ↦
          let e : r.path ≡ path = same_bytes r.path path is in
          let left : row_at xs path ≡ None = ap (row_at xs) (sym e) ∙ first_gone r xs dist_x in
          let right : row_at (without r.path ys) path ≡ None = ap (row_at (without r.path ys)) (sym e) ∙ gone_without r.path ys in
          ap (weight f) left ∙ sym (ap (weight g) right)
      | inr other ↦
          ap (weight f) (sym (cond-false (bytes_eq r.path path) (Some r) (row_at xs path) other)) ∙ same path ∙ sym (ap (weight g) (others_without r.path path ys other))
    ]

-- each of distinct rows is found at its path
pub found_each : (rows : List Row) → AreDistinct rows → AllByRecursion (λ row. row_at rows row.path ≡ Some row) rows
found_each [] dist = tt
found_each (r ∷ rows) dist = (here r rows, later rows (IsDistinct-head bytes_eq r.path (Paths rows) dist) (found_each rows (rest_dist r rows dist)))
  where
    later : (some : List Row) → AllByRecursion (λ p. bytes_eq r.path p ≡ false) (Paths some) → AllByRecursion (λ row. row_at rows row.path ≡ Some row) some → AllByRecursion (λ row. row_at (r ∷ rows) row.path ≡ Some row) some
    later [] apart each = tt
    later (x ∷ some) apart each = (cond-false (bytes_eq r.path x.path) (Some r) (row_at rows x.path) apart.0 ∙ each.0, later some apart.1 each.1)

-- a sum of two
pub sum_both : (f g h : Row → ℕ) → ((row : Row) → f row ≡ g row + h row) → (rows : List Row) → sum_by f rows ≡ sum_by g rows + sum_by h rows
sum_both f g h both [] = refl
sum_both f g h both (r ∷ rows) =
    let rest : sum_by f rows ≡ sum_by g rows + sum_by h rows = sum_both f g h both rows in
    let here_is : f r ≡ g r + h r = both r in
    let one : sum_by f (r ∷ rows) ≡ f r + sum_by f rows = sum_by-cons f r rows in
    let two : sum_by g (r ∷ rows) ≡ g r + sum_by g rows = sum_by-cons g r rows in
    let three : sum_by h (r ∷ rows) ≡ h r + sum_by h rows = sum_by-cons h r rows in
    omega (arith, rest, here_is, one, two, three)

pub sum_same : (f g : Row → ℕ) (rows : List Row) → AllByRecursion (λ row. f row ≡ g row) rows → sum_by f rows ≡ sum_by g rows
sum_same f g [] same = refl
sum_same f g (r ∷ rows) same =
    let rest : sum_by f rows ≡ sum_by g rows = sum_same f g rows same.1 in
    let first : f r ≡ g r = same.0 in
    let one : sum_by f (r ∷ rows) ≡ f r + sum_by f rows = sum_by-cons f r rows in
    let two : sum_by g (r ∷ rows) ≡ g r + sum_by g rows = sum_by-cons g r rows in
    omega (arith, rest, first, one, two)
