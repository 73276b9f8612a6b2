-- The order of the rows of a listing, where the source follows from the path.
use Rattle.std.proofs.Common.{ℕ, ◌≡◌, ◌==◌, true, false, cond, List, [], ◌∷◌, map, inl, inr, Option, Some, None, refl, sym, ap, ◌∙◌, subst}
use Rattle.std.specs.List.{AllByRecursion, Contains, IsDistinct, dedup}
use Rattle.std.specs.Str.{bytes_eq}
use Rattle.std.proofs.lemmas.Bool.{cases_Bool}
use Rattle.std.proofs.lemmas.Slice.Eq.{bytes_eq-Decides}
use Rattle.std.specs.List.Sorted.{IsPermutation, IsSorted, IsStrictlySortedBy}
use Rattle.std.specs.Option.{option_cmp}
use Rattle.std.specs.Ordering.{eq_by_cmp, is_eq, nat_cmp, ordering_then}
use Rattle.std.specs.declared.cmp.Ordering.{Ordering}
use Rattle.std.specs.declared.cmp.Ordering.TheVariants.{Less, Equal, Greater}
use Rattle.std.specs.Cmp.{eq_by_cmp_equiv, tied_itself}
use Rattle.std.specs.Cmp.Lexicographic.{nat_list_cmp_total, options_total, slice_cmp}
use Rattle.std.proofs.lemmas.List.Elements.{Contains-append_left, Contains-append_right, Contains-push}
use Rattle.std.proofs.lemmas.List.Kept.{Contains-dedup, Contains-from_dedup, IsStrictlySortedBy-dedup}
use Rattle.std.proofs.lemmas.List.Sorted.{Contains-permutation, IsPermutation-sym}
use Rattle.std.proofs.lemmas.Map.Lookups.{exact_bytes, exact_unsigned}
use Rattle.hg_compare.specs.declared.letter.Letter.{Letter}
use Rattle.hg_compare.specs.declared.letter.Letter.TheVariants as a_letter
use Rattle.hg_listing.specs.Order.{group_of, row_order, whole_order, whole_order_total}
use Rattle.hg_listing.specs.declared.row.Row.{Row}
use Rattle.hg_flat.proofs.Alone.{never_itself}

-- ---- rows that are alike are the same

letter_of : ℕ → Letter
letter_of n =
    cond (n == 0) a_letter.M (cond (n == 1) a_letter.A (cond (n == 2) a_letter.R (cond (n == 3) a_letter.Gone (cond (n == 4) a_letter.Unknown (cond (n == 5) a_letter.I a_letter.C)))))

letter_back : (letter : Letter) → letter_of (group_of letter) ≡ letter
unfolding letter_of
letter_back a_letter.M = refl
letter_back a_letter.A = refl
letter_back a_letter.R = refl
letter_back a_letter.Gone = refl
letter_back a_letter.Unknown = refl
letter_back a_letter.I = refl
letter_back a_letter.C = refl

same_letter : (a b : Letter) → nat_cmp (group_of a) (group_of b) ≡ Equal → a ≡ b
same_letter a b is = sym (letter_back a) ∙ ap letter_of (exact_unsigned (group_of a) (group_of b) is) ∙ letter_back b

same_source : (a b : Option (List ℕ)) → option_cmp (slice_cmp nat_cmp) a b ≡ Equal → a ≡ b
same_source None None is = refl
same_source None (Some y) is = absurd (cc (is))
same_source (Some x) None is = absurd (cc (is))
same_source (Some x) (Some y) is = ap Some (exact_bytes x y is)

both_equal : (r s : Ordering) → ordering_then r s ≡ Equal → (r ≡ Equal) × (s ≡ Equal)
both_equal Less s is = absurd (cc (is))
both_equal Equal s is = (refl, is)
both_equal Greater s is = absurd (cc (is))

is_equal : (r : Ordering) → is_eq r ≡ true → r ≡ Equal
is_equal Less is = absurd (cc (is))
is_equal Equal is = refl
is_equal Greater is = absurd (cc (is))

pub same_row : (a b : Row) → a.letter ≡ b.letter → a.path ≡ b.path → a.source ≡ b.source → a ≡ b
same_row a b letter path source = λ i. record { letter = letter i; path = path i; source = source i }

rows_exact : (a b : Row) → eq_by_cmp whole_order a b ≡ true → a ≡ b
rows_exact a b is =
    let whole = both_equal (row_order a b) (option_cmp (slice_cmp nat_cmp) a.source b.source) (is_equal (whole_order a b) is) in
    let row = both_equal (nat_cmp (group_of a.letter) (group_of b.letter)) (slice_cmp nat_cmp a.path b.path) whole.0 in
    same_row a b (same_letter a.letter b.letter row.0) (exact_bytes a.path b.path row.1) (same_source a.source b.source whole.1)

-- ---- strictly ascending by group and path

less_by : (source : List ℕ → Option (List ℕ)) (a b : Row) (r : Ordering) → a.source ≡ source a.path → b.source ≡ source b.path → row_order a b ≡ r → whole_order a b ≡ Less → row_order a b ≡ Less
less_by source a b Less at bt is less = is
less_by source a b Equal at bt is less =
    let row = both_equal (nat_cmp (group_of a.letter) (group_of b.letter)) (slice_cmp nat_cmp a.path b.path) is in
    let same : a.source ≡ b.source = at ∙ ap source (exact_bytes a.path b.path row.1) ∙ sym bt in
    let tied : option_cmp (slice_cmp nat_cmp) a.source b.source ≡ Equal =
    ap (option_cmp (slice_cmp nat_cmp) a.source) (sym same) ∙ tied_itself (options_total nat_list_cmp_total) a.source in
    let whole : whole_order a b ≡ Equal = ap (λ (o : Ordering). ordering_then o (option_cmp (slice_cmp nat_cmp) a.source b.source)) is ∙ tied in
    absurd (cc (whole, less))
less_by source a b Greater at bt is less =
    let whole : whole_order a b ≡ Greater = ap (λ (o : Ordering). ordering_then o (option_cmp (slice_cmp nat_cmp) a.source b.source)) is in absurd (cc (whole, less))

less_all : (source : List ℕ → Option (List ℕ)) (a : Row) → a.source ≡ source a.path → (rows : List Row) → AllByRecursion (λ row. row.source ≡ source row.path) rows → AllByRecursion (λ row. whole_order a row ≡ Less) rows → AllByRecursion (λ row. row_order a row ≡ Less) rows
less_all source a at [] sourced less = less
less_all source a at (b ∷ rows) sourced less = (less_by source a b (row_order a b) at sourced.0 refl less.0, less_all source a at rows sourced.1 less.1)

strictly : (source : List ℕ → Option (List ℕ)) (rows : List Row) → AllByRecursion (λ row. row.source ≡ source row.path) rows → IsStrictlySortedBy whole_order rows → IsStrictlySortedBy row_order rows
unfolding IsStrictlySortedBy
strictly source [] sourced sorted = sorted
strictly source (a ∷ rows) sourced sorted = (less_all source a sourced.0 rows sourced.1 sorted.0, strictly source rows sourced.1 sorted.1)

all_of : (P : Row → Type 0) (rows : List Row) → ((row : Row) → Contains rows row → P row) → AllByRecursion P rows
all_of P [] each = tt
all_of P (row ∷ rows) each = (each row (Contains-append_left (row ∷ []) rows row (Contains-push [] row)), all_of P rows (λ other has. each other (Contains-append_right (row ∷ []) rows other has)))

pub kept_by : (b c d : List Row) (row : Row) → IsPermutation b c → d ≡ dedup (eq_by_cmp whole_order) c → Contains b row → Contains d row
kept_by b c d row moved is has =
    subst (λ (l : List Row). Contains l row) (sym is) (Contains-dedup (eq_by_cmp_equiv whole_order_total) rows_exact c row (Contains-permutation b c row moved has))

pub kept_of : (b c d : List Row) (row : Row) → IsPermutation b c → d ≡ dedup (eq_by_cmp whole_order) c → Contains d row → Contains b row
kept_of b c d row moved is has =
    Contains-permutation c b row (IsPermutation-sym b c moved) (Contains-from_dedup (eq_by_cmp whole_order) c row (subst (λ (l : List Row). Contains l row) is has))

-- rows in order, each once, where the source of a row follows from its path
pub ascending : (source : List ℕ → Option (List ℕ)) (b c d : List Row) → IsPermutation b c → IsSorted whole_order c → d ≡ dedup (eq_by_cmp whole_order) c → ((row : Row) → Contains b row → row.source ≡ source row.path) → IsStrictlySortedBy row_order d
ascending source b c d moved sorted is sourced =
    strictly source d
    (all_of (λ row. row.source ≡ source row.path) d (λ row has. sourced row (kept_of b c d row moved is has)))
    (subst (IsStrictlySortedBy whole_order) (sym is) (IsStrictlySortedBy-dedup whole_order_total (λ x y. refl) c sorted))

-- where a path has one row at most, rows that ascend are of paths of which no two are the same
none_of : (a : Row) (rows : List Row) → AllByRecursion (λ row. row_order a row ≡ Less) rows → ((row : Row) → Contains rows row → a.path ≡ row.path → a ≡ row) → AllByRecursion (λ path. bytes_eq a.path path ≡ false) (map (λ row. row.path) rows)
none_of a [] less one = tt
none_of a (b ∷ rows) less one = (
  elim (cases_Bool (bytes_eq a.path b.path)) [
    | inl same ↦
        let is : a ≡ b = one b (Contains-append_left (b ∷ []) rows b (Contains-push [] b)) ((bytes_eq-Decides a.path b.path).0 same) in
        absurd (never_itself a (subst (λ (r : Row). row_order a r ≡ Less) (sym is) less.0))
    | inr apart ↦ apart
  ],
  none_of a rows less.1 (λ row has. one row (Contains-append_right (b ∷ []) rows row has)),
)

pub distinct_paths : (rows : List Row) → IsStrictlySortedBy row_order rows → ((x y : Row) → Contains rows x → Contains rows y → x.path ≡ y.path → x ≡ y) → IsDistinct bytes_eq (map (λ row. row.path) rows)
unfolding IsDistinct IsStrictlySortedBy
distinct_paths [] up one = tt
distinct_paths (a ∷ rows) up one = (
  none_of a rows up.0 (λ row has. one a row (Contains-append_left (a ∷ []) rows a (Contains-push [] a)) (Contains-append_right (a ∷ []) rows row has)),
  distinct_paths rows up.1 (λ x y left right. one x y (Contains-append_right (a ∷ []) rows x left) (Contains-append_right (a ∷ []) rows y right)),
)
