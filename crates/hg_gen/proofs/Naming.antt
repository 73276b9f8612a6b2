-- The paths of the copy: which differ, and what stands above what.
use Rattle.std.proofs.Common.{◌≡◌, ℕ, ◌+◌, ◌/◌, ◌%◌, ◌^◌, ◌<◌, ◌≤◌, true, false, List, [], ◌∷◌, ◌++◌, inl, inr, refl, sym, ap, subst, ◌∙◌, arith, eqb}
use Rattle.std.specs.Prelude.{codes, length}
use Rattle.std.specs.Char.{digit_value}
use Rattle.std.specs.Fmt.{decimal}
use Rattle.std.specs.Str.{bytes_eq}
use Rattle.std.specs.Str.Parse.{AllDigits}
use Rattle.std.proofs.lemmas.Bool.{both_ways, false_from_ne_true, ne_eqb, not_from_false, or_from}
use Rattle.std.proofs.lemmas.Fmt.{decimal_injective, decimal_is_IsNumeral, length-decimal-le_succ}
use Rattle.std.proofs.lemmas.List.{append_cancel_left}
use Rattle.std.proofs.lemmas.Slice.Eq.{bytes_eq-Decides}
use Rattle.hg_base.specs.PathText.{components, has_nul, has_slash, is_below, is_component, is_path}
use Rattle.hg_base.proofs.Below.{below_joined, below_name, below_of_joined}
use Rattle.hg_base.proofs.Components.{components_name}
use Rattle.hg_base.proofs.Paths.{component_path, joined_path}
use Rattle.hg_gen.specs.Copy.{dir_of, name_of, path_of}

-- what differs differs by its bytes
pub other_bytes : (a b : List ℕ) → (a ≡ b → ⊥) → bytes_eq a b ≡ false
other_bytes a b other = false_from_ne_true (bytes_eq a b) (λ h. other ((bytes_eq-Decides a b).0 h))

-- no digit is a slash
plain_digit : (c : ℕ) → digit_value c < 10 → eqb c 47 ≡ false
plain_digit c h = ne_eqb c 47 (λ e. let low : digit_value 47 < 10 = subst (λ (x : ℕ). digit_value x < 10) e h in absurd (omega (arith, low)))

plain_digits : (ds : List ℕ) → AllDigits 10 ds → has_slash ds ≡ false
plain_digits [] h = refl
plain_digits (d ∷ ds) h = or_from (eqb d 47) (has_slash ds) (plain_digit d h.0) (plain_digits ds h.1)

plain_decimal : (n : ℕ) → n < 2 ^ 64 → has_slash (decimal n) ≡ false
plain_decimal n small = plain_digits (decimal n) (decimal_is_IsNumeral n small).0.1

pub plain_dir : (dir : ℕ) → dir < 2 ^ 64 → has_slash (dir_of dir) ≡ false
plain_dir dir small = plain_decimal dir small

pub plain_name : (name : ℕ) → name < 2 ^ 64 → has_slash (name_of name) ≡ false
plain_name name small = plain_decimal name small

-- above a file stands its directory
pub dir_above : (file : ℕ) → is_below (dir_of (file / 16)) (path_of file) ≡ true
dir_above file = below_joined (dir_of (file / 16)) (name_of (file % 16))

-- and nothing else
pub only_above : (at : List ℕ) (file : ℕ) → file < 2 ^ 64 → is_below at (path_of file) ≡ true → at ≡ dir_of (file / 16)
only_above at file small h =
    let few : file / 16 < 2 ^ 64 = omega arith in
    elim (below_of_joined at (dir_of (file / 16)) (name_of (file % 16)) (plain_name (file % 16) (omega arith)) h) [
      | inl e ↦ e
      | inr e ↦ absurd (both_ways (is_below at (dir_of (file / 16))) (below_name at (dir_of (file / 16)) (plain_dir (file / 16) few)) e)
    ]

-- no file is a directory
pub file_no_dir : (file dir : ℕ) → dir < 2 ^ 64 → path_of file ≡ dir_of dir → ⊥
file_no_dir file dir small same =
    both_ways (is_below (dir_of (file / 16)) (dir_of dir)) (below_name (dir_of (file / 16)) (dir_of dir) (plain_dir dir small))
    (subst (λ (path : List ℕ). is_below (dir_of (file / 16)) path ≡ true) same (dir_above file))

-- above a file stands no file
pub file_above : (above file : ℕ) → file < 2 ^ 64 → is_below (path_of above) (path_of file) ≡ false
file_above above file small =
    let few : file / 16 < 2 ^ 64 = omega arith in
    false_from_ne_true (is_below (path_of above) (path_of file)) (λ h. file_no_dir above (file / 16) few (only_above (path_of above) file small h))

-- and above a directory nothing at all
pub above_dir : (at : List ℕ) (dir : ℕ) → dir < 2 ^ 64 → is_below at (dir_of dir) ≡ false
above_dir at dir small = below_name at (dir_of dir) (plain_dir dir small)

-- two directories of one name are one
pub dirs_differ : (a b : ℕ) → a < 2 ^ 64 → b < 2 ^ 64 → dir_of a ≡ dir_of b → a ≡ b
dirs_differ a b few_a few_b same = decimal_injective a b few_a few_b (append_cancel_left (codes "d") (decimal a) (decimal b) same)

-- two files of one path are one
pub files_differ : (a b : ℕ) → a < 2 ^ 64 → b < 2 ^ 64 → path_of a ≡ path_of b → a ≡ b
files_differ a b few_a few_b same =
    let dirs : dir_of (a / 16) ≡ dir_of (b / 16) =
    only_above (dir_of (a / 16)) b few_b (subst (λ (path : List ℕ). is_below (dir_of (a / 16)) path ≡ true) same (dir_above a)) in
    let high : a / 16 ≡ b / 16 = dirs_differ (a / 16) (b / 16) (omega arith) (omega arith) dirs in
    let names : 47 ∷ name_of (a % 16) ≡ 47 ∷ name_of (b % 16) =
    append_cancel_left (dir_of (b / 16)) (47 ∷ name_of (a % 16)) (47 ∷ name_of (b % 16)) (ap (λ (dir : List ℕ). dir ++ 47 ∷ name_of (a % 16)) (sym dirs) ∙ same) in
    let low : a % 16 ≡ b % 16 =
    decimal_injective (a % 16) (b % 16) (omega arith) (omega arith) (append_cancel_left (47 ∷ codes "f") (decimal (a % 16)) (decimal (b % 16)) names) in
    omega (arith, high, low)

-- ---- they are paths

-- no digit is a NUL
solid_digits : (ds : List ℕ) → AllDigits 10 ds → has_nul ds ≡ false
solid_digits [] h = refl
solid_digits (d ∷ ds) h =
    or_from (eqb d 0) (has_nul ds) (ne_eqb d 0 (λ e. let low : digit_value 0 < 10 = subst (λ (x : ℕ). digit_value x < 10) e h.0 in absurd (omega (arith, low)))) (solid_digits ds h.1)

pub solid_decimal : (n : ℕ) → n < 2 ^ 64 → has_nul (decimal n) ≡ false
solid_decimal n small = solid_digits (decimal n) (decimal_is_IsNumeral n small).0.1

dir_component : (dir : ℕ) → dir < 2 ^ 64 → is_component (dir_of dir) ≡ true
dir_component dir small =
    not_from_false _
    (or_from _ _ (or_from _ _ (or_from _ _ (or_from _ _ (ne_eqb (length (dir_of dir)) 0 (λ e. absurd (omega (arith, e)))) refl) refl) (solid_decimal dir small)) (plain_decimal dir small))

name_component : (name : ℕ) → name < 2 ^ 64 → is_component (name_of name) ≡ true
name_component name small =
    not_from_false _
    (or_from _ _ (or_from _ _ (or_from _ _ (or_from _ _ (ne_eqb (length (name_of name)) 0 (λ e. absurd (omega (arith, e)))) refl) refl) (solid_decimal name small)) (plain_decimal name small))

short_decimal : (n : ℕ) → n < 32000 → length (decimal n) ≤ 32000
short_decimal n small = let short : length (decimal n) ≤ n + 1 = length-decimal-le_succ n (omega arith) in omega (arith, short)

pub dir_path : (dir : ℕ) → dir < 32000 → is_path (dir_of dir) ≡ true
dir_path dir small =
    component_path (dir_of dir) (dir_component dir (omega arith)) (omega (arith, short_decimal dir small)) refl

pub file_path : (file : ℕ) → file < 32000 → is_path (path_of file) ≡ true
file_path file small =
    let few : file / 16 < 32000 = omega arith in
    let one : components (dir_of (file / 16)) ≡ dir_of (file / 16) ∷ [] = components_name (dir_of (file / 16)) (plain_dir (file / 16) (omega arith)) in
    joined_path (dir_of (file / 16)) (name_of (file % 16)) (dir_path (file / 16) few) (name_component (file % 16) (omega arith))
    (omega (arith, short_decimal (file / 16) few, short_decimal (file % 16) (omega arith))) (omega (arith, ap length one))
