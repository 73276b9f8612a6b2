-- The lines of a status that asks for all letters: one for each row, which begins with the sign of its letter.
use Rattle.std.proofs.Common.{ℕ, suc, ◌≡◌, ◌+◌, ◌%◌, ◌/◌, ◌<◌, ◌^◌, Bool, true, false, cond, List, [], ◌∷◌, ◌++◌, Option, None, refl, ap, subst, ◌∙◌, arith, eqb, append_assoc}
use Rattle.std.specs.Char.{digit_value}
use Rattle.std.specs.Fmt.{decimal}
use Rattle.std.specs.List.{AllByRecursion, slice_split}
use Rattle.std.specs.Str.Parse.{AllDigits}
use Rattle.std.proofs.lemmas.Bool.{ne_eqb}
use Rattle.std.proofs.lemmas.Fmt.{decimal_is_IsNumeral}
use Rattle.std.proofs.lemmas.List.{append-nil}
use Rattle.std.proofs.lemmas.List.Elements.{All-from_recursion}
use Rattle.std.proofs.lemmas.List.Splits.{slice_split_at}
use Rattle.hg_compare.specs.declared.letter.Letter.{Letter}
use Rattle.hg_compare.specs.declared.letter.Letter.TheVariants as a_letter
use Rattle.hg_gen.specs.Copy.{dir_of, name_of, path_of}
use Rattle.hg_listing.specs.declared.row.Row.{Row}
use Rattle.hg_cli.specs.Lines.{count_lines, lines_with}
use Rattle.hg_report.specs.Status.{name_line, row_text, shows_source, sign_of, source_line, text_of}
use Rattle.hg_report.specs.declared.status.Style.{Style}
use Rattle.hg_cli.proofs.Tallying.{count}

-- ---- paths have no LF

abbrev pub IsSolid : List ℕ → Type 0
IsSolid bytes = AllByRecursion (λ b. eqb b 10 ≡ false) bytes

solid_append : (a b : List ℕ) → IsSolid a → IsSolid b → IsSolid (a ++ b)
solid_append [] b h k = k
solid_append (x ∷ a) b h k = (h.0, solid_append a b h.1 k)

solid_digits : (ds : List ℕ) → AllDigits 10 ds → IsSolid ds
solid_digits [] h = tt
solid_digits (d ∷ ds) h = (
  ne_eqb d 10 (λ e. let low : digit_value 10 < 10 = subst (λ (x : ℕ). digit_value x < 10) e h.0 in absurd (omega (arith, low))),
  solid_digits ds h.1,
)

solid_decimal : (n : ℕ) → n < 2 ^ 64 → IsSolid (decimal n)
solid_decimal n small = solid_digits (decimal n) (decimal_is_IsNumeral n small).0.1

pub solid_path : (file : ℕ) → file < 2 ^ 64 → IsSolid (path_of file)
solid_path file small =
    solid_append (dir_of (file / 16)) (47 ∷ name_of (file % 16)) (refl, solid_decimal (file / 16) (omega arith)) (refl, (refl, solid_decimal (file % 16) (omega arith)))

-- ---- the lines of rows

-- with letters, one a line, and with copy sources
abbrev pub all_style : Style
all_style = record { plain = false; nul = false; copies = true }

pub record HasLine (row : Row) : Type 0 where
  pub source : row.source ≡ None
  pub path : IsSolid row.path

abbrev line_of : Row → List ℕ
line_of row = sign_of row.letter ∷ 32 ∷ row.path

sign_solid : (letter : Letter) → eqb (sign_of letter) 10 ≡ false
sign_solid a_letter.M = refl
sign_solid a_letter.A = refl
sign_solid a_letter.R = refl
sign_solid a_letter.Gone = refl
sign_solid a_letter.Unknown = refl
sign_solid a_letter.I = refl
sign_solid a_letter.C = refl

same_both : (b : Bool) (l : List ℕ) → cond b l l ≡ l
same_both true l = refl
same_both false l = refl

row_is : (row : Row) → row.source ≡ None → row_text all_style row ≡ line_of row ++ 10 ∷ []
row_is row none =
    ap (λ (s : Option (List ℕ)). name_line all_style row ++ cond (shows_source all_style row.letter) (source_line all_style s) []) none
    ∙ ap (λ (l : List ℕ). name_line all_style row ++ l) (same_both (shows_source all_style row.letter) [])
    ∙ append-nil (name_line all_style row)

counts_one : (b : Bool) (n : ℕ) → cond b (suc n) n ≡ cond b 1 0 + n
counts_one true n = omega arith
counts_one false n = omega arith

abbrev parts : List ℕ → List (List ℕ)
parts text = slice_split (λ b. eqb b 10) text

abbrev pub has_sign : ℕ → Row → Bool
has_sign letter row = eqb (sign_of row.letter) letter

pub lines_of_rows : (letter : ℕ) (rows : List Row) → AllByRecursion HasLine rows → lines_with letter (text_of all_style rows) ≡ count (has_sign letter) rows
lines_of_rows letter [] all = refl
lines_of_rows letter (row ∷ rows) all =
    let rest : lines_with letter (text_of all_style rows) ≡ count (has_sign letter) rows = lines_of_rows letter rows all.1 in
    let text : text_of all_style (row ∷ rows) ≡ line_of row ++ 10 ∷ text_of all_style rows =
    ap (λ (l : List ℕ). l ++ text_of all_style rows) (row_is row all.0.source) ∙ append_assoc (line_of row) (10 ∷ []) (text_of all_style rows) in
    ap (lines_with letter) text
    ∙ ap (count_lines letter)
    (slice_split_at (λ b. eqb b 10) (line_of row) 10 (text_of all_style rows) (All-from_recursion (λ b. eqb b 10 ≡ false) (line_of row) (sign_solid row.letter, (refl, all.0.path))) refl)
    ∙ counts_one (has_sign letter row) (lines_with letter (text_of all_style rows))
    ∙ ap (λ (n : ℕ). cond (has_sign letter row) 1 0 + n) rest
