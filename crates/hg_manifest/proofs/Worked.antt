-- Manifests worked by hand: their rows, and the first fault of each.
use Rattle.std.proofs.Common.{◌≡◌, ℕ, ◌++◌, Bool, true, false, List, [], ◌∷◌, None, Ok, Err, codes, replicate, refl}
use Rattle.std.specs.Prelude.{⊤}
use Rattle.std.specs.Char.{encode_utf8}
use Rattle.std.specs.Str.{chars, is_utf8}
use Rattle.hex.proofs.OnLiterals.{hex_on_literals}
use Rattle.hg_manifest.specs.Line.{ending}
use Rattle.hg_manifest.specs.Plain.{plain_name}
use Rattle.hg_manifest.specs.Rows.{manifest_of, rows_from}
use Rattle.hg_manifest.specs.declared.fault.ManifestFault.TheVariants as a_fault
use Rattle.hg_manifest.specs.declared.row.FileRow.{FileRow}

unfoldable pub lines_on_literals : ⊤
unfolding hex_on_literals chars encode_utf8 is_utf8 rows_from
lines_on_literals = tt

-- a path, a NUL, forty digits or one less, and an end
line : List ℕ → List ℕ → List ℕ → List ℕ
line path digits end = path ++ 0 ∷ digits ++ end

digits : List ℕ
digits = replicate 40 48

row : List ℕ → Bool → Bool → List ℕ × FileRow
row path exec link = (path, record { id = record { 0 = replicate 20 0 }; exec = exec; link = link })

no_lines : manifest_of [] ≡ Ok []
unfolding rows_from
no_lines = refl

no_nul : manifest_of (codes "a") ≡ Err (a_fault.ManifestLine 1)
unfolding lines_on_literals
no_nul = refl

three_files : manifest_of (line (codes "a\n") digits (codes "\n") ++ line (codes "a/b") digits (codes "x\n") ++ line (codes "ab") digits (codes "l\n"))
    ≡ Ok (row (codes "a\n") false false ∷ row (codes "a/b") true false ∷ row (codes "ab") false true ∷ [])
unfolding lines_on_literals line digits row
three_files = refl

both_cases : manifest_of (line (codes "a") (replicate 20 97 ++ replicate 20 65) (codes "\n")) ≡ Ok ((codes "a", record { id = record { 0 = replicate 20 170 }; exec = false; link = false }) ∷ [])
unfolding lines_on_literals line
both_cases = refl

one_digit_short : manifest_of (line (codes "a") (replicate 39 48) (codes "\n")) ≡ Err (a_fault.ManifestLine 1)
unfolding lines_on_literals line
one_digit_short = refl

out_of_order : manifest_of (line (codes "b") digits (codes "\n") ++ line (codes "a") digits (codes "\n")) ≡ Err (a_fault.ManifestOrder 2)
unfolding lines_on_literals line digits
out_of_order = refl

one_path_twice : manifest_of (line (codes "a") digits (codes "\n") ++ line (codes "a") digits (codes "\n")) ≡ Err (a_fault.ManifestOrder 2)
unfolding lines_on_literals line digits
one_path_twice = refl

no_last_end : manifest_of (line (codes "a") digits (codes "\n") ++ line (codes "b") digits []) ≡ Err (a_fault.ManifestLine 2)
unfolding lines_on_literals line digits
no_last_end = refl

no_path : manifest_of (line (codes ".hg/a") digits (codes "\n")) ≡ Err (a_fault.ManifestLine 1)
unfolding lines_on_literals line digits
no_path = refl

no_text : manifest_of (line (97 ∷ 255 ∷ []) digits (codes "\n")) ≡ Err (a_fault.ManifestLine 1)
unfolding lines_on_literals line digits
no_text = refl

an_upper_flag : ending (codes "X\n") ≡ None
an_upper_flag = refl

a_name : plain_name (replicate 20 31) ≡ codes "plain/m-1f1f1f1f1f1f1f1f1f1f1f1f1f1f1f1f1f1f1f1f"
unfolding hex_on_literals
a_name = refl
