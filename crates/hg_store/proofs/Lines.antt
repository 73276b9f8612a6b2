-- The lines of a manifest, one behind another.
use Rattle.std.proofs.Common.{◌≡◌, ℕ, zero, suc, ◌+◌, ◌-◌, ◌^◌, ◌≤◌, min, List, [], ◌∷◌, ◌++◌, length, take, slice_get, Option, None, Some, refl, sym, ap, ◌∙◌, arith}
use Rattle.std.proofs.lemmas.List.{append_assoc, append-nil, length-append, take_all}
use Rattle.hex.specs.Hex.{encode_lower}
use Rattle.hg_store.specs.Rows.{flag_of, line_of, text_of}
use Rattle.hg_store.specs.declared.rows.NewRow.{NewRow}

some_row : {x y : NewRow} → Some x ≡ Some y → x ≡ y
some_row {x} {y} is = ap (λ (o : Option NewRow). row_or o x) is
  where
    row_or : Option NewRow → NewRow → NewRow
    row_or None row = row
    row_or (Some found) row = found

-- the line of one row more
text_next : (rows : List NewRow) (k : ℕ) (row : NewRow) → slice_get rows k ≡ Some row → text_of (take (suc k) rows) ≡ text_of (take k rows) ++ line_of row
unfolding text_of
text_next [] k row is = absurd cc
text_next (first ∷ rows) zero row is = append-nil (line_of first) ∙ ap line_of (some_row is)
text_next (first ∷ rows) (suc k) row is =
    ap (λ (xs : List ℕ). line_of first ++ xs) (text_next rows k row is) ∙ sym (append_assoc (line_of first) (text_of (take k rows)) (line_of row))

pub text_more : (rows : List NewRow) (k : ℕ) (row : NewRow) → slice_get rows k ≡ Some row → text_of (take (k + 1) rows) ≡ text_of (take k rows) ++ line_of row
text_more rows k row is = let next : k + 1 ≡ suc k = omega arith in ap (λ (n : ℕ). text_of (take n rows)) next ∙ text_next rows k row is

pub text_none : text_of [] ≡ []
unfolding text_of
text_none = refl

pub text_whole : (rows : List NewRow) (k : ℕ) → length rows ≤ k → text_of (take k rows) ≡ text_of rows
text_whole rows k all = ap text_of (take_all k rows all)

pub line_long : (row : NewRow) (digits : List ℕ) → digits ≡ encode_lower row.row.id.0 → length (line_of row) ≡ length row.path + length digits + length (flag_of row.row) + 2
line_long row digits is =
    let whole = length-append row.path (0 ∷ (encode_lower row.row.id.0 ++ (flag_of row.row ++ (10 ∷ [])))) in
    let behind = length-append (encode_lower row.row.id.0) (flag_of row.row ++ (10 ∷ [])) in
    let end = length-append (flag_of row.row) (10 ∷ []) in
    let same : length digits ≡ length (encode_lower row.row.id.0) = ap length is in
    omega (arith, whole, behind, end, same)

pub len_more : (total next line before behind : ℕ) → total ≡ min before (2 ^ 64 - 1) → next ≡ min (total + line) (2 ^ 64 - 1) → behind ≡ before + line → next ≡ min behind (2 ^ 64 - 1)
len_more total next line before behind is then more = omega (arith, is, then, more)

pub text_length : (rows : List NewRow) (k : ℕ) (row : NewRow) → slice_get rows k ≡ Some row → length (text_of (take (k + 1) rows)) ≡ length (text_of (take k rows)) + length (line_of row)
text_length rows k row is = ap length (text_more rows k row is) ∙ length-append (text_of (take k rows)) (line_of row)

pub line_put : (text path digits flag : List ℕ) → ((((text ++ path) ++ (0 ∷ [])) ++ digits) ++ flag) ++ (10 ∷ []) ≡ text ++ (path ++ (0 ∷ (digits ++ (flag ++ (10 ∷ [])))))
line_put text path digits flag =
    append_assoc (((text ++ path) ++ (0 ∷ [])) ++ digits) flag (10 ∷ [])
    ∙ append_assoc ((text ++ path) ++ (0 ∷ [])) digits (flag ++ (10 ∷ []))
    ∙ append_assoc (text ++ path) (0 ∷ []) (digits ++ (flag ++ (10 ∷ [])))
    ∙ append_assoc text path (0 ∷ (digits ++ (flag ++ (10 ∷ []))))
