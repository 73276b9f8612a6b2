-- Rows that ascend are read back from their text.
use Rattle.std.proofs.Common.{◌≡◌, ℕ, zero, suc, ◌+◌, ◌≤◌, ◌<◌, Bool, true, false, cond, List, [], ◌∷◌, ◌++◌, length, map, take, drop, Option, Some, None, Ok, refl, sym, ap, ◌∙◌, subst, arith}
use Rattle.std.specs.Prelude.{◌||◌, ◌&&◌, ◌==◌, not, nat_le, codes, All}
use Rattle.std.specs.List.{before_first, after_first, list_all, onto_first, position_or_len}
use Rattle.std.proofs.lemmas.Bool.{false≢true}
use Rattle.std.proofs.lemmas.List.{append_assoc, drop_at, length-append, take_at}
use Rattle.std.proofs.lemmas.List.Elements.{All-head, All-tail}
use Rattle.hex.specs.Hex.{encode_lower, lower_digits}
use Rattle.hex.proofs.HexLemmas.{decode_sized-encode_lower, length-encode_with}
use Rattle.hg_base.specs.PathText.{components, has_nul, has_slash, is_component, is_path, is_reserved}
use Rattle.std.specs.Str.{bytes_eq, is_utf8}
use Rattle.std.proofs.lemmas.Bool.Decides.{nat_tests}
use Rattle.hg_base.specs.declared.id.Id20.{Id20}
use Rattle.hg_manifest.specs.Line as line
use Rattle.hg_manifest.specs.Rows.{is_before, rows_at, rows_from, with_row}
use Rattle.hg_store.specs.Rows.{AreReadBack, IsSayable, ascend, flag_of, said, text_of}
use Rattle.hg_store.specs.declared.rows.NewRow.{NewRow}

or_first : (x y : Bool) → (x || y) ≡ false → x ≡ false
or_first true y h = absurd (false≢true (sym h))
or_first false y h = refl

or_second : (x y : Bool) → (x || y) ≡ false → y ≡ false
or_second true y h = absurd (false≢true (sym h))
or_second false y h = h

and_first : (x y : Bool) → (x && y) ≡ true → x ≡ true
and_first true y h = refl
and_first false y h = absurd (false≢true h)

and_second : (x y : Bool) → (x && y) ≡ true → y ≡ true
and_second true y h = h
and_second false y h = absurd (false≢true h)

both : (x y : Bool) → x ≡ true → y ≡ true → (x && y) ≡ true
both true y p q = q
both false y p q = absurd (false≢true p)

neither : (x y : Bool) → x ≡ false → y ≡ false → (x || y) ≡ false
neither true y p q = absurd (false≢true (sym p))
neither false y p q = q

-- ---- a path has no NUL

not_true : (x : Bool) → not x ≡ true → x ≡ false
not_true true h = absurd (false≢true h)
not_true false h = refl

-- no piece has one
abbrev lacks : List (List ℕ) → Bool
lacks pieces = list_all (λ name. not (has_nul name)) pieces

component_lacks : (x n s : Bool) → not (x || n || s) ≡ true → not n ≡ true
component_lacks x false s h = refl
component_lacks true true true h = h
component_lacks true true false h = h
component_lacks false true true h = h
component_lacks false true false h = h

all_lack : (pieces : List (List ℕ)) → list_all is_component pieces ≡ true → lacks pieces ≡ true
all_lack [] h = refl
all_lack (name ∷ pieces) h =
    let this : not (has_nul name) ≡ true = component_lacks (length name == 0 || bytes_eq name (codes ".") || bytes_eq name (codes "..")) (has_nul name) (has_slash name) (and_first (is_component name) (list_all is_component pieces) h) in
    both (not (has_nul name)) (lacks pieces) this (all_lack pieces (and_second (is_component name) (list_all is_component pieces) h))

-- a byte in front of the first piece
onto_lacks : (b : ℕ) (pieces : List (List ℕ)) → lacks (onto_first b pieces) ≡ true → ((b == 0) ≡ false) × (lacks pieces ≡ true)
onto_lacks b [] h = (or_first (b == 0) false (not_true _ (and_first (not ((b == 0) || false)) true h)), refl)
onto_lacks b (name ∷ pieces) h =
    let front : ((b == 0) || has_nul name) ≡ false = not_true ((b == 0) || has_nul name) (and_first (not ((b == 0) || has_nul name)) (lacks pieces) h) in
    let rest : lacks pieces ≡ true = and_second (not ((b == 0) || has_nul name)) (lacks pieces) h in
    (or_first (b == 0) (has_nul name) front, both (not (has_nul name)) (lacks pieces) (ap not (or_second (b == 0) (has_nul name) front)) rest)

split_lacks : (slash : Bool) (b : ℕ) (pieces : List (List ℕ)) → (slash ≡ true → (b == 0) ≡ false) → lacks (cond slash ([] ∷ pieces) (onto_first b pieces)) ≡ true → ((b == 0) ≡ false) × (lacks pieces ≡ true)
split_lacks true b pieces apart h = (apart refl, h)
split_lacks false b pieces apart h = onto_lacks b pieces h

slash_apart : (b : ℕ) → (b == 47) ≡ true → (b == 0) ≡ false
slash_apart b is = grind (arith, nat_tests, is)

text_free : (text : List ℕ) → lacks (components text) ≡ true → has_nul text ≡ false
text_free [] h = refl
text_free (b ∷ text) h =
    let parts = split_lacks (b == 47) b (components text) (slash_apart b) h in
    neither (b == 0) (has_nul text) parts.0 (text_free text parts.1)

path_free : (text : List ℕ) → line.is_file_path text ≡ true → has_nul text ≡ false
path_free text is =
    let path : is_path text ≡ true = and_second (is_utf8 text) (is_path text) is in
    let far : (nat_le (length text) 65535 && list_all is_component (components text) && not (is_reserved (components text))) ≡ true = and_first _ (nat_le (length (components text)) 2048) path in
    let near : (nat_le (length text) 65535 && list_all is_component (components text)) ≡ true = and_first _ (not (is_reserved (components text))) far in
    text_free text (all_lack (components text) (and_second (nat_le (length text) 65535) (list_all is_component (components text)) near))

-- the first NUL stands behind the path
nul_at : (path rest : List ℕ) → has_nul path ≡ false → position_or_len line.is_nul (path ++ (0 ∷ rest)) ≡ length path
nul_at [] rest none = refl
nul_at (b ∷ path) rest none =
    let here : (b == 0) ≡ false = or_first (b == 0) (has_nul path) none in
    let behind = nul_at path rest (or_second (b == 0) (has_nul path) none) in
    grind (arith, here, behind)

path_first : (path rest : List ℕ) → has_nul path ≡ false → before_first line.is_nul (path ++ (0 ∷ rest)) ≡ path
path_first path rest none = ap (λ (n : ℕ). take n (path ++ (0 ∷ rest))) (nul_at path rest none) ∙ take_at path (0 ∷ rest) (length path) refl

rest_after : (path rest : List ℕ) → has_nul path ≡ false → after_first line.is_nul (path ++ (0 ∷ rest)) ≡ rest
rest_after path rest none =
    let long = length-append path (0 ∷ []) in
    ap (λ (n : ℕ). drop (n + 1) (path ++ (0 ∷ rest))) (nul_at path rest none)
    ∙ ap (λ (xs : List ℕ). drop (length path + 1) xs) (sym (append_assoc path (0 ∷ []) rest))
    ∙ drop_at (path ++ (0 ∷ [])) rest (length path + 1) (omega (arith, long))

-- the digits are read back as the identifier
digits_back : (id : List ℕ) (tail : List ℕ) → length id ≡ 20 → Rattle.hex.specs.Hex.IsBytes id → line.id_of (take 40 (encode_lower id ++ tail)) ≡ Some (record { 0 = id })
digits_back id tail long bytes =
    let digits = length-encode_with lower_digits id in
    ap line.id_of (take_at (encode_lower id) tail 40 (omega (arith, digits, long))) ∙ ap line.some_id (decode_sized-encode_lower id 20 long bytes)

tail_back : (id : List ℕ) (tail : List ℕ) → length id ≡ 20 → drop 40 (encode_lower id ++ tail) ≡ tail
tail_back id tail long = let digits = length-encode_with lower_digits id in drop_at (encode_lower id) tail 40 (omega (arith, digits, long))

-- so is the flag
flag_back : (exec link : Bool) (id : Id20) (rest : List ℕ) → (exec && link) ≡ false → line.ending (flag_of (record { id = id; exec = exec; link = link }) ++ (10 ∷ rest)) ≡ Some (record { exec = exec; link = link; rest = rest })
flag_back true true id rest one = absurd (false≢true (sym one))
flag_back true false id rest one = refl
flag_back false true id rest one = refl
flag_back false false id rest one = refl

line_back : (row : NewRow) (rest : List ℕ) → IsSayable row → line.line_of (row.path ++ (0 ∷ (encode_lower row.row.id.0 ++ (flag_of row.row ++ (10 ∷ rest))))) ≡ Some (record { path = row.path; file = row.row; rest = rest })
line_back row rest is =
    let behind : List ℕ = encode_lower row.row.id.0 ++ (flag_of row.row ++ (10 ∷ rest)) in
    ap (λ (p : List ℕ). line.line_behind p (after_first line.is_nul (row.path ++ (0 ∷ behind)))) (path_first row.path behind (path_free row.path is.path))
    ∙ ap (λ (t : List ℕ). line.line_behind row.path t) (rest_after row.path behind (path_free row.path is.path))
    ∙ ap (λ (t : Bool). cond t (line.line_from row.path (line.id_of (take 40 behind)) (line.ending (drop 40 behind))) None) is.path
    ∙ ap (λ (i : Option Id20). line.line_from row.path i (line.ending (drop 40 behind))) (digits_back row.row.id.0 (flag_of row.row ++ (10 ∷ rest)) is.long is.bytes)
    ∙ ap (λ (t : List ℕ). line.line_from row.path (Some row.row.id) (line.ending t)) (tail_back row.row.id.0 (flag_of row.row ++ (10 ∷ rest)) is.long)
    ∙ ap (λ (e : Option line.Ending). line.line_from row.path (Some row.row.id) e) (flag_back row.row.exec row.row.link row.row.id rest is.flag)

-- the text of some rows, by its first line
text_first : (row : NewRow) (rows : List NewRow) → text_of (row ∷ rows) ≡ row.path ++ (0 ∷ (encode_lower row.row.id.0 ++ (flag_of row.row ++ (10 ∷ text_of rows))))
unfolding text_of
text_first row rows =
    append_assoc row.path (0 ∷ (encode_lower row.row.id.0 ++ (flag_of row.row ++ (10 ∷ [])))) (text_of rows)
    ∙ ap (λ (xs : List ℕ). row.path ++ (0 ∷ xs)) (append_assoc (encode_lower row.row.id.0) (flag_of row.row ++ (10 ∷ [])) (text_of rows))
    ∙ ap (λ (xs : List ℕ). row.path ++ (0 ∷ (encode_lower row.row.id.0 ++ xs))) (append_assoc (flag_of row.row) (10 ∷ []) (text_of rows))

-- a text that isn't empty is read by its first line
read_first : (most number : ℕ) (before text : List ℕ) → 0 < length text → rows_from (suc most) number before text ≡ rows_at number before (line.line_of text) (rows_from most (number + 1))
unfolding rows_from
read_first most number before [] some = absurd (omega (arith, some))
read_first most number before (b ∷ text) some = refl

read_none : (most number : ℕ) (before : List ℕ) → rows_from most number before [] ≡ Ok []
unfolding rows_from
read_none zero number before = refl
read_none (suc most) number before = refl

text_none : text_of [] ≡ []
unfolding text_of
text_none = refl

first_row : (number : ℕ) (before : List ℕ) (row : NewRow) (rest : List ℕ) (more : List ℕ → List ℕ → _) → is_before before row.path ≡ true → rows_at number before (Some (record { path = row.path; file = row.row; rest = rest })) more ≡ with_row (row.path, row.row) (more row.path rest)
first_row number before row rest more is = ap (λ (t : Bool). cond t (with_row (row.path, row.row) (more row.path rest)) (Rattle.std.proofs.Common.Err (Rattle.hg_manifest.specs.declared.fault.ManifestFault.TheVariants.ManifestOrder number))) is

rows_back : (most number : ℕ) (before : List ℕ) (rows : List NewRow) → length (text_of rows) ≤ most → ascend before rows ≡ true → All IsSayable rows → rows_from most number before (text_of rows) ≡ Ok (map said rows)
rows_back most number before [] few up each = ap (rows_from most number before) text_none ∙ read_none most number before
rows_back zero number before (row ∷ rows) few up each =
    let long = ap length (text_first row rows) in
    let parts = length-append row.path (0 ∷ (encode_lower row.row.id.0 ++ (flag_of row.row ++ (10 ∷ text_of rows)))) in
    absurd (omega (arith, few, long, parts))
rows_back (suc most) number before (row ∷ rows) few up each =
    let behind : List ℕ = encode_lower row.row.id.0 ++ (flag_of row.row ++ (10 ∷ text_of rows)) in
    let long = ap length (text_first row rows) in
    let parts = length-append row.path (0 ∷ behind) in
    let more = length-append (encode_lower row.row.id.0) (flag_of row.row ++ (10 ∷ text_of rows)) in
    let end = length-append (flag_of row.row) (10 ∷ text_of rows) in
    let less : length (text_of rows) ≤ most = omega (arith, few, long, parts, more, end) in
    ap (rows_from (suc most) number before) (text_first row rows)
    ∙ read_first most number before (row.path ++ (0 ∷ behind)) (omega (arith, parts))
    ∙ ap (λ (l : Option line.Line). rows_at number before l (rows_from most (number + 1))) (line_back row (text_of rows) (All-head IsSayable row rows each))
    ∙ first_row number before row (text_of rows) (rows_from most (number + 1)) (and_first (is_before before row.path) (ascend row.path rows) up)
    ∙ ap (with_row (row.path, row.row)) (rows_back most (number + 1) row.path rows less (and_second (is_before before row.path) (ascend row.path rows) up) (All-tail IsSayable row rows each))

pub read_back : AreReadBack
read_back rows up each = rows_back (length (text_of rows)) 1 [] rows (omega arith) up each
