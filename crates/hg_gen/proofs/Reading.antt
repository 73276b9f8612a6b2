-- The manifest of lines that ascend by their paths is their rows.
use Rattle.std.proofs.Common.{ℕ, zero, suc, ◌≡◌, ◌+◌, ◌<◌, ◌≤◌, Bool, true, false, cond, not, ◌||◌, List, [], ◌∷◌, ◌++◌, length, take, drop, eqb, Option, Some, None, Ok, Err, refl, ap, ◌∙◌, arith}
use Rattle.std.specs.Prelude.{map}
use Rattle.std.specs.List.{after_first, before_first, position_or_len}
use Rattle.std.proofs.lemmas.List.{drop_at, length-append, take_at}
use Rattle.std.proofs.Math.Seq.{drop-append-add}
use Rattle.hg_base.specs.PathText.{has_nul}
use Rattle.hg_base.specs.declared.id.Id20.{Id20}
use Rattle.hg_gen.specs.Manifest.{Named, lines_of}
use Rattle.hg_manifest.specs.Line.{Line, ending, id_of, is_file_path, is_nul, line_behind, line_from, line_of}
use Rattle.hg_manifest.specs.Rows.{is_before, manifest_of, rows_at, rows_from, with_row}
use Rattle.hg_manifest.specs.declared.fault.ManifestFault.TheVariants as a_fault
use Rattle.hg_manifest.specs.declared.row.FileRow.{FileRow}

-- a line can be read
pub record IsSound (one : Named) (id : List ℕ) : Type 0 where
  pub solid : has_nul one.0 ≡ false
  pub path : is_file_path one.0 ≡ true
  pub long : length one.1 ≡ 40
  pub spells : id_of one.1 ≡ Some (record { 0 = id })

abbrev pub row_of : (List ℕ → List ℕ) → Named → List ℕ × FileRow
row_of id_by one = (one.0, record { id = record { 0 = id_by one.1 }; exec = false; link = false })

abbrev pub AreSound : (List ℕ → List ℕ) → List ℕ → List Named → Type 0
AreSound id_by before [] = Unit {0}
AreSound id_by before (one ∷ more) = IsSound one (id_by one.1) × (is_before before one.0 ≡ true) × AreSound id_by one.0 more

nul_at : (path rest : List ℕ) → has_nul path ≡ false → position_or_len is_nul (path ++ 0 ∷ rest) ≡ length path
nul_at [] rest solid = refl
nul_at (b ∷ path) rest solid = by (nul_at path rest) (eqb b 0) solid
  where
    by : (has_nul path ≡ false → position_or_len is_nul (path ++ 0 ∷ rest) ≡ length path) → (t : Bool) → (t || has_nul path) ≡ false
        → cond (not t) (1 + position_or_len is_nul (path ++ 0 ∷ rest)) 0 ≡ suc (length path)
    by more true h = absurd (cc h)
    by more false h = let e = more h in omega (arith, e)

line_is : (one : Named) (id rest : List ℕ) → IsSound one id
    → line_of (one.0 ++ 0 ∷ (one.1 ++ 10 ∷ rest)) ≡ Some (record { path = one.0; file = record { id = record { 0 = id }; exec = false; link = false }; rest = rest })
line_is one id rest sound =
    let behind : List ℕ = one.1 ++ 10 ∷ rest in
    let at : position_or_len is_nul (one.0 ++ 0 ∷ behind) ≡ length one.0 = nul_at one.0 behind sound.solid in
    let front : before_first is_nul (one.0 ++ 0 ∷ behind) ≡ one.0 = ap (λ (n : ℕ). take n (one.0 ++ 0 ∷ behind)) at ∙ take_at one.0 (0 ∷ behind) (length one.0) refl in
    let back : after_first is_nul (one.0 ++ 0 ∷ behind) ≡ behind = ap (λ (n : ℕ). drop (n + 1) (one.0 ++ 0 ∷ behind)) at ∙ drop-append-add one.0 (0 ∷ behind) 1 in
    ap (λ (p : List ℕ). line_behind p (after_first is_nul (one.0 ++ 0 ∷ behind))) front
    ∙ ap (line_behind one.0) back
    ∙ ap (λ (t : Bool). cond t (line_from one.0 (id_of (take 40 behind)) (ending (drop 40 behind))) None) sound.path
    ∙ ap (λ (text : List ℕ). line_from one.0 (id_of text) (ending (drop 40 behind))) (take_at one.1 (10 ∷ rest) 40 sound.long)
    ∙ ap (λ (o : Option Id20). line_from one.0 o (ending (drop 40 behind))) sound.spells
    ∙ ap (λ (text : List ℕ). line_from one.0 (Some (record { 0 = id })) (ending text)) (drop_at one.1 (10 ∷ rest) 40 sound.long)

step : (most number : ℕ) (before text : List ℕ) (line : Line) → 0 < length text → line_of text ≡ Some line
    → rows_from (suc most) number before text ≡ rows_at number before (Some line) (rows_from most (number + 1))
unfolding rows_from
step most number before [] line some is = absurd (omega (arith, some))
step most number before (b ∷ text) line some is = ap (λ (l : Option Line). rows_at number before l (rows_from most (number + 1))) is

line_long : (one : Named) (rest : List ℕ) → length rest < length (one.0 ++ 0 ∷ (one.1 ++ 10 ∷ rest))
line_long one rest =
    let all : length (one.0 ++ 0 ∷ (one.1 ++ 10 ∷ rest)) ≡ length one.0 + length (0 ∷ (one.1 ++ 10 ∷ rest)) = length-append one.0 (0 ∷ (one.1 ++ 10 ∷ rest)) in
    let behind : length (one.1 ++ 10 ∷ rest) ≡ length one.1 + length (10 ∷ rest) = length-append one.1 (10 ∷ rest) in
    omega (arith, all, behind)

module _ (id_by : List ℕ → List ℕ) where
  read_from : (most number : ℕ) (before : List ℕ) (all : List Named) → length all ≤ most → AreSound id_by before all → rows_from most number before (lines_of all) ≡ Ok (map (row_of id_by) all)
  unfolding rows_from
  read_from most number before [] few sound = refl
  read_from zero number before (one ∷ more) few sound = absurd (omega (arith, few))
  read_from (suc most) number before (one ∷ more) few sound =
      let long : length (lines_of more) < length (lines_of (one ∷ more)) = line_long one (lines_of more) in
      step most number before (lines_of (one ∷ more)) _ (omega (arith, long)) (line_is one (id_by one.1) (lines_of more) sound.0)
      ∙ ap (λ (t : Bool). cond t (with_row (row_of id_by one) (rows_from most (number + 1) one.0 (lines_of more))) (Err (a_fault.ManifestOrder number))) sound.1
      ∙ ap (with_row (row_of id_by one)) (read_from most (number + 1) one.0 more (omega (arith, few)) sound.2)

  short : (all : List Named) → length all ≤ length (lines_of all)
  short [] = omega arith
  short (one ∷ more) =
      let rest : length more ≤ length (lines_of more) = short more in
      let long : length (lines_of more) < length (lines_of (one ∷ more)) = line_long one (lines_of more) in
      omega (arith, rest, long)

  pub manifest_read : (all : List Named) → AreSound id_by [] all → manifest_of (lines_of all) ≡ Ok (map (row_of id_by) all)
  manifest_read all sound = read_from (length (lines_of all)) 1 [] all (short all) sound
