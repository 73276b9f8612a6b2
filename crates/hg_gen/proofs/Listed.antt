-- The manifest of the parent, from the names of contents that are gathered by path.
use Rattle.std.proofs.Common.{ℕ, suc, ◌≡◌, ◌+◌, ◌*◌, ◌/◌, ◌%◌, ◌^◌, ◌<◌, ◌≤◌, Bool, true, false, cond, ◌||◌, List, [], ◌∷◌, ◌++◌, length, eqb, Option, Some, None, Less, inl, inr, refl, sym, ap, ◌∙◌, subst, arith, true≢false}
use Rattle.std.specs.Prelude.{String, IfSome, is_some, map, option_map}
use Rattle.std.specs.BTreeMap.{BTreeMap, Updates, get, get_by_text, keys}
use Rattle.std.specs.Cmp.Lexicographic.{slice_cmp}
use Rattle.std.specs.Fmt.{decimal}
use Rattle.std.specs.List.{All, AllByRecursion}
use Rattle.std.specs.List.Sorted.{IsStrictlySortedBy}
use Rattle.std.specs.Map.{keys_of, lookup}
use Rattle.std.specs.Ordering.{is_eq, is_lt, nat_cmp}
use Rattle.std.specs.Str.{IsAscii, bytes_eq}
use Rattle.std.specs.String.{string_bytes, string_cmp}
use Rattle.std.proofs.lemmas.Bool.{and_from, cases_Bool, cases_lt, cond-true, cond-false}
use Rattle.std.proofs.lemmas.Fmt.{IsAscii-decimal, length-decimal-le}
use Rattle.std.proofs.lemmas.List.{append-nil, append_assoc, length-append, length-map}
use Rattle.std.proofs.lemmas.List.Folds.{list_any-append}
use Rattle.std.proofs.lemmas.Map.Keys.{sorted_head, sorted_tail}
use Rattle.std.proofs.lemmas.Map.Text.{btree_map_updates_text, is_eq-slice_cmp}
use Rattle.std.proofs.lemmas.Str.{IsAscii-append, IsUtf8-from_ascii, is_utf8-from_IsUtf8}
use Rattle.std.proofs.lemmas.Str.Ascii.{IsAscii-cons}
use Rattle.hex.specs.Hex.{encode_lower}
use Rattle.hg_base.specs.PathText.{has_nul}
use Rattle.hg_gen.specs.Copy.{contents_of, dir_of, name_of, path_of}
use Rattle.hg_gen.specs.Manifest.{AreNamed, IsManifest, IsPlain, Named, in_parent, is_in_parent, lines_of, named_in, names_in, pair}
use Rattle.hg_gen.proofs.Naming.{file_path, files_differ, other_bytes, solid_decimal}
use Rattle.hg_gen.proofs.Packing.{forty_long, id_spelled, name_of_id, pack}
use Rattle.hg_gen.proofs.Reading.{AreSound, IsSound, manifest_read, row_of}
use Rattle.hg_manifest.specs.Rows.{is_before, manifest_of}
use Rattle.hg_manifest.specs.declared.row.FileRow.{FileRow}
use Rattle.hg_tree.proofs.Planting.{equal_bytes, same_bytes}

-- ---- one file more

pub none_named : AreNamed 0 (λ at. None)
none_named = record { file = λ i below. absurd (omega (arith, below)); only = λ at there. absurd (true≢false (sym there)) }

pub named_as : (i : ℕ) (a b : List ℕ → Option (List ℕ)) → ((at : List ℕ) → a at ≡ b at) → AreNamed i b → AreNamed i a
named_as i a b same upto = record { file = λ j below. same (path_of j) ∙ upto.file j below; only = λ at there. upto.only at (ap is_some (sym (same at)) ∙ there) }

module _ (i : ℕ) (was : List ℕ → Option (List ℕ)) (upto : AreNamed i was) (small : i < 2 ^ 32) where
  free : is_some (was (path_of i)) ≡ true → ⊥
  free there =
      let at = upto.only (path_of i) there in
      let less : at.0 < i = at.1 in
      let same : i ≡ at.0 = files_differ i at.0 (omega arith) (omega arith) at.2 in
      absurd (omega (arith, same, less))

  none_free : (o : Option (List ℕ)) → (is_some o ≡ true → ⊥) → o ≡ None
  none_free None gone = refl
  none_free (Some name) gone = absurd (gone refl)

  -- the parent doesn't have it
  pub not_named : is_in_parent i ≡ false → AreNamed (i + 1) was
  not_named gone = record { file = more; only = λ at there. let h = upto.only at there in let less : h.0 < i = h.1 in (h.0, omega arith, h.2) }
    where
      more : (j : ℕ) → j < i + 1 → was (path_of j) ≡ in_parent j
      more j below = elim (cases_lt j i) [
        | inl less ↦ upto.file j less
        | inr last ↦
            let same : j ≡ i = omega arith in
            subst (λ (k : ℕ). was (path_of k) ≡ in_parent k) (sym same) (none_free (was (path_of i)) free ∙ sym (cond-false (is_in_parent i) (Some (contents_of i)) None gone))
      ]

  -- or has it
  pub once_named : (new : List ℕ → Option (List ℕ)) → is_in_parent i ≡ true → ((at : List ℕ) → new at ≡ cond (bytes_eq (path_of i) at) (Some (contents_of i)) (was at)) → AreNamed (i + 1) new
  once_named new there is = record { file = more; only = only }
    where
      more : (j : ℕ) → j < i + 1 → new (path_of j) ≡ in_parent j
      more j below = elim (cases_lt j i) [
        | inl less ↦
            is (path_of j)
            ∙ cond-false (bytes_eq (path_of i) (path_of j)) (Some (contents_of i)) (was (path_of j))
            (other_bytes (path_of i) (path_of j) (λ e. let one : i ≡ j = files_differ i j (omega arith) (omega arith) e in absurd (omega (arith, one, less))))
            ∙ upto.file j less
        | inr last ↦
            let same : j ≡ i = omega arith in
            subst (λ (k : ℕ). new (path_of k) ≡ in_parent k) (sym same)
            (is (path_of i) ∙ cond-true (bytes_eq (path_of i) (path_of i)) (Some (contents_of i)) (was (path_of i)) (equal_bytes (path_of i))
            ∙ sym (cond-true (is_in_parent i) (Some (contents_of i)) None there))
      ]

      only : (at : List ℕ) → is_some (new at) ≡ true → (j : ℕ) × (j < i + 1) × (at ≡ path_of j)
      only at some = elim (cases_Bool (bytes_eq (path_of i) at)) [
        | inl one ↦ (i, omega arith, sym (same_bytes (path_of i) at one))
        | inr apart ↦
            let h = upto.only at (ap is_some (sym (is at ∙ cond-false (bytes_eq (path_of i) at) (Some (contents_of i)) (was at) apart)) ∙ some) in
            let less : h.0 < i = h.1 in
            (h.0, omega arith, h.2)
      ]

-- what a map has where a name is put
pub put_name : {Y Z : Type 0} (m n : BTreeMap (String Y) (String Z)) (k : String Y) (v : String Z) (path name : List ℕ) → string_bytes k ≡ path → string_bytes v ≡ name
    → Updates string_cmp m n k (Some v) → (at : List ℕ) → names_in n at ≡ cond (bytes_eq path at) (Some name) (names_in m at)
put_name m n k v path name is_path_of is_name_of updates at =
    ap (option_map string_bytes) (btree_map_updates_text (string_bytes k) m n (Some v) updates at)
    ∙ by (bytes_eq (string_bytes k) at)
    ∙ ap (λ (p : List ℕ). cond (bytes_eq p at) (Some (string_bytes v)) (names_in m at)) is_path_of
    ∙ ap (λ (c : List ℕ). cond (bytes_eq path at) (Some c) (names_in m at)) is_name_of
  where
    by : (t : Bool) → option_map string_bytes (cond t (Some v) (get_by_text m at)) ≡ cond t (Some (string_bytes v)) (names_in m at)
    by true = refl
    by false = refl

-- ---- the lines of a map

-- a line more
line_more : (text path name rest : List ℕ) → (text ++ (path ++ 0 ∷ (name ++ 10 ∷ []))) ++ rest ≡ text ++ (path ++ 0 ∷ (name ++ 10 ∷ rest))
line_more text path name rest =
    append_assoc text (path ++ 0 ∷ (name ++ 10 ∷ [])) rest
    ∙ ap (λ (l : List ℕ). text ++ l) (append_assoc path (0 ∷ (name ++ 10 ∷ [])) rest ∙ ap (λ (l : List ℕ). path ++ 0 ∷ l) (append_assoc name (10 ∷ []) rest))

-- the lines so far and those of the entries that are left stay the same, where the line of the next entry is put behind
pub next_line : {Y Z : Type 0} (text new all path name : List ℕ) (k : String Y) (v : String Z) (left rest : List (String Y × String Z)) → left ≡ (k, v) ∷ rest → path ≡ string_bytes k → name ≡ string_bytes v
    → new ≡ text ++ (path ++ 0 ∷ (name ++ 10 ∷ [])) → text ++ lines_of (map pair left) ≡ all → new ++ lines_of (map pair rest) ≡ all
next_line {Y = Y} {Z = Z} text new all path name k v left rest next is_path_of is_name_of put so =
    ap (λ (l : List ℕ). l ++ lines_of (map pair rest)) (put ∙ ap (λ (p : List ℕ). text ++ (p ++ 0 ∷ (name ++ 10 ∷ []))) is_path_of ∙ ap (λ (n : List ℕ). text ++ (string_bytes k ++ 0 ∷ (n ++ 10 ∷ []))) is_name_of)
    ∙ line_more text (string_bytes k) (string_bytes v) (lines_of (map pair rest))
    ∙ ap (λ (es : List (String Y × String Z)). text ++ lines_of (map pair es)) (sym next)
    ∙ so

pub no_line : {Y Z : Type 0} (text all : List ℕ) (left : List (String Y × String Z)) → left ≡ [] → text ++ lines_of (map pair left) ≡ all → text ≡ all
no_line {Y = Y} {Z = Z} text all left none so = sym (append-nil text) ∙ ap (λ (es : List (String Y × String Z)). text ++ lines_of (map pair es)) (sym none) ∙ so

-- ---- a file's line can be read

solid_path : (file : ℕ) → file < 32000 → has_nul (path_of file) ≡ false
solid_path file small =
    list_any-append (λ b. eqb b 0) (dir_of (file / 16)) (47 ∷ name_of (file % 16))
    ∙ ap (λ (t : Bool). t || has_nul (name_of (file % 16))) (solid_decimal (file / 16) (omega (arith, small)))
    ∙ solid_decimal (file % 16) (omega (arith, small))

ascii_path : (file : ℕ) → file < 32000 → IsAscii (path_of file)
ascii_path file small =
    IsAscii-append (dir_of (file / 16)) (47 ∷ name_of (file % 16)) (IsAscii-cons 100 (decimal (file / 16)) (omega arith) (IsAscii-decimal (file / 16) (omega (arith, small))))
    (IsAscii-cons 47 (name_of (file % 16)) (omega arith) (IsAscii-cons 102 (decimal (file % 16)) (omega arith) (IsAscii-decimal (file % 16) (omega (arith, small)))))

short_path : (file : ℕ) → file < 32000 → length (path_of file) ≤ 9
short_path file small =
    let dir : length (decimal (file / 16)) ≤ 4 = length-decimal-le 4 (file / 16) (omega arith) (omega (arith, small)) (omega (arith, small)) in
    let name : length (decimal (file % 16)) ≤ 2 = length-decimal-le 2 (file % 16) (omega arith) (omega (arith, small)) (omega (arith, small)) in
    let all : length (path_of file) ≡ length (dir_of (file / 16)) + length (47 ∷ name_of (file % 16)) = length-append (dir_of (file / 16)) (47 ∷ name_of (file % 16)) in
    omega (arith, dir, name, all)

sound_file : (file : ℕ) → file < 32000 → IsSound (path_of file, contents_of file) (pack (contents_of file))
sound_file file small = record {
  solid = solid_path file small;
  path = and_from _ _ (is_utf8-from_IsUtf8 (path_of file) (IsUtf8-from_ascii (path_of file) (ascii_path file small))) (file_path file small);
  long = forty_long file small;
  spells = id_spelled file small;
}

-- a line of a file that the parent has
pub record IsOf (files : ℕ) (one : Named) : Type 0 where
  pub file : ℕ
  pub below : file < files
  pub path : one.0 ≡ path_of file
  pub name : one.1 ≡ contents_of file

module _ (files : ℕ) (small : files ≤ 32000) where
  sound_of : (one : Named) → IsOf files one → IsSound one (pack one.1)
  sound_of one of =
      let less : of.file < files = of.below in
      subst (λ (o : Named). IsSound o (pack o.1)) (λ i. (sym of.path i, sym of.name i)) (sound_file of.file (omega (arith, less, small)))

  named_back : (one : Named) → IsOf files one → encode_lower (pack one.1) ≡ one.1
  named_back one of =
      let less : of.file < files = of.below in
      subst (λ (name : List ℕ). encode_lower (pack name) ≡ name) (sym of.name) (name_of_id of.file (omega (arith, less, small)))

  short_of : (one : Named) (rest : List ℕ) → IsOf files one → length (one.0 ++ 0 ∷ (one.1 ++ 10 ∷ rest)) ≤ 51 + length rest
  short_of one rest of =
      let less : of.file < files = of.below in
      let path : length one.0 ≤ 9 = subst (λ (p : List ℕ). length p ≤ 9) (sym of.path) (short_path of.file (omega (arith, less, small))) in
      let name : length one.1 ≡ 40 = ap length of.name ∙ forty_long of.file (omega (arith, less, small)) in
      let all : length (one.0 ++ 0 ∷ (one.1 ++ 10 ∷ rest)) ≡ length one.0 + length (0 ∷ (one.1 ++ 10 ∷ rest)) = length-append one.0 (0 ∷ (one.1 ++ 10 ∷ rest)) in
      let behind : length (one.1 ++ 10 ∷ rest) ≡ length one.1 + length (10 ∷ rest) = length-append one.1 (10 ∷ rest) in
      omega (arith, path, name, all, behind)

  abbrev AreOf : List Named → Type 0
  AreOf [] = Unit {0}
  AreOf (one ∷ more) = IsOf files one × AreOf more

  short_all : (all : List Named) → AreOf all → length (lines_of all) ≤ 51 * length all
  short_all [] of = omega arith
  short_all (one ∷ more) of =
      let rest : length (lines_of more) ≤ 51 * length more = short_all more of.1 in
      let first : length (lines_of (one ∷ more)) ≤ 51 + length (lines_of more) = short_of one (lines_of more) of.0 in
      omega (arith, rest, first)

  -- the rows have the names of the lines
  module _ {Y Z : Type 0} where
    rows_named : (es : List (String Y × String Z)) → AreOf (map pair es) → (at : List ℕ)
        → named_in (map (row_of pack) (map pair es)) at ≡ option_map string_bytes (lookup (λ k. is_eq (slice_cmp nat_cmp at (string_bytes k))) es)
    rows_named [] of at = refl
    rows_named (e ∷ es) of at = by (rows_named es of.1 at) (bytes_eq at (string_bytes e.0)) (is_eq (slice_cmp nat_cmp at (string_bytes e.0))) (is_eq-slice_cmp at (string_bytes e.0))
      where
        back : encode_lower (pack (string_bytes e.1)) ≡ string_bytes e.1
        back = named_back (pair e) of.0

        by : named_in (map (row_of pack) (map pair es)) at ≡ option_map string_bytes (lookup (λ k. is_eq (slice_cmp nat_cmp at (string_bytes k))) es) → (s t : Bool) → t ≡ s
            → option_map (λ (row : FileRow). encode_lower row.id.0) (cond s (Some (row_of pack (pair e)).1) (lookup (bytes_eq at) (map (row_of pack) (map pair es))))
            ≡ option_map string_bytes (cond t (Some e.1) (lookup (λ k. is_eq (slice_cmp nat_cmp at (string_bytes k))) es))
        by rest true true same = ap Some back
        by rest false false same = rest
        by rest true false same = absurd (cc same)
        by rest false true same = absurd (cc same)

  rows_plain : (all : List Named) (at : List ℕ) → IfSome (lookup (bytes_eq at) (map (row_of pack) all)) IsPlain
  rows_plain [] at = tt
  rows_plain (one ∷ more) at = by (rows_plain more at) (bytes_eq at one.0)
    where
      by : IfSome (lookup (bytes_eq at) (map (row_of pack) more)) IsPlain → (t : Bool) → IfSome (cond t (Some (row_of pack one).1) (lookup (bytes_eq at) (map (row_of pack) more))) IsPlain
      by rest true = (refl, refl)
      by rest false = rest

  module _ {Y Z : Type 0} where
    are_sound : (before : List ℕ) (es : List (String Y × String Z)) → AreOf (map pair es) → IsStrictlySortedBy string_cmp (keys_of es)
        → ((one : Named) → IsOf files one → (more : List Named) → map pair es ≡ one ∷ more → is_before before one.0 ≡ true) → AreSound pack before (map pair es)
    are_sound before [] of sorted first = tt
    are_sound before (e ∷ es) of sorted first = (
      sound_of (pair e) of.0,
      first (pair e) of.0 (map pair es) refl,
      are_sound (string_bytes e.0) es of.1 (sorted_tail string_cmp e.0 (keys_of es) sorted) (λ one is more same. next es (sorted_head string_cmp e.0 (keys_of es) sorted) one more same),
    )
      where
        next : (es : List (String Y × String Z)) → AllByRecursion (λ y. string_cmp e.0 y ≡ Less) (keys_of es) → (one : Named) (more : List Named) → map pair es ≡ one ∷ more → is_before (string_bytes e.0) one.0 ≡ true
        next [] after one more same = absurd (cc same)
        next (f ∷ fs) after one more same =
            let head : pair f ≡ one = cc same in
            ap (λ (o : Named). is_before (string_bytes e.0) o.0) (sym head) ∙ ap is_lt after.0

    from_all : (m : BTreeMap (String Y) (String Z)) → AreNamed files (names_in m) → (es : List (String Y × String Z)) → All (λ e. get string_cmp m e.0 ≡ Some e.1) es → AreOf (map pair es)
    from_all m named [] all = tt
    from_all m named (e ∷ es) all = (one, from_all m named es (λ k d less. all (suc k) d (omega (arith, less))))
      where
        there : names_in m (string_bytes e.0) ≡ Some (string_bytes e.1)
        there = ap (option_map string_bytes) (all 0 e (omega arith))

        some_of : (file : ℕ) (t : Bool) → cond t (Some (contents_of file)) None ≡ Some (string_bytes e.1) → string_bytes e.1 ≡ contents_of file
        some_of file true is = sym (cc is)
        some_of file false is = absurd (cc is)

        one : IsOf files (pair e)
        one =
            let at = named.only (string_bytes e.0) (ap is_some there) in
            record { file = at.0; below = at.1; path = at.2; name = some_of at.0 (is_in_parent at.0) (sym (named.file at.0 at.1) ∙ ap (names_in m) (sym at.2) ∙ there) }

    -- the lines of all are the manifest
    pub manifest_is : (dirs : ℕ) (m : BTreeMap (String Y) (String Z)) (text : List ℕ) → files ≡ 16 * dirs → AreNamed files (names_in m) → length m.entries ≤ files
        → IsStrictlySortedBy string_cmp (keys m) → All (λ e. get string_cmp m e.0 ≡ Some e.1) m.entries → text ≡ lines_of (map pair m.entries) → IsManifest dirs text
    manifest_is dirs m text all_files named few sorted all is =
        let of : AreOf (map pair m.entries) = from_all m named m.entries all in
        let short : length (lines_of (map pair m.entries)) ≤ 51 * length (map pair m.entries) = short_all (map pair m.entries) of in
        let number : length (map pair m.entries) ≡ length m.entries = length-map m.entries pair in
        let same : length text ≡ length (lines_of (map pair m.entries)) = ap length is in
        record {
          rows = map (row_of pack) (map pair m.entries);
          reads =
              ap manifest_of is
              ∙ manifest_read pack (map pair m.entries)
              (are_sound [] m.entries of sorted (λ one o more same. ap (λ (p : List ℕ). is_before [] p) o.path));
          few = omega (arith, short, number, same, few, small);
          named = named_as (16 * dirs) (named_in (map (row_of pack) (map pair m.entries))) (names_in m) (rows_named m.entries of) (subst (λ (n : ℕ). AreNamed n (names_in m)) all_files named);
          plain = rows_plain (map pair m.entries);
        }
