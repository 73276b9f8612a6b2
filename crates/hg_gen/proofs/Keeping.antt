-- One file more below `.hg`.
use Rattle.std.proofs.Common.{◌≡◌, ℕ, zero, suc, ◌+◌, ◌*◌, ◌-◌, ◌^◌, ◌<◌, ◌≤◌, ◌⊎◌, Bool, true, false, cond, List, [], ◌∷◌, ◌++◌, length, take, get_or, inl, inr, Some, Ok, Err, refl, sym, ap, subst, ◌∙◌, arith, le-ltb}
use Rattle.std.specs.Prelude.{codes, replicate}
use Rattle.std.specs.Fmt.{decimal}
use Rattle.std.specs.Str.{bytes_eq}
use Rattle.std.proofs.lemmas.Bool.{both_ways, cases_lt, cond-true, cond-false}
use Rattle.std.proofs.lemmas.Fmt.{decimal_injective, first_decimal}
use Rattle.std.proofs.lemmas.List.{append-nil, append_cancel_left}
use Rattle.hg_alone.specs.Alone.{files_of}
use Rattle.hg_append.specs.declared.encoding.Encoded.{Encoded}
use Rattle.hg_base.proofs.Within.{same_bytes}
use Rattle.hg_gen.specs.Copy.{contents_of, text_of}
use Rattle.hg_gen.specs.Manifest.{IsManifest, is_in_parent}
use Rattle.hg_gen.specs.Recorded.{AreContents, AreOnlyContents, ArePut, IsRecorded, IsStored, parent}
use Rattle.hex.proofs.OnLiterals.{hex_on_literals}
use Rattle.hg_manifest.specs.Load.{manifest_in}
use Rattle.hg_manifest.specs.Plain.{most, plain_name}
use Rattle.hg_manifest.specs.Rows.{manifest_of}
use Rattle.hg_manifest.specs.declared.fault.ManifestFault.TheVariants as a_fault
use Rattle.hg_image.specs.Reading.{reading_of}
use Rattle.hg_save.proofs.Readings.{reads_published}
use Rattle.hg_save.specs.Record.{data_name}
use Rattle.hg_gen.proofs.Naming.{other_bytes}
use Rattle.hg_shelf.specs.History.{Files}
use Rattle.hg_shelf.specs.Memory.{fresh, with_file}
use Rattle.hg_tree.proofs.Planting.{equal_bytes}

-- ---- the names of contents differ

rests : (a b : ℕ) (x y : List ℕ) → replicate a 48 ++ x ≡ replicate b 48 ++ y → 48 < get_or x 0 0 → 48 < get_or y 0 0 → x ≡ y
rests zero zero x y same x_first y_first = same
rests zero (suc b) x y same x_first y_first = absurd (let low : 48 < 48 = subst (λ (l : List ℕ). 48 < get_or l 0 0) same x_first in omega (arith, low))
rests (suc a) zero x y same x_first y_first = absurd (let low : 48 < 48 = subst (λ (l : List ℕ). 48 < get_or l 0 0) (sym same) y_first in omega (arith, low))
rests (suc a) (suc b) x y same x_first y_first = rests a b x y (append_cancel_left (48 ∷ []) (replicate a 48 ++ x) (replicate b 48 ++ y) same) x_first y_first

contents_differ : (i j : ℕ) → i < 2 ^ 32 → j < 2 ^ 32 → contents_of i ≡ contents_of j → i ≡ j
contents_differ i j few_i few_j same =
    let digits : decimal (i + 1) ≡ decimal (j + 1) =
    rests (40 - length (decimal (i + 1))) (40 - length (decimal (j + 1))) (decimal (i + 1)) (decimal (j + 1)) same (first_decimal (i + 1) (omega arith) (omega arith))
    (first_decimal (j + 1) (omega arith) (omega arith)) in
    let next : i + 1 ≡ j + 1 = decimal_injective (i + 1) (j + 1) (omega arith) (omega arith) digits in
    omega (arith, next)

abbrev pub contents_name : ℕ → List ℕ
contents_name file = codes "plain/f-" ++ contents_of file

names_differ : (i j : ℕ) → i < 2 ^ 32 → j < 2 ^ 32 → contents_name i ≡ contents_name j → i ≡ j
names_differ i j few_i few_j same = contents_differ i j few_i few_j (append_cancel_left (codes "plain/f-") (contents_of i) (contents_of j) same)

pub no_contents : (files : Files) → AreContents 0 files
no_contents files i below = absurd (omega (arith, below))

-- nothing stands in a fresh shelf
pub none_fresh : AreOnlyContents 0 (files_of fresh)
none_fresh name bytes has = absurd (cc has)

-- what stands behind a file that was put: that file, or what stood before
file_or : (name bytes : List ℕ) (files : Files) (at found : List ℕ) → with_file name bytes files at ≡ Some found → (at ≡ name) ⊎ (files at ≡ Some found)
file_or name bytes files at found has = by (bytes_eq name at) refl has
  where
    by : (t : Bool) → bytes_eq name at ≡ t → cond t (Some bytes) (files at) ≡ Some found → (at ≡ name) ⊎ (files at ≡ Some found)
    by true is there = inl (sym (same_bytes name at is))
    by false is there = inr there

only_longer : (i j : ℕ) (files : Files) → i ≤ j → AreOnlyContents i files → AreOnlyContents j files
only_longer i j files order only name bytes has = let is = only name bytes has in (is.0, omega (arith, order, is.1), is.2, is.3)

-- the next file isn't put, or is
pub only_upto : (i : ℕ) (files : Files) → AreOnlyContents i files → AreOnlyContents (i + 1) files
only_upto i files only = only_longer i (i + 1) files (omega arith) only

pub only_with : (i : ℕ) (files : Files) (name bytes : List ℕ) → name ≡ contents_name i → is_in_parent i ≡ true → AreOnlyContents i files → AreOnlyContents (i + 1) (with_file name bytes files)
only_with i files name bytes named there only at found has = elim (file_or name bytes files at found has) [
  | inl same ↦ (i, omega arith, there, same ∙ named)
  | inr before ↦ only_upto i files only at found before
]

module _ (i : ℕ) (was : Files) (upto : AreContents i was) (small : i < 2 ^ 32) where
  -- the parent doesn't have the next file
  pub without_more : is_in_parent i ≡ false → AreContents (i + 1) was
  without_more gone j below there = elim (cases_lt j i) [
    | inl less ↦ upto j less there
    | inr last ↦ let same : j ≡ i = omega arith in absurd (both_ways (is_in_parent j) (ap is_in_parent same ∙ gone) there)
  ]

  -- or has it
  pub with_more : (name bytes : List ℕ) → name ≡ contents_name i → bytes ≡ text_of i → AreContents (i + 1) (with_file name bytes was)
  with_more name bytes named is j below there = elim (cases_lt j i) [
    | inl less ↦
        cond-false (bytes_eq name (contents_name j)) (Some bytes) (was (contents_name j))
        (other_bytes name (contents_name j) (λ same. let e : i ≡ j = names_differ i j (omega arith) (omega arith) (sym named ∙ same) in absurd (omega (arith, e, less))))
        ∙ upto j less there
    | inr last ↦
        let same : j ≡ i = omega arith in
        let own : name ≡ contents_name j = named ∙ ap contents_name (sym same) in
        cond-true (bytes_eq name (contents_name j)) (Some bytes) (was (contents_name j)) (ap (bytes_eq name) (sym own) ∙ equal_bytes name)
        ∙ ap Some (is ∙ ap text_of (sym same))
  ]

-- ---- the record beside them

pub put_three : (e : Encoded) (manifest : List ℕ) (first second third last : Files) → second ≡ with_file (codes "plain/m-1111111111111111111111111111111111111111") manifest first
    → third ≡ with_file (codes "dirstate.0000000000000000") e.bytes.items second → last ≡ with_file (codes "dirstate") e.docket.items third → ArePut e manifest first last
put_three e manifest first second third last one two three at =
    ap (λ (f : Files). f at) three
    ∙ ap (λ (f : Files). with_file (codes "dirstate") e.docket.items f at) (two ∙ ap (with_file (codes "dirstate.0000000000000000") e.bytes.items) one)

-- the manifest's name
parent_name : plain_name parent ≡ codes "plain/m-1111111111111111111111111111111111111111"
unfolding hex_on_literals
parent_name = refl

manifest_found : (dirs : ℕ) (manifest : List ℕ) (files : Files) (is : IsManifest dirs manifest) → files (codes "plain/m-1111111111111111111111111111111111111111") ≡ Some manifest
    → manifest_in (record { 0 = parent }) (files (plain_name parent)) ≡ Ok is.rows
manifest_found dirs manifest files is there =
    ap (λ (name : List ℕ). manifest_in (record { 0 = parent }) (files name)) parent_name
    ∙ ap (manifest_in (record { 0 = parent })) there
    ∙ ap (λ (t : Bool). cond t (Err (a_fault.ManifestTooLarge (length manifest))) (manifest_of manifest)) (le-ltb most (length manifest) is.few)
    ∙ is.reads

-- before a place no nodes lie, where none were loaded
none_before : (place : ℕ) (bytes : List ℕ) → take place [] ++ bytes ≡ bytes
none_before zero bytes = refl
none_before (suc n) bytes = refl

pub stored_so : (dirs : ℕ) (e : Encoded) (manifest : List ℕ) (old new : Files) → IsRecorded dirs e → IsManifest dirs manifest → AreContents (16 * dirs) old → AreOnlyContents (16 * dirs) old → ArePut e manifest old new → IsStored dirs new
stored_so dirs e manifest old new recorded is contents only put = record {
  docket = e.docket.items;
  nodes = e.bytes.items;
  table = recorded.table;
  docket_is = put (codes "dirstate");
  nodes_is = put (codes "dirstate.0000000000000000");
  reads = recorded.reads;
  is = recorded.is;
  recorded =
      reads_published [] [] e recorded.over new
      (record {
        docket = ([], put (codes "dirstate") ∙ ap Some (sym (append-nil e.docket.items)));
        file = (
          [],
          ap (λ (id : List ℕ). new (data_name id)) recorded.id ∙ put (codes "dirstate.0000000000000000")
              ∙ ap Some (sym (ap (λ (bytes : List ℕ). bytes ++ []) (none_before e.place e.bytes.items) ∙ append-nil e.bytes.items)),
        );
      })
      ∙ ap (λ (bytes : List ℕ). Some (reading_of e.docket.items bytes)) (none_before e.place e.bytes.items)
      ∙ ap Some recorded.reads;
  rows = is.rows;
  manifest = manifest_found dirs manifest new is (put (codes "plain/m-1111111111111111111111111111111111111111"));
  named = is.named;
  plain = is.plain;
  contents = λ i below there. put (contents_name i) ∙ contents i below there;
  only = λ name bytes has.
      let third : Files = with_file (codes "plain/m-1111111111111111111111111111111111111111") manifest old in
      let second : Files = with_file (codes "dirstate.0000000000000000") e.bytes.items third in
      elim (file_or (codes "dirstate") e.docket.items second name bytes (sym (put name) ∙ has)) [
        | inl docket ↦ inl docket
        | inr rest ↦ elim (file_or (codes "dirstate.0000000000000000") e.bytes.items third name bytes rest) [
          | inl nodes ↦ inr (inl nodes)
          | inr plain ↦ elim (file_or (codes "plain/m-1111111111111111111111111111111111111111") manifest old name bytes plain) [
            | inl rows ↦ inr (inr (inl rows))
            | inr stored ↦ inr (inr (inr (only name bytes stored)))
          ]
        ]
      ];
}
