-- What is shown is the reading.
use Rattle.std.proofs.Common.{ℕ, suc, ◌++◌, append-nil, ◌≡◌, ◌+◌, ◌<◌, ◌≤◌, ◌^◌, true, false, cond, eqb, eqb-true, List, [], ◌∷◌, length, map, replicate, take, drop, Option, Some, None, Ok, refl, sym, ap, ◌∙◌, subst, arith, codes}
use Rattle.std.specs.Prelude.{count_by}
use Rattle.std.proofs.lemmas.Bool.{and_parts, cond-false, false_from_ne_true}
use Rattle.hg_docket.specs.Docket.{Contents, docket_of, empty_hash}
use Rattle.hg_docket.specs.Number.{hex_text, next_name}
use Rattle.hg_docket.specs.Written as written
use Rattle.hg_image.specs.Counts.{are_counted, is_copy, is_counted, is_entry}
use Rattle.hg_image.specs.Reading.{data_reading, docket_reading, of_data, reading_of, sound_reading, table_of}
use Rattle.hg_image.specs.Rows.{Row, rows_of}
use Rattle.hg_image.specs.Walk.{image_fault}
use Rattle.hg_image.specs.declared.fault.NodeFault.{NodeFault}
use Rattle.hg_docket.specs.declared.fault.DocketFault.{DocketFault}
use Rattle.hg_vone.specs.Items.{Item}
use Rattle.hg_vone.specs.Shown.{IsShown, IsToldOf, id_of, more_entries}
use Rattle.hg_vone.specs.Showing.{IsSound, reading_with, with_more}
use Rattle.hg_vone.specs.View.{item}
use Rattle.hg_vone.specs.declared.item.Item.{Item as OneItem}

-- ---- by whether there are items

not_none : (n : ℕ) → eqb (suc n) 0 ≡ false
not_none n = false_from_ne_true (eqb (suc n) 0) (λ t. let same = eqb-true (suc n) 0 t in omega (arith, same))

pub id_is : (raw : List OneItem) → cond (eqb (length raw) 0) [] (codes "v1") ≡ id_of (map item raw)
id_is [] = refl
id_is (one ∷ raw) = cond-false (eqb (length (one ∷ raw)) 0) [] (codes "v1") (not_none (length raw))

pub more_is : (raw : List OneItem) → cond (eqb (length raw) 0) 0 1 ≡ more_entries (map item raw)
more_is [] = refl
more_is (one ∷ raw) = cond-false (eqb (length (one ∷ raw)) 0) 0 1 (not_none (length raw))

pub empty_is : (raw : List OneItem) (nodes : List ℕ) → (length raw ≡ 0 → nodes ≡ []) → map item raw ≡ [] → nodes ≡ []
empty_is [] nodes h none = h refl
empty_is (one ∷ raw) nodes h none = absurd (cc)

next_is : (items : List Item) → next_name (id_of items) ≡ Some (replicate 16 48)
unfolding hex_text
next_is [] = refl
next_is (one ∷ items) = refl

-- ---- counts

module _ (d : Contents) (rows : List Row) (counted : is_counted d rows ≡ true) where
  first_two : (eqb d.entries (count_by is_entry rows) ≡ true) × (eqb d.copies (count_by is_copy rows) ≡ true)
  first_two = and_parts _ _ (and_parts _ (are_counted rows) (and_parts _ _ counted).0).0

  pub entries_are : d.entries ≡ count_by is_entry rows
  entries_are = eqb-true d.entries (count_by is_entry rows) first_two.0

  pub copies_are : d.copies ≡ count_by is_copy rows
  copies_are = eqb-true d.copies (count_by is_copy rows) first_two.1

  pub nodes_are : are_counted rows ≡ true
  nodes_are = (and_parts _ (are_counted rows) (and_parts _ _ counted).0).1

told_of : (d : Contents) (rows : List Row) (items : List Item) (more : ℕ) → is_counted d rows ≡ true → d.unreachable ≡ 0 → more ≡ more_entries items → IsToldOf items (with_more d more) rows
told_of d rows items more counted waste is = record {
  entries = ap (λ (n : ℕ). n + more) (entries_are d rows counted) ∙ ap (λ (n : ℕ). count_by is_entry rows + n) is;
  copies = copies_are d rows counted;
  unreachable = waste;
  nodes = nodes_are d rows counted;
  uncounted = λ one. false_from_ne_true (is_counted (with_more d more) rows) (λ right.
      let whole = entries_are (with_more d more) rows right in
      let plain = entries_are d rows counted in
      omega (arith, whole, plain, is, one));
}

-- ---- the reading

read_by : (told nodes : List ℕ) (d : Contents) (more : ℕ) → written.ReadsAs told (with_more d more) → image_fault d nodes ≡ None → reading_of told nodes ≡ Ok (table_of d (rows_of d nodes))
read_by told nodes d more reads none =
    ap (λ (o : Option DocketFault). docket_reading o (data_reading (docket_of told) nodes)) reads.whole
    ∙ ap (λ (c : Contents). of_data (data_reading c nodes)) reads.same
    ∙ ap (λ (o : Option NodeFault). of_data (sound_reading o (table_of d (rows_of d nodes)))) none

pub shown : (bytes nodes told : List ℕ) (raw : List OneItem) (d : Contents) (more n : ℕ) → n ≡ length raw → written.ReadsAs told (with_more d more) → length told ≤ 512 → IsSound d nodes (map item raw) → more ≡ cond (eqb n 0) 0 1
    → d.p1 ≡ take 20 bytes → d.p2 ≡ take 20 (drop 20 bytes) → d.hash ≡ empty_hash → d.unreachable ≡ 0 → d.id ≡ cond (eqb n 0) [] (codes "v1") → d.used ≡ length nodes → (length raw ≡ 0 → nodes ≡ []) → length nodes < 2 ^ 32
    → IsShown (reading_with bytes (map item raw)) told nodes
shown bytes nodes told raw d more n count reads few sound more_of p1 p2 hash waste id_of_n used empty small =
    let items : List Item = map item raw in
    let more_by : more ≡ cond {A = ℕ} (eqb (length raw) 0) 0 1 = more_of ∙ ap (λ (m : ℕ). cond {A = ℕ} (eqb m 0) 0 1) count in
    let id : d.id ≡ cond {A = List ℕ} (eqb (length raw) 0) [] (codes "v1") = id_of_n ∙ ap (λ (m : ℕ). cond {A = List ℕ} (eqb m 0) [] (codes "v1")) count in
    record {
      whole = reads.whole;
      few = few;
      reads = record {
        found = table_of d (rows_of d nodes);
        is = read_by told nodes d more reads sound.none;
        same = sound.tells.same (reading_with bytes items) refl p1 p2 hash;
      };
      told = subst (λ (c : Contents). IsToldOf items c (rows_of c nodes)) (sym reads.same) (told_of d (rows_of d nodes) items more sound.tells.counted waste (more_by ∙ more_is raw));
      id = ap (λ (c : Contents). c.id) reads.same ∙ id ∙ id_is raw;
      next = ap next_name (ap (λ (c : Contents). c.id) reads.same ∙ id ∙ id_is raw) ∙ next_is items;
      used = ap (λ (c : Contents). c.used) reads.same ∙ used;
      empty = empty_is raw nodes empty;
      small = small;
    }

-- ---- the bytes of the docket

pub back_is : (out before : List ℕ) (d : Contents) → out ≡ before ++ written.bytes_of d → before ≡ [] → ((rest : List ℕ) → written.ReadsAs (written.bytes_of d ++ rest) d) → written.ReadsAs out d
back_is out before d put none back = rw (put, none) (subst (λ (bytes : List ℕ). written.ReadsAs bytes d) (append-nil (written.bytes_of d)) (back []))

pub put_is : (out before : List ℕ) (d : Contents) → out ≡ before ++ written.bytes_of d → before ≡ [] → out ≡ written.bytes_of d
put_is out before d put none = put ∙ ap (λ (b : List ℕ). b ++ written.bytes_of d) none
