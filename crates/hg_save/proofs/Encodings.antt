-- What a table is encoded as can be published over the record that it was opened from.
use Rattle.std.proofs.Common.{◌≡◌, ℕ, zero, suc, ◌+◌, ◌<◌, ◌≤◌, ◌^◌, Bool, ◌==◌, ◌||◌, ◌&&◌, not, true, false, nat_le, List, [], ◌∷◌, ◌++◌, length, take, drop, replicate, get_or, refl, sym, ap, ◌∙◌, subst, arith, Option, Some, None, Result, Ok, append-nil, inl, inr}
use Rattle.std.specs.Int.{w32, from_be_bytes, to_be_bytes}
use Rattle.std.specs.List.{list_all}
use Rattle.std.proofs.lemmas.Bool.{and_parts, leb-true}
use Rattle.std.proofs.lemmas.Bool.Decides.{nat_tests}
use Rattle.std.proofs.lemmas.List.{length-append, length-drop, length-take}
use Rattle.std.proofs.lemmas.Nat.{be_bytes_4}
use Rattle.hg_append.specs.Appended.{IsAppended, IsOverImage, contents_behind, end_with}
use Rattle.hg_append.specs.Encoded.{IsWritten, ReadsAs, contents_of}
use Rattle.hg_append.specs.Keeps.{keeps_lent}
use Rattle.hg_append.specs.Layout.{size_in, size_of}
use Rattle.hg_append.specs.Loss.{plan_of}
use Rattle.hg_append.specs.declared.encoding.Encoded.{Encoded}
use Rattle.hg_append.specs.declared.way.Way.TheVariants as a_way
use Rattle.hg_append.proofs.Behind.{name_stays, planned}
use Rattle.hg_append.proofs.Sizes.{put_length, put_length_in}
use Rattle.hg_docket.specs.Docket.{Contents, docket_of, docket_refusal, empty_docket, fields_in, marker}
use Rattle.hg_docket.specs.Name.{is_name, is_name_byte}
use Rattle.hg_docket.specs.Number.{hex_text, next_name, number_after, number_of}
use Rattle.hg_docket.specs.Written as docket
use Rattle.hg_docket.specs.Written.{IsSized, head_of, is_writable}
use Rattle.hg_docket.specs.declared.fault.DocketFault.{DocketFault}
use Rattle.hg_docket.proofs.Branches.{chosen, not_zero}
use Rattle.hg_docket.proofs.Hex.{names_of_digits, text_digits}
use Rattle.hg_docket.proofs.ReadBack.{reads_back}
use Rattle.hg_entry.specs.Table.{Table}
use Rattle.hg_image.specs.Reading.{data_reading, docket_reading, reading_of, sound_reading, table_of}
use Rattle.hg_image.specs.Rows.{rows_of}
use Rattle.hg_image.specs.Walk.{image_fault}
use Rattle.hg_image.specs.declared.fault.NodeFault.{NodeFault}
use Rattle.hg_mixed.specs.Held.{Held, table}
use Rattle.hg_save.specs.Saved.{IsOver}
use Rattle.hg_save.proofs.Names.{follows, next_len}
use Rattle.hg_save.proofs.Tails.{sound_parts}

-- ---- what was read

no_refusal : (refusal : Option DocketFault) (nodes : Result Table NodeFault) (found : Table) → docket_reading refusal nodes ≡ Ok found → refusal ≡ None
no_refusal None nodes found is = refl
no_refusal (Some fault) nodes found is = absurd (cc is)

read_table : (refusal : Option DocketFault) (fault : Option NodeFault) (t found : Table) → docket_reading refusal (sound_reading fault t) ≡ Ok found → t ≡ found
read_table (Some refused) fault t found is = absurd (cc is)
read_table None (Some fault) t found is = absurd (cc is)
read_table None None t found is = cc is

-- ---- how long a docket is

head_parts : (m p1 z p2 y n1 n2 n3 n4 n5 u hash used : List ℕ)
    → length (m ++ p1 ++ z ++ p2 ++ y ++ n1 ++ n2 ++ n3 ++ n4 ++ n5 ++ u ++ hash ++ used)
    ≡ length m + length p1 + length z + length p2 + length y + length n1 + length n2 + length n3 + length n4 + length n5 + length u + length hash + length used
head_parts m p1 z p2 y n1 n2 n3 n4 n5 u hash used = simp length-append

head_length : (d : Contents) → length d.p1 ≡ 20 → length d.p2 ≡ 20 → length d.hash ≡ 20 → length (head_of d) ≡ 124
unfolding head_of
head_length d p1 p2 hash =
    let all = head_parts marker d.p1 (replicate 12 0) d.p2 (replicate 12 0) (to_be_bytes w32 d.root_start) (to_be_bytes w32 d.root_count) (to_be_bytes w32 d.entries) (to_be_bytes w32 d.copies) (to_be_bytes w32 d.unreachable) (replicate 4 0) d.hash (to_be_bytes w32 d.used) in
    omega (arith, all, p1, p2, hash)

docket_some : (d : Contents) → 0 < length (docket.bytes_of d)
docket_some d =
    let one = length-append (head_of d ++ length d.id ∷ []) d.id in
    let two = length-append (head_of d) (length d.id ∷ []) in
    omega (arith, one, two)

docket_length : (d : Contents) → length (head_of d) ≡ 124 → length (docket.bytes_of d) ≡ 125 + length d.id
docket_length d head =
    let one = length-append (head_of d ++ length d.id ∷ []) d.id in
    let two = length-append (head_of d) (length d.id ∷ []) in
    omega (arith, one, two, head)

part_length : (at : ℕ) (bytes : List ℕ) → at + 20 ≤ length bytes → length (take 20 (drop at bytes)) ≡ 20
part_length at bytes long = omega (arith, long, length-take 20 (drop at bytes), length-drop at bytes)

-- ---- numbers as their bytes say them

-- a number below 2 ^ 32 that is written as another is
record Reduced (n : ℕ) : Type 0 where
  pub to : ℕ
  pub small : to < 2 ^ 32
  pub same : to_be_bytes w32 to ≡ to_be_bytes w32 n

each_small : (n i : ℕ) → get_or (to_be_bytes w32 n) i 0 < 256
each_small n zero = omega arith
each_small n (suc zero) = omega arith
each_small n (suc (suc zero)) = omega arith
each_small n (suc (suc (suc zero))) = omega arith
each_small n (suc (suc (suc (suc i)))) = omega arith

reduced : (n : ℕ) → Reduced n
reduced n = record { to = from_be_bytes w32 (to_be_bytes w32 n); small = omega arith; same = be_bytes_4 (to_be_bytes w32 n) (from_be_bytes w32 (to_be_bytes w32 n)) refl (each_small n) refl }

-- a docket whose numbers fit, written as another is
fitting : Contents → Contents
fitting d = record d {
  root_start = (reduced d.root_start).to;
  root_count = (reduced d.root_count).to;
  entries = (reduced d.entries).to;
  copies = (reduced d.copies).to;
  unreachable = (reduced d.unreachable).to;
}

fitting_same : (d : Contents) → docket.bytes_of (fitting d) ≡ docket.bytes_of d
unfolding head_of fitting
fitting_same d = λ i.
    marker
    ++ d.p1
    ++ replicate 12 0
    ++ d.p2
    ++ replicate 12 0
    ++ (reduced d.root_start).same i
    ++ (reduced d.root_count).same i
    ++ (reduced d.entries).same i
    ++ (reduced d.copies).same i
    ++ (reduced d.unreachable).same i
    ++ replicate 4 0
    ++ d.hash
    ++ to_be_bytes w32 d.used
    ++ length d.id ∷ []
    ++ d.id

sized_by : (d : Contents) → length d.p1 ≡ 20 → length d.p2 ≡ 20 → length d.hash ≡ 20 → d.used < 2 ^ 32 → IsSized (fitting d)
unfolding fitting
sized_by d p1 p2 hash used = record {
  p1 = p1;
  p2 = p2;
  hash = hash;
  root_start = (reduced d.root_start).small;
  root_count = (reduced d.root_count).small;
  entries = (reduced d.entries).small;
  copies = (reduced d.copies).small;
  unreachable = (reduced d.unreachable).small;
  used = used;
}

-- the identifier and the used size are read as they were written
record NamesAs (bytes : List ℕ) (d : Contents) : Type 0 where
  pub id : (docket_of bytes).id ≡ d.id
  pub used : (docket_of bytes).used ≡ d.used

names_as : (d : Contents) → length d.p1 ≡ 20 → length d.p2 ≡ 20 → length d.hash ≡ 20 → d.used < 2 ^ 32 → is_writable d ≡ true → NamesAs (docket.bytes_of d) d
unfolding fitting
names_as d p1 p2 hash used writable =
    let back = reads_back (fitting d) [] (sized_by d p1 p2 hash used) writable in
    let same : docket.bytes_of (fitting d) ++ [] ≡ docket.bytes_of d = append-nil (docket.bytes_of (fitting d)) ∙ fitting_same d in
    let said : docket_of (docket.bytes_of d) ≡ fitting d = ap docket_of (sym same) ∙ back.same in
    record { id = ap (λ (c : Contents). c.id) said; used = ap (λ (c : Contents). c.used) said }

-- ---- a docket that was written

-- a docket that was written, read again
record Read (text : List ℕ) (c : Contents) : Type 0 where
  pub whole : docket_refusal text ≡ None
  pub len : length text ≡ 125 + length c.id
  pub id : (docket_of text).id ≡ c.id
  pub used : (docket_of text).used ≡ c.used

-- what is written as a docket and reads back as a table has parts as long as they are read
module _ (held : Held) (text file : List ℕ) (c : Contents) (is : text ≡ docket.bytes_of c) (reads : ReadsAs (table held) (reading_of text file)) where
  whole : docket_refusal text ≡ None
  whole = no_refusal (docket_refusal text) (data_reading (docket_of text) file) reads.found reads.is

  found_is : table_of (docket_of text) (rows_of (docket_of text) file) ≡ reads.found
  found_is = read_table (docket_refusal text) (image_fault (docket_of text) file) (table_of (docket_of text) (rows_of (docket_of text) file)) reads.found reads.is

  some : 0 < length text
  some = subst (λ (l : List ℕ). 0 < length l) (sym is) (docket_some c)

  fields_are : docket_of text ≡ fields_in text
  fields_are = chosen (length text == 0) empty_docket (fields_in text) (fields_in text) (not_zero (length text) some) refl

  long : 125 ≤ length text
  long = omega (arith, (sound_parts text whole some).long)

  p1_length : length held.p1 ≡ 20
  p1_length = sym (ap length (sym (ap (λ (c : Contents). c.p1) fields_are) ∙ ap (λ (t : Table). t.p1) found_is ∙ reads.same.p1)) ∙ part_length 12 text (omega (arith, long))

  p2_length : length held.p2 ≡ 20
  p2_length = sym (ap length (sym (ap (λ (c : Contents). c.p2) fields_are) ∙ ap (λ (t : Table). t.p2) found_is ∙ reads.same.p2)) ∙ part_length 44 text (omega (arith, long))

  hash_length : length held.hash ≡ 20
  hash_length = sym (ap length (sym (ap (λ (c : Contents). c.hash) fields_are) ∙ ap (λ (t : Table). t.hash) found_is ∙ reads.same.hash)) ∙ part_length 100 text (omega (arith, long))

  read_by : c.p1 ≡ held.p1 → c.p2 ≡ held.p2 → c.hash ≡ held.hash → c.used < 2 ^ 32 → is_writable c ≡ true → Read text c
  read_by p1 p2 hash small writable =
      let l1 : length c.p1 ≡ 20 = ap length p1 ∙ p1_length in
      let l2 : length c.p2 ≡ 20 = ap length p2 ∙ p2_length in
      let l3 : length c.hash ≡ 20 = ap length hash ∙ hash_length in
      let names : NamesAs text c = subst (λ (l : List ℕ). NamesAs l c) (sym is) (names_as c l1 l2 l3 small writable) in
      record { whole = whole; len = ap length is ∙ docket_length c (head_length c l1 l2 l3); id = names.id; used = names.used }

-- ---- what was written anew

name_ok : (id : List ℕ) → length id ≡ 16 → list_all is_name_byte id ≡ true → (used : ℕ) → (is_name id && (not (length id == 0) || used == 0)) ≡ true
name_ok id len bytes used = rw (len, bytes) refl

module _ (loaded nodes : List ℕ) (held : Held) (e : Encoded) (file : List ℕ) (same : held.docket.id ≡ (docket_of loaded).id) (written : IsWritten held e) (reads : ReadsAs (table held) (reading_of e.docket.items file)) where
  next : next_name (docket_of loaded).id ≡ Some e.id
  next = ap next_name (sym same) ∙ written.next

  names : list_all is_name_byte e.id ≡ true
  names =
      let number : ℕ = number_after (number_of (docket_of loaded).id) in
      subst (λ (l : List ℕ). list_all is_name_byte l ≡ true) (sym (follows (docket_of loaded).id e.id next).is) (names_of_digits (hex_text 16 number) (text_digits 16 number))

  read_anew : Read e.docket.items (contents_of held e.id written.tree)
  read_anew = read_by held e.docket.items file (contents_of held e.id written.tree) written.docket reads refl refl refl written.small (name_ok e.id (next_len (docket_of loaded).id e.id next) names (size_of written.tree))

  pub goes_over : IsOver loaded nodes e
  goes_over = record {
    by = inl (record { next = next; place = written.place });
    few = let len : length e.id ≡ 16 = next_len (docket_of loaded).id e.id next in omega (arith, read_anew.len, len);
    whole = read_anew.whole;
    named = read_anew.id;
    used =
        let place : e.place ≡ 0 = written.place in
        let put : length e.bytes.items ≡ size_of written.tree = ap length written.bytes ∙ put_length 0 written.tree in
        omega (arith, read_anew.used, place, put);
  }

-- an identifier of a data file that has bytes can be written, however many are used
name_stays_ok : (name none : Bool) (used more : ℕ) → 0 < used → (name && (not none || used == 0)) ≡ true → (name && (not none || more == 0)) ≡ true
name_stays_ok true true used more some ok = absurd (cc (ok, not_zero used some))
name_stays_ok true false used more some ok = refl
name_stays_ok false none used more some ok = absurd (cc ok)

-- ---- what was put behind

module _ (loaded nodes : List ℕ) (held : Held) (e : Encoded) (file : List ℕ) (said : held.docket ≡ docket_of loaded) (loads : held.bytes ≡ nodes) (over : IsOverImage held) (plan : plan_of held ≡ a_way.Append)
    (appended : IsAppended held e) (reads : ReadsAs (table held) (reading_of e.docket.items file)) where
  used_some : 0 < held.docket.used
  used_some = let less = (planned held plan).less in grind (arith, nat_tests, less)

  writable : is_writable (contents_behind held appended.tree) ≡ true
  writable = name_stays_ok (is_name held.docket.id) (length held.docket.id == 0) held.docket.used (end_with held appended.tree) used_some (planned held plan).writable

  read_behind : Read e.docket.items (contents_behind held appended.tree)
  read_behind = read_by held e.docket.items file (contents_behind held appended.tree) appended.docket reads refl refl refl appended.small writable

  id_short : length held.docket.id ≤ 255
  id_short = leb-true (length held.docket.id) 255 (and_parts (nat_le (length held.docket.id) 255) (list_all is_name_byte held.docket.id) (name_stays held plan).0).0

  pub goes_behind : IsOver loaded nodes e
  goes_behind =
      let used_is : held.docket.used ≡ (docket_of loaded).used = ap (λ (c : Contents). c.used) said in
      record {
        by = inr (record {
          same = sym (ap (λ (c : Contents). c.id) said) ∙ appended.same;
          place = appended.place ∙ used_is;
          some = omega (arith, used_is, used_some);
          long = ap length (sym loads) ∙ over.used ∙ used_is;
        });
        few = omega (arith, read_behind.len, id_short);
        whole = read_behind.whole;
        named = read_behind.id ∙ appended.same;
        used =
            let put : length e.bytes.items ≡ size_in (keeps_lent held) appended.tree = ap length appended.bytes ∙ put_length_in (keeps_lent held) held.docket.used appended.tree in
            let place : e.place ≡ held.docket.used = appended.place in
            let all : (docket_of e.docket.items).used ≡ end_with held appended.tree = read_behind.used in
            omega (arith, put, place, all);
      }
