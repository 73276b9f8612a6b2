-- What stands behind a docket, or behind the used bytes of a data file, changes no reading.
use Rattle.std.proofs.Common.{◌≡◌, ℕ, ◌+◌, ◌<◌, ◌≤◌, ◌==◌, Bool, true, false, cond, not, ◌&&◌, nat_lt, List, [], ◌∷◌, ◌++◌, length, take, drop, refl, sym, ap, ◌∙◌, arith, Option, Some, None, Err, inl, inr, ◌⊎◌, ltb}
use Rattle.std.specs.Int.{w32, from_be_bytes}
use Rattle.std.proofs.lemmas.Bool.{cases_lt, false_from_ne_true, lt-ltb, ltb-true}
use Rattle.std.proofs.lemmas.List.{drop-append-le, get_or_append_left, length-append, length-drop, length-take, take-append-le, take_all}
use Rattle.hg_docket.specs.Docket.{Contents, bytes_refusal, docket_of, docket_refusal, empty_docket, fields_in, first_other, marker, name_in, name_len, name_refusal, needed_len, number_at}
use Rattle.hg_docket.specs.Name.{foreign_place}
use Rattle.hg_docket.specs.declared.fault.DocketFault.{DocketFault}
use Rattle.hg_docket.specs.declared.fault.DocketFault.TheVariants as a_docket
use Rattle.hg_docket.proofs.Branches.{chosen, not_less, not_zero}
use Rattle.hg_image.specs.Reading.{data_reading, sound_reading, table_of}
use Rattle.hg_image.specs.Rows.{list_rows, rows_of}
use Rattle.hg_image.specs.Walk.{levels, list_fault}
use Rattle.hg_image.specs.declared.fault.NodeFault.TheVariants as a_node

-- ---- a docket

-- a branch that was taken, by what came out
left_out : {A : Type 0} (t : Bool) (x y : A) → (x ≡ y → ⊥) → (z : A) → cond t x z ≡ y → (t ≡ false) × (z ≡ y)
left_out true x y apart z is = absurd (apart is)
left_out false x y apart z is = (refl, is)

span_same : (n at : ℕ) (bytes rest : List ℕ) → at + n ≤ length bytes → take n (drop at (bytes ++ rest)) ≡ take n (drop at bytes)
span_same n at bytes rest within =
    ap (take n) (drop-append-le at bytes rest (omega (arith, within))) ∙ take-append-le n (drop at bytes) rest (omega (arith, within, length-drop at bytes))

number_same : (at : ℕ) (bytes rest : List ℕ) → at + 4 ≤ length bytes → number_at at (bytes ++ rest) ≡ number_at at bytes
number_same at bytes rest within = ap (from_be_bytes w32) (span_same 4 at bytes rest within)

other_same : (at : ℕ) (front bytes rest : List ℕ) → length front ≤ length bytes → first_other at front (bytes ++ rest) ≡ first_other at front bytes
other_same at [] bytes rest within = refl
other_same at (m ∷ front) [] rest within = absurd (omega (arith, within))
other_same at (m ∷ front) (b ∷ bytes) rest within = ap (λ (o : Option ℕ). cond (m == b) o (Some at)) (other_same (at + 1) front bytes rest (omega (arith, within)))

len_same : (bytes rest : List ℕ) → 125 ≤ length bytes → name_len (bytes ++ rest) ≡ name_len bytes
len_same bytes rest long = get_or_append_left bytes rest 0 124 (omega (arith, long))

-- the parts of a docket that isn't refused
marked : (bytes : List ℕ) → docket_refusal bytes ≡ None → 0 < length bytes → bytes_refusal (first_other 0 marker bytes) bytes ≡ None
marked bytes sound some = sym (chosen (length bytes == 0) None (bytes_refusal (first_other 0 marker bytes) bytes) _ (not_zero (length bytes) some) refl) ∙ sound

whole_marker : (place : Option ℕ) (bytes : List ℕ) → bytes_refusal place bytes ≡ None → place ≡ None
whole_marker None bytes sound = refl
whole_marker (Some at) bytes sound = absurd (cc sound)

least : (n m : ℕ) → nat_lt n m ≡ false → m ≤ n
least n m is = elim (cases_lt n m) [ inl less ↦ absurd (cc (sym is, lt-ltb n m less)) | inr most ↦ most ]

long_by : (bytes : List ℕ) → needed_len bytes ≤ length bytes → length bytes < 125 ⊎ 125 ≤ length bytes → 125 + name_len bytes ≤ length bytes
long_by bytes most (inl less) =
    let needed : needed_len bytes ≡ 125 = ap (λ (t : Bool). cond t 125 (125 + name_len bytes)) (lt-ltb (length bytes) 125 less) in
    absurd (omega (arith, needed, most, less))
long_by bytes most (inr long) =
    let needed : needed_len bytes ≡ 125 + name_len bytes = chosen (nat_lt (length bytes) 125) 125 (125 + name_len bytes) (125 + name_len bytes) (not_less (length bytes) 125 long) refl in
    omega (arith, needed, most)

long_from : (bytes : List ℕ) → nat_lt (length bytes) (needed_len bytes) ≡ false → 125 + name_len bytes ≤ length bytes
long_from bytes enough = long_by bytes (least (length bytes) (needed_len bytes) enough) (cases_lt (length bytes) 125)

-- what a name is refused for, by its parts
abbrev name_by : Option ℕ → List ℕ → ℕ → Option DocketFault
name_by (Some at) name used = Some (a_docket.Identifier (125 + at))
name_by None name used = cond (length name == 0 && not (used == 0)) (Some (a_docket.NoIdentifier used)) None

by_parts : (place : Option ℕ) (bytes : List ℕ) → name_refusal place bytes ≡ name_by place (name_in bytes) (number_at 120 bytes)
by_parts (Some at) bytes = refl
by_parts None bytes = refl

-- what stands behind a docket that isn't refused
pub record Followed (bytes rest : List ℕ) : Type 0 where
  pub whole : docket_refusal (bytes ++ rest) ≡ None
  pub same : docket_of (bytes ++ rest) ≡ docket_of bytes

module _ (bytes rest : List ℕ) (long : 125 + name_len bytes ≤ length bytes) where
  more : length (bytes ++ rest) ≡ length bytes + length rest
  more = length-append bytes rest

  name_same : name_in (bytes ++ rest) ≡ name_in bytes
  name_same = ap (λ (n : ℕ). take n (drop 125 (bytes ++ rest))) (len_same bytes rest (omega (arith, long))) ∙ span_same (name_len bytes) 125 bytes rest long

  needed_same : needed_len (bytes ++ rest) ≡ 125 + name_len bytes
  needed_same = chosen (nat_lt (length (bytes ++ rest)) 125) 125 (125 + name_len (bytes ++ rest)) (125 + name_len bytes) (not_less (length (bytes ++ rest)) 125 (omega (arith, more, long))) (ap (λ (n : ℕ). 125 + n) (len_same bytes rest (omega (arith, long))))

  fields_same : fields_in (bytes ++ rest) ≡ fields_in bytes
  fields_same =
      λ i. record {
        p1 = span_same 20 12 bytes rest (omega (arith, long)) i;
        p2 = span_same 20 44 bytes rest (omega (arith, long)) i;
        root_start = number_same 76 bytes rest (omega (arith, long)) i;
        root_count = number_same 80 bytes rest (omega (arith, long)) i;
        entries = number_same 84 bytes rest (omega (arith, long)) i;
        copies = number_same 88 bytes rest (omega (arith, long)) i;
        unreachable = number_same 92 bytes rest (omega (arith, long)) i;
        hash = span_same 20 100 bytes rest (omega (arith, long)) i;
        used = number_same 120 bytes rest (omega (arith, long)) i;
        id = name_same i;
      }

  of_same : docket_of (bytes ++ rest) ≡ docket_of bytes
  of_same =
      chosen (length (bytes ++ rest) == 0) empty_docket (fields_in (bytes ++ rest)) (fields_in bytes) (not_zero (length (bytes ++ rest)) (omega (arith, more, long))) fields_same
      ∙ sym (chosen (length bytes == 0) empty_docket (fields_in bytes) (fields_in bytes) (not_zero (length bytes) (omega (arith, long))) refl)

  refused_same : first_other 0 marker bytes ≡ None → name_refusal (foreign_place (name_in bytes)) bytes ≡ None → docket_refusal (bytes ++ rest) ≡ None
  refused_same front sound =
      let both : List ℕ = bytes ++ rest in
      let place : first_other 0 marker both ≡ None = other_same 0 marker bytes rest (omega (arith, long)) ∙ front in
      let name : name_refusal (foreign_place (name_in both)) both ≡ None =
      by_parts (foreign_place (name_in both)) both ∙ (λ i. name_by (foreign_place (name_same i)) (name_same i) (number_same 120 bytes rest (omega (arith, long)) i)) ∙ sym (by_parts (foreign_place (name_in bytes)) bytes) ∙ sound in
      let enough : nat_lt (length both) (needed_len both) ≡ false = not_less (length both) (needed_len both) (omega (arith, needed_same, more, long)) in
      chosen (length both == 0) None (bytes_refusal (first_other 0 marker both) both) None (not_zero (length both) (omega (arith, more, long)))
      (ap (λ (p : Option ℕ). bytes_refusal p both) place
      ∙ chosen (nat_lt (length both) (needed_len both)) (Some (a_docket.Short (length both) (needed_len both))) (name_refusal (foreign_place (name_in both)) both) None enough name)

-- the parts of a docket that isn't refused
pub record Sound (bytes : List ℕ) : Type 0 where
  pub front : first_other 0 marker bytes ≡ None
  pub long : 125 + name_len bytes ≤ length bytes
  pub name : name_refusal (foreign_place (name_in bytes)) bytes ≡ None

pub sound_parts : (bytes : List ℕ) → docket_refusal bytes ≡ None → 0 < length bytes → Sound bytes
sound_parts bytes sound some =
    let rule = marked bytes sound some in
    let front : first_other 0 marker bytes ≡ None = whole_marker (first_other 0 marker bytes) bytes rule in
    let none : bytes_refusal None bytes ≡ None = sym (ap (λ (p : Option ℕ). bytes_refusal p bytes) front) ∙ rule in
    let parts = left_out (nat_lt (length bytes) (needed_len bytes)) (Some (a_docket.Short (length bytes) (needed_len bytes))) None (λ is. absurd (cc is)) (name_refusal (foreign_place (name_in bytes)) bytes) none in
    record { front = front; long = long_from bytes parts.0; name = parts.1 }

-- a docket that isn't refused says the same, whatever stands behind it
pub followed : (bytes rest : List ℕ) → docket_refusal bytes ≡ None → 0 < length bytes → Followed bytes rest
followed bytes rest sound some =
    let parts = sound_parts bytes sound some in
    record { whole = refused_same bytes rest parts.long parts.front parts.name; same = of_same bytes rest parts.long }

-- ---- a data file

not_short : (used : ℕ) (bytes : List ℕ) → used ≤ length bytes → ltb (length bytes) used ≡ false
not_short used bytes long = false_from_ne_true (ltb (length bytes) used) (λ short. let less = ltb-true (length bytes) used short in absurd (omega (arith, less, long)))

walk_of : (d : Contents) (bytes : List ℕ) → d.used ≤ length bytes → data_reading d bytes ≡ sound_reading (list_fault levels (take d.used bytes) None d.root_start d.root_count) (table_of d (rows_of d bytes))
walk_of d bytes long =
    ap (λ (b : Bool). sound_reading (cond b (Some (a_node.DataShort (length bytes) d.used)) (list_fault levels (take d.used bytes) None d.root_start d.root_count)) (table_of d (rows_of d bytes)))
    (not_short d.used bytes long)

pub short_of : (d : Contents) (bytes : List ℕ) → length bytes < d.used → data_reading d bytes ≡ Err (a_node.DataShort (length bytes) d.used)
short_of d bytes short =
    ap (λ (b : Bool). sound_reading (cond b (Some (a_node.DataShort (length bytes) d.used)) (list_fault levels (take d.used bytes) None d.root_start d.root_count)) (table_of d (rows_of d bytes)))
    (lt-ltb (length bytes) d.used short)

-- what stands behind the used bytes is never read
pub front_same : (d : Contents) (bytes : List ℕ) → data_reading d (take d.used bytes) ≡ data_reading d bytes
front_same d bytes =
    elim (cases_lt (length bytes) d.used) [
      | inl short ↦ ap (data_reading d) (take_all d.used bytes (omega (arith, short)))
      | inr long ↦
          let len = length-take d.used bytes in
          walk_of d (take d.used bytes) (omega (arith, len, long))
          ∙ ap (λ (l : List ℕ). sound_reading (list_fault levels l None d.root_start d.root_count) (table_of d (list_rows levels l d.root_start d.root_count)))
          (take_all d.used (take d.used bytes) (omega (arith, len)))
          ∙ sym (walk_of d bytes long)
    ]
