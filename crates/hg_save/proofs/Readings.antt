-- Which files a reading depends on, and what a published record reads as.
use Rattle.std.proofs.Common.{◌≡◌, ℕ, zero, suc, ◌+◌, ◌-◌, ◌<◌, ◌≤◌, ◌==◌, Bool, true, false, cond, List, [], ◌∷◌, ◌++◌, length, take, drop, replicate, codes, refl, sym, ap, ◌∙◌, subst, arith, Option, Some, None, option_map, Result, inl, inr, ◌⊎◌}
use Rattle.std.specs.Str.{bytes_eq}
use Rattle.std.proofs.lemmas.Bool.{cases_eq}
use Rattle.std.proofs.lemmas.List.{append-nil, length-append, length-take, take_all}
use Rattle.std.proofs.lemmas.Slice.Eq.{bytes_eq-Decides}
use Rattle.std.proofs.Math.Seq.{take-append_seam, take-append-add}
use Rattle.hg_append.specs.declared.encoding.Encoded.{Encoded}
use Rattle.hg_base.proofs.Within.{same_bytes}
use Rattle.hg_docket.specs.Docket.{Contents, docket_of, docket_refusal}
use Rattle.hg_docket.specs.declared.fault.DocketFault.{DocketFault}
use Rattle.hg_docket.proofs.Branches.{chosen, not_zero}
use Rattle.hg_entry.specs.Table.{Table}
use Rattle.hg_image.specs.Reading.{RecordFault, data_reading, docket_reading, of_data, reading_of}
use Rattle.hg_shelf.specs.History.{Files}
use Rattle.hg_shelf.specs.Rules.{content, overwritten}
use Rattle.hg_save.specs.Others.{HasFront, IsFrontOf, UsesData, named_file}
use Rattle.hg_save.specs.Record.{data_in, data_name, shown_in, id_in, named_reading, needed_in, reading}
use Rattle.hg_save.specs.Saved.{IsAnew, IsBehind, IsExact, IsOver, new_docket, published, used_in}
use Rattle.hg_save.proofs.Names.{next_len}
use Rattle.hg_save.proofs.Tails.{Followed, followed as is_followed, front_same}

-- ---- names that are the same or aren't

pub same_or_not : (a b : List ℕ) → (a ≡ b) ⊎ (a ≡ b → ⊥)
same_or_not a b = by_test (bytes_eq a b) refl where
  by_test : (t : Bool) → bytes_eq a b ≡ t → (a ≡ b) ⊎ (a ≡ b → ⊥)
  by_test true is = inl (same_bytes a b is)
  by_test false is = inr (λ same. let test : bytes_eq a b ≡ true = (bytes_eq-Decides a b).1 same in cc (sym is ∙ test))

-- ---- files that read the same

needed_same : (refusal : Option DocketFault) (d : Contents) (old new : Files) → new (data_name d.id) ≡ old (data_name d.id) → needed_in refusal d new ≡ needed_in refusal d old
needed_same (Some fault) d old new same = refl
needed_same None d old new same = ap (λ (file : Option (List ℕ)). cond (d.used == 0) (Some []) file) same

-- a reading depends on the docket and on the data file that it names
pub same_reading : (old new : Files) → new (codes "dirstate") ≡ old (codes "dirstate") → new (data_name (id_in old)) ≡ old (data_name (id_in old)) → reading new ≡ reading old
same_reading old new docket file =
    ap (λ (bytes : Option (List ℕ)). named_reading (take 512 (content bytes)) new) docket
    ∙ ap (option_map (reading_of (shown_in old))) (needed_same (docket_refusal (shown_in old)) (docket_of (shown_in old)) old new file)

pub same_docket : (old new : Files) → new (codes "dirstate") ≡ old (codes "dirstate") → shown_in new ≡ shown_in old
same_docket old new same = ap (λ (file : Option (List ℕ)). take 512 (content file)) same

pub same_id : (old new : Files) → new (codes "dirstate") ≡ old (codes "dirstate") → id_in new ≡ id_in old
same_id old new same = ap (λ (file : Option (List ℕ)). (docket_of (take 512 (content file))).id) same

pub same_used : (old new : Files) → new (codes "dirstate") ≡ old (codes "dirstate") → used_in new ≡ used_in old
same_used old new same = ap (λ (file : Option (List ℕ)). (docket_of (take 512 (content file))).used) same

-- ---- files whose used bytes stay

-- the used bytes of the data file that a docket names stay
pub record StaysUsed (bytes : List ℕ) (old new : Files) : Type 0 where
  pub was : HasFront (docket_of bytes).used (named_file bytes old)
  pub there : HasFront (docket_of bytes).used (named_file bytes new)
  pub same : take (docket_of bytes).used (content (named_file bytes new)) ≡ take (docket_of bytes).used (content (named_file bytes old))

sound_docket : (docket bytes : List ℕ) → docket_refusal docket ≡ None → reading_of docket bytes ≡ of_data (data_reading (docket_of docket) bytes)
sound_docket docket bytes sound = ap (λ (r : Option DocketFault). docket_reading r (data_reading (docket_of docket) bytes)) sound

file_reads : (bytes : List ℕ) (old new : Option (List ℕ)) → docket_refusal bytes ≡ None → HasFront (docket_of bytes).used old → HasFront (docket_of bytes).used new
    → take (docket_of bytes).used (content new) ≡ take (docket_of bytes).used (content old) → option_map (reading_of bytes) new ≡ option_map (reading_of bytes) old
file_reads bytes None new sound was there same = absurd was
file_reads bytes (Some x) None sound was there same = absurd there
file_reads bytes (Some x) (Some y) sound was there same =
    ap (λ (r : Result Table RecordFault). Some r) (
    sound_docket bytes y sound
    ∙ ap (λ r. of_data r) (sym (front_same (docket_of bytes) y) ∙ ap (data_reading (docket_of bytes)) same ∙ front_same (docket_of bytes) x)
    ∙ sym (sound_docket bytes x sound)
    )

-- where no byte is used no file is read
unused_in : (d : Contents) (files : Files) → d.used ≡ 0 → data_in d files ≡ Some []
unused_in d files none = ap (λ (n : ℕ). cond (n == 0) (Some []) (files (data_name d.id))) none

pub file_in : (d : Contents) (files : Files) → 0 < d.used → data_in d files ≡ files (data_name d.id)
file_in d files some = chosen (d.used == 0) (Some []) (files (data_name d.id)) (files (data_name d.id)) (not_zero d.used some) refl

data_reads : (bytes : List ℕ) (old new : Files) → docket_refusal bytes ≡ None → (UsesData bytes → StaysUsed bytes old new) → ((docket_of bytes).used ≡ 0) ⊎ ((docket_of bytes).used ≡ 0 → ⊥)
    → option_map (reading_of bytes) (data_in (docket_of bytes) new) ≡ option_map (reading_of bytes) (data_in (docket_of bytes) old)
data_reads bytes old new sound stays (inl none) = ap (option_map (reading_of bytes)) (unused_in (docket_of bytes) new none ∙ sym (unused_in (docket_of bytes) old none))
data_reads bytes old new sound stays (inr some) =
    let uses : 0 < (docket_of bytes).used = omega (arith, some) in
    let is : StaysUsed bytes old new = stays (record { sound = sound; uses = uses }) in
    ap (option_map (reading_of bytes)) (file_in (docket_of bytes) new uses)
    ∙ file_reads bytes (named_file bytes old) (named_file bytes new) sound is.was is.there is.same
    ∙ sym (ap (option_map (reading_of bytes)) (file_in (docket_of bytes) old uses))

needed_reads : (bytes : List ℕ) (old new : Files) → (UsesData bytes → StaysUsed bytes old new) → (r : Option DocketFault) → docket_refusal bytes ≡ r
    → option_map (reading_of bytes) (needed_in r (docket_of bytes) new) ≡ option_map (reading_of bytes) (needed_in r (docket_of bytes) old)
needed_reads bytes old new stays (Some fault) is = refl
needed_reads bytes old new stays None sound = data_reads bytes old new sound stays (cases_eq (docket_of bytes).used 0)

-- a reading stays where the docket does, and the bytes of its data file that it uses
pub stays_read : (old new : Files) → shown_in new ≡ shown_in old → (UsesData (shown_in old) → StaysUsed (shown_in old) old new) → reading new ≡ reading old
stays_read old new docket stays =
    ap (λ (bytes : List ℕ). named_reading bytes new) docket
    ∙ needed_reads (shown_in old) old new stays (docket_refusal (shown_in old)) refl

-- ---- what is published

abbrev pub Begins : List ℕ → Option (List ℕ) → Type 0
Begins bytes file = (rest : List ℕ) × (file ≡ Some (bytes ++ rest))

-- a file that was written at its front
front_is : (old bytes : List ℕ) → overwritten old 0 bytes ≡ bytes ++ drop (length bytes) old
front_is old bytes =
    let none : 0 - length old ≡ 0 = omega arith in
    let all : 0 + length bytes ≡ length bytes = omega arith in
    ap (λ (n : ℕ). take 0 old ++ replicate n 0 ++ bytes ++ drop (0 + length bytes) old) none ∙ ap (λ (n : ℕ). bytes ++ drop n old) all

pub begins_front : (old bytes : List ℕ) (file : Option (List ℕ)) → file ≡ Some (overwritten old 0 bytes) → Begins bytes file
begins_front old bytes file is = (drop (length bytes) old, is ∙ ap (λ (l : List ℕ). Some l) (front_is old bytes))

-- a file that begins with nodes, once bytes are put behind them
begins_behind : (nodes bytes : List ℕ) (used : ℕ) (file : Option (List ℕ)) → length nodes ≡ used → IsFrontOf file used nodes → Begins (nodes ++ bytes) (Some (overwritten (content file) used bytes))
begins_behind nodes bytes used None long front = absurd front
begins_behind nodes bytes used (Some old) long front =
    let len = length-take used old in
    let all : length (take used old) ≡ used = ap length (sym front) ∙ long in
    let none : used - length old ≡ 0 = omega (arith, len, all) in (
      drop (used + length bytes) old,
      ap (λ (n : ℕ). Some (take used old ++ replicate n 0 ++ bytes ++ drop (used + length bytes) old)) none
          ∙ ap (λ (l : List ℕ). Some (l ++ bytes ++ drop (used + length bytes) old)) (append-nil (take used old) ∙ sym front),
    )

-- at a place, behind the nodes before it
pub begins_at : (nodes bytes : List ℕ) (place : ℕ) (file : Option (List ℕ)) → (0 < place → length nodes ≡ place) → (0 < place → IsFrontOf file place nodes) → Begins (take place nodes ++ bytes) (Some (overwritten (content file) place bytes))
begins_at nodes bytes zero file long front = begins_front (content file) bytes (Some (overwritten (content file) 0 bytes)) refl
begins_at nodes bytes (suc n) file long front =
    let some : 0 < suc n = omega arith in
    let all : take (suc n) nodes ≡ nodes = take_all (suc n) nodes (omega (arith, long some)) in
    subst (λ (l : List ℕ). Begins (l ++ bytes) (Some (overwritten (content file) (suc n) bytes))) (sym all) (begins_behind nodes bytes (suc n) file (long some) (front some))

front_length : (place : ℕ) (nodes : List ℕ) → (0 < place → length nodes ≡ place) → length (take place nodes) ≡ place
front_length zero nodes long = refl
front_length (suc n) nodes long =
    let all : length nodes ≡ suc n = long (omega arith) in
    let len = length-take (suc n) nodes in
    omega (arith, all, len)

pub cut_docket : (bytes rest : List ℕ) → length bytes ≤ 512 → take 512 (bytes ++ rest) ≡ bytes ++ take (512 - length bytes) rest
cut_docket bytes rest few =
    let all : length bytes + (512 - length bytes) ≡ 512 = omega (arith, few) in
    ap (λ (n : ℕ). take n (bytes ++ rest)) (sym all) ∙ take-append-add bytes rest (512 - length bytes)

some_named : (bytes id : List ℕ) → (docket_of bytes).id ≡ id → length id ≡ 16 → 0 < length bytes
some_named [] id named len = let none : 0 ≡ length id = ap length named in absurd (omega (arith, none, len))
some_named (b ∷ bytes) id named len = omega arith

some_using : (bytes : List ℕ) → 0 < (docket_of bytes).used → 0 < length bytes
some_using [] some = absurd (omega (arith, some))
some_using (b ∷ bytes) some = omega arith

-- the data file that a docket needs
needed_by : (d : Contents) (bytes rest : List ℕ) (file : Option (List ℕ)) → d.used ≡ length bytes → file ≡ Some (bytes ++ rest)
    → (x : List ℕ) × (cond (d.used == 0) (Some []) file ≡ Some x) × (data_reading d x ≡ data_reading d bytes)
needed_by d [] rest file used at = ([], ap (λ (n : ℕ). cond (n == 0) (Some []) file) used, refl)
needed_by d (b ∷ bytes) rest file used at = (
  b ∷ bytes ++ rest,
  chosen (d.used == 0) (Some []) file (Some (b ∷ bytes ++ rest)) (not_zero d.used (omega (arith, used))) at,
  sym (front_same d (b ∷ bytes ++ rest)) ∙ ap (data_reading d) (ap (λ (n : ℕ). take n (b ∷ bytes ++ rest)) used ∙ take-append_seam (b ∷ bytes) rest),
)

named_new : (docket tail bytes rest : List ℕ) (id : List ℕ) (f : Files) → docket_refusal docket ≡ None → Followed docket tail → (docket_of docket).id ≡ id → (docket_of docket).used ≡ length bytes → f (data_name id) ≡ Some (bytes ++ rest)
    → named_reading (docket ++ tail) f ≡ Some (reading_of docket bytes)
named_new docket tail bytes rest id f sound behind named used at =
    let d : Contents = docket_of docket in
    let need = needed_by d bytes rest (f (data_name d.id)) used (ap (λ (n : List ℕ). f (data_name n)) named ∙ at) in
    ap (λ (r : Option DocketFault). option_map (reading_of (docket ++ tail)) (needed_in r (docket_of (docket ++ tail)) f)) behind.whole
    ∙ ap (λ (c : Contents). option_map (reading_of (docket ++ tail)) (data_in c f)) behind.same
    ∙ ap (option_map (reading_of (docket ++ tail))) need.1
    ∙ ap (λ r. Some r) (
    sound_docket (docket ++ tail) need.0 behind.whole ∙ ap (λ (c : Contents). of_data (data_reading c need.0)) behind.same ∙ ap (λ r. of_data r) need.2 ∙ sym (sound_docket docket bytes sound)
    )

-- where a data file is written behind loaded nodes, it begins with these
abbrev pub HasPlace : List ℕ → Encoded → Files → Type 0
HasPlace nodes new files = 0 < new.place → IsFrontOf (files (data_name new.id)) new.place nodes

-- the new docket stands, and so does its data file
pub record Holds (nodes : List ℕ) (new : Encoded) (f : Files) : Type 0 where
  pub docket : Begins new.docket.items (f (codes "dirstate"))
  pub file : Begins (take new.place nodes ++ new.bytes.items) (f (data_name new.id))

module _ (loaded nodes : List ℕ) (new : Encoded) (over : IsOver loaded nodes new) where
  -- which of the two ways it is, by the place
  pub is_behind : 0 < new.place → IsBehind loaded nodes new
  is_behind some = elim over.by [ inl anew ↦ absurd (omega (arith, anew.place, some)) | inr behind ↦ behind ]

  pub is_anew : new.place ≡ 0 → IsAnew loaded new
  is_anew none = elim over.by [ inl anew ↦ anew | inr behind ↦ absurd (omega (arith, behind.place, behind.some, none)) ]

  pub long_nodes : 0 < new.place → length nodes ≡ new.place
  long_nodes some = let behind = is_behind some in behind.long ∙ sym behind.place

  pub some_docket : 0 < length new.docket.items
  some_docket = elim over.by [
    | inl anew ↦ some_named new.docket.items new.id over.named (next_len (docket_of loaded).id new.id anew.next)
    | inr behind ↦ some_using new.docket.items (omega (arith, over.used, behind.place, behind.some))
  ]

  -- the docket that is read, where the new one stands
  record Shown (f : Files) : Type 0 where
    pub tail : List ℕ
    pub is : shown_in f ≡ new.docket.items ++ tail
    pub followed : Followed new.docket.items tail

  shown : (f : Files) → Begins new.docket.items (f (codes "dirstate")) → Shown f
  shown f begins =
      let docket : List ℕ = new.docket.items in
      let tail : List ℕ = take (512 - length docket) begins.0 in
      record {
        tail = tail;
        is = ap (λ (file : Option (List ℕ)). take 512 (content file)) begins.1 ∙ cut_docket docket begins.0 over.few;
        followed = is_followed docket tail over.whole some_docket;
      }

  -- the new docket and its data file read as the table that is published, whatever stands behind either
  pub reads_published : (f : Files) → Holds nodes new f → reading f ≡ published nodes new
  reads_published f holds =
      let s = shown f holds.docket in
      let all : List ℕ = take new.place nodes ++ new.bytes.items in
      let used : (docket_of new.docket.items).used ≡ length all =
      (let parts = length-append (take new.place nodes) new.bytes.items in let front = front_length new.place nodes long_nodes in omega (arith, parts, front, over.used)) in
      ap (λ (bytes : List ℕ). named_reading bytes f) s.is ∙ named_new new.docket.items s.tail all holds.file.0 new.id f over.whole s.followed over.named used holds.file.1

  -- its identifier, and the used bytes that it names
  pub id_published : (f : Files) → Begins new.docket.items (f (codes "dirstate")) → id_in f ≡ new.id
  id_published f begins = let s = shown f begins in ap (λ (bytes : List ℕ). (docket_of bytes).id) s.is ∙ ap (λ (c : Contents). c.id) s.followed.same ∙ over.named

  used_published : (f : Files) → Begins new.docket.items (f (codes "dirstate")) → used_in f ≡ new.place + length new.bytes.items
  used_published f begins = let s = shown f begins in ap (λ (bytes : List ℕ). (docket_of bytes).used) s.is ∙ ap (λ (c : Contents). c.used) s.followed.same ∙ over.used

  -- ---- where all is exact

  module _ (start f : Files) (exact : IsExact new start f) where
    pub exact_docket : Begins new.docket.items (f (codes "dirstate"))
    exact_docket = begins_front (content (start new_docket)) new.docket.items (f (codes "dirstate")) exact.docket

    pub exact_used : used_in f ≡ new.place + length new.bytes.items
    exact_used = used_published f exact_docket

    pub exact_reads : HasPlace nodes new start → reading f ≡ published nodes new
    exact_reads front =
        let begins = begins_at nodes new.bytes.items new.place (start (data_name new.id)) long_nodes front in
        reads_published f (record { docket = exact_docket; file = (begins.0, exact.file ∙ begins.1) })
