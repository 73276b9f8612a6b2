-- What a load finds, from what its steps find.
use Rattle.std.proofs.Common.{◌≡◌, ℕ, ◌<◌, ◌≤◌, Bool, true, false, cond, List, [], ◌∷◌, ◌++◌, length, take, Option, Some, None, Result, Ok, Err, Vec, Global, refl, sym, ap, ◌∙◌, subst, arith, le-ltb}
use Rattle.std.specs.Prelude.{IsTrue}
use Rattle.std.proofs.lemmas.Bool.{lt-ltb}
use Rattle.std.proofs.Math.Seq.{take-length}
use Rattle.std.proofs.lemmas.List.{append-nil}
use Rattle.hg_base.specs.Fault.{HasCause, IsSteady, Rose}
use Rattle.hg_base.specs.declared.id.Id20.{Id20}
use Rattle.hg_shelf.specs.Asks.{AsksFrontOf, AsksInOrder}
use Rattle.hg_shelf.specs.History.{Files, History, Passes}
use Rattle.hg_shelf.specs.Polite.{StaysIn}
use Rattle.hg_shelf.specs.Reads.{size_of}
use Rattle.hg_shelf.specs.declared.asked.Asked.{Asked}
use Rattle.hg_shelf.specs.declared.asked.Asked.TheVariants as an_ask
use Rattle.hg_shelf.proofs.Asks.{front_longer, front_none}
use Rattle.hg_manifest.specs.Kept.{Answers}
use Rattle.hg_manifest.specs.Load.{AsksByFile, Finds, IsCounted, IsFrontOf, Reads, Stays, Took, Was, asks_of, bytes_asks, file_asks, file_at, file_manifest, manifest_in}
use Rattle.hg_manifest.specs.Loaded.{IsUntaken, Sizes, Takes}
use Rattle.hg_manifest.specs.Plain.{is_null, most, plain_name}
use Rattle.hg_manifest.specs.Rows.{Rows, manifest_of}
use Rattle.hg_manifest.specs.declared.fault.ManifestFault.{ManifestFault}
use Rattle.hg_manifest.specs.declared.fault.ManifestFault.TheVariants as a_fault
use Rattle.hg_manifest.proofs.LineFaults.{line_fault}

-- ---- moments

-- what was so in the first part of a call, and in the second
was_first : (old mid new : History) (name : List ℕ) (P : Option (List ℕ) → Type 0) → Passes old mid → Passes mid new → Was old mid name P → Was old new name P
was_first old mid new name P first second was = record {
  at = was.at;
  during = λ told. let during = was.during told in record { from = during.from; to = omega (arith, during.to, second.past.later) };
  so = λ told. subst P (sym (ap (λ (f : Files). f name) (second.past.stay was.at (was.during told).to).shown)) (was.so told);
}

was_second : (old mid new : History) (name : List ℕ) (P : Option (List ℕ) → Type 0) → Passes old mid → Was mid new name P → Was old new name P
was_second old mid new name P first was = record {
  at = was.at;
  during = λ told. let during = was.during (first.past.told ∙ told) in record { from = omega (arith, first.past.later, during.from); to = during.to };
  so = λ told. was.so (first.past.told ∙ told);
}

-- ---- what is asked for

abbrev AsksLoad : List ℕ → (Option (List ℕ) → List Asked) → History → History → Result Rows ManifestFault → Type 0
AsksLoad name asks_by old new result = AsksByFile name asks_by old new result

-- as it is at the end
pub was_now : (old new : History) (name : List ℕ) → Passes old new → Was old new name (λ f. f ≡ file_at new name new.last)
was_now old new name passes = record { at = new.last; during = λ told. record { from = passes.past.later; to = omega arith }; so = λ told. refl }

was_end : (h : History) (name : List ℕ) → Was h h name (λ f. f ≡ file_at h name h.last)
was_end h name = record { at = h.last; during = λ told. record { from = omega arith; to = omega arith }; so = λ told. refl }

-- a file of a size that isn't too large
sized_asks : (name : List ℕ) (size : ℕ) (file : Option (List ℕ)) → size ≤ most → size_of file ≡ Some size → an_ask.Size name ∷ an_ask.Read name 0 size ∷ [] ≡ file_asks name file
sized_asks name size file few is =
    sym (ap (λ (s : Option ℕ). an_ask.Size name ∷ bytes_asks name s) is ∙ ap (λ (t : Bool). an_ask.Size name ∷ cond t [] (an_ask.Read name 0 size ∷ [])) (le-ltb most size few))

-- the size alone was asked for, or not even that
pub asks_unsized : (old new : History) (name : List ℕ) (fault : ManifestFault) → Passes old new → AsksFrontOf (an_ask.Size name ∷ []) old new → AsksLoad name (file_asks name) old new (Err fault)
asks_unsized old new name fault passes front = record {
  file = file_at new name new.last;
  was = was_now old new name passes;
  asks = front_longer (an_ask.Size name ∷ []) (bytes_asks name (size_of (file_at new name new.last))) old new front;
}

-- nothing was asked for
pub asks_unread : (h : History) (name : List ℕ) (fault : ManifestFault) → AsksLoad name (file_asks name) h h (Err fault)
asks_unread h name fault = record {
  file = file_at h name h.last;
  was = was_end h name;
  asks = front_none (file_asks name (file_at h name h.last)) h h refl;
}

-- the size was answered, and the bytes were asked for
pub asks_sized : (old mid new : History) (name : List ℕ) (id : Id20) (size : ℕ) (result : Result Rows ManifestFault) → Passes old mid → Passes mid new → IsTrue old.told → Sizes old mid name id (Ok size)
    → AsksInOrder (an_ask.Size name ∷ an_ask.Read name 0 size ∷ []) old new result → AsksByFile name (file_asks name) old new result
asks_sized old mid new name id size result first second told sizes asks =
    let was = was_first old mid new name (λ file. size_of file ≡ Some size) first second sizes.1 in
    record {
      file = file_at new name was.at;
      was = record { at = was.at; during = was.during; so = λ t. refl };
      asks = subst (λ (l : List Asked). AsksInOrder l old new result) (sized_asks name size (file_at new name was.at) sizes.0 (was.so told)) asks;
    }

-- the null parent
pub asks_null : (id : Id20) (h : History) → is_null id.0 ≡ true → AsksLoad (plain_name id.0) (asks_of id) h h (Ok [])
asks_null id h null = record {
  file = file_at h (plain_name id.0) h.last;
  was = was_end h (plain_name id.0);
  asks = sym (append-nil h.asked) ∙ ap (λ (t : Bool). h.asked ++ cond t [] (file_asks (plain_name id.0) (file_at h (plain_name id.0) h.last))) (sym null);
}

-- another
pub asks_other : (id : Id20) (old new : History) (result : Result Rows ManifestFault) → is_null id.0 ≡ false → AsksByFile (plain_name id.0) (file_asks (plain_name id.0)) old new result → AsksByFile (plain_name id.0) (asks_of id) old new result
asks_other id old new result some by = record {
  file = by.file;
  was = by.was;
  asks = subst (λ (l : List Asked). AsksInOrder l old new result) (sym (ap (λ (t : Bool). cond t [] (file_asks (plain_name id.0) by.file)) some)) by.asks;
}

-- ---- faults in front of the text

pub unsized : (old new : History) (name : List ℕ) (id : Id20) (fault : ManifestFault) → IsUntaken old new name id fault → Finds old new name id (Err fault)
unsized old new name id a_fault.OutOfMemory is = tt
unsized old new name id a_fault.Failed is = tt
unsized old new name id (a_fault.NoManifest gone) is = is
unsized old new name id (a_fault.ManifestTooLarge size) is = is
unsized old new name id (a_fault.ManifestLine line) is = absurd is
unsized old new name id (a_fault.ManifestOrder line) is = absurd is

pub untaken : (old mid new : History) (name : List ℕ) (id : Id20) (fault : ManifestFault) → Passes old mid → IsUntaken mid new name id fault → Finds old new name id (Err fault)
untaken old mid new name id a_fault.OutOfMemory first is = tt
untaken old mid new name id a_fault.Failed first is = tt
untaken old mid new name id (a_fault.NoManifest gone) first is = (is.0, was_second old mid new name (λ file. file ≡ None) first is.1)
untaken old mid new name id (a_fault.ManifestTooLarge size) first is = (is.0, was_second old mid new name (λ file. size_of file ≡ Some size) first is.1)
untaken old mid new name id (a_fault.ManifestLine line) first is = absurd is
untaken old mid new name id (a_fault.ManifestOrder line) first is = absurd is

-- ---- the text

pub taken : (old mid new : History) (name : List ℕ) (id : Id20) (size : ℕ) (bytes : Vec ℕ Global) → Passes old mid → Passes mid new → Sizes old mid name id (Ok size) → Takes mid new name id size (Ok bytes) → Took old new name bytes.items
taken old mid new name id size bytes first second sizes takes = record {
  size = size;
  few = sizes.0;
  short = takes.0;
  sized = was_first old mid new name (λ file. size_of file ≡ Some size) first second sizes.1;
  front = λ told. takes.1 (first.past.told ∙ told);
}

pub finds : (old new : History) (name bytes : List ℕ) (id : Id20) (result : Result Rows ManifestFault) → Took old new name bytes → Answers (manifest_of bytes) result → Finds old new name id result
finds old new name bytes id (Ok rows) took is = record { bytes = bytes; took = took; found = is }
finds old new name bytes id (Err a_fault.OutOfMemory) took is = tt
finds old new name bytes id (Err a_fault.Failed) took is = tt
finds old new name bytes id (Err (a_fault.NoManifest gone)) took is = absurd (line_fault bytes (a_fault.NoManifest gone) is)
finds old new name bytes id (Err (a_fault.ManifestTooLarge size)) took is = absurd (line_fault bytes (a_fault.ManifestTooLarge size) is)
finds old new name bytes id (Err (a_fault.ManifestLine line)) took is = record { bytes = bytes; took = took; found = is }
finds old new name bytes id (Err (a_fault.ManifestOrder line)) took is = record { bytes = bytes; took = took; found = is }

-- ---- counts

pub counted_read : (before now : ℕ) (bytes : List ℕ) (result : Result Rows ManifestFault) → now ≡ before → Answers (manifest_of bytes) result → IsCounted before now result
counted_read before now bytes (Ok rows) same is = same
counted_read before now bytes (Err a_fault.OutOfMemory) same is = same
counted_read before now bytes (Err a_fault.Failed) same is = absurd (line_fault bytes a_fault.Failed is)
counted_read before now bytes (Err (a_fault.NoManifest gone)) same is = same
counted_read before now bytes (Err (a_fault.ManifestTooLarge size)) same is = same
counted_read before now bytes (Err (a_fault.ManifestLine line)) same is = same
counted_read before now bytes (Err (a_fault.ManifestOrder line)) same is = same

pub counted_fault : (before now : ℕ) (fault : ManifestFault) → (fault ≡ a_fault.Failed → Rose before now) → ((fault ≡ a_fault.Failed → ⊥) → now ≡ before) → IsCounted before now (Err fault)
counted_fault before now a_fault.OutOfMemory rose still = still (λ e. absurd (cc e))
counted_fault before now a_fault.Failed rose still = rose refl
counted_fault before now (a_fault.NoManifest gone) rose still = still (λ e. absurd (cc e))
counted_fault before now (a_fault.ManifestTooLarge size) rose still = still (λ e. absurd (cc e))
counted_fault before now (a_fault.ManifestLine line) rose still = still (λ e. absurd (cc e))
counted_fault before now (a_fault.ManifestOrder line) rose still = still (λ e. absurd (cc e))

-- what every call of a device says follows
pub cause_counted : (before now : ℕ) (result : Result Rows ManifestFault) → before ≤ now → IsCounted before now result → HasCause before now result (λ e. e ≡ a_fault.Failed)
cause_counted before now (Ok rows) later is = record { later = later; quiet = is; rose = tt }
cause_counted before now (Err a_fault.OutOfMemory) later is = record { later = later; quiet = tt; rose = λ e. absurd (cc e) }
cause_counted before now (Err a_fault.Failed) later is = record { later = later; quiet = tt; rose = λ e. is }
cause_counted before now (Err (a_fault.NoManifest gone)) later is = record { later = later; quiet = tt; rose = λ e. absurd (cc e) }
cause_counted before now (Err (a_fault.ManifestTooLarge size)) later is = record { later = later; quiet = tt; rose = λ e. absurd (cc e) }
cause_counted before now (Err (a_fault.ManifestLine line)) later is = record { later = later; quiet = tt; rose = λ e. absurd (cc e) }
cause_counted before now (Err (a_fault.ManifestOrder line)) later is = record { later = later; quiet = tt; rose = λ e. absurd (cc e) }

-- ---- a file that stays

not_risen : (before now : ℕ) → IsSteady before now → Rose before now → ⊥
not_risen before now steady rose = omega (arith, steady.0, steady.1, rose)

at_last : (old new : History) (name : List ℕ) (file : Option (List ℕ)) → Passes old new → Stays old new name file → file_at new name new.last ≡ file
at_last old new name file passes stays = stays new.last (record { from = passes.past.later; to = omega arith })

-- the whole file was taken
whole : (size : ℕ) (bytes : List ℕ) (file : Option (List ℕ)) → size_of file ≡ Some size → IsFrontOf size bytes file → (file ≡ Some bytes) × (length bytes ≡ size)
whole size bytes None sized front = absurd front
whole size bytes (Some text) sized front =
    let len : length text ≡ size = cc sized in
    let same : bytes ≡ text = front ∙ ap (λ (n : ℕ). take n text) (sym len) ∙ take-length text in
    (ap Some (sym same), ap length same ∙ len)

took_whole : (old new : History) (name bytes : List ℕ) (file : Option (List ℕ)) → Passes old new → IsTrue old.told → Stays old new name file → Took old new name bytes → (file ≡ Some bytes) × (length bytes ≤ most)
took_whole old new name bytes file passes told stays took =
    let sized : size_of file ≡ Some took.size = subst (λ (f : Option (List ℕ)). size_of f ≡ Some took.size) (stays took.sized.at (took.sized.during told)) (took.sized.so told) in
    let front : IsFrontOf took.size bytes file = subst (IsFrontOf took.size bytes) (at_last old new name file passes stays) (took.front told) in
    let all = whole took.size bytes file sized front in
    (all.0, omega (arith, took.short, took.few))

manifest_found : (old new : History) (name : List ℕ) (id : Id20) (file : Option (List ℕ)) (answer : Result Rows ManifestFault) → Passes old new → IsTrue old.told → Stays old new name file → is_null id.0 ≡ false → Reads old new name answer → manifest_in id file ≡ answer
manifest_found old new name id file answer passes told stays some reads =
    let all = took_whole old new name reads.bytes file passes told stays reads.took in
    ap (λ (t : Bool). cond t (Ok []) (file_manifest id file)) some
    ∙ ap (file_manifest id) all.0
    ∙ ap (λ (t : Bool). cond t (Err (a_fault.ManifestTooLarge (length reads.bytes))) (manifest_of reads.bytes)) (le-ltb most (length reads.bytes) all.1)
    ∙ reads.found

manifest_gone : (id : Id20) (file : Option (List ℕ)) → is_null id.0 ≡ false → file ≡ None → manifest_in id file ≡ Err (a_fault.NoManifest id)
manifest_gone id file some none = ap (λ (t : Bool). cond t (Ok []) (file_manifest id file)) some ∙ ap (file_manifest id) none

too_large : (id : Id20) (size : ℕ) (file : Option (List ℕ)) → most < size → size_of file ≡ Some size → file_manifest id file ≡ Err (a_fault.ManifestTooLarge size)
too_large id size None large sized = absurd (cc sized)
too_large id size (Some text) large sized =
    let len : length text ≡ size = cc sized in
    ap (λ (t : Bool). cond t (Err (a_fault.ManifestTooLarge (length text))) (manifest_of text)) (lt-ltb most (length text) (omega (arith, large, len)))
    ∙ ap (λ (n : ℕ). Err (a_fault.ManifestTooLarge n)) len

manifest_large : (id : Id20) (size : ℕ) (file : Option (List ℕ)) → is_null id.0 ≡ false → most < size → size_of file ≡ Some size → manifest_in id file ≡ Err (a_fault.ManifestTooLarge size)
manifest_large id size file some large sized = ap (λ (t : Bool). cond t (Ok []) (file_manifest id file)) some ∙ too_large id size file large sized

was_file : (old new : History) (name : List ℕ) (file : Option (List ℕ)) (P : Option (List ℕ) → Type 0) → IsTrue old.told → Stays old new name file → Was old new name P → P file
was_file old new name file P told stays was = subst P (stays was.at (was.during told)) (was.so told)

-- the file's own manifest is answered, or there was no memory
pub complete : (old new : History) (before now : ℕ) (name : List ℕ) (id : Id20) (result : Result Rows ManifestFault) → Passes old new → is_null id.0 ≡ false → Finds old new name id result → IsCounted before now result
    → (file : Option (List ℕ)) → IsTrue old.told → Stays old new name file → IsSteady before now → Answers (manifest_in id file) result
complete old new before now name id (Ok rows) passes some found counted file told stays steady = manifest_found old new name id file (Ok rows) passes told stays some found
complete old new before now name id (Err a_fault.OutOfMemory) passes some found counted file told stays steady = tt
complete old new before now name id (Err a_fault.Failed) passes some found counted file told stays steady = absurd (not_risen before now steady counted)
complete old new before now name id (Err (a_fault.NoManifest gone)) passes some found counted file told stays steady =
    manifest_gone id file some (was_file old new name file (λ file. file ≡ None) told stays found.1) ∙ ap (λ (i : Id20). Err (a_fault.NoManifest i)) (sym found.0)
complete old new before now name id (Err (a_fault.ManifestTooLarge size)) passes some found counted file told stays steady =
    manifest_large id size file some found.0 (was_file old new name file (λ file. size_of file ≡ Some size) told stays found.1)
complete old new before now name id (Err (a_fault.ManifestLine line)) passes some found counted file told stays steady = manifest_found old new name id file (Err (a_fault.ManifestLine line)) passes told stays some found
complete old new before now name id (Err (a_fault.ManifestOrder line)) passes some found counted file told stays steady = manifest_found old new name id file (Err (a_fault.ManifestOrder line)) passes told stays some found

-- what a file was at a moment at which it was there, it is in a store that it stays in
pub was_in : (store : Files) (old new : History) (name : List ℕ) (P : Option (List ℕ) → Type 0) → IsTrue old.told → StaysIn store new old.last name → (P None → ⊥) → Was old new name P → P (store name)
was_in store old new name P told stays there was = by (file_at new name was.at) refl (was.so told)
  where
    by : (file : Option (List ℕ)) → file_at new name was.at ≡ file → P file → P (store name)
    by None is so = absurd (there so)
    by (Some bytes) is so = let during = was.during told in subst P (sym (stays was.at during.from during.to bytes is)) so

-- what was read of a file that may come is its manifest in the store
pub read_in : (store : Files) (old new : History) (name : List ℕ) (id : Id20) (size : ℕ) (bytes : List ℕ) (answer : Result Rows ManifestFault) → IsTrue old.told → StaysIn store new old.last name → is_null id.0 ≡ false
    → size ≤ most → length bytes ≤ size → Was old new name (λ file. size_of file ≡ Some size) → Was old new name (IsFrontOf size bytes) → manifest_of bytes ≡ answer → manifest_in id (store name) ≡ answer
read_in store old new name id size bytes answer told stays some few short sized front found =
    let sized_in : size_of (store name) ≡ Some size = was_in store old new name (λ file. size_of file ≡ Some size) told stays (λ none. absurd (cc none)) sized in
    let front_in : IsFrontOf size bytes (store name) = was_in store old new name (IsFrontOf size bytes) told stays (λ none. none) front in
    let all = whole size bytes (store name) sized_in front_in in
    ap (λ (t : Bool). cond t (Ok []) (file_manifest id (store name))) some
    ∙ ap (file_manifest id) all.0
    ∙ ap (λ (t : Bool). cond t (Err (a_fault.ManifestTooLarge (length bytes))) (manifest_of bytes)) (le-ltb most (length bytes) (omega (arith, short, few)))
    ∙ found

-- the null parent has no rows whatever its file
pub null_complete : (id : Id20) (file : Option (List ℕ)) → is_null id.0 ≡ true → Answers (manifest_in id file) (Ok [])
null_complete id file null = ap (λ (t : Bool). cond t (Ok []) (file_manifest id file)) null
