-- Whatever a crash leaves of the record stays good throughout a call.
use Rattle.std.proofs.Common.{ℕ, ◌≡◌, ◌≤◌, ◌+◌, Bool, true, false, cond, List, [], Option, Some, None, option_map, Result, Ok, Err, refl, sym, ap, ◌∙◌, subst, arith, inl, inr}
use Rattle.hg_base.specs.declared.id.Id20.{Id20}
use Rattle.hg_compare.specs.Alike.{contents_name}
use Rattle.hg_compare.specs.Same.{parent_row}
use Rattle.hg_compare.specs.Tracked.{ParentRow}
use Rattle.hg_entry.specs.Table.{Table}
use Rattle.hg_flat.specs.Parent.{manifest_at, parent_rows, row_among}
use Rattle.hg_image.specs.Reading.{RecordFault}
use Rattle.hg_manifest.specs.Load.{file_manifest}
use Rattle.hg_manifest.specs.Plain.{is_null, plain_name}
use Rattle.hg_manifest.specs.Rows.{Rows}
use Rattle.hg_manifest.specs.declared.fault.ManifestFault.{ManifestFault}
use Rattle.hg_manifest.specs.declared.row.FileRow.{FileRow}
use Rattle.hg_save.proofs.Published.{left_until, published_later, published_sound}
use Rattle.hg_save.specs.Others.{KeepsRecords, WasPublished}
use Rattle.hg_save.specs.Record.{reading}
use Rattle.hg_session.specs.Acts.{Makes}
use Rattle.hg_session.specs.Call.{Saved}
use Rattle.hg_session.specs.Change.{NoneOurs, Publishes}
use Rattle.hg_session.specs.Crash.{IsCrashSafe, IsOwnOf, IsOwnRecord, IsSafeBy}
use Rattle.hg_session.specs.Good.{HoldsParent, IsGoodIn, IsGoodRecord, IsOfParent, LeavesGood, LeavesParent}
use Rattle.hg_session.specs.Told.{Told}
use Rattle.hg_session.proofs.GoodTables.{table_good, table_same}
use Rattle.hg_session.proofs.Makers.{none_since}
use Rattle.hg_shelf.specs.History.{Files, others}
use Rattle.hg_shelf.specs.Images.{Course, Goes, Scene, last_scene, scene}
use Rattle.hg_shelf.specs.Polite.{KeepsThere, Undisturbed, is_plain}
use Rattle.hg_tree.specs.History as tree
use Rattle.hg_walk.proofs.Growing.{trust_stays}
use Rattle.hg_walk.specs.Walking.{first_id, rows_in}

-- what records two tables records one
pub one_table : (r : Option (Result Table RecordFault)) (a b : Table) → r ≡ Some (Ok a) → r ≡ Some (Ok b) → a ≡ b
one_table r a b first second =
    let both : Some (Ok a) ≡ r = sym first in
    let same : Some (Ok a) ≡ Some (Ok b) = both ∙ second in
    cc same

-- ---- the plain store

-- a manifest that is there in some files is the same in others that hold it, and so is each row with contents
module _ (id : Id20) (f g : Files) (holds : HoldsParent id f g) where
  abbrev read_as : Rows → Result Rows ManifestFault
  read_as rows = Ok rows

  pub manifest_held : (rows : Rows) → manifest_at f id ≡ Ok rows → manifest_at g id ≡ Ok rows
  manifest_held rows is = by (is_null id.0) refl
    where
      by_file : (file : Option (List ℕ)) → f (plain_name id.0) ≡ file → is_null id.0 ≡ false → file_manifest id file ≡ read_as rows → manifest_at g id ≡ read_as rows
      by_file None there some read = absurd (cc read)
      by_file (Some bytes) there some read =
          ap (λ (t : Bool). cond t (Ok []) (file_manifest id (g (plain_name id.0)))) some ∙ ap (file_manifest id) (holds (plain_name id.0) bytes (inl refl) there) ∙ read

      by : (null : Bool) → is_null id.0 ≡ null → manifest_at g id ≡ read_as rows
      by true null =
          ap (λ (t : Bool). cond t (Ok []) (file_manifest id (g (plain_name id.0)))) null
          ∙ sym (ap (λ (t : Bool). cond t (Ok []) (file_manifest id (f (plain_name id.0)))) null) ∙ is
      by false some =
          by_file (f (plain_name id.0)) refl some (sym (ap (λ (t : Bool). cond t (Ok []) (file_manifest id (f (plain_name id.0)))) some) ∙ is)

  row_held : (rows : Rows) → manifest_at f id ≡ Ok rows → (path : List ℕ) (row : ParentRow) (bytes : List ℕ) → row.bytes ≡ Some bytes → parent_rows f id path ≡ Some row → parent_rows g id path ≡ Some row
  row_held rows is path row bytes some has = by (row_among (manifest_at f id) path) refl has
    where
      by : (found : Option FileRow) → row_among (manifest_at f id) path ≡ found → option_map (λ (r : FileRow). parent_row r (f (contents_name r.id.0))) found ≡ Some row → parent_rows g id path ≡ Some row
      by None none same = absurd (cc same)
      by (Some r) there same =
          let own : parent_row r (f (contents_name r.id.0)) ≡ row = cc same in
          let held : f (contents_name r.id.0) ≡ Some bytes = ap (λ (p : ParentRow). p.bytes) own ∙ some in
          let other : g (contents_name r.id.0) ≡ f (contents_name r.id.0) = holds (contents_name r.id.0) bytes (inr (path, r, there, refl)) held ∙ sym held in
          ap (λ (m : Result Rows ManifestFault). option_map (λ (r : FileRow). parent_row r (g (contents_name r.id.0))) (row_among m path)) (manifest_held rows is ∙ sym is)
          ∙ ap (option_map (λ (r : FileRow). parent_row r (g (contents_name r.id.0)))) there
          ∙ ap (λ (file : Option (List ℕ)). Some (parent_row r file)) other ∙ ap Some own

-- what is good by a plain store is by one that holds what its first parent needs
pub good_held : (f g : Files) (t : Table) (h : tree.History) → HoldsParent (first_id t) f g → IsGoodIn f t h → IsGoodIn g t h
good_held f g t h holds good = record {
  consistent = record {
    files = good.consistent.files;
    read = manifest_held (first_id t) f g holds good.consistent.files good.consistent.read;
    first = good.consistent.first;
    second = good.consistent.second;
  };
  trusted = record {
    entries = λ path entry stamp is could.
        let earned = good.trusted.entries path entry stamp is could in
        record {
          row = earned.row;
          is = row_held (first_id t) f g holds good.consistent.files good.consistent.read path earned.row _ earned.seen.so.bytes earned.is;
          flag = earned.flag;
          seen = earned.seen;
        };
    caches = good.trusted.caches;
  };
}

-- all that decides a parent is plain
pub plain_of : (files : Files) (id : Id20) (name : List ℕ) → IsOfParent files id name → is_plain name ≡ true
plain_of files id name (inl same) = let plain : is_plain (plain_name id.0) ≡ true = refl in ap is_plain same ∙ plain
plain_of files id name (inr (path, row, there, same)) = let plain : is_plain (contents_name row.id.0) ≡ true = refl in ap is_plain same ∙ plain

-- what files need of a parent in a store is had where the store's is, which holds theirs
pub holds_front : (id : Id20) (f g c : Files) → HoldsParent id f g → HoldsParent id g c → HoldsParent id f c
holds_front id f g c front holds name bytes of there = holds name bytes (by of) (front name bytes of there)
  where
    row : (path : List ℕ) (found : FileRow) (answer : Result Rows ManifestFault) → manifest_at f id ≡ answer → row_among answer path ≡ Some found → row_among (manifest_at g id) path ≡ Some found
    row path found (Err fault) is has = absurd (cc has)
    row path found (Ok rows) is has = ap (λ (m : Result Rows ManifestFault). row_among m path) (manifest_held id f g front rows is) ∙ has

    by : IsOfParent f id name → IsOfParent g id name
    by (inl same) = inl same
    by (inr (path, found, has, same)) = inr (path, found, row path found (manifest_at f id) refl has, same)

-- what was good is, over a longer history
pub good_later : (files : Files) (t : Table) (h later : tree.History) → tree.Extends h later → IsGoodIn files t h → IsGoodIn files t later
good_later files t h later past good = record { consistent = good.consistent; trusted = trust_stays (rows_in t files) t h later past good.trusted }

-- ---- a call

module _ (a b : Course) (goes : Goes a b) (calm : Undisturbed a b) (keep : KeepsRecords others b a.history.last) (plain : KeepsThere b.history a.history.last)
    (parent : (k : ℕ) → a.history.last ≤ k → k ≤ b.history.last → LeavesParent (last_scene b).files (scene b k))
    (h : tree.History) (published : (t : Table) (was : WasPublished b a.history.last b.history.last (Some (Ok t))) → IsGoodIn (scene b (was.at + 1)).files t h) (good : LeavesGood h (last_scene a)) where
  abbrev saved : Saved
  saved = record { old = a; new = b }

  abbrev start : ℕ
  start = a.history.last

  abbrev store : Files
  store = (last_scene b).files

  -- what is there at a moment of the call is so at its end
  to_end : (k : ℕ) → start ≤ k → k ≤ b.history.last → (t : Table) → HoldsParent (first_id t) (scene b k).files store
  to_end k after within t name bytes of there = plain.each name (plain_of (scene b k).files (first_id t) name of) k b.history.last after within (omega arith) bytes there

  -- what a crash leaves is good by what it leaves of the plain store, where it is by that of the end
  record_left : (k : ℕ) → start ≤ k → k ≤ b.history.last → (f : Files) → (scene b k).leaves f → IsGoodRecord store h (reading f) → IsGoodRecord f h (reading f)
  record_left k after within f left is = (is.0, is.1, good_held store f is.0 h ((parent k after within).shown f is.0 left is.1) is.2)

  -- and at the start the other way round
  by_start : (f : Files) → (last_scene a).leaves f → IsGoodRecord store h (reading f)
  by_start f left =
      let there = good f left in
      let holds : HoldsParent (first_id there.0) f (scene b start).files = (parent start (omega arith) goes.past.later).left f there.0 ((goes.back start (omega arith)).left f left) there.1 in
      (there.0, there.1, good_held (scene b start).files store there.0 h (to_end start (omega arith) goes.past.later there.0) (good_held f (scene b start).files there.0 h holds there.2))

  of_others : (k : ℕ) → k ≤ b.history.last → (r : Option (Result Table RecordFault)) → WasPublished b start k r → IsGoodRecord store h r
  of_others k within r was =
      let sound = published_sound b start k r keep within was in
      let all : WasPublished b start b.history.last r = published_later b start k b.history.last r within was in
      let own : WasPublished b start b.history.last (Some (Ok sound.0)) = subst (λ (r : Option (Result Table RecordFault)). WasPublished b start b.history.last r) sound.1 all in
      (sound.0, sound.1, good_held (scene b (own.at + 1)).files store sound.0 h (to_end (own.at + 1) (omega (arith, own.from)) (omega (arith, own.to)) sound.0) (published sound.0 own))

  -- as long as the caller made no step
  pub before : (k : ℕ) → start ≤ k → k ≤ b.history.last → NoneOurs b.history start k → (f : Files) → (scene b k).leaves f → IsGoodRecord store h (reading f)
  before k after within none f left =
      elim (left_until b start calm.others keep (IsGoodRecord store h) k after none within (λ g there. by_start g ((goes.kept start (omega arith)).left g there)) f left) [
        | inl known ↦ known
        | inr was ↦ of_others k within (reading f) was
      ]

  -- at each moment, where what the call published is good
  pub good_by : (own : Option Table) → ((r : Option (Result Table RecordFault)) → IsOwnRecord own r → IsGoodRecord store h r) → IsCrashSafe own saved
      → (k : ℕ) → start ≤ k → k ≤ b.history.last → LeavesGood h (scene b k)
  good_by own is_good crash k after within f left = record_left k after within f left (elim (crash.each k f after within left) [
    | inl was ↦ let there = by_start was.0 was.1 in (there.0, was.2 ∙ there.1, there.2)
    | inr (inl is) ↦ is_good (reading f) is
    | inr (inr was) ↦ of_others k within (reading f) was
  ])

  module _ (shown : (k : ℕ) → k ≤ b.history.last → (scene b k).leaves (scene b k).files) (Does : Makes) (nothing : (from to : Scene) → Does.may from to → ⊥)
      (fair : (from : ℕ) → start ≤ from → from ≤ b.history.last → NoneOurs b.history start from → Does.fair b.history from)
      (makes : (loaded made : Table) (said : Told) (changed : Bool) → Does.does loaded made said changed → IsGoodIn store loaded h → IsGoodIn store made h) where
    own_good : (is : Publishes Does saved) → IsGoodIn store is.is.found h
    own_good is =
        let later : start ≤ is.since = omega (arith, is.stretch.start, is.from) in
        let within : is.since ≤ b.history.last = omega (arith, is.upto, is.stretch.end) in
        let none : NoneOurs b.history start is.since = none_since Does nothing saved is in
        let stood = before is.since later within none (scene b is.since).files (shown is.since within) in
        let same : stood.0 ≡ is.is.loaded = one_table (reading (scene b is.since).files) stood.0 is.is.loaded stood.1 (is.is.there (fair is.since later within none)) in
        let loaded : IsGoodIn store is.is.loaded h = subst (λ (t : Table). IsGoodIn store t h) same stood.2 in
        table_good store is.is.made is.is.found h (table_same is.is.made is.is.found is.is.is) (makes is.is.loaded is.is.made is.is.said true is.is.does loaded)

    own_record : (own : Option Table) → IsOwnOf Does saved own → (r : Option (Result Table RecordFault)) → IsOwnRecord own r → IsGoodRecord store h r
    own_record None of r own = absurd own
    own_record (Some t) (is, same) r own = (t, own, subst (λ (x : Table). IsGoodIn store x h) same (own_good is))

    -- at each moment, where the call makes good tables of good ones
    pub good_stays : IsSafeBy Does saved → (k : ℕ) → start ≤ k → k ≤ b.history.last → LeavesGood h (scene b k)
    good_stays safe = good_by safe.0 (own_record safe.0 safe.1) safe.2
