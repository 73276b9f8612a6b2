-- A fault of a status: what was met behind the load was met in the call, and where nobody else steps what the first parent has stands there.
use Rattle.std.proofs.Common.{ℕ, ◌≡◌, ◌<◌, ◌≤◌, Bool, false, cond, List, [], length, take, Option, Some, None, Result, Ok, Err, IsTrue, refl, sym, ap, ◌∙◌, subst, arith, le-ltb}
use Rattle.std.proofs.lemmas.Bool.{lt-ltb}
use Rattle.std.proofs.Math.Seq.{take-length}
use Rattle.hg_base.specs.declared.id.Id20.{Id20}
use Rattle.hg_base.specs.declared.stat.Stat.{Stat}
use Rattle.hg_compare.specs.Alike.{contents_name, is_alike}
use Rattle.hg_flat.specs.First.{AreServedBefore, LacksAt, MetFirst}
use Rattle.hg_flat.specs.Met.{LacksContents, Met, NeedsManifest, Shows, Status, WasRead}
use Rattle.hg_flat.specs.Parent.{Asking, IsAsked, WasAsked, manifest_at}
use Rattle.hg_listing.specs.declared.fault.StatusFault.{StatusFault}
use Rattle.hg_listing.specs.declared.fault.StatusFault.TheVariants as a_fault
use Rattle.hg_listing.specs.declared.row.Wanted.{Wanted}
use Rattle.hg_manifest.specs.Load.{IsFrontOf, Was, file_manifest, manifest_in}
use Rattle.hg_manifest.specs.Plain.{is_null, most, plain_name}
use Rattle.hg_manifest.specs.Rows.{Rows, manifest_of}
use Rattle.hg_manifest.specs.declared.fault.ManifestFault.{ManifestFault}
use Rattle.hg_manifest.specs.declared.fault.ManifestFault.TheVariants as a_manifest_fault
use Rattle.hg_shelf.specs.History as shelf
use Rattle.hg_shelf.specs.Reads.{size_of}
use Rattle.hg_tree.specs.History as tree
use Rattle.hg_tree.specs.Moment.{Moment, stat_at}

-- ---- over a longer call

module _ (wanted : Wanted) (asks : Asking) (id : Id20) (old new : tree.History) (start behind end : shelf.History) (before : shelf.Extends start behind) where
  abbrev part : Status
  part = record { wanted = wanted; asks = asks; id = id; tree_old = old; tree_new = new; shelf_old = behind; shelf_new = end }

  abbrev whole : Status
  whole = record { wanted = wanted; asks = asks; id = id; tree_old = old; tree_new = new; shelf_old = start; shelf_new = end }

  shows_longer : (P : Moment → Type 0) → Shows part P → Shows whole P
  shows_longer P shows = record { at = shows.at; from = shows.from; to = shows.to; so = shows.so }

  holds_longer : (name : List ℕ) (P : Option (List ℕ) → Type 0) → Was behind end name P → Was start end name P
  holds_longer name P was = record {
    at = was.at;
    during = λ told. let during = was.during (before.told ∙ told) in record { from = omega (arith, before.later, during.from); to = during.to };
    so = λ told. was.so (before.told ∙ told);
  }

  read_longer : (answer : Result Rows ManifestFault) → WasRead part answer → WasRead whole answer
  read_longer answer read = record {
    size = read.size;
    bytes = read.bytes;
    few = read.few;
    short = read.short;
    sized = holds_longer (plain_name id.0) (λ file. size_of file ≡ Some read.size) read.sized;
    front = holds_longer (plain_name id.0) (IsFrontOf read.size read.bytes) read.front;
    found = read.found;
  }

  needs_longer : NeedsManifest part → NeedsManifest whole
  needs_longer needs = record { path = needs.path; asked = needs.asked; committed = needs.committed }

  lacks_longer : (gone : Id20) (lacks : LacksContents part gone) → LacksAt whole lacks.path gone
  lacks_longer gone lacks = (
    record {
      path = lacks.path;
      asked = lacks.asked;
      rows = lacks.rows;
      read = read_longer (Ok lacks.rows) lacks.read;
      row = lacks.row;
      is = lacks.is;
      names = lacks.names;
      alike = shows_longer (λ moment. IsAsked asks moment lacks.path × (stat : Stat) × (stat_at moment lacks.path ≡ Some stat) × IsTrue (is_alike lacks.row stat)) lacks.alike;
      absent = holds_longer (contents_name gone.0) (λ file. file ≡ None) lacks.absent;
      committed = lacks.committed;
    },
    refl,
  )

  pub met_longer : (fault : StatusFault) → Met part fault → Met whole fault
  met_longer a_fault.OutOfMemory met = tt
  met_longer a_fault.TreeFailed met = tt
  met_longer a_fault.ShelfFailed met = tt
  met_longer (a_fault.NoManifest gone) met = (needs_longer met.0, met.1, holds_longer (plain_name id.0) (λ file. file ≡ None) met.2)
  met_longer (a_fault.ManifestTooLarge size) met = (needs_longer met.0, met.1, holds_longer (plain_name id.0) (λ file. size_of file ≡ Some size) met.2)
  met_longer (a_fault.ManifestLine line) met = (needs_longer met.0, read_longer (Err (a_manifest_fault.ManifestLine line)) met.1)
  met_longer (a_fault.ManifestOrder line) met = (needs_longer met.0, read_longer (Err (a_manifest_fault.ManifestOrder line)) met.1)
  met_longer (a_fault.NoContents gone) met = (lacks_longer gone met).0
  met_longer (a_fault.IgnoreTooLarge size) met = met
  met_longer (a_fault.IgnoreText at) met = met
  met_longer (a_fault.BadGlob line) met = met
  met_longer (a_fault.BadRegexp line) met = met
  met_longer (a_fault.RegexpTooBig line) met = met
  met_longer (a_fault.BadInclude line) met = met

  -- so was the first of several contents that were absent
  pub first_longer : ((path : List ℕ) → AreServedBefore part path → AreServedBefore whole path) → (fault : StatusFault) → MetFirst part fault → MetFirst whole fault
  first_longer moved a_fault.OutOfMemory met = tt
  first_longer moved a_fault.TreeFailed met = tt
  first_longer moved a_fault.ShelfFailed met = tt
  first_longer moved (a_fault.NoManifest gone) met = tt
  first_longer moved (a_fault.ManifestTooLarge size) met = tt
  first_longer moved (a_fault.ManifestLine line) met = tt
  first_longer moved (a_fault.ManifestOrder line) met = tt
  first_longer moved (a_fault.NoContents gone) met = let at = lacks_longer gone met.lacks in record { lacks = at.0; before = subst (AreServedBefore whole) (sym at.1) (moved met.lacks.path met.before) }
  first_longer moved (a_fault.IgnoreTooLarge size) met = tt
  first_longer moved (a_fault.IgnoreText at) met = tt
  first_longer moved (a_fault.BadGlob line) met = tt
  first_longer moved (a_fault.BadRegexp line) met = tt
  first_longer moved (a_fault.RegexpTooBig line) met = tt
  first_longer moved (a_fault.BadInclude line) met = tt

-- ---- what a manifest's file says

taken : (size : ℕ) (bytes : List ℕ) (file : Option (List ℕ)) → size_of file ≡ Some size → IsFrontOf size bytes file → (file ≡ Some bytes) × (length bytes ≡ size)
taken size bytes None sized front = absurd front
taken size bytes (Some text) sized front =
    let len : length text ≡ size = cc (sized) in
    let same : bytes ≡ text = front ∙ ap (λ (n : ℕ). take n text) (sym len) ∙ take-length text in
    (ap Some (sym same), ap length same ∙ len)

not_null : (id : Id20) (file : Option (List ℕ)) → is_null id.0 ≡ false → manifest_in id file ≡ file_manifest id file
not_null id file committed = ap (λ (t : Bool). cond t (Ok []) (file_manifest id file)) committed

text_found : (id : Id20) (bytes : List ℕ) → length bytes ≤ most → file_manifest id (Some bytes) ≡ manifest_of bytes
text_found id bytes few = ap (λ (t : Bool). cond t (Err (a_manifest_fault.ManifestTooLarge (length bytes))) (manifest_of bytes)) (le-ltb most (length bytes) few)

large_found : (id : Id20) (size : ℕ) (file : Option (List ℕ)) → most < size → size_of file ≡ Some size → file_manifest id file ≡ Err (a_manifest_fault.ManifestTooLarge size)
large_found id size None large sized = absurd (cc (sized))
large_found id size (Some text) large sized =
    let len : length text ≡ size = cc (sized) in
    ap (λ (t : Bool). cond t (Err (a_manifest_fault.ManifestTooLarge (length text))) (manifest_of text)) (lt-ltb most (length text) (omega (arith, large, len)))
    ∙ ap (λ (n : ℕ). Err (a_manifest_fault.ManifestTooLarge n)) len

-- ---- where nobody else steps

module _ (s : Status) (copy : tree.Extends s.tree_old s.tree_new) (files : shelf.Extends s.shelf_old s.shelf_new) (same_tree : s.tree_new.last ≡ s.tree_old.last) (same_shelf : s.shelf_new.last ≡ s.shelf_old.last)
    (tree_told : IsTrue s.tree_old.told) (shelf_told : IsTrue s.shelf_old.told) where
  abbrev there : shelf.Files
  there = (shelf.now s.shelf_old).files

  pub shows_now : (P : Moment → Type 0) → Shows s P → P (tree.now s.tree_old)
  shows_now P shows =
      let at : shows.at ≡ s.tree_old.last = omega (arith, shows.from tree_told, shows.to tree_told, same_tree) in
      subst P (ap s.tree_new.at at ∙ copy.stay s.tree_old.last (omega arith)) (shows.so tree_told)

  -- a path that was compared is compared there
  pub asked_now : (path : List ℕ) → WasAsked s.asks s.tree_old s.tree_new path → IsAsked s.asks (tree.now s.tree_old) path
  asked_now path was =
      let at : was.at ≡ s.tree_old.last = omega (arith, was.from tree_told, was.to tree_told, same_tree) in
      subst (λ (moment : Moment). IsAsked s.asks moment path) (ap s.tree_new.at at ∙ copy.stay s.tree_old.last (omega arith))
      (subst (λ (moment : Moment). IsAsked s.asks moment path) (sym (was.is tree_told)) was.asked)

  pub holds_now : (name : List ℕ) (P : Option (List ℕ) → Type 0) → Was s.shelf_old s.shelf_new name P → P (there name)
  holds_now name P was =
      let during = was.during shelf_told in
      let at : was.at ≡ s.shelf_old.last = omega (arith, during.from, during.to, same_shelf) in
      subst P (ap (λ (k : ℕ). (s.shelf_new.at k).files name) at ∙ ap (λ (f : shelf.Files). f name) (files.stay s.shelf_old.last (omega arith)).shown) (was.so shelf_told)

  pub read_now : (answer : Result Rows ManifestFault) → is_null s.id.0 ≡ false → WasRead s answer → manifest_at there s.id ≡ answer
  read_now answer committed read =
      let all = taken read.size read.bytes (there (plain_name s.id.0)) (holds_now (plain_name s.id.0) (λ file. size_of file ≡ Some read.size) read.sized)
      (holds_now (plain_name s.id.0) (IsFrontOf read.size read.bytes) read.front) in
      not_null s.id (there (plain_name s.id.0)) committed ∙ ap (file_manifest s.id) all.0 ∙ text_found s.id read.bytes (omega (arith, all.1, read.few)) ∙ read.found

  pub gone_now : (gone : Id20) → is_null s.id.0 ≡ false → gone ≡ s.id → Was s.shelf_old s.shelf_new (plain_name s.id.0) (λ file. file ≡ None) → manifest_at there s.id ≡ Err (a_manifest_fault.NoManifest gone)
  gone_now gone committed is absent =
      not_null s.id (there (plain_name s.id.0)) committed ∙ ap (file_manifest s.id) (holds_now (plain_name s.id.0) (λ file. file ≡ None) absent)
      ∙ ap (λ (id : Id20). Err (a_manifest_fault.NoManifest id)) (sym is)

  pub large_now : (size : ℕ) → is_null s.id.0 ≡ false → most < size → Was s.shelf_old s.shelf_new (plain_name s.id.0) (λ file. size_of file ≡ Some size)
      → manifest_at there s.id ≡ Err (a_manifest_fault.ManifestTooLarge size)
  large_now size committed large sized =
      not_null s.id (there (plain_name s.id.0)) committed
      ∙ large_found s.id size (there (plain_name s.id.0)) large (holds_now (plain_name s.id.0) (λ file. size_of file ≡ Some size) sized)
