-- What is read of the first parent's manifest over a span of calls.
use Rattle.std.proofs.Common.{ℕ, ◌≡◌, ◌≤◌, Bool, true, false, cond, List, [], Option, Some, None, Result, Ok, Err, refl, sym, ap, ◌∙◌, subst, arith}
use Rattle.std.specs.Prelude.{IsTrue, IfErr, IfOk, IfSome, OnOk, MatchBool}
use Rattle.hg_base.specs.declared.id.Id20.{Id20}
use Rattle.hg_base.specs.declared.stat.Stat.{Stat}
use Rattle.hg_compare.specs.Alike.{contents_name}
use Rattle.hg_manifest.specs.Load.{Finds, IsCounted, IsFrontOf, Reads, Was, file_manifest, manifest_in}
use Rattle.hg_manifest.specs.Plain.{is_null, plain_name}
use Rattle.hg_manifest.specs.Rows.{Rows}
use Rattle.hg_manifest.specs.declared.fault.ManifestFault.{ManifestFault}
use Rattle.hg_manifest.specs.declared.fault.ManifestFault.TheVariants as a_manifest_fault
use Rattle.hg_manifest.specs.declared.row.FileRow.{FileRow}
use Rattle.hg_manifest.proofs.Loads.{read_in}
use Rattle.hg_ops.specs.Cause.{of_manifest}
use Rattle.hg_ops.specs.Finding.{LacksIn, LoadsParent, MetBy}
use Rattle.hg_ops.specs.Parent.{HasStoreCause, IsManifest, KeepsRow, LacksManifest, Span, WasRead, manifest_at, row_among, upto}
use Rattle.hg_ops.specs.Parents.{row_at}
use Rattle.hg_ops.specs.declared.parent.Loaded.{Loaded}
use Rattle.hg_ops.specs.declared.refusal.OpFault.{OpFault}
use Rattle.hg_ops.specs.declared.refusal.OpFault.TheVariants as a_fault
use Rattle.hg_shelf.specs.History as shelves
use Rattle.hg_shelf.specs.Polite.{StaysIn}
use Rattle.hg_shelf.specs.Reads.{size_of}

-- ---- moments of the shelf

pub was_longer : (old mid new : shelves.History) (name : List ℕ) (P : Option (List ℕ) → Type 0) → shelves.Passes old mid → shelves.Passes mid new → Was old mid name P → Was old new name P
was_longer old mid new name P first second was = record {
  at = was.at;
  during = λ told. let during = was.during told in record { from = during.from; to = omega (arith, during.to, second.past.later) };
  so = λ told. subst P (sym (ap (λ (f : shelves.Files). f name) (second.past.stay was.at (was.during told).to).shown)) (was.so told);
}

pub was_later : (old mid new : shelves.History) (name : List ℕ) (P : Option (List ℕ) → Type 0) → shelves.Passes old mid → Was mid new name P → Was old new name P
was_later old mid new name P first was = record {
  at = was.at;
  during = λ told. let during = was.during (first.past.told ∙ told) in record { from = omega (arith, first.past.later, during.from); to = during.to };
  so = λ told. was.so (first.past.told ∙ told);
}

-- ---- what was read of a manifest

pub read_later : (s : Span) (old new : shelves.History) (answer : Result Rows ManifestFault) → shelves.Passes s.old old → shelves.Passes old new → WasRead (upto s old) answer → WasRead (upto s new) answer
read_later s old new answer first second read = record {
  size = read.size;
  bytes = read.bytes;
  few = read.few;
  short = read.short;
  sized = was_longer s.old old new (plain_name s.id.0) (λ file. size_of file ≡ Some read.size) first second read.sized;
  front = was_longer s.old old new (plain_name s.id.0) (IsFrontOf read.size read.bytes) first second read.front;
  found = read.found;
}

by_null : (P Q R : Type 0) (b : Bool) → (Q → R) → MatchBool b P Q → MatchBool b P R
by_null P Q R true goes is = is
by_null P Q R false goes is = goes is

pub manifest_later : (s : Span) (old new : shelves.History) (rows : Rows) → shelves.Passes s.old old → shelves.Passes old new → IsManifest (upto s old) rows → IsManifest (upto s new) rows
manifest_later s old new rows first second is =
    by_null (rows ≡ []) (WasRead (upto s old) (Ok rows)) (WasRead (upto s new) (Ok rows)) (is_null s.id.0) (read_later s old new (Ok rows) first second) is

-- what a load read
reads_was : (s : Span) (old new : shelves.History) (answer : Result Rows ManifestFault) → shelves.Passes s.old old → shelves.Passes old new → Reads old new (plain_name s.id.0) answer → WasRead (upto s new) answer
reads_was s old new answer first second reads = record {
  size = reads.took.size;
  bytes = reads.bytes;
  few = reads.took.few;
  short = reads.took.short;
  sized = was_later s.old old new (plain_name s.id.0) (λ file. size_of file ≡ Some reads.took.size) first reads.took.sized;
  front =
      was_later s.old old new (plain_name s.id.0) (IsFrontOf reads.took.size reads.bytes) first
      (record { at = new.last; during = λ told. record { from = second.past.later; to = omega arith }; so = λ told. reads.took.front told });
  found = reads.found;
}

-- ---- a load

if_null : (P Q : Type 0) (b : Bool) → (b ≡ true → P) → (b ≡ false → Q) → MatchBool b P Q
if_null P Q true first second = first refl
if_null P Q false first second = second refl

pub load_done : (s : Span) (old new : shelves.History) (id : Id20) (rows : Rows) (answer : Result Rows ManifestFault) → answer ≡ Ok rows → shelves.Passes s.old old → shelves.Passes old new → id ≡ s.id
    → (IsTrue (is_null id.0) → answer ≡ Ok []) → (is_null id.0 ≡ false → Finds old new (plain_name id.0) id (Ok rows)) → IsManifest (upto s new) rows
load_done s old new id rows answer done first second same null found =
    subst (λ (i : Id20). MatchBool (is_null i.0) (rows ≡ []) (WasRead (upto s new) (Ok rows))) same
    (if_null (rows ≡ []) (WasRead (upto s new) (Ok rows)) (is_null id.0) (λ is. cc (done, null is))
    (λ is. reads_was s old new (Ok rows) first second (subst (λ (i : Id20). Reads old new (plain_name i.0) (Ok rows)) same (found is))))

lacks_file : (s : Span) (old new : shelves.History) (fault : ManifestFault) → is_null s.id.0 ≡ false → shelves.Passes s.old old → shelves.Passes old new → Finds old new (plain_name s.id.0) s.id (Err fault)
    → LacksManifest (upto s new) (of_manifest fault)
lacks_file s old new a_manifest_fault.OutOfMemory committed first second found = tt
lacks_file s old new a_manifest_fault.Failed committed first second found = tt
lacks_file s old new (a_manifest_fault.NoManifest gone) committed first second found =
    (committed, found.0, was_later s.old old new (plain_name s.id.0) (λ file. file ≡ None) first found.1)
lacks_file s old new (a_manifest_fault.ManifestTooLarge size) committed first second found =
    (committed, found.0, was_later s.old old new (plain_name s.id.0) (λ file. size_of file ≡ Some size) first found.1)
lacks_file s old new (a_manifest_fault.ManifestLine line) committed first second found =
    (committed, reads_was s old new (Err (a_manifest_fault.ManifestLine line)) first second found)
lacks_file s old new (a_manifest_fault.ManifestOrder line) committed first second found =
    (committed, reads_was s old new (Err (a_manifest_fault.ManifestOrder line)) first second found)

pub load_failed : (s : Span) (old new : shelves.History) (id : Id20) (fault : ManifestFault) (answer : Result Rows ManifestFault) → answer ≡ Err fault → shelves.Passes s.old old → shelves.Passes old new → id ≡ s.id
    → (IsTrue (is_null id.0) → answer ≡ Ok []) → (is_null id.0 ≡ false → Finds old new (plain_name id.0) id (Err fault)) → LacksManifest (upto s new) (of_manifest fault)
load_failed s old new id fault answer failed first second same null found = by (is_null id.0) refl
  where
    by : (b : Bool) → is_null id.0 ≡ b → LacksManifest (upto s new) (of_manifest fault)
    by true is = absurd (cc (failed, null is))
    by false is = lacks_file s old new fault (ap (λ (i : Id20). is_null i.0) (sym same) ∙ is) first second (subst (λ (i : Id20). Finds old new (plain_name i.0) i (Err fault)) same (found is))

-- a load's count
pub load_counts : (before now : ℕ) (fault : ManifestFault) → before ≤ now → IsCounted before now (Err fault) → HasStoreCause {T = Loaded} before now (Err (of_manifest fault))
load_counts before now a_manifest_fault.OutOfMemory later counted = counted
load_counts before now a_manifest_fault.Failed later counted = (later, counted)
load_counts before now (a_manifest_fault.NoManifest id) later counted = counted
load_counts before now (a_manifest_fault.ManifestTooLarge size) later counted = counted
load_counts before now (a_manifest_fault.ManifestLine line) later counted = counted
load_counts before now (a_manifest_fault.ManifestOrder line) later counted = counted

pub of_no_tree : (fault : ManifestFault) → of_manifest fault ≡ a_fault.TreeFailed → ⊥
of_no_tree a_manifest_fault.OutOfMemory is = absurd (cc is)
of_no_tree a_manifest_fault.Failed is = absurd (cc is)
of_no_tree (a_manifest_fault.NoManifest id) is = absurd (cc is)
of_no_tree (a_manifest_fault.ManifestTooLarge size) is = absurd (cc is)
of_no_tree (a_manifest_fault.ManifestLine line) is = absurd (cc is)
of_no_tree (a_manifest_fault.ManifestOrder line) is = absurd (cc is)

pub loads_room : (s : Span) (rows : Rows) (result : Result Loaded OpFault) → IfOk result (λ loaded. loaded.manifest ≡ rows) → IfErr result (λ fault. fault ≡ a_fault.OutOfMemory) → IsManifest s rows → LoadsParent s result
loads_room s rows (Ok loaded) same kind is = subst (IsManifest s) (sym same) is
loads_room s rows (Err fault) same kind is = subst (LacksManifest s) (sym kind) tt

-- ---- where it is a store's

-- the manifest that was read is that of the store
pub manifest_then : (store : shelves.Files) (s : Span) (rows : Rows) (path : List ℕ) → shelves.Passes s.old s.new → KeepsRow store s.new s.old.last s.id path → IsManifest s rows → manifest_at store s.id ≡ Ok rows
manifest_then store s rows path passes keeps is = by (is_null s.id.0) refl is
  where
    name : List ℕ
    name = plain_name s.id.0

    by : (b : Bool) → is_null s.id.0 ≡ b → MatchBool b (rows ≡ []) (WasRead s (Ok rows)) → manifest_in s.id (store name) ≡ Ok rows
    by true null none = ap (λ (t : Bool). cond t (Ok []) (file_manifest s.id (store name))) null ∙ ap Ok (sym none)
    by false some read =
        let told : IsTrue s.old.told = sym passes.past.told ∙ keeps.told in
        read_in store s.old s.new name s.id read.size read.bytes (Ok rows) told (keeps.manifest some) some read.few read.short read.sized read.front read.found

-- the contents of its row are kept
pub contents_kept : (store : shelves.Files) (s : Span) (rows : Rows) (path : List ℕ) → KeepsRow store s.new s.old.last s.id path → manifest_at store s.id ≡ Ok rows
    → IfSome (row_at rows path) (λ row. StaysIn store s.new s.old.last (contents_name row.id.0))
contents_kept store s rows path keeps formed =
    subst (λ (r : Result Rows ManifestFault). IfSome (row_among r path) (λ row. StaysIn store s.new s.old.last (contents_name row.id.0))) formed keeps.contents

-- ---- faults

-- rows that have one were read, for a parent that isn't null
pub read_some : (s : Span) (rows : Rows) (path : List ℕ) (row : FileRow) → row_at rows path ≡ Some row → IsManifest s rows → WasRead s (Ok rows)
read_some s rows path row has is = by (is_null s.id.0) is
  where
    never : row_at [] path ≡ Some row → ⊥
    never is = absurd (cc (is))

    by : (b : Bool) → MatchBool b (rows ≡ []) (WasRead s (Ok rows)) → WasRead s (Ok rows)
    by true none = absurd (never (sym (ap (λ (r : Rows). row_at r path) none) ∙ has))
    by false read = read

pub met_in : (s : Span) (old new : shelves.History) (rows : Rows) (path : List ℕ) (before : Stat) (fault : OpFault) → shelves.Passes s.old old → IsManifest (upto s new) rows
    → LacksIn old new (row_at rows path) before fault → MetBy (upto s new) path before fault
met_in s old new rows path before a_fault.OutOfMemory first is lacks = tt
met_in s old new rows path before a_fault.TreeFailed first is lacks = tt
met_in s old new rows path before a_fault.ShelfFailed first is lacks = tt
met_in s old new rows path before (a_fault.NoManifest gone) first is lacks = absurd lacks
met_in s old new rows path before (a_fault.ManifestTooLarge size) first is lacks = absurd lacks
met_in s old new rows path before (a_fault.ManifestLine line) first is lacks = absurd lacks
met_in s old new rows path before (a_fault.ManifestOrder line) first is lacks = absurd lacks
met_in s old new rows path before (a_fault.NoContents gone) first is (row, has, file) = record {
  rows = rows;
  read = read_some (upto s new) rows path row has is;
  row = row;
  has = has;
  file = record {
    names = file.names;
    alike = file.alike;
    absent = was_later s.old old new (contents_name gone.0) (λ f. f ≡ None) first file.absent;
  };
}

pub met_load : (s : Span) (path : List ℕ) (before : Stat) (fault : OpFault) → LacksManifest s fault → MetBy s path before fault
met_load s path before a_fault.OutOfMemory lacks = tt
met_load s path before a_fault.TreeFailed lacks = absurd lacks
met_load s path before a_fault.ShelfFailed lacks = tt
met_load s path before (a_fault.NoManifest gone) lacks = lacks
met_load s path before (a_fault.ManifestTooLarge size) lacks = lacks
met_load s path before (a_fault.ManifestLine line) lacks = lacks
met_load s path before (a_fault.ManifestOrder line) lacks = lacks
met_load s path before (a_fault.NoContents gone) lacks = absurd lacks

-- ---- at the ends of the calls

pub always : {T E : Type 0} (r : Result T E) (P : Type 0) → P → OnOk r P
always (Ok x) P is = is
always (Err e) P is = tt

pub always_failed : {T E : Type 0} (r : Result T E) (P : Type 0) → P → IfErr r (λ e. P)
always_failed (Ok x) P is = tt
always_failed (Err e) P is = is
