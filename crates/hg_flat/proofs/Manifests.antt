-- What is known of the first parent in the course of a status.
use Rattle.std.proofs.Common.{ℕ, ◌≡◌, Bool, true, false, cond, List, [], Option, Some, None, Result, Ok, Err, option_map, refl, sym, ap, ◌∙◌, subst, arith}
use Rattle.std.specs.Prelude.{IsTrue, IfErr, IfOk, IfSome, OnOk, MatchBool}
use Rattle.hg_base.specs.declared.id.Id20.{Id20}
use Rattle.hg_base.specs.declared.stat.Stat.{Stat}
use Rattle.hg_tree.specs.History as trees
use Rattle.hg_shelf.specs.History as shelves
use Rattle.hg_shelf.specs.Polite.{StaysIn}
use Rattle.hg_shelf.specs.Reads.{size_of}
use Rattle.hg_shelf.proofs.Histories as shelf
use Rattle.hg_manifest.specs.Load.{Finds, IsFrontOf, Reads, Was, file_manifest, manifest_in}
use Rattle.hg_manifest.specs.Plain.{is_null, plain_name}
use Rattle.hg_manifest.specs.Rows.{Rows}
use Rattle.hg_manifest.specs.declared.fault.ManifestFault.{ManifestFault}
use Rattle.hg_manifest.specs.declared.fault.ManifestFault.TheVariants as a_manifest_fault
use Rattle.hg_manifest.specs.declared.row.FileRow.{FileRow}
use Rattle.hg_manifest.proofs.Loads.{read_in}
use Rattle.hg_compare.specs.Alike.{contents_name}
use Rattle.hg_compare.specs.Same.{parent_row}
use Rattle.hg_compare.specs.declared.looked.Looked.{Looked}
use Rattle.hg_flat.specs.Course.{ComparesFound, IsComparedBy, IsFound, IsJudged, IsManifest, LacksIn, LacksManifest, LoadsParent, MetBy, compared_letter, letter_of, upto}
use Rattle.hg_flat.specs.Met.{Status, WasRead}
use Rattle.hg_flat.specs.Parent.{KeepsRow, manifest_at, row_among, row_of}
use Rattle.hg_listing.specs.Cause.{of_manifest}
use Rattle.hg_listing.specs.declared.fault.StatusFault.{StatusFault}
use Rattle.hg_listing.specs.declared.fault.StatusFault.TheVariants as a_fault
use Rattle.hg_flat.specs.declared.parent.Loaded.{Loaded}

-- ---- moments of the shelf

pub was_longer : (old mid new : shelves.History) (name : List ℕ) (P : Option (List ℕ) → Type 0) → shelves.Passes old mid → shelves.Passes mid new → Was old mid name P → Was old new name P
was_longer old mid new name P first second was = record {
  at = was.at;
  during = λ told. let during = was.during told in record { from = during.from; to = omega (arith, during.to, second.past.later) };
  so = λ told. subst P (sym (ap (λ (f : shelves.Files). f name) (second.past.stay was.at (was.during told).to).shown)) (was.so told);
}

pub was_later : (old mid new : shelves.History) (name : List ℕ) (P : Option (List ℕ) → Type 0) → shelves.Passes old mid → Was mid new name P → Was old new name P
was_later old mid new name P first was = record {
  at = was.at;
  during = λ told. let during = was.during (first.past.told ∙ told) in record { from = omega (arith, first.past.later, during.from); to = during.to };
  so = λ told. was.so (first.past.told ∙ told);
}

-- a file that is a store's from the start of a status on is so over a part of it
stays_part : (store : shelves.Files) (start old new : shelves.History) (name : List ℕ) → shelves.Passes start old → StaysIn store new start.last name → StaysIn store new old.last name
stays_part store start old new name first stays k from to bytes is = stays k (omega (arith, first.past.later, from)) to bytes is

-- ---- what was read of a manifest

read_moved : (s : Status) (copy : trees.History) (old new : shelves.History) (answer : Result Rows ManifestFault) → shelves.Passes s.shelf_old old → shelves.Passes old new → WasRead (upto s copy old) answer → WasRead (upto s copy new) answer
read_moved s copy old new answer first second read = record {
  size = read.size;
  bytes = read.bytes;
  few = read.few;
  short = read.short;
  sized = was_longer s.shelf_old old new (plain_name s.id.0) (λ file. size_of file ≡ Some read.size) first second read.sized;
  front = was_longer s.shelf_old old new (plain_name s.id.0) (IsFrontOf read.size read.bytes) first second read.front;
  found = read.found;
}

-- a tree that is looked at meanwhile says nothing of the manifest
read_copy : (s : Status) (copy later : trees.History) (files : shelves.History) (answer : Result Rows ManifestFault) → WasRead (upto s copy files) answer → WasRead (upto s later files) answer
read_copy s copy later files answer read =
    record { size = read.size; bytes = read.bytes; few = read.few; short = read.short; sized = read.sized; front = read.front; found = read.found }

pub read_later : (s : Status) (copy later : trees.History) (old new : shelves.History) (answer : Result Rows ManifestFault) → shelves.Passes s.shelf_old old → shelves.Passes old new → WasRead (upto s copy old) answer → WasRead (upto s later new) answer
read_later s copy later old new answer first second read = read_copy s copy later new answer (read_moved s copy old new answer first second read)

by_null : (P Q R : Type 0) (b : Bool) → (Q → R) → MatchBool b P Q → MatchBool b P R
by_null P Q R true goes is = is
by_null P Q R false goes is = goes is

pub manifest_later : (s : Status) (copy later : trees.History) (old new : shelves.History) (rows : Rows) → shelves.Passes s.shelf_old old → shelves.Passes old new → IsManifest (upto s copy old) rows → IsManifest (upto s later new) rows
manifest_later s copy later old new rows first second is =
    by_null (rows ≡ []) (WasRead (upto s copy old) (Ok rows)) (WasRead (upto s later new) (Ok rows)) (is_null s.id.0)
    (read_later s copy later old new (Ok rows) first second) is

-- what a load read
reads_was : (s : Status) (copy : trees.History) (old new : shelves.History) (answer : Result Rows ManifestFault) → shelves.Passes s.shelf_old old → shelves.Passes old new → Reads old new (plain_name s.id.0) answer → WasRead (upto s copy new) answer
reads_was s copy old new answer first second reads = record {
  size = reads.took.size;
  bytes = reads.bytes;
  few = reads.took.few;
  short = reads.took.short;
  sized = was_later s.shelf_old old new (plain_name s.id.0) (λ file. size_of file ≡ Some reads.took.size) first reads.took.sized;
  front =
      was_later s.shelf_old old new (plain_name s.id.0) (IsFrontOf reads.took.size reads.bytes) first
      (record { at = new.last; during = λ told. record { from = second.past.later; to = omega arith }; so = λ told. reads.took.front told });
  found = reads.found;
}

-- ---- a load

if_null : (P Q : Type 0) (b : Bool) → (b ≡ true → P) → (b ≡ false → Q) → MatchBool b P Q
if_null P Q true first second = first refl
if_null P Q false first second = second refl

pub load_done : (s : Status) (old new : shelves.History) (id : Id20) (rows : Rows) (answer : Result Rows ManifestFault) → answer ≡ Ok rows → shelves.Passes s.shelf_old old → shelves.Passes old new → id ≡ s.id
    → (IsTrue (is_null id.0) → answer ≡ Ok []) → (is_null id.0 ≡ false → Finds old new (plain_name id.0) id (Ok rows)) → IsManifest (upto s s.tree_new new) rows
load_done s old new id rows answer done first second same null found =
    subst (λ (i : Id20). MatchBool (is_null i.0) (rows ≡ []) (WasRead (upto s s.tree_new new) (Ok rows))) same
    (if_null (rows ≡ []) (WasRead (upto s s.tree_new new) (Ok rows)) (is_null id.0) (λ is. cc (done, null is))
    (λ is. reads_was s s.tree_new old new (Ok rows) first second (subst (λ (i : Id20). Reads old new (plain_name i.0) (Ok rows)) same (found is))))

lacks_file : (s : Status) (old new : shelves.History) (fault : ManifestFault) → is_null s.id.0 ≡ false → shelves.Passes s.shelf_old old → shelves.Passes old new → Finds old new (plain_name s.id.0) s.id (Err fault)
    → LacksManifest (upto s s.tree_new new) (of_manifest fault)
lacks_file s old new a_manifest_fault.OutOfMemory committed first second found = tt
lacks_file s old new a_manifest_fault.Failed committed first second found = tt
lacks_file s old new (a_manifest_fault.NoManifest gone) committed first second found =
    (committed, found.0, was_later s.shelf_old old new (plain_name s.id.0) (λ file. file ≡ None) first found.1)
lacks_file s old new (a_manifest_fault.ManifestTooLarge size) committed first second found =
    (committed, found.0, was_later s.shelf_old old new (plain_name s.id.0) (λ file. size_of file ≡ Some size) first found.1)
lacks_file s old new (a_manifest_fault.ManifestLine line) committed first second found =
    (committed, reads_was s s.tree_new old new (Err (a_manifest_fault.ManifestLine line)) first second found)
lacks_file s old new (a_manifest_fault.ManifestOrder line) committed first second found =
    (committed, reads_was s s.tree_new old new (Err (a_manifest_fault.ManifestOrder line)) first second found)

pub load_failed : (s : Status) (old new : shelves.History) (id : Id20) (fault : ManifestFault) (answer : Result Rows ManifestFault) → answer ≡ Err fault → shelves.Passes s.shelf_old old → shelves.Passes old new → id ≡ s.id
    → (IsTrue (is_null id.0) → answer ≡ Ok []) → (is_null id.0 ≡ false → Finds old new (plain_name id.0) id (Err fault)) → LacksManifest (upto s s.tree_new new) (of_manifest fault)
load_failed s old new id fault answer failed first second same null found = by (is_null id.0) refl
  where
    by : (b : Bool) → is_null id.0 ≡ b → LacksManifest (upto s s.tree_new new) (of_manifest fault)
    by true is = absurd (cc (failed, null is))
    by false is = lacks_file s old new fault (ap (λ (i : Id20). is_null i.0) (sym same) ∙ is) first second (subst (λ (i : Id20). Finds old new (plain_name i.0) i (Err fault)) same (found is))

-- ---- a comparison with the parent

-- the manifest that is kept is that of the store
pub manifest_then : (store : shelves.Files) (s : Status) (rows : Rows) (path : List ℕ) → shelves.Passes s.shelf_old s.shelf_new → KeepsRow store s.shelf_new s.shelf_old.last s.id path → IsManifest s rows → manifest_at store s.id ≡ Ok rows
manifest_then store s rows path passes keeps is = by (is_null s.id.0) refl is
  where
    name : List ℕ
    name = plain_name s.id.0

    by : (b : Bool) → is_null s.id.0 ≡ b → MatchBool b (rows ≡ []) (WasRead s (Ok rows)) → manifest_in s.id (store name) ≡ Ok rows
    by true null none = ap (λ (t : Bool). cond t (Ok []) (file_manifest s.id (store name))) null ∙ ap Ok (sym none)
    by false some read =
        let told : IsTrue s.shelf_old.told = sym passes.past.told ∙ keeps.told in
        read_in store s.shelf_old s.shelf_new name s.id read.size read.bytes (Ok rows) told (keeps.manifest some) some read.few read.short read.sized read.front read.found

if_some_map : {A : Type 0} (o : Option A) (P Q : A → Type 0) → ((a : A) → P a → Q a) → IfSome o P → IfSome o Q
if_some_map None P Q goes is = tt
if_some_map (Some a) P Q goes is = goes a is

-- the contents of its row are kept
contents_kept : (store : shelves.Files) (s : Status) (rows : Rows) (path : List ℕ) → KeepsRow store s.shelf_new s.shelf_old.last s.id path → manifest_at store s.id ≡ Ok rows
    → IfSome (row_of rows path) (λ row. StaysIn store s.shelf_new s.shelf_old.last (contents_name row.id.0))
contents_kept store s rows path keeps formed =
    subst (λ (r : Result Rows ManifestFault). IfSome (row_among r path) (λ row. StaysIn store s.shelf_new s.shelf_old.last (contents_name row.id.0))) formed keeps.contents

-- so they are over a part
contents_part : (store : shelves.Files) (s : Status) (later : trees.History) (old new : shelves.History) (rows : Rows) (path : List ℕ) → shelves.Passes s.shelf_old old → KeepsRow store new s.shelf_old.last s.id path → manifest_at store s.id ≡ Ok rows
    → IfSome (row_of rows path) (λ row. StaysIn store new old.last (contents_name row.id.0))
contents_part store s later old new rows path first keeps formed =
    if_some_map (row_of rows path) (λ row. StaysIn store new s.shelf_old.last (contents_name row.id.0)) (λ row. StaysIn store new old.last (contents_name row.id.0))
    (λ row kept. stays_part store s.shelf_old old new (contents_name row.id.0) first kept) (contents_kept store (upto s later new) rows path keeps formed)

-- the letter by a manifest is that by the parent
pub found_letter : (store : shelves.Files) (s : Status) (copy later : trees.History) (old new : shelves.History) (rows : Rows) (path : List ℕ) (before : Stat) (result : Result Looked StatusFault)
    → shelves.Passes s.shelf_old old → shelves.Passes old new → IsManifest (upto s later new) rows → KeepsRow store new s.shelf_old.last s.id path
    → ((files : shelves.Files) → IsTrue old.told → IfSome (row_of rows path) (λ row. StaysIn files new old.last (contents_name row.id.0))
    → IfOk result (λ looked. IsJudged files (row_of rows path) (trees.now copy) path (letter_of looked)))
    → IfOk result (λ looked. IsFound store s.id (trees.now copy) path (letter_of looked))
found_letter store s copy later old new rows path before (Err fault) first second is keeps judged = tt
found_letter store s copy later old new rows path before (Ok looked) first second is keeps judged = record {
  letter_is =
      j.letter_is
      ∙ ap (λ (r : Result Rows ManifestFault). compared_letter (option_map (λ row. parent_row row (store (contents_name row.id.0))) (row_among r path)) ((trees.now copy).things path)) (sym formed);
  served = record { rows = rows; formed = formed; contents = j.contents };
}
  where
    formed : manifest_at store s.id ≡ Ok rows
    formed = manifest_then store (upto s later new) rows path (shelf.passes_trans s.shelf_old old new first second) keeps is

    j : IsJudged store (row_of rows path) (trees.now copy) path (letter_of looked)
    j = judged store (sym second.past.told ∙ keeps.told) (contents_part store s later old new rows path first keeps formed)

-- what was compared with a manifest was compared with the parent
pub found_compared : (store : shelves.Files) (s : Status) (copy later : trees.History) (old new : shelves.History) (rows : Rows) (path : List ℕ) (before : Stat) (looked : Looked) → shelves.Passes s.shelf_old old → shelves.Passes old new
    → IsManifest (upto s later new) rows → KeepsRow store new s.shelf_old.last s.id path → ComparesFound path copy later old new (row_of rows path) before looked → IsComparedBy store (upto s later new) copy path before looked
found_compared store s copy later old new rows path before looked first second is keeps compared = record {
  found = row_of rows path;
  since = old;
  told = sym second.past.told ∙ keeps.told;
  rows = ap (λ (r : Result Rows ManifestFault). option_map (λ row. parent_row row (store (contents_name row.id.0))) (row_among r path)) formed;
  stays = contents_part store s later old new rows path first keeps formed;
  compared = compared;
}
  where
    formed : manifest_at store s.id ≡ Ok rows
    formed = manifest_then store (upto s later new) rows path (shelf.passes_trans s.shelf_old old new first second) keeps is

-- rows that have one were read, for a parent that isn't null
pub read_some : (s : Status) (rows : Rows) (path : List ℕ) (row : FileRow) → row_of rows path ≡ Some row → IsManifest s rows → (is_null s.id.0 ≡ false) × WasRead s (Ok rows)
read_some s rows path row has is = by (is_null s.id.0) is
  where
    never : row_of [] path ≡ Some row → ⊥
    never is = absurd (cc (is))

    by : (b : Bool) → MatchBool b (rows ≡ []) (WasRead s (Ok rows)) → (b ≡ false) × WasRead s (Ok rows)
    by true none = absurd (never (sym (ap (λ (r : Rows). row_of r path) none) ∙ has))
    by false read = (refl, read)

pub met_in : (s : Status) (later : trees.History) (old new : shelves.History) (rows : Rows) (path : List ℕ) (before : Stat) (fault : StatusFault) → shelves.Passes s.shelf_old old → IsManifest (upto s later new) rows
    → LacksIn old new (row_of rows path) before fault → MetBy (upto s later new) path before fault
met_in s later old new rows path before a_fault.OutOfMemory first is lacks = tt
met_in s later old new rows path before a_fault.TreeFailed first is lacks = tt
met_in s later old new rows path before a_fault.ShelfFailed first is lacks = tt
met_in s later old new rows path before (a_fault.NoManifest gone) first is lacks = absurd lacks
met_in s later old new rows path before (a_fault.ManifestTooLarge size) first is lacks = absurd lacks
met_in s later old new rows path before (a_fault.ManifestLine line) first is lacks = absurd lacks
met_in s later old new rows path before (a_fault.ManifestOrder line) first is lacks = absurd lacks
met_in s later old new rows path before (a_fault.NoContents gone) first is (row, has, file) = record {
  committed = (read_some (upto s later new) rows path row has is).0;
  rows = rows;
  read = (read_some (upto s later new) rows path row has is).1;
  row = row;
  is = has;
  file = record {
    names = file.names;
    alike = file.alike;
    absent = was_later s.shelf_old old new (contents_name gone.0) (λ f. f ≡ None) first file.absent;
  };
}
met_in s later old new rows path before (a_fault.IgnoreTooLarge size) first is lacks = absurd lacks
met_in s later old new rows path before (a_fault.IgnoreText at) first is lacks = absurd lacks
met_in s later old new rows path before (a_fault.BadGlob line) first is lacks = absurd lacks
met_in s later old new rows path before (a_fault.BadRegexp line) first is lacks = absurd lacks
met_in s later old new rows path before (a_fault.RegexpTooBig line) first is lacks = absurd lacks
met_in s later old new rows path before (a_fault.BadInclude line) first is lacks = absurd lacks

pub met_load : (s : Status) (path : List ℕ) (before : Stat) (fault : StatusFault) → LacksManifest s fault → MetBy s path before fault
met_load s path before a_fault.OutOfMemory lacks = tt
met_load s path before a_fault.TreeFailed lacks = absurd lacks
met_load s path before a_fault.ShelfFailed lacks = tt
met_load s path before (a_fault.NoManifest gone) lacks = lacks
met_load s path before (a_fault.ManifestTooLarge size) lacks = lacks
met_load s path before (a_fault.ManifestLine line) lacks = lacks
met_load s path before (a_fault.ManifestOrder line) lacks = lacks
met_load s path before (a_fault.NoContents gone) lacks = absurd lacks
met_load s path before (a_fault.IgnoreTooLarge size) lacks = absurd lacks
met_load s path before (a_fault.IgnoreText at) lacks = absurd lacks
met_load s path before (a_fault.BadGlob line) lacks = absurd lacks
met_load s path before (a_fault.BadRegexp line) lacks = absurd lacks
met_load s path before (a_fault.RegexpTooBig line) lacks = absurd lacks
met_load s path before (a_fault.BadInclude line) lacks = absurd lacks

-- ---- at the ends of the calls

pub loads_room : (s : Status) (rows : Rows) (result : Result Loaded StatusFault) → IfOk result (λ loaded. loaded.manifest ≡ rows) → IfErr result (λ fault. fault ≡ a_fault.OutOfMemory) → IsManifest s rows → LoadsParent s result
loads_room s rows (Ok loaded) same kind is = subst (IsManifest s) (sym same) is
loads_room s rows (Err fault) same kind is = subst (LacksManifest s) (sym kind) tt

pub always : {T E : Type 0} (r : Result T E) (P : Type 0) → P → OnOk r P
always (Ok x) P is = is
always (Err e) P is = tt

pub always_failed : {T E : Type 0} (r : Result T E) (P : Type 0) → P → IfErr r (λ e. P)
always_failed (Ok x) P is = tt
always_failed (Err e) P is = is

pub ok_each : (r : Result Looked StatusFault) (A B C D E : Status → shelves.Files → Type 0) (Q : Status → shelves.Files → Looked → Type 0)
    → ((s : Status) (store : shelves.Files) → A s store → B s store → C s store → D s store → E s store → IfOk r (Q s store))
    → IfOk r (λ looked. (s : Status) (store : shelves.Files) → A s store → B s store → C s store → D s store → E s store → Q s store looked)
ok_each (Ok looked) A B C D E Q each = each
ok_each (Err fault) A B C D E Q each = tt
