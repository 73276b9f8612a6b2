-- That contents which are answered as absent are those of the first path.
use Rattle.std.proofs.Common.{ℕ, ◌≡◌, ◌≤◌, ◌<◌, ◌||◌, true≢false, List, [], ◌∷◌, ◌++◌, ◌+◌, map, length, take, get_or, Option, Some, None, option_map, inl, inr, refl, sym, ap, ◌∙◌, subst, arith}
use Rattle.std.specs.Prelude.{is_some}
use Rattle.std.specs.List.{Contains}
use Rattle.std.specs.Ordering.{is_lt, nat_cmp}
use Rattle.std.specs.Cmp.Lexicographic.{nat_list_cmp_total, slice_cmp}
use Rattle.std.proofs.lemmas.Bool.{and_parts, cases_lt}
use Rattle.std.proofs.lemmas.List.{get_or-take, get_or_default, length-take-le, map-append, take_more}
use Rattle.std.proofs.lemmas.List.MinMax.{ranks_by}
use Rattle.std.proofs.lemmas.List.Sorted.{sorted_far}
use Rattle.hg_base.specs.declared.id.Id20.{Id20}
use Rattle.hg_compare.specs.Tracked.{is_file_or_link}
use Rattle.hg_entry.specs.Entry.{view}
use Rattle.hg_entry.specs.Table.{marks_of}
use Rattle.hg_flat.specs.First.{AreServedBefore, IsBefore, MetAt, MetFirst}
use Rattle.hg_flat.specs.Judged.{AddsBy, IsLeftAsked, IsPutBy}
use Rattle.hg_flat.specs.Kept.{AreAscending, row_at, source_of}
use Rattle.hg_flat.specs.Course.{upto}
use Rattle.hg_flat.specs.Met.{Status}
use Rattle.hg_flat.specs.Needed.{ReadsNeeded, ReadsPath, ReadsPaths}
use Rattle.hg_flat.specs.Parent.{Asking, IsAsked, IsServed, asked_by, is_compared, is_plain_entry}
use Rattle.hg_flat.specs.Shown.{flat_in}
use Rattle.hg_flat.specs.declared.flat.Flat.{Flat}
use Rattle.hg_flat.specs.declared.kept.FlatRow.{FlatRow}
use Rattle.hg_flat.proofs.Holding.{found_has}
use Rattle.hg_flat.proofs.Judging.{left_begun}
use Rattle.hg_flat.proofs.Needing.{own_front, reads_next, reads_once}
use Rattle.hg_flat.proofs.Tracking.{in_put}
use Rattle.hg_listing.specs.declared.fault.StatusFault.{StatusFault}
use Rattle.hg_listing.specs.declared.fault.StatusFault.TheVariants as a_fault
use Rattle.hg_listing.specs.declared.row.Row.{Row}
use Rattle.hg_listing.specs.declared.row.Wanted.{Wanted}
use Rattle.hg_shelf.specs.History as shelves
use Rattle.hg_tree.specs.History as trees
use Rattle.hg_tree.specs.Moment.{Moment}

-- of each entry whose rows were put, and whose path was compared, all was there that its comparison asks for
pub added_served : (asks : Asking) (P : Type 0) (S : List ℕ → Type 0) (files : shelves.Files) (id : Id20) (m : Moment) (wanted : Wanted) (all : List FlatRow) (a b : List Row) → AddsBy asks P S files id m wanted all a b
    → (kept : FlatRow) → Contains all kept → S kept.path → IsAsked asks m kept.path → IsServed files id m kept.path
added_served asks P S files id m wanted all a b (more, is, put) kept has meets asked =
    let one = in_put (IsPutBy asks P S files id m wanted) all more put kept has in one.1.found.served meets asked

-- where all paths before one are served, what is met of it is the first
pub first_by : (s : Status) (path : List ℕ) → AreServedBefore s path → (fault : StatusFault) → MetAt s path fault → MetFirst s fault
first_by s path before a_fault.OutOfMemory met = tt
first_by s path before a_fault.TreeFailed met = tt
first_by s path before a_fault.ShelfFailed met = tt
first_by s path before (a_fault.NoManifest gone) met = tt
first_by s path before (a_fault.ManifestTooLarge size) met = tt
first_by s path before (a_fault.ManifestLine line) met = tt
first_by s path before (a_fault.ManifestOrder line) met = tt
first_by s path before (a_fault.NoContents gone) (lacks, at) = record { lacks = lacks; before = subst (AreServedBefore s) (sym at) before }
first_by s path before (a_fault.IgnoreTooLarge size) met = tt
first_by s path before (a_fault.IgnoreText at) met = tt
first_by s path before (a_fault.BadGlob line) met = tt
first_by s path before (a_fault.BadRegexp line) met = tt
first_by s path before (a_fault.RegexpTooBig line) met = tt
first_by s path before (a_fault.BadInclude line) met = tt

-- ---- what is compared before

-- where each path that is compared before one was put already, all before it are served
pub before_by : (asks : Asking) (P : shelves.Files → Type 0) (wanted : Wanted) (id : Id20) (old mid new : trees.History) → trees.Extends old mid → trees.Extends mid new → (begun files later : shelves.History) → shelves.Extends files later
    → begun.last ≤ files.last → (seen : List FlatRow) (a b : List Row)
    → ((store : shelves.Files) → AddsBy asks (P store) (IsLeftAsked store asks id mid old.last files begun.last) store id (trees.now old) wanted seen a b) → (path : List ℕ)
    → ((other : List ℕ) → IsBefore other path → IsAsked asks (trees.now old) other → (kept : FlatRow) × Contains seen kept × (kept.path ≡ other))
    → AreServedBefore (record { wanted = wanted; asks = asks; id = id; tree_old = old; tree_new = new; shelf_old = begun; shelf_new = later }) path
before_by asks P wanted id old mid new first second begun files later past within seen a b added path has store other before left asked =
    let found = has other before asked in
    subst (IsServed store id (trees.now old)) found.2
    (added_served asks (P store) (IsLeftAsked store asks id mid old.last files begun.last) store id (trees.now old) wanted seen a b (added store) found.0 found.1
    (subst (IsLeftAsked store asks id mid old.last files begun.last) (sym found.2) (left_begun store asks id old mid new first second files later begun.last past other left))
    (subst (IsAsked asks (trees.now old)) (sym found.2) asked))

-- a path that is compared by its marks has an entry
entry_asked : (flat : Flat) (wanted : Wanted) (m : Moment) (path : List ℕ) → IsAsked (asked_by wanted (flat_in flat)) m path → (kept : FlatRow) × Contains flat.rows.items kept × (kept.path ≡ path)
entry_asked flat wanted m path asked = by (row_at flat.rows.items path) refl
  where
    by : (o : Option FlatRow) → row_at flat.rows.items path ≡ o → (kept : FlatRow) × Contains flat.rows.items kept × (kept.path ≡ path)
    by (Some kept) is = let found = found_has flat.rows.items path kept is in (kept, found.0, found.1)
    by None is =
        let one = and_parts (is_compared wanted (flat_in flat) path) (is_file_or_link (m.things path)) asked in
        let two = and_parts (wanted.m || wanted.c) (is_plain_entry ((flat_in flat).marks path) (is_some ((flat_in flat).sources path))) one.0 in
        absurd (true≢false (sym two.1 ∙ ap (λ (o : Option FlatRow). is_plain_entry (option_map (λ (r : FlatRow). marks_of (view r.entry)) o) (is_some (source_of o))) is))

-- of entries that ascend, one whose path comes before another's stands before it
earlier_row : (rows : List FlatRow) → AreAscending rows → (i : ℕ) (kept other : FlatRow) → i < length rows → get_or rows i kept ≡ kept → Contains rows other → IsBefore other.path kept.path → Contains (take i rows) other
earlier_row rows up i kept other below is (j, within, at) before =
    elim (cases_lt j i) [
      | inl earlier ↦ (j, subst (λ (n : ℕ). j < n) (sym (length-take-le i rows (omega (arith, below)))) earlier, get_or-take i rows j other earlier ∙ at)
      | inr later ↦
          let far = sorted_far (λ (a b : FlatRow). is_lt (slice_cmp nat_cmp a.path b.path)) (ranks_by nat_list_cmp_total (λ (r : FlatRow). r.path)) rows up i j other later within in
          let here : get_or rows i other ≡ kept = get_or_default rows i other kept below ∙ is in
          absurd (true≢false (sym (ap is_lt before) ∙ (λ k. is_lt (slice_cmp nat_cmp (sym at k).path (sym here k).path)) ∙ far))
    ]

-- each path that is compared before one of the entries is among the entries before it
pub entry_before : (flat : Flat) (wanted : Wanted) (m : Moment) (i : ℕ) (kept : FlatRow) → i < length flat.rows.items → get_or flat.rows.items i kept ≡ kept → (other : List ℕ) → IsBefore other kept.path
    → IsAsked (asked_by wanted (flat_in flat)) m other → (row : FlatRow) × Contains (take i flat.rows.items) row × (row.path ≡ other)
entry_before flat wanted m i kept below is other before asked =
    let found = entry_asked flat wanted m other asked in
    (found.0, earlier_row flat.rows.items flat.ascending i kept found.0 below is found.1 (subst (λ (p : List ℕ). IsBefore p kept.path) (sym found.2) before), found.2)

-- ---- what is read of entries one behind another

abbrev row_path : FlatRow → List ℕ
row_path row = row.path

pub rows_more : (s : Status) (copy later : trees.History) (files new : shelves.History) → trees.Passes copy later → shelves.Passes s.shelf_old files → shelves.Passes files new → (rows : List FlatRow) (i : ℕ) (kept : FlatRow)
    → i < length rows → get_or rows i kept ≡ kept → ReadsPaths (upto s copy files) (map (λ row. row.path) (take i rows)) → ReadsPath (upto s later new) copy kept.path
    → ReadsPaths (upto s later new) (map (λ row. row.path) (take (i + 1) rows))
rows_more s copy later files new second third fourth rows i kept below is reads one =
    subst (ReadsPaths (upto s later new)) (sym (ap (map row_path) (take_more rows i kept below ∙ ap (λ (r : FlatRow). take i rows ++ r ∷ []) is) ∙ map-append row_path (take i rows) (kept ∷ [])))
    (reads_next s copy later files new second third fourth (map row_path (take i rows)) kept.path reads one)

pub reads_front : (s : Status) (flat : Flat) (n : ℕ) → ReadsPaths s (map (λ row. row.path) (take n flat.rows.items)) → ReadsNeeded s
reads_front s flat n reads = reads_once s (map row_path (take n flat.rows.items)) (own_front row_path n flat.rows.items flat.own) reads
