-- The rows of a walk: what is recorded, each at its path, and what is found among them.
use Rattle.std.proofs.Common.{ℕ, ◌≡◌, Bool, true, false, cond, List, [], ◌∷◌, ◌++◌, map, Option, Some, None, option_map, IfSome, IfOk, Result, Ok, Err, refl, sym, ap, ◌∙◌, subst}
use Rattle.std.specs.List.{AllByRecursion, IsDistinct, find}
use Rattle.std.specs.Option.{option_and_then}
use Rattle.std.specs.Str.{bytes_eq}
use Rattle.std.proofs.lemmas.List.{append_assoc, append-nil, map-append}
use Rattle.std.proofs.lemmas.Slice.Eq.{bytes_eq-Decides}
use Rattle.hg_base.specs.declared.fault.OutOfMemory.{OutOfMemory}
use Rattle.hg_base.specs.declared.id.Id20.{Id20}
use Rattle.hg_docket.specs.Docket.{Contents}
use Rattle.hg_docket.specs.Docket as docket_is
use Rattle.hg_docket.specs.declared.docket.Docket.{Docket}
use Rattle.hg_entry.specs.Entry.{EntryData, entry_of, view}
use Rattle.hg_entry.specs.Table.{Table, flat_of, marks_of}
use Rattle.hg_image.specs.Node.{fields_of}
use Rattle.hg_image.specs.Reading as reading
use Rattle.hg_image.specs.Reading.{table_in, table_of}
use Rattle.hg_image.specs.Rows.{AreDistinct}
use Rattle.hg_image.specs.Rows as node
use Rattle.hg_image.specs.View as image_is
use Rattle.hg_image.specs.Walk.{levels}
use Rattle.hg_image.specs.declared.opened.Image.{Image}
use Rattle.hg_image.proofs.Sourced.{IsSourcedByEntry, list_sourced}
use Rattle.hg_flat.specs.Kept.{HaveOwnPaths, KeptRows, flat_from, row_at, shown_row, source_of}
use Rattle.hg_flat.specs.Recorded.{Adds, Recorded, Records, recorded_in, recording, recordings}
use Rattle.hg_flat.specs.Shown.{flat_in, rows_of}
use Rattle.hg_flat.specs.declared.flat.Flat.{Flat}
use Rattle.hg_flat.specs.declared.kept.FlatRow.{FlatRow}

-- a row as its path and what is recorded of it
abbrev told : FlatRow → List ℕ × Recorded
told row = (row.path, shown_row row)

-- ---- row by row

pub adds_none : (rows : List FlatRow) → Adds [] rows rows
adds_none rows = sym (append-nil (map told rows))

recordings_append : (xs ys : List node.Row) → recordings (xs ++ ys) ≡ recordings xs ++ recordings ys
recordings_append [] ys = refl
recordings_append (x ∷ xs) ys =
    ap (λ (l : List (List ℕ × Recorded)). recording x.path (recorded_in x) ++ l) (recordings_append xs ys)
    ∙ sym (append_assoc (recording x.path (recorded_in x)) (recordings xs) (recordings ys))

pub adds_trans : (xs ys : List node.Row) (a b c : List FlatRow) → Adds xs a b → Adds ys b c → Adds (xs ++ ys) a c
adds_trans xs ys a b c first second =
    second ∙ ap (λ (l : List (List ℕ × Recorded)). l ++ recordings ys) first ∙ append_assoc (map told a) (recordings xs) (recordings ys)
    ∙ ap (λ (l : List (List ℕ × Recorded)). map told a ++ l) (sym (recordings_append xs ys))

own_by : (path : List ℕ) (o : Option EntryData) (source : Option (List ℕ)) (entry : EntryData) (row : FlatRow) → o ≡ Some entry → row.path ≡ path → shown_row row ≡ (entry, source)
    → told row ∷ [] ≡ recording path (option_map (λ e. (e, source)) o) ++ []
own_by path o source entry row is at shown =
    subst (λ (p : Option EntryData). told row ∷ [] ≡ recording path (option_map (λ e. (e, source)) p) ++ []) (sym is)
    (λ i. (at i, shown i) ∷ [])

-- a node with an entry
pub adds_own : (n : node.Row) (entry : EntryData) (row : FlatRow) (rows : List FlatRow) → entry_of (fields_of n.rec) ≡ Some entry → row.path ≡ n.path → shown_row row ≡ (entry, n.source) → Adds (n ∷ []) rows (rows ++ row ∷ [])
adds_own n entry row rows is at shown =
    map-append told rows (row ∷ [])
    ∙ ap (λ (l : List (List ℕ × Recorded)). map told rows ++ l) (own_by n.path (entry_of (fields_of n.rec)) n.source entry row is at shown)

-- a node without one
pub adds_nothing : (n : node.Row) (rows : List FlatRow) → entry_of (fields_of n.rec) ≡ None → Adds (n ∷ []) rows rows
adds_nothing n rows is =
    subst (λ (o : Option EntryData). map told rows ≡ map told rows ++ (recording n.path (option_map (λ e. (e, n.source)) o) ++ [])) (sym is)
    (sym (append-nil (map told rows)))

-- a whole walk that began with nothing
pub all_added : (of_list nodes : List node.Row) (old new : List FlatRow) → of_list ≡ nodes → old ≡ [] → Adds of_list old new → Adds nodes [] new
all_added of_list nodes old new same none adds =
    subst (λ (l : List node.Row). Adds l [] new) same (subst (λ (rows : List FlatRow). Adds of_list rows new) none adds)

-- ---- what is found

-- what the row of a path records
recorded_by : Option node.Row → Option Recorded
recorded_by None = None
recorded_by (Some row) = recorded_in row

none_later : (rows : List node.Row) (path : List ℕ) → AllByRecursion (λ p. bytes_eq path p ≡ false) (map (λ row. row.path) rows) → reading.row_at rows path ≡ None
none_later [] path apart = refl
none_later (row ∷ rows) path apart = other (bytes_eq row.path path) refl (none_later rows path apart.1)
  where
    other : (b : Bool) → bytes_eq row.path path ≡ b → reading.row_at rows path ≡ None → cond b (Some row) (reading.row_at rows path) ≡ None
    other true is rest =
        let back = (bytes_eq-Decides path row.path).1 (sym ((bytes_eq-Decides row.path path).0 is)) in let never = apart.0 in absurd (cc (back, never))
    other false is rest = rest

found_step : (path : List ℕ) (row : node.Row) (later : Option node.Row) (rest : List (List ℕ × Recorded)) (o : Option Recorded) (b : Bool) → o ≡ recorded_in row → bytes_eq row.path path ≡ b → (b ≡ true → later ≡ None)
    → option_map (λ p. p.1) (find (λ p. bytes_eq p.0 path) rest) ≡ recorded_by later → option_map (λ p. p.1) (find (λ p. bytes_eq p.0 path) (recording row.path o ++ rest)) ≡ recorded_by (cond b (Some row) later)
unfolding recorded_by
found_step path row later rest None true own is none before = before ∙ ap recorded_by (none refl) ∙ own
found_step path row later rest None false own is none before = before
found_step path row later rest (Some r) true own is none before =
    ap (λ (b : Bool). option_map (λ p. p.1) (cond b (Some (row.path, r)) (find (λ p. bytes_eq p.0 path) rest))) is ∙ own
found_step path row later rest (Some r) false own is none before =
    ap (λ (b : Bool). option_map (λ p. p.1) (cond b (Some (row.path, r)) (find (λ p. bytes_eq p.0 path) rest))) is ∙ before

found_recordings : (rows : List node.Row) → AreDistinct rows → (path : List ℕ) → option_map (λ p. p.1) (find (λ p. bytes_eq p.0 path) (recordings rows)) ≡ recorded_by (reading.row_at rows path)
unfolding IsDistinct recorded_by
found_recordings [] apart path = refl
found_recordings (row ∷ rows) apart path =
    found_step path row (reading.row_at rows path) (recordings rows) (recorded_in row) (bytes_eq row.path path) refl refl
    (λ is.
    none_later rows path
    (subst (λ (p : List ℕ). AllByRecursion (λ q. bytes_eq p q ≡ false) (map (λ r. r.path) rows)) ((bytes_eq-Decides row.path path).0 is) apart.0))
    (found_recordings rows apart.1 path)

-- the table says of a path what its row records
table_says : (o : Option node.Row)
    → recorded_by o ≡ option_map (λ entry. (entry, option_and_then (λ row. row.source) o)) (option_and_then (λ row. entry_of (fields_of row.rec)) o)
unfolding recorded_by
table_says None = refl
table_says (Some row) = refl

told_step : (path : List ℕ) (row : FlatRow) (rest : Option (List ℕ × Recorded)) (later : Option FlatRow) (b : Bool) → rest ≡ option_map told later → cond b (Some (told row)) rest ≡ option_map told (cond b (Some row) later)
told_step path row rest later true before = refl
told_step path row rest later false before = before

found_told : (rows : List FlatRow) (path : List ℕ) → find (λ p. bytes_eq p.0 path) (map told rows) ≡ option_map told (row_at rows path)
found_told [] path = refl
found_told (row ∷ rows) path =
    told_step path row (find (λ p. bytes_eq p.0 path) (map told rows)) (row_at rows path) (bytes_eq row.path path) (found_told rows path)

shown_told : (o : Option FlatRow) → option_map shown_row o ≡ option_map (λ p. p.1) (option_map told o)
shown_told None = refl
shown_told (Some row) = refl

-- the rows of a walk say what is recorded
pub records : (docket : Contents) (nodes : List node.Row) (rows : List FlatRow) → AreDistinct nodes → Adds nodes [] rows → Records (table_of docket nodes) (row_at rows)
records docket nodes rows apart adds path =
    shown_told (row_at rows path)
    ∙ ap (option_map (λ (p : List ℕ × Recorded). p.1)) (sym (found_told rows path) ∙ ap (find (λ (p : List ℕ × Recorded). bytes_eq p.0 path)) adds)
    ∙ found_recordings nodes apart path
    ∙ table_says (reading.row_at nodes path)

-- ---- the flat map

marks_shown : (o : Option FlatRow) → option_map (λ row. marks_of (view row.entry)) o ≡ option_map (λ (recorded : Recorded). marks_of recorded.0) (option_map shown_row o)
marks_shown None = refl
marks_shown (Some row) = refl

marks_recorded : (o : Option EntryData) (source : Option (List ℕ)) → option_map (λ (recorded : Recorded). marks_of recorded.0) (option_map (λ entry. (entry, source)) o) ≡ option_map marks_of o
marks_recorded None source = refl
marks_recorded (Some entry) source = refl

source_in : Option Recorded → Option (List ℕ)
source_in None = None
source_in (Some recorded) = recorded.1

source_shown : (o : Option FlatRow) → source_of o ≡ source_in (option_map shown_row o)
unfolding source_in
source_shown None = refl
source_shown (Some row) = refl

source_recorded : (o : Option EntryData) (source : Option (List ℕ)) → (o ≡ None → source ≡ None) → source_in (option_map (λ entry. (entry, source)) o) ≡ source
unfolding source_in
source_recorded None source without = sym (without refl)
source_recorded (Some entry) source without = refl

sourced_step : (row : node.Row) (later : Option node.Row) (b : Bool) → IsSourcedByEntry row → IfSome later IsSourcedByEntry → IfSome (cond b (Some row) later) IsSourcedByEntry
sourced_step row later true own rest = own
sourced_step row later false own rest = rest

sourced_at : (rows : List node.Row) (path : List ℕ) → AllByRecursion IsSourcedByEntry rows → IfSome (reading.row_at rows path) IsSourcedByEntry
sourced_at [] path all = tt
sourced_at (row ∷ rows) path all = sourced_step row (reading.row_at rows path) (bytes_eq row.path path) all.0 (sourced_at rows path all.1)

sourced_by : (o : Option node.Row) → IfSome o IsSourcedByEntry → option_and_then (λ row. entry_of (fields_of row.rec)) o ≡ None → option_and_then (λ row. row.source) o ≡ None
sourced_by None sourced none = refl
sourced_by (Some row) sourced none = sourced none

-- a map that keeps what a table says of each path is that of the table, where no path without an entry has a source
pub flat_recorded : (table : Table) (p1 p2 : List ℕ) (kept : KeptRows) → ((path : List ℕ) → table.entries path ≡ None → table.sources path ≡ None) → p1 ≡ table.p1 → p2 ≡ table.p2 → Records table kept
    → flat_from p1 p2 kept ≡ flat_of table
flat_recorded table p1 p2 kept sourced first second records =
    let marks : (path : List ℕ) → option_map (λ row. marks_of (view row.entry)) (kept path) ≡ option_map marks_of (table.entries path) =
    λ path. marks_shown (kept path) ∙ ap (option_map (λ (recorded : Recorded). marks_of recorded.0)) (records path) ∙ marks_recorded (table.entries path) (table.sources path) in
    let sources : (path : List ℕ) → source_of (kept path) ≡ table.sources path =
    λ path. source_shown (kept path) ∙ ap source_in (records path) ∙ source_recorded (table.entries path) (table.sources path) (sourced path) in
    λ i. record { p1 = first i; p2 = second i; marks = λ path. marks path i; sources = λ path. sources path i }

-- so is that of a table that was read
pub flat_same : (docket : Contents) (nodes : List node.Row) (p1 p2 : List ℕ) (kept : KeptRows) → AllByRecursion IsSourcedByEntry nodes → p1 ≡ docket.p1 → p2 ≡ docket.p2 → Records (table_of docket nodes) kept
    → flat_from p1 p2 kept ≡ flat_of (table_of docket nodes)
flat_same docket nodes p1 p2 kept sourced first second records =
    flat_recorded (table_of docket nodes) p1 p2 kept (λ path. sourced_by (reading.row_at nodes path) (sourced_at nodes path sourced)) first second records

-- what was read with these rows
pub read_flat : (image : Image) (items : List FlatRow) (docket : Docket) (result : Result Flat OutOfMemory) → AreDistinct (image_is.rows image) → Adds (image_is.rows image) [] items → docket ≡ image.docket
    → IfOk result (λ flat. (path : List ℕ) → rows_of flat path ≡ row_at items path) → IfOk result (λ flat. flat.p1 ≡ docket.p1) → IfOk result (λ flat. flat.p2 ≡ docket.p2) → IfOk result (λ flat. flat_in flat ≡ flat_of (table_in image))
read_flat image items docket (Err fault) apart adds is kept first second = tt
read_flat image items docket (Ok flat) apart adds is kept first second =
    flat_same (docket_is.view image.docket) (image_is.rows image) flat.p1.0 flat.p2.0 (rows_of flat) (list_sourced levels image.bytes.now image.docket.root_start image.docket.root_count)
    (ap (λ (id : Id20). id.0) first ∙ ap (λ (d : Docket). d.p1.0) is)
    (ap (λ (id : Id20). id.0) second ∙ ap (λ (d : Docket). d.p2.0) is)
    (λ path. ap (option_map shown_row) (kept path) ∙ records (docket_is.view image.docket) (image_is.rows image) items apart adds path)

-- ---- no two of one path

all_step : (P : List ℕ → Type 0) (at : List ℕ) (rest : List (List ℕ × Recorded)) (o : Option Recorded) → P at → AllByRecursion P (map (λ p. p.0) rest) → AllByRecursion P (map (λ p. p.0) (recording at o ++ rest))
all_step P at rest None here later = later
all_step P at rest (Some r) here later = (here, later)

all_recordings : (P : List ℕ → Type 0) (rows : List node.Row) → AllByRecursion P (map (λ row. row.path) rows) → AllByRecursion P (map (λ p. p.0) (recordings rows))
all_recordings P [] all = tt
all_recordings P (row ∷ rows) all = all_step P row.path (recordings rows) (recorded_in row) all.0 (all_recordings P rows all.1)

own_step : (at : List ℕ) (rest : List (List ℕ × Recorded)) (o : Option Recorded) → AllByRecursion (λ p. bytes_eq at p ≡ false) (map (λ p. p.0) rest) → IsDistinct bytes_eq (map (λ p. p.0) rest)
    → IsDistinct bytes_eq (map (λ p. p.0) (recording at o ++ rest))
unfolding IsDistinct
own_step at rest None apart own = own
own_step at rest (Some r) apart own = (apart, own)

own_recordings : (rows : List node.Row) → AreDistinct rows → IsDistinct bytes_eq (map (λ p. p.0) (recordings rows))
unfolding IsDistinct
own_recordings [] apart = tt
own_recordings (row ∷ rows) apart =
    own_step row.path (recordings rows) (recorded_in row) (all_recordings (λ p. bytes_eq row.path p ≡ false) rows apart.0) (own_recordings rows apart.1)

paths_told : (rows : List FlatRow) → map (λ p. p.0) (map told rows) ≡ map (λ row. row.path) rows
paths_told [] = refl
paths_told (row ∷ rows) = ap (λ (l : List (List ℕ)). row.path ∷ l) (paths_told rows)

pub own_paths : (nodes : List node.Row) (rows : List FlatRow) → AreDistinct nodes → Adds nodes [] rows → HaveOwnPaths rows
own_paths nodes rows apart adds =
    subst (IsDistinct bytes_eq) (ap (map (λ (p : List ℕ × Recorded). p.0)) (sym adds) ∙ paths_told rows) (own_recordings nodes apart)
