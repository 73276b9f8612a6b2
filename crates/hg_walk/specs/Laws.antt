-- The laws of trusted records: they make recorded times right, and what a walk notes is earned.
use Rattle.std.specs.Prelude.{ℕ, ◌≡◌, ◌≤◌, ◌⊎◌, Bool, true, false, IsTrue, List, [], ◌∷◌, ◌++◌, Option, Some, Result, Ok, codes}
use Rattle.hg_base.specs.PathText.{joined}
use Rattle.hg_base.specs.declared.stat.Kind.TheVariants as a_kind
use Rattle.hg_base.specs.declared.stat.Stat.{Stat}
use Rattle.hg_base.specs.declared.time.Time.{Time}
use Rattle.hg_compare.specs.Same.{Compares, parent_row}
use Rattle.hg_compare.specs.Seen.{Compared}
use Rattle.hg_compare.specs.Tracked.{ParentRow}
use Rattle.hg_compare.specs.declared.looked.Looked.TheVariants as a_look
use Rattle.hg_entry.specs.Entry.{CacheData, EntryData, StampData}
use Rattle.hg_entry.specs.Steps.{seen_clean}
use Rattle.hg_entry.specs.Table.{Table}
use Rattle.hg_ignore.specs.Patterns.{Apart}
use Rattle.hg_ignore.specs.State.{Hash, Ignored, Piece, Texts}
use Rattle.hg_manifest.specs.Rows.{Rows}
use Rattle.hg_manifest.specs.declared.fault.ManifestFault.{ManifestFault}
use Rattle.hg_manifest.specs.declared.row.FileRow.{FileRow}
use Rattle.hg_mtime.specs.Stamps.{stamp_of}
use Rattle.hg_shelf.specs.History.{Files}
use Rattle.hg_shelf.specs.Polite.{StaysIn}
use Rattle.hg_tree.specs.History.{Extends, History}
use Rattle.hg_tree.specs.Honest.{IsHonest}
use Rattle.hg_tree.specs.Moment.{Lists, is_among, stat_at}
use Rattle.hg_walk.specs.Notes.{AreClean, AreEarned, AreSeen, CleanNote, DirNote, IsCleanNote, NotesData, applied}
use Rattle.hg_walk.specs.Right.{AreRight, AreUntaken, CachedAreListed, IsTimeless, VouchedAreClean}
use Rattle.hg_walk.specs.Seeing.{SeenDir}
use Rattle.hg_walk.specs.Trust.{IsEarned, IsGood, IsTrusted}

-- ---- trusted times are right

-- over a history whose times are honest, a path for which an entry of a trusted record vouches is clean
abbrev pub VouchedIsClean : Type 0
VouchedIsClean =
    (rows : List ℕ → Option ParentRow) (table : Table) (old new : History) → Extends old new → IsHonest new → IsTrusted rows table old → VouchedAreClean rows table old new

-- and a cached directory has no name but those of nodes and of ignored paths, where no two states of patterns share a hash
abbrev pub CachedIsListed : Type 0
CachedIsListed =
    (rows : List ℕ → Option ParentRow) (table : Table) (old new : History) → Extends old new → IsHonest new → Apart new → IsTrusted rows table old → CachedAreListed table old new

abbrev pub TrustedAreRight : Type 0
TrustedAreRight =
    (rows : List ℕ → Option ParentRow) (table : Table) (old new : History) → Extends old new → IsHonest new → Apart new → IsTrusted rows table old → AreRight rows table old new

-- where no time is recorded, none is wrong: no premise on times then
abbrev pub TimelessAreRight : Type 0
TimelessAreRight = (rows : List ℕ → Option ParentRow) (table : Table) (old new : History) → IsTimeless table → AreRight rows table old new

-- nor is one wrong where none is taken for a look during the call
abbrev pub UntakenAreRight : Type 0
UntakenAreRight = (rows : List ℕ → Option ParentRow) (table : Table) (old new : History) → AreUntaken table old new → AreRight rows table old new

-- what is right over a call is right over its first part, and over its second
abbrev pub RightInFirst : Type 0
RightInFirst =
    (rows : List ℕ → Option ParentRow) (table : Table) (old mid new : History) → Extends mid new → AreRight rows table old new → AreRight rows table old mid

abbrev pub RightInSecond : Type 0
RightInSecond =
    (rows : List ℕ → Option ParentRow) (table : Table) (old mid new : History) → Extends old mid → AreRight rows table old new → AreRight rows table mid new

-- ---- what a walk notes is earned

-- a boundary was asked, then a look showed the path, then it was compared with a row of the first parent whose contents were a store's wherever they were
-- there, and was the same, with a
-- look behind it that showed the same: the time is earned, whatever others did meanwhile
abbrev pub NotedIsEarned : Type 0
NotedIsEarned =
    (c : Compared) (row : FileRow) (before : Stat) (store : Files) (boundary : Time) (stamp : StampData) (rows : List ℕ → Option ParentRow) (entry : EntryData) (b i : ℕ)
    → Extends c.tree_old c.tree_new → IsHonest c.tree_new → IsTrue c.tree_old.told → IsTrue c.shelf_old.told → StaysIn store c.shelf_new c.shelf_old.last c.name
    → b ≤ i → i ≤ c.tree_old.last → boundary ≡ (c.tree_new.at b).clock → stat_at (c.tree_new.at i) c.path ≡ Some before
    → Compares c row before (Ok (a_look.Same true)) → stamp_of before.mtime boundary ≡ Some stamp → rows c.path ≡ Some (parent_row row (store c.name))
    → IsEarned rows c.tree_new c.path (seen_clean entry before stamp) stamp

-- a boundary was asked, then a look showed the directory, then it was listed, and a look behind it showed the same; each name is that of a node or of an
-- ignored path, and none is `.hg`: it was seen so with its time
abbrev pub ListedIsSeen : Type 0
ListedIsSeen =
    (h : History) → IsHonest h → (boundary : Time) (dir : List ℕ) (before : Stat) (names : List (List ℕ)) (state : List Piece) (nodes : List ℕ → Bool) (cache : CacheData)
    (b i l j : ℕ) → b ≤ i → i ≤ l → l ≤ j → j ≤ h.last → boundary ≡ (h.at b).clock → stat_at (h.at i) dir ≡ Some before → stat_at (h.at j) dir ≡ Some before
    → before.kind ≡ a_kind.Dir → Lists (Some dir) (Some names) (h.at l) → stamp_of before.mtime boundary ≡ Some cache.stamp → Texts h state
    → is_among (codes ".hg") names ≡ false
    → ((name : List ℕ) → IsTrue (is_among name names) → IsTrue (nodes (joined (Some dir) name)) ⊎ ((cache.full ≡ false) × Ignored state (joined (Some dir) name)))
    → SeenDir h dir cache (Hash state) nodes

-- ---- notes

-- a trusted record with earned notes is trusted
abbrev pub NotesAreTrusted : Type 0
NotesAreTrusted =
    (rows : List ℕ → Option ParentRow) (t : Table) (h : History) (notes : NotesData) → IsTrusted rows t h → AreEarned rows t h notes → IsTrusted rows (applied notes t) h

-- notes stay earned over a longer history, with one more
abbrev pub OneMoreClean : Type 0
OneMoreClean =
    (rows : List ℕ → Option ParentRow) (t : Table) (old new : History) (notes : List CleanNote) (note : CleanNote) → Extends old new
    → AreClean rows t old notes → IsCleanNote rows t new note → AreClean rows t new (notes ++ note ∷ [])

abbrev pub OneMoreSeen : Type 0
OneMoreSeen =
    (t : Table) (old new : History) (hash : List ℕ) (notes : List DirNote) (note : DirNote) → Extends old new
    → AreSeen t old hash notes → SeenDir new note.dir note.cache hash t.nodes → AreSeen t new hash (notes ++ note ∷ [])

-- notes don't touch what agrees with the parents
abbrev pub NotedIsGood : Type 0
NotedIsGood =
    (manifest : Result Rows ManifestFault) (rows : List ℕ → Option ParentRow) (t : Table) (h : History) (notes : NotesData)
    → IsGood manifest rows t h → AreEarned rows t h notes → IsGood manifest rows (applied notes t) h
