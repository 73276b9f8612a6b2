-- What a walk needs of recorded times, whatever the reason for it: where one is taken for a look, it says what the look would have shown.
use Rattle.std.specs.Prelude.{ℕ, ◌≡◌, ◌≤◌, ◌⊎◌, true, false, IsTrue, List, Option, Some, None, codes, is_some}
use Rattle.hg_base.specs.PathText.{is_component, joined}
use Rattle.hg_base.specs.declared.stat.Kind.TheVariants as a_kind
use Rattle.hg_base.specs.declared.stat.Stat.{Stat}
use Rattle.hg_compare.specs.Tracked.{ParentRow, tracked_letter}
use Rattle.hg_compare.specs.declared.letter.Letter.TheVariants as a_letter
use Rattle.hg_entry.specs.Entry.{CacheData, EntryData}
use Rattle.hg_entry.specs.Table.{Table, marks_of}
use Rattle.hg_ignore.specs.State.{Hash, Ignored, Piece, Texts}
use Rattle.hg_mtime.specs.Stamps.{matches}
use Rattle.hg_mtime.specs.Vouching.{vouches}
use Rattle.hg_tree.specs.History.{History}
use Rattle.hg_tree.specs.Moment.{stat_at}

-- a path for which an entry vouches at a moment of the call is clean at that moment
abbrev pub VouchedAreClean : (List ℕ → Option ParentRow) → Table → History → History → Type 0
VouchedAreClean rows table old new =
    (k : ℕ) (path : List ℕ) (entry : EntryData) (stat : Stat) → old.last ≤ k → k ≤ new.last → table.entries path ≡ Some entry
    → stat_at (new.at k) path ≡ Some stat → vouches entry (is_some (table.sources path)) stat ≡ true
    → tracked_letter (rows path) (marks_of entry) (is_some (table.sources path)) ((new.at k).things path) ≡ Some a_letter.C

-- a cached directory that shows the recorded time at a moment of the call, under patterns with the recorded hash, has no name but those of nodes and
-- of ignored paths at that moment, and `.hg` isn't one
abbrev pub CachedAreListed : Table → History → History → Type 0
CachedAreListed table old new =
    (k : ℕ) (dir : List ℕ) (cache : CacheData) (stat : Stat) (state : List Piece) → old.last ≤ k → k ≤ new.last → table.caches dir ≡ Some cache
    → stat_at (new.at k) dir ≡ Some stat → stat.kind ≡ a_kind.Dir → matches cache.stamp stat.mtime ≡ true → Texts new state → Hash state ≡ table.hash
    → (name : List ℕ) → IsTrue (is_component name) → IsTrue (is_some ((new.at k).things (joined (Some dir) name)))
    → (name ≡ codes ".hg" → ⊥) × (IsTrue (table.nodes (joined (Some dir) name)) ⊎ Ignored state (joined (Some dir) name))

pub record AreRight (rows : List ℕ → Option ParentRow) (table : Table) (old new : History) : Type 0 where
  pub clean : VouchedAreClean rows table old new
  pub listed : CachedAreListed table old new

-- over a call no time is taken for a look: no entry vouches for what stands at its path, and no cached directory shows the recorded time under patterns with
-- the recorded hash
pub record AreUntaken (table : Table) (old new : History) : Type 0 where
  pub entries : (k : ℕ) (path : List ℕ) (entry : EntryData) (stat : Stat) → old.last ≤ k → k ≤ new.last → table.entries path ≡ Some entry
      → stat_at (new.at k) path ≡ Some stat → vouches entry (is_some (table.sources path)) stat ≡ false
  pub caches : (k : ℕ) (dir : List ℕ) (cache : CacheData) (stat : Stat) (state : List Piece) → old.last ≤ k → k ≤ new.last → table.caches dir ≡ Some cache
      → stat_at (new.at k) dir ≡ Some stat → stat.kind ≡ a_kind.Dir → Texts new state → Hash state ≡ table.hash → matches cache.stamp stat.mtime ≡ false

-- no time of a record is ever taken for a look
pub record IsTimeless (table : Table) : Type 0 where
  pub entries : (path : List ℕ) (entry : EntryData) → table.entries path ≡ Some entry → entry.stamp ≡ None
  pub caches : (dir : List ℕ) → table.caches dir ≡ None
