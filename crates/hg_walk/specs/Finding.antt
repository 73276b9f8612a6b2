-- What is found of a path that a look shows: its letter, by its entry or by a comparison, and the time that is noted of it.
use Rattle.std.specs.Prelude.{ℕ, ◌≡◌, ◌≤◌, Bool, true, false, IsTrue, List, Option, Some, None, is_some}
use Rattle.hg_base.specs.declared.stat.Stat.{Stat}
use Rattle.hg_base.specs.declared.time.Time.{Time}
use Rattle.hg_compare.specs.Same.{StaysShown}
use Rattle.hg_compare.specs.Tracked.{ParentRow, is_unchanged}
use Rattle.hg_compare.specs.declared.letter.Letter.{Letter}
use Rattle.hg_compare.specs.declared.letter.Letter.TheVariants as a_letter
use Rattle.hg_compare.specs.declared.looked.Looked.{Looked}
use Rattle.hg_compare.specs.declared.looked.Looked.TheVariants as a_look
use Rattle.hg_entry.specs.Entry.{EntryData, StampData}
use Rattle.hg_entry.specs.Steps.{seen_clean}
use Rattle.hg_entry.specs.Table.{Table}
use Rattle.hg_flat.specs.Course.{IsFound, Proceeds, upto}
use Rattle.hg_flat.specs.Met.{Status}
use Rattle.hg_flat.specs.Parent.{KeepsRow, parent_rows}
use Rattle.hg_flat.specs.declared.parent.Parent.{Parent}
use Rattle.hg_mtime.specs.Stamps.{stamp_of}
use Rattle.hg_mtime.specs.Vouching.{vouches}
use Rattle.hg_shelf.specs.History as shelves
use Rattle.hg_tree.specs.History as trees
use Rattle.hg_tree.specs.Honest.{IsHonest}
use Rattle.hg_tree.specs.Moment.{stat_at}
use Rattle.hg_walk.specs.Right.{AreRight}
use Rattle.hg_walk.specs.Trust.{IsEarned}

-- what is known of a path behind a look: its entry, whether it has a copy source, and what the look showed; and what both devices tell before and
-- after what is done with it
pub record Look : Type 0 where
  pub path : List ℕ
  pub entry : EntryData
  pub copied : Bool
  pub before : Stat
  pub tree_old : trees.History
  pub tree_new : trees.History
  pub shelf_old : shelves.History
  pub shelf_new : shelves.History

-- the entry says of what the look showed that it is unchanged
abbrev pub is_vouched : Look → Bool
is_vouched l = vouches l.entry l.copied l.before

-- a status has come as far as the look, with what it keeps of its parent
pub record IsReached (l : Look) (s : Status) (parent : Parent) : Type 0 where
  pub goes : Proceeds (upto s l.tree_old l.shelf_old) parent
  pub told : IsTrue l.tree_old.told
  pub shown : stat_at (trees.now l.tree_old) l.path ≡ Some l.before

-- what the first parent has of the path is a store's, wherever it is there, from the start of the status on
abbrev pub KeepsOwn : shelves.Files → Look → Status → Type 0
KeepsOwn store l s = KeepsRow store l.shelf_new s.shelf_old.last s.id l.path

-- what the first parent has of each path by a store
abbrev pub rows_by : shelves.Files → Status → List ℕ → Option ParentRow
rows_by store s = parent_rows store s.id

-- the record tells of the path what is known of it
pub record IsRecordOf (table : Table) (l : Look) : Type 0 where
  pub entry : table.entries l.path ≡ Some l.entry
  pub copied : l.copied ≡ is_some (table.sources l.path)

-- a letter is that of the path by what the first parent has of it in a store, where nobody touches the path, and the record's times are right over the call
-- where the entry vouches, and what the parent has of the path is the store's where it doesn't
abbrev pub HasLetter : Look → Status → Parent → Letter → Type 0
HasLetter l s parent letter =
    (store : shelves.Files) (table : Table) → IsReached l s parent → (is_vouched l ≡ true → AreRight (rows_by store s) table s.tree_old l.tree_new) → IsRecordOf table l
    → StaysShown l.tree_old l.tree_new l.path → (is_vouched l ≡ false → KeepsOwn store l s)
    → IsFound store s.id (trees.now l.tree_old) l.path letter

-- a time was the clock's at a moment so far
pub record WasClock (h : trees.History) (time : Time) : Type 0 where
  pub at : ℕ
  pub within : at ≤ h.last
  pub is : time ≡ (h.at at).clock

-- a time that is noted is earned, whatever others do to the path, where times are honest and the boundary was the clock's before the look
abbrev pub IsEarnedBy : Look → Status → Parent → Time → StampData → Type 0
IsEarnedBy l s parent boundary stamp =
    (store : shelves.Files) (entry : EntryData) → IsReached l s parent → IsHonest l.tree_new → KeepsOwn store l s → WasClock l.tree_old boundary
    → IsEarned (rows_by store s) l.tree_new l.path (seen_clean entry l.before stamp) stamp

-- a time is noted of a clean path alone for which its entry doesn't vouch, and it is that of the look behind the boundary
pub record IsNoted (l : Look) (boundary : Time) (letter : Letter) (stamp : StampData) : Type 0 where
  pub clean : letter ≡ a_letter.C
  pub unvouched : is_vouched l ≡ false
  pub is : stamp_of l.before.mtime boundary ≡ Some stamp

-- where what stands there is what the first parent has in a store that it keeps to, and nobody touches the path, the time is noted that may be
abbrev pub IsNotedIfClean : Look → Status → Parent → Time → Option StampData → Type 0
IsNotedIfClean l s parent boundary stamp =
    (store : shelves.Files) → IsReached l s parent → StaysShown l.tree_old l.tree_new l.path → KeepsOwn store l s → is_vouched l ≡ false
    → is_unchanged (rows_by store s l.path) ((trees.now l.tree_old).things l.path) ≡ true → stamp ≡ stamp_of l.before.mtime boundary

-- the time that is noted behind a comparison: where it was the same, and a look behind it showed the same
abbrev pub stamp_after : Looked → Time → Time → Option StampData
stamp_after (a_look.Same true) time boundary = stamp_of time boundary
stamp_after (a_look.Same false) time boundary = None
stamp_after a_look.Differs time boundary = None
stamp_after a_look.Gone time boundary = None
