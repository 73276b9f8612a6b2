-- What a listing answers, and why.
use Rattle.std.specs.Prelude.{ℕ, ◌≡◌, ◌≤◌, ◌⊎◌, ◌∷◌, [], true, List, Option, Some, Ok, IsTrue, IsSomeAnd}
use Rattle.hg_base.specs.Fault.{Rose}
use Rattle.hg_base.specs.declared.id.Id20.{Id20}
use Rattle.hg_entry.specs.Table.{Table, flat_of}
use Rattle.hg_flat.specs.Asked.{AsksAll, AsksBehind, AsksNothing, IsListedDir, nothing_holds, pattern_reads}
use Rattle.hg_listing.specs.Full.{IsFull, IsFullFor}
use Rattle.hg_flat.specs.First.{MetFirst}
use Rattle.hg_flat.specs.Met.{Met, Status}
use Rattle.hg_flat.specs.Needed.{AsksNeeded}
use Rattle.hg_flat.specs.Parent.{Asking, IsAsked, IsServed}
use Rattle.hg_flat.specs.Patterns.{HadPatterns, ignored_at, is_of_parent}
use Rattle.hg_flat.specs.Stored.{AsksStore}
use Rattle.hg_listing.specs.declared.fault.StatusFault.{StatusFault}
use Rattle.hg_listing.specs.declared.fault.StatusFault.TheVariants as a_status
use Rattle.hg_listing.specs.declared.row.Row.{Row}
use Rattle.hg_listing.specs.declared.row.Wanted.{Wanted}
use Rattle.hg_shelf.specs.Asks.{AsksFrontOf}
use Rattle.hg_shelf.specs.History as shelf
use Rattle.hg_tree.specs.History as tree
use Rattle.hg_tree.specs.Moment.{Moment}
use Rattle.hg_session.specs.Call.{Fails, Looked, Watched}
use Rattle.hg_save.specs.Asked.{docket_ask}
use Rattle.hg_save.specs.Record.{record_in}
use Rattle.hg_session.specs.Loaded.{AsksRecord}
use Rattle.hg_walk.specs.Right.{AreRight}
use Rattle.hg_walk.specs.Walking.{IsLeftBy, asked_unvouched, rows_in, walk_status}

-- the first parent that a table records
abbrev pub first_parent : Table → Id20
first_parent table = record { 0 = (flat_of table).p1 }

-- which paths a status over a table compares, by what a moment shows: those whose marks leave the letter to the bytes, and for which the table doesn't vouch
abbrev pub asking : Wanted → Table → Asking
asking wanted table = asked_unvouched wanted table

-- ---- recorded times

-- recorded times are right over the call, whatever the first parent has of each path at a moment of it
abbrev pub IsRightFor : Looked → Table → Type 0
IsRightFor looked table =
    (k : ℕ) → looked.shelf.old.last ≤ k → k ≤ looked.shelf.new.last → AreRight (rows_in table (looked.shelf.new.at k).files) table looked.tree.old looked.tree.new

-- ---- paths that are left alone

-- nobody touches the path during the call, nor the ignore patterns where they decide its letter, and what the first parent has of it where it is compared is a
-- store's, wherever it is there: what is absent may come
abbrev pub IsUntouched : shelf.Files → Looked → Wanted → Table → List ℕ → Type 0
IsUntouched store looked wanted table = IsLeftBy store wanted table looked.tree.new looked.tree.old.last looked.shelf.new looked.shelf.old.last

-- a path is compared at a moment
abbrev pub IsAskedAt : Wanted → Table → Moment → List ℕ → Type 0
IsAskedAt wanted table moment path = IsAsked (asking wanted table) moment path

-- what the comparisons of a listing ask for is there in each store that it is of, for each path that is left alone
abbrev pub IsServedFor : Looked → Wanted → Table → Type 0
IsServedFor looked wanted table =
    (store : shelf.Files) (path : List ℕ) → IsUntouched store looked wanted table path → IsAskedAt wanted table (tree.now looked.tree.old) path
    → IsServed store (first_parent table) (tree.now looked.tree.old) path

-- a listing over a table met no fault: the ignore patterns were read and fine where they are needed, and what was compared was there
pub record IsListable (looked : Looked) (wanted : Wanted) (table : Table) : Type 0 where
  pub patterns : HadPatterns wanted looked.tree.old looked.tree.new
  pub served : IsServedFor looked wanted table

-- ---- why a listing met a fault

-- the status over a table, from the start to the end of the call
abbrev pub status_over : Looked → Wanted → Table → Status
status_over looked wanted table = walk_status wanted table looked.tree.old looked.tree.new looked.shelf.old looked.shelf.new

-- a status over a table met this fault; one of the first parent was met behind patterns that were fine, and of several contents that were absent those of the
-- first path
pub record StatusMet (looked : Looked) (wanted : Wanted) (table : Table) (fault : StatusFault) : Type 0 where
  pub behind : is_of_parent fault ≡ true → HadPatterns wanted looked.tree.old looked.tree.new
  pub met : Met (status_over looked wanted table) fault
  pub first : MetFirst (status_over looked wanted table) fault

-- of a status over a table: a device that failed, or what stood in the files or at the root; and that no earlier fault was found. Want of memory needs
-- no reason
abbrev pub StatusCause : Looked → Wanted → Table → StatusFault → Type 0
StatusCause looked wanted table a_status.OutOfMemory = Unit {0}
StatusCause looked wanted table a_status.TreeFailed = Fails looked.tree
StatusCause looked wanted table a_status.ShelfFailed = Fails looked.shelf
StatusCause looked wanted table (a_status.RegexpTooBig line) =
    StatusMet looked wanted table (a_status.RegexpTooBig line) × Rose looked.oversize.before looked.oversize.after
StatusCause looked wanted table fault = StatusMet looked wanted table fault

-- ---- the rows

-- where recorded times are right by a store, the rows are for paths that are left alone the full listing at the start of the call, by a table, what the store
-- has of its first parent, and the ignore patterns there
abbrev pub IsListedFor : Looked → Wanted → List Row → Table → Type 0
IsListedFor looked wanted rows table =
    (store : shelf.Files) → AreRight (rows_in table store) table looked.tree.old looked.tree.new
    → IsFullFor (IsUntouched store looked wanted table) (flat_of table) (tree.now looked.tree.old) (rows_in table store) (ignored_at (tree.now looked.tree.old)) wanted rows

-- the rows are the full listing of the working copy at a moment, by the table in these files, its first parent there, and the ignore patterns of that moment
pub record IsListed (files : shelf.Files) (moment : Moment) (wanted : Wanted) (rows : List Row) : Type 0 where
  pub table : Table
  pub recorded : record_in files files ≡ Some (Ok table)
  pub full : IsFull (flat_of table) moment (rows_in table files) (ignored_at moment) wanted rows

-- nobody but the caller makes a step
pub record IsOwn (looked : Looked) : Type 0 where
  pub tree : tree.IsOurs looked.tree.old looked.tree.new
  pub shelf : shelf.IsOurs looked.shelf.old looked.shelf.new

-- the tree was asked by a listing over a table: the ignore patterns were read where they are needed and a file of them was seen, then paths that
-- are compared were read, and where `?` or I is wanted directories were listed, each once at most; where nobody else steps, visible ones alone,
-- and without I none that is ignored
abbrev pub AsksOver : Table → Wanted → Watched tree.History → Type 0
AsksOver table wanted copy = AsksAll wanted (asking wanted table) (IsListedDir nothing_holds wanted copy.old copy.new) copy.old copy.new

-- it was asked nothing, or by a listing over the table that was read
abbrev pub AsksLittle : Looked → Wanted → Option Table → Type 0
AsksLittle looked wanted table =
    IsTrue looked.tree.old.told → AsksNothing looked.tree.old looked.tree.new ⊎ IsSomeAnd table (λ t. AsksOver t wanted looked.tree)

-- where nobody else steps, it was asked by a listing over a table that read the ignore patterns exactly where they are needed and stand there
abbrev pub AsksOwn : Looked → Wanted → Table → Type 0
AsksOwn looked wanted table =
    tree.IsOurs looked.tree.old looked.tree.new
    → AsksBehind (pattern_reads wanted (tree.now looked.tree.old)) (asking wanted table) (IsListedDir nothing_holds wanted looked.tree.old looked.tree.new) looked.tree.old looked.tree.new

-- what a listing over a table asks below `.hg`, from one history to another: the manifest once at most, where a path was compared, and contents that its
-- rows of such paths name
abbrev pub AsksPlain : Looked → Wanted → Table → shelf.History → shelf.History → Type 0
AsksPlain looked wanted table old new = AsksStore (walk_status wanted table looked.tree.old looked.tree.new old new)

-- it was asked nothing, or the bytes of each path in one comparison at most, and only where neither kind, executable bit nor size decide its letter by the table
-- that was read
abbrev pub ReadsLittle : Looked → Wanted → Option Table → Type 0
ReadsLittle looked wanted table =
    IsTrue looked.tree.old.told → AsksNothing looked.tree.old looked.tree.new ⊎ IsSomeAnd table (λ t. AsksNeeded (status_over looked wanted t))

-- below `.hg` the record was asked for; behind it nothing, or what a listing over the table that was read asks of the plain store; and behind that, where
-- times were to be saved, the docket once more
pub record AsksBelow (looked : Looked) (wanted : Wanted) (table : Option Table) : Type 0 where
  pub behind : shelf.History
  pub past : shelf.Extends behind looked.shelf.new
  pub load : AsksRecord looked.shelf.old behind
  pub listed : shelf.History
  pub later : shelf.Extends listed looked.shelf.new
  pub store : (listed.asked ≡ behind.asked) ⊎ IsSomeAnd table (λ t. AsksPlain looked wanted t behind listed)
  pub saving : AsksFrontOf (docket_ask ∷ []) listed looked.shelf.new
