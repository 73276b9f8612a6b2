-- What `remove` makes of a word (Mercurial help, remove): refused for the first reason that fits, or the file is taken away and its path forgotten.
use Rattle.std.specs.Prelude.{ℕ, suc, ◌≡◌, ◌≤◌, ◌<◌, Bool, true, false, not, ◌&&◌, ◌⊎◌, if◌then◌else◌, List, Option, Some, None, Result, Ok, Err, IsTrue, MatchBool, is_some}
use Rattle.hg_base.specs.PathText.{is_path}
use Rattle.hg_base.specs.declared.id.Id20.{Id20}
use Rattle.hg_base.specs.declared.stat.Stat.{Stat}
use Rattle.hg_compare.specs.Alike.{contents_name, is_alike}
use Rattle.hg_compare.specs.Same.{IsOther, IsSame, Reads}
use Rattle.hg_compare.specs.Seen.{Compared, SeesNothing}
use Rattle.hg_compare.specs.Tracked.{ParentRow, is_file_or_link, tracked_letter}
use Rattle.hg_compare.specs.declared.letter.Letter.{Letter}
use Rattle.hg_compare.specs.declared.letter.Letter.TheVariants as a_letter
use Rattle.hg_entry.specs.Entry.{EntryData}
use Rattle.hg_entry.specs.Steps.{is_file}
use Rattle.hg_entry.specs.Table.{Table, marks_of}
use Rattle.hg_manifest.specs.Rows.{Rows}
use Rattle.hg_manifest.specs.declared.row.FileRow.{FileRow}
use Rattle.hg_ops.specs.Look.{WasShown}
use Rattle.hg_ops.specs.Parent.{Holds, IsManifest, LacksManifest, Span, WasRead}
use Rattle.hg_ops.specs.Parents.{row_at}
use Rattle.hg_ops.specs.Step.{IsForgotten}
use Rattle.hg_ops.specs.declared.refusal.OpFault.{OpFault}
use Rattle.hg_ops.specs.declared.refusal.OpFault.TheVariants as a_fault
use Rattle.hg_ops.specs.declared.refusal.Refusal.{Refusal}
use Rattle.hg_ops.specs.declared.refusal.Refusal.TheVariants as a_refusal
use Rattle.hg_shelf.specs.History as shelf
use Rattle.hg_tree.specs.History.{History, Extends, IsOurs, Passes, now, others}
use Rattle.hg_tree.specs.Moment.{Moment, bytes_at, stat_at}
use Rattle.hg_tree.specs.Own.{MayUnlink}
use Rattle.hg_tree.specs.declared.thing.Placed.{Placed}

-- ---- why a word is refused, by one moment

-- an entry of a tracked path that no parent has
abbrev pub is_added : EntryData → Bool
is_added entry = not entry.p1 && not entry.p2

-- by what is recorded; `after` is the flag for files that are gone already, by which an added file may go too
abbrev pub entry_refusal : Bool → Option EntryData → Option Refusal
entry_refusal after None = Some a_refusal.NotTracked
entry_refusal after (Some entry) =
    if entry.w then (if not after && is_added entry then Some a_refusal.Added else None) else Some a_refusal.NotTracked

-- before any look at the working copy
abbrev pub early_refusal : Bool → List ℕ → Table → Option Refusal
early_refusal after word t = if is_path word then entry_refusal after (t.entries word) else Some a_refusal.BadPath

-- the letter is M
abbrev pub is_modified : Option Letter → Bool
is_modified (Some a_letter.M) = true
is_modified letter = false

-- by what stands there: for files that are gone already anything that can be tracked, and else what has the letter M
abbrev pub placed_refusal : Bool → Option EntryData → Bool → Option ParentRow → Option Placed → Option Refusal
placed_refusal after None copied row placed = None
placed_refusal true (Some entry) copied row placed = if is_file_or_link placed then Some a_refusal.StillThere else None
placed_refusal false (Some entry) copied row placed =
    if is_modified (tracked_letter row (marks_of entry) copied placed) then Some a_refusal.Changed else None

-- the first of two that is one
abbrev pub first_refusal : Option Refusal → Option Refusal → Option Refusal
first_refusal (Some refusal) second = Some refusal
first_refusal None second = second

-- why a word is refused, by what the first parent has of it and what stands there
abbrev pub remove_refusal : Bool → List ℕ → Table → Option ParentRow → Option Placed → Option Refusal
remove_refusal after word t row placed =
    first_refusal (early_refusal after word t) (placed_refusal after (t.entries word) (is_some (t.sources word)) row placed)

-- ---- why a word is refused, by what was seen at moments of a call

-- an entry whose marks, with no copy source, leave it to the row of the first parent whether its file is changed
abbrev pub is_by_row : Option EntryData → Bool → Bool
is_by_row None copied = false
is_by_row (Some entry) copied = entry.w && entry.p1 && not entry.p2 && not copied

-- neither marks nor a copy source decide whether a file that stands there is changed: what the first parent has of it does
abbrev pub needs_row : Bool → List ℕ → Table → Bool
needs_row after word t = is_path word && not after && is_by_row (t.entries word) (is_some (t.sources word))

-- a comparison of a path with a row
abbrev pub compared : List ℕ → FileRow → History → History → shelf.History → shelf.History → Compared
compared path row old new files later =
    record { path = path; name = contents_name row.id.0; tree_old = old; tree_new = new; shelf_old = files; shelf_new = later }

-- a file as the row's was seen, or that nothing is there any more
pub record IsAsRow (c : Compared) (row : FileRow) (before : Stat) : Type 0 where
  pub alike : is_alike row before ≡ true
  pub seen : IsSame c before ⊎ SeesNothing c

-- another was seen; where there is no row, any is another
abbrev pub IsUnlikeRow : List ℕ → History → History → Span → Stat → Option FileRow → Type 0
IsUnlikeRow path old new s before None = Unit {0}
IsUnlikeRow path old new s before (Some row) = (is_alike row before ≡ false) ⊎ IsOther (compared path row old new s.old s.new) before

-- what a look showed is as the first parent has it
pub record IsUnchangedFile (path : List ℕ) (old new : History) (s : Span) (before : Stat) : Type 0 where
  pub rows : Rows
  pub read : IsManifest s rows
  pub row : FileRow
  pub has : row_at rows path ≡ Some row
  pub seen : IsAsRow (compared path row old new s.old s.new) row before

-- what a look showed isn't as the first parent has it, or that has no row of the path
pub record IsChangedFile (path : List ℕ) (old new : History) (s : Span) (before : Stat) : Type 0 where
  pub rows : Rows
  pub read : IsManifest s rows
  pub seen : IsUnlikeRow path old new s before (row_at rows path)

-- so the row decides
abbrev pub RefusesByRow : List ℕ → History → History → Span → Stat → Option Refusal → Type 0
RefusesByRow path old new s before None = IsUnchangedFile path old new s before
RefusesByRow path old new s before (Some a_refusal.Changed) = IsChangedFile path old new s before
RefusesByRow path old new s before (Some refusal) = ⊥

-- a file or a link that a look showed; `needs` says whether the first parent's row decides
abbrev pub RefusesFile : Bool → Bool → List ℕ → History → History → Span → Stat → Option Refusal → Type 0
RefusesFile after needs word old new s before refused =
    MatchBool after (refused ≡ Some a_refusal.StillThere)
    (MatchBool needs (RefusesByRow word old new s before refused) (refused ≡ Some a_refusal.Changed))

-- what a look showed
abbrev pub RefusesShown : Bool → Bool → List ℕ → History → History → Span → Option Stat → Option Refusal → Type 0
RefusesShown after needs word old new s None refused = refused ≡ None
RefusesShown after needs word old new s (Some before) refused = MatchBool (is_file before.kind) (RefusesFile after needs word old new s before refused) (refused ≡ None)

-- where nothing recorded refuses the word
abbrev pub RefusesBehind : Option Refusal → Bool → Bool → List ℕ → History → History → Span → Option Stat → Option Refusal → Type 0
RefusesBehind (Some refusal) after needs word old new s shown refused = refused ≡ Some refusal
RefusesBehind None after needs word old new s shown refused = RefusesShown after needs word old new s shown refused

-- whether `remove` refuses a word, by what a look shows at it and what a comparison saw there
abbrev pub RefusesRemove : Bool → List ℕ → Table → History → History → Span → Option Stat → Option Refusal → Type 0
RefusesRemove after word t old new s shown refused =
    RefusesBehind (early_refusal after word t) after (needs_row after word t) word old new s shown refused

-- ---- what is done

-- whether a file may have been taken away, by the answer: never by the flag for files that are gone, nor where the word is refused, nor where
-- the files below `.hg` are to blame
abbrev pub may_take : Bool → Result (Option Refusal) OpFault → Bool
may_take true result = false
may_take false (Ok None) = true
may_take false (Ok (Some refusal)) = false
may_take false (Err a_fault.OutOfMemory) = true
may_take false (Err a_fault.TreeFailed) = true
may_take false (Err fault) = false

-- a file may be taken away by the last step, or nothing is changed
abbrev pub Takes : Bool → List ℕ → History → History → Type 0
Takes may word old new = MatchBool may (Extends old new × (IsTrue old.told → MayUnlink word old new)) (Passes old new)

-- the first parent's row was needed: nothing else decides, and a look showed a file or a link
pub record NeedsRow (needs : Bool) (word : List ℕ) (old new : History) : Type 0 where
  pub decides : needs ≡ true
  pub stat : Stat
  pub file : is_file stat.kind ≡ true
  pub was : IsTrue old.told → WasShown old new word (Some stat)

-- all bytes of a file or a link were seen to be those of the first parent's row
pub record SeesClean (needs : Bool) (word : List ℕ) (old new : History) (s : Span) : Type 0 where
  pub need : NeedsRow needs word old new
  pub rows : Rows
  pub read : IsManifest s rows
  pub row : FileRow
  pub has : row_at rows word ≡ Some row
  pub alike : is_alike row need.stat ≡ true
  pub same : IsSame (compared word row old new s.old s.new) need.stat

-- such a file may be taken away behind the look, where nothing recorded refuses the word
pub record TakesClean (after : Bool) (word : List ℕ) (was : Table) (old mid new : History) (s : Span) : Type 0 where
  pub early : early_refusal after word was ≡ None
  pub clean : SeesClean (needs_row after word was) word old mid s
  pub past : Extends mid new
  pub taken : IsTrue mid.told → MayUnlink word mid new

-- where a fault is answered nothing is changed, or such a file may be gone
abbrev pub StopsRemoving : Bool → List ℕ → Table → History → History → Span → Type 0
StopsRemoving after word was old new s = Passes old new ⊎ ((mid : History) × Passes old mid × TakesClean after word was old mid new s)

-- at a moment of the call neither a file nor a link stood at the path; where nobody else stepped, so it is at the end
pub record WasGone (old new : History) (path : List ℕ) : Type 0 where
  pub moment : ℕ
  pub later : old.last ≤ moment
  pub upto : moment ≤ new.last
  pub gone_then : bytes_at (new.at moment) path ≡ None
  pub gone_last : IsOurs old new → bytes_at (now new) path ≡ None

-- so where the word isn't refused
abbrev pub IsGone : List ℕ → History → History → Option Refusal → Type 0
IsGone word old new (Some refusal) = Unit {0}
IsGone word old new None = IsTrue old.told → WasGone old new word

-- what `remove` made of a word and a table. All that it looked at is told by `mid`; behind that a file
-- that was seen to be the first parent's is taken away, and no other. What it read below `.hg`,
-- and what was read there before it of the first parent, was so at moments of a span
pub record Removes (after : Bool) (word : List ℕ) (old new : History) (s : Span) (was : Table) (refused : Option Refusal) (made : Table) : Type 0 where
  pub mid : History
  pub looks : Passes old mid
  pub reads : shelf.Passes s.old s.new
  pub past : Extends mid new
  pub shown : Option Stat
  pub was_shown : IsTrue old.told → WasShown old mid word shown
  pub refusal : RefusesRemove after word was old mid s shown refused
  pub takes : Takes (may_take after (Ok refused)) word mid new
  pub took : Passes mid new ⊎ ((refused ≡ None) × TakesClean after word was old mid new s)
  pub gone : IsGone word old new refused
  pub table : IsForgotten word refused was made

-- ---- what is asked for, and why a call stops

-- of the working copy nothing was asked for but bytes of the word's path, and they only where they are compared
pub record ReadsWord (needs : Bool) (word : List ℕ) (old new : History) : Type 0 where
  pub size : ℕ
  pub asked : IsTrue old.told → Reads size word old new
  pub needed : (size ≡ 0) ⊎ ((need : NeedsRow needs word old new) × (size ≡ need.stat.size))

-- the row of the path names contents that weren't there
pub record LacksContents (needs : Bool) (word : List ℕ) (old new : History) (s : Span) (lost : Id20) : Type 0 where
  pub need : NeedsRow needs word old new
  pub rows : Rows
  pub read : WasRead s (Ok rows)
  pub row : FileRow
  pub has : row_at rows word ≡ Some row
  pub names : row.id ≡ lost
  pub alike : is_alike row need.stat ≡ true
  pub absent : Holds s (contents_name lost.0) (λ file. file ≡ None)

-- what was met where a fault is answered. Want of memory says nothing, and a device that fails nothing of what stands there
abbrev pub MetRemoving : Bool → List ℕ → History → History → Span → OpFault → Type 0
MetRemoving needs word old new s a_fault.OutOfMemory = Unit {0}
MetRemoving needs word old new s a_fault.TreeFailed = Unit {0}
MetRemoving needs word old new s a_fault.ShelfFailed = NeedsRow needs word old new
MetRemoving needs word old new s (a_fault.NoManifest lost) = NeedsRow needs word old new × LacksManifest s (a_fault.NoManifest lost)
MetRemoving needs word old new s (a_fault.ManifestTooLarge size) = NeedsRow needs word old new × LacksManifest s (a_fault.ManifestTooLarge size)
MetRemoving needs word old new s (a_fault.ManifestLine line) = NeedsRow needs word old new × LacksManifest s (a_fault.ManifestLine line)
MetRemoving needs word old new s (a_fault.ManifestOrder line) = NeedsRow needs word old new × LacksManifest s (a_fault.ManifestOrder line)
MetRemoving needs word old new s (a_fault.NoContents lost) = LacksContents needs word old new s lost

-- ---- where nobody else touches anything

-- what a look shows of a path, and what can be read of it, is the same at two moments
pub record ShowsAlike (m n : Moment) (path : List ℕ) : Type 0 where
  pub stat : stat_at n path ≡ stat_at m path
  pub bytes : bytes_at n path ≡ bytes_at m path

-- no step of others changes that
pub record OthersLeave (old new : History) (path : List ℕ) : Type 0 where
  pub told : IsTrue old.told
  pub each : (k : ℕ) → old.last ≤ k → k < new.last → new.who k ≡ others → ShowsAlike (new.at k) (new.at (suc k)) path
