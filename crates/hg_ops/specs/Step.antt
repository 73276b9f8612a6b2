-- What a command makes of a table, by one word (Mercurial help, add and forget): refused for the first reason that fits, or done.
use Rattle.std.specs.Prelude.{ℕ, ◌≡◌, Bool, true, false, ◌||◌, if◌then◌else◌, List, Option, Some, None, MatchBool}
use Rattle.hg_base.specs.PathText.{is_path}
use Rattle.hg_base.specs.declared.stat.Stat.{Stat}
use Rattle.hg_entry.specs.Entry.{EntryData}
use Rattle.hg_entry.specs.Steps.{is_file, tracked, untracked}
use Rattle.hg_entry.specs.Table.{Table}
use Rattle.hg_nodes.specs.Clash.{IsLeast, clashes, is_tracked_entry}
use Rattle.hg_nodes.specs.Drop.{IsPruned, after_clear}
use Rattle.hg_nodes.specs.Edits.{IsSame, after_copy, after_set}
use Rattle.hg_ops.specs.declared.refusal.Refusal.{Refusal}
use Rattle.hg_ops.specs.declared.refusal.Refusal.TheVariants as a_refusal

-- a path is tracked
abbrev pub is_tracked : Table → List ℕ → Bool
is_tracked t path = is_tracked_entry (t.entries path)

-- an entry that says that its file is tracked, and nothing else
abbrev pub new_entry : EntryData
new_entry =
    record {
      w = true;
      p1 = false;
      p2 = false;
      exec = false;
      link = false;
      size = None;
      stamp = None;
      modified = false;
      fallback = 0;
    }

-- the entry of a path that is tracked from now on: what is there keeps all but its time
abbrev pub entry_added : Option EntryData → EntryData
entry_added None = new_entry
entry_added (Some entry) = tracked entry

-- a path is tracked; a copy source that is there stays
abbrev pub after_add : List ℕ → Table → Table
after_add path t = after_set path (entry_added (t.entries path)) t

-- of a file or a link that isn't tracked: refused where a tracked path stands above it or below it, and then with the least of these
abbrev pub RefusesBeside : List ℕ → Table → Option Refusal → Type 0
RefusesBeside path t None = IsLeast (clashes path t.entries) None
RefusesBeside path t (Some (a_refusal.Clash other)) = IsLeast (clashes path t.entries) (Some other)
RefusesBeside path t (Some refusal) = ⊥

-- why what a look shows can't be tracked: nothing is there, or neither a file nor a link
abbrev pub thing_refusal : Option Stat → Option Refusal
thing_refusal None = Some a_refusal.NotThere
thing_refusal (Some stat) = if is_file stat.kind then None else Some a_refusal.Special

-- of a path that isn't tracked, by what a look shows there: what is there is looked at first, and then what is tracked beside it
abbrev pub RefusesThing : List ℕ → Option Refusal → Table → Option Refusal → Type 0
RefusesThing path (Some refusal) t refused = refused ≡ Some refusal
RefusesThing path None t refused = RefusesBeside path t refused

-- whether `add` refuses a word, by what a look shows at it: no path is refused, and a tracked path never
abbrev pub RefusesAdd : List ℕ → Option Stat → Table → Option Refusal → Type 0
RefusesAdd word shown t refused =
    MatchBool (is_path word) (MatchBool (is_tracked t word) (refused ≡ None) (RefusesThing word (thing_refusal shown) t refused))
    (refused ≡ Some a_refusal.BadPath)

-- the table behind `add`: what was, where the word is refused or tracked already
abbrev pub added : List ℕ → Option Refusal → Table → Table
added word (Some refusal) t = t
added word None t = if is_tracked t word then t else after_add word t

-- what `add` makes of a word and a table, by what a look shows at the word
pub record IsAdd (word : List ℕ) (shown : Option Stat) (old : Table) (refused : Option Refusal) (new : Table) : Type 0 where
  pub refusal : RefusesAdd word shown old refused
  pub table : IsSame new (added word refused old)

-- why `forget` refuses a word
abbrev pub forget_refusal : List ℕ → Table → Option Refusal
forget_refusal word t =
    if is_path word
    then (if is_tracked t word then None else Some a_refusal.NotTracked)
    else Some a_refusal.BadPath

-- a path that a parent has is untracked, and has no copy source
abbrev pub after_untracked : List ℕ → EntryData → Table → Table
after_untracked path entry t = after_set path (untracked entry) (after_copy path None t)

-- what is left of a path's entry: it is untracked where a parent has it, and else it goes with its source, and with it what is left empty
abbrev pub IsUntracked : List ℕ → Option EntryData → Table → Table → Type 0
IsUntracked path None old new = IsSame new old
IsUntracked path (Some entry) old new =
    MatchBool (entry.p1 || entry.p2) (IsSame new (after_untracked path entry old)) (IsPruned path (after_clear path old) new)

-- the table behind `forget`
abbrev pub IsForgotten : List ℕ → Option Refusal → Table → Table → Type 0
IsForgotten word (Some refusal) old new = IsSame new old
IsForgotten word None old new = IsUntracked word (old.entries word) old new

-- what `forget` makes of a word and a table
pub record IsForget (word : List ℕ) (old : Table) (refused : Option Refusal) (new : Table) : Type 0 where
  pub refusal : refused ≡ forget_refusal word old
  pub table : IsForgotten word refused old new
