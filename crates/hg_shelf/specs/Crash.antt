-- A crash of a shelf in memory: what is left of its files.
use Rattle.std.specs.Prelude.{ℕ, ◌≡◌, ◌==◌, ◌&&◌, ◌||◌, not, nat_lt, Bool, true, false, if◌then◌else◌, List, [], ◌∷◌, length, replicate, Option, Some, None, is_some, bytes_eq}
use Rattle.std.specs.Option.{option_map_or}
use Rattle.hg_shelf.specs.History.{Files}
use Rattle.hg_shelf.specs.Rules.{content, overwritten, moved, without}
use Rattle.hg_shelf.specs.Memory.{Memory, empty, fresh, scene_at, with_file}
use Rattle.hg_shelf.specs.declared.outside.Change.{Change}
use Rattle.hg_shelf.specs.declared.outside.Step.{Step}
use Rattle.hg_shelf.specs.declared.outside.Step.TheVariants as a_step

-- whether a change came before the call of that number: by an earlier one, or by others just before it
abbrev pub is_before : ℕ → Change → Bool
is_before call change = nat_lt change.call call || (change.call == call && not change.by_us)

-- the changes before that call
abbrev pub up_to : ℕ → List Change → List Change
up_to call [] = []
up_to call (change ∷ more) = if is_before call change then change ∷ up_to call more else []

-- the moment just before that call, or the last where it wasn't made yet
abbrev pub stop_at : ℕ → Memory → ℕ
stop_at call memory = length (up_to call memory.changes)

-- the files after a step that is wholly done
abbrev pub done_by : Step → Files → Files
done_by (a_step.Placed name bytes) files = with_file name bytes files
done_by (a_step.Taken name) files = without name files
done_by (a_step.Wrote name place bytes) files = with_file name (overwritten (content (files name)) place bytes) files
done_by (a_step.Synced name) files = files
done_by (a_step.Renamed from to) files = moved from to files
done_by a_step.SyncedNames files = files
done_by (a_step.Removed name) files = without name files

-- whether a step is of an absent file, where it does nothing: a sync or a rename
abbrev pub is_idle : Step → Files → Bool
is_idle (a_step.Placed name bytes) files = false
is_idle (a_step.Taken name) files = false
is_idle (a_step.Wrote name place bytes) files = false
is_idle (a_step.Synced name) files = not (is_some (files name))
is_idle (a_step.Renamed from to) files = not (is_some (files from))
is_idle a_step.SyncedNames files = false
is_idle (a_step.Removed name) files = false

-- the steps that did something, from what reads show at first
abbrev pub effective : List Change → Files → List Step
effective [] files = []
effective (change ∷ more) files = if is_idle change.what files then effective more files else change.what ∷ effective more (done_by change.what files)

-- the name that a file has after a step, none where the file is replaced or goes away
abbrev pub name_after : Step → List ℕ → Option (List ℕ)
name_after (a_step.Placed name bytes) file = if bytes_eq name file then None else Some file
name_after (a_step.Taken name) file = if bytes_eq name file then None else Some file
name_after (a_step.Wrote name place bytes) file = Some file
name_after (a_step.Synced name) file = Some file
name_after (a_step.Renamed from to) file = if bytes_eq from file then Some to else (if bytes_eq to file then None else Some file)
name_after a_step.SyncedNames file = Some file
name_after (a_step.Removed name) file = if bytes_eq name file then None else Some file

-- whether a step makes a file sure
abbrev pub is_sync_of : Step → List ℕ → Bool
is_sync_of (a_step.Placed name bytes) file = false
is_sync_of (a_step.Taken name) file = false
is_sync_of (a_step.Wrote name place bytes) file = false
is_sync_of (a_step.Synced name) file = bytes_eq name file
is_sync_of (a_step.Renamed from to) file = false
is_sync_of a_step.SyncedNames file = false
is_sync_of (a_step.Removed name) file = false

-- whether a file is made sure by a step, or later under the name that it has then
abbrev pub sure_before : Step → (List ℕ → Bool) → List ℕ → Bool
sure_before step later file = is_sync_of step file || option_map_or later (name_after step file) false

-- whether the file of a name is made sure by some steps, under whatever name
abbrev pub is_sure_by : List Step → List ℕ → Bool
is_sure_by [] file = false
is_sure_by (step ∷ rest) file = sure_before step (is_sure_by rest) file

-- whether a step makes all names so far sure
abbrev pub syncs_names : Step → Bool
syncs_names (a_step.Placed name bytes) = false
syncs_names (a_step.Taken name) = false
syncs_names (a_step.Wrote name place bytes) = false
syncs_names (a_step.Synced name) = false
syncs_names (a_step.Renamed from to) = false
syncs_names a_step.SyncedNames = true
syncs_names (a_step.Removed name) = false

-- whether some steps make the names so far sure
abbrev pub are_names_sure_by : List Step → Bool
are_names_sure_by [] = false
are_names_sure_by (step ∷ rest) = syncs_names step || are_names_sure_by rest

-- a file whose written range holds one byte over and over
abbrev pub filled : ℕ → List ℕ → ℕ → List ℕ → Files → Files
filled fill name place bytes files = with_file name (overwritten (content (files name)) place (replicate (length bytes) fill)) files

-- the same where the file is there, and else it stays away
abbrev pub refilled : ℕ → List ℕ → ℕ → List ℕ → Files → Files
refilled fill name place bytes files = if is_some (files name) then filled fill name place bytes files else files

-- what is left by a step where all that isn't made sure later is lost, but for the fill in the written ranges of files that stay
abbrev pub lost_by : ℕ → List Step → Step → Files → Files
lost_by fill rest (a_step.Placed name bytes) files = with_file name bytes files
lost_by fill rest (a_step.Taken name) files = without name files
lost_by fill rest (a_step.Wrote name place bytes) files =
    if is_sure_by rest name then done_by (a_step.Wrote name place bytes) files else refilled fill name place bytes files
lost_by fill rest (a_step.Synced name) files = files
lost_by fill rest (a_step.Renamed from to) files =
    if are_names_sure_by rest || is_sure_by rest from || is_sure_by rest to then moved from to files else files
lost_by fill rest a_step.SyncedNames files = files
lost_by fill rest (a_step.Removed name) files = if are_names_sure_by rest || is_sure_by rest name then without name files else files

-- what is left by a step where all names are kept, and the fill is in each written range that isn't made sure later
abbrev pub kept_by : ℕ → List Step → Step → Files → Files
kept_by fill rest (a_step.Placed name bytes) files = with_file name bytes files
kept_by fill rest (a_step.Taken name) files = without name files
kept_by fill rest (a_step.Wrote name place bytes) files =
    if is_sure_by rest name then done_by (a_step.Wrote name place bytes) files else filled fill name place bytes files
kept_by fill rest (a_step.Synced name) files = files
kept_by fill rest (a_step.Renamed from to) files = moved from to files
kept_by fill rest a_step.SyncedNames files = files
kept_by fill rest (a_step.Removed name) files = without name files

-- the files that some steps leave one after another, each by a rule that sees the steps behind it
abbrev pub through : (List Step → Step → Files → Files) → List Step → Files → Files
through rule [] files = files
through rule (step ∷ rest) files = through rule rest (rule rest step files)

-- what some steps leave where all that they don't make sure is lost, but for the fill in the written ranges of files that stay
abbrev pub lost : ℕ → List Step → Files → Files
lost fill steps files = through (lost_by fill) steps files

-- and where all names are kept, and the fill is in each written range that isn't sure
abbrev pub kept : ℕ → List Step → Files → Files
kept fill steps files = through (kept_by fill) steps files

-- and where all is kept
abbrev pub shown : List Step → Files → Files
shown steps files = through (λ rest. done_by) steps files

-- the rule of a pick: nothing but what is sure, with 0xAA; all; or all names, with 0xFF
abbrev pub picked_by : ℕ → List Step → Step → Files → Files
picked_by pick rest step files = if pick == 0 then lost_by 170 rest step files else (if pick == 1 then done_by step files else kept_by 255 rest step files)

-- the steps of a shelf in memory that did something before that call
abbrev pub steps_up_to : ℕ → Memory → List Step
steps_up_to call memory = effective (up_to call memory.changes) empty.files

-- a shelf has these files, and no crash changes them as long as no call is made
pub record HasOnly (files : Files) (memory : Memory) : Type 0 where
  pub fresh : record memory { changes = [] } ≡ fresh
  pub shown : (name : List ℕ) → (scene_at memory (length memory.changes)).files name ≡ files name
  pub sure : (c : Files) → (scene_at memory (length memory.changes)).leaves c → (name : List ℕ) → c name ≡ files name
