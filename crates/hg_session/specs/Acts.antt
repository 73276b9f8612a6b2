-- What a command that changes the record makes of it, and how each does so.
use Rattle.std.specs.Prelude.{ℕ, ◌≡◌, ◌⊎◌, Bool, true, false, List, [], ◌∷◌, ◌++◌, map, Option, Some, None, Ok, Err, IsTrue, codes}
use Rattle.std.specs.List.{AllByRecursion}
use Rattle.hg_entry.specs.Table.{Table}
use Rattle.hg_nodes.specs.Edits.{IsSame}
use Rattle.hg_mixed.specs.Held.{table}
use Rattle.hg_ops.specs.Copy.{Copies, OnlyCopies}
use Rattle.hg_ops.specs.Look.{Adds, Looks}
use Rattle.hg_ops.specs.Parent.{AsksStore, Span, upto}
use Rattle.hg_ops.specs.Remove as one
use Rattle.hg_ops.specs.Remove.{MetRemoving, NeedsRow, ReadsWord, Removes, Takes, may_take, needs_row}
use Rattle.hg_ops.specs.Step.{IsForget, IsForgotten}
use Rattle.hg_ops.specs.declared.copy_refusal.CopyRefusal.{CopyRefusal}
use Rattle.hg_ops.specs.declared.copy_refusal.CopyRefusal.TheVariants as a_word
use Rattle.hg_ops.specs.declared.refusal.OpFault.{OpFault}
use Rattle.hg_ops.specs.declared.refusal.OpFault.TheVariants as an_op_fault
use Rattle.hg_ops.specs.declared.refusal.Refusal.{Refusal}
use Rattle.hg_report.specs.Cause.{of_op}
use Rattle.hg_report.specs.Refusal.{refusal_line}
use Rattle.hg_report.specs.declared.fault.Fault.{Fault}
use Rattle.hg_save.specs.Record.{reading}
use Rattle.hg_session.specs.Call.{Fails, IsLeftAlone, Watched}
use Rattle.hg_session.specs.Manifests.{AsksManifests, IsReparented, StopsParents}
use Rattle.hg_session.specs.declared.acting.Changing.{Changing}
use Rattle.hg_session.specs.declared.acting.Changing.TheVariants as a_change
use Rattle.hg_shelf.specs.History as shelf
use Rattle.hg_session.specs.Told.{OnlyRefuses, Told}
use Rattle.hg_shelf.specs.Images.{Course, Scene, scene}
use Rattle.hg_tree.specs.History as tree
use Rattle.hg_tree.specs.Touched.{ChangesOnly}
use Rattle.hg_tree.specs.declared.asked.Asked.{Asked}
use Rattle.hg_tree.specs.declared.asked.Asked.TheVariants as an_ask
use Rattle.hg_words.specs.declared.given.Command.{Command}
use Rattle.hg_words.specs.declared.given.Command.TheVariants as a_command

-- what a command does to the record: of the one that was read the one that is made, with what is told, and whether something was changed; for which faults it
-- stops; what it may write below `.hg` besides publishing, from one moment to the next; and what is asked of others up to the moment over which another record
-- is published, so that the one that was read stands there
pub record Makes : Type 1 where
  pub does : Table → Table → Told → Bool → Type 0
  pub stops : Table → Fault → Type 0
  pub may : Scene → Scene → Type 0
  pub fair : shelf.History → ℕ → Type 0

-- nothing may be written besides
abbrev pub WritesNothing : Scene → Scene → Type 0
WritesNothing before behind = ⊥

-- nothing is asked of others: the record is read while the lock is held
abbrev pub AskNothing : shelf.History → ℕ → Type 0
AskNothing h at = Unit {0}

-- a command that makes nothing of the record
abbrev pub makes_nothing : Makes
makes_nothing = record { does = λ loaded made said changed. ⊥; stops = λ loaded fault. ⊥; may = WritesNothing; fair = AskNothing }

-- a fault is told as such of an operation, and this is so of that
abbrev pub ByOp : (OpFault → Type 0) → Fault → Type 0
ByOp Stops fault = (met : OpFault) × (fault ≡ of_op met) × Stops met

-- the files of a moment record it
abbrev pub StandsAt : Course → ℕ → Table → Type 0
StandsAt c at loaded = reading (scene c at).files ≡ Some (Ok loaded)

-- ---- words, one after another

-- what a command makes of one word and a table while the tree goes from one history to another
abbrev pub Stepping : Type 1
Stepping = tree.History → tree.History → List ℕ → Table → Option Refusal → Table → Type 0

-- a word, and why it was refused, if it was
pub record Deed : Type 0 where
  pub word : List ℕ
  pub refused : Option Refusal

-- a command did what it says with this word
pub record IsStep (Steps : Stepping) (before after : tree.History) (deed : Deed) (old new : Table) : Type 0 where
  pub past : tree.Extends before after
  pub made : Steps before after deed.word old deed.refused new

-- several words were done one after another, each over the tree and the table that those before it left
abbrev pub AllSteps : Stepping → tree.History → tree.History → List Deed → Table → Table → Type 0
AllSteps Steps before after [] old new = (after ≡ before) × IsSame new old
AllSteps Steps before after (deed ∷ more) old new =
    (mid : tree.History) × (between : Table) × IsStep Steps before mid deed old between × AllSteps Steps mid after more between new

-- each of these words left the table as it found it
abbrev pub AllIdle : (Steps : Stepping) (before after : tree.History) (deeds : List Deed) (old new : Table)
    → AllSteps Steps before after deeds old new → Type 0
AllIdle Steps before after [] old new steps = Unit {0}
AllIdle Steps before after (deed ∷ more) old new steps = IsSame steps.1 old × AllIdle Steps steps.0 after more steps.1 new steps.3

-- the line of a word that was refused, by the command's name
abbrev pub refused_line : List ℕ → List ℕ → Option Refusal → List ℕ
refused_line name word None = []
refused_line name word (Some refusal) = refusal_line name word refusal

-- the lines of those words that were refused, in their order
abbrev pub refusals_text : List ℕ → List Deed → List ℕ
refusals_text name [] = []
refusals_text name (deed ∷ more) = refused_line name deed.word deed.refused ++ refusals_text name more

-- no word was refused
abbrev pub NoneRefused : List Deed → Type 0
NoneRefused deeds = AllByRecursion (λ deed. deed.refused ≡ None) deeds

-- a command of this name did what it says for each of these words in order, and told the lines of those that were refused
pub record IsActed (name : List ℕ) (Steps : Stepping) (words : List (List ℕ)) (copy : Watched tree.History) (old new : Table) (lines : List ℕ) (changed : Bool) : Type 0 where
  pub deeds : List Deed
  pub all : map (λ deed. deed.word) deeds ≡ words
  pub steps : AllSteps Steps copy.old copy.new deeds old new
  pub text : lines ≡ refusals_text name deeds
  -- there is no line exactly where no word was refused
  pub silent : NoneRefused deeds → lines ≡ []
  pub told : lines ≡ [] → NoneRefused deeds
  -- where no word changed anything nothing was changed, and then the record is the same
  pub idle : AllIdle Steps copy.old copy.new deeds old new steps → changed ≡ false
  pub same : changed ≡ false → IsSame new old

-- `add` and `forget` read no file below `.hg`; of the working copy each looks at nothing but a word's path, and at that only where it isn't tracked
abbrev pub name : Changing → List ℕ
name a_change.Add = codes "add"
name a_change.Forget = codes "forget"

abbrev pub steps_of : Changing → Stepping
steps_of a_change.Add before after word old refused new = Adds word before after old refused new × Looks word old before after
steps_of a_change.Forget before after word old refused new = IsForget word old refused new × Looks word old before after

-- ---- `remove`

-- the first parent of a record, over a stretch of the files below `.hg`
abbrev pub span_of : Table → shelf.History → shelf.History → Span
span_of t old new = record { id = record { 0 = t.p1 }; old = old; new = new }

-- what `remove` makes of a word, by what it read below `.hg` up to some place in the stretch
pub record TakesAway (after : Bool) (s : Span) (old new : tree.History) (word : List ℕ) (was : Table) (refused : Option Refusal) (made : Table) : Type 0 where
  pub end : shelf.History
  pub within : shelf.Extends end s.new
  pub removes : Removes after word old new (upto s end) was refused made
  pub reads : ReadsWord (needs_row after word was) word old new

-- it did so with each of these words; the first parent is that of the record that was read
pub record IsRemoved (after : Bool) (words : List (List ℕ)) (copy : Watched tree.History) (files : Watched shelf.History) (old new : Table) (lines : List ℕ) (changed : Bool) : Type 0 where
  pub start : shelf.History
  pub begun : shelf.Extends files.old start
  pub acted : IsActed (codes "remove") (TakesAway after (span_of old start files.new)) words copy old new lines changed

-- with the words in front it did so, and with the next one it met this fault, behind which nothing more was done
pub record StopsAtWord (after : Bool) (words : List (List ℕ)) (copy : Watched tree.History) (files : Watched shelf.History) (old : Table) (fault : OpFault) : Type 0 where
  pub start : shelf.History
  pub begun : shelf.Extends files.old start
  pub deeds : List Deed
  pub word : List ℕ
  pub rest : List (List ℕ)
  pub all : words ≡ map (λ deed. deed.word) deeds ++ word ∷ rest
  pub mid : tree.History
  pub between : Table
  pub steps : AllSteps (TakesAway after (span_of old start files.new)) copy.old mid deeds old between
  pub past : tree.Extends mid copy.new
  pub takes : Takes (may_take after (Err fault)) word mid copy.new
  pub reads : ReadsWord (needs_row after word between) word mid copy.new
  pub end : shelf.History
  pub within : shelf.Extends end files.new
  pub met : MetRemoving (needs_row after word between) word mid copy.new (span_of old start end) fault
  -- of the working copy nothing was changed then, or a file is gone whose bytes were seen to be the first parent's
  pub stopped : one.StopsRemoving after word between mid copy.new (span_of old start end)

-- with some words it did so, and then there was no memory for a line
pub record StopsBehind (after : Bool) (words : List (List ℕ)) (copy : Watched tree.History) (files : Watched shelf.History) (old : Table) (fault : OpFault) : Type 0 where
  pub is : fault ≡ an_op_fault.OutOfMemory
  pub start : shelf.History
  pub begun : shelf.Extends files.old start
  pub deeds : List Deed
  pub rest : List (List ℕ)
  pub all : words ≡ map (λ deed. deed.word) deeds ++ rest
  pub between : Table
  pub steps : AllSteps (TakesAway after (span_of old start files.new)) copy.old copy.new deeds old between

abbrev pub StopsRemoving : Bool → List (List ℕ) → Watched tree.History → Watched shelf.History → Table → OpFault → Type 0
StopsRemoving after words copy files old fault = StopsAtWord after words copy files old fault ⊎ StopsBehind after words copy files old fault

-- ---- `copy`

-- the line of a copy that was refused, which names the word that it is about
abbrev pub copy_line : List ℕ → List ℕ → Option CopyRefusal → List ℕ
copy_line source target None = []
copy_line source target (Some (a_word.Source refusal)) = refusal_line (codes "copy") source refusal
copy_line source target (Some (a_word.Target refusal)) = refusal_line (codes "copy") target refusal

-- `copy` did what it says with its two words, and told the line of a refusal; nothing was changed exactly where the record is the same
pub record IsCopied (source target : List ℕ) (copy : Watched tree.History) (old new : Table) (lines : List ℕ) (changed : Bool) : Type 0 where
  pub refused : Option CopyRefusal
  pub copies : Copies source target copy.old copy.new old refused new
  pub text : lines ≡ copy_line source target refused
  pub told : lines ≡ [] → refused ≡ None
  pub idle : IsSame new old → changed ≡ false
  pub same : changed ≡ false → IsSame new old

-- ---- each command

-- nothing is made of the record
pub record IsNothingMade (old new : Table) (lines : List ℕ) (changed : Bool) : Type 0 where
  pub table : IsSame new old
  pub silent : lines ≡ []
  pub unchanged : changed ≡ false

-- there was no memory, or the working copy failed
abbrev pub IsTreeFault : OpFault → Type 0
IsTreeFault fault = (fault ≡ an_op_fault.OutOfMemory) ⊎ (fault ≡ an_op_fault.TreeFailed)

-- a command that reads the record while the lock is held, refuses words, and writes nothing below `.hg` but the record
abbrev pub made_so : (Table → Table → List ℕ → Bool → Type 0) → (Table → OpFault → Type 0) → Makes
made_so Does Stops = record {
  does = λ loaded made said changed. OnlyRefuses (λ lines. Does loaded made lines changed) said;
  stops = λ loaded. ByOp (Stops loaded);
  may = WritesNothing;
  fair = AskNothing;
}

-- what a command makes of the record, by what the working copy and the files below `.hg` tell of the call
abbrev pub makes_of : Command → Watched tree.History → Watched shelf.History → Makes
makes_of (a_command.Add words) copy files = made_so (IsActed (codes "add") (steps_of a_change.Add) words copy) (λ loaded. IsTreeFault)
makes_of (a_command.Forget words) copy files = made_so (IsActed (codes "forget") (steps_of a_change.Forget) words copy) (λ loaded fault. fault ≡ an_op_fault.OutOfMemory)
makes_of (a_command.Remove after words) copy files = made_so (IsRemoved after words copy files) (StopsRemoving after words copy files)
makes_of (a_command.Copy source target) copy files = made_so (IsCopied source target copy) (λ loaded. IsTreeFault)
makes_of (a_command.SetParents p1 p2) copy files = made_so (IsReparented p1 p2 files) (λ loaded. StopsParents p1 p2 files)
makes_of command copy files = made_so IsNothingMade (λ loaded fault. ⊥)

-- ---- the working copy

-- the tree is asked for no bytes and no names, and nothing of it is changed
pub record OnlyLooks (copy : Watched tree.History) : Type 0 where
  pub passes : tree.Passes copy.old copy.new
  pub asked : IsTrue copy.old.told → copy.new.asked ≡ copy.old.asked

-- what words make of a table alone, whatever stands in the tree: those that aren't refused are forgotten
abbrev pub forgets : Stepping
forgets before after word old refused new = IsForgotten word refused old new

-- these words made this of the record that was read
pub record IsMadeInFront (words : List (List ℕ)) (loaded : Table) (old mid : tree.History) (was : Table) : Type 0 where
  pub deeds : List Deed
  pub all : map (λ deed. deed.word) deeds ≡ words
  pub steps : AllSteps forgets old mid deeds loaded was

-- the first parent's row of a word was needed: by the table behind the words in front, and by a look that showed a file or a link
pub record NeedsSome (after : Bool) (words : List (List ℕ)) (loaded : Table) (copy : Watched tree.History) : Type 0 where
  pub front : List (List ℕ)
  pub word : List ℕ
  pub rest : List (List ℕ)
  pub all : words ≡ front ++ word ∷ rest
  pub old : tree.History
  pub new : tree.History
  pub before : tree.Extends copy.old old
  pub behind : tree.Extends new copy.new
  pub was : Table
  pub made : IsMadeInFront front loaded copy.old old was
  pub need : NeedsRow (needs_row after word was) word old new

-- the bytes of such a word's path were asked for
abbrev pub IsWordRead : Bool → List (List ℕ) → Table → Watched tree.History → Asked → Type 0
IsWordRead after words loaded copy ask = (some : NeedsSome after words loaded copy) × (ask ≡ an_ask.Read some.word)

-- nothing else was asked for
pub record ReadsWords (after : Bool) (words : List (List ℕ)) (loaded : Table) (copy : Watched tree.History) : Type 0 where
  pub more : List Asked
  pub asked : copy.new.asked ≡ copy.old.asked ++ more
  pub each : AllByRecursion (IsWordRead after words loaded copy) more

-- of the tree nothing is changed but these words, and directories above them; and nothing where they are to be gone already
pub record OnlyTakes (after : Bool) (words : List (List ℕ)) (loaded : Table) (copy : Watched tree.History) : Type 0 where
  pub past : tree.Extends copy.old copy.new
  pub gone : after ≡ true → tree.Passes copy.old copy.new
  pub only : IsTrue copy.old.told → ChangesOnly words copy.old copy.new
  pub reads : IsTrue copy.old.told → ReadsWords after words loaded copy

-- of the tree nothing is changed but the target, by parts of the source behind looks that refused nothing, and directories above it
pub record OnlyPuts (source target : List ℕ) (loaded : Table) (copy : Watched tree.History) : Type 0 where
  pub past : tree.Extends copy.old copy.new
  pub copies : IsTrue copy.old.told → OnlyCopies source target loaded (Fails copy) copy.old copy.new
  pub only : IsTrue copy.old.told → ChangesOnly (target ∷ []) copy.old copy.new

-- what becomes of the working copy, whatever is answered, behind a record that was read
abbrev pub ChangesTree : Command → Table → Watched tree.History → Type 0
ChangesTree (a_command.Add words) loaded copy = OnlyLooks copy
ChangesTree (a_command.Remove after words) loaded copy = OnlyTakes after words loaded copy
ChangesTree (a_command.Copy source target) loaded copy = OnlyPuts source target loaded copy
ChangesTree command loaded copy = IsLeftAlone copy

-- ---- below `.hg`

-- what is asked for there once the record was read: for `remove`, where a row of the first parent was needed, its manifest once, and contents that its rows
-- name; for new parents their manifests, the first before the second; and else nothing
abbrev pub AsksBehind : Command → Watched tree.History → Table → shelf.History → shelf.History → Type 0
AsksBehind (a_command.Remove after words) copy loaded old new = (new.asked ≡ old.asked) ⊎ (NeedsSome after words loaded copy × AsksStore (span_of loaded old new))
AsksBehind (a_command.SetParents p1 p2) copy loaded old new = AsksManifests p1 p2 old new
AsksBehind command copy loaded old new = new.asked ≡ old.asked
