-- What `copy` makes of a table and of a working copy, by its two words (Mercurial help, copy).
use Rattle.std.specs.Prelude.{ℕ, ◌≡◌, ◌⊎◌, Bool, true, false, not, ◌&&◌, ◌||◌, if◌then◌else◌, IsTrue, List, [], ◌∷◌, Option, Some, None, is_some, Result, Err, MatchOption}
use Rattle.std.specs.Str.{bytes_eq}
use Rattle.hg_base.specs.PathText.{is_path}
use Rattle.hg_base.specs.declared.stat.Stat.{Stat}
use Rattle.hg_compare.specs.Same.{Reads}
use Rattle.hg_entry.specs.Entry.{EntryData}
use Rattle.hg_entry.specs.Table.{Table}
use Rattle.hg_nodes.specs.Clash.{IsLeast, clashes}
use Rattle.hg_mixed.specs.Edits.{ArePlacedAsBefore, PlacesCopy}
use Rattle.hg_nodes.specs.Edits.{IsSame, after_copy}
use Rattle.hg_mixed.specs.Held.{Held, table}
use Rattle.hg_ops.specs.Parts.{HasCopy, PutsAll, PutsSome}
use Rattle.hg_ops.specs.Seen.{At, During, IsTaken, IsVacant, Known, WasStat}
use Rattle.hg_ops.specs.Step.{after_add, is_tracked, thing_refusal}
use Rattle.hg_ops.specs.declared.copy_refusal.CopyRefusal.{CopyRefusal}
use Rattle.hg_ops.specs.declared.copy_refusal.CopyRefusal.TheVariants as a_word
use Rattle.hg_ops.specs.declared.refusal.OpFault.{OpFault}
use Rattle.hg_ops.specs.declared.refusal.OpFault.TheVariants as a_fault
use Rattle.hg_ops.specs.declared.refusal.Refusal.{Refusal}
use Rattle.hg_ops.specs.declared.refusal.Refusal.TheVariants as a_refusal
use Rattle.hg_tree.specs.History.{History, Extends, IsOurs, Passes, now}
use Rattle.hg_tree.specs.Moment.{stat_at}
use Rattle.hg_tree.specs.Touched.{ChangesOnly}

-- ---- the table

-- an entry says that its file is tracked and that no parent has it
abbrev pub is_added : Option EntryData → Bool
is_added None = false
is_added (Some entry) = entry.w && not (entry.p1 || entry.p2)

-- where a path's copy comes from: from the path's own copy source, else from the path itself, and from nowhere where that is only added
abbrev pub origin : List ℕ → Option EntryData → Option (List ℕ) → Option (List ℕ)
origin from entry (Some source) = Some source
origin from entry None = if is_added entry then None else Some from

-- no path is its own copy source
abbrev pub unless_at : List ℕ → Option (List ℕ) → Option (List ℕ)
unless_at to None = None
unless_at to (Some source) = if bytes_eq source to then None else Some source

-- the copy source that a copy has
abbrev pub copy_source : List ℕ → List ℕ → Table → Option (List ℕ)
copy_source from to t = unless_at to (origin from (t.entries from) (t.sources from))

-- the table behind a copy: the target is tracked as by `add`, and has that copy source and no other
abbrev pub copied : List ℕ → List ℕ → Option CopyRefusal → Table → Table
copied from to (Some refusal) t = t
copied from to None t = after_copy to (copy_source from to t) (after_add to t)

-- where the texts lie that are lent still: the target's copy source is another, or the same
abbrev pub PlacesCopied : List ℕ → List ℕ → Option CopyRefusal → Held → Held → Type 0
PlacesCopied from to (Some refusal) old new = ArePlacedAsBefore old new
PlacesCopied from to None old new = PlacesCopy to ((table old).sources to ≡ copy_source from to (table old)) old new

-- ---- refusals

-- why two words and a table are refused before the first look
abbrev pub words_refusal : List ℕ → List ℕ → Table → Option CopyRefusal
words_refusal from to t =
    if is_path from
    then (if is_path to
    then (if is_tracked t from then None else Some (a_word.Source a_refusal.NotTracked))
    else Some (a_word.Target a_refusal.BadPath))
    else Some (a_word.Source a_refusal.BadPath)

-- a target isn't tracked, and nothing keeps a file from being made there
pub record IsUnused (to : List ℕ) (t : Table) (Knows : Known) : Type 0 where
  pub untracked : is_tracked t to ≡ false
  pub vacant : IsVacant to Knows

-- whether a target is refused: where it is tracked or taken, else beside a tracked path above it or below it, and then with the least of these
abbrev pub RefusesTarget : List ℕ → Table → Known → Option Refusal → Type 0
RefusesTarget to t Knows None = IsUnused to t Knows × IsLeast (clashes to t.entries) None
RefusesTarget to t Knows (Some a_refusal.Exists) = (is_tracked t to ≡ true) ⊎ Knows (IsTaken to)
RefusesTarget to t Knows (Some (a_refusal.Clash other)) = IsUnused to t Knows × IsLeast (clashes to t.entries) (Some other)
RefusesTarget to t Knows (Some refusal) = ⊥

-- what stands at the source is refused for this, or can be copied: by what a look showed there
pub record RefusesSource (from : List ℕ) (Knows : Known) (refused : Option Refusal) : Type 0 where
  pub shown : Option Stat
  pub by_look : thing_refusal shown ≡ refused
  pub was : Knows (λ moment. stat_at moment from ≡ shown)

-- whether two paths, of which the first is tracked, are refused, by what stands at them: the first reason that fits
abbrev pub RefusesThings : List ℕ → List ℕ → Table → Known → Option CopyRefusal → Type 0
RefusesThings from to t Knows None = RefusesSource from Knows None × RefusesTarget to t Knows None
RefusesThings from to t Knows (Some (a_word.Source refusal)) = RefusesSource from Knows (Some refusal)
RefusesThings from to t Knows (Some (a_word.Target refusal)) = RefusesSource from Knows None × RefusesTarget to t Knows (Some refusal)

-- whether a copy is refused, and which word of it
abbrev pub RefusesCopy : List ℕ → List ℕ → Table → Known → Option CopyRefusal → Type 0
RefusesCopy from to t Knows refused = MatchOption (words_refusal from to t) (RefusesThings from to t Knows refused) (λ why. refused ≡ Some why)

-- ---- the working copy

-- the looks came to this, before any step was made
pub record Looked (from to : List ℕ) (t : Table) (before after : History) (refused : Option CopyRefusal) : Type 0 where
  pub passes : Passes before after
  pub refusal : RefusesCopy from to t (During before after) refused

-- the caller made no step and read nothing
pub record IsIdle (old new : History) : Type 0 where
  pub passes : Passes old new
  pub unasked : new.asked ≡ old.asked

-- or the looks refused nothing, and one of them showed the source; then nothing was read but the source, in no more pieces of 65,536 bytes than it had
-- by that look, and pieces of it were put, one behind another
pub record WorksBy (from to : List ℕ) (t : Table) (Failed : Type 0) (old new : History) : Type 0 where
  pub mid : History
  pub looked : Looked from to t old mid None
  pub unasked : mid.asked ≡ old.asked
  pub stat : Stat
  pub shown : WasStat from stat old mid
  pub past : Extends mid new
  pub reads : Reads stat.size from mid new
  pub puts : PutsSome from to stat Failed mid new

abbrev pub OnlyCopies : List ℕ → List ℕ → Table → Type 0 → History → History → Type 0
OnlyCopies from to t Failed old new = IsIdle old new ⊎ WorksBy from to t Failed old new

-- what a copy does to a working copy, whatever it answers: it changes the target alone, and directories above it
pub record Works (from to : List ℕ) (t : Table) (before after : History) (result : Result (Option CopyRefusal) OpFault) : Type 0 where
  pub past : Extends before after
  pub copies : IsTrue before.told → OnlyCopies from to t (result ≡ Err a_fault.TreeFailed) before after
  pub only : IsTrue before.told → ChangesOnly (to ∷ []) before after
  -- words that are refused without a look need none
  pub idle : is_some (words_refusal from to t) ≡ true → after ≡ before

-- the looks didn't refuse a copy, and behind them it was done or cut short
pub record GoesOn (from to : List ℕ) (t : Table) (before after : History) (refused : Option CopyRefusal) : Type 0 where
  pub mid : History
  pub looked : Looked from to t before mid None
  pub past : Extends mid after
  pub stat : Stat
  pub shown : IsTrue before.told → WasStat from stat before mid
  pub ends : PutsAll from to stat mid after refused

abbrev pub Leaves : List ℕ → List ℕ → History → History → Option CopyRefusal → Type 0
Leaves from to before after None = HasCopy from to (now before) (now after)
Leaves from to before after (Some refusal) = Passes before after

-- what a copy comes to where nobody else steps: by what stood there at its start
pub record IsExact (from to : List ℕ) (t : Table) (before after : History) (refused : Option CopyRefusal) : Type 0 where
  pub refusal : RefusesCopy from to t (At (now before)) refused
  pub leaves : Leaves from to before after refused

-- a copy was refused by the looks, or went on
abbrev pub Comes : List ℕ → List ℕ → Table → History → History → Option CopyRefusal → Type 0
Comes from to t before after None = GoesOn from to t before after None
Comes from to t before after (Some refusal) = Looked from to t before after (Some refusal) ⊎ GoesOn from to t before after (Some refusal)

-- what `copy` makes of two words, of a table and of a working copy
pub record Copies (from to : List ℕ) (before after : History) (old : Table) (refused : Option CopyRefusal) (new : Table) : Type 0 where
  pub comes : Comes from to old before after refused
  pub table : IsSame new (copied from to refused old)
  pub exact : IsOurs before after → IsExact from to old before after refused

-- ---- faults

-- the faults that a copy may meet
abbrev pub IsCopyFault : OpFault → Type 0
IsCopyFault a_fault.OutOfMemory = Unit {0}
IsCopyFault a_fault.TreeFailed = Unit {0}
IsCopyFault fault = ⊥

-- what a fault leaves of a table: all, or all but that the target is tracked
abbrev pub LeavesOrAdds : List ℕ → Table → Table → Type 0
LeavesOrAdds to old new = IsSame new old ⊎ IsSame new (after_add to old)
