-- The course of a copy: its looks, and what it leaves of a table.
use Rattle.std.specs.Prelude.{ℕ, ◌≡◌, true, IsTrue, List, Option, Some, None, Result, Ok, Err, IfOk, IfSome}
use Rattle.hg_entry.specs.Entry.{EntryData}
use Rattle.hg_entry.specs.Steps.{is_file}
use Rattle.hg_entry.specs.Table.{Table}
use Rattle.hg_mixed.specs.Edits.{IsUnchanged, Lends}
use Rattle.hg_nodes.specs.Edits.{IsSame, Marks}
use Rattle.hg_mixed.specs.Held.{Held, table}
use Rattle.hg_ops.specs.Copy.{Comes, IsExact, LeavesOrAdds, Looked, PlacesCopied, Works, copied, origin}
use Rattle.hg_ops.specs.Seen.{WasStat}
use Rattle.hg_ops.specs.declared.copy_refusal.CopyRefusal.{CopyRefusal}
use Rattle.hg_ops.specs.declared.copying.Look.{Look}
use Rattle.hg_ops.specs.declared.copying.Look.TheVariants as a_look
use Rattle.hg_ops.specs.declared.refusal.OpFault.{OpFault}
use Rattle.hg_tree.specs.History.{History, AreFormed, IsOurs}

-- ---- the looks

-- what all looks showed
abbrev pub Looks : List ℕ → List ℕ → Table → History → History → Look → Type 0
Looks from to t old new (a_look.Refused refusal) = Looked from to t old new (Some refusal)
Looks from to t old new (a_look.Free stat) = Looked from to t old new None × (is_file stat.kind ≡ true) × (IsTrue old.told → WasStat from stat old new × AreFormed new)

-- ---- the table

-- where a path's copy comes from, by what is recorded of the path
abbrev pub origin_shown : List ℕ → Option (EntryData × Option (List ℕ)) → Option (List ℕ)
origin_shown from None = Some from
origin_shown from (Some item) = origin from (Some item.0) item.1

-- what is answered leaves this of a table
pub record LeavesTable (from to : List ℕ) (old new : Held) (refused : Option CopyRefusal) : Type 0 where
  pub made : IsSame (table new) (copied from to refused (table old))
  pub unchanged : IfSome refused (λ refusal. IsUnchanged old new)
  pub changed : Marks (IsSame (table new) (table old)) old.changed new.changed
  pub lent : Lends to (IsSame (table new) (table old)) old new
  pub places : PlacesCopied from to refused old new

abbrev pub Tables : List ℕ → List ℕ → Held → Held → Result (Option CopyRefusal) OpFault → Type 0
Tables from to old new (Ok refused) = LeavesTable from to old new refused
Tables from to old new (Err fault) = LeavesOrAdds to (table old) (table new)

-- ---- the working copy

-- what a copy comes to, but for the table behind it
pub record IsCopying (from to : List ℕ) (t : Table) (old new : History) (result : Result (Option CopyRefusal) OpFault) : Type 0 where
  pub works : Works from to t old new result
  pub comes : IfOk result (Comes from to t old new)
  pub exact : IsOurs old new → IfOk result (IsExact from to t old new)
