-- Which other tracked path keeps a path from being tracked: none of two tracked paths stands below the other.
use Rattle.std.specs.Prelude.{ℕ, ◌≡◌, Bool, true, false, not, ◌&&◌, ◌||◌, List, Option, Some, None, Result, Ok, Err, MatchBool, MatchOption}
use Rattle.std.specs.Ordering.{is_gt, nat_cmp}
use Rattle.std.specs.Cmp.Lexicographic.{slice_cmp}
use Rattle.hg_base.specs.PathText.{is_below}
use Rattle.hg_entry.specs.Entry.{EntryData}
use Rattle.hg_entry.specs.Table.{Table}
use Rattle.hg_nodes.specs.declared.fault.SetFault.{SetFault}
use Rattle.hg_nodes.specs.declared.fault.SetFault.TheVariants as a_fault

-- an entry says that its file is tracked
abbrev pub is_tracked_entry : Option EntryData → Bool
is_tracked_entry None = false
is_tracked_entry (Some entry) = entry.w

-- the least path that passes a test, by bytes, or none where none passes
abbrev pub IsLeast : (List ℕ → Bool) → Option (List ℕ) → Type 0
IsLeast test found =
    MatchOption found ((other : List ℕ) → test other ≡ false)
    (λ least. (test least ≡ true) × ((other : List ℕ) → test other ≡ true → is_gt (slice_cmp nat_cmp least other) ≡ false))

-- another path is tracked, and one of the two stands below the other
abbrev pub clashes : List ℕ → (List ℕ → Option EntryData) → List ℕ → Bool
clashes path entries other = is_tracked_entry (entries other) && (is_below other path || is_below path other)

-- the path that clashes with an entry at a path: where it would make an untracked path tracked, the least that does
abbrev pub IsClash : List ℕ → EntryData → Table → Option (List ℕ) → Type 0
IsClash path entry t found =
    MatchBool (entry.w && not (is_tracked_entry (t.entries path))) (IsLeast (clashes path t.entries) found) (found ≡ None)

-- what setting an entry may answer: done where nothing clashes, the path that does, or want of memory
abbrev pub Sets : {T : Type 0} → List ℕ → EntryData → Table → Result T SetFault → Type 0
Sets path entry t (Ok done) = IsClash path entry t None
Sets path entry t (Err a_fault.OutOfMemory) = Unit {0}
Sets path entry t (Err (a_fault.Clash other)) = IsClash path entry t (Some other)
