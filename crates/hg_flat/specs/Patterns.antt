-- What a status has of the ignore patterns: where it needs them, which paths they ignore, and which faults count for them.
use Rattle.std.specs.Prelude.{ℕ, ◌≡◌, ◌≤◌, Bool, true, false, ◌||◌, List, [], Result, Ok, Err, MatchBool}
use Rattle.hg_base.specs.Fault.{Rose}
use Rattle.hg_ignore.specs.Patterns.{WereRead}
use Rattle.hg_ignore.specs.State.{Ignore, Ignored}
use Rattle.hg_ignore.specs.declared.warnings.Warning.{Warning}
use Rattle.hg_tree.specs.History.{History}
use Rattle.hg_tree.specs.Moment.{Moment}
use Rattle.hg_listing.specs.declared.fault.StatusFault.{StatusFault}
use Rattle.hg_listing.specs.declared.fault.StatusFault.TheVariants as a_fault
use Rattle.hg_listing.specs.declared.row.Wanted.{Wanted}

-- the letters that patterns decide between are wanted
abbrev pub needs_patterns : Wanted → Bool
needs_patterns wanted = wanted.u || wanted.i

-- the paths that the patterns of a moment ignore
abbrev pub ignored_at : Moment → List ℕ → Type 0
ignored_at moment path = Ignored (Ignore moment) path

-- where patterns are needed they were read, and where not there are no warnings
abbrev pub Warns : Wanted → History → History → List Warning → Type 0
Warns wanted old new warnings = MatchBool (needs_patterns wanted) (WereRead old new warnings) (warnings ≡ [])

-- where patterns are needed they were read, and nothing was wrong with them
abbrev pub HadPatterns : Wanted → History → History → Type 0
HadPatterns wanted old new = needs_patterns wanted ≡ true → (warnings : List Warning) × WereRead old new warnings

-- a fault of what the first parent has, which is met behind the patterns
abbrev pub is_of_parent : StatusFault → Bool
is_of_parent a_fault.OutOfMemory = false
is_of_parent a_fault.TreeFailed = false
is_of_parent a_fault.ShelfFailed = false
is_of_parent (a_fault.NoManifest id) = true
is_of_parent (a_fault.ManifestTooLarge size) = true
is_of_parent (a_fault.ManifestLine line) = true
is_of_parent (a_fault.ManifestOrder line) = true
is_of_parent (a_fault.NoContents id) = true
is_of_parent (a_fault.IgnoreTooLarge size) = false
is_of_parent (a_fault.IgnoreText at) = false
is_of_parent (a_fault.BadGlob line) = false
is_of_parent (a_fault.BadRegexp line) = false
is_of_parent (a_fault.RegexpTooBig line) = false
is_of_parent (a_fault.BadInclude line) = false

-- the count of regexps that were too big rose where one is named as that, and stands still at any other answer
abbrev pub CountsOversize : {T : Type 0} → ℕ → ℕ → Result T StatusFault → Type 0
CountsOversize before now (Ok x) = now ≡ before
CountsOversize before now (Err (a_fault.RegexpTooBig line)) = (before ≤ now) × Rose before now
CountsOversize before now (Err fault) = now ≡ before
