-- Where the texts of a table lie that are lent still, once a path isn't tracked any more.
use Rattle.std.specs.Prelude.{ℕ, ◌≡◌, ◌||◌, List, Option, Some, None, MatchBool}
use Rattle.hg_entry.specs.Entry.{EntryData}
use Rattle.hg_mixed.specs.Drop.{PlacesDrop}
use Rattle.hg_mixed.specs.Edits.{ArePlacedAsBefore, PlacesCopy}
use Rattle.hg_mixed.specs.Held.{Held, table}
use Rattle.hg_ops.specs.declared.refusal.Refusal.{Refusal}

-- where a parent has the path its copy source alone is gone, and else its node with what goes with it
abbrev pub PlacesUntracked : List ℕ → Option EntryData → Held → Held → Type 0
PlacesUntracked path None old new = ArePlacedAsBefore old new
PlacesUntracked path (Some entry) old new =
    MatchBool (entry.p1 || entry.p2) (PlacesCopy path ((table old).sources path ≡ None) old new) (PlacesDrop path old new)

-- behind `forget`
abbrev pub PlacesForgotten : List ℕ → Option Refusal → Held → Held → Type 0
PlacesForgotten word (Some refusal) old new = ArePlacedAsBefore old new
PlacesForgotten word None old new = PlacesUntracked word ((table old).entries word) old new
