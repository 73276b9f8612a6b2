-- What a table answers of a path.
use Rattle.std.specs.Prelude.{ℕ, List, Option, option_map}
use Rattle.hg_entry.specs.Entry.{EntryData, view}
use Rattle.hg_entry.specs.Table.{Table}
use Rattle.hg_entry.specs.declared.entry.Item.{Item}

-- an item shows an entry and its source
abbrev pub shown_item : Item → EntryData × Option (List ℕ)
shown_item item = (view item.entry, option_map (λ source. source.text.now) item.source)

-- what a table says of a path with an entry
abbrev pub shown_in : Table → List ℕ → Option (EntryData × Option (List ℕ))
shown_in t path = option_map (λ entry. (entry, t.sources path)) (t.entries path)
