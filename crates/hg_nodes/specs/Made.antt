-- A map that is made once something is put into it.
use Rattle.std.specs.Prelude.{List, [], Option, Some, None, String}
use Rattle.std.specs.BTreeMap.{BTreeMap}

-- what such a map has
abbrev pub entries_of : {Y V : Type 0} → Option (BTreeMap (String Y) V) → List (String Y × V)
entries_of None = []
entries_of (Some map) = map.entries
