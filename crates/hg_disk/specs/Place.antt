-- Where a process stands that goes from folder to folder.
use Rattle.std.specs.Prelude.{ℕ, IsTrue, not, ◌&&◌, List}
use Rattle.std.specs.Str.{bytes_eq}
use Rattle.hg_disk.specs.declared.way.Way.{Way}
use Rattle.hg_disk.specs.declared.place.Gone.{Gone}
use Rattle.hg_disk.specs.declared.place.Gone.TheVariants.{There, Absent, Shut}

-- where one came to the folder the way ends in it, and isn't lost
abbrev pub StandsAt : Way → List ℕ → Gone → Type 0
StandsAt way dir There = IsTrue (not way.lost && bytes_eq way.text.items dir)
StandsAt way dir Absent = Unit {0}
StandsAt way dir Shut = Unit {0}
