-- The world as contracts see it.
use Rattle.std.specs.Ordering.{nat_cmp}
use Rattle.std.specs.BTreeMap as tree
use Rattle.hg_race.specs.World.{WorldData}
use Rattle.hg_race.specs.declared.world.World.{World}

-- the actors, the files by identifier, the docket, who holds the lock and what was published
abbrev pub world_of : World → WorldData
world_of w = record {
  actors = w.actors.items;
  files = tree.get nat_cmp w.files;
  docket = w.docket;
  holder = w.holder;
  published = w.published.items;
}
