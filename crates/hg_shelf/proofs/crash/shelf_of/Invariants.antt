-- Once what is left is put too, the files are those of all entries; and no crash changes those that were put.
use Rattle.std.proofs.Common.{◌≡◌, []}
use Rattle.hg_shelf.specs.Memory.{empty, fresh, replayed}
use Rattle.hg_shelf.proofs.CrashPlaced.{AreSure, placed_all}
use Rattle.hg_shelf.proofs.crash.shelf_of.Given as goal

abbrev pub invariant-loop-name : goal.invariant-loop-name
invariant-loop-name l = record {
  fresh : record l.shelf { changes = [] } ≡ fresh;
  files : placed_all l.name-iterator (replayed l.shelf.changes empty).files ≡ placed_all l.files.entries empty.files;
  sure : AreSure l.shelf.changes;
}
