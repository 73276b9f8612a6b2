use Rattle.std.proofs.Common.{◌≤◌}
use Rattle.std.specs.BTreeMap.{btree_map_len}
use Rattle.hg_gen.specs.Manifest.{AreNamed, names_in}
use Rattle.hg_gen.proofs.parent.rows.Given as goal

-- the names so far
abbrev pub invariant-loop-file : goal.invariant-loop-file
invariant-loop-file l = record {
  named : AreNamed l.file (names_in l.rows);
  few : btree_map_len l.rows ≤ l.file;
}
