use Rattle.std.proofs.Common.{◌≤◌, length, drop}
use Rattle.hg_glob.specs.Part.{reading}
use Rattle.hg_glob.specs.Column.{stack}
use Rattle.hg_glob.specs.Accepted.{ColumnIs}
use Rattle.hg_glob.proofs.sweep.sweep.Given as goal

abbrev pub invariant-pass : goal.invariant-pass
invariant-pass l = record {
  inside : l.k ≤ length l.parts;
  room : l.column.depth ≤ length l.forks;
  column : ColumnIs l.inner l.short (reading (drop l.k l.parts)) l.column.now l.column.hit (stack l.column.depth l.forks);
}

abbrev pub decreases-pass : goal.decreases-pass
decreases-pass l = l.k
