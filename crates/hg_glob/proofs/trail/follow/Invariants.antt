use Rattle.std.proofs.Common.{◌≤◌, ◌-◌, ◌≡◌, length, false}
use Rattle.hg_glob.specs.Part.{reading}
use Rattle.hg_glob.specs.Many.{last_parts}
use Rattle.hg_glob.specs.Accepted.{ColumnIs}
use Rattle.hg_glob.specs.Column.{stack}
use Rattle.hg_glob.specs.Trail.{column_at, TrailIs}
use Rattle.hg_glob.proofs.trail.follow.Given as goal

abbrev pub invariant-on : goal.invariant-on
invariant-on l = record {
  few : l.k ≤ 63;
  room : l.column.depth ≤ length l.forks;
  trail : TrailIs l.short l.parts l.k l.columns;
  here : column_at l.columns l.k ≡ l.column;
  column : ColumnIs false l.short (reading (last_parts l.k l.parts)) l.column.now l.column.hit (stack l.column.depth l.forks);
}

abbrev pub decreases-on : goal.decreases-on
decreases-on l = l.most - l.k
