use Rattle.std.proofs.Common.{◌+◌, refl, arith}
use Rattle.std.proofs.lemmas.List.{get_or-set_same}
use Rattle.hg_glob.specs.Column.{stack}
use Rattle.hg_glob.specs.declared.part.Part.TheVariants as a_part
use Rattle.hg_glob.proofs.Trails.{room_on, column_on, trail_more}
use Rattle.hg_glob.proofs.trail.follow.Goals as goal

pub column_step-column-requires-clause-room : goal.column_step-column-requires-clause-room
column_step-column-requires-clause-room c =
    let at = room_on c.args.short.now c.args.parts.now c.on.k c.on.column.now c.on.column.hit c.on.column.depth c.on.forks c.on.invariant.column c.on.invariant.trail.inside c.on.invariant.room in
    omega (arith, at, c.on.auto.forks, c.requires.forks, c.on.invariant.few)

pub on-preserved : goal.on-preserved
on-preserved c =
    let k = c.on.k in
    let column = c.column_step-column.result in
    let next = column_on c.args.short.now c.args.parts.now k _ (a_part.Literal 0) c.on.column.now c.on.column.hit (stack c.on.column.depth c.on.forks) column.now column.hit _ c.on.invariant.column (omega arith) refl c.column_step-column.ensures.step in
    record {
      few = omega arith;
      room = c.column_step-column.ensures.depth;
      trail = trail_more c.args.short.now c.args.parts.now k c.on.columns column _ c.on.invariant.trail (omega arith) (omega arith) next;
      here = get_or-set_same c.on.columns (k + 1) column (record { now = 0; hit = 0; depth = 0 }) (omega arith);
      column = next;
    }
