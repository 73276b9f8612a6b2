use Rattle.std.proofs.Common.{◌-◌, length, refl, arith}
use Rattle.hg_glob.specs.Column.{stack}
use Rattle.hg_glob.specs.declared.part.Part.TheVariants as a_part
use Rattle.hg_glob.proofs.Sweeps.{column_first, column_down, room_left, answer_rooted, answer_inside}
use Rattle.hg_glob.proofs.sweep.sweep.Goals as goal

pub pass-init : goal.pass-init
pass-init c = record {
  inside = omega arith;
  room = omega arith;
  column = column_first c.args.inner c.args.short.now c.end.result c.args.parts.now (length c.args.parts.now) c.args.forks.now c.end.ensures (omega arith);
}

pub column_step-column-requires : goal.column_step-column-requires
column_step-column-requires c = record {
  room = room_left c.args.inner c.args.short.now c.args.parts.now c.pass.k c.pass.column.now c.pass.column.hit c.pass.column.depth c.pass.forks c.pass.invariant.column c.requires.closed c.pass.invariant.inside c.pass.invariant.room (omega (arith, c.pass.auto.forks, c.requires.few));
  few = omega arith;
}

pub pass-preserved : goal.pass-preserved
pass-preserved c = record {
  inside = omega (arith, c.pass.invariant.inside);
  room = c.column_step-column.ensures.depth;
  column = column_down c.args.inner c.args.short.now c.args.parts.now c.pass.k (c.pass.k - 1) _ (a_part.Literal 0) c.pass.column.now c.pass.column.hit (stack c.pass.column.depth c.pass.forks) _ _ _ c.pass.invariant.column (omega arith) c.pass.invariant.inside refl
      c.column_step-column.ensures.step;
}

pub returns-then-rooted : goal.returns-then-rooted
returns-then-rooted c =
    answer_rooted c.args.inner c.args.rooted c.args.short.now c.args.parts.now c.pass.k c.pass.column.now c.pass.column.hit (stack c.pass.column.depth c.pass.forks) c.len-len.result c.has.result c.pass.invariant.column (omega arith) c.requires.closed c.if-rooted.true c.len-len.ensures.len
    c.has.ensures

pub returns : goal.returns
returns c =
    answer_inside c.args.inner c.args.rooted c.args.short.now c.args.parts.now c.pass.k c.pass.column.now c.pass.column.hit (stack c.pass.column.depth c.pass.forks) c.slashes.result c.len-len.result c.has-2.result c.pass.invariant.column (omega arith) c.requires.closed
    (c.slashes.ensures c.pass.column.hit (stack c.pass.column.depth c.pass.forks)) c.if-rooted.false c.len-len.ensures.len c.has-2.ensures
