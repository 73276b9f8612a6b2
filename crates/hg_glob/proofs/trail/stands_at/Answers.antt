use Rattle.std.proofs.Common.{◌-◌, false, length, arith}
use Rattle.hg_glob.proofs.Sweeps.{answer_rooted, answer_inside}
use Rattle.hg_glob.proofs.trail.stands_at.Goals as goal

pub returns-then-rooted : goal.returns-then-rooted
returns-then-rooted c =
    answer_rooted false c.args.rooted c.args.short.now c.args.parts.now (length c.args.parts.now - c.args.len) c.args.end.now c.args.end.hit c.requires.end.forks c.args.whole c.has.result c.requires.end.column_is (omega arith) c.requires.closed c.if-rooted.true
    c.requires.whole c.has.ensures

pub returns : goal.returns
returns c =
    answer_inside false c.args.rooted c.args.short.now c.args.parts.now (length c.args.parts.now - c.args.len) c.args.end.now c.args.end.hit c.requires.end.forks c.slashes.result c.args.whole c.has-2.result c.requires.end.column_is (omega arith) c.requires.closed
    (c.slashes.ensures c.args.end.hit c.requires.end.forks) c.if-rooted.false c.requires.whole c.has-2.ensures
