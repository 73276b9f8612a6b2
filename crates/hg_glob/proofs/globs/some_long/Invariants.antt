use Rattle.std.proofs.Common.{◌<◌}
use Rattle.hg_glob.proofs.Together.{GoneFar}
use Rattle.hg_glob.proofs.globs.some_long.Given as goal

abbrev pub invariant-loop-i : goal.invariant-loop-i
invariant-loop-i l = record {
  few : l.len < 64;
  gone : GoneFar l.subject l.short l.lines l.row l.shared l.i l.len l.reaches l.is_over;
}
