use Rattle.std.proofs.Common.{◌<◌}
use Rattle.hg_glob.proofs.Together.{Gone}
use Rattle.hg_glob.proofs.globs.some_short.Given as goal

abbrev pub invariant-loop-i : goal.invariant-loop-i
invariant-loop-i l = record {
  few : l.len < 64;
  gone : Gone l.short l.lines l.row l.shared l.i l.len l.columns l.is_over;
}
