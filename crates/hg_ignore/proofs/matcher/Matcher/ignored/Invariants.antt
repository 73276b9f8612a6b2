use Rattle.std.proofs.Common.{◌≡◌, length}
use Rattle.hg_ignore.proofs.Asking.{AsksLeft}
use Rattle.hg_ignore.proofs.matcher.Matcher.ignored.Given as goal

abbrev pub invariant-loop-left : goal.invariant-loop-left
invariant-loop-left l = record {
  asks : AsksLeft l.initial.self.ignore.now l.path.text.now l.left.text.now;
  same : l.self.ignore.now ≡ l.initial.self.ignore.now;
}

abbrev pub decreases-loop-left : goal.decreases-loop-left
decreases-loop-left l = length l.left.text.now
