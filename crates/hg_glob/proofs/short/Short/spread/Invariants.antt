use Rattle.std.proofs.Common.{take, ◌&&◌, nat_le}
use Rattle.hg_glob.specs.Column.{IsMask}
use Rattle.hg_glob.proofs.short.Short.spread.Given as goal

abbrev pub invariant-loop-j : goal.invariant-loop-j
invariant-loop-j l = IsMask (take l.j l.self-inside.items) (λ c. nat_le l.low c && nat_le c l.high) l.word
