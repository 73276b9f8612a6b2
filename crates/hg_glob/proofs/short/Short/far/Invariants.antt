use Rattle.std.proofs.Common.{take, ◌&&◌, nat_le}
use Rattle.hg_glob.proofs.Sums.{FarTo}
use Rattle.hg_glob.proofs.short.Short.far.Given as goal

abbrev pub invariant-wide : goal.invariant-wide
invariant-wide l = FarTo (take l.self-inside.count l.self-inside.items) (λ c. nat_le l.low c && nat_le c l.high) l.self-inside.wide l.left l.word

abbrev pub decreases-wide : goal.decreases-wide
decreases-wide l = l.left
