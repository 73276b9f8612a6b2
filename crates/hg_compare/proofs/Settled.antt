-- Two looks that show the same in each field are one.
use Rattle.std.proofs.Common.{◌≡◌, Bool, true, false, nat_eq, sym, ap, arith}
use Rattle.std.proofs.lemmas.Bool.Decides.{nat_tests}
use Rattle.hg_base.specs.declared.stat.Stat.{Stat}
use Rattle.hg_tree.proofs.Stable.{time_same}
use Rattle.hg_compare.specs.Alike.{Settles}

stat_same : (a b : Stat) → a.kind ≡ b.kind → a.exec ≡ b.exec → a.size ≡ b.size → a.mtime ≡ b.mtime → a ≡ b
stat_same a b kind exec size time = λ i. record { kind = kind i; exec = exec i; size = size i; mtime = time i }

pub settles : (before after : Stat) (nanos : Bool) → before.kind ≡ after.kind → before.exec ≡ after.exec → before.size ≡ after.size → before.mtime.seconds ≡ after.mtime.seconds
    → nanos ≡ nat_eq before.mtime.nanos after.mtime.nanos → Settles nanos before after
settles before after true kind exec size seconds is = sym (stat_same before after kind exec size (time_same before.mtime after.mtime seconds (grind (arith, nat_tests, is))))
settles before after false kind exec size seconds is = λ (same : after ≡ before). grind (arith, nat_tests, is, ap (λ (s : Stat). s.mtime.nanos) same)
