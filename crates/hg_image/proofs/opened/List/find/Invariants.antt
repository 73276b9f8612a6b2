use Rattle.std.proofs.Common.{◌≡◌, ℕ, ◌-◌, ◌<◌, ◌≤◌, Less, Greater, nat_cmp}
use Rattle.std.specs.Cmp.Lexicographic.{slice_cmp}
use Rattle.hg_image.proofs.Names.{name_in}
use Rattle.hg_image.proofs.opened.List.find.Given as goal

abbrev pub invariant-loop-low : goal.invariant-loop-low
invariant-loop-low l = record {
  within : l.high ≤ l.self.count;
  front : (i : ℕ) → i < l.low → i < l.self.count → slice_cmp nat_cmp (name_in l.self.bytes.now l.self.start i) l.base ≡ Less;
  back : (i : ℕ) → l.high ≤ i → i < l.self.count → slice_cmp nat_cmp (name_in l.self.bytes.now l.self.start i) l.base ≡ Greater;
}

abbrev pub decreases-loop-low : goal.decreases-loop-low
decreases-loop-low l = l.high - l.low
