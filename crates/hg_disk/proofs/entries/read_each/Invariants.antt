use Rattle.std.proofs.Common.{option_map, All}
use Rattle.hg_tree.specs.Moment.{IsFit}
use Rattle.hg_disk.proofs.entries.read_each.Given as goal

-- each name so far makes a path in the directory
abbrev pub invariant-loop : goal.invariant-loop
invariant-loop g l = All (IsFit (option_map (λ d. d.text.now) l.dir)) l.names.items
