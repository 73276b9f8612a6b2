use Rattle.std.proofs.Common.{◌-◌, map}
use Rattle.hg_manifest.specs.Kept.{row_in}
use Rattle.hg_manifest.proofs.Searching.{Between}
use Rattle.hg_manifest.proofs.manifest.find.Given as goal

abbrev pub invariant-loop-low : goal.invariant-loop-low
invariant-loop-low l = Between (map (row_in l.text) l.places) l.path l.low l.high

abbrev pub decreases-loop-low : goal.decreases-loop-low
decreases-loop-low l = l.high - l.low
