use Rattle.hg_mixed.specs.Edits.{IsOfSameImage}
use Rattle.hg_ops.specs.Dropping.{AreDropping}
use Rattle.hg_ops.specs.Parents.{entry_by}
use Rattle.hg_ops.specs.Setting.{is_among_first}
use Rattle.hg_ops.proofs.parents.drop_paths.Given as goal

-- of the paths so far those went that aren't wanted
abbrev pub invariant-loop-i : goal.invariant-loop-i
invariant-loop-i l = AreDropping (entry_by l.merged l.m1 l.m2) l.initial.mixed l.mixed (is_among_first l.i l.paths) × IsOfSameImage l.initial.mixed l.mixed
