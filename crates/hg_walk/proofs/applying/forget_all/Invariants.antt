use Rattle.std.specs.Prelude.{vec_len}
use Rattle.hg_walk.proofs.Applied.{GoneSoFar}
use Rattle.hg_walk.proofs.applying.forget_all.Given as goal

-- the directories behind those that are left are written
abbrev pub invariant-loop-dir : goal.invariant-loop-dir
invariant-loop-dir l = GoneSoFar l.initial.gone.items l.gone.items l.initial.mixed l.mixed

abbrev pub decreases-loop-dir : goal.decreases-loop-dir
decreases-loop-dir l = vec_len l.gone
