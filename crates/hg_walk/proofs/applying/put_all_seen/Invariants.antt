use Rattle.std.specs.Prelude.{map, vec_len}
use Rattle.hg_walk.specs.Applying.{dir_note}
use Rattle.hg_walk.proofs.Applied.{SeenSoFar}
use Rattle.hg_walk.proofs.applying.put_all_seen.Given as goal

-- the notes behind those that are left are written
abbrev pub invariant-loop-note : goal.invariant-loop-note
invariant-loop-note l = SeenSoFar (map dir_note l.initial.notes.items) (map dir_note l.notes.items) l.initial.mixed l.mixed

abbrev pub decreases-loop-note : goal.decreases-loop-note
decreases-loop-note l = vec_len l.notes
