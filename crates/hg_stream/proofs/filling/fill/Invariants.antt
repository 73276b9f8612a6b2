use Rattle.std.proofs.Common.{length, ◌-◌, ◌≡◌, ◌≤◌}
use Rattle.hg_stream.proofs.filling.fill.Given as goal

-- the buffer keeps its length, and what is filled is within it
abbrev pub invariant-loop-filled : goal.invariant-loop-filled
invariant-loop-filled g l = (length l.buf ≡ length l.initial.buf) × (l.filled ≤ length l.buf)

abbrev pub decreases-loop-filled : goal.decreases-loop-filled
decreases-loop-filled g l = length l.initial.buf - l.filled
