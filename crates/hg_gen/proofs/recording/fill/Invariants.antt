use Rattle.hg_gen.specs.Recorded.{AreEntries, KeepsHead}
use Rattle.hg_mixed.specs.Held.{table}
use Rattle.hg_gen.proofs.recording.fill.Given as goal

-- the entries so far
abbrev pub invariant-loop-file : goal.invariant-loop-file
invariant-loop-file l = record {
  entries : AreEntries 0 (table l.initial.mixed) → AreEntries l.file (table l.mixed);
  head : KeepsHead l.initial.mixed l.mixed;
}
