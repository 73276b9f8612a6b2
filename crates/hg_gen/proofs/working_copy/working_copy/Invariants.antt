use Rattle.std.proofs.Common.{◌≡◌}
use Rattle.hg_gen.specs.Copy.{AreFiles, IsGiven, seconds}
use Rattle.hg_tree.specs.History.{now}
use Rattle.hg_tree.specs.Memory.{history_of}
use Rattle.hg_gen.proofs.working_copy.working_copy.Given as goal

-- the files so far
abbrev pub invariant-loop-file : goal.invariant-loop-file
invariant-loop-file l = record {
  files : AreFiles l.file (now (history_of l.tree)).things;
  clock : (now (history_of l.tree)).clock ≡ seconds 2000;
  given : IsGiven l.tree;
}
