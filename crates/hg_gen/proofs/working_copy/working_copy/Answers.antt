use Rattle.std.proofs.Common.{◌∙◌, refl, sym, ap, subst}
use Rattle.hg_gen.specs.Copy.{AreFiles, IsGiven, seconds}
use Rattle.hg_gen.proofs.Placing.{none_placed}
use Rattle.hg_tree.proofs.Stable.{time_same}
use Rattle.hg_tree.specs.History.{now}
use Rattle.hg_tree.specs.Memory.{Memory, history_of}
use Rattle.hg_gen.proofs.working_copy.working_copy.Goals as goal

pub loop-file-init : goal.loop-file-init
loop-file-init c =
    record {
      files = subst (λ (m : Memory). AreFiles 0 (now (history_of m)).things) (sym c.in_ok-tree.ensures) none_placed;
      clock = ap (λ (m : Memory). (now (history_of m)).clock) c.in_ok-tree.ensures ∙ time_same _ (seconds 2000) refl refl;
      given = subst IsGiven (sym c.in_ok-tree.ensures) (record { due = refl; failing = refl; changes = tt });
    }
