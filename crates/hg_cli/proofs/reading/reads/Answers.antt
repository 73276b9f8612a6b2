use Rattle.std.proofs.Common.{◌∙◌, arith}
use Rattle.hg_cli.proofs.Paths.{all_read, none_yet, one_back}
use Rattle.hg_cli.proofs.reading.reads.Goals as goal

pub loop-at-init : goal.loop-at-init
loop-at-init c = record { below = omega arith; are = none_yet c.args.asked.now c.new-paths.result c.new-paths.ensures.empty }

pub loop-at-preserved : goal.loop-at-preserved
loop-at-preserved c =
    record {
      below = omega (arith, c.loop-at.invariant.below);
      are = one_back c.args.asked.now _ c.loop-at.at c.index-asked-at.result c.index-asked-at.result c.loop-at.paths c.note.new.paths (omega (arith, c.loop-at-test.true)) c.loop-at.invariant.below c.index-asked-at.is c.in_ok-note.ensures c.loop-at.invariant.are;
    }

pub returns : goal.returns
returns c = c.len.ensures.len ∙ all_read c.args.asked.now c.loop-at.at c.loop-at.paths c.loop-at-test.false c.loop-at.invariant.are
