use Rattle.std.proofs.Common.{List, ℕ, ◌∙◌, ap, subst}
use Rattle.hg_cli.proofs.Loading.{asked_since}
use Rattle.hg_cli.specs.Load.{AreCounts}
use Rattle.hg_cli.specs.Reading.{count_read}
use Rattle.hg_cli.proofs.load.counted.Goals as goal

pub returns : goal.returns
returns c =
    record {
      text = c.in_ok-out.out.bytes;
      status = c.in_ok-out.ensures;
      are = subst (λ (text : List ℕ). AreCounts text c.counts_of.result) c.bytes.ensures c.counts_of.ensures.lines;
      read = c.counts_of.ensures.read ∙ c.in_ok-read.ensures ∙ ap count_read (asked_since _ _ _ _ _ _ c.asked-before.ensures c.asked-asked.ensures c.min.ensures c.split_at.ensures.back);
    }
