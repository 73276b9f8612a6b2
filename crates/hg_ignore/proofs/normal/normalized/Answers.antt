use Rattle.std.proofs.Common.{◌∙◌}
use Rattle.hg_ignore.proofs.Steps.{steps_slashed}
use Rattle.hg_ignore.proofs.normal.normalized.Goals as goal

pub without_slash-requires : goal.without_slash-requires
without_slash-requires c = steps_slashed c.args.text.now c.as_str.result.now (c.as_str.ensures.value ∙ c.in_ok-steps.ensures)
