use Rattle.std.proofs.Common.{sym, ◌∙◌}
use Rattle.hg_ops.proofs.Moments.{path_some}
use Rattle.hg_ops.proofs.vacant.is_vacant.Goals as goal

pub returns-in-Ok-Some-clause-found : goal.returns-in-Ok-Some-clause-found
returns-in-Ok-Some-clause-found g c =
    path_some c.args.path.text.now _ _ _ c.is_clear_above.ensures.passes c.stat.ensures.passes c.in-Ok-Some.field-0-0 (λ told. sym c.in-Ok-Some.field-0-is ∙ c.in-Ok-Some.ensures.found told)
