use Rattle.std.proofs.Common.{sym, ◌∙◌}
use Rattle.hg_compare.proofs.comparing.look_again.Goals as goal

pub returns-in-Ok-Some-clause-found : goal.returns-in-Ok-Some-clause-found
returns-in-Ok-Some-clause-found g c = λ told.
    (c.in-Ok-Some.after, sym (c.in-Ok-Some.ensures.found (sym c.stat.ensures.passes.past.told ∙ told)) ∙ c.in-Ok-Some.field-0-is, c.is_settled.ensures)
