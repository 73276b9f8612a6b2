use Rattle.std.proofs.Common.{sym, ◌∙◌}
use Rattle.hg_docket.proofs.Foreign.{name_of_none}
use Rattle.hg_docket.proofs.docket.foreign.Goals as goal

pub returns-clause-name : goal.returns-clause-name
returns-clause-name c = λ none. name_of_none c.args.id.now c.requires (sym c.first_foreign.ensures.place ∙ none)
