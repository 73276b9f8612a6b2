use Rattle.std.proofs.Common.{Some, ap, ◌∙◌, rules}
use Rattle.std.proofs.lemmas.List.{append-nil}
use Rattle.hg_store.proofs.Leading.{leads_same, on_ok}
use Rattle.hg_store.proofs.Laying.{but_same, there_laid}
use Rattle.hg_store.specs.Storing.{ButNew}
use Rattle.hg_store.proofs.writing.fill.Goals as goal

pub returns-then-len-ne0-clause-leads : goal.returns-then-len-ne0-clause-leads
returns-then-len-ne0-clause-leads g c = λ alone. leads_same ButNew _ but_same

pub returns-then-len-ne0-clause-there : goal.returns-then-len-ne0-clause-there
returns-then-len-ne0-clause-there g c = λ text alone laid at. there_laid text c.args.len _ laid at (search rules)

pub returns-clause-there : goal.returns-clause-there
returns-clause-there g c = λ text alone laid at. on_ok c.write.result (λ there. there ∙ ap Some (append-nil text)) (c.write.ensures.there text alone laid (search rules))
