use Rattle.std.proofs.Common.{sym, ◌∙◌}
use Rattle.hg_append.proofs.Names.{next_of_none}
use Rattle.hg_append.proofs.rewriting.next_id.Goals as goal

pub returns-in-None-clause-next : goal.returns-in-None-clause-next
returns-in-None-clause-next c = c.next.ensures.next ∙ next_of_none c.args.id.now _ c.none.ensures (sym c.read.ensures ∙ c.in-None.is)
