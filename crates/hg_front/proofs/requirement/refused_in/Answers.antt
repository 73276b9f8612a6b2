use Rattle.std.proofs.Common.{rules, tests}
use Rattle.std.proofs.lemmas.Iterator.Search.{find_from_yields_List}
use Rattle.std.proofs.lemmas.Iterator.Splits.{YieldsList-from_lines}
use Rattle.hg_front.specs.Requirement.{is_refused}
use Rattle.hg_front.proofs.requirement.refused_in.Goals as goal

pub returns : goal.returns
returns c = find_from_yields_List (is_refused c.args.changes) _ _ _ c.find.ensures.ran (YieldsList-from_lines c.args.text.now c.lines.ensures.rest) (λ x b q k. search (rules, tests))
