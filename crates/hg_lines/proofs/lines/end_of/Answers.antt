use Rattle.hg_lines.proofs.Pieces.{plain_all, plain_before}
use Rattle.hg_lines.proofs.lines.end_of.Goals as goal

pub returns-in-Some-clause-plain : goal.returns-in-Some-clause-plain
returns-in-Some-clause-plain c = plain_before c.args.bytes.now c.in-Some.at c.in-Some.ensures

pub returns-in-None-clause-plain : goal.returns-in-None-clause-plain
returns-in-None-clause-plain c = plain_all c.args.bytes.now c.in-None.ensures
