use Rattle.hg_session.proofs.GoodCalls.{made_good}
use Rattle.hg_session.proofs.GoodTables.{noted_good}
use Rattle.hg_session.proofs.good.good_is_made.Goals as goal

pub returns-clause-made : goal.returns-clause-made
returns-clause-made c = λ command copy files store past told plain. made_good copy files store past told plain command

pub returns-clause-noted : goal.returns-clause-noted
returns-clause-noted c = noted_good
