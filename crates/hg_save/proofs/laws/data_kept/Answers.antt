use Rattle.hg_save.proofs.Spans.{keep_stood, keep_used, stood_by}
use Rattle.hg_save.proofs.laws.data_kept.Goals as goal

pub returns-clause-all : goal.returns-clause-all
returns-clause-all c = keep_used

pub returns-clause-stood : goal.returns-clause-stood
returns-clause-stood c = keep_stood

pub returns-clause-own : goal.returns-clause-own
returns-clause-own c = stood_by
