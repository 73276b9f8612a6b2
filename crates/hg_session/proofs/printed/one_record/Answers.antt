use Rattle.hg_session.proofs.Texts.{same_record}
use Rattle.hg_session.proofs.printed.one_record.Goals as goal

pub returns : goal.returns
returns c = same_record
