use Rattle.hg_session.proofs.Texts.{same_text}
use Rattle.hg_session.proofs.printed.one_text.Goals as goal

pub returns : goal.returns
returns c = same_text
