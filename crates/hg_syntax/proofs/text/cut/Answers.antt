use Rattle.hg_syntax.proofs.Texts.{is_cut}
use Rattle.hg_syntax.proofs.text.cut.Goals as goal

pub returns : goal.returns
returns c = is_cut c.args.at c.args.text.now _ c.split_once.ensures.cases c.requires
