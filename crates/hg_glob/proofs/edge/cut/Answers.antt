use Rattle.hg_base.proofs.Cuts.{is_cut}
use Rattle.hg_glob.proofs.edge.cut.Goals as goal

pub returns : goal.returns
returns c = is_cut c.args.text.now _ c.split_once.ensures.cases
