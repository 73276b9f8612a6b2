use Rattle.hg_base.proofs.Cuts.{is_last_cut}
use Rattle.hg_glob.proofs.edge.cut_last.Goals as goal

pub returns : goal.returns
returns c = is_last_cut c.args.text.now _ c.rsplit_once.ensures.cases
