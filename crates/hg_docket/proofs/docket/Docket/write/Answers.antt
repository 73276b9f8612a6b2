use Rattle.hg_docket.specs.Docket.{view}
use Rattle.hg_docket.proofs.ReadBack.{reads_back}
use Rattle.hg_docket.proofs.docket.Docket.write.Goals as goal

pub returns-in_err-extend_from_slice-clause-back : goal.returns-in_err-extend_from_slice-clause-back
returns-in_err-extend_from_slice-clause-back c = λ rest. reads_back (view c.args.self.now) rest c.put_head-at.ensures.sized c.requires

pub returns-clause-back : goal.returns-clause-back
returns-clause-back c = λ rest. reads_back (view c.args.self.now) rest c.put_head-at.ensures.sized c.requires
