use Rattle.std.proofs.Common.{sym}
use Rattle.hg_mixed.proofs.Ended.{ended_dir, ended_root}
use Rattle.hg_mixed.proofs.lent.Lent.+end_above.Goals as goal

pub returns-in-None : goal.returns-in-None
returns-in-None t c = ended_root c.args.path.text.now c.args.self.now c.remove.new.self c.args.path.is_path (sym c.in-None.ensures.parent) c.remove.ensures

pub returns-in-Some : goal.returns-in-Some
returns-in-Some t c =
    ended_dir c.args.path.text.now c.in-Some.dir.text.now c.args.self.now c.remove-in-Some.new.self c.end_above.new.self c.args.path.is_path (sym c.in-Some.ensures.parent) c.remove-in-Some.ensures c.end_above.ensures
