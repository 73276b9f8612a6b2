use Rattle.std.proofs.Common.{sym}
use Rattle.hg_mixed.proofs.Nearest.{over_above, over_here, over_root}
use Rattle.hg_mixed.proofs.lent.Lent.+over.Goals as goal

pub returns-in_default : goal.returns-in_default
returns-in_default t c = over_root c.args.self.now c.args.path.text.now c.get.result c.args.path.is_path (sym c.in_default.ensures.parent) c.get.ensures.rows c.get.ensures.dir

pub returns-in-Some-get : goal.returns-in-Some-get
returns-in-Some-get t c =
    over_here c.args.self.now c.args.path.text.now c.in-Some.dir.text.now c.in-Some-get.list c.args.path.is_path c.in-Some.dir.is_path (sym c.in-Some.ensures.parent) c.in-Some-get.ensures.rows
    c.in-Some-get.ensures.dir

pub returns-in-None : goal.returns-in-None
returns-in-None t c =
    over_above c.args.self.now c.args.path.text.now c.in-Some.dir.text.now c.over.result c.args.path.is_path (sym c.in-Some.ensures.parent) c.in-None.ensures.rows c.over.ensures
