use Rattle.hg_glob.proofs.Bounding.{may_stand}
use Rattle.hg_glob.proofs.glob.Glob.may_match_end.Goals as goal

pub returns : goal.returns
returns c = λ rooted s. may_stand rooted c.args.self.now _ c.self.inside.parts.items c.args.path.now _ c.as_str.result.now c.may_end.result c.self.view_is c.self.invariant.parts_are c.utf8.path c.self.invariant.tail_is c.as_str.ensures.value c.may_end.ensures s
