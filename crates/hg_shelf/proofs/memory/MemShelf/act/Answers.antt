use Rattle.std.proofs.Common.{◌∙◌, refl, inr}
use Rattle.hg_shelf.proofs.Courses.{lacked}
use Rattle.hg_shelf.proofs.memory.MemShelf.act.Goals as goal

pub returns-in-Err-clause-failed : goal.returns-in-Err-clause-failed
returns-in-Err-clause-failed c = inr (lacked c.args.self.now c.note.new.log _ c.self.inside.due.items c.fail.new.self _ _ _ _ _ _ _ c.in-Err.ensures.err refl c.fail.ensures.counted (c.self.view_is ∙ c.in_ok-call.ensures.ok))
