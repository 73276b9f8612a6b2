use Rattle.std.proofs.Common.{◌∙◌, refl, inr}
use Rattle.hg_shelf.proofs.Courses.{lacked}
use Rattle.hg_shelf.proofs.memory.MemShelf.do_lock.Goals as goal

pub returns-in-Err-clause-failed : goal.returns-in-Err-clause-failed
returns-in-Err-clause-failed c = record {
  behind = _;
  failed = inr (lacked c.args.self.now _ _ c.self.inside.due.items c.fail.new.self _ _ _ _ _ c.note_lock.new.locks.items _ refl c.in-Err.ensures.err c.fail.ensures.counted (c.self.view_is ∙ c.in_ok-begin_lock.ensures.ok));
  noted = inr refl;
}
