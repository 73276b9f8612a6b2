use Rattle.std.proofs.Common.{OnOk, Result, sym, subst}
use Rattle.hg_entry.specs.Entry.{view}
use Rattle.hg_mixed.specs.Held.{table}
use Rattle.hg_walk.specs.Writing.{IsEdit, with_entry}
use Rattle.hg_walk.proofs.Written.{edit_over}
use Rattle.hg_walk.proofs.applying.set_over.Goals as goal
use Rattle.hg_walk.proofs.applying.set_over.Goals.{in-Ok, in-Err-OutOfMemory}

pub returns-clause-edit : goal.returns-clause-edit
returns-clause-edit c = elim c.match-set.branch [
  | in-Ok w ↦
      subst (λ (r : Result _ _). OnOk r (IsEdit c.args.path.text.now (with_entry c.args.path.text.now (view c.args.entry) (table c.args.mixed.now)) c.args.mixed.now c.set.new.self)) (sym w.result-is)
      (edit_over c.args.path.text.now (view c.args.entry) (view c.args.was) c.args.mixed.now c.set.new.self c.requires.formed c.requires.was w.in-Ok.ensures.table w.in-Ok.ensures.changed w.in-Ok.ensures.lent w.in-Ok.ensures.places)
  | in-Err-OutOfMemory w ↦
      subst (λ (r : Result _ _). OnOk r (IsEdit c.args.path.text.now (with_entry c.args.path.text.now (view c.args.entry) (table c.args.mixed.now)) c.args.mixed.now c.set.new.self)) (sym w.result-is) tt
]
