use Rattle.std.proofs.Common.{sym, subst, inr, Result, OnOk}
use Rattle.hg_entry.specs.Entry.{view}
use Rattle.hg_ops.proofs.Setting.{other_set}
use Rattle.hg_ops.specs.Setting.{SetsTo}
use Rattle.hg_ops.proofs.parents.set_to.Goals as goal
use Rattle.hg_ops.proofs.parents.set_to.Goals.{in-Ok, in-Err}

pub returns-clause-set : goal.returns-clause-set
returns-clause-set c = elim c.match-set.branch [
  | in-Ok w ↦
      subst (λ (r : Result _ _). OnOk r (SetsTo c.args.path.text.now (view c.args.entry) c.args.mixed.now c.set.new.self)) (sym w.result-is)
      (inr (other_set c.args.path.text.now (view c.args.entry) c.args.mixed.now c.set.new.self c.if-has_entry.ensures w.in-Ok.ensures.table w.in-Ok.ensures.changed w.in-Ok.ensures.lent w.in-Ok.ensures.places))
  | in-Err w ↦ subst (λ (r : Result _ _). OnOk r (SetsTo c.args.path.text.now (view c.args.entry) c.args.mixed.now c.set.new.self)) (sym w.result-is) tt
]
