use Rattle.hg_nodes.proofs.LeftBefore.{first_path, first_there, left_on}
use Rattle.hg_nodes.proofs.own_children.OwnChildren.next.Goals as goal

pub look-has_kids-requires-clause-path : goal.look-has_kids-requires-clause-path
look-has_kids-requires-clause-path c = first_path _ _ _ _ _ c.in-Some.ensures c.self.invariant

pub look-has_kids-requires-clause-there : goal.look-has_kids-requires-clause-there
look-has_kids-requires-clause-there c = first_there _ _ _ _ _ c.in-Some.ensures c.self.invariant

pub invariant_of-self-in-Some : goal.invariant_of-self-in-Some
invariant_of-self-in-Some c = left_on _ _ _ _ _ c.in-Some.ensures c.self.invariant _ _ c.look-has_kids.ensures
