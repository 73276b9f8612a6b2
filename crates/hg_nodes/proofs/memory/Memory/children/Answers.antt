use Rattle.std.proofs.Common.{subst, List, ℕ}
use Rattle.std.specs.Option.{option_map}
use Rattle.hg_nodes.specs.Kids.{AreKids}
use Rattle.hg_nodes.proofs.ChildrenOf.{children_are, dir_path}
use Rattle.hg_nodes.proofs.LeftBefore.{at_paths, left_at_first}
use Rattle.hg_nodes.proofs.memory.Memory.children.Goals as goal

pub returns-clause-nodes : goal.returns-clause-nodes
returns-clause-nodes c =
    children_are _ _ c.self.view_is c.self.invariant (option_map (λ d. d.text.now) c.args.dir) (dir_path c.args.dir) c.kids.result
    (subst (λ (d : List ℕ). AreKids c.self.inside.nodes d c.kids.result) c.text_of.ensures c.kids.ensures)

pub invariant_of-result : goal.invariant_of-result
invariant_of-result c =
    (at_paths c.self.inside.nodes _ c.kids.result c.self.invariant.paths c.kids.ensures.each, left_at_first c.self.inside.nodes _ c.kids.result c.kids.ensures)
