use Rattle.std.proofs.Common.{[], ap, subst, sym, true≢false, ◌∙◌, List, ℕ}
use Rattle.std.specs.List.Sorted.{IsStrictlySortedBy}
use Rattle.hg_nodes.specs.Kids.{AreKids}
use Rattle.hg_nodes.specs.Lists.{rows_of}
use Rattle.hg_nodes.specs.Made.{entries_of}
use Rattle.hg_nodes.specs.Node.{NodeData}
use Rattle.hg_nodes.proofs.nodes.Nodes.kids.Goals as goal

pub returns-in-None : goal.returns-in-None
unfolding IsStrictlySortedBy
returns-in-None c =
    subst (λ (rows : List (List ℕ × NodeData)). AreKids rows c.args.dir.now []) (ap (λ o. rows_of (entries_of o)) (sym c.in-None.is) ∙ c.self.view_is)
    (record { sorted = tt; each = tt; all = λ at here some. absurd (true≢false (sym some)) })
