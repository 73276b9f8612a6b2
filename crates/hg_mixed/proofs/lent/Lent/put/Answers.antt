use Rattle.std.proofs.Common.{[], ◌∙◌, List, ℕ, Some, subst, sym}
use Rattle.hg_image.specs.Rows.{Row}
use Rattle.hg_image.specs.View.{rows_in}
use Rattle.hg_mixed.specs.Lent.{IsLentPut, lists_of, with_root}
use Rattle.hg_nodes.specs.Made.{entries_of}
use Rattle.hg_mixed.proofs.Lents.{empty_is, none_of_root, root_put}
use Rattle.hg_mixed.proofs.lent.Lent.put.Goals as goal

pub returns-then-is_empty-clause-ok : goal.returns-then-is_empty-clause-ok
returns-then-is_empty-clause-ok c =
    subst (λ (dir : List ℕ). IsLentPut dir (Some (rows_in c.args.list)) c.args.self.now (with_root (Some c.args.list) (lists_of (entries_of c.self.inside.lists))))
    (sym (empty_is c.args.dir.now (sym c.is_empty.ensures ∙ c.if-is_empty.true)))
    (subst (λ (l : List (List ℕ × List Row)). IsLentPut [] (Some (rows_in c.args.list)) l (with_root (Some c.args.list) (lists_of (entries_of c.self.inside.lists)))) c.self.view_is
    (root_put c.self.inside.root (Some c.args.list) (lists_of (entries_of c.self.inside.lists)) (none_of_root (entries_of c.self.inside.lists) c.self.invariant.1)))
