use Rattle.std.proofs.Common.{None, [], List, ap, refl, subst, sym, ◌∙◌, ℕ}
use Rattle.std.proofs.lemmas.Map.Text.{btree_map_updates_text}
use Rattle.hg_image.specs.Rows.{Row}
use Rattle.hg_mixed.specs.Lent.{AreByDir, IsLentPut, lists_of, with_root}
use Rattle.hg_nodes.specs.Made.{entries_of}
use Rattle.hg_nodes.proofs.Made.{some_entries}
use Rattle.hg_mixed.proofs.Lents.{below_put, by_dir_remove, empty_is, lent_changed, none_of_root, root_put}
use Rattle.hg_mixed.proofs.lent.Lent.remove.Goals as goal

pub returns-then-is_empty : goal.returns-then-is_empty
returns-then-is_empty c =
    subst (λ (dir : List ℕ). IsLentPut dir None c.args.self.now (with_root None (lists_of (entries_of c.self.inside.lists))))
    (sym (empty_is c.args.dir.now (sym c.is_empty.ensures ∙ c.if-is_empty.true)))
    (subst (λ (l : List (List ℕ × List Row)). IsLentPut [] None l (with_root None (lists_of (entries_of c.self.inside.lists)))) c.self.view_is
    (root_put c.self.inside.root None (lists_of (entries_of c.self.inside.lists)) (none_of_root (entries_of c.self.inside.lists) c.self.invariant.1)))

pub returns : goal.returns
returns c =
    let are = some_entries _ c.in-Some.lists c.in-Some.is in
    let fit : AreByDir c.in-Some.lists.entries = subst AreByDir are c.self.invariant.1 in
    let fit_now : AreByDir c.remove.new.self.entries = subst AreByDir (sym c.remove.ensures.entries) (by_dir_remove _ c.in-Some.lists.entries fit) in
    subst (λ (l : List (List ℕ × List Row)). IsLentPut c.args.dir.now None l (with_root c.self.inside.root (lists_of c.remove.new.self.entries))) (ap (λ es. with_root c.self.inside.root (lists_of es)) (sym are) ∙ c.self.view_is)
    (below_put c.self.inside.root c.args.dir.now None (lists_of c.in-Some.lists.entries) (lists_of c.remove.new.self.entries) (sym c.is_empty.ensures ∙ c.if-is_empty.false)
    (none_of_root c.in-Some.lists.entries fit) (none_of_root c.remove.new.self.entries fit_now)
    (lent_changed c.args.dir.now None c.in-Some.lists c.remove.new.self (lists_of c.in-Some.lists.entries) refl
    (λ at. btree_map_updates_text c.args.dir.now c.in-Some.lists c.remove.new.self _ c.remove.ensures.updates at)))

pub invariant_of-self-2 : goal.invariant_of-self-2
invariant_of-self-2 c =
    let fit : AreByDir c.in-Some.lists.entries = subst AreByDir (some_entries _ c.in-Some.lists c.in-Some.is) c.self.invariant.1 in
    (c.self.invariant.0, subst AreByDir (sym c.remove.ensures.entries) (by_dir_remove _ c.in-Some.lists.entries fit))
