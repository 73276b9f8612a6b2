use Rattle.std.proofs.Common.{◌≡◌, ◌∙◌, [], ap, List, Option, subst, sym, ℕ}
use Rattle.std.specs.Option.{option_map, IfSome}
use Rattle.hg_image.specs.Rows.{Row}
use Rattle.hg_image.specs.View.{dir_of, rows_in}
use Rattle.hg_image.specs.declared.opened.List.{List as NodeList}
use Rattle.hg_mixed.specs.Lent.{AreByDir, lent_at, lists_of}
use Rattle.hg_nodes.specs.Lists.{or_root}
use Rattle.hg_nodes.specs.Made.{entries_of}
use Rattle.hg_nodes.proofs.Made.{some_entries}
use Rattle.hg_mixed.proofs.Lents.{below_root, by_dir, empty_is, lent_of, none_of_root, root_first}
use Rattle.hg_mixed.proofs.lent.Lent.get.Goals as goal

pub returns-then-is_empty-clause-rows : goal.returns-then-is_empty-clause-rows
returns-then-is_empty-clause-rows c =
    sym (root_first c.self.inside.root (lists_of (entries_of c.self.inside.lists)) (none_of_root (entries_of c.self.inside.lists) c.self.invariant.1))
    ∙ ap (λ (l : List (List ℕ × List Row)). lent_at l []) c.self.view_is
    ∙ ap (lent_at c.args.self.now) (sym (empty_is c.args.dir.now (sym c.is_empty.ensures ∙ c.if-is_empty.true)))

pub returns-then-is_empty-clause-dir : goal.returns-then-is_empty-clause-dir
returns-then-is_empty-clause-dir c =
    subst (λ (d : List ℕ). IfSome c.self.inside.root (λ list. or_root (dir_of list) ≡ d)) (sym (empty_is c.args.dir.now (sym c.is_empty.ensures ∙ c.if-is_empty.true))) c.self.invariant.0

pub returns-in-None-clause-rows : goal.returns-in-None-clause-rows
returns-in-None-clause-rows c =
    sym (below_root c.self.inside.root (lists_of (entries_of c.self.inside.lists)) c.args.dir.now (sym c.is_empty.ensures ∙ c.if-is_empty.false)
    ∙ ap (λ o. lent_at (lists_of (entries_of o)) c.args.dir.now) c.in-None.is)
    ∙ ap (λ (l : List (List ℕ × List Row)). lent_at l c.args.dir.now) c.self.view_is

pub returns-in-Some-clause-rows : goal.returns-in-Some-clause-rows
returns-in-Some-clause-rows c =
    ap (option_map rows_in) (c.copied.ensures ∙ c.get.ensures.value)
    ∙ lent_of c.in-Some.lists (lists_of (entries_of c.self.inside.lists)) (ap lists_of (sym (some_entries _ c.in-Some.lists c.in-Some.is))) c.args.dir.now
    ∙ sym (below_root c.self.inside.root (lists_of (entries_of c.self.inside.lists)) c.args.dir.now (sym c.is_empty.ensures ∙ c.if-is_empty.false))
    ∙ ap (λ (l : List (List ℕ × List Row)). lent_at l c.args.dir.now) c.self.view_is

pub returns-in-Some-clause-dir : goal.returns-in-Some-clause-dir
returns-in-Some-clause-dir c =
    subst (λ (o : Option NodeList). IfSome o (λ list. or_root (dir_of list) ≡ c.args.dir.now)) (sym (c.copied.ensures ∙ c.get.ensures.value))
    (by_dir c.in-Some.lists.entries (subst AreByDir (some_entries _ c.in-Some.lists c.in-Some.is) c.self.invariant.1) c.args.dir.now)
