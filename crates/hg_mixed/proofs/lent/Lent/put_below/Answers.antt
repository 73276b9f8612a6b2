use Rattle.std.proofs.Common.{Some, eqb, length, ◌∙◌, ap, List, ℕ, refl, subst, sym}
use Rattle.std.specs.BTreeMap.{get_by_text}
use Rattle.std.specs.Map.{update}
use Rattle.std.specs.Str.{bytes_eq}
use Rattle.std.specs.String.{string_bytes}
use Rattle.std.proofs.lemmas.Map.Text.{btree_map_updates_text}
use Rattle.hg_image.specs.Rows.{Row}
use Rattle.hg_image.specs.View.{rows_in}
use Rattle.hg_mixed.specs.Lent.{AreByDir, IsLentPut, lists_of, with_root}
use Rattle.hg_nodes.proofs.Made.{made_entries}
use Rattle.hg_mixed.proofs.Lents.{below_put, by_dir_insert, lent_changed, none_of_root}
use Rattle.hg_mixed.proofs.lent.Lent.put_below.Goals as goal

pub invariant_of-self-2 : goal.invariant_of-self-2
invariant_of-self-2 c =
    let are = made_entries c.self.inside.lists c.new.result c.get_or_insert-lists.result.now c.new.ensures.empty c.get_or_insert-lists.ensures.value in (
      c.self.invariant.0,
      subst AreByDir (sym c.in_ok-insert.ensures.entries)
          (by_dir_insert c.in_ok-key.key c.args.list c.get_or_insert-lists.result.now.entries (c.requires.dir ∙ sym c.in_ok-key.ensures.ok) (ap (λ (d : List ℕ). eqb (length d) 0) c.in_ok-key.ensures.ok ∙ c.requires.below)
          (subst AreByDir are c.self.invariant.1)),
    )

pub returns-clause-ok : goal.returns-clause-ok
returns-clause-ok c =
    let are = made_entries c.self.inside.lists c.new.result c.get_or_insert-lists.result.now c.new.ensures.empty c.get_or_insert-lists.ensures.value in
    let fit : AreByDir c.insert.new.self.entries = subst AreByDir (sym c.in_ok-insert.ensures.entries)
    (by_dir_insert c.in_ok-key.key c.args.list c.get_or_insert-lists.result.now.entries (c.requires.dir ∙ sym c.in_ok-key.ensures.ok) (ap (λ (d : List ℕ). eqb (length d) 0) c.in_ok-key.ensures.ok ∙ c.requires.below)
    (subst AreByDir are c.self.invariant.1)) in
    subst (λ (l : List (List ℕ × List Row)). IsLentPut c.args.dir.now (Some (rows_in c.args.list)) l (with_root c.self.inside.root (lists_of c.insert.new.self.entries))) (ap (λ es. with_root c.self.inside.root (lists_of es)) (sym are) ∙ c.self.view_is)
    (below_put c.self.inside.root c.args.dir.now (Some (rows_in c.args.list)) (lists_of c.get_or_insert-lists.result.now.entries) (lists_of c.insert.new.self.entries) c.requires.below
    (none_of_root c.get_or_insert-lists.result.now.entries (subst AreByDir are c.self.invariant.1)) (none_of_root c.insert.new.self.entries fit)
    (lent_changed c.args.dir.now (Some c.args.list) c.get_or_insert-lists.result.now c.insert.new.self (lists_of c.get_or_insert-lists.result.now.entries) refl
    (λ at.
    btree_map_updates_text (string_bytes c.in_ok-key.key) c.get_or_insert-lists.result.now c.insert.new.self _ c.in_ok-insert.ensures.updates at
    ∙ ap (λ (d : List ℕ). update bytes_eq (get_by_text c.get_or_insert-lists.result.now) d (Some c.args.list) at) c.in_ok-key.ensures.ok)))
