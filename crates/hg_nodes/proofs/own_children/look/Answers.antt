use Rattle.std.proofs.Common.{sym, ap, subst, ◌∙◌, ℕ, List, Option}
use Rattle.std.specs.Option.{option_map}
use Rattle.std.specs.String.{string_bytes}
use Rattle.hg_nodes.specs.Kids.{LooksOn, beside, is_before}
use Rattle.hg_nodes.proofs.LeftBefore.{looked, looked_before, looked_early}
use Rattle.hg_nodes.specs.Lists.{has_rows_in}
use Rattle.hg_nodes.proofs.own_children.look.Goals as goal

pub returns-then-is_childless : goal.returns-then-is_childless
returns-then-is_childless c =
    looked_early c.args.nodes.now (string_bytes c.args.dir.now) (option_map (λ n. n.now) c.args.next)
    (ap (has_rows_in c.args.nodes.now) (sym c.as_str.ensures.value) ∙ c.is_childless.ensures c.if-is_childless.true)

pub returns-then-is_before : goal.returns-then-is_before
returns-then-is_before c =
    let known : Option (List ℕ) = option_map (λ n. n.now) c.args.next in
    looked_before c.args.nodes.now (string_bytes c.args.dir.now) known (ap (is_before known) (sym c.as_str.ensures.value) ∙ sym c.is_before.ensures ∙ c.if-is_before.true)

pub returns : goal.returns
returns c =
    let known : Option (List ℕ) = option_map (λ n. n.now) c.args.next in
    let next : Option (List ℕ) = option_map (λ n. n.now) c.seek-has.result.1 in
    subst (LooksOn c.args.nodes.now known (string_bytes c.args.dir.now) c.seek-has.result.0) (sym (c.beside.ensures ∙ ap (λ (p : List ℕ). beside p next) c.as_str.ensures.value))
    (looked c.args.nodes.now (string_bytes c.args.dir.now) c.requires.path known next c.seek-has.result.0 c.seek-has.ensures)
