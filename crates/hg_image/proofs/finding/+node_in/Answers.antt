use Rattle.std.proofs.Common.{◌∙◌, ℕ, List, sym, subst, arith}
use Rattle.std.proofs.lemmas.Grind.{common_steps}
use Rattle.hg_base.specs.PathText.{parent_of}
use Rattle.hg_base.proofs.Below.{below_length}
use Rattle.hg_base.proofs.Children.{same_dir}
use Rattle.hg_image.specs.View.{Finds, dir_of}
use Rattle.hg_image.proofs.Found.{deep_bytes, found_bytes}
use Rattle.hg_image.proofs.Found.{found_below, found_kept, found_row, kept_below, no_parent, parent_above, parent_below, row_missing}
use Rattle.hg_image.proofs.finding.+node_in.Goals as goal

pub returns-then-is_in-clause-node : goal.returns-then-is_in-clause-node
returns-then-is_in-clause-node t c =
    found_row c.args.list c.args.path.text.now c.find.result c.args.path.is_path (sym (same_dir (dir_of c.args.list) (parent_of c.args.path.text.now) (sym c.is_in.ensures ∙ c.if-is_in.true)))
    (subst (λ (name : List ℕ). Finds c.args.list name c.find.result) c.base.ensures.base c.find.ensures)

pub returns-then-is_in-clause-below : goal.returns-then-is_in-clause-below
returns-then-is_in-clause-below t c = found_kept c.args.list c.base.result.now c.find.result c.find.ensures

pub returns-in_default-clause-node : goal.returns-in_default-clause-node
returns-in_default-clause-node t c =
    absurd (no_parent (dir_of c.args.list) c.args.path.text.now c.args.path.is_path c.requires (sym c.is_in.ensures ∙ c.if-is_in.false) (sym c.in_default.ensures.parent))

pub node_in-requires : goal.node_in-requires
node_in-requires t c =
    let is = sym c.in-Some.ensures.parent in
    let above = parent_above (dir_of c.args.list) c.args.path.text.now c.in-Some.dir.text.now c.args.path.is_path c.requires (sym c.is_in.ensures ∙ c.if-is_in.false) is in
    let shorter = below_length c.in-Some.dir.text.now c.args.path.text.now (parent_below c.args.path.text.now c.in-Some.dir.text.now c.args.path.is_path is) in
    grind (arith, common_steps, above, shorter)

pub returns-in-None-clause-node : goal.returns-in-None-clause-node
returns-in-None-clause-node t c =
    let is = sym c.in-Some.ensures.parent in
    let above = parent_above (dir_of c.args.list) c.args.path.text.now c.in-Some.dir.text.now c.args.path.is_path c.requires (sym c.is_in.ensures ∙ c.if-is_in.false) is in
    sym (row_missing c.args.list c.args.path.text.now c.in-Some.dir.text.now c.args.path.is_path above is (sym c.in-None.ensures.node))

pub returns-in-Some-node_in-clause-node : goal.returns-in-Some-node_in-clause-node
returns-in-Some-node_in-clause-node t c =
    found_below c.args.list c.children.result c.in-Some-node_in.node c.in-Some-node_in.ensures.below c.children.ensures.rows c.children.ensures.dir c.args.path.text.now c.in-Some.dir.text.now
    c.find-in-Some-node_in.result c.args.path.is_path (sym c.in-Some.ensures.parent) c.in-Some-node_in.ensures.node
    (subst (λ (name : List ℕ). Finds c.children.result name c.find-in-Some-node_in.result) c.base-in-Some-node_in.ensures.base c.find-in-Some-node_in.ensures)

pub returns-in-Some-node_in-clause-below : goal.returns-in-Some-node_in-clause-below
returns-in-Some-node_in-clause-below t c =
    kept_below c.args.list c.children.result c.in-Some-node_in.node c.in-Some-node_in.ensures.below c.children.ensures.rows c.children.ensures.dir c.base-in-Some-node_in.result.now
    c.find-in-Some-node_in.result c.find-in-Some-node_in.ensures

pub returns-then-is_in-clause-bytes : goal.returns-then-is_in-clause-bytes
returns-then-is_in-clause-bytes t c = found_bytes c.args.list c.base.result.now c.find.result c.find.ensures

pub returns-in-Some-node_in-clause-bytes : goal.returns-in-Some-node_in-clause-bytes
returns-in-Some-node_in-clause-bytes t c =
    deep_bytes c.args.list c.children.result c.in-Some-node_in.node c.in-Some-node_in.ensures.bytes c.children.ensures.bytes c.base-in-Some-node_in.result.now c.find-in-Some-node_in.result
    c.find-in-Some-node_in.ensures
