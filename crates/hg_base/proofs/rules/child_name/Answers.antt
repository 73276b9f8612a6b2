use Rattle.std.proofs.Common.{None, Some, refl, rules}
use Rattle.hg_base.proofs.Cuts.{child_found, child_missing, base_cut, parent_cut, base_plain, parent_plain}
use Rattle.hg_base.proofs.rules.child_name.Goals as goal

pub returns-in-None-dir : goal.returns-in-None-dir
returns-in-None-dir c =
    let path = c.args.path.now in
    rw c.in-None-dir.is (child_found None None path path (parent_plain path c.in-None.ensures) (base_plain path c.in-None.ensures) refl)

pub returns-in-Some-dir : goal.returns-in-Some-dir
returns-in-Some-dir c = let path = c.args.path.now in rw c.in-Some-dir.is (child_missing (Some c.in-Some-dir.field-0.now) None path (parent_plain path c.in-None.ensures) refl)

pub returns-in-None-dir-2 : goal.returns-in-None-dir-2
returns-in-None-dir-2 c =
    let path = c.args.path.now in
    rw c.in-None-dir-2.is (child_missing None (Some c.in-Some.parent.now) path (parent_cut path _ _ c.in-Some.ensures.0 c.in-Some.ensures.1) refl)

pub returns-then-eq : goal.returns-then-eq
returns-then-eq c =
    let path = c.args.path.now in
    rw c.in-Some-dir-2.is (child_found (Some c.in-Some-dir-2.dir.now) (Some c.in-Some.parent.now) path _ (parent_cut path _ _ c.in-Some.ensures.0 c.in-Some.ensures.1) (base_cut path _ _ c.in-Some.ensures.0 c.in-Some.ensures.1) (search rules))

pub returns-else-eq : goal.returns-else-eq
returns-else-eq c =
    let path = c.args.path.now in
    rw c.in-Some-dir-2.is (child_missing (Some c.in-Some-dir-2.dir.now) (Some c.in-Some.parent.now) path (parent_cut path _ _ c.in-Some.ensures.0 c.in-Some.ensures.1) (search rules))
