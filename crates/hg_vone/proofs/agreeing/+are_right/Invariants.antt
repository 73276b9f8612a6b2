use Rattle.std.proofs.Common.{◌≡◌, true}
use Rattle.std.specs.BTreeSet.{contains_text}
use Rattle.std.specs.List.{list_all}
use Rattle.hg_image.specs.View.{rows_from, rows_in}
use Rattle.hg_vone.specs.Agreeing.{is_right}
use Rattle.hg_vone.proofs.agreeing.+are_right.Given as goal

abbrev pub decreases-are_right : goal.decreases-are_right
decreases-are_right l = l.list.depth

-- where the nodes that are left are right, all are
abbrev pub invariant-loop-i : goal.invariant-loop-i
invariant-loop-i l = list_all (is_right (contains_text l.paths)) (rows_from l.list l.i) ≡ true → list_all (is_right (contains_text l.paths)) (rows_in l.list) ≡ true
