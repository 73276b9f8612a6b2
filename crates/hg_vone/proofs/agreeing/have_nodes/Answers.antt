use Rattle.std.proofs.Common.{ℕ, ◌≡◌, ◌+◌, ◌<◌, suc, List, ◌∷◌, map, drop, length, get_or, add-one, drop-cons, arith, subst, sym}
use Rattle.std.specs.List.{AllByRecursion}
use Rattle.hg_image.specs.Rows.{Row}
use Rattle.hg_image.specs.View.{rows_in}
use Rattle.hg_vone.specs.Agreeing.{HasNode}
use Rattle.hg_vone.specs.View.{item}
use Rattle.hg_vone.specs.declared.item.Item.{Item as OneItem}
use Rattle.hg_vone.proofs.agreeing.have_nodes.Goals as goal

one_more : (rows : List Row) (xs : List OneItem) (i : ℕ) (one : OneItem) → i < length xs → one ≡ get_or xs i one → HasNode rows (item one) → AllByRecursion (HasNode rows) (map item (drop (i + 1) xs)) → AllByRecursion (HasNode rows) (map item (drop i xs))
one_more rows xs i one inside is has rest =
    let later : AllByRecursion (HasNode rows) (map item (drop (suc i) xs)) = rw (← add-one i) rest in
    let first : drop i xs ≡ get_or xs i one ∷ drop (suc i) xs = drop-cons xs i one inside in
    subst (λ (all : List OneItem). AllByRecursion (HasNode rows) (map item all)) (sym first) (subst (λ (o : OneItem). HasNode rows (item o)) is has, later)

pub loop-one-preserved : goal.loop-one-preserved
loop-one-preserved c = λ rest.
    c.loop-one.invariant (one_more (rows_in c.args.root) c.args.items.now c.loop-one.one-index c.one-item.result (omega arith) c.one-item.is (c.has_node.ensures c.if-not-has_node.false) rest)
