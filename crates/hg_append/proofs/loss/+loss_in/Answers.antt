use Rattle.std.proofs.Common.{ℕ, ◌+◌, ◌≡◌, List, Option, ◌∷◌, ◌++◌, Some, sym, ap, subst, ◌∙◌, arith}
use Rattle.std.specs.List.{AllByRecursion}
use Rattle.hg_image.specs.Rows.{Row}
use Rattle.hg_image.specs.View.{dir_of, row, rows_below, rows_from, rows_in}
use Rattle.hg_append.specs.Loss.{IsImageRow, IsOfImage, loss_of, plus}
use Rattle.hg_append.proofs.Losses.{Summed, below_image, lent_lost, summed_more}
use Rattle.hg_append.proofs.loss.+loss_in.Goals as goal

pub returns-then-is_lent : goal.returns-then-is_lent
returns-then-is_lent t c =
    lent_lost c.args.mixed.now (dir_of c.args.list) (rows_in c.args.list) c.nothing-then-is_lent.result c.nothing-then-is_lent.ensures.bytes c.nothing-then-is_lent.ensures.copies
    (sym c.is_lent.ensures ∙ c.if-is_lent.true) c.requires.whole c.requires.of

pub loss_in-under-requires : goal.loss_in-under-requires
loss_in-under-requires t c =
    let held = c.args.mixed.now in
    let list = c.args.list in
    let node = c.get-node.result in
    let rest = rows_from list (c.loop-i.i + 1) in
    let far : Summed held (dir_of list) (rows_from list 0) (row node ∷ (rows_below node ++ rest)) c.loop-i.sum =
    subst (λ (r : List Row). Summed held (dir_of list) (rows_from list 0) r c.loop-i.sum) c.get-node.ensures.rows c.loop-i.invariant in
    let own : AllByRecursion (IsImageRow held (Some (row node).path)) (rows_below node) = below_image held (dir_of list) (row node) (rows_below node) rest far.image c.get-node.ensures.parted.below in
    let here : AllByRecursion (IsImageRow held (Some (row node).path)) (rows_in c.children.result) = subst (AllByRecursion (IsImageRow held (Some (row node).path))) (sym c.children.ensures.rows) own in
    let all : IsOfImage held c.children.result = subst (λ (d : Option (List ℕ)). AllByRecursion (IsImageRow held d) (rows_in c.children.result)) (sym c.children.ensures.dir) here in
    (omega (arith, c.children.ensures.levels, c.get-node.ensures.levels), (c.requires.whole, all))

pub loop-i-preserved : goal.loop-i-preserved
loop-i-preserved t c =
    let held = c.args.mixed.now in
    let list = c.args.list in
    let node = c.get-node.result in
    let rest = rows_from list (c.loop-i.i + 1) in
    let far : Summed held (dir_of list) (rows_from list 0) (row node ∷ (rows_below node ++ rest)) c.loop-i.sum =
    subst (λ (r : List Row). Summed held (dir_of list) (rows_from list 0) r c.loop-i.sum) c.get-node.ensures.rows c.loop-i.invariant in
    let under : c.loss_in-under.result ≡ loss_of held (rows_below node) = c.loss_in-under.ensures ∙ ap (loss_of held) c.children.ensures.rows in
    summed_more held (dir_of list) (rows_from list 0) (row node) (rows_below node) rest c.loop-i.sum c.loss_at.result c.loss_in-under.result c.plus-sum.result far c.loss_at.ensures under
    (c.plus-sum.ensures ∙ ap (plus c.loop-i.sum) c.plus.ensures)
