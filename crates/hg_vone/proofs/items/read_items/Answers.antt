use Rattle.std.proofs.Common.{arith, ◌≡◌, ◌||◌, List, map, drop, Bool, true, false, [], ◌∷◌, ◌++◌, sym, ap, ◌∙◌}
use Rattle.std.specs.Str.{bytes_eq}
use Rattle.std.proofs.lemmas.Grind.{common_steps}
use Rattle.std.proofs.lemmas.List.{map-append}
use Rattle.std.proofs.lemmas.Result.{err_from_is_err_and}
use Rattle.hg_vone.specs.Items.{Item, has_path}
use Rattle.hg_vone.specs.View.{item}
use Rattle.hg_vone.proofs.Reading.{ends, fails, fine, goes, one_more, own_wrong, small, starts, twice, was_new, was_there}
use Rattle.hg_vone.proofs.items.read_items.Goals as goal

pub loop-at-init : goal.loop-at-init
loop-at-init c = record {
  so_far = rw c.new-items.ensures.items (starts c.args.bytes.now c.requires.parents);
  seen = λ q. grind (arith, common_steps);
}

pub returns-in_err-item-clause-fault : goal.returns-in_err-item-clause-fault
returns-in_err-item-clause-fault c =
    let p = err_from_is_err_and c.from_residual.result c.from_residual.ensures.1 in
    rw (p.1, p.2)
    (fails c.args.bytes.now c.loop-at.at (map item c.loop-at.items.items) c.in_err-item.field-0.0
    (small c.loop-at.at (drop c.loop-at.at c.args.bytes.now) c.in_err-item.field-0.0 (rw c.split_at.ensures.back at c.in_err-item.ensures.fault)) c.loop-at.invariant.so_far c.loop-at-test.true
    (own_wrong c.loop-at.at (map item c.loop-at.items.items) (drop c.loop-at.at c.args.bytes.now) c.in_err-item.field-0.0 (rw c.split_at.ensures.back at c.in_err-item.ensures.fault)))

pub returns-then-not-branch-clause-fault : goal.returns-then-not-branch-clause-fault
returns-then-not-branch-clause-fault c =
    let items : List Item = map item c.loop-at.items.items in
    let has : has_path items c.in_ok-item.item.path.text.now ≡ true =
    sym (c.loop-at.invariant.seen c.in_ok-item.item.path.text.now) ∙ was_there c.in_ok-put.field-0 _ c.in_ok-put.ensures.new c.if-not-branch.true in
    fails c.args.bytes.now c.loop-at.at items _ (λ size is. cc) c.loop-at.invariant.so_far c.loop-at-test.true
    (twice c.loop-at.at items (drop c.loop-at.at c.args.bytes.now) (item c.in_ok-item.item) (rw c.split_at.ensures.back at c.in_ok-item.ensures.fault) (rw c.split_at.ensures.back at c.in_ok-item.ensures.item) has)

pub loop-at-preserved : goal.loop-at-preserved
loop-at-preserved c =
    let items : List Item = map item c.loop-at.items.items in
    let one : Item = item c.in_ok-item.item in
    let has : has_path items c.in_ok-item.item.path.text.now ≡ false =
    sym (c.loop-at.invariant.seen c.in_ok-item.item.path.text.now) ∙ was_new c.in_ok-put.field-0 _ c.in_ok-put.ensures.new c.if-not-branch.false in
    let more : map item c.push.new.self.items ≡ items ++ one ∷ [] = ap (map item) c.in_ok-push.ensures.items ∙ map-append item c.loop-at.items.items (c.in_ok-item.item ∷ []) in record {
      so_far =
          rw more
          (goes c.args.bytes.now c.loop-at.at c.in_ok-item.item.size items one c.loop-at.invariant.so_far c.loop-at-test.true
          (fine c.loop-at.at items (drop c.loop-at.at c.args.bytes.now) one (rw c.split_at.ensures.back at c.in_ok-item.ensures.fault) (rw c.split_at.ensures.back at c.in_ok-item.ensures.item) has)
          (rw c.split_at.ensures.back at c.in_ok-item.ensures.size) (rw c.split_at.ensures.back at c.in_ok-item.ensures.item) (rw c.split_at.ensures.back at c.in_ok-item.ensures.room));
      seen = λ q.
          rw more
          (c.in_ok-put.ensures.more q
          ∙ ap (λ (b : Bool). bytes_eq one.path q || b) (c.loop-at.invariant.seen q)
          ∙ one_more items one q);
    }

pub returns-clause-items : goal.returns-clause-items
returns-clause-items c = ends c.args.bytes.now c.loop-at.at (map item c.loop-at.items.items) c.loop-at.invariant.so_far c.loop-at-test.false
