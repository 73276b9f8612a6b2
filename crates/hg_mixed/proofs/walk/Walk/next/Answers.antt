use Rattle.std.proofs.Common.{refl}
use Rattle.hg_mixed.proofs.Handed.{handed_node, handed_own, list_here, walk_still}
use Rattle.hg_mixed.proofs.LentChildren.{lent_next, lent_none}
use Rattle.hg_mixed.proofs.walk.Walk.next.Goals as goal

pub returns-in-Some-next-clause-lists : goal.returns-in-Some-next-clause-lists
returns-in-Some-next-clause-lists c = λ held are. (walk_still held c.args.self.now _ are refl refl, handed_own held c.args.self.now c.with_lent.result are c.with_lent.ensures.list)

pub returns-then-at-len-clause-takes : goal.returns-then-at-len-clause-takes
returns-then-at-len-clause-takes c =
    let none = lent_none c.args.self.now.kids c.args.self.now.left.now c.args.self.now.list c.args.self.now.at c.in_ok-list.list c.len.result c.in_default.is c.in_ok-list.was c.len.ensures.count c.if-at-len.true in
    (none, none)

pub returns-clause-takes : goal.returns-clause-takes
returns-clause-takes c =
    lent_next c.args.self.now.kids c.args.self.now.left.now c.args.self.now.list c.args.self.now.at c.in_ok-list.list c.len.result c.in_default.is c.in_ok-list.was c.len.ensures.count
    c.get.result _ c.if-at-len.false c.get.ensures.record c.get.ensures.bytes c.child_of.ensures.shown

pub returns-clause-lists : goal.returns-clause-lists
returns-clause-lists c = λ held are. (
  walk_still held c.args.self.now _ are refl refl,
  handed_node held c.in_ok-list.list c.args.self.now.at c.get.result c.child_of.result (rw c.len.ensures.count at c.if-at-len.false) c.get.ensures.record c.get.ensures.bytes c.get.ensures.levels
      (list_here held c.args.self.now c.in_ok-list.list are c.in_ok-list.was) c.child_of.ensures.shown c.child_of.ensures.list,
)
