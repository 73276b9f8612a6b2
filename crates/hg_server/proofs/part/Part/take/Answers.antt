use Rattle.std.proofs.Common.{ℕ, ◌+◌, ◌-◌, List, ◌++◌, length, take, refl, ap, arith}
use Rattle.std.specs.Vec.{with_items}
use Rattle.std.proofs.lemmas.List.{with_items_is}
use borrow.Rule.Slice.PartMut.{post_of, same_len_mid}
use Rattle.hg_server.proofs.Taking.{takes_some}
use Rattle.hg_server.proofs.part.Part.take.Goals as goal

pub returns-in-Ok-clause-takes : goal.returns-in-Ok-clause-takes
returns-in-Ok-clause-takes g c =
    let k : ℕ = c.self.inside.len + c.args.most - c.self.inside.len in
    let filled : List ℕ = take c.self.inside.len c.deref_mut.result.now ++ (c.take.new.buf ++ post_of c.self.inside.len k c.deref_mut.result.now) in
    let long = same_len_mid c.self.inside.len k c.deref_mut.result.now c.take.new.buf c.take.auto.buf in
    takes_some (g.I.Source.left c.args.input.now) (g.I.Source.left c.take.new.self) c.self.inside.room.items c.deref_mut.result.now _ c.take.new.buf
    (post_of c.self.inside.len k c.deref_mut.result.now) c.args.self.now (take (c.self.inside.len + c.in-Ok.n) (with_items c.widen.new.room filled).items) c.self.inside.len c.args.most c.in-Ok.n
    (rw c.deref_mut.ensures.value c.widen.ensures.kept) c.self.invariant c.self.view_is (omega (arith, c.in_ok-widen.ensures.long, ap length c.deref_mut.ensures.value)) refl
    (ap (take (c.self.inside.len + c.in-Ok.n)) (with_items_is c.widen.new.room filled (omega (arith, long, c.deref_mut.ensures.len)))) c.requires.some c.take.auto.buf c.in-Ok.ensures.most
    c.in-Ok.ensures.taken c.in-Ok.ensures.end
