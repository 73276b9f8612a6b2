use Rattle.std.proofs.Common.{arith}
use Rattle.hg_glob.proofs.Places.{place_put}
use Rattle.hg_glob.proofs.part_row.PartRow.push.Goals as goal

pub returns : goal.returns
returns c =
    place_put c.self.inside.parts.items c.args.parts.now c.extend_from_slice.new.self.items c.self.inside.places.items c.push.new.self.items c.args.self.now (record { from = c.len-from.result; to = c.len-to.result }) c.in_ok-extend_from_slice.ensures.items c.in_ok-push.ensures.items
    c.self.view_is c.self.invariant (omega arith) (omega arith)
