use Rattle.std.proofs.Common.{◌≡◌, ◌<◌, ◌∙◌, false, length, rules}
use Rattle.hg_server.proofs.Reading.{ends_inside, is_begun, more_taken}
use Rattle.hg_server.proofs.requests.next.Goals as goal

pub returns-then-not-branch-clause-reads : goal.returns-then-not-branch-clause-reads
returns-then-not-branch-clause-reads g c =
    let more : 0 < c.in_ok-most.most = search rules in
    let done : c.in_ok-take.field-0 ≡ false = search rules in
    let inside : 0 < length c.take.new.self = search rules in
    ends_inside c.args.n c.in_ok-most.most c.in_ok-take.field-0 (g.I.Source.left c.args.input.now) (g.I.Source.left c.loop-part.input) (g.I.Source.left c.take.new.input) c.loop-part.part c.take.new.self
    c.loop-part.invariant.took (is_begun c.args.n c.in_ok-most.most c.bytes.result.now c.loop-part.part c.bytes.ensures c.in_ok-most.ensures more) c.in_ok-take.ensures.takes done inside

pub loop-part-preserved : goal.loop-part-preserved
loop-part-preserved g c =
    let more : 0 < c.in_ok-most.most = search rules in
    let taken =
    more_taken c.args.n c.in_ok-most.most c.in_ok-take.field-0 (g.I.Source.left c.args.input.now) (g.I.Source.left c.loop-part.input) (g.I.Source.left c.take.new.input) c.loop-part.part c.take.new.self
    c.loop-part.invariant.took (is_begun c.args.n c.in_ok-most.most c.bytes.result.now c.loop-part.part c.bytes.ensures c.in_ok-most.ensures more) c.in_ok-take.ensures.takes in
    record { took = taken.0; within = taken.1; quiet = c.in_ok-take.ensures.cause.quiet (λ is. cc is) ∙ c.loop-part.invariant.quiet }
