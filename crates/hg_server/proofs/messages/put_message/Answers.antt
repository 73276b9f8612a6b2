use Rattle.std.proofs.Common.{ℕ, List, ◌++◌, subst}
use Rattle.hg_stream.specs.Stream.{GrownByFront}
use Rattle.hg_server.proofs.Putting.{at_err, front_of, on_err, then_front}
use Rattle.hg_server.proofs.messages.put_message.Goals as goal

pub returns-in_err-put_all-clause-prefix : goal.returns-in_err-put_all-clause-prefix
returns-in_err-put_all-clause-prefix g c =
    at_err c.from_residual.result (rw c.head.ensures at (front_of _ _ c.head.result c.args.bytes.now c.in_err-put_all.ensures.prefix))

pub returns-clause-prefix : goal.returns-clause-prefix
returns-clause-prefix g c =
    on_err c.put_all-2.result c.put_all-2.ensures.prefix
    (λ begun. subst (λ (h : List ℕ). GrownByFront (g.O.Sink.bytes c.args.out.now) (g.O.Sink.bytes c.put_all-2.new.out) (h ++ c.args.bytes.now)) c.head.ensures
    (then_front _ _ _ c.head.result c.args.bytes.now c.in_ok-put_all.ensures.all begun))
