use Rattle.std.proofs.Common.{ℕ, ◌≡◌, List, ◌++◌, subst, rules}
use Rattle.std.specs.Int.{w32, to_be_bytes}
use Rattle.hg_stream.proofs.Grown.{grown_twice}
use Rattle.hg_stream.specs.Stream.{GrownByFront}
use Rattle.hg_server.proofs.Putting.{at_err, front_of, on_err, then_front}
use Rattle.hg_server.specs.Protocol.{message, messages}
use Rattle.hg_server.proofs.messages.put_answer.Goals as goal

pub returns-in_err-put_text-clause-prefix : goal.returns-in_err-put_text-clause-prefix
returns-in_err-put_text-clause-prefix g c =
    at_err c.from_residual.result (front_of _ _ (messages 111 c.args.printed.now ++ messages 101 c.args.told.now) (message 114 (to_be_bytes w32 c.args.status))
    (front_of _ _ (messages 111 c.args.printed.now) (messages 101 c.args.told.now) c.in_err-put_text.ensures.prefix))

pub returns-in_err-put_text-2-clause-prefix : goal.returns-in_err-put_text-2-clause-prefix
returns-in_err-put_text-2-clause-prefix g c =
    at_err c.from_residual-in_err-put_text-2.result (front_of _ _ (messages 111 c.args.printed.now ++ messages 101 c.args.told.now) (message 114 (to_be_bytes w32 c.args.status))
    (then_front _ _ _ (messages 111 c.args.printed.now) (messages 101 c.args.told.now) c.in_ok-put_text.ensures.all c.in_err-put_text-2.ensures.prefix))

pub returns-clause-prefix : goal.returns-clause-prefix
returns-clause-prefix g c =
    on_err c.put_message.result c.put_message.ensures.prefix
    (λ begun. let bytes : c.to_be_bytes.result ≡ to_be_bytes w32 c.args.status = search rules in
    subst (λ (b : List ℕ). GrownByFront (g.O.Sink.bytes c.args.out.now) (g.O.Sink.bytes c.put_message.new.out) (messages 111 c.args.printed.now ++ messages 101 c.args.told.now ++ message 114 b)) bytes
    (then_front _ _ _ (messages 111 c.args.printed.now ++ messages 101 c.args.told.now) (message 114 c.to_be_bytes.result)
    (grown_twice _ _ _ (messages 111 c.args.printed.now) (messages 101 c.args.told.now) c.in_ok-put_text.ensures.all c.in_ok-put_text-2.ensures.all) begun))
