use Rattle.std.proofs.Common.{◌<◌, ◌∙◌, length, rules}
use Rattle.hg_server.proofs.Putting.{at_err, part_begun, part_put}
use Rattle.hg_server.proofs.Cutting.{cut_at}
use Rattle.hg_server.specs.Protocol.{message, messages}
use Rattle.hg_server.proofs.messages.put_text.Goals as goal

pub returns-in_err-put_message-clause-prefix : goal.returns-in_err-put_message-clause-prefix
returns-in_err-put_message-clause-prefix g c =
    let some : 0 < length c.loop-rest.rest.now = search rules in
    let cut = cut_at c.args.channel c.min.result c.loop-rest.rest.now c.split_at.result.0.now c.split_at.result.1.now some (search rules) c.split_at.ensures.front c.split_at.ensures.back in
    at_err c.from_residual.result (part_begun _ _ _ (messages c.args.channel c.args.text.now) (message c.args.channel c.split_at.result.0.now) (messages c.args.channel c.split_at.result.1.now)
    (rw cut at c.loop-rest.invariant.put) c.in_err-put_message.ensures.prefix)

pub loop-rest-preserved : goal.loop-rest-preserved
loop-rest-preserved g c =
    let some : 0 < length c.loop-rest.rest.now = search rules in
    let cut = cut_at c.args.channel c.min.result c.loop-rest.rest.now c.split_at.result.0.now c.split_at.result.1.now some (search rules) c.split_at.ensures.front c.split_at.ensures.back in
    record {
      put = part_put _ _ _ (messages c.args.channel c.args.text.now) (message c.args.channel c.split_at.result.0.now) (messages c.args.channel c.split_at.result.1.now)
          (rw cut at c.loop-rest.invariant.put) c.in_ok-put_message.ensures.all;
      quiet = c.in_ok-put_message.ensures.cause.quiet ∙ c.loop-rest.invariant.quiet;
    }
