use Rattle.std.proofs.Common.{◌∙◌}
use Rattle.std.proofs.lemmas.Result.{err_from_is_err_and}
use Rattle.hg_server.proofs.Chaining.{goes, unanswered, unread}
use Rattle.hg_server.proofs.server.serve.Goals as goal

pub returns-in_err-words-clause-serves : goal.returns-in_err-words-clause-serves
returns-in_err-words-clause-serves g c =
    let p = err_from_is_err_and c.from_residual.result c.from_residual.ensures.1 in
    rw (p.1, p.2)
    (unread g.R.Runner.step (g.I.Source.left c.args.input.now) (g.O.Sink.bytes c.args.out.now) c.args.runner.now c.loop-words.served (g.I.Source.left c.loop-words.input) (g.I.Source.left c.next.new.input)
    (g.O.Sink.bytes c.loop-words.out) c.loop-words.runner c.loop-words.invariant.going _ c.in_err-words.ensures.reads)

pub returns-in_err-respond-clause-serves : goal.returns-in_err-respond-clause-serves
returns-in_err-respond-clause-serves g c =
    let p = err_from_is_err_and c.from_residual-in_err-respond.result c.from_residual-in_err-respond.ensures.1 in
    rw (p.1, p.2)
    (unanswered g.R.Runner.step (g.I.Source.left c.args.input.now) (g.O.Sink.bytes c.args.out.now) c.args.runner.now c.loop-words.served (g.I.Source.left c.loop-words.input) (g.I.Source.left c.next.new.input)
    (g.O.Sink.bytes c.loop-words.out) c.loop-words.runner c.loop-words.invariant.going (g.O.Sink.bytes c.respond.new.out) c.respond.new.runner c.in-Some.words (rw c.in-Some.is at c.in_ok-words.ensures.reads) _
    c.in_err-respond.ensures.responds)

pub loop-words-preserved : goal.loop-words-preserved
loop-words-preserved g c = record {
  going =
      goes g.R.Runner.step (g.I.Source.left c.args.input.now) (g.O.Sink.bytes c.args.out.now) c.args.runner.now c.loop-words.served (g.I.Source.left c.loop-words.input) (g.I.Source.left c.next.new.input)
      (g.O.Sink.bytes c.loop-words.out) c.loop-words.runner c.loop-words.invariant.going (g.O.Sink.bytes c.respond.new.out) c.respond.new.runner c.in-Some.words (rw c.in-Some.is at c.in_ok-words.ensures.reads)
      c.in_ok-respond.ensures.responds;
  source = c.in_ok-words.ensures.cause.quiet (λ is. cc is) ∙ c.loop-words.invariant.source;
  sink = c.in_ok-respond.ensures.cause.quiet (λ is. cc is) ∙ c.loop-words.invariant.sink;
}
