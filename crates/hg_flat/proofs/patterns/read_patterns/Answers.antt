use Rattle.std.proofs.Common.{sym, ◌∙◌}
use Rattle.std.proofs.lemmas.Result.{err_from_is_err_and}
use Rattle.hg_flat.proofs.Calls.{asks_read}
use Rattle.hg_flat.proofs.Refusing.{lacks}
use Rattle.hg_flat.proofs.patterns.read_patterns.Goals as goal

pub returns-then-not-needs_patterns-clause-kept : goal.returns-then-not-needs_patterns-clause-kept
returns-then-not-needs_patterns-clause-kept g c = sym c.needs_patterns.ensures ∙ c.if-not-needs_patterns.true

pub returns-in_err-ignore-clause-met : goal.returns-in_err-ignore-clause-met
returns-in_err-ignore-clause-met g c =
    let p = err_from_is_err_and c.from_residual.result c.from_residual.ensures.1 in
    rw (p.1, p.2)
    (lacks (g.T.Tree.history c.args.tree.now) (g.T.Tree.history c.read.new.tree) c.read.ensures.passes.past.later c.in_err-ignore.field-0.0 c.in_err-ignore.ensures.cause c.in_err-ignore.ensures.over)

pub returns-in_err-ignore-clause-asked : goal.returns-in_err-ignore-clause-asked
returns-in_err-ignore-clause-asked g c = λ told.
    asks_read c.args.wanted (g.T.Tree.history c.args.tree.now) (g.T.Tree.history c.read.new.tree) (sym c.needs_patterns.ensures ∙ c.if-not-needs_patterns.false) (c.read.ensures.asked told)

pub returns-clause-kept : goal.returns-clause-kept
returns-clause-kept g c = (
  sym c.needs_patterns.ensures ∙ c.if-not-needs_patterns.false,
  record {
    given = c.in_ok-ignore.ensures.state;
    still = c.in_ok-ignore.ensures.still;
    fine = record { texts = c.in_ok-ignore.ensures.texts; lines = c.in_ok-ignore.ensures.faultless };
  },
)

pub returns-clause-asked : goal.returns-clause-asked
returns-clause-asked g c = λ told.
    asks_read c.args.wanted (g.T.Tree.history c.args.tree.now) (g.T.Tree.history c.read.new.tree) (sym c.needs_patterns.ensures ∙ c.if-not-needs_patterns.false) (c.read.ensures.asked told)
