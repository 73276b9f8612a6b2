use Rattle.hg_flat.proofs.Steps.{was_entered, was_shown}
use Rattle.hg_flat.proofs.listing.kind_at.Goals as goal

pub returns-then-was_entered-clause-was : goal.returns-then-was_entered-clause-was
returns-then-was_entered-clause-was g c = λ start are told.
    was_entered (g.K.Entries.known c.args.entries.now) (g.T.Tree.history c.args.tree.now) start are told c.args.path.text.now c.as_str.result.now c.as_str.ensures (c.was_entered.ensures c.if-was_entered.true)

pub returns-clause-was : goal.returns-clause-was
returns-clause-was g c = λ start are told.
    was_shown (g.T.Tree.history c.args.tree.now) (g.T.Tree.history c.stat.new.self) c.stat.ensures.passes.past start are.begun c.args.path.text.now c.in_ok-found.found c.kind_of_stat.result
    c.kind_of_stat.ensures (c.in_ok-found.ensures.found told)
