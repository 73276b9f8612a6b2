use Rattle.hg_store.proofs.settling.refuse.Goals as goal

pub returns-clause-cleared : goal.returns-clause-cleared
returns-clause-cleared g c = λ alone. (c.in_ok-clear.ensures.cleared alone).shown
