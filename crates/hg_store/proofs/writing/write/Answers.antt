use Rattle.std.proofs.Common.{ap}
use Rattle.hg_shelf.specs.Rules.{content}
use Rattle.hg_store.proofs.Leading.{on_ok}
use Rattle.hg_store.proofs.Laying.{write_leads, wrote_there}
use Rattle.hg_store.proofs.writing.write.Goals as goal

pub returns-clause-proceeds : goal.returns-clause-proceeds
returns-clause-proceeds g c = record { goes = c.write_at.ensures.kept; ours = c.write_at.ensures.ours; locks = c.write_at.ensures.unasked.locks }

pub returns-clause-leads : goal.returns-clause-leads
returns-clause-leads g c = λ alone. write_leads c.args.place c.args.piece.now _ _ alone (returns-clause-proceeds g c) c.write_at.result (c.write_at.ensures.written alone.calm.told) (c.write_at.ensures.torn alone.calm.told)

pub returns-clause-there : goal.returns-clause-there
returns-clause-there g c = λ text alone laid at. on_ok c.write_at.result (λ own. wrote_there c.args.place c.args.piece.now text _ _ alone (returns-clause-proceeds g c) own laid at) (c.write_at.ensures.written alone.calm.told)

pub returns-clause-laid : goal.returns-clause-laid
returns-clause-laid g c = λ text alone laid at. on_ok c.write_at.result (λ there. ap content there) (returns-clause-there g c text alone laid at)
