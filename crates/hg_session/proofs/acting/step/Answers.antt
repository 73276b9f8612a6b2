-- A step keeps the texts that both tables have.
use Rattle.hg_session.proofs.KeptTexts.{add_texts, forget_texts}
use Rattle.hg_session.proofs.acting.step.Goals as goal

pub returns-in-Add-clause-texts : goal.returns-in-Add-clause-texts
returns-in-Add-clause-texts g c = add_texts c.add.result c.args.mixed.now c.add.new.mixed c.add.ensures.places

pub returns-in-Forget-clause-texts : goal.returns-in-Forget-clause-texts
returns-in-Forget-clause-texts g c = forget_texts c.args.word.now c.forget.result c.args.mixed.now c.forget.new.mixed c.forget.ensures.stepped c.forget.ensures.places
