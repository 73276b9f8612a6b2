use Rattle.hg_alone.proofs.Since.{extends, formed, owned, unlinks}
use Rattle.hg_tree.specs.declared.asked.Own.TheVariants as an_own
use Rattle.hg_alone.proofs.tree.AloneTreeTree.unlink.Goals as goal

pub returns-clause-past : goal.returns-clause-past
returns-clause-past c =
    let steps = owned c.args.self.now.tree c.args.self.now.alone c.unlink.new.self (an_own.Unlink c.args.path.text.now) c.unlink.result c.unlink.ensures.state in
    extends c.args.self.now.tree c.unlink.new.self steps.same c.unlink.ensures.past

pub returns-clause-done : goal.returns-clause-done
returns-clause-done c =
    λ told. unlinks c.args.self.now.tree c.args.self.now.alone c.unlink.new.self (an_own.Unlink c.args.path.text.now) c.args.path.text.now c.unlink.result c.unlink.ensures.state
    c.unlink.ensures.done

pub returns-clause-formed : goal.returns-clause-formed
returns-clause-formed c = λ told. formed c.unlink.new.self c.unlink.ensures.formed
