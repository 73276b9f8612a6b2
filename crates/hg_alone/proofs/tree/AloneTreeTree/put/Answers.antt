use Rattle.hg_alone.proofs.Since.{extends, formed, owned, puts}
use Rattle.hg_tree.specs.Memory.{own_put}
use Rattle.hg_alone.proofs.tree.AloneTreeTree.put.Goals as goal

pub returns-clause-past : goal.returns-clause-past
returns-clause-past c =
    let steps = owned c.args.self.now.tree c.args.self.now.alone c.put.new.self (own_put c.args.kind c.args.exec c.args.place c.args.bytes.now c.args.path.text.now) c.put.result c.put.ensures.state in
    extends c.args.self.now.tree c.put.new.self steps.same c.put.ensures.past

pub returns-clause-done : goal.returns-clause-done
returns-clause-done c =
    λ told. puts c.args.self.now.tree c.args.self.now.alone c.put.new.self (own_put c.args.kind c.args.exec c.args.place c.args.bytes.now c.args.path.text.now) c.args.kind c.args.exec c.args.place
    c.args.bytes.now c.args.path.text.now c.put.result c.put.ensures.state c.put.ensures.done

pub returns-clause-formed : goal.returns-clause-formed
returns-clause-formed c = λ told. formed c.put.new.self c.put.ensures.formed
