use Rattle.std.proofs.Common.{◌≡◌, ap, ◌∙◌, arith}
use Rattle.std.proofs.lemmas.Grind.{common_steps}
use Rattle.hg_node.specs.Node.{rec_of, bytes_of}
use Rattle.hg_node.proofs.Laws.{rec_back}
use Rattle.hg_node.proofs.record.Rec.write.Goals as goal

pub returns-clause-back : goal.returns-clause-back
returns-clause-back c =
    let same : c.put_facts.new.bytes ≡ bytes_of c.args.self.now = grind (arith, common_steps) in
    ap rec_of same ∙ rec_back c.args.self.now c.put_texts-at.ensures.sized c.put_facts.ensures.sized
