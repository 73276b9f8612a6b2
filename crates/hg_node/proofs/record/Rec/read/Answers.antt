use Rattle.std.proofs.Common.{ap, ◌∙◌}
use Rattle.hg_node.specs.Node.{bytes_of}
use Rattle.hg_node.proofs.Laws.{bytes_back}
use Rattle.hg_node.proofs.record.Rec.read.Goals as goal

pub returns-clause-back : goal.returns-clause-back
returns-clause-back c = ap bytes_of c.fields.ensures ∙ bytes_back c.args.bytes.now c.told-bytes c.fits-bytes
