use Rattle.std.proofs.Common.{subst, sym}
use Rattle.hg_base.specs.PathText.{parent_of}
use Rattle.hg_nodes.specs.Memory.{MemoryData}
use Rattle.hg_nodes.specs.Node.{IsThere}
use Rattle.hg_nodes.proofs.memory.Memory.add.Goals as goal

pub add_to-requires-clause-dir : goal.add_to-requires-clause-dir
add_to-requires-clause-dir c = subst (λ (m : MemoryData). IsThere m.rows (parent_of c.args.own.path.text.now)) (sym c.self.view_is) c.requires.dir
