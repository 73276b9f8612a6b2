use Rattle.std.proofs.Common.{◌<◌, subst, sym}
use Rattle.hg_image.specs.View.{dir_of}
use Rattle.hg_mixed.specs.Own.{InMemory}
use Rattle.hg_nodes.specs.Node.{IsThere}
use Rattle.hg_mixed.proofs.own.Own.add_kids.Goals as goal

pub add_nodes-requires : goal.add_nodes-requires
add_nodes-requires c = subst (λ (m : InMemory). 0 < c.args.list.count → IsThere m.rows (dir_of c.args.list)) (sym c.self.view_is) c.requires
