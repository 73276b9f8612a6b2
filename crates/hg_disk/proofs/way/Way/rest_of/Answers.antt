use Rattle.std.proofs.Common.{rules, sym, ◌∙◌}
use Rattle.hg_disk.proofs.Ways.{left_here}
use Rattle.hg_disk.proofs.way.Way.rest_of.Goals as goal

pub returns-then-is_empty : goal.returns-then-is_empty
returns-then-is_empty c = left_here c.args.self.now.text.items c.args.dir.now c.in_ok-front.front.now c.in_ok-front.rest.now (search rules) (search rules) (sym c.is_empty.ensures ∙ c.if-is_empty.true)
