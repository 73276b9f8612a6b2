use Rattle.std.proofs.Common.{ap, refl, rules, sym, ◌∙◌}
use Rattle.hg_walk.specs.Marks.{stands}
use Rattle.hg_walk.proofs.Rows.{entered_at}
use Rattle.hg_walk.proofs.keeper.KeeperEntries.was_entered.Goals as goal

pub returns-then-stands : goal.returns-then-stands
returns-then-stands c = λ is.
    entered_at c.args.self.now.children.items c.args.self.now.marks.items c.args.path.now c.loop-at.at c.index.result.now (search rules)
    (c.if-not-is_below_at.ensures refl) (ap stands (sym c.index.ensures) ∙ sym c.if-stands.ensures)
