use Rattle.std.proofs.Common.{sym, ◌∙◌}
use Rattle.hg_walk.proofs.Rows.{entry_at, no_entry}
use Rattle.hg_walk.proofs.keeper.KeeperEntries.has.Goals as goal

pub returns-in_default : goal.returns-in_default
returns-in_default c = sym (no_entry c.args.self.now.children.items c.args.path.now (c.find.ensures.none c.in_default.is))

pub returns : goal.returns
returns c =
    c.is_some.ensures
    ∙ entry_at c.args.self.now.children.items c.args.self.now.own c.args.path.now c.in-Some.at c.index.result.now c.in-Some.ensures.found c.index.ensures
