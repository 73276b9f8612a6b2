use Rattle.std.proofs.Common.{option_map, rules, sym, ◌∙◌}
use Rattle.hg_base.specs.PathText.{joined}
use Rattle.hg_walk.proofs.Rows.{entry_at, passed_at}
use Rattle.hg_walk.proofs.keeper.KeeperEntries.was_passed.Goals as goal

pub returns-clause-passed : goal.returns-clause-passed
returns-clause-passed c = λ is.
    passed_at c.args.self.now.children.items c.args.self.now.marks.items (joined (option_map (λ d. d.text.now) c.args.dir) c.args.name.now) c.in-Some.at c.index.result.now c.index-else-at-len.result.now c.in-Some.ensures.within (search rules)
    (c.in-Some.ensures.is c.index.result.now) (search rules)

pub returns-clause-kept : goal.returns-clause-kept
returns-clause-kept c = λ is.
    sym (entry_at c.args.self.now.children.items c.args.self.now.own (joined (option_map (λ d. d.text.now) c.args.dir) c.args.name.now) c.in-Some.at c.index.result.now c.in-Some.ensures c.index.ensures)
    ∙ search rules
