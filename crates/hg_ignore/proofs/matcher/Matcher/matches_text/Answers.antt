use Rattle.hg_ignore.specs.Kept.{patterns_asked}
use Rattle.hg_ignore.proofs.Asking.{glob_decides, set_decides}
use Rattle.hg_syntax.proofs.Texts.{text_bytes}
use Rattle.hg_ignore.proofs.matcher.Matcher.matches_text.Goals as goal

pub returns-then-some_stands-clause-matches : goal.returns-then-some_stands-clause-matches
returns-then-some_stands-clause-matches c = glob_decides c.args.self.now.ignore.now c.args.path.now c.some_stands.result c.some_stands.ensures c.if-some_stands.true

pub returns-clause-matches : goal.returns-clause-matches
returns-clause-matches c =
    set_decides c.args.self.now.ignore.now (patterns_asked c.args.self.now.sets.items) c.args.path.now c.some_stands.result c.some_found.result c.args.self.now.finds (text_bytes c.args.path.now (λ k. (c.type_inv.path k).fits)) c.some_stands.ensures c.if-some_stands.false c.some_found.ensures.found
