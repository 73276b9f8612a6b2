use Rattle.std.proofs.Common.{◌∙◌, sym, arith}
use Rattle.regex.specs.Strings.{set_matcher_patterns}
use Rattle.hg_ignore.proofs.Union.{found_is, set_at, sets_stay}
use Rattle.hg_ignore.proofs.sets.found_at.Goals as goal

pub returns-clause-found : goal.returns-clause-found
returns-clause-found c =
    found_is (set_matcher_patterns c.index_mut.result.now) c.args.text.now c.is_match.result c.is_match.ensures.found
    ∙ sym (set_at c.args.matchers.now.items c.args.i c.index_mut.result.now (omega arith) c.index_mut.ensures.value c.args.text.now)

pub returns-clause-same : goal.returns-clause-same
returns-clause-same c = sets_stay c.args.matchers.now.items c.args.i c.index_mut.result.now (omega arith) c.index_mut.ensures.value c.is_match.new.self c.is_match.ensures.same
