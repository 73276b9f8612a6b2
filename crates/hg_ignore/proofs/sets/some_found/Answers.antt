use Rattle.std.proofs.Common.{◌∙◌, arith, map, sym}
use Rattle.std.proofs.lemmas.List.{length-map}
use Rattle.regex.specs.Strings.{set_matcher_patterns}
use Rattle.hg_ignore.proofs.Union.{found_there, none_in}
use Rattle.hg_ignore.proofs.sets.some_found.Goals as goal

pub returns-then-found_at-clause-found : goal.returns-then-found_at-clause-found
returns-then-found_at-clause-found c =
    found_there c.args.text.now (map set_matcher_patterns c.args.matchers.now.items) (map set_matcher_patterns c.loop-i.matchers.items) c.loop-i.i c.loop-i.invariant.same
    (omega (arith, length-map c.args.matchers.now.items set_matcher_patterns)) (sym c.if-found_at.true ∙ c.found_at.ensures.found)

pub returns-clause-found : goal.returns-clause-found
returns-clause-found c =
    none_in c.args.text.now (map set_matcher_patterns c.args.matchers.now.items) c.loop-i.i (omega (arith, length-map c.args.matchers.now.items set_matcher_patterns)) c.loop-i.invariant.none
