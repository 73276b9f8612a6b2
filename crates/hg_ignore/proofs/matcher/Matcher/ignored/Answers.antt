use Rattle.std.proofs.Common.{sym, subst, refl, List, ◌∙◌}
use Rattle.std.proofs.lemmas.Bool.{false≢true}
use Rattle.hg_ignore.specs.State.{Piece, Matches}
use Rattle.hg_ignore.proofs.Asking.{asks_more, asks_last, no_match}
use Rattle.hg_ignore.proofs.matcher.Matcher.ignored.Goals as goal

pub returns-in-None-clause-ignored : goal.returns-in-None-clause-ignored
returns-in-None-clause-ignored c =
    let kept = c.loop-left.invariant in
    let none = no_match c.args.self.now.ignore.now c.loop-left.self.ignore.now c.loop-left.left.text.now c.matches.result kept.same c.matches.ensures.matches c.if-matches.false in (
      λ e. absurd (false≢true e),
      λ i. absurd (asks_last c.args.self.now.ignore.now c.args.path.text.now c.loop-left.left.text.now c.loop-left.left.is_path (sym c.in-None.ensures.parent) none kept.asks i),
    )

pub loop-left-preserved : goal.loop-left-preserved
loop-left-preserved c =
    let kept = c.loop-left.invariant in
    let none = no_match c.args.self.now.ignore.now c.loop-left.self.ignore.now c.loop-left.left.text.now c.matches.result kept.same c.matches.ensures.matches c.if-matches.false in
    record {
      asks = asks_more c.args.self.now.ignore.now c.args.path.text.now c.loop-left.left.text.now c.in-Some.dir.text.now c.loop-left.left.is_path (sym c.in-Some.ensures.parent) none kept.asks;
      same = c.matches.ensures.same ∙ kept.same;
    }

pub returns-then-matches-clause-ignored : goal.returns-then-matches-clause-ignored
returns-then-matches-clause-ignored c =
    let kept = c.loop-left.invariant in
    let P : List Piece → Type 0 = λ v. Matches v c.loop-left.left.text.now in
    (λ _. (c.loop-left.left.text.now, kept.asks.within, subst P kept.same (c.matches.ensures.matches.0 c.if-matches.true)), λ _. refl)
