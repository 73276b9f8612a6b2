-- The one copy: what it makes, and the line of a refusal.
use Rattle.std.proofs.Common.{sym, ◌∙◌}
use Rattle.hg_mixed.specs.Held.{table}
use Rattle.hg_session.proofs.CopyLines.{no_line}
use Rattle.hg_session.proofs.Doing.{puts_of}
use Rattle.hg_session.proofs.KeptLists.{copy_keeps}
use Rattle.hg_session.proofs.KeptTexts.{copied_texts}
use Rattle.hg_session.proofs.SoFar.{unmarked}
use Rattle.hg_session.proofs.copying.copy_one.Goals as goal

pub returns-clause-does : goal.returns-clause-does
returns-clause-does g c = λ unset. record {
  refused = c.in_ok-refused.refused;
  copies = c.in_ok-refused.ensures.stepped;
  text = c.in_ok-line.ensures.line;
  told = λ none. no_line c.args.source.now c.args.target.now c.in_ok-refused.refused (sym c.in_ok-line.ensures.line ∙ none);
  idle = λ same. c.in_ok-refused.ensures.changed.kept same ∙ unset;
  same = λ is. unmarked _ _ _ _ c.in_ok-refused.ensures.changed is;
}

pub returns-clause-lent : goal.returns-clause-lent
returns-clause-lent g c =
    copy_keeps c.args.source.now c.args.target.now _ _ c.args.mixed.now c.in_ok-refused.refused c.copy.new.mixed c.in_ok-refused.ensures.stepped c.in_ok-refused.ensures.lent
    (copied_texts c.args.source.now c.args.target.now c.in_ok-refused.refused c.args.mixed.now c.copy.new.mixed c.in_ok-refused.ensures.stepped.table c.in_ok-refused.ensures.places)

pub returns-in_err-refused-clause-puts : goal.returns-in_err-refused-clause-puts
returns-in_err-refused-clause-puts g c = puts_of c.args.source.now c.args.target.now (table c.args.mixed.now) c.copy.result _ c.copy.ensures.cause c.copy.ensures.worked

pub returns-in_err-line-clause-puts : goal.returns-in_err-line-clause-puts
returns-in_err-line-clause-puts g c = puts_of c.args.source.now c.args.target.now (table c.args.mixed.now) c.copy.result _ c.copy.ensures.cause c.copy.ensures.worked

pub returns-clause-puts : goal.returns-clause-puts
returns-clause-puts g c = puts_of c.args.source.now c.args.target.now (table c.args.mixed.now) c.copy.result _ c.copy.ensures.cause c.copy.ensures.worked
