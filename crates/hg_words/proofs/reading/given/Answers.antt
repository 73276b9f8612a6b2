use Rattle.std.proofs.Common.{◌∙◌}
use Rattle.clap.specs.Words.{found_of}
use Rattle.hg_words.proofs.Readings.{all_put, given_none, given_some}
use Rattle.hg_words.proofs.reading.given.Goals.{in-Some+else-loop-i-test, in_default}
use Rattle.hg_words.proofs.reading.given.Goals as goal

pub returns-clause-ok : goal.returns-clause-ok
returns-clause-ok c = elim c.match-get_raw.branch [
  | in-Some+else-loop-i-test w ↦
      w.all-is ∙ all_put _ _ w.loop-i.i _ _ w.loop-i.invariant w.loop-i-test.false ∙ given_some (found_of c.args.matches.now) _ w.in-Some.ensures
  | in_default w ↦ w.all-is ∙ c.new-all.ensures ∙ given_none (found_of c.args.matches.now) w.in_default.ensures
]
