use Rattle.std.proofs.Common.{◌∙◌, ap, map}
use Rattle.clap.specs.Words.{is_simple_and_free}
use Rattle.hg_words.specs.Clapped.{flags_in}
use Rattle.hg_words.proofs.Answering.{taken, turned_down}
use Rattle.hg_words.proofs.Building.{simple_app}
use Rattle.hg_words.proofs.forms.parted.Goals as goal

pub returns-in-Ok-clause-ok : goal.returns-in-Ok-clause-ok
returns-in-Ok-clause-ok c =
    taken c.args.name.now (flags_in c.args.flags.now) c.requires.good _ c.in_ok-command.ensures.ok (map (λ word. word.now) c.args.words.now) c.requires.texts _
    (c.in-Ok.ensures.kinds (ap is_simple_and_free c.in_ok-command.ensures.ok ∙ simple_app c.args.name.now (flags_in c.args.flags.now))) (simple_app c.args.name.now (flags_in c.args.flags.now)) (λ is. (c.in-Ok.ensures.matches is).0)

pub returns-in-Err-clause-err : goal.returns-in-Err-clause-err
returns-in-Err-clause-err c =
    turned_down c.args.name.now (flags_in c.args.flags.now) c.requires.good _ c.in_ok-command.ensures.ok (map (λ word. word.now) c.args.words.now) c.requires.texts c.in-Err.error _
    (c.in-Err.ensures.kinds (ap is_simple_and_free c.in_ok-command.ensures.ok ∙ simple_app c.args.name.now (flags_in c.args.flags.now))) c.refused.ensures
