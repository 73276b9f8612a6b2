use Rattle.std.proofs.Common.{refl}
use Rattle.hg_ignore.proofs.Lines.{taken_regexp}
use Rattle.hg_ignore.proofs.reading.Reading.take_regexp.Goals as goal

pub returns-in_ok-push-in-Ok-clause-taken : goal.returns-in_ok-push-in-Ok-clause-taken
returns-in_ok-push-in-Ok-clause-taken g c =
    taken_regexp c.args.n c.args.text.now c.args.self.now _ c.in-Ok.regex c.in_ok-push-in-Ok.ensures.items refl refl refl c.in-Ok.ensures.built
