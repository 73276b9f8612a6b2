use Rattle.std.proofs.Common.{◌≡◌, ◌++◌, ◌∷◌, [], ◌∙◌, ap, Some, sym}
use Rattle.hg_words.specs.Given.{files_of, spelled}
use Rattle.hg_words.proofs.Readings.{one_put}
use Rattle.hg_words.proofs.spelling.spelled.Goals as goal

pub loop-i-preserved : goal.loop-i-preserved
loop-i-preserved c =
    one_put (files_of c.args.command.now) c.loop-i.i c.as_str.result.now c.loop-i.all c.push-in-loop-i.new.self (spelled c.args.command.now)
    (rw c.files-i-end.ensures at c.loop-i-test.true) (c.file.ensures ∙ ap Some (sym c.as_str.ensures))
    (c.in_ok-push-4.ensures.ok ∙ ap (λ w. c.loop-i.all ++ w ∷ []) c.in_ok-of-4.ensures) c.loop-i.invariant
