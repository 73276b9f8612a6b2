use Rattle.std.proofs.Common.{◌≡◌, ◌++◌, ◌∷◌, [], ◌∙◌, ap, map, Some, sym}
use Rattle.hg_words.specs.Told.{from_folder}
use Rattle.hg_words.proofs.Commands.{one_on}
use Rattle.hg_words.proofs.spelling.told.Goals as goal

pub loop-i-preserved : goal.loop-i-preserved
loop-i-preserved c =
    one_on (from_folder c.args.folder.now) c.args.words.now c.loop-i.i c.as_str.result.now c.loop-i.all c.push.new.self (map (from_folder c.args.folder.now) c.args.words.now)
    (rw c.len-i-end.ensures at c.loop-i-test.true) (c.at.ensures ∙ ap Some (sym c.as_str.ensures))
    (c.in_ok-push.ensures.ok ∙ ap (λ w. c.loop-i.all ++ w ∷ []) c.in_ok-from_folder.ensures) c.loop-i.invariant
