use Rattle.std.proofs.Common.{◌∙◌, ap}
use Rattle.std.specs.Option.{option_map}
use Rattle.hg_front.proofs.Told.{placed_files}
use Rattle.hg_front.proofs.placing.place_in.Goals as goal

pub returns-clause-ok : goal.returns-clause-ok
returns-clause-ok c =
    placed_files _ c.in-Some.folder.now c.args.words c.in_ok-words.words c.args.command c.in_ok-command.command (ap (option_map (λ f. f.now)) c.in-Some.is) c.requires
    (λ none. c.if-files-eq0.false (c.files.ensures ∙ none)) c.in_ok-command.ensures c.in_ok-words.ensures
