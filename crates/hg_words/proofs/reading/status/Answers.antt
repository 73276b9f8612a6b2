use Rattle.std.proofs.Common.{◌∙◌, ap, sym, Ok, Some, drop, length, map}
use Rattle.clap.specs.Words.{found_of, rows_of}
use Rattle.hg_words.specs.Command.{is_between}
use Rattle.hg_words.specs.declared.given.Command.TheVariants as a_command
use Rattle.hg_words.proofs.Telling.{gives_same, status_told}
use Rattle.hg_words.proofs.reading.status.Goals as goal

pub returns : goal.returns
returns c =
    let none = c.in_ok-wanted.ensures.ok in
    gives_same _ _ (status_told (drop 1 (map (λ word. word.now) c.args.words.now)) (rows_of (found_of c.in_ok-matches.matches)) c.in_ok-matches.ensures.ok
    (ap (λ l. is_between 0 (Some 0) (length l)) (sym none.0) ∙ none.1) ∙ ap (λ f. Ok (a_command.Status f)) (sym c.status_flags.ensures))
