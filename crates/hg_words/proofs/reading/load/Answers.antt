use Rattle.std.proofs.Common.{◌∙◌, ap, sym, Some, drop, map}
use Rattle.hg_words.proofs.Telling.{gives_same, load_told}
use Rattle.hg_words.proofs.reading.load.Goals as goal

pub returns : goal.returns
returns c =
    let h = c.in_ok-words.ensures.ok in
    gives_same _ _ (load_told (drop 1 (map (λ word. word.now) c.args.words.now)) c.in_ok-words.words h.0 c.as_str.result.now h.1 h.2 h.3 (c.at.ensures ∙ ap Some (sym c.as_str.ensures)) ∙ sym c.number.ensures)
