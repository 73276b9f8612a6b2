use Rattle.std.proofs.Common.{sym, ◌∙◌, ◌∷◌, [], Some, ap, map, arith}
use Rattle.std.proofs.lemmas.List.{map-append}
use Rattle.hg_words.proofs.Readings.{all_texts, one_put, one_text}
use Rattle.hg_words.proofs.reading.texts.Goals as goal

pub loop-i-preserved : goal.loop-i-preserved
loop-i-preserved c =
    let is = c.at.ensures ∙ ap Some (sym c.as_str.ensures) in
    record {
      all = one_put c.args.words.now c.loop-i.i c.as_str.result.now (map (λ word. word.now) c.loop-i.all.items) _ c.args.words.now (rw c.len-i-end.ensures at c.loop-i-test.true) is
          (ap (map (λ word. word.now)) c.in_ok-push.ensures.items ∙ map-append (λ word. word.now) c.loop-i.all.items (c.as_str.result ∷ [])) c.loop-i.invariant.all;
      texts = one_text c.args.words.now c.loop-i.i c.as_str.result.now is c.as_str.utf8 c.loop-i.invariant.texts;
    }

pub returns-clause-texts : goal.returns-clause-texts
returns-clause-texts c = all_texts c.args.words.now (λ k below. c.loop-i.invariant.texts k (omega (arith, below, c.loop-i-test.false, c.len-i-end.ensures)))
