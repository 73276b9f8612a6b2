use Rattle.std.proofs.Common.{rules, None, Some}
use Rattle.hg_server.proofs.Nuls.{last_words, more_words, nul_parts}
use Rattle.hg_server.proofs.words.words_of.Goals as goal

pub loop-word-preserved : goal.loop-word-preserved
loop-word-preserved c =
    let cut = nul_parts c.loop-word.rest.now (Some (c.in-Some.word, c.in-Some.behind)) c.in-Some.ensures.cases in
    (search rules, more_words c.loop-word.words c.push.new.self c.loop-word.rest.now c.in-Some.word.now c.in-Some.behind.now _ _ c.in_ok-push.ensures.ok c.in_ok-of.ensures cut.0 c.loop-word.invariant.1)

pub returns : goal.returns
returns c =
    let cut = nul_parts c.loop-word.rest.now None (rw c.in_default.is at c.split_once.ensures.cases) in
    last_words c.loop-word.words c.push-2.new.self c.loop-word.rest.now _ c.args.text.now c.in_ok-push-2.ensures.ok c.in_ok-of-2.ensures cut c.loop-word.invariant.1 (search rules)
