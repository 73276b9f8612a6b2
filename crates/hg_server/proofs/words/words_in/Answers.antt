use Rattle.std.proofs.Common.{refl, ap, ◌∙◌}
use Rattle.std.specs.Str.{is_utf8}
use Rattle.std.proofs.lemmas.Bool.{false_from_ne_true}
use Rattle.std.proofs.lemmas.Result.{err_from_is_err_and}
use Rattle.std.proofs.lemmas.Str.{IsUtf8-from_is_utf8, is_utf8-from_IsUtf8}
use Rattle.hg_server.specs.Protocol as protocol
use Rattle.hg_server.proofs.words.words_in.Goals as goal

pub returns-in_err-words_of-in-Ok : goal.returns-in_err-words_of-in-Ok
returns-in_err-words_of-in-Ok c =
    let p = err_from_is_err_and c.from_residual.result c.from_residual.ensures.1 in
    rw (p.1, p.2) (is_utf8-from_IsUtf8 c.args.bytes.now c.in-Ok.ensures.cases.1)

pub returns-in_ok-words_of-in-Ok : goal.returns-in_ok-words_of-in-Ok
returns-in_ok-words_of-in-Ok c =
    (c.in_ok-words_of-in-Ok.ensures ∙ ap protocol.words_of c.in-Ok.ensures.cases.0, is_utf8-from_IsUtf8 c.args.bytes.now c.in-Ok.ensures.cases.1)

pub returns-in-Err : goal.returns-in-Err
returns-in-Err c = (refl, false_from_ne_true (is_utf8 c.args.bytes.now) (λ yes. c.in-Err.ensures.cases.0 (IsUtf8-from_is_utf8 c.args.bytes.now yes)))
