use Rattle.std.proofs.Common.{◌∙◌, ◌++◌, sym, ap, rules, lit<, IsUtf8, string_bytes}
use Rattle.hg_syntax.proofs.Texts.{kept_comment, kept_escaped, kept_plain, put_more}
use Rattle.hg_syntax.proofs.text.uncommented.Goals as goal

pub returns-in-None : goal.returns-in-None
returns-in-None c =
    c.in_ok-push_str-in-None.ensures.bytes
    ∙ ap (λ v. string_bytes c.loop-front.text ++ v) (sym (kept_comment c.loop-front.left.now c.in-Some.front.now c.in-Some.behind.now c.in-Some.ensures.0 c.in-Some.ensures.1 (sym c.in-None.ensures)))
    ∙ c.loop-front.invariant.1

pub loop-front-preserved : goal.loop-front-preserved
loop-front-preserved c =
    let text : IsUtf8 c.in-Some.behind.now = search rules in (
      text,
      put_more (string_bytes c.loop-front.text) c.in-Some-escaped.front.now _ _ _ (string_bytes c.push_str-in-Some-escaped.new.self) _ c.in_ok-push_str-in-Some-escaped.ensures.bytes (c.in_ok-push-in-Some-escaped.ensures.bytes ∙ ap (λ v. string_bytes c.push_str-in-Some-escaped.new.self ++ v) (c.in_ok-push-in-Some-escaped.ensures.ascii (lit< tt)))
          (kept_escaped c.loop-front.left.now c.in-Some.front.now c.in-Some.behind.now c.in-Some-escaped.front.now c.in-Some.ensures.0 c.in-Some.ensures.1 (sym c.in-Some-escaped.ensures)) c.loop-front.invariant.1,
    )

pub returns : goal.returns
returns c =
    c.in_ok-push_str.ensures.bytes ∙ ap (λ v. string_bytes c.loop-front.text ++ v) (sym (kept_plain c.loop-front.left.now (search rules))) ∙ c.loop-front.invariant.1
