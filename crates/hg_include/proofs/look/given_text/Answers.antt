use Rattle.std.proofs.Common.{◌≡◌, sym, ap, ◌∙◌, rules, IsUtf8}
use Rattle.hg_include.specs.declared.fault.Bad.TheVariants as a_bad
use Rattle.hg_include.specs.declared.look.Given.TheVariants as given
use Rattle.hg_include.proofs.Looks.{text_given, refused_given}
use Rattle.hg_include.proofs.look.given_text.Goals as goal

pub returns-in-Err : goal.returns-in-Err
returns-in-Err c = ap (λ n. given.Refused (a_bad.Text n)) c.valid_up_to.ensures ∙ sym (refused_given c.args.bytes.now _ c.in-Err.ensures.cases.1)

pub returns-in_ok-text-in-Ok : goal.returns-in_ok-text-in-Ok
returns-in_ok-text-in-Ok c =
    let same : c.in-Ok.text.now ≡ c.args.bytes.now = search rules in
    let utf8 : IsUtf8 c.args.bytes.now = search rules in
    ap given.There (c.in_ok-text-in-Ok.ensures ∙ same) ∙ sym (text_given c.args.bytes.now utf8)
