use Rattle.std.proofs.Common.{◌≡◌, ap, sym, subst, ◌∙◌, Option}
use Rattle.std.specs.Prelude.{IfOk}
use Rattle.hg_syntax.specs.Text.{cut_at, text_of}
use Rattle.hg_syntax.proofs.Texts.{cut_is_none, cut_is_some}
use Rattle.hg_include.specs.Line.{cut_says, form_says, line_says}
use Rattle.hg_include.specs.declared.line.Says.{Says}
use Rattle.hg_include.proofs.line.line_says.Goals as goal

pub returns-in-None : goal.returns-in-None
returns-in-None c =
    let t : c.as_str.result.now ≡ text_of c.args.line.now = c.as_str.ensures.value ∙ c.in_ok-text.ensures in
    sym (ap (λ v. cut_says (cut_at 58 v)) (sym t) ∙ ap cut_says (cut_is_none 58 c.as_str.result.now c.in-None.ensures))

pub returns : goal.returns
returns c =
    let t : c.as_str.result.now ≡ text_of c.args.line.now = c.as_str.ensures.value ∙ c.in_ok-text.ensures in
    let e : line_says c.args.line.now ≡ form_says c.in-Some.rest.now c.form_of.result =
    ap (λ v. cut_says (cut_at 58 v)) (sym t) ∙ ap cut_says (cut_is_some 58 c.as_str.result.now c.in-Some.word.now c.in-Some.rest.now c.in-Some.ensures.0 c.in-Some.ensures.1)
    ∙ ap (form_says c.in-Some.rest.now) (sym c.form_of.ensures) in
    let P : Option Says → Type 0 = λ o. IfOk c.form_says.result (λ says. says ≡ o) in
    subst P (sym e) c.form_says.ensures
