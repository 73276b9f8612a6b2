use Rattle.std.proofs.Common.{◌≡◌, ℕ, ◌+◌, List, ◌∙◌, sym, ap, subst}
use Rattle.std.specs.Str.{IsUtf8, is_utf8}
use Rattle.std.proofs.lemmas.Bool.{false_from_ne_true}
use Rattle.std.proofs.lemmas.Str.{IsUtf8-from_is_utf8, is_utf8-from_IsUtf8}
use Rattle.hg_lines.specs.Script.{IsLine, Reading}
use Rattle.hg_lines.proofs.lines.Lines.text.Goals as goal

pub returns-in_ok-of-in-Ok-clause-text : goal.returns-in_ok-of-in-Ok-clause-text
returns-in_ok-of-in-Ok-clause-text c =
    let same : c.as_slice.result.now ≡ c.args.self.now.line = c.as_slice.ensures.value ∙ ap (λ (r : Reading). r.line) c.self.view_is in
    (c.in_ok-of-in-Ok.ensures ∙ c.in-Ok.ensures.cases.0 ∙ same, is_utf8-from_IsUtf8 c.args.self.now.line (subst (λ (t : List ℕ). IsUtf8 t) same c.in-Ok.ensures.cases.1))

pub returns-in_ok-of-in-Ok-clause-fine : goal.returns-in_ok-of-in-Ok-clause-fine
returns-in_ok-of-in-Ok-clause-fine c =
    subst (λ (t : List ℕ). IsLine t) (sym (c.in_ok-of-in-Ok.ensures ∙ c.in-Ok.ensures.cases.0 ∙ c.as_slice.ensures.value))
    (record {
      whole = c.self.invariant.whole;
      short = c.self.invariant.short;
      text = is_utf8-from_IsUtf8 c.self.inside.line.items (subst (λ (t : List ℕ). IsUtf8 t) c.as_slice.ensures.value c.in-Ok.ensures.cases.1);
    })

pub returns-in-Err-clause-text : goal.returns-in-Err-clause-text
returns-in-Err-clause-text c =
    let same : c.as_slice.result.now ≡ c.args.self.now.line = c.as_slice.ensures.value ∙ ap (λ (r : Reading). r.line) c.self.view_is in (
      ap (λ (r : Reading). r.number + 1) c.self.view_is,
      false_from_ne_true (is_utf8 c.args.self.now.line) (λ yes. c.in-Err.ensures.cases.0 (subst (λ (t : List ℕ). IsUtf8 t) (sym same) (IsUtf8-from_is_utf8 c.args.self.now.line yes))),
    )
