use Rattle.std.proofs.Common.{◌∙◌, ◌++◌, ◌∷◌, List, ℕ, ap}
use Rattle.std.specs.Fmt.{decimal, styled_decimal}
use Rattle.hg_report.specs.Debug.{nine_digits}
use Rattle.hg_report.proofs.Recorded.{nine_padded}
use Rattle.hg_report.proofs.debug.stamp_text.Goals as goal

pub returns : goal.returns
returns c =
    c.in_ok-format.ensures.ok
    ∙ ap (λ (nanos : List ℕ). decimal c.args.time.seconds ++ 46 ∷ (nanos ++ c.doubt-end.result.now)) (ap (λ s. styled_decimal s c.args.time.nanos) c.laid_out.ensures ∙ nine_padded c.args.time.nanos)
    ∙ ap (λ (end : List ℕ). decimal c.args.time.seconds ++ 46 ∷ (nine_digits c.args.time.nanos ++ end)) c.doubt-end.ensures
