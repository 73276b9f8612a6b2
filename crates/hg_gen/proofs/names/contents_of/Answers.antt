use Rattle.std.proofs.Common.{◌≡◌, ◌∙◌, ◌+◌, ◌-◌, ◌^◌, ◌++◌, ℕ, List, [], length, ap, arith, append-nil}
use Rattle.std.specs.Fmt.{char_count, decimal, format_spec, padded_integral, styled_decimal}
use Rattle.std.specs.Prelude.{replicate}
use Rattle.hg_gen.specs.Copy.{forty_digits}
use Rattle.hg_gen.proofs.names.contents_of.Goals as goal

forty_padded : (n : ℕ) → styled_decimal (format_spec 32 0 4 40 (2 ^ 64 - 1)) n ≡ forty_digits n
unfolding padded_integral char_count
forty_padded n =
    let e : 40 - length (decimal n) - 0 - 0 ≡ 40 - length (decimal n) = omega arith in
    ap (λ (k : ℕ). replicate k 48 ++ (decimal n ++ [])) e ∙ ap (λ (l : List ℕ). replicate (40 - length (decimal n)) 48 ++ l) (append-nil (decimal n))

pub returns : goal.returns
returns c = c.in_ok-format.ensures.ok ∙ ap (λ s. styled_decimal s (c.args.file + 1)) c.laid_out.ensures ∙ forty_padded (c.args.file + 1)
