-- The lines of a text, taken one after another.
use Rattle.std.proofs.Common.{◌≡◌, ℕ, ◌+◌, false, List, ◌∷◌, ◌++◌, sym, ap, ◌∙◌, append_assoc, append-nil}
use Rattle.hg_syntax.specs.Text.{has, pieces}
use Rattle.hg_syntax.proofs.Texts.{cut_pieces, plain_pieces}
use Rattle.hg_include.specs.Line.{line_says, lines_from, numbered}
use Rattle.hg_include.specs.declared.line.Line.{Line}

pub taken_more : (all so more : List Line) (n : ℕ) (text line rest : List ℕ) → text ≡ line ++ 10 ∷ rest → has 10 line ≡ false
    → so ++ lines_from n (pieces 10 text) ≡ all → more ≡ so ++ numbered n (line_says line) → more ++ lines_from (n + 1) (pieces 10 rest) ≡ all
taken_more all so more n text line rest e plain kept is =
    ap (λ v. v ++ lines_from (n + 1) (pieces 10 rest)) is ∙ append_assoc so (numbered n (line_says line)) (lines_from (n + 1) (pieces 10 rest))
    ∙ sym (ap (λ v. so ++ lines_from n v) (cut_pieces 10 text line rest e plain)) ∙ kept

pub taken_last : (all so more : List Line) (n : ℕ) (text : List ℕ) → has 10 text ≡ false
    → so ++ lines_from n (pieces 10 text) ≡ all → more ≡ so ++ numbered n (line_says text) → more ≡ all
taken_last all so more n text plain kept is =
    is ∙ sym (ap (λ v. so ++ v) (append-nil (numbered n (line_says text)))) ∙ sym (ap (λ v. so ++ lines_from n v) (plain_pieces 10 text plain)) ∙ kept
