use Rattle.std.proofs.Common.{sym, ◌∙◌, ap, chars, encode_utf8_all, [], subst, ◌≤◌, length, List, ℕ}
use Rattle.hg_glob.specs.Part.{parts_of, head_of, tail_from}
use Rattle.hg_glob.proofs.glob.Glob.of.Goals as goal

pub invariant_of-result : goal.invariant_of-result
invariant_of-result c = record {
  few = let P : List ℕ → Type 0 = λ t. length t ≤ 4095 in subst P (sym c.in_ok-text.ensures.ok) c.requires.few;
  parts_are = c.requires.parts ∙ ap (λ t. parts_of (chars t)) (sym c.in_ok-text.ensures.ok);
  head_is = c.in_ok-head.ensures ∙ ap (λ ps. encode_utf8_all (head_of ps)) c.as_slice.ensures.value;
  tail_is = c.in_ok-tail.ensures ∙ ap (λ ps. encode_utf8_all (tail_from [] ps)) c.as_slice-2.ensures.value;
}
