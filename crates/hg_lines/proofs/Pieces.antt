-- A buffer whose first bytes are used up, and where a line ends in it.
use Rattle.std.proofs.Common.{◌≡◌, ℕ, ◌+◌, ◌-◌, ◌<◌, ◌≤◌, false, List, length, take, drop, Some, None, sym, ap, ◌∙◌, arith}
use Rattle.std.proofs.lemmas.Bool.{false_from_ne_true}
use Rattle.std.proofs.lemmas.List.{drop-drop, drop-take, get_or-take, length-take, take_all}
use Rattle.std.proofs.lemmas.List.Elements.{All-from_get_or}
use Rattle.std.proofs.lemmas.List.Folds.{list_any_none}
use Rattle.memchr.specs.Find.{IsFirstByte, is_byte}
use Rattle.hg_lines.specs.Script.{has_end, is_end}

pub advanced : (at end n : ℕ) (room now : List ℕ) → take (end - at) (drop at room) ≡ now → n ≤ length now → at ≤ end → end ≤ length room → take (end - (at + n)) (drop (at + n) room) ≡ drop n now
advanced at end n room now is within order there =
    let few : n ≤ end - at = omega (arith, ap length is, length-take (end - at) (drop at room)) in
    let parts : end - at ≡ n + (end - (at + n)) = omega (arith, few, order) in
    ap (λ (l : List ℕ). take (end - (at + n)) l) (sym (drop-drop n at room)) ∙ sym (drop-take n (end - (at + n)) (drop at room))
    ∙ ap (λ (k : ℕ). drop n (take k (drop at room))) (sym parts) ∙ ap (λ (l : List ℕ). drop n l) is

-- no line ends before the first line feed
pub plain_before : (text : List ℕ) (at : ℕ) → IsFirstByte (is_byte 10) text (Some at) → has_end (take at text) ≡ false
plain_before text at first =
    list_any_none is_end (take at text) (All-from_get_or (λ b. is_end b ≡ false) (take at text) 0
    (λ i less. let low : i < at = omega (arith, less, length-take at text) in ap is_end (get_or-take at text i 0 low) ∙ false_from_ne_true _ (first.0.before i (omega arith) low)))

pub plain_all : (text : List ℕ) → IsFirstByte (is_byte 10) text None → has_end (take (length text) text) ≡ false
plain_all text none =
    ap has_end (take_all (length text) text (omega arith)) ∙ list_any_none is_end text (All-from_get_or (λ b. is_end b ≡ false) text 0 (λ i less. false_from_ne_true _ (none i (omega arith) less)))
