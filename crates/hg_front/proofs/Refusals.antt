-- The lines of a refusal, in parts.
use Rattle.std.proofs.Common.{ℕ, ◌≡◌, List, [], ◌++◌, append_assoc, codes, rules}
use Rattle.std.proofs.lemmas.List.{append-nil}
use Rattle.hg_front.specs.Refusing as refusals
use Rattle.hg_front.specs.Refusing.{refusal_lines}
use Rattle.hg_front.specs.Shown.{shown}
use Rattle.hg_front.specs.declared.guarding.Why.{Why}

pub refusal_parts : (why : Why) (what front behind next : List ℕ) → front ≡ refusals.front why → behind ≡ refusals.behind why → next ≡ refusals.next why
    → (codes "abort: " ++ (front ++ [])) ++ shown what ++ (behind ++ (codes "\nhgtrack: " ++ (next ++ codes "\n"))) ≡ refusal_lines (why, what)
refusal_parts why what front behind next at_front at_behind at_next = rw (at_front, at_behind, at_next) search (rules, append_assoc, append-nil)
