-- The line of a copy that was refused.
use Rattle.std.proofs.Common.{ℕ, ◌≡◌, List, [], Option, Some, None, codes, refl}
use Rattle.hg_ops.specs.declared.copy_refusal.CopyRefusal.{CopyRefusal}
use Rattle.hg_ops.specs.declared.copy_refusal.CopyRefusal.TheVariants as a_word
use Rattle.hg_session.specs.Acts.{copy_line}
use Rattle.hg_session.proofs.Acted.{has_line}

-- without a line nothing was refused
pub no_line : (source target : List ℕ) (refused : Option CopyRefusal) → copy_line source target refused ≡ [] → refused ≡ None
no_line source target None is = refl
no_line source target (Some (a_word.Source refusal)) is = absurd (has_line (codes "copy") source refusal is)
no_line source target (Some (a_word.Target refusal)) is = absurd (has_line (codes "copy") target refusal is)
