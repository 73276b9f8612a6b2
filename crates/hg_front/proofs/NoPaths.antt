-- A text that is refused as a path.
use Rattle.std.proofs.Common.{◌≡◌, ℕ, false, List, Some, None}
use Rattle.std.proofs.lemmas.Bool.{false_from_ne_true}
use Rattle.hg_base.proofs.Paths.{path_not_refused}
use Rattle.hg_base.specs.PathText.{is_path}
use Rattle.hg_base.specs.PathRefusal.{refusal}
use Rattle.hg_base.specs.declared.path.PathFault.{PathFault}

-- it is none
pub refused_is_none : (text : List ℕ) (fault : PathFault) → refusal text ≡ Some fault → is_path text ≡ false
refused_is_none text fault h =
    false_from_ne_true (is_path text) (λ t. let none : refusal text ≡ None = path_not_refused text t in absurd (cc (h, none)))
