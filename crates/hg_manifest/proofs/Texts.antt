-- Whether bytes are a text, and whether a text is a path.
use Rattle.std.proofs.Common.{◌≡◌, ℕ, true, false, List, Some, None}
use Rattle.std.specs.Str.{IsUtf8, is_utf8}
use Rattle.std.proofs.lemmas.Str.{IsUtf8-from_is_utf8, is_utf8-from_IsUtf8}
use Rattle.std.proofs.lemmas.Bool.{false_from_ne_true}
use Rattle.hg_base.specs.PathText.{is_path}
use Rattle.hg_base.specs.PathRefusal.{refusal}
use Rattle.hg_base.specs.declared.path.PathFault.{PathFault}
use Rattle.hg_base.proofs.Paths.{path_not_refused}

pub utf8_true : (bytes : List ℕ) → IsUtf8 bytes → is_utf8 bytes ≡ true
utf8_true bytes h = is_utf8-from_IsUtf8 bytes h

pub utf8_false : (bytes : List ℕ) → (IsUtf8 bytes → ⊥) → is_utf8 bytes ≡ false
utf8_false bytes h = false_from_ne_true (is_utf8 bytes) (λ t. h (IsUtf8-from_is_utf8 bytes t))

-- what is refused is no path
pub path_false : (text : List ℕ) (fault : PathFault) → refusal text ≡ Some fault → is_path text ≡ false
path_false text fault h =
    false_from_ne_true (is_path text) (λ t. let none : refusal text ≡ None = path_not_refused text t in absurd (cc (h, none)))
