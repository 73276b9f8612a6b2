use Rattle.std.proofs.Common.{◌≡◌, ℕ, List, true, subst}
use Rattle.std.specs.Str.{is_utf8}
use Rattle.std.proofs.lemmas.Str.{is_utf8-from_IsUtf8}
use Rattle.hg_append.proofs.lists.path_bytes.Goals as goal

pub returns-clause-utf8 : goal.returns-clause-utf8
returns-clause-utf8 c = subst (λ (b : List ℕ). is_utf8 b ≡ true) c.as_bytes.ensures.value (is_utf8-from_IsUtf8 _ c.as_bytes.ensures.utf8)
