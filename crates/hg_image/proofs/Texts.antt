-- Whether bytes are a text, and whether a text is a path.
use Rattle.std.proofs.Common.{◌≡◌, ℕ, true, false, ◌+◌, ◌≤◌, List, length, Some, None, leb, leb-true}
use Rattle.std.specs.Str.{IsUtf8, is_utf8}
use Rattle.std.proofs.lemmas.Str.{IsUtf8-from_is_utf8, is_utf8-from_IsUtf8}
use Rattle.std.proofs.lemmas.Bool.{false_from_ne_true, and_parts}
use Rattle.hg_base.specs.PathText.{is_path}
use Rattle.hg_base.specs.PathRefusal.{refusal}
use Rattle.hg_base.specs.declared.path.PathFault.{PathFault}
use Rattle.hg_base.proofs.Paths.{path_not_refused}
use Rattle.hg_image.specs.Node.{part_at, is_text}

pub utf8_true : (bytes : List ℕ) → IsUtf8 bytes → is_utf8 bytes ≡ true
utf8_true bytes h = is_utf8-from_IsUtf8 bytes h

pub utf8_false : (bytes : List ℕ) → (IsUtf8 bytes → ⊥) → is_utf8 bytes ≡ false
utf8_false bytes h = false_from_ne_true (is_utf8 bytes) (λ t. h (IsUtf8-from_is_utf8 bytes t))

-- what is refused is no path
pub path_false : (text : List ℕ) (fault : PathFault) → refusal text ≡ Some fault → is_path text ≡ false
path_false text fault h =
    false_from_ne_true (is_path text) (λ t. let none : refusal text ≡ None = path_not_refused text t in absurd (cc (h, none)))

-- the bytes of a text are there, and are UTF-8
pub text_room : (bytes : List ℕ) (start len : ℕ) → is_text bytes start len ≡ true → start + len ≤ length bytes
unfolding is_text
text_room bytes start len h = leb-true (start + len) (length bytes) (and_parts (leb (start + len) (length bytes)) (is_utf8 (part_at bytes start len)) h).0

pub text_utf8 : (bytes : List ℕ) (start len : ℕ) → is_text bytes start len ≡ true → IsUtf8 (part_at bytes start len)
unfolding is_text
text_utf8 bytes start len h = IsUtf8-from_is_utf8 (part_at bytes start len) (and_parts (leb (start + len) (length bytes)) (is_utf8 (part_at bytes start len)) h).1
