-- What a reading finds at the front of a text.
use Rattle.std.specs.Prelude.{ℕ, ◌≡◌, if◌then◌else◌, Bool, true, not, ◌&&◌, ◌||◌, ◌==◌, nat_le, List, [], ◌∷◌, length, take, drop, Option, Some, None, nat_lt}
use Rattle.std.specs.List.{position_or_len}
use Rattle.hg_manifest.specs.Line.{Ending, Line, ending, id_of, is_nul}
use Rattle.hg_base.specs.declared.id.Id20.{Id20}
use Rattle.hg_manifest.specs.declared.line.Front.{Front}

-- the place of the first NUL
abbrev pub nul_place : List ℕ → Option ℕ
nul_place text = if nat_lt (position_or_len is_nul text) (length text) then Some (position_or_len is_nul text) else None

-- a byte that a plain path may have where a component begins, or goes on
abbrev pub is_plain_byte : Bool → ℕ → Bool
is_plain_byte begins b = nat_le 1 b && nat_lt b 128 && not (begins && (b == 47 || b == 46))

-- ASCII without a NUL, whose components aren't empty and don't begin with a dot; the first one begins there, or goes on
abbrev pub is_plain_from : Bool → List ℕ → Bool
is_plain_from begins [] = not begins
is_plain_from begins (b ∷ text) = is_plain_byte begins b && is_plain_from (b == 47) text

-- bytes that such a text may begin with
abbrev pub is_plain_front : Bool → List ℕ → Bool
is_plain_front begins [] = true
is_plain_front begins (b ∷ text) = is_plain_byte begins b && is_plain_front (b == 47) text

-- what stands behind a line that has an identifier and an end
abbrev pub rest_from : Option Id20 → Option Ending → Option (List ℕ)
rest_from None end = None
rest_from (Some id) None = None
rest_from (Some id) (Some end) = Some end.rest

-- what stands behind a line, by what stands behind its first NUL
abbrev pub rest_behind : List ℕ → Option (List ℕ)
rest_behind behind = rest_from (id_of (take 40 behind)) (ending (drop 40 behind))

-- the path of a line and what stands behind it, none where there is no line
abbrev pub IsFront : Option Line → Option Front → Type 0
IsFront None None = Unit {0}
IsFront None (Some front) = ⊥
IsFront (Some line) None = ⊥
IsFront (Some line) (Some front) = (front.path.text.now ≡ line.path) × (front.rest.now ≡ line.rest)
