-- The identifier of a data file, which stands in its name `.hg/dirstate.ID` (Mercurial help, internals.dirstate-v2).
use Rattle.std.specs.Prelude.{ℕ, Bool, not, ◌&&◌, ◌||◌, List, length, Option, ◌==◌, nat_le}
use Rattle.std.specs.List.{position, list_all}

-- what may stand in an identifier: an ASCII letter or digit, `-` or `_`
abbrev pub is_name_byte : ℕ → Bool
is_name_byte b =
    (nat_le 48 b && nat_le b 57) || (nat_le 65 b && nat_le b 90) || (nat_le 97 b && nat_le b 122) || b == 45 || b == 95

-- the first place in a text where no byte of an identifier stands
abbrev pub foreign_place : List ℕ → Option ℕ
foreign_place text = position (λ b. not (is_name_byte b)) text

-- an identifier: at most 255 bytes, each one that may stand there
abbrev pub is_name : List ℕ → Bool
is_name text = nat_le (length text) 255 && list_all is_name_byte text

-- a byte of ASCII
abbrev pub is_ascii : ℕ → Bool
is_ascii b = nat_le b 127
