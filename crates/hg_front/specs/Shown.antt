-- A name in a line of the program's own.
use Rattle.std.specs.Prelude.{ℕ, if◌then◌else◌, List, [], ◌∷◌, codes, ◌==◌}
use Rattle.std.specs.List.{flat_map}

-- a byte of a name: what would end the line is written by its two hexadecimal digits
abbrev pub shown_byte : ℕ → List ℕ
shown_byte b = if b == 10 then codes "\\x0a" else (if b == 13 then codes "\\x0d" else b ∷ [])

abbrev pub shown : List ℕ → List ℕ
shown what = flat_map shown_byte what
