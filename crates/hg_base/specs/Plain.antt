-- Names of ASCII characters alone; for the private functions alone.
use Rattle.std.specs.Prelude.{ℕ, ◌==◌, Bool, not, ◌&&◌, nat_lt, List, length, slice_index_or}
use Rattle.std.specs.List.{list_all}

-- an ASCII character other than NUL and the slash
abbrev pub is_plain_byte : ℕ → Bool
is_plain_byte b = not (b == 0) && not (b == 47) && nat_lt b 128

-- such characters, at least one and the first no dot
abbrev pub is_plain : List ℕ → Bool
is_plain name = not (length name == 0) && not (slice_index_or name 0 0 == 46) && list_all is_plain_byte name
