-- What a look at the size of a file answers.
use Rattle.std.specs.Prelude.{ℕ, List, length, Option, option_map}

-- the size of a file in bytes, none for one that is absent
abbrev pub size_of : Option (List ℕ) → Option ℕ
size_of file = option_map (λ bytes. length bytes) file
