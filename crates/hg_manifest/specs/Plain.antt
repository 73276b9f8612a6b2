-- Where the plain store keeps a manifest.
use Rattle.std.specs.Prelude.{ℕ, Bool, List, ◌++◌, codes, replicate}
use Rattle.std.specs.Str.{bytes_eq}
use Rattle.hex.specs.Hex.{encode_lower}

-- the name of a manifest's file below `.hg`, by its identifier
abbrev pub plain_name : List ℕ → List ℕ
plain_name id = codes "plain/m-" ++ encode_lower id

-- the null parent's identifier
abbrev pub is_null : List ℕ → Bool
is_null id = bytes_eq id (replicate 20 0)

-- the most bytes of a manifest
abbrev pub most : ℕ
most = 67108864
