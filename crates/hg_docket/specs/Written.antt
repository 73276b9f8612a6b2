-- How a docket is written: zeros in the padding and in the unused bytes, and nothing behind the identifier.
use Rattle.std.specs.Prelude.{ℕ, ◌≡◌, ◌<◌, ◌^◌, Bool, not, ◌&&◌, ◌||◌, List, [], ◌∷◌, ◌++◌, length, replicate, ◌==◌, None}
use Rattle.std.specs.Int.{w32, to_be_bytes}
use Rattle.hg_docket.specs.Name.{is_name}
use Rattle.hg_docket.specs.Docket.{Contents, marker, docket_of, docket_refusal}

-- what can be written: the identifier is one, and there is one where there is a data file
abbrev pub is_writable : Contents → Bool
is_writable d = is_name d.id && (not (length d.id == 0) || d.used == 0)

-- all that stands before the identifier's length
unfoldable pub head_of : Contents → List ℕ
head_of d =
    marker
    ++ d.p1
    ++ replicate 12 0
    ++ d.p2
    ++ replicate 12 0
    ++ to_be_bytes w32 d.root_start
    ++ to_be_bytes w32 d.root_count
    ++ to_be_bytes w32 d.entries
    ++ to_be_bytes w32 d.copies
    ++ to_be_bytes w32 d.unreachable
    ++ replicate 4 0
    ++ d.hash
    ++ to_be_bytes w32 d.used

-- the bytes of a docket
abbrev pub bytes_of : Contents → List ℕ
bytes_of d = head_of d ++ length d.id ∷ [] ++ d.id

-- each part has its length, and each number fits its bytes
pub record IsSized (d : Contents) : Type 0 where
  pub p1 : length d.p1 ≡ 20
  pub p2 : length d.p2 ≡ 20
  pub hash : length d.hash ≡ 20
  pub root_start : d.root_start < 2 ^ 32
  pub root_count : d.root_count < 2 ^ 32
  pub entries : d.entries < 2 ^ 32
  pub copies : d.copies < 2 ^ 32
  pub unreachable : d.unreachable < 2 ^ 32
  pub used : d.used < 2 ^ 32

-- bytes that are a docket and say this
pub record ReadsAs (bytes : List ℕ) (d : Contents) : Type 0 where
  pub whole : docket_refusal bytes ≡ None
  pub same : docket_of bytes ≡ d
