-- The docket, the file `.hg/dirstate` (Mercurial help, internals.dirstate-v2, "The docket file format"): what its bytes say.
use Rattle.std.specs.Prelude.{ℕ, ◌+◌, ◌&&◌, not, if◌then◌else◌, List, [], ◌∷◌, ◌++◌, length, take, drop, replicate, slice_index, Option, Some, None, codes, ◌==◌, nat_lt}
use Rattle.std.specs.Int.{w32, from_be_bytes}
use Rattle.hg_docket.specs.Name.{foreign_place}
use Rattle.hg_docket.specs.declared.docket.Docket.{Docket}
use Rattle.hg_docket.specs.declared.fault.DocketFault.{DocketFault}
use Rattle.hg_docket.specs.declared.fault.DocketFault.TheVariants as a_fault

-- what a docket says: the parents, the root list, three counts, the hash of the ignore patterns, the used size of the data file
-- and its identifier
pub record Contents : Type 0 where
  pub p1 : List ℕ
  pub p2 : List ℕ
  pub root_start : ℕ
  pub root_count : ℕ
  pub entries : ℕ
  pub copies : ℕ
  pub unreachable : ℕ
  pub hash : List ℕ
  pub used : ℕ
  pub id : List ℕ

-- a docket without where its identifier lies in memory
abbrev pub view : Docket → Contents
view d =
    record {
      p1 = d.p1.0;
      p2 = d.p2.0;
      root_start = d.root_start;
      root_count = d.root_count;
      entries = d.entries;
      copies = d.copies;
      unreachable = d.unreachable;
      hash = d.hash;
      used = d.used;
      id = d.id.now;
    }

-- what every docket begins with
abbrev pub marker : List ℕ
marker = codes "dirstate-v2" ++ 10 ∷ []

-- the 32-bit number that stands at a place, its greatest byte first
abbrev pub number_at : ℕ → List ℕ → ℕ
number_at at bytes = from_be_bytes w32 (take 4 (drop at bytes))

-- the length of the identifier, as the bytes say it
abbrev pub name_len : List ℕ → ℕ
name_len bytes = slice_index bytes 124

-- the identifier, behind all that has a fixed place
abbrev pub name_in : List ℕ → List ℕ
name_in bytes = take (name_len bytes) (drop 125 bytes)

-- the SHA-1 of no bytes
abbrev pub empty_hash : List ℕ
empty_hash =
    0xda ∷ 0x39 ∷ 0xa3 ∷ 0xee ∷ 0x5e ∷ 0x6b ∷ 0x4b ∷ 0x0d ∷ 0x32 ∷ 0x55 ∷ 0xbf ∷ 0xef ∷ 0x95 ∷ 0x60 ∷ 0x18 ∷ 0x90 ∷ 0xaf ∷ 0xd8 ∷ 0x07 ∷ 0x09 ∷ []

-- the docket of a working copy that has none: null parents and nothing tracked
abbrev pub empty_docket : Contents
empty_docket =
    record {
      p1 = replicate 20 0;
      p2 = replicate 20 0;
      root_start = 0;
      root_count = 0;
      entries = 0;
      copies = 0;
      unreachable = 0;
      hash = empty_hash;
      used = 0;
      id = [];
    }

-- each field at its place
abbrev pub fields_in : List ℕ → Contents
fields_in bytes =
    record {
      p1 = take 20 (drop 12 bytes);
      p2 = take 20 (drop 44 bytes);
      root_start = number_at 76 bytes;
      root_count = number_at 80 bytes;
      entries = number_at 84 bytes;
      copies = number_at 88 bytes;
      unreachable = number_at 92 bytes;
      hash = take 20 (drop 100 bytes);
      used = number_at 120 bytes;
      id = name_in bytes;
    }

-- what bytes say that are a docket; no bytes are the empty one
abbrev pub docket_of : List ℕ → Contents
docket_of bytes = if length bytes == 0 then empty_docket else fields_in bytes

-- the first place, counted from `at`, where both texts have a byte and the bytes differ
abbrev pub first_other : ℕ → List ℕ → List ℕ → Option ℕ
first_other at [] bytes = None
first_other at (m ∷ front) [] = None
first_other at (m ∷ front) (b ∷ bytes) = if m == b then first_other (at + 1) front bytes else Some at

-- how many bytes a docket has at least: up to the end of the identifier, where its length is there
abbrev pub needed_len : List ℕ → ℕ
needed_len bytes = if nat_lt (length bytes) 125 then 125 else 125 + name_len bytes

-- a byte that no identifier has; then an identifier that is missing where there is a data file
abbrev pub name_refusal : Option ℕ → List ℕ → Option DocketFault
name_refusal (Some at) bytes = Some (a_fault.Identifier (125 + at))
name_refusal None bytes =
    if length (name_in bytes) == 0 && not (number_at 120 bytes == 0) then Some (a_fault.NoIdentifier (number_at 120 bytes)) else None

-- a marker that differs; then too few bytes; then what the identifier refuses
abbrev pub bytes_refusal : Option ℕ → List ℕ → Option DocketFault
bytes_refusal (Some at) bytes = Some (a_fault.Marker at)
bytes_refusal None bytes =
    if nat_lt (length bytes) (needed_len bytes)
    then Some (a_fault.Short (length bytes) (needed_len bytes))
    else name_refusal (foreign_place (name_in bytes)) bytes

-- why bytes are no docket: the first fault in the order in which a reading looks
abbrev pub docket_refusal : List ℕ → Option DocketFault
docket_refusal bytes = if length bytes == 0 then None else bytes_refusal (first_other 0 marker bytes) bytes
