-- A node of the data file (Mercurial help, internals.dirstate-v2, "The data file format"): 44 bytes, each field at its place.
use Rattle.std.specs.Prelude.{ℕ, ◌<◌, ◌^◌, List, ◌++◌, take, drop}
use Rattle.std.specs.Int.{Width, w16, w32, byte_len, from_be_bytes, to_be_bytes}
use Rattle.hg_node.specs.declared.record.Rec.{Rec}

-- the number of so many bits that stands at a place, its greatest byte first
abbrev pub number_at : Width → ℕ → List ℕ → ℕ
number_at width at bytes = from_be_bytes width (take (byte_len width) (drop at bytes))

-- what 44 bytes say of a node; where it stands isn't among them
abbrev pub rec_of : List ℕ → Rec
rec_of bytes =
    record {
      place = 0;
      path_start = number_at w32 0 bytes;
      path_len = number_at w16 4 bytes;
      base_at = number_at w16 6 bytes;
      copy_start = number_at w32 8 bytes;
      copy_len = number_at w16 12 bytes;
      kids_start = number_at w32 14 bytes;
      kids_count = number_at w32 18 bytes;
      entries_below = number_at w32 22 bytes;
      tracked_below = number_at w32 26 bytes;
      flags = number_at w16 30 bytes;
      size = number_at w32 32 bytes;
      seconds = number_at w32 36 bytes;
      nanos = number_at w32 40 bytes;
    }

-- where the texts and the child nodes stand, the first half of the bytes
abbrev pub texts_of : Rec → List ℕ
texts_of rec =
    to_be_bytes w32 rec.path_start
    ++ to_be_bytes w16 rec.path_len
    ++ to_be_bytes w16 rec.base_at
    ++ to_be_bytes w32 rec.copy_start
    ++ to_be_bytes w16 rec.copy_len
    ++ to_be_bytes w32 rec.kids_start
    ++ to_be_bytes w32 rec.kids_count

-- what is below the node and what is recorded of it, the second half
abbrev pub facts_of : Rec → List ℕ
facts_of rec =
    to_be_bytes w32 rec.entries_below
    ++ to_be_bytes w32 rec.tracked_below
    ++ to_be_bytes w16 rec.flags
    ++ to_be_bytes w32 rec.size
    ++ to_be_bytes w32 rec.seconds
    ++ to_be_bytes w32 rec.nanos

-- the 44 bytes of a node
abbrev pub bytes_of : Rec → List ℕ
bytes_of rec = texts_of rec ++ facts_of rec

-- the numbers of the first half fit their bytes
pub record AreTextsSized (rec : Rec) : Type 0 where
  pub path_start : rec.path_start < 2 ^ 32
  pub path_len : rec.path_len < 2 ^ 16
  pub base_at : rec.base_at < 2 ^ 16
  pub copy_start : rec.copy_start < 2 ^ 32
  pub copy_len : rec.copy_len < 2 ^ 16
  pub kids_start : rec.kids_start < 2 ^ 32
  pub kids_count : rec.kids_count < 2 ^ 32

-- the numbers of the second half fit their bytes
pub record AreFactsSized (rec : Rec) : Type 0 where
  pub entries_below : rec.entries_below < 2 ^ 32
  pub tracked_below : rec.tracked_below < 2 ^ 32
  pub flags : rec.flags < 2 ^ 16
  pub size : rec.size < 2 ^ 32
  pub seconds : rec.seconds < 2 ^ 32
  pub nanos : rec.nanos < 2 ^ 32
