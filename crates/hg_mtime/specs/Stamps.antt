-- Times as a dirstate records them: which time of the working copy may be recorded, and when a recorded one is shown again (Mercurial help,
-- internals.dirstate-v2, the flags HAS_MTIME and MTIME_SECOND_AMBIGUOUS).
use Rattle.std.specs.Prelude.{ℕ, ◌≡◌, ◌^◌, ℤ, pos, negsuc, int_lt, nat_lt, ◌==◌, Bool, not, ◌&&◌, ◌||◌, if◌then◌else◌, Option, Some, None}
use Rattle.std.specs.Ordering.{int_eq}
use Rattle.hg_base.specs.declared.time.Time.{Time}
use Rattle.hg_entry.specs.Entry.{StampData}

-- a recorded time is that time
pub record HasTime (stamp : StampData) (time : Time) : Type 0 where
  pub seconds : time.seconds ≡ pos stamp.seconds
  pub nanos : time.nanos ≡ stamp.nanos

-- two times are in one second
abbrev pub is_same_second : Time → Time → Bool
is_same_second a b = int_eq a.seconds b.seconds

-- a time is earlier than another
abbrev pub is_before : Time → Time → Bool
is_before a b = int_lt a.seconds b.seconds || (is_same_second a b && nat_lt a.nanos b.nanos)

-- so many seconds since 1970-01-01 UTC, with nanoseconds, where 31 bits hold them
abbrev pub dated : ℤ → ℕ → Bool → Option StampData
dated (pos seconds) nanos ambiguous = if nat_lt seconds (2 ^ 31) then Some (record { seconds = seconds; nanos = nanos; ambiguous = ambiguous }) else None
dated (negsuc n) nanos ambiguous = None

-- a time of that boundary's second, with no nanoseconds: many file systems show none, so the second may still have another of the same
abbrev pub is_coarse : Time → Time → Bool
is_coarse time boundary = is_same_second time boundary && time.nanos == 0

-- what may be recorded of a time that was seen behind a boundary of the clock: it is before the boundary, and ambiguous where it is in its second
abbrev pub stamp_of : Time → Time → Option StampData
stamp_of time boundary =
    if is_before time boundary && not (is_coarse time boundary) then dated time.seconds time.nanos (is_same_second time boundary) else None

-- a time is the recorded one; one that is ambiguous and has no nanoseconds is none
abbrev pub matches : StampData → Time → Bool
matches stamp time = int_eq time.seconds (pos stamp.seconds) && time.nanos == stamp.nanos && not (stamp.ambiguous && stamp.nanos == 0)
