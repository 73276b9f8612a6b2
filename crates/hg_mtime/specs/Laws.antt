-- What the tests of times tell, in the words of times.
use Rattle.std.specs.Prelude.{ℕ, ◌≡◌, ◌<◌, ◌%◌, ◌^◌, Bool, true, not, ◌&&◌, IsTrue, Some}
use Rattle.hg_base.specs.declared.time.Time.{Time}
use Rattle.hg_base.specs.declared.stat.Stat.{Stat}
use Rattle.hg_base.specs.Times.{IsBefore}
use Rattle.hg_entry.specs.Entry.{EntryData, StampData}
use Rattle.hg_entry.specs.Steps.{is_file, seen_clean}
use Rattle.hg_mtime.specs.Stamps.{HasTime, is_same_second, matches, stamp_of}
use Rattle.hg_mtime.specs.Vouching.{has_mode, may_vouch, vouches}

-- a record of a time that was seen behind a boundary of the clock: the time was before it, and shows nanoseconds where it was in its second
pub record IsStampOf (time boundary : Time) (stamp : StampData) : Type 0 where
  pub has : HasTime stamp time
  pub small : stamp.seconds < 2 ^ 31
  pub past : IsBefore time boundary
  pub fine : time.seconds ≡ boundary.seconds → 0 < time.nanos
  pub ambiguous : stamp.ambiguous ≡ is_same_second time boundary

-- what is recorded of a time is just that
abbrev pub StampTells : Type 0
StampTells = (time boundary : Time) (stamp : StampData) → stamp_of time boundary ≡ Some stamp → IsStampOf time boundary stamp

abbrev pub StampIsGiven : Type 0
StampIsGiven = (time boundary : Time) (stamp : StampData) → IsStampOf time boundary stamp → stamp_of time boundary ≡ Some stamp

-- a time matches a record exactly where it is the recorded one, and an ambiguous one has nanoseconds
pub record IsMatch (stamp : StampData) (time : Time) : Type 0 where
  pub has : HasTime stamp time
  pub fine : stamp.ambiguous ≡ true → 0 < stamp.nanos

abbrev pub MatchTells : Type 0
MatchTells = (stamp : StampData) (time : Time) → matches stamp time ≡ true → IsMatch stamp time

abbrev pub MatchIsGiven : Type 0
MatchIsGiven = (stamp : StampData) (time : Time) → IsMatch stamp time → matches stamp time ≡ true

-- an entry that says of a file that it is unchanged
pub record IsVouched (entry : EntryData) (copied : Bool) (stat : Stat) : Type 0 where
  pub stamp : StampData
  pub size : ℕ
  pub marks : IsTrue (may_vouch entry copied)
  pub size_is : entry.size ≡ Some size
  pub same_size : size ≡ stat.size % 2 ^ 31
  pub mode : IsTrue (has_mode entry stat.kind stat.exec)
  pub stamp_is : entry.stamp ≡ Some stamp
  pub match : matches stamp stat.mtime ≡ true

abbrev pub VouchTells : Type 0
VouchTells = (entry : EntryData) (copied : Bool) (stat : Stat) → vouches entry copied stat ≡ true → IsVouched entry copied stat

abbrev pub VouchIsGiven : Type 0
VouchIsGiven = (entry : EntryData) (copied : Bool) (stat : Stat) → IsVouched entry copied stat → vouches entry copied stat ≡ true

-- what was recorded of a time matches it
abbrev pub NotedMatches : Type 0
NotedMatches = (time boundary : Time) (stamp : StampData) → stamp_of time boundary ≡ Some stamp → matches stamp time ≡ true

-- an entry whose marks let it vouches for the look by which it was noted
abbrev pub NotedVouches : Type 0
NotedVouches =
    (entry : EntryData) (copied : Bool) (stat : Stat) (boundary : Time) (stamp : StampData) → IsTrue (entry.w && entry.p1 && not entry.p2 && not copied)
    → IsTrue (is_file stat.kind) → stamp_of stat.mtime boundary ≡ Some stamp → vouches (seen_clean entry stat stamp) copied stat ≡ true
