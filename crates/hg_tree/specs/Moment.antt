-- One moment of a working copy: its clock and what stands where.
use Rattle.std.specs.Prelude.{ℕ, ◌≡◌, pos, Bool, true, false, IsTrue, ◌&&◌, List, length, Option, Some, None, is_some, option_map, All, nat_le}
use Rattle.std.specs.Str.{bytes_eq}
use Rattle.std.specs.List.{list_any, IsDistinct}
use Rattle.std.specs.Option.{option_and_then}
use Rattle.std.proofs.Common.{lit<}
use Rattle.hg_base.specs.PathText.{is_component, is_path, is_below, joined}
use Rattle.hg_base.specs.declared.time.Time.{Time}
use Rattle.hg_base.specs.declared.stat.Stat.{Stat}
use Rattle.hg_base.specs.declared.stat.Kind.{Kind}
use Rattle.hg_base.specs.declared.stat.Kind.TheVariants as a_kind
use Rattle.hg_tree.specs.declared.thing.Thing.{Thing}
use Rattle.hg_tree.specs.declared.thing.Thing.TheVariants as a_thing
use Rattle.hg_tree.specs.declared.thing.Placed.{Placed}

-- 1970-01-01 UTC
abbrev pub zero_time : Time
zero_time = record { seconds = pos 0; nanos = 0; in_second = lit< tt }

-- what stands at each path, given by its bytes
abbrev pub Things : Type 0
Things = List ℕ → Option Placed

-- a working copy as it stood at one time
pub record Moment : Type 0 where
  pub clock : Time
  pub things : Things

-- an empty working copy at that time
abbrev pub empty_at : Time → Moment
empty_at clock = record { clock = clock; things = λ path. None }

abbrev pub is_dir_thing : Thing → Bool
is_dir_thing (a_thing.File exec bytes) = false
is_dir_thing (a_thing.Link target) = false
is_dir_thing a_thing.Dir = true
is_dir_thing a_thing.Other = false

-- a directory stands there
abbrev pub is_dir : Option Placed → Bool
is_dir None = false
is_dir (Some placed) = is_dir_thing placed.thing

abbrev pub is_file_thing : Thing → Bool
is_file_thing (a_thing.File exec bytes) = true
is_file_thing (a_thing.Link target) = false
is_file_thing a_thing.Dir = false
is_file_thing a_thing.Other = false

-- a regular file stands there
abbrev pub is_file : Option Placed → Bool
is_file None = false
is_file (Some placed) = is_file_thing placed.thing

-- what can be read of a thing: a file's bytes, and a link's target
abbrev pub bytes_of : Thing → Option (List ℕ)
bytes_of (a_thing.File exec bytes) = Some bytes
bytes_of (a_thing.Link target) = Some target
bytes_of a_thing.Dir = None
bytes_of a_thing.Other = None

-- what can be read at a path, where a file or a link stands there
abbrev pub bytes_at : Moment → List ℕ → Option (List ℕ)
bytes_at moment path = option_and_then (λ placed. bytes_of placed.thing) (moment.things path)

abbrev pub kind_of : Thing → Kind
kind_of (a_thing.File exec bytes) = a_kind.File
kind_of (a_thing.Link target) = a_kind.Link
kind_of a_thing.Dir = a_kind.Dir
kind_of a_thing.Other = a_kind.Other

-- what a stat shows of a thing with that time: a link's size is its target's length, and an `Other` shows no time
abbrev pub stat_of : Thing → Time → Stat
stat_of (a_thing.File exec bytes) mtime = record { kind = a_kind.File; exec = exec; size = length bytes; mtime = mtime }
stat_of (a_thing.Link target) mtime = record { kind = a_kind.Link; exec = false; size = length target; mtime = mtime }
stat_of a_thing.Dir mtime = record { kind = a_kind.Dir; exec = false; size = 0; mtime = mtime }
stat_of a_thing.Other mtime = record { kind = a_kind.Other; exec = false; size = 0; mtime = zero_time }

-- what a stat shows of what stands at a path, where anything does
abbrev pub stat_at : Moment → List ℕ → Option Stat
stat_at moment path = option_map (λ placed. stat_of placed.thing placed.mtime) (moment.things path)

-- what a stat of any tree may show, also of one that tells nothing
abbrev pub IsPlainAs : Kind → Stat → Type 0
IsPlainAs a_kind.File stat = Unit {0}
IsPlainAs a_kind.Link stat = stat.exec ≡ false
IsPlainAs a_kind.Dir stat = (stat.exec ≡ false) × (stat.size ≡ 0)
IsPlainAs a_kind.Other stat = (stat.exec ≡ false) × (stat.size ≡ 0) × (stat.mtime.seconds ≡ pos 0) × (stat.mtime.nanos ≡ 0)

abbrev pub IsPlain : Stat → Type 0
IsPlain stat = IsPlainAs stat.kind stat

-- the root is a directory, and what stands at another path may be one
abbrev pub is_listed : Things → Option (List ℕ) → Bool
is_listed things None = true
is_listed things (Some dir) = is_dir (things dir)

abbrev pub has_dir : Moment → Option (List ℕ) → Bool
has_dir moment dir = is_listed moment.things dir

abbrev pub is_among : List ℕ → List (List ℕ) → Bool
is_among name names = list_any (bytes_eq name) names

-- a directory's names are those components at which something stands in it. The root's `.hg` isn't one, since nothing of a working
-- copy stands there
pub record AreNames (moment : Moment) (dir : Option (List ℕ)) (names : List (List ℕ)) : Type 0 where
  pub stand : (name : List ℕ) → IsTrue (is_among name names) → IsTrue (is_component name && is_some (moment.things (joined dir name)))
  pub all : (name : List ℕ) → IsTrue (is_component name) → IsTrue (is_some (moment.things (joined dir name))) → IsTrue (is_among name names)

-- what a listing answers: no names exactly where no directory is, else the directory's names
abbrev pub Lists : Option (List ℕ) → Option (List (List ℕ)) → Moment → Type 0
Lists dir None moment = has_dir moment dir ≡ false
Lists dir (Some names) moment = (has_dir moment dir ≡ true) × AreNames moment dir names

-- a name that makes a path in its directory
pub record IsFit (dir : Option (List ℕ)) (name : List ℕ) : Type 0 where
  pub component : IsTrue (is_component name)
  pub path : IsTrue (is_path (joined dir name))

-- what holds of the names that any tree answers, also one that tells nothing: no two are the same, and each makes a path
pub record AreFit (dir : Option (List ℕ)) (names : List (List ℕ)) : Type 0 where
  pub distinct : IsDistinct bytes_eq names
  pub each : All (IsFit dir) names

-- each proper ancestor of a thing is a directory
abbrev pub IsRooted : Things → Type 0
IsRooted things = (dir path : List ℕ) → IsTrue (is_below dir path) → IsTrue (is_some (things path)) → IsTrue (is_dir (things dir))

-- each thing stands at a path
abbrev pub AreAtPaths : Things → Type 0
AreAtPaths things = (path : List ℕ) → IsTrue (is_some (things path)) → IsTrue (is_path path)

-- a link has a target of at most 4,095 bytes
abbrev pub is_short_thing : Thing → Bool
is_short_thing (a_thing.File exec bytes) = true
is_short_thing (a_thing.Link target) = nat_le (length target) 4095
is_short_thing a_thing.Dir = true
is_short_thing a_thing.Other = true

abbrev pub is_short : Option Placed → Bool
is_short None = true
is_short (Some placed) = is_short_thing placed.thing

abbrev pub AreShort : Things → Type 0
AreShort things = (path : List ℕ) → IsTrue (is_short (things path))

-- a working copy as a file system can hold it
pub record IsFormed (moment : Moment) : Type 0 where
  pub rooted : IsRooted moment.things
  pub paths : AreAtPaths moment.things
  pub short : AreShort moment.things
