-- Entries: what is recorded of a file that is tracked, or is in a parent (Mercurial help, internals.dirstate-v2, "The data file format").
use Rattle.std.specs.Prelude.{ℕ, ◌/◌, ◌%◌, ◌^◌, Bool, false, not, ◌&&◌, ◌||◌, if◌then◌else◌, Option, Some, None, nat_lt}
use Rattle.std.specs.Option.{option_map}
use Rattle.hg_base.specs.declared.time.Stamp.{Stamp}
use Rattle.hg_entry.specs.declared.entry.Entry.{Entry}
use Rattle.hg_entry.specs.declared.entry.Fields.{Fields}
use Rattle.hg_entry.specs.declared.entry.State.{State}
use Rattle.hg_entry.specs.declared.entry.State.TheVariants as a_state
use Rattle.hg_entry.specs.Flags as bits
use Rattle.hg_entry.specs.Flags.{has}

-- a recorded time, without the proofs that it is in range
pub record StampData : Type 0 where
  pub seconds : ℕ
  pub nanos : ℕ
  pub ambiguous : Bool

-- what is recorded of a cached directory: the time at which all its children were seen, and whether those that are ignored were among
-- them (which nothing records yet)
pub record CacheData : Type 0 where
  pub stamp : StampData
  pub full : Bool

-- an entry, without the proofs that its parts agree
pub record EntryData : Type 0 where
  pub w : Bool
  pub p1 : Bool
  pub p2 : Bool
  pub exec : Bool
  pub link : Bool
  pub size : Option ℕ
  pub stamp : Option StampData
  pub modified : Bool
  pub fallback : ℕ

abbrev pub stamp_view : Stamp → StampData
stamp_view s = record { seconds = s.seconds; nanos = s.nanos; ambiguous = s.ambiguous }

-- the cache of a directory that has this time
abbrev pub cache_view : Stamp → CacheData
cache_view s = record { stamp = stamp_view s; full = false }

abbrev pub view : Entry → EntryData
view e =
    record {
      w = e.w;
      p1 = e.p1;
      p2 = e.p2;
      exec = e.exec;
      link = e.link;
      size = e.size;
      stamp = option_map stamp_view e.stamp;
      modified = e.modified;
      fallback = e.fallback;
    }

-- a node has an entry where it is tracked, in the first parent or marked for the second
abbrev pub has_entry : ℕ → Bool
has_entry flags = has flags bits.wdir_tracked || has flags bits.p1_tracked || has flags bits.p2_info

-- where a time is recorded, it is in range
abbrev pub is_timely : Fields → Bool
is_timely f = not (has f.flags bits.has_mtime) || (nat_lt f.seconds (2 ^ 31) && nat_lt f.nanos (10 ^ 9))

-- the time that the fields record
abbrev pub time_of : Fields → StampData
time_of f = record { seconds = f.seconds; nanos = f.nanos; ambiguous = has f.flags bits.mtime_second_ambiguous }

-- the entry of a node, where it has one: the mode counts only with the size, the time only where no change is expected
abbrev pub entry_of : Fields → Option EntryData
entry_of f =
    if has_entry f.flags
    then Some (
    record {
      w = has f.flags bits.wdir_tracked;
      p1 = has f.flags bits.p1_tracked;
      p2 = has f.flags bits.p2_info;
      exec = has f.flags bits.has_mode_and_size && has f.flags bits.mode_exec_perm;
      link = has f.flags bits.has_mode_and_size && has f.flags bits.mode_is_symlink;
      size = if has f.flags bits.has_mode_and_size then Some f.size else None;
      stamp = if has f.flags bits.has_mtime && not (has f.flags bits.expected_state_is_modified) then Some (time_of f) else None;
      modified = has f.flags bits.expected_state_is_modified;
      fallback = f.flags / 2 ^ bits.has_fallback_exec % 16;
    }
    )
    else None

-- the cache of a directory, where its node has no entry and records the time of one
abbrev pub cache_of : Fields → Option CacheData
cache_of f =
    if not (has_entry f.flags) && has f.flags bits.has_mtime && has f.flags bits.directory && has f.flags bits.all_unknown_recorded
    then Some (record { stamp = time_of f; full = false })
    else None

-- what an entry says of its file: removed, a merge, added, or neither
abbrev pub state_of : EntryData → State
state_of e =
    if e.w
    then (if e.p1 && e.p2 then a_state.Merged else (if e.p1 || e.p2 then a_state.Normal else a_state.Added))
    else a_state.Removed
