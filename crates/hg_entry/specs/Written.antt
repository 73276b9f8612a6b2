-- How entries and cached directories are written: the flags as one number, and zeros for what is absent.
use Rattle.std.specs.Prelude.{ℕ, ◌+◌, ◌*◌, ◌^◌, Bool, false, Option, Some, None, is_some}
use Rattle.hg_entry.specs.declared.entry.Fields.{Fields}
use Rattle.std.specs.Option.{option_map}
use Rattle.hg_entry.specs.Entry.{CacheData, EntryData, StampData}
use Rattle.hg_entry.specs.Flags as bits
use Rattle.hg_entry.specs.Flags.{flag}

-- a number that may be absent
abbrev pub or_zero : Option ℕ → ℕ
or_zero None = 0
or_zero (Some n) = n

abbrev pub seconds_of : Option StampData → ℕ
seconds_of None = 0
seconds_of (Some s) = s.seconds

abbrev pub nanos_of : Option StampData → ℕ
nanos_of None = 0
nanos_of (Some s) = s.nanos

abbrev pub is_ambiguous : Option StampData → Bool
is_ambiguous None = false
is_ambiguous (Some s) = s.ambiguous

-- the flags of an entry
abbrev pub flags_of : EntryData → ℕ
flags_of e =
    flag e.w bits.wdir_tracked
    + flag e.p1 bits.p1_tracked
    + flag e.p2 bits.p2_info
    + flag e.exec bits.mode_exec_perm
    + flag e.link bits.mode_is_symlink
    + e.fallback * 2 ^ bits.has_fallback_exec
    + flag e.modified bits.expected_state_is_modified
    + flag (is_some e.size) bits.has_mode_and_size
    + flag (is_some e.stamp) bits.has_mtime
    + flag (is_ambiguous e.stamp) bits.mtime_second_ambiguous

-- the fields of a node with this entry
abbrev pub fields_of : EntryData → Fields
fields_of e = record { flags = flags_of e; size = or_zero e.size; seconds = seconds_of e.stamp; nanos = nanos_of e.stamp }

-- the time of a cache, where there is one
abbrev pub stamp_in : Option CacheData → Option StampData
stamp_in = option_map (λ cache. cache.stamp)

-- the flags of a directory that was seen whole
abbrev pub cache_flags : Option CacheData → ℕ
cache_flags None = 0
cache_flags (Some cache) =
    2 ^ bits.has_mtime + flag cache.stamp.ambiguous bits.mtime_second_ambiguous + 2 ^ bits.directory + 2 ^ bits.all_unknown_recorded

-- the fields of a node without entry, with or without a cache
abbrev pub cache_fields : Option CacheData → Fields
cache_fields cache =
    record {
      flags = cache_flags cache;
      size = 0;
      seconds = seconds_of (stamp_in cache);
      nanos = nanos_of (stamp_in cache);
    }
