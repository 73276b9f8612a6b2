-- What is written for a node, by the numbers that are read back as it.
use Rattle.std.specs.Prelude.{◌≡◌, ◌==◌, ◌^◌, Bool, true, not, ◌&&◌, if◌then◌else◌, Option, Some, None, nat_lt}
use Rattle.hg_entry.specs.declared.entry.Fields.{Fields}
use Rattle.hg_entry.specs.Entry.{CacheData, EntryData, cache_of, entry_of, has_entry, is_timely}
use Rattle.hg_entry.specs.Flags as bits
use Rattle.hg_entry.specs.Flags.{has}
use Rattle.hg_entry.specs.Written.{cache_fields, fields_of}

-- the numbers that are written for an entry, or for a node without one
abbrev pub fields_for : Option EntryData → Option CacheData → Fields
fields_for None cache = cache_fields cache
fields_for (Some entry) cache = fields_of entry

-- numbers that are read back as what they were written for
pub record AreWritten (entry : Option EntryData) (cache : Option CacheData) (f : Fields) : Type 0 where
  pub is : f ≡ fields_for entry cache
  pub back : entry_of f ≡ entry
  pub none : entry ≡ None → cache_of f ≡ cache
  pub timely : is_timely f ≡ true

-- a size is recorded, or nothing that counts beside one alone
abbrev pub is_sized : Fields → Bool
is_sized f = if has f.flags bits.has_mode_and_size then true else (f.size == 0 && not (has f.flags bits.mode_exec_perm) && not (has f.flags bits.mode_is_symlink))

-- a time is recorded and no change is expected, or nothing of a time is recorded
abbrev pub is_timed : Fields → Bool
is_timed f =
    if has f.flags bits.has_mtime
    then not (has f.flags bits.expected_state_is_modified)
    else (f.seconds == 0 && f.nanos == 0 && not (has f.flags bits.mtime_second_ambiguous))

-- all that numbers say is what their entry says
abbrev pub is_as_written : Fields → Bool
is_as_written f = nat_lt f.flags (2 ^ 13) && has_entry f.flags && is_sized f && is_timed f

-- numbers are those that their entry is written as
pub record AreTheirs (f : Fields) : Type 0 where
  pub entry : EntryData
  pub is : entry_of f ≡ Some entry
  pub same : f ≡ fields_of entry
