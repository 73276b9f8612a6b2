-- A worked case: a folder `d` with one file `f` of three bytes. Both show the time 5000.000000009, and the clock stands at 5000.000000010, all the while.
-- The record has the file with that time, in the second that wasn't over, and the folder with it. So all that the laws ask for holds together.
use Rattle.std.specs.Prelude.{ℕ, ◌≡◌, pos, true, false, if◌then◌else◌, List, [], Option, Some, None, codes, is_some}
use Rattle.std.specs.Str.{bytes_eq}
use Rattle.std.proofs.Common.{lit<}
use Rattle.hg_base.specs.declared.stat.Kind.TheVariants as a_kind
use Rattle.hg_base.specs.declared.stat.Stat.{Stat}
use Rattle.hg_base.specs.declared.time.Time.{Time}
use Rattle.hg_compare.specs.Tracked.{ParentRow}
use Rattle.hg_entry.specs.Entry.{CacheData, EntryData, StampData}
use Rattle.hg_entry.specs.Table.{Table}
use Rattle.hg_ignore.specs.Patterns.{Apart}
use Rattle.hg_ignore.specs.State.{Hash}
use Rattle.hg_mtime.specs.Stamps.{matches, stamp_of}
use Rattle.hg_mtime.specs.Vouching.{vouches}
use Rattle.hg_tree.specs.History.{Extends, History, now, others}
use Rattle.hg_tree.specs.Honest.{IsHonest}
use Rattle.hg_tree.specs.Moment.{Moment, Things, stat_at}
use Rattle.hg_tree.specs.declared.thing.Thing.TheVariants as a_thing
use Rattle.hg_walk.specs.Trust.{IsTrusted}

abbrev pub shown_time : Time
shown_time = record { seconds = pos 5000; nanos = 9; in_second = lit< tt }

abbrev pub clock : Time
clock = record { seconds = pos 5000; nanos = 10; in_second = lit< tt }

abbrev pub folder : List ℕ
folder = codes "d"

abbrev pub file : List ℕ
file = codes "d/f"

abbrev pub text : List ℕ
text = codes "abc"

abbrev pub things : Things
things path =
    if bytes_eq path file
    then Some (record { thing = a_thing.File false text; mtime = shown_time })
    else (if bytes_eq path folder then Some (record { thing = a_thing.Dir; mtime = shown_time }) else None)

abbrev pub moment : Moment
moment = record { clock = clock; things = things }

-- so many steps of others, none of which changes anything
abbrev pub history : ℕ → History
history last = record { told = true; last = last; at = λ k. moment; who = λ k. others; asked = [] }

abbrev pub stamp : StampData
stamp = record { seconds = 5000; nanos = 9; ambiguous = true }

abbrev pub cache : CacheData
cache = record { stamp = stamp; full = false }

abbrev pub row : ParentRow
row = record { exec = false; link = false; bytes = Some text }

abbrev pub rows : List ℕ → Option ParentRow
rows path = if bytes_eq path file then Some row else None

abbrev pub entry : EntryData
entry = record { w = true; p1 = true; p2 = false; exec = false; link = false; size = Some 3; stamp = Some stamp; modified = false; fallback = 0 }

abbrev pub table : Table
table =
    record {
      p1 = codes "11111111111111111111";
      p2 = codes "00000000000000000000";
      hash = Hash [];
      entries = λ path. if bytes_eq path file then Some entry else None;
      sources = λ path. None;
      nodes = λ path. is_some (things path);
      caches = λ path. if bytes_eq path folder then Some cache else None;
    }

abbrev pub file_stat : Stat
file_stat = record { kind = a_kind.File; exec = false; size = 3; mtime = shown_time }

abbrev pub folder_stat : Stat
folder_stat = record { kind = a_kind.Dir; exec = false; size = 0; mtime = shown_time }

pub record IsWorked : Type 0 where
  pub extends : Extends (history 0) (history 1)
  pub honest : IsHonest (history 1)
  pub apart : Apart (history 1)
  pub trusted : IsTrusted rows table (history 0)
  pub noted : stamp_of shown_time clock ≡ Some stamp
  pub early : stamp_of shown_time shown_time ≡ None
  pub file_shown : stat_at (now (history 1)) file ≡ Some file_stat
  pub vouched : vouches entry false file_stat ≡ true
  pub later_refused : vouches entry false (record file_stat { mtime = clock }) ≡ false
  pub folder_shown : stat_at (now (history 1)) folder ≡ Some folder_stat
  pub matched : matches stamp folder_stat.mtime ≡ true
