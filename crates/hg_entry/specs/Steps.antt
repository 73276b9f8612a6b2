-- What commands do to an entry.
use Rattle.std.specs.Prelude.{◌%◌, ◌^◌, Bool, true, false, ◌||◌, if◌then◌else◌, Some, None}
use Rattle.hg_base.specs.declared.stat.Stat.{Stat}
use Rattle.hg_base.specs.declared.stat.Kind.{Kind}
use Rattle.hg_base.specs.declared.stat.Kind.TheVariants as a_kind
use Rattle.hg_entry.specs.Entry.{EntryData, StampData}

-- the file is tracked, and no time vouches for it
abbrev pub tracked : EntryData → EntryData
tracked e = record e { w = true; stamp = None }

-- nothing is known any more of the file on the disk
abbrev pub unseen : EntryData → EntryData
unseen e = record e { exec = false; link = false; size = None; stamp = None }

-- the file isn't tracked any more; an entry that then says nothing stays as it was
abbrev pub untracked : EntryData → EntryData
untracked e = if e.p1 || e.p2 then record (unseen e) { w = false } else e

-- nothing of the second parent is left; an entry that then says nothing stays as it was
abbrev pub without_second : EntryData → EntryData
without_second e = if e.w || e.p1 then (if e.p2 then record (unseen e) { p2 = false } else e) else e

abbrev pub is_link : Kind → Bool
is_link a_kind.Link = true
is_link kind = false

-- a file or a link
abbrev pub is_file : Kind → Bool
is_file a_kind.File = true
is_file a_kind.Link = true
is_file kind = false

-- the file was seen to be that of the parent: size, mode and time are those seen, and no change is expected; a link has both mode bits
abbrev pub seen_clean : EntryData → Stat → StampData → EntryData
seen_clean e s time = record e { exec = s.exec || is_link s.kind; link = is_link s.kind; size = Some (s.size % 2 ^ 31); stamp = Some time; modified = false }
