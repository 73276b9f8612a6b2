-- When what is recorded of a file says that it is unchanged, without a look at its bytes.
use Rattle.std.specs.Prelude.{ℕ, ◌%◌, ◌^◌, ◌==◌, Bool, true, false, not, ◌&&◌, Option, Some, None}
use Rattle.hg_base.specs.declared.time.Time.{Time}
use Rattle.hg_base.specs.declared.stat.Stat.{Stat}
use Rattle.hg_base.specs.declared.stat.Kind.{Kind}
use Rattle.hg_base.specs.declared.stat.Kind.TheVariants as a_kind
use Rattle.hg_entry.specs.Entry.{EntryData, StampData}
use Rattle.hg_mtime.specs.Stamps.{matches}

-- by its marks an entry can say so: tracked and in the first parent alone, no copy, and no change is expected
abbrev pub may_vouch : EntryData → Bool → Bool
may_vouch entry copied = entry.w && entry.p1 && not entry.p2 && not copied && not entry.modified

-- the recorded size is the low 31 bits of that size; one that isn't known is no size's
abbrev pub has_size : Option ℕ → ℕ → Bool
has_size None size = false
has_size (Some known) size = known == size % 2 ^ 31

abbrev pub same_bools : Bool → Bool → Bool
same_bools true b = b
same_bools false b = not b

-- the recorded mode is that of such a thing; the executable bit counts for a file alone
abbrev pub has_mode : EntryData → Kind → Bool → Bool
has_mode entry a_kind.File exec = not entry.link && same_bools entry.exec exec
has_mode entry a_kind.Link exec = entry.link
has_mode entry a_kind.Dir exec = false
has_mode entry a_kind.Other exec = false

-- the time is recorded, and is that one
abbrev pub matches_known : Option StampData → Time → Bool
matches_known None time = false
matches_known (Some stamp) time = matches stamp time

-- an entry says of a file that shows this that it is unchanged: by its marks it can, and the size, the mode and the time are those recorded
abbrev pub vouches : EntryData → Bool → Stat → Bool
vouches entry copied stat =
    may_vouch entry copied && has_size entry.size stat.size && has_mode entry stat.kind stat.exec && matches_known entry.stamp stat.mtime
