-- What a count of some rows comes to.
use Rattle.std.specs.Prelude.{ℕ, ◌+◌, ◌≤◌, ◌&&◌, ◌==◌, Bool, not, if◌then◌else◌, List, length, count_by, Option, Some, None, nat_le}
use Rattle.hg_entry.specs.Entry.{has_entry}
use Rattle.hg_entry.specs.Flags.{has, wdir_tracked}
use Rattle.hg_node.specs.declared.record.Rec.{Rec}
use Rattle.hg_image.specs.Rows.{Row}
use Rattle.hg_image.specs.Counts.{is_entry, is_tracked, is_copy, are_counted}
use Rattle.hg_image.specs.declared.counts.Tally.{Tally}

-- how many rows there are, how many have an entry, are tracked, have a copy source
abbrev pub tally_of : List Row → Tally
tally_of rows = record { nodes = length rows; entries = count_by is_entry rows; tracked = count_by is_tracked rows; copies = count_by is_copy rows }

-- two tallies together
abbrev pub plus : Tally → Tally → Tally
plus a b = record { nodes = a.nodes + b.nodes; entries = a.entries + b.entries; tracked = a.tracked + b.tracked; copies = a.copies + b.copies }

-- the tally of rows, where there are at most so many rows and each records its counts
unfoldable pub tally_within : ℕ → List Row → Option Tally
tally_within most rows = if nat_le (length rows) most && are_counted rows then Some (tally_of rows) else None

-- a tally is one of at most so many rows
abbrev pub IsFew : ℕ → Option Tally → Type 0
IsFew most None = Unit {0}
IsFew most (Some t) = (t.nodes ≤ most) × (t.entries ≤ t.nodes) × (t.tracked ≤ t.nodes) × (t.copies ≤ t.nodes)

-- the tally of one node alone
abbrev pub one_of : Rec → Tally
one_of rec =
    record {
      nodes = 1;
      entries = if has_entry rec.flags then 1 else 0;
      tracked = if has rec.flags wdir_tracked then 1 else 0;
      copies = if has_entry rec.flags && not (rec.copy_start == 0) then 1 else 0;
    }

-- a node records how many entries and how many tracked ones were counted below it
abbrev pub agrees : Rec → Tally → Bool
agrees rec under = rec.entries_below == under.entries && rec.tracked_below == under.tracked

-- the tally of some rows with that of a node behind them and of what is below it
abbrev pub with_node : ℕ → Option Tally → Rec → Option Tally → Option Tally
with_node most None rec under = None
with_node most (Some sum) rec None = None
with_node most (Some sum) rec (Some under) =
    if agrees rec under && nat_le (sum.nodes + 1 + under.nodes) most then Some (plus sum (plus (one_of rec) under)) else None
