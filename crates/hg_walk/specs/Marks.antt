-- What a look showed at the path of a node of a record.
use Rattle.std.specs.Prelude.{Bool, true, false, if◌then◌else◌, Option, Some, None}
use Rattle.hg_base.specs.declared.stat.Stat.{Stat}
use Rattle.hg_flat.specs.Listing.{is_dir_kind}
use Rattle.hg_walk.specs.declared.mark.Mark.{Mark}
use Rattle.hg_walk.specs.declared.mark.Mark.TheVariants as a_mark

-- a look showed that no directory stands there
abbrev pub is_no_dir : Mark → Bool
is_no_dir a_mark.Unasked = false
is_no_dir a_mark.Nothing = true
is_no_dir a_mark.Directory = false
is_no_dir a_mark.Other = true

-- a look showed that something stands there
abbrev pub stands : Mark → Bool
stands a_mark.Unasked = false
stands a_mark.Nothing = false
stands a_mark.Directory = true
stands a_mark.Other = true

-- the mark of what a look showed
abbrev pub mark_of : Option Stat → Mark
mark_of None = a_mark.Nothing
mark_of (Some there) = if is_dir_kind there.kind then a_mark.Directory else a_mark.Other
