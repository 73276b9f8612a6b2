-- What the flags of a status ask for (help topic `status`).
use Rattle.std.specs.Prelude.{Bool, true, ◌||◌, if◌then◌else◌}
use Rattle.hg_listing.specs.Full.{default_wanted}
use Rattle.hg_listing.specs.declared.row.Wanted.{Wanted}
use Rattle.hg_report.specs.declared.status.Style.{Style}
use Rattle.hg_words.specs.declared.flags.StatusFlags.{StatusFlags}

-- the groups that are named
abbrev pub groups_of : StatusFlags → Wanted
groups_of flags = record { m = flags.modified; a = flags.added; r = flags.removed; d = flags.deleted; u = flags.unknown; i = flags.ignored; c = flags.clean }

abbrev pub all_wanted : Wanted
all_wanted = record { m = true; a = true; r = true; d = true; u = true; i = true; c = true }

-- a group is wanted
abbrev pub wants_any : Wanted → Bool
wants_any wanted = wanted.m || wanted.a || wanted.r || wanted.d || wanted.u || wanted.i || wanted.c

-- the letters that are asked for: with `-A` all, else those of the groups named, and where none is, M A R ! ?
abbrev pub wanted_of : StatusFlags → Wanted
wanted_of flags = if flags.all then all_wanted else (if wants_any (groups_of flags) then groups_of flags else default_wanted)

-- how the rows are printed; `-A` shows copy sources too
abbrev pub style_of : StatusFlags → Style
style_of flags = record { plain = flags.no_status; nul = flags.print0; copies = flags.copies || flags.all }
