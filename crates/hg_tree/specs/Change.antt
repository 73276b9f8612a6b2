-- What a change makes of a working copy.
use Rattle.std.specs.Prelude.{ℕ, ◌||◌, if◌then◌else◌, List, Some, None}
use Rattle.std.specs.Str.{bytes_eq}
use Rattle.hg_base.specs.PathText.{is_below}
use Rattle.hg_base.specs.declared.time.Time.{Time}
use Rattle.hg_tree.specs.declared.thing.Thing.{Thing}
use Rattle.hg_tree.specs.declared.thing.Thing.TheVariants as a_thing
use Rattle.hg_tree.specs.declared.thing.Placed.{Placed}
use Rattle.hg_tree.specs.declared.asked.Change.{Change}
use Rattle.hg_tree.specs.declared.asked.Change.TheVariants as the_change
use Rattle.hg_tree.specs.declared.asked.Outside.{Outside}
use Rattle.hg_tree.specs.declared.asked.Outside.TheVariants as a_change
use Rattle.hg_tree.specs.Moment.{Moment, Things, is_dir, is_dir_thing}

-- a thing at a path makes each ancestor a directory, of its time where it wasn't one, and keeps what was below the path only where
-- it is a directory
abbrev pub after_place : List ℕ → Thing → Time → Things → Things
after_place path thing time things at =
    if bytes_eq path at
    then Some (record { thing = thing; mtime = time })
    else (
    if is_below path at
    then (if is_dir_thing thing then things at else None)
    else (if is_below at path then (if is_dir (things at) then things at else Some (record { thing = a_thing.Dir; mtime = time })) else things at)
    )

-- a directory of that time
abbrev pub dir_of : Time → Placed
dir_of time = record { thing = a_thing.Dir; mtime = time }

-- a thing at a path, with a directory of its time at each ancestor where none was; what is below the path stays
abbrev pub with_parents : List ℕ → Placed → Things → Things
with_parents path placed things at =
    if bytes_eq path at
    then Some placed
    else (if is_below at path then (if is_dir (things at) then things at else Some (dir_of placed.mtime)) else things at)

-- nothing is left below the path
abbrev pub without_below : List ℕ → Things → Things
without_below path things at = if is_below path at then None else things at

-- nothing is left at the path and below it
abbrev pub after_take : List ℕ → Things → Things
after_take path things at = if bytes_eq path at || is_below path at then None else things at

-- the moment that a change of others makes of the one before
abbrev pub after_outside : Outside → Moment → Moment
after_outside (a_change.Place path thing time) moment = record moment { things = after_place path thing time moment.things }
after_outside (a_change.Take path) moment = record moment { things = after_take path moment.things }
after_outside (a_change.Clock time) moment = record moment { clock = time }

-- a change that others made
abbrev pub by_others : Outside → Change
by_others what = the_change.ByOthers what
