use Rattle.std.proofs.Common.{map, ap, ◌∙◌, ◌∷◌, []}
use Rattle.std.proofs.lemmas.List.{map-append}
use Rattle.hg_mixed.specs.Held.{table}
use Rattle.hg_walk.specs.Applying.{dir_note}
use Rattle.hg_walk.specs.Writing.{WritesSeen}
use Rattle.hg_walk.proofs.Applied.{among, seen_start, seen_step, still_bare}
use Rattle.hg_walk.proofs.applying.put_all_seen.Goals as goal

pub loop-note-init : goal.loop-note-init
loop-note-init c = seen_start (map dir_note c.args.notes.items) c.args.mixed.now

pub put_seen-requires : goal.put_seen-requires
put_seen-requires c =
    still_bare (table c.args.mixed.now) (table c.loop-note.mixed) c.in-Some.note.dir (c.loop-note.invariant.written.made.nodes c.in-Some.note.dir) (c.loop-note.invariant.written.made.entries c.in-Some.note.dir)
    (c.requires (dir_note c.in-Some.note)
    (among WritesSeen (map dir_note c.args.notes.items) (map dir_note c.loop-note.notes.items) (map dir_note c.pop.new.self.items) (dir_note c.in-Some.note) c.args.mixed.now c.loop-note.mixed
    (ap (map dir_note) c.in-Some.ensures.items ∙ map-append dir_note c.pop.new.self.items (c.in-Some.note ∷ [])) c.loop-note.invariant))

pub loop-note-preserved : goal.loop-note-preserved
loop-note-preserved c =
    seen_step (map dir_note c.args.notes.items) (map dir_note c.loop-note.notes.items) (map dir_note c.pop.new.self.items) (dir_note c.in-Some.note) c.args.mixed.now c.loop-note.mixed c.put_seen.new.mixed
    (ap (map dir_note) c.in-Some.ensures.items ∙ map-append dir_note c.pop.new.self.items (c.in-Some.note ∷ [])) c.loop-note.invariant c.in_ok-put_seen.ensures.edit c.put_seen.ensures.image
