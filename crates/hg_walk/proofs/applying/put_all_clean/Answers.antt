use Rattle.std.proofs.Common.{map, ap, ◌∙◌, ◌∷◌, []}
use Rattle.std.proofs.lemmas.List.{map-append}
use Rattle.hg_walk.specs.Applying.{clean_note}
use Rattle.hg_walk.specs.Writing.{WritesClean}
use Rattle.hg_walk.proofs.Applied.{among, clean_start, clean_step}
use Rattle.hg_walk.proofs.applying.put_all_clean.Goals as goal

pub loop-note-init : goal.loop-note-init
loop-note-init c = clean_start (map clean_note c.args.notes.items) c.args.mixed.now

pub put_clean-requires : goal.put_clean-requires
put_clean-requires c =
    c.requires (clean_note c.in-Some.note)
    (among WritesClean (map clean_note c.args.notes.items) (map clean_note c.loop-note.notes.items) (map clean_note c.pop.new.self.items) (clean_note c.in-Some.note) c.args.mixed.now c.loop-note.mixed
    (ap (map clean_note) c.in-Some.ensures.items ∙ map-append clean_note c.pop.new.self.items (c.in-Some.note ∷ [])) c.loop-note.invariant)

pub loop-note-preserved : goal.loop-note-preserved
loop-note-preserved c =
    clean_step (map clean_note c.args.notes.items) (map clean_note c.loop-note.notes.items) (map clean_note c.pop.new.self.items) (clean_note c.in-Some.note) c.args.mixed.now c.loop-note.mixed c.put_clean.new.mixed
    (ap (map clean_note) c.in-Some.ensures.items ∙ map-append clean_note c.pop.new.self.items (c.in-Some.note ∷ [])) c.loop-note.invariant c.in_ok-put_clean.ensures.edit c.put_clean.ensures.image
