use Rattle.std.proofs.Common.{option_map, sym, ap, ◌∙◌}
use Rattle.hg_entry.specs.Entry.{view}
use Rattle.hg_mixed.specs.Held.{table}
use Rattle.hg_walk.specs.Applying.{clean_note}
use Rattle.hg_walk.proofs.OneNote.{no_edit}
use Rattle.hg_walk.proofs.applying.put_clean.Goals as goal

pub returns-in-None-clause-edit : goal.returns-in-None-clause-edit
returns-in-None-clause-edit c =
    no_edit (clean_note c.args.note.now) c.args.mixed.now (ap (table c.args.mixed.now).entries (sym c.as_ref.ensures) ∙ sym c.entry_at.ensures.entry ∙ ap (option_map view) c.in-None.is)
