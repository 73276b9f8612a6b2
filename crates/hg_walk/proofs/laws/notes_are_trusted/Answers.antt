use Rattle.hg_walk.proofs.Growing.{notes_are_trusted}
use Rattle.hg_walk.proofs.laws.notes_are_trusted.Goals as goal

pub returns : goal.returns
returns c = notes_are_trusted
