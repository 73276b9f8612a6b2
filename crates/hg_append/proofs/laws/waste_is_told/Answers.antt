use Rattle.hg_append.proofs.LentIn.{lent_rows}
use Rattle.hg_append.proofs.OnImage.{on_image}
use Rattle.hg_append.proofs.ReadBehind.{exactly, wasted}
use Rattle.hg_append.proofs.laws.waste_is_told.Goals as goal

pub returns-clause-exact : goal.returns-clause-exact
returns-clause-exact c = λ held e over s exact. exactly held e s (lent_rows held) (on_image held e.bytes.items over) exact

pub returns-clause-waste : goal.returns-clause-waste
returns-clause-waste c = λ held e over s exact. wasted held e s (lent_rows held) (on_image held e.bytes.items over) exact
