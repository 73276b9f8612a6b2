use Rattle.hg_append.proofs.LentIn.{lent_rows}
use Rattle.hg_append.proofs.OnImage.{on_image}
use Rattle.hg_append.proofs.ReadBehind.{stays}
use Rattle.hg_append.proofs.laws.lent_lists_stay.Goals as goal

pub returns : goal.returns
returns c = λ held e over s. stays held e s (lent_rows held) (on_image held e.bytes.items over)
