use Rattle.hg_append.proofs.LentIn.{lent_rows}
use Rattle.hg_append.proofs.OnImage.{on_image}
use Rattle.hg_append.proofs.ReadBehind.{counted, reads}
use Rattle.hg_append.proofs.laws.reads_back.Goals as goal

pub returns-clause-reads : goal.returns-clause-reads
returns-clause-reads c = λ held e over s. reads held e s (lent_rows held) (on_image held e.bytes.items over)

pub returns-clause-counted : goal.returns-clause-counted
returns-clause-counted c = λ held e over s. counted held e s (lent_rows held) (on_image held e.bytes.items over)
