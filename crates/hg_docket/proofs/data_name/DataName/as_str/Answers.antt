use Rattle.std.proofs.Common.{take}
use Rattle.hg_docket.proofs.Ascii.{text_of_ascii}
use Rattle.hg_docket.proofs.data_name.DataName.as_str.Goals as goal

pub returns-in-Err : goal.returns-in-Err
returns-in-Err c = absurd (c.in-Err.ensures.cases.0 (rw c.split_at.ensures.front (text_of_ascii (take c.self.inside.len c.self.inside.bytes) c.self.invariant.1)))
