use Rattle.std.proofs.Common.{arith}
use Rattle.std.proofs.lemmas.Map.Text.{text_keys}
use Rattle.hg_shelf.proofs.files.set.Goals as goal

pub returns-clause-ok : goal.returns-clause-ok
returns-clause-ok c = λ at. grind (arith, text_keys)
