-- A map with one more key.
use Rattle.std.proofs.Common.{arith}
use Rattle.std.proofs.lemmas.Map.Text.{text_keys}
use Rattle.hg_tree.proofs.things.put.Goals as goal

pub returns-clause-put : goal.returns-clause-put
returns-clause-put c = λ at. grind (arith, text_keys)
