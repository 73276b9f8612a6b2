use Rattle.std.proofs.Common.{◌≡◌, ◌++◌, codes, take, true, arith}
use Rattle.std.proofs.lemmas.Grind.{common_steps}
use Rattle.hg_docket.specs.Name.{is_name}
use Rattle.hg_docket.proofs.Ascii.{ascii_file_name, name_parts}
use Rattle.hg_docket.proofs.data_name.DataName.of.Goals as goal

pub invariant_of-result : goal.invariant_of-result
invariant_of-result c =
    let text : take c.put-len.result c.put-len.new.bytes ≡ codes "dirstate." ++ c.as_bytes-id.result.now = grind (arith, common_steps) in
    let name : is_name c.as_bytes-id.result.now ≡ true = rw c.as_bytes-id.ensures.bytes c.as_bytes-id.ensures.name in
    let parts = name_parts c.as_bytes-id.result.now name in
    (omega (arith, parts.0), rw text (ascii_file_name c.as_bytes-id.result.now parts.1))
