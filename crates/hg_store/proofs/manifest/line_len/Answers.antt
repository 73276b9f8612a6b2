use Rattle.std.proofs.Common.{length, ap, ◌∙◌, arith}
use Rattle.hg_store.proofs.Lines.{line_long}
use Rattle.hg_store.proofs.manifest.line_len.Goals as goal

pub returns : goal.returns
returns c =
    let long = line_long c.args.row.now c.digits_of-digits.result c.digits_of-digits.ensures in
    let path = ap length (c.as_str.ensures ∙ c.as_ref.ensures) in
    let flag = ap length c.flag_of.ensures in
    grind (arith, long, path, flag)
