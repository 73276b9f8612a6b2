use Rattle.std.proofs.Common.{◌<◌, arith}
use Rattle.std.proofs.lemmas.Result.{on_ok_weaker}
use Rattle.hg_gen.proofs.Entering.{none_more, one_more}
use Rattle.hg_gen.proofs.recording.record_file.Goals as goal

pub returns-in-None-clause-entries : goal.returns-in-None-clause-entries
returns-in-None-clause-entries c =
    let small : c.args.file < 32000 = omega (arith, c.requires) in
    λ upto. none_more c.args.file _ upto (omega arith) c.in-None.ensures

pub returns-in-Some-clause-entries : goal.returns-in-Some-clause-entries
returns-in-Some-clause-entries c =
    let small : c.args.file < 32000 = omega (arith, c.requires) in
    on_ok_weaker c.set_entry.result (λ same upto. one_more c.args.file _ upto (omega arith) _ _ c.in-Some.ensures same) c.set_entry.ensures.table
