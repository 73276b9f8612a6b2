use Rattle.std.proofs.Common.{arith}
use Rattle.hg_glob.proofs.Bits.{shifted_up, smears}
use Rattle.hg_glob.proofs.words.smear.Goals as goal

pub returns : goal.returns
returns c =
    let s = shifted_up c.args.word 64 (omega arith) in
    smears c.args.word c.args.mask _ c.requires (record { front = s.0; more = s.1 })
