use Rattle.std.proofs.Common.{arith}
use Rattle.hg_glob.proofs.Bits.{shifted_up}
use Rattle.hg_glob.proofs.words.up.Goals as goal

pub returns : goal.returns
returns c =
    let s = shifted_up c.args.word 64 (omega arith) in
    record { front = s.0; more = s.1 }
