use Rattle.std.proofs.Common.{rules}
use Rattle.hg_server.proofs.Heads.{lacks}
use Rattle.hg_server.proofs.judging.missing.Goals as goal

pub returns : goal.returns
returns c =
    lacks c.args.n c.size_of-size.result c.args.part.now c.size_of-size.ensures.size c.size_of-size.ensures.bytes (search rules) (search rules) (search rules) (search rules) c.requires
