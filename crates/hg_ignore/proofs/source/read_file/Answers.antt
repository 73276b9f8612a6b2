use Rattle.std.proofs.Common.{true, false}
use Rattle.hg_ignore.proofs.Sourced.{asks_may, asks_sure}
use Rattle.hg_ignore.proofs.source.read_file.Goals as goal

pub returns-then-n-most-clause-asked : goal.returns-then-n-most-clause-asked
returns-then-n-most-clause-asked g c = λ told. asks_may true (g.T.Tree.history c.args.tree.now) (g.T.Tree.history c.read.new.self) (c.in-Ok-Bytes.ensures.asked told)

pub returns-in-Err-clause-asked : goal.returns-in-Err-clause-asked
returns-in-Err-clause-asked g c = λ told. asks_may false (g.T.Tree.history c.args.tree.now) (g.T.Tree.history c.read.new.self) (c.in-Err.ensures.asked told)

pub returns-in-Ok-Absent-clause-asked : goal.returns-in-Ok-Absent-clause-asked
returns-in-Ok-Absent-clause-asked g c = λ told. asks_may true (g.T.Tree.history c.args.tree.now) (g.T.Tree.history c.read.new.self) (c.in-Ok-Absent.ensures.asked told)

pub returns-in-Ok-Absent-clause-asks : goal.returns-in-Ok-Absent-clause-asks
returns-in-Ok-Absent-clause-asks g c = λ told. asks_sure (g.T.Tree.history c.args.tree.now) (g.T.Tree.history c.read.new.self) (c.in-Ok-Absent.ensures.asked told)

pub returns-else-n-most-clause-asked : goal.returns-else-n-most-clause-asked
returns-else-n-most-clause-asked g c = λ told. asks_may true (g.T.Tree.history c.args.tree.now) (g.T.Tree.history c.read.new.self) (c.in-Ok-Bytes.ensures.asked told)

pub returns-else-n-most-clause-asks : goal.returns-else-n-most-clause-asks
returns-else-n-most-clause-asks g c = λ told. asks_sure (g.T.Tree.history c.args.tree.now) (g.T.Tree.history c.read.new.self) (c.in-Ok-Bytes.ensures.asked told)
