use Rattle.hg_include.proofs.Sound.{kinds_read, texts_read}
use Rattle.hg_include.proofs.Still.{still_answer, still_asks}
use Rattle.hg_include.proofs.reading.read_pieces.Goals as goal

pub returns-clause-still : goal.returns-clause-still
returns-clause-still g c =
    still_answer 1048576 256 (g.T.Tree.history c.args.tree.now) (g.T.Tree.history c.read_within.new.tree) c.read_within.result c.read_within.ensures.passes c.read_within.ensures.read c.read_within.ensures.stops

pub returns-clause-asked_still : goal.returns-clause-asked_still
returns-clause-asked_still g c =
    still_asks 1048576 256 (g.T.Tree.history c.args.tree.now) (g.T.Tree.history c.read_within.new.tree) c.read_within.result c.read_within.ensures.passes c.read_within.ensures.read c.read_within.ensures.stops

pub returns-clause-texts : goal.returns-clause-texts
returns-clause-texts g c = texts_read 1048576 256 (g.T.Tree.history c.args.tree.now) (g.T.Tree.history c.read_within.new.tree) c.read_within.result c.read_within.ensures.read

pub returns-clause-kind : goal.returns-clause-kind
returns-clause-kind g c = kinds_read 1048576 256 (g.T.Tree.history c.args.tree.now) (g.T.Tree.history c.read_within.new.tree) c.read_within.result c.read_within.ensures.stops
