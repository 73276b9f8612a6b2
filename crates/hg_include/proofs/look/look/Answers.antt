use Rattle.hg_include.proofs.Looks.{all_fail, all_given, large_given, none_given}
use Rattle.hg_tree.proofs.Spans.{passes_trans}
use Rattle.hg_include.proofs.look.look.Goals as goal

pub returns-then-size-most-clause-gives : goal.returns-then-size-most-clause-gives
returns-then-size-most-clause-gives g c =
    large_given c.args.most c.in-Some.size c.args.path.text.now (g.T.Tree.history c.args.tree.now) (g.T.Tree.history c.stat.new.self) c.in-Ok.found c.in-Ok.ensures.passes
    c.in-Ok.ensures.asked c.in-Ok.ensures.found c.in-Some.ensures c.if-size-most.true

pub returns-in-None-clause-gives : goal.returns-in-None-clause-gives
returns-in-None-clause-gives g c =
    none_given c.args.most c.args.path.text.now (g.T.Tree.history c.args.tree.now) (g.T.Tree.history c.stat.new.self) c.in-Ok.found c.in-Ok.ensures.passes
    c.in-Ok.ensures.asked c.in-Ok.ensures.found c.in-None.ensures

pub returns-else-size-most-clause-gives : goal.returns-else-size-most-clause-gives
returns-else-size-most-clause-gives g c =
    all_given c.args.most c.in-Some.size c.args.path.text.now (g.T.Tree.history c.args.tree.now) (g.T.Tree.history c.stat.new.self) (g.T.Tree.history c.read_file.new.tree) c.in-Ok.found c.read_file.result
    c.in-Ok.ensures.passes c.read_file.ensures.passes c.in-Ok.ensures.asked c.in-Ok.ensures.found c.in-Some.ensures c.if-size-most.false c.read_file.ensures.gives

pub returns-else-size-most-clause-fails : goal.returns-else-size-most-clause-fails
returns-else-size-most-clause-fails g c =
    let both = passes_trans _ _ _ c.in-Ok.ensures.passes c.read_file.ensures.passes in
    all_fail c.args.most c.in-Some.size c.args.path.text.now (g.T.Tree.history c.args.tree.now) (g.T.Tree.history c.stat.new.self) (g.T.Tree.history c.read_file.new.tree) c.in-Ok.found c.read_file.result
    c.in-Ok.ensures.passes c.read_file.ensures.passes both c.in-Ok.ensures.asked c.in-Ok.ensures.found c.in-Some.ensures c.if-size-most.false c.read_file.ensures.fails
