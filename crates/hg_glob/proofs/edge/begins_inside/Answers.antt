use Rattle.std.proofs.Common.{sym, ◌∙◌, rules, IsUtf8}
use Rattle.hg_glob.proofs.Edges.{begins_nowhere, begins_more}
use Rattle.hg_glob.proofs.edge.begins_inside.Goals as goal

pub returns-in-None : goal.returns-in-None
returns-in-None c = λ a rest e in_front. absurd (begins_nowhere c.args.path.now c.args.head.now c.loop-left.left.now c.loop-left.invariant.1 (sym c.begins.ensures ∙ c.loop-left-test.true) c.in-None.ensures a rest e in_front)

pub loop-left-preserved : goal.loop-left-preserved
loop-left-preserved c =
    let text : IsUtf8 c.in-Some.behind.now = search rules in
    (text, begins_more c.args.path.now c.args.head.now c.loop-left.left.now _ c.in-Some.behind.now c.loop-left.invariant.1 (sym c.begins.ensures ∙ c.loop-left-test.true) c.in-Some.ensures.0 c.in-Some.ensures.1)
