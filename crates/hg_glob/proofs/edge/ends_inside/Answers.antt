use Rattle.std.proofs.Common.{sym, ◌∙◌, rules, IsUtf8}
use Rattle.hg_glob.proofs.Edges.{ends_nowhere, ends_more}
use Rattle.hg_glob.proofs.edge.ends_inside.Goals as goal

pub returns-in-None : goal.returns-in-None
returns-in-None c = λ front d e back. absurd (ends_nowhere c.args.path.now c.args.tail.now c.loop-left.left.now c.loop-left.invariant.1 (sym c.ends.ensures ∙ c.loop-left-test.true) c.in-None.ensures front d e back)

pub loop-left-preserved : goal.loop-left-preserved
loop-left-preserved c =
    let text : IsUtf8 c.in-Some.before.now = search rules in
    (text, ends_more c.args.path.now c.args.tail.now c.loop-left.left.now c.in-Some.before.now _ c.loop-left.invariant.1 (sym c.ends.ensures ∙ c.loop-left-test.true) c.in-Some.ensures.0 c.in-Some.ensures.1)
