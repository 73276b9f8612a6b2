use Rattle.std.proofs.Common.{◌+◌, [], arith, drop, ◌∙◌}
use Rattle.std.proofs.lemmas.Result.{err_from_is_err_and}
use Rattle.hg_tree.proofs.Spans.{passes_trans}
use Rattle.hg_include.specs.Reading.{tasks_of}
use Rattle.hg_include.proofs.Leading.{leads_deeper, leads_line, next_line, stops_deeper, stops_line}
use Rattle.hg_include.proofs.reading.+read_lines.Goals as goal
use Rattle.hg_include.proofs.reading.+read_lines.Goals.{in-Some+in_ok-read_lines, in_default}

pub returns-in_err-next-clause-stops : goal.returns-in_err-next-clause-stops
returns-in_err-next-clause-stops g t c =
    let p = err_from_is_err_and c.from_residual.result c.from_residual.ensures.1 in
    let all = c.args.opened.now.lines.items in
    let e = next_line c.deref-line-items.result.now all c.loop-line.line-index c.line-item.result c.deref-line-items.ensures.value c.loop-line-test.true c.line-item.is in
    rw (p.1, p.2)
    (stops_line c.args.most c.args.limit (g.T.Tree.history c.args.tree.now) (g.T.Tree.history c.loop-line.tree) (g.T.Tree.history c.take.new.tree) c.args.pieces.now c.loop-line.pieces
    (tasks_of c.args.opened.now.target all) c.args.opened.now.target (drop c.loop-line.line-index all) (drop (c.loop-line.line-index + 1) all) c.line-item.result _
    c.loop-line.invariant.passes c.loop-line.invariant.goes e c.in_err-next.ensures.stops)

pub returns-in_err-read_lines-clause-stops : goal.returns-in_err-read_lines-clause-stops
returns-in_err-read_lines-clause-stops g t c =
    let p = err_from_is_err_and c.from_residual-in_err-read_lines.result c.from_residual-in_err-read_lines.ensures.1 in
    let all = c.args.opened.now.lines.items in
    let e = next_line c.deref-line-items.result.now all c.loop-line.line-index c.line-item.result c.deref-line-items.ensures.value c.loop-line-test.true c.line-item.is in
    let goes = rw c.in-Some.is at c.in_ok-next.ensures.goes in
    rw (p.1, p.2)
    (stops_deeper c.args.most c.args.limit (g.T.Tree.history c.args.tree.now) (g.T.Tree.history c.loop-line.tree) (g.T.Tree.history c.take.new.tree) (g.T.Tree.history c.read_lines.new.tree)
    c.args.pieces.now c.loop-line.pieces c.take.new.pieces
    (tasks_of c.args.opened.now.target all) c.args.opened.now.target (drop c.loop-line.line-index all) (drop (c.loop-line.line-index + 1) all) c.line-item.result
    (tasks_of c.in-Some.next.target c.in-Some.next.lines.items) _
    c.loop-line.invariant.passes c.in_ok-next.ensures.passes c.loop-line.invariant.goes e goes c.in_err-read_lines.ensures.stops)

pub loop-line-preserved : goal.loop-line-preserved
loop-line-preserved g t c =
    let all = c.args.opened.now.lines.items in
    let e = next_line c.deref-line-items.result.now all c.loop-line.line-index c.line-item.result c.deref-line-items.ensures.value c.loop-line-test.true c.line-item.is in
    elim c.match-branch-2.branch [
      | in-Some+in_ok-read_lines w ↦
          let goes = rw w.in-Some.is at c.in_ok-next.ensures.goes in
          let grows = rw w.in-Some.is at c.in_ok-next.ensures.grows in
          rw (w.tree-is, w.pieces-is) (record {
            passes = passes_trans _ _ _ (passes_trans _ _ _ c.loop-line.invariant.passes c.in_ok-next.ensures.passes) w.in_ok-read_lines.ensures.passes;
            goes = leads_deeper c.args.most c.args.limit (g.T.Tree.history c.args.tree.now) (g.T.Tree.history c.loop-line.tree) (g.T.Tree.history c.take.new.tree) (g.T.Tree.history w.read_lines.new.tree)
                c.args.pieces.now c.loop-line.pieces c.take.new.pieces w.read_lines.new.pieces
                (tasks_of c.args.opened.now.target all) c.args.opened.now.target (drop c.loop-line.line-index all) (drop (c.loop-line.line-index + 1) all) c.line-item.result
                (tasks_of w.in-Some.next.target w.in-Some.next.lines.items)
                c.loop-line.invariant.passes c.in_ok-next.ensures.passes c.loop-line.invariant.goes e goes w.in_ok-read_lines.ensures.goes;
            grows = omega (arith, grows.0, grows.1, c.loop-line.invariant.grows, w.in_ok-read_lines.ensures.grows);
            still = w.in_ok-read_lines.ensures.cause.quiet ∙ c.in_ok-next.ensures.cause.quiet ∙ c.loop-line.invariant.still;
          })
      | in_default w ↦
          let goes = rw w.in_default.is at c.in_ok-next.ensures.goes in
          let grows = rw w.in_default.is at c.in_ok-next.ensures.grows in
          rw (w.tree-is, w.pieces-is) (record {
            passes = passes_trans _ _ _ c.loop-line.invariant.passes c.in_ok-next.ensures.passes;
            goes = leads_line c.args.most c.args.limit (g.T.Tree.history c.args.tree.now) (g.T.Tree.history c.loop-line.tree) (g.T.Tree.history c.take.new.tree) c.args.pieces.now c.loop-line.pieces c.take.new.pieces
                (tasks_of c.args.opened.now.target all) c.args.opened.now.target (drop c.loop-line.line-index all) (drop (c.loop-line.line-index + 1) all) c.line-item.result []
                c.loop-line.invariant.passes c.loop-line.invariant.goes e goes;
            grows = omega (arith, grows, c.loop-line.invariant.grows);
            still = c.in_ok-next.ensures.cause.quiet ∙ c.loop-line.invariant.still;
          })
    ]
