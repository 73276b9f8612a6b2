use Rattle.std.proofs.Common.{◌<◌, length, arith}
use Rattle.std.proofs.lemmas.Result.{err_from_is_err_and}
use Rattle.std.proofs.lemmas.Bool.Decides.{nat_tests}
use Rattle.hg_lines.proofs.Answering.{read_end, read_last, text_end, text_last}
use Rattle.hg_lines.proofs.lines.Lines.next.Goals as goal

pub returns-in_err-hand-clause-reads : goal.returns-in_err-hand-clause-reads
returns-in_err-hand-clause-reads g c =
    let p = err_from_is_err_and c.from_residual-in_err-hand.result c.from_residual-in_err-hand.ensures.1 in
    let ends = rw c.if-branch.true at c.in_ok-reach.ensures.ok in
    rw (p.1, p.2, c.in_err-hand.ensures.err)
    (text_end c.args.self.now c.reach.new.self _ _ c.reach.ensures.still c.reach.ensures.all _ ends c.hand.ensures.whole c.hand.ensures.short c.in_err-hand.ensures.text)

pub returns-then-branch-clause-reads : goal.returns-then-branch-clause-reads
returns-then-branch-clause-reads g c =
    let ends = rw c.if-branch.true at c.in_ok-reach.ensures.ok in
    let text = c.in_ok-hand.ensures.text.0 in
    rw (c.in_ok-hand.ensures.ok, text) (read_end c.args.self.now c.reach.new.self _ _ c.reach.ensures.still c.reach.ensures.all ends (rw text at c.in_ok-hand.ensures.fine))

pub returns-in_err-hand-2-clause-reads : goal.returns-in_err-hand-2-clause-reads
returns-in_err-hand-2-clause-reads g c =
    let p = err_from_is_err_and c.from_residual-in_err-hand-2.result c.from_residual-in_err-hand-2.ensures.1 in
    let end = rw c.if-branch.false at c.in_ok-reach.ensures.ok in
    let some : 0 < length c.reach.new.self.line = grind (arith, nat_tests, c.if-is_done.false, c.is_done.ensures.done) in
    rw (p.1, p.2, c.in_err-hand-2.ensures.err)
    (text_last c.args.self.now c.reach.new.self _ _ c.reach.ensures.still c.reach.ensures.all _ end.0 end.1 some c.is_done.ensures.room c.hand-2.ensures.whole c.hand-2.ensures.short c.in_err-hand-2.ensures.text)

pub returns-clause-reads : goal.returns-clause-reads
returns-clause-reads g c =
    let end = rw c.if-branch.false at c.in_ok-reach.ensures.ok in
    let some : 0 < length c.reach.new.self.line = grind (arith, nat_tests, c.if-is_done.false, c.is_done.ensures.done) in
    let text = c.in_ok-hand-2.ensures.text.0 in
    rw (c.in_ok-hand-2.ensures.ok, text)
    (read_last c.args.self.now c.reach.new.self _ _ c.reach.ensures.still c.reach.ensures.all end.0 end.1 some c.is_done.ensures.room (rw text at c.in_ok-hand-2.ensures.fine))
