use Rattle.std.proofs.Common.{List, ℕ, Some, sym, subst, ◌≡◌}
use Rattle.hg_ignore.specs.Source.{BytesDuring}
use Rattle.hg_ignore.specs.State.{Piece}
use Rattle.hg_ignore.specs.declared.fault.IgnoreFault.TheVariants as a_fault
use Rattle.hg_ignore.proofs.Sourced.{absent_during, asked_for, asks_still, cause_of_size, counted_still, state_still, states_during, states_still, stood, texts_all}
use Rattle.hg_ignore.proofs.ignore.Ignore.read.Goals as goal

pub returns-in-Err-clause-oversize : goal.returns-in-Err-clause-oversize
returns-in-Err-clause-oversize g c = counted_still (List Piece) 1048576 (g.G.Regexps.oversize c.args.regexps.now) c.in-Err.fault c.in-Err.ensures.kind

pub returns-in-Ok-None-clause-asked_still : goal.returns-in-Ok-None-clause-asked_still
returns-in-Ok-None-clause-asked_still g c = λ ours. asks_still (g.T.Tree.history c.args.tree.now) (g.T.Tree.history c.read_bytes.new.tree) c.in-Ok-None.ensures.passes ours (c.in-Ok-None.ensures.asks ours.told)

pub returns-in-Ok-None-clause-still : goal.returns-in-Ok-None-clause-still
returns-in-Ok-None-clause-still g c = λ ours.
    let old = g.T.Tree.history c.args.tree.now in
    let new = g.T.Tree.history c.read_bytes.new.tree in
    state_still old new c.absent.result c.in-Ok-None.ensures.passes ours (absent_during old new c.absent.result (rw c.in-Ok-None.field-0-is at (c.in-Ok-None.ensures.found ours.told)) c.absent.ensures)

pub returns-in-Ok-Some-clause-asked_still : goal.returns-in-Ok-Some-clause-asked_still
returns-in-Ok-Some-clause-asked_still g c = λ ours.
    asked_for (g.T.Tree.history c.args.tree.now) (g.T.Tree.history c.read_bytes.new.tree) c.of_bytes.result c.in-Ok-Some.ensures.passes c.in-Ok-Some.ensures.asks ours

pub returns-in-Ok-Some-clause-still : goal.returns-in-Ok-Some-clause-still
returns-in-Ok-Some-clause-still g c = λ ours.
    let old = g.T.Tree.history c.args.tree.now in
    let new = g.T.Tree.history c.read_bytes.new.tree in
    let P : List ℕ → Type 0 = λ v. BytesDuring old new (Some v) in
    states_still (λ i. i) old new c.of_bytes.result c.in-Ok-Some.ensures.passes
    (λ told. states_during (λ i. i) old new c.as_slice.result.now c.of_bytes.result (subst P (sym c.as_slice.ensures.value) (rw c.in-Ok-Some.field-0-is at (c.in-Ok-Some.ensures.found told))) c.of_bytes.ensures.state) ours

pub returns-in-Err-clause-cause : goal.returns-in-Err-clause-cause
returns-in-Err-clause-cause g c = λ told. cause_of_size 1048576 (g.T.Tree.history c.args.tree.now) (g.T.Tree.history c.read_bytes.new.tree) c.in-Err.fault (c.in-Err.ensures.size told)

pub returns-in-Ok-Some-clause-texts : goal.returns-in-Ok-Some-clause-texts
returns-in-Ok-Some-clause-texts g c =
    texts_all (λ i. i) c.as_slice.result.now c.of_bytes.result (rw c.as_slice.ensures.value (rw c.in-Ok-Some.field-0-is at c.in-Ok-Some.ensures.within)) c.of_bytes.ensures.state c.of_bytes.ensures.utf8

pub returns-in-Ok-Some-clause-stayed : goal.returns-in-Ok-Some-clause-stayed
returns-in-Ok-Some-clause-stayed g c = stood (λ e. e ≡ a_fault.Failed) (g.T.Tree.faults c.args.tree.now) (g.T.Tree.faults c.read_bytes.new.tree) c.of_bytes.result c.in-Ok-Some.ensures.cause.quiet
