use Rattle.std.proofs.Common.{ℕ, ◌∙◌, [], ◌∷◌, ap, cond, inl, length}
use Rattle.std.specs.Prelude.{nat_lt}
use Rattle.hg_ops.specs.declared.putting.Piece.TheVariants as a_piece
use Rattle.hg_tree.proofs.Spans.{ours_first}
use Rattle.hg_tree.proofs.Touching.{changes_passes}
use Rattle.hg_ops.proofs.OwnPuts.{ended, kept_out, only_failed, only_put, part_of, put_failed, puts_made, taken}
use Rattle.hg_ops.proofs.Pieces.{put_refused, put_whole}
use Rattle.hg_ops.proofs.putting.put_piece.Goals as goal

pub returns-in-Err-clause-only : goal.returns-in-Err-clause-only
returns-in-Err-clause-only g c = λ told. changes_passes (c.args.to.text.now ∷ []) (g.T.Tree.history c.args.tree.now) (g.T.Tree.history c.read_piece.new.tree) c.read_piece.ensures.passes

pub returns-in-Err-clause-failed : goal.returns-in-Err-clause-failed
returns-in-Err-clause-failed g c = λ small told. inl c.read_piece.ensures.passes

pub returns-in-Ok-None-clause-only : goal.returns-in-Ok-None-clause-only
returns-in-Ok-None-clause-only g c = λ told. changes_passes (c.args.to.text.now ∷ []) (g.T.Tree.history c.args.tree.now) (g.T.Tree.history c.read_piece.new.tree) c.read_piece.ensures.passes

pub returns-in-Ok-None-clause-found : goal.returns-in-Ok-None-clause-found
returns-in-Ok-None-clause-found g c = λ small told.
    record { passes = c.read_piece.ensures.passes; gone = (rw c.in-Ok-None.field-0-is at c.in-Ok-None.ensures.found) (c.read_piece.ensures.passes.past.told ∙ told) }

pub returns-then-is_end-clause-only : goal.returns-then-is_end-clause-only
returns-then-is_end-clause-only g c = λ told. changes_passes (c.args.to.text.now ∷ []) (g.T.Tree.history c.args.tree.now) (g.T.Tree.history c.read_piece.new.tree) c.read_piece.ensures.passes

pub returns-then-is_end-clause-found : goal.returns-then-is_end-clause-found
returns-then-is_end-clause-found g c = λ small.
    ended c.args.from.text.now c.args.to.text.now c.args.stat.now (g.T.Tree.history c.args.tree.now) (g.T.Tree.history c.read_piece.new.tree) c.args.place (length c.args.room.now) c.in-Ok-Some.n c.read_piece.ensures.passes
    (c.is_end.ensures.end c.if-is_end.true) c.requires.some (rw c.in-Ok-Some.field-0-is at c.in-Ok-Some.ensures.end)

pub returns-in-Err-put-clause-only : goal.returns-in-Err-put-clause-only
returns-in-Err-put-clause-only g c = λ told.
    only_failed c.args.from.text.now c.args.to.text.now c.args.stat.now (g.T.Tree.history c.args.tree.now) (g.T.Tree.history c.read_piece.new.tree) (g.T.Tree.history c.put.new.self) c.args.place _ c.read_piece.ensures.passes
    (c.put.ensures.formed (c.read_piece.ensures.passes.past.told ∙ told)) (c.in-Err-put.ensures.failed (c.read_piece.ensures.passes.past.told ∙ told))

pub returns-in-Err-put-clause-failed : goal.returns-in-Err-put-clause-failed
returns-in-Err-put-clause-failed g c = λ small told.
    put_failed c.args.from.text.now c.args.to.text.now c.args.stat.now (g.T.Tree.history c.args.tree.now) (g.T.Tree.history c.read_piece.new.tree) (g.T.Tree.history c.put.new.self) c.args.place _ c.read_piece.ensures.passes
    (part_of c.args.from.text.now c.args.to.text.now c.args.stat.now (g.T.Tree.history c.args.tree.now) (g.T.Tree.history c.read_piece.new.tree) (g.T.Tree.history c.put.new.self) c.args.place (length c.args.room.now) c.in-Ok-Some.n c.read_piece.new.room c.read_piece.ensures.passes
    c.put.ensures.past (c.read_piece.ensures.passes.past.told ∙ told) c.requires.within small c.read_piece.ensures.room (c.is_end.ensures.more c.if-is_end.false) (rw c.in-Ok-Some.field-0-is at c.in-Ok-Some.ensures.found))
    (c.in-Err-put.ensures.failed (c.read_piece.ensures.passes.past.told ∙ told))

pub returns-in-Ok-true-clause-only : goal.returns-in-Ok-true-clause-only
returns-in-Ok-true-clause-only g c = λ told.
    only_put c.args.from.text.now c.args.to.text.now c.args.stat.now (g.T.Tree.history c.args.tree.now) (g.T.Tree.history c.read_piece.new.tree) (g.T.Tree.history c.put.new.self) c.args.place _ c.read_piece.ensures.passes _
    (c.put.ensures.formed (c.read_piece.ensures.passes.past.told ∙ told)) (c.in-Ok-true.ensures.done (c.read_piece.ensures.passes.past.told ∙ told))

pub returns-in-Ok-false-clause-only : goal.returns-in-Ok-false-clause-only
returns-in-Ok-false-clause-only g c = λ told.
    only_put c.args.from.text.now c.args.to.text.now c.args.stat.now (g.T.Tree.history c.args.tree.now) (g.T.Tree.history c.read_piece.new.tree) (g.T.Tree.history c.put.new.self) c.args.place _ c.read_piece.ensures.passes _
    (c.put.ensures.formed (c.read_piece.ensures.passes.past.told ∙ told)) (c.in-Ok-false.ensures.done (c.read_piece.ensures.passes.past.told ∙ told))

pub returns-in-Ok-false-clause-found : goal.returns-in-Ok-false-clause-found
returns-in-Ok-false-clause-found g c = λ small told.
    kept_out c.args.from.text.now c.args.to.text.now c.args.stat.now (g.T.Tree.history c.args.tree.now) (g.T.Tree.history c.read_piece.new.tree) (g.T.Tree.history c.put.new.self) c.args.place _ c.read_piece.ensures.passes
    (part_of c.args.from.text.now c.args.to.text.now c.args.stat.now (g.T.Tree.history c.args.tree.now) (g.T.Tree.history c.read_piece.new.tree) (g.T.Tree.history c.put.new.self) c.args.place (length c.args.room.now) c.in-Ok-Some.n c.read_piece.new.room c.read_piece.ensures.passes
    c.put.ensures.past (c.read_piece.ensures.passes.past.told ∙ told) c.requires.within small c.read_piece.ensures.room (c.is_end.ensures.more c.if-is_end.false) (rw c.in-Ok-Some.field-0-is at c.in-Ok-Some.ensures.found))
    (rw c.in-Ok-false.field-0-test at (c.in-Ok-false.ensures.done (c.read_piece.ensures.passes.past.told ∙ told)))

pub returns-in-Ok-true-clause-found : goal.returns-in-Ok-true-clause-found
returns-in-Ok-true-clause-found g c = λ small.
    puts_made c.args.from.text.now c.args.to.text.now c.args.stat.now (g.T.Tree.history c.args.tree.now) (g.T.Tree.history c.read_piece.new.tree) (g.T.Tree.history c.put.new.self) c.args.place _ c.read_piece.ensures.passes (length c.args.room.now) c.in-Ok-Some.n
    (taken c.read_piece.new.room c.in-Ok-Some.n (length c.args.room.now) c.read_piece.ensures.room (rw c.in-Ok-Some.field-0-is at c.in-Ok-Some.ensures.found).0)
    (rw c.in-Ok-Some.field-0-is at c.in-Ok-Some.ensures.found).0
    (λ told. (part_of c.args.from.text.now c.args.to.text.now c.args.stat.now (g.T.Tree.history c.args.tree.now) (g.T.Tree.history c.read_piece.new.tree) (g.T.Tree.history c.put.new.self) c.args.place (length c.args.room.now) c.in-Ok-Some.n c.read_piece.new.room c.read_piece.ensures.passes
    c.put.ensures.past (c.read_piece.ensures.passes.past.told ∙ told) c.requires.within small c.read_piece.ensures.room (c.is_end.ensures.more c.if-is_end.false) (rw c.in-Ok-Some.field-0-is at c.in-Ok-Some.ensures.found)))
    (rw c.in-Ok-Some.field-0-is at c.in-Ok-Some.ensures.end)
    (λ told. rw c.in-Ok-true.field-0-test at (c.in-Ok-true.ensures.done (c.read_piece.ensures.passes.past.told ∙ told))) c.piece_put.result
    (c.piece_put.ensures ∙ ap (λ (w : ℕ). cond (nat_lt c.in-Ok-Some.n w) a_piece.End a_piece.More) c.read_piece.ensures.room)

pub returns-in-Ok-true-clause-whole : goal.returns-in-Ok-true-clause-whole
returns-in-Ok-true-clause-whole g c = λ ours bytes there fits can.
    put_whole c.args.to.text.now c.args.stat.now c.args.place (length c.args.room.now) c.in-Ok-Some.n bytes c.read_piece.new.room
    (rw c.in-Ok-Some.field-0-is at (c.in-Ok-Some.ensures.whole (ours_first (g.T.Tree.history c.args.tree.now) (g.T.Tree.history c.read_piece.new.tree) (g.T.Tree.history c.put.new.self) c.put.ensures.past ours) bytes there fits))
    (g.T.Tree.history c.args.tree.now) (g.T.Tree.history c.read_piece.new.tree) (g.T.Tree.history c.put.new.self) c.piece_put.result c.read_piece.ensures.passes ours
    (c.piece_put.ensures ∙ ap (λ (w : ℕ). cond (nat_lt c.in-Ok-Some.n w) a_piece.End a_piece.More) c.read_piece.ensures.room)
    (rw c.in-Ok-true.field-0-test at (c.in-Ok-true.ensures.done (c.read_piece.ensures.passes.past.told ∙ ours.told)))

pub returns-in-Ok-false-clause-whole : goal.returns-in-Ok-false-clause-whole
returns-in-Ok-false-clause-whole g c = λ ours bytes there fits can.
    put_refused c.args.to.text.now c.args.stat.now c.args.place (length c.args.room.now) c.in-Ok-Some.n bytes c.read_piece.new.room
    (rw c.in-Ok-Some.field-0-is at (c.in-Ok-Some.ensures.whole (ours_first (g.T.Tree.history c.args.tree.now) (g.T.Tree.history c.read_piece.new.tree) (g.T.Tree.history c.put.new.self) c.put.ensures.past ours) bytes there fits))
    (g.T.Tree.history c.args.tree.now) (g.T.Tree.history c.read_piece.new.tree) (g.T.Tree.history c.put.new.self) _ c.read_piece.ensures.passes ours
    (rw c.in-Ok-false.field-0-test at (c.in-Ok-false.ensures.done (c.read_piece.ensures.passes.past.told ∙ ours.told))).0
    (rw c.in-Ok-false.field-0-test at (c.in-Ok-false.ensures.done (c.read_piece.ensures.passes.past.told ∙ ours.told))).1 can
