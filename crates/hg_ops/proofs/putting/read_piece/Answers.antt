use Rattle.std.proofs.Common.{ℕ, List, Option, sym, ap, ◌∙◌, subst}
use Rattle.hg_base.specs.Reads.{ReadsBytes}
use Rattle.hg_base.specs.declared.stat.Got.TheVariants as a_got
use Rattle.hg_tree.specs.History.{now}
use Rattle.hg_tree.specs.Moment.{Moment, bytes_at}
use Rattle.hg_tree.proofs.Spans.{now_same}
use Rattle.hg_ops.proofs.Pieces.{end_at, read_whole}
use Rattle.hg_ops.proofs.putting.read_piece.Goals as goal

pub returns-in-Ok-Bytes-clause-whole : goal.returns-in-Ok-Bytes-clause-whole
returns-in-Ok-Bytes-clause-whole g c = λ ours bytes there fits.
    read_whole c.args.room.now c.read.new.buf bytes c.args.place c.in-Ok-Bytes.n
    (subst (λ (b : Option (List ℕ)). ReadsBytes b c.args.place c.args.room.now c.read.new.buf (a_got.Bytes c.in-Ok-Bytes.n))
    (ap (λ (m : Moment). bytes_at m c.args.from.text.now) (now_same (g.T.Tree.history c.args.tree.now) (g.T.Tree.history c.read.new.self) c.read.ensures.passes ours) ∙ there)
    (rw c.in-Ok-Bytes.field-0-is at (c.in-Ok-Bytes.ensures.found ours.told)))
    fits

pub returns-in-Ok-Bytes-clause-end : goal.returns-in-Ok-Bytes-clause-end
returns-in-Ok-Bytes-clause-end g c = λ told less.
    end_at (bytes_at (now (g.T.Tree.history c.read.new.self)) c.args.from.text.now) c.args.room.now c.read.new.buf c.args.place c.in-Ok-Bytes.n
    (rw c.in-Ok-Bytes.field-0-is at (c.in-Ok-Bytes.ensures.found (sym c.read.ensures.passes.past.told ∙ told))) less
