use Rattle.std.proofs.Common.{◌<◌, List, ℕ, length, reverse, chars, sym, ◌∙◌, subst, arith}
use Rattle.std.proofs.lemmas.Bool.Decides.{not_from_Decides}
use Rattle.hg_glob.specs.Kept.{HasEnd}
use Rattle.hg_glob.specs.declared.part.Part.{Part}
use Rattle.hg_glob.specs.declared.globs.GlobLine.{GlobLine}
use Rattle.hg_glob.proofs.Together.{LineStands, row_len, shared_len, line_at, read_at, parts_at_place, far_first, far_next, far_more, far_over, out_stands}
use Rattle.hg_glob.proofs.globs.some_long.Goals as goal
use Rattle.hg_glob.proofs.globs.some_long.Goals.{then-not-is_over+else-matches_end_of, else-not-is_over}

pub loop-i-init : goal.loop-i-init
loop-i-init c = record {
  few = omega arith;
  gone = far_first c.args.subject.now c.subject.inside.short c.args.lines.now c.args.row.now c.args.shared.now c.begin_reach.new.reaches c.requires.shared (c.begin_reach.ensures (chars c.args.subject.now));
}

pub bounds-shared-i : goal.bounds-shared-i
bounds-shared-i c = omega (arith, shared_len c.args.lines.now c.args.row.now c.args.shared.now c.requires.row c.requires.shared)

pub loop-i-preserved-then-len-common : goal.loop-i-preserved-then-len-common
loop-i-preserved-then-len-common c =
    let last = subst (λ t. HasEnd (chars t) (reverse c.subject.inside.short)) c.subject.view_is c.subject.invariant.last in
    let counted : c.loop-i.i < length c.args.shared.now = omega (arith, shared_len c.args.lines.now c.args.row.now c.args.shared.now c.requires.row c.requires.shared) in
    record {
      few = c.loop-i.invariant.few;
      gone = far_over c.args.subject.now c.subject.inside.short c.args.lines.now c.args.row.now c.args.shared.now c.loop-i.i c.loop-i.len c.loop-i.reaches c.loop-i.is_over last c.loop-i.invariant.gone c.requires.row c.loop-i-test.true counted c.if-is_over.true (omega arith);
    }

pub loop-i-preserved : goal.loop-i-preserved
loop-i-preserved c =
    let path : List ℕ = c.args.subject.now in
    let xs : List ℕ = c.subject.inside.short in
    let lines : List GlobLine = c.args.lines.now in
    let i : ℕ = c.loop-i.i in
    let parts : List Part = c.at-parts.result.now in
    let laid : i < length c.args.row.now = omega (arith, row_len lines c.args.row.now c.requires.row) in
    let counted : i < length c.args.shared.now = omega (arith, shared_len lines c.args.row.now c.args.shared.now c.requires.row c.requires.shared) in
    let last = subst (λ t. HasEnd (chars t) (reverse xs)) c.subject.view_is c.subject.invariant.last in
    let parts_are = parts_at_place lines c.args.row.now parts i c.requires.row c.loop-i-test.true c.at-parts.ensures.parts in
    let start = far_next path xs lines c.args.row.now c.args.shared.now i c.loop-i.len c.min-from.result c.loop-i.reaches c.loop-i.is_over parts c.loop-i.invariant.gone laid counted c.at-parts.ensures.parts (omega arith) (omega arith) in
    let trail = c.follow_far-len.ensures.reaches (chars path) last start in
    let go = far_more path xs lines c.args.row.now c.args.shared.now i c.loop-i.len c.follow_far-len.result c.loop-i.reaches c.follow_far-len.new.reaches c.loop-i.is_over c.is_out-is_over.result parts c.loop-i.invariant.gone c.loop-i-test.true laid counted c.at-parts.ensures.parts trail
    c.is_out-is_over.ensures in
    record {
      few = c.follow_far-len.ensures.few;
      gone = elim c.if-not-is_over.branch [
        | then-not-is_over+else-matches_end_of w ↦ go (λ s. not_from_Decides w.matches_end_of.result w.matches_end_of.ensures w.if-matches_end_of.false
            (subst (λ l. LineStands l (chars path)) (sym (w.index-lines-i.is ∙ read_at lines i w.index-lines-i.result c.loop-i-test.true)) s))
        | else-not-is_over w ↦ go (out_stands path xs (line_at lines i) parts c.follow_far-len.result c.follow_far-len.new.reaches last parts_are trail (c.is_out-is_over.ensures w.if-not-is_over.false))
      ];
    }
